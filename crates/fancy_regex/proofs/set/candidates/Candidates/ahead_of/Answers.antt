use Rattle.std.proofs.Common.{ℕ, Option, sym, subst}
use Rattle.fancy_regex.specs.Candidates.{AreOfStarters, HoldAll}
use Rattle.fancy_regex.proofs.CandidateLemmas.{first_place}
use Rattle.fancy_regex.proofs.set.candidates.Candidates.ahead_of.Goals as goal

pub returns-clause-held : goal.returns-clause-held
returns-clause-held c members searched p one two three four all =
    let width = c.args.self.now.width in
    let first = subst (HoldAll width members c.args.first) (sym c.before-2.ensures.groups) (all.first c.args.first c.before-2.ensures.byte) in
    let begun = first_place width members searched p c.before-2.result (subst (λ (o : Option ℕ). HoldAll width members o c.before-2.result) one first) in
    c.narrowed-3.ensures.held width members searched p 3 four all.fourth
    (c.narrowed-2.ensures.held width members searched p 2 three all.third
    (c.narrowed.ensures.held width members searched p 1 two all.second begun))

pub returns-clause-only : goal.returns-clause-only
returns-clause-only c members tell apart g there =
    let first = subst (AreOfStarters members c.args.first) (sym c.before-2.ensures.groups) (tell.tells apart c.args.first c.before-2.ensures.byte) in
    first g (c.narrowed.ensures.only g (c.narrowed-2.ensures.only g (c.narrowed-3.ensures.only g there)))
