use Rattle.std.proofs.Common.{ℕ, ◌+◌, Option, sym, subst, arith, take}
use Rattle.std.proofs.lemmas.Option.{slice_get-get_or}
use Rattle.fancy_regex.specs.Candidates.{AreOfStarters}
use Rattle.fancy_regex.proofs.set.candidates.Candidates.at.Goals as goal

pub returns-clause-bytes : goal.returns-clause-bytes
returns-clause-bytes c k = omega (arith, c.type_inv.haystack k)

pub returns-then-position-searched-clause-bytes : goal.returns-then-position-searched-clause-bytes
returns-then-position-searched-clause-bytes c k = omega (arith, c.type_inv.haystack k)

pub returns-clause-held : goal.returns-clause-held
returns-clause-held c members all =
    c.ahead_of-2.ensures.held members (take c.args.range_end c.args.haystack.now) c.args.position c.byte_at.ensures c.byte_at-2.ensures c.byte_at-3.ensures c.byte_at-4.ensures all

pub returns-clause-only : goal.returns-clause-only
returns-clause-only c members tell apart =
    subst (λ (o : Option ℕ). AreOfStarters members o c.ahead_of-2.result) c.byte_at.ensures (c.ahead_of-2.ensures.only members tell apart)

pub returns-then-position-searched-clause-held : goal.returns-then-position-searched-clause-held
returns-then-position-searched-clause-held c members all =
    let searched = take c.args.range_end c.args.haystack.now in
    let p = c.args.position in
    c.ahead_of.ensures.held members searched p
    (sym (slice_get-get_or searched p 0 (omega arith))) (sym (slice_get-get_or searched (p + 1) 0 (omega arith)))
    (sym (slice_get-get_or searched (p + 2) 0 (omega arith))) (sym (slice_get-get_or searched (p + 3) 0 (omega arith))) all

pub returns-then-position-searched-clause-only : goal.returns-then-position-searched-clause-only
returns-then-position-searched-clause-only c members tell apart =
    let searched = take c.args.range_end c.args.haystack.now in
    subst (λ (o : Option ℕ). AreOfStarters members o c.ahead_of.result) (sym (slice_get-get_or searched c.args.position 0 (omega arith)))
    (c.ahead_of.ensures.only members tell apart)
