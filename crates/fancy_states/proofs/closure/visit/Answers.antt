use Rattle.std.proofs.lemmas.List.{reverse-append}
use Rattle.std.proofs.Common.{◌∷◌, [], List, ◌∙◌, refl, sym, ap, subst, option_map}
use Rattle.fancy_code.specs.Code.{instrs_of}
use Rattle.fancy_code.specs.Run.{instr_at}
use Rattle.fancy_meaning.specs.Reading.{unit_read}
use Rattle.fancy_alphabet.specs.Sights.{seen_in}
use Rattle.fancy_code.proofs.InstructionLemmas.{length-instrs_of}
use Rattle.fancy_code.proofs.RunMore.{past_end}
use Rattle.fancy_states.specs.declared.way.Way.{Way}
use Rattle.fancy_alphabet.specs.declared.effect.Effect.{Effect}
use Rattle.fancy_states.specs.Ways.{Closing, Obeys}
use Rattle.fancy_alphabet.specs.Effects.{effect_of}
use Rattle.fancy_states.proofs.ClosingLemmas.{never_reads, adds_none, close_dead, close_moves, close_reads, close_ended}
use Rattle.fancy_states.proofs.closure.visit.Goals as goal

pub returns-then-way-len-clause-visited : goal.returns-then-way-len-clause-visited
returns-then-way-len-clause-visited c here ends later known beyond rank goal solves closing =
    close_dead ends later known beyond rank goal _ _ _ _ c.args.way closing (adds_none ends later known beyond rank c.args.marks.now c.args.way.at)
    (subst (λ (k : Effect). Obeys ends later known beyond rank k here c.args.way.at) (ap (effect_of (seen_in c.args.sight)) (past_end (instrs_of c.args.code.now) c.args.way.at (rw (c.len.ensures ∙ sym (length-instrs_of c.args.code.now)) at c.if-way-len.true))) (solves c.args.way.at closing.all.0))

pub returns-in_ok-push-in-Reads-clause-visited : goal.returns-in_ok-push-in-Reads-clause-visited
returns-in_ok-push-in-Reads-clause-visited c here ends later known beyond rank goal solves closing =
    let m : Way = record { at = c.in-Reads.at; from = c.args.way.from } in
    let o = subst (λ (k : Effect). Obeys ends later known beyond rank k here c.args.way.at) (sym c.effect_at.ensures.effect ∙ c.in-Reads.is) (solves c.args.way.at closing.all.0) in
    rw c.in_ok-push-in-Reads.ensures.items
    (close_reads ends later known beyond rank goal _ _ _ _ c.args.way m closing c.is_first.ensures.adds refl o.0 o.1)

pub returns-in_ok-push-in-Moves-clause-visited : goal.returns-in_ok-push-in-Moves-clause-visited
returns-in_ok-push-in-Moves-clause-visited c here ends later known beyond rank goal solves closing =
    let m : Way = record { at = c.in-Moves.at; from = c.args.way.from } in
    let o = subst (λ (k : Effect). Obeys ends later known beyond rank k here c.args.way.at) (sym c.effect_at.ensures.effect ∙ c.in-Moves.is) (solves c.args.way.at closing.all.0) in
    rw c.in_ok-push-in-Moves.ensures.items
    (subst (λ (ls : List Way). Closing ends later known beyond rank goal c.is_first.new.marks c.args.reach.now.next.items ls) (sym (reverse-append c.args.reach.now.stack.items (m ∷ [])))
    (close_moves ends later known beyond rank goal _ _ _ _ c.args.way m closing c.is_first.ensures.adds refl o.0 o.1 o.2))

pub returns-in-Ends-clause-visited : goal.returns-in-Ends-clause-visited
returns-in-Ends-clause-visited c here ends later known beyond rank goal solves closing =
    close_ended ends later known beyond rank goal _ _ _ c.args.way here closing
    (subst (λ (k : Effect). Obeys ends later known beyond rank k here c.args.way.at) (sym c.effect_at.ensures.effect ∙ c.in-Ends.is) (solves c.args.way.at closing.all.0))

pub returns-in_ok-push-in-Reads-clause-halts : goal.returns-in_ok-push-in-Reads-clause-halts
returns-in_ok-push-in-Reads-clause-halts c e fresh =
    absurd (never_reads (seen_in c.args.sight) (instr_at (instrs_of c.args.code.now) c.args.way.at) c.in-Reads.at (ap (option_map unit_read) e) (sym c.effect_at.ensures.effect ∙ c.in-Reads.is))
