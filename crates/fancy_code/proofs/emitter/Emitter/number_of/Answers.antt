use Rattle.std.specs.Prelude.{is_ok}
use Rattle.std.proofs.Common.{refl, ◌∙◌}
use Rattle.fancy_code.proofs.InstructionLemmas.{known_with_set, same_with_more}
use Rattle.fancy_code.proofs.emitter.Emitter.number_of.Goals as goal

pub invariant_of-self-2 : goal.invariant_of-self-2
invariant_of-self-2 c =
    let own = c.number_compared.new.self in
    record { known = known_with_set (is_ok c.push.result) own.sets.items _ c.new.result own.instrs.items c.push.ensures.items own.known }

pub returns-clause-instrs : goal.returns-clause-instrs
returns-clause-instrs c =
    let own = c.number_compared.new.self in
    same_with_more own.sets.items _ c.new.result own.instrs.items c.in_ok-push.ensures.items own.known
    ∙ rw (c.number_compared.ensures.instrs, c.number_compared.ensures.sets) refl
