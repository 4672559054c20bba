use Rattle.std.proofs.Common.{Some, ℕ, ◌+◌, ◌/◌, ◌<◌, ◌∙◌, arith, length}
use Rattle.std.proofs.lemmas.List.{length-set}
use Rattle.fancy_regex.proofs.SetCandidateLemmas.{set_below, tell_starters}
use Rattle.fancy_regex.specs.Candidates.{HoldAll, HoldOnly}
use Rattle.fancy_regex.specs.declared.set.candidates.Groups.{Groups}
use Rattle.fancy_regex.proofs.set.candidates.Candidates.new.Goals as goal

pub returns-clause-told : goal.returns-clause-told
returns-clause-told c =
    tell_starters c.args.members.now _ c.of_starters-at_end.ensures.only (λ b small. c.loop-byte.invariant.only b (omega (arith, small)))

pub loop-byte-preserved : goal.loop-byte-preserved
loop-byte-preserved c =
    let width = c.saturating_sub.result / 128 + 1 in
    let small : c.loop-byte.byte < length c.loop-byte.by_byte = omega (arith, c.loop-byte.invariant.size, c.loop-byte-test.true) in
    record {
      size = length-set c.loop-byte.by_byte c.loop-byte.byte c.of_starters.result ∙ c.loop-byte.invariant.size;
      below = set_below (λ (b : ℕ) (g : Groups). HoldAll width c.args.members.now (Some b) g) c.loop-byte.by_byte c.loop-byte.byte c.of_starters.result c.of_starters-at_end.result small c.loop-byte.invariant.below c.of_starters.ensures.all;
      only = set_below (λ (b : ℕ) (g : Groups). HoldOnly width c.args.members.now (Some b) g) c.loop-byte.by_byte c.loop-byte.byte c.of_starters.result c.of_starters-at_end.result small c.loop-byte.invariant.only c.of_starters.ensures.only;
    }
