use Rattle.std.proofs.Common.{◌<◌, ◌≤◌, [], ℕ, None, Option, arith, length, refl, replicate, subst, sym}
use Rattle.fancy_code.specs.CodeLength.{code_len}
use Rattle.fancy_states.specs.Starts.{match_from}
use Rattle.fancy_states.proofs.CountLemmas.{counts_more, counts_none, counts_up}
use Rattle.fancy_automaton.specs.Sole.{IsAmid, IsAt}
use Rattle.fancy_automaton.proofs.GoingLemmas.{going_first, going_idle}
use Rattle.fancy_automaton.proofs.earliest.has_match.Goals as goal
use Rattle.fancy_automaton.proofs.earliest.has_match.Goals.{then-is_wide_at, else-is_wide_at}

pub new-requires-clause-going : goal.new-requires-clause-going
new-requires-clause-going c =
    let a = c.args.attempt.now in
    let next = c.requires.next in
    going_idle a [] [] None a.base c.args.place next.forth next.ends refl next.passed (going_first a [] [] None refl refl refl)

pub places-init : goal.places-init
places-init c =
    let s = c.new.result in
    let sole = c.new.ensures.sole in
    record {
      amid = (
        sole.0,
        replicate (length sole.0) s.start,
        subst (λ (end : Option ℕ). IsAt c.args.attempt.now c.origin.new.cells s.stand sole.0 (replicate (length sole.0) s.start) (match_from s.start end)) c.new.ensures.nothing sole.1,
      );
      passed = omega (arith, c.requires.next.forth, c.new.ensures.place);
      counts = counts_none _;
    }

pub pass-requires : goal.pass-requires
pass-requires c = record {
  amid = elim c.if-is_wide_at.branch [
    | then-is_wide_at w ↦ subst (IsAmid c.args.attempt.now c.places.cells) (sym w.to-is) w.glide_any-to.ensures.amid
    | else-is_wide_at w ↦ subst (IsAmid c.args.attempt.now c.places.cells) (sym w.to-is) w.glide_ascii-to.ensures.amid
  ];
}

pub returns-in_default-standing-clause-answer : goal.returns-in_default-standing-clause-answer
returns-in_default-standing-clause-answer c = c.standing.ensures.none c.in_default-standing.is

pub places-preserved : goal.places-preserved
places-preserved c =
    let a = c.args.attempt.now in
    let n = code_len a.code.now in
    let to = c.if-is_wide_at.to.place in
    let next = c.in-Some-standing.next.place in
    let glided : c.places.at.place ≤ to = elim c.if-is_wide_at.branch [
      | then-is_wide_at w ↦ rw w.to-is w.glide_any-to.ensures.forth
      | else-is_wide_at w ↦ rw w.to-is w.glide_ascii-to.ensures.forth
    ] in
    let passed : to < c.in-Some.waiting.place = rw c.in-Some.is at c.in_ok-waiting.ensures.forth in
    record {
      amid = c.in-Some-standing.ensures.amid;
      passed = omega (arith, c.places.invariant.passed, glided, passed, c.in-Some-standing.ensures.forth);
      counts = counts_more n a.base to next (omega (arith, c.places.invariant.passed, glided)) (omega (arith, passed, c.in-Some-standing.ensures.forth))
          (counts_up n a.base c.places.at.place to glided c.places.invariant.counts) c.pass.ensures.counts;
    }
