use Rattle.std.proofs.Common.{◌+◌, ◌∙◌, ap, arith, inl, option_map}
use Rattle.fancy_code.specs.CodeLength.{code_len}
use Rattle.fancy_prefilter.proofs.NextLemmas.{starts_somewhere}
use Rattle.fancy_automaton.specs.Decided.{attempt_goal}
use Rattle.fancy_states.specs.Search.{ends_in}
use Rattle.fancy_states.proofs.CellLemmas.{row_ways}
use Rattle.fancy_states.proofs.CountLemmas.{counts_more, counts_none, counts_up}
use Rattle.fancy_automaton.proofs.WalkLemmas.{attempt_decided, attempt_none, decided_end, rests_placed}
use Rattle.fancy_automaton.proofs.anchored.span_at.Goals as goal

pub places-init : goal.places-init
places-init c =
    let a = c.args.attempt.now in
    record {
      rests = record { row = c.lengthen-at.ensures.row; placed = inl c.lengthen-at.ensures.placed };
      kept = c.origin.ensures.kept;
      passed = c.lengthen-at.ensures.forth;
      within = omega (arith, c.lengthen-at.ensures.placed.within);
      counts = counts_none _;
      decided = c.lengthen-at.ensures.decided (attempt_goal a) (attempt_decided a _ c.requires.ordered (c.may_begin.ensures.good c.if-not-may_begin.false)
          (row_ways c.origin.new.cells.rows.lists.items c.in_ok-origin.origin.begun _ c.in_ok-origin.ensures.rows.opens));
    }

pub advance-requires-clause-some : goal.advance-requires-clause-some
advance-requires-clause-some c = c.is_idle.ensures.some c.if-is_idle.false

pub places-preserved : goal.places-preserved
places-preserved c = record {
  rests = c.in_ok-at.ensures.rests;
  kept = c.advance.ensures.kept;
  passed = omega (arith, c.places.invariant.passed, c.in_ok-at.ensures.forth);
  within = c.in_ok-at.ensures.ends;
  counts = counts_more (code_len c.args.attempt.now.code.now) c.args.attempt.now.base c.places.at.stand.place c.in_ok-at.at.stand.place c.places.invariant.passed c.in_ok-at.ensures.forth
      c.places.invariant.counts c.advance.ensures.counts;
  decided = c.in_ok-at.ensures.decided (attempt_goal c.args.attempt.now) c.places.invariant.decided;
}

pub returns-then-not-may_begin-clause-answer : goal.returns-then-not-may_begin-clause-answer
returns-then-not-may_begin-clause-answer c deep begun =
    attempt_none c.args.attempt.now deep c.requires.ordered (c.may_begin.ensures.passed c.if-not-may_begin.true) begun

pub returns-then-not-may_begin-clause-kept : goal.returns-then-not-may_begin-clause-kept
returns-then-not-may_begin-clause-kept c = record {
  bounded = record { rows = c.requires.kept.bounded.rows; cells = c.requires.kept.bounded.cells; told = c.requires.kept.bounded.told };
  all = c.requires.kept.all;
}

pub returns-then-is_idle-clause-answer : goal.returns-then-is_idle-clause-answer
returns-then-is_idle-clause-answer c deep begun =
    ap (option_map ends_in) c.span_from.ensures
    ∙ decided_end c.args.attempt.now (attempt_goal c.args.attempt.now) c.places.at.start _ c.places.at.end c.places.at.stand.place deep
    (c.is_idle.ensures.none c.if-is_idle.true) begun c.places.invariant.decided

pub returns-then-is_idle-clause-kept : goal.returns-then-is_idle-clause-kept
returns-then-is_idle-clause-kept c = record {
  bounded = record { rows = c.places.invariant.kept.bounded.rows; cells = c.places.invariant.kept.bounded.cells; told = c.places.invariant.kept.bounded.told };
  all = c.places.invariant.kept.all;
}

pub returns-then-is_idle-clause-counts : goal.returns-then-is_idle-clause-counts
returns-then-is_idle-clause-counts c =
    counts_up (code_len c.args.attempt.now.code.now) c.args.attempt.now.base c.places.at.stand.place (c.args.attempt.now.last + 1) c.places.invariant.within c.places.invariant.counts

pub returns-then-is_idle-clause-idle : goal.returns-then-is_idle-clause-idle
returns-then-is_idle-clause-idle c none =
    absurd (starts_somewhere c.args.attempt.now.code.now.prefilter.starts c.args.attempt.now.haystack.now c.args.attempt.now.last c.args.attempt.now.base
    (c.may_begin.ensures.stands c.if-not-may_begin.false) (none c.args.attempt.now.base (omega arith) (omega (arith, c.requires.ordered))))

pub returns-in_err-at-clause-idle : goal.returns-in_err-at-clause-idle
returns-in_err-at-clause-idle c none =
    absurd (starts_somewhere c.args.attempt.now.code.now.prefilter.starts c.args.attempt.now.haystack.now c.args.attempt.now.last c.args.attempt.now.base
    (c.may_begin.ensures.stands c.if-not-may_begin.false) (none c.args.attempt.now.base (omega arith) (omega (arith, c.requires.ordered))))

pub returns-in_err-at-clause-counts : goal.returns-in_err-at-clause-counts
returns-in_err-at-clause-counts c =
    counts_more (code_len c.args.attempt.now.code.now) c.args.attempt.now.base c.places.at.stand.place (c.args.attempt.now.last + 1) c.places.invariant.passed
    (omega (arith, (rests_placed c.args.attempt.now c.places.cells c.places.at c.places.invariant.rests (c.is_idle.ensures.some c.if-is_idle.false)).within))
    c.places.invariant.counts c.advance.ensures.counts
