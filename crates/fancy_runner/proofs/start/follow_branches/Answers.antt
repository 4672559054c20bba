use Rattle.std.proofs.Common.{rules, ◌≡◌, ℕ, ◌<◌, ◌≤◌, ◌∙◌, inl, inr, sym, ap, subst, arith, length}
use Rattle.std.specs.Prelude.{Some, slice_index}
use Rattle.std.proofs.lemmas.Bool.{cases_lt}
use Rattle.std.proofs.lemmas.Grind.{get_or_default_zero}
use Rattle.std.proofs.lemmas.Option.{slice_get-get_or}
use Rattle.fancy_code.specs.Attempt.{instrs_in}
use Rattle.fancy_runner.specs.Attempt.{first_accepted_in, begins_with, KnownIn}
use Rattle.fancy_code.specs.Code.{due_of}
use Rattle.fancy_code.specs.Texts.{IsTextOf}
use Rattle.fancy_runner.proofs.BranchLemmas.{head_none, head_known, all_none, one_some, dues_left, between, beyond}
use Rattle.fancy_runner.proofs.RunLemmas.{ready_on, worked_none, worked_on, ran_ok, ran_err}
use Rattle.fancy_runner.proofs.start.follow_branches.Goals as goal

pub loop-i-init : goal.loop-i-init
loop-i-init c = record {
  gone = λ bytes is kept deep known failed j lt _. absurd (omega (arith, lt));
  failed = λ is kept deep known failed. failed;
  seen = λ k low high. absurd (omega (arith, low, high));
  ahead = λ k low high. omega arith;
  spent = omega (arith, c.requires.branches.paid);
  worked = worked_none c.requires.ready.ready.last_lines;
}

pub returns-in_err-end-clause-attempted : goal.returns-in_err-end-clause-attempted
returns-in_err-end-clause-attempted c =
    let members = c.args.branches.now.table.members.items in
    let heads = c.args.branches.now.heads.items in
    let fits : c.loop-i.i < length members = omega (arith, c.loop-i-test.true, c.numbers_at-numbers.ensures.inside) in
    let lt : c.number-number.result < length heads = omega (arith, c.requires.branches.below c.loop-i.i fits, c.number-number.ensures) in
    let head : c.index-head.result.now ≡ slice_index heads c.number-number.result = c.index-head.ensures ∙ get_or_default_zero heads c.number-number.result c.index-head.result.now lt in
    let past : c.loop-i.passed ≤ c.number-number.result = omega (arith, c.number-number.ensures, c.loop-i.invariant.ahead c.loop-i.i (omega arith) c.loop-i-test.true) in
    let dues = dues_left c.args.attempt.now.code.now.marking.numbers.items c.args.attempt.now.code.now.marking.weights.items heads c.loop-i.passed c.number-number.result past lt in
    let due = ap (due_of c.args.attempt.now.code.now) head in
    record { ran = ran_err c.loop-i.invariant.worked c.follow_text.ensures.attempted.ran (search rules) (omega (arith, due, dues, c.follow_text.ensures.attempted.ran.paid, c.loop-i.invariant.spent)); ends = search rules }

pub returns-in-Some-clause-answer : goal.returns-in-Some-clause-answer
returns-in-Some-clause-answer c bytes is kept deep known failed =
    let members = c.args.branches.now.table.members.items in
    let heads = c.args.branches.now.heads.items in
    let fits : c.loop-i.i < length members = omega (arith, c.loop-i-test.true, c.numbers_at-numbers.ensures.inside) in
    let lt : c.number-number.result < length heads = omega (arith, c.requires.branches.below c.loop-i.i fits, c.number-number.ensures) in
    let head : c.index-head.result.now ≡ slice_index heads c.number-number.result = c.index-head.ensures ∙ get_or_default_zero heads c.number-number.result c.index-head.result.now lt in
    let past : c.loop-i.passed ≤ c.number-number.result = omega (arith, c.number-number.ensures, c.loop-i.invariant.ahead c.loop-i.i (omega arith) c.loop-i-test.true) in
    let found = rw c.in-Some.is at (c.in_ok-end.ensures.answer
    (subst (λ (q : ℕ). IsTextOf c.index-text.result.now (instrs_in c.args.attempt.now) c.args.attempt.now.code.now.meaning q) (sym head)
    (is.texts.each c.number-number.result c.index-text.result.now
    (slice_get-get_or c.args.branches.now.texts.items c.number-number.result c.index-text.result.now (omega (arith, lt, c.requires.branches.texts)) ∙ ap Some (sym c.index-text.ensures))))
    kept deep (subst (λ (q : ℕ). KnownIn c.args.attempt.now kept deep (begins_with c.args.attempt.now c.args.branches.now.lead.group q c.args.place)) (sym head) (head_known c.args.attempt.now c.args.branches.now c.args.place kept deep is known c.number-number.result lt)) (c.loop-i.invariant.failed is kept deep known failed)) in
    one_some c.args.attempt.now c.args.branches.now c.args.place kept deep is known c.number-number.result lt
    (λ j less. elim (cases_lt j c.loop-i.passed) [
      | inl before ↦ c.loop-i.invariant.gone bytes is kept deep known failed j before (omega (arith, less, lt))
      | inr after ↦ head_none c.args.attempt.now c.args.branches.now c.args.place kept deep is bytes j (omega (arith, less, lt))
          (λ may. between members c.numbers_at-numbers.result.from c.numbers_at-numbers.result.to c.loop-i.passed c.loop-i.i c.number-number.result c.numbers_at-numbers.ensures.rise c.numbers_at-numbers.ensures.inside c.loop-i.auto.i c.loop-i-test.true (sym c.number-number.ensures) c.loop-i.invariant.seen j after less (c.numbers_at-numbers.ensures.all j may))
    ])
    _ (found ∙ ap (λ (q : ℕ). first_accepted_in c.args.attempt.now kept deep (begins_with c.args.attempt.now c.args.branches.now.lead.group q c.args.place)) head)

pub returns-in-Some-clause-left : goal.returns-in-Some-clause-left
returns-in-Some-clause-left c is kept deep known failed =
    let members = c.args.branches.now.table.members.items in
    let heads = c.args.branches.now.heads.items in
    let fits : c.loop-i.i < length members = omega (arith, c.loop-i-test.true, c.numbers_at-numbers.ensures.inside) in
    let lt : c.number-number.result < length heads = omega (arith, c.requires.branches.below c.loop-i.i fits, c.number-number.ensures) in
    let head : c.index-head.result.now ≡ slice_index heads c.number-number.result = c.index-head.ensures ∙ get_or_default_zero heads c.number-number.result c.index-head.result.now lt in
    let past : c.loop-i.passed ≤ c.number-number.result = omega (arith, c.number-number.ensures, c.loop-i.invariant.ahead c.loop-i.i (omega arith) c.loop-i-test.true) in
    (rw c.in-Some.is at c.in_ok-end.ensures.left) kept deep (subst (λ (q : ℕ). KnownIn c.args.attempt.now kept deep (begins_with c.args.attempt.now c.args.branches.now.lead.group q c.args.place)) (sym head) (head_known c.args.attempt.now c.args.branches.now c.args.place kept deep is known c.number-number.result lt)) (c.loop-i.invariant.failed is kept deep known failed)

pub returns-in-Some-clause-attempted : goal.returns-in-Some-clause-attempted
returns-in-Some-clause-attempted c =
    let members = c.args.branches.now.table.members.items in
    let heads = c.args.branches.now.heads.items in
    let fits : c.loop-i.i < length members = omega (arith, c.loop-i-test.true, c.numbers_at-numbers.ensures.inside) in
    let lt : c.number-number.result < length heads = omega (arith, c.requires.branches.below c.loop-i.i fits, c.number-number.ensures) in
    let head : c.index-head.result.now ≡ slice_index heads c.number-number.result = c.index-head.ensures ∙ get_or_default_zero heads c.number-number.result c.index-head.result.now lt in
    let past : c.loop-i.passed ≤ c.number-number.result = omega (arith, c.number-number.ensures, c.loop-i.invariant.ahead c.loop-i.i (omega arith) c.loop-i-test.true) in
    let dues = dues_left c.args.attempt.now.code.now.marking.numbers.items c.args.attempt.now.code.now.marking.weights.items heads c.loop-i.passed c.number-number.result past lt in
    let due = ap (due_of c.args.attempt.now.code.now) head in
    record { ran = ran_ok (worked_on c.loop-i.invariant.worked c.follow_text.ensures.attempted.ran.worked) (omega (arith, due, dues, c.follow_text.ensures.attempted.ran.paid, c.loop-i.invariant.spent)); ends = rw c.in-Some.is at c.in_ok-end.ensures.attempted.ends }

pub loop-i-preserved : goal.loop-i-preserved
loop-i-preserved c =
    let members = c.args.branches.now.table.members.items in
    let heads = c.args.branches.now.heads.items in
    let fits : c.loop-i.i < length members = omega (arith, c.loop-i-test.true, c.numbers_at-numbers.ensures.inside) in
    let lt : c.number-number.result < length heads = omega (arith, c.requires.branches.below c.loop-i.i fits, c.number-number.ensures) in
    let head : c.index-head.result.now ≡ slice_index heads c.number-number.result = c.index-head.ensures ∙ get_or_default_zero heads c.number-number.result c.index-head.result.now lt in
    let past : c.loop-i.passed ≤ c.number-number.result = omega (arith, c.number-number.ensures, c.loop-i.invariant.ahead c.loop-i.i (omega arith) c.loop-i-test.true) in
    let dues = dues_left c.args.attempt.now.code.now.marking.numbers.items c.args.attempt.now.code.now.marking.weights.items heads c.loop-i.passed c.number-number.result past lt in
    let due = ap (due_of c.args.attempt.now.code.now) head in
    record {
      gone = λ bytes is kept deep known failed j less inside.
          elim (cases_lt j c.number-number.result) [
            | inl before ↦ elim (cases_lt j c.loop-i.passed) [
              | inl earlier ↦ c.loop-i.invariant.gone bytes is kept deep known failed j earlier inside
              | inr later ↦ head_none c.args.attempt.now c.args.branches.now c.args.place kept deep is bytes j inside
                  (λ may. between members c.numbers_at-numbers.result.from c.numbers_at-numbers.result.to c.loop-i.passed c.loop-i.i c.number-number.result c.numbers_at-numbers.ensures.rise c.numbers_at-numbers.ensures.inside c.loop-i.auto.i c.loop-i-test.true (sym c.number-number.ensures) c.loop-i.invariant.seen j later before (c.numbers_at-numbers.ensures.all j may))
            ]
            | inr after ↦
                let same : j ≡ c.number-number.result = omega (arith, less, after) in
                let found = rw c.in-None.is at (c.in_ok-end.ensures.answer
                (subst (λ (q : ℕ). IsTextOf c.index-text.result.now (instrs_in c.args.attempt.now) c.args.attempt.now.code.now.meaning q) (sym head)
                (is.texts.each c.number-number.result c.index-text.result.now
                (slice_get-get_or c.args.branches.now.texts.items c.number-number.result c.index-text.result.now (omega (arith, lt, c.requires.branches.texts)) ∙ ap Some (sym c.index-text.ensures))))
                kept deep (subst (λ (q : ℕ). KnownIn c.args.attempt.now kept deep (begins_with c.args.attempt.now c.args.branches.now.lead.group q c.args.place)) (sym head) (head_known c.args.attempt.now c.args.branches.now c.args.place kept deep is known c.number-number.result lt)) (c.loop-i.invariant.failed is kept deep known failed)) in
                ap (λ (i : ℕ). first_accepted_in c.args.attempt.now kept deep (begins_with c.args.attempt.now c.args.branches.now.lead.group (slice_index heads i) c.args.place)) same
                ∙ sym (found ∙ ap (λ (q : ℕ). first_accepted_in c.args.attempt.now kept deep (begins_with c.args.attempt.now c.args.branches.now.lead.group q c.args.place)) head)
          ];
      failed = λ is kept deep known failed. (rw c.in-None.is at c.in_ok-end.ensures.left) kept deep (subst (λ (q : ℕ). KnownIn c.args.attempt.now kept deep (begins_with c.args.attempt.now c.args.branches.now.lead.group q c.args.place)) (sym head) (head_known c.args.attempt.now c.args.branches.now c.args.place kept deep is known c.number-number.result lt)) (c.loop-i.invariant.failed is kept deep known failed);
      seen = λ k low high. elim (cases_lt k c.loop-i.i) [
        | inl before ↦ omega (arith, past, c.loop-i.invariant.seen k low before)
        | inr after ↦
            let same : k ≡ c.loop-i.i = omega (arith, high, after) in
            omega (arith, ap (slice_index members) same, c.number-number.ensures)
      ];
      ahead = λ k low high. omega (arith, c.number-number.ensures, c.numbers_at-numbers.ensures.rise c.loop-i.i k c.loop-i.auto.i (omega (arith, low)) high (omega (arith, high, c.numbers_at-numbers.ensures.inside)));
      spent = omega (arith, due, dues, c.follow_text.ensures.attempted.ran.paid, c.loop-i.invariant.spent);
      worked = worked_on c.loop-i.invariant.worked c.follow_text.ensures.attempted.ran.worked;
    }

pub returns-clause-answer : goal.returns-clause-answer
returns-clause-answer c bytes is kept deep known failed =
    all_none c.args.attempt.now c.args.branches.now c.args.place kept deep is known
    (λ j lt. elim (cases_lt j c.loop-i.passed) [
      | inl before ↦ c.loop-i.invariant.gone bytes is kept deep known failed j before lt
      | inr after ↦ head_none c.args.attempt.now c.args.branches.now c.args.place kept deep is bytes j lt
          (λ may. beyond c.args.branches.now.table.members.items c.numbers_at-numbers.result.from c.numbers_at-numbers.result.to c.loop-i.passed c.loop-i.i (omega (arith, c.loop-i-test.false)) c.loop-i.invariant.seen j after (c.numbers_at-numbers.ensures.all j may))
    ])

pub returns-clause-left : goal.returns-clause-left
returns-clause-left c is kept deep known failed = c.loop-i.invariant.failed is kept deep known failed

pub follow_text-requires : goal.follow_text-requires
follow_text-requires c = record { ready = record { ready = ready_on c.requires.ready.ready c.loop-i.invariant.worked; low = c.requires.ready.low; high = c.requires.ready.high } }

pub returns-clause-attempted : goal.returns-clause-attempted
returns-clause-attempted c = record { ran = ran_ok c.loop-i.invariant.worked (omega arith); ends = tt }
