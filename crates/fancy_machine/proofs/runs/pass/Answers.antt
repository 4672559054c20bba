use Rattle.std.proofs.Common.{◌≡◌, Option, Some, None, true≢false, true, false, Bool, not, sym, ◌∙◌, ◌-◌, ◌+◌, ◌≤◌, ℕ, Err, ap, arith, refl, subst}
use Rattle.std.specs.Prelude.{if◌then◌else◌, is_some}
use Rattle.fancy_input.specs.declared.refusal.SearchRefusal.TheVariants.{Choices}
use Rattle.fancy_trail.specs.Frames.{saved}
use Rattle.fancy_machine.specs.Runs.{HasItems}
use Rattle.fancy_machine.proofs.WentLemmas.{takes_none, went_refused}
use Rattle.fancy_machine.proofs.WorkLemmas.{returns_same}
use Rattle.fancy_trail.proofs.ItemLemmas.{alone_items}
use Rattle.fancy_machine.proofs.LoopLemmas.{reads_on, many_choices, choices_stuck, goes_back, returns_back, is_dead, returns_dead}
use Rattle.fancy_machine.proofs.runs.pass.Goals as goal

stuck : (b : Bool) → not b ≡ false → b ≡ true
stuck true e = refl
stuck false e = absurd (true≢false e)

going : (b : Bool) → not b ≡ true → b ≡ false
going true e = absurd (true≢false (sym e))
going false e = refl

-- no more branches are saved than there are places
few_saved : (b : Bool) (n places : ℕ) → n ≡ (if b then 0 else places) → n ≤ places
few_saved true n places is = omega (arith, is)
few_saved false n places is = omega (arith, is)

no_group : (o : Option ℕ) (b : Bool) → is_some o ≡ not b → b ≡ true → o ≡ None
no_group None b is none = refl
no_group (Some g) b is none = absurd (true≢false (is ∙ ap not none))

pub overflow_add-read-2 : goal.overflow_add-read-2
overflow_add-read-2 c = omega (arith, c.in_ok-read.ensures.run.short)

pub overflow_add-read-then-left-eq0 : goal.overflow_add-read-then-left-eq0
overflow_add-read-then-left-eq0 c = omega (arith, c.in_ok-read.ensures.run.short)

pub overflow_add-read-3 : goal.overflow_add-read-3
overflow_add-read-3 c = omega (arith, c.in_ok-read.ensures.run.short)

pub places_left-left-requires-clause-items : goal.places_left-left-requires-clause-items
places_left-left-requires-clause-items c = subst (λ (p : ℕ). HasItems c.args.split.now c.args.attempt.now.haystack.now p c.in_ok-read.read.count) (sym c.place-from.ensures) c.in_ok-read.ensures.run.items

pub places_left-left-requires-clause-apart : goal.places_left-left-requires-clause-apart
places_left-left-requires-clause-apart c = (c.args.attempt.now.told _ _ _ c.requires.noted.1 c.requires.noted.2).apart

pub returns-in_err-read-clause-went : goal.returns-in_err-read-clause-went
returns-in_err-read-clause-went c best = went_refused c.from_residual.result _ c.from_residual.ensures.1 (takes_none c.args.attempt.now c.args.trail.now best _ _ (returns_same c.args.work.now c.count_step_within.new.self c.read_ahead.new.work c.count_step_within.ensures c.read_ahead.ensures.units.adds)) (λ is. let why = c.in_err-read.ensures.units.refused in absurd (cc)) (λ is. let why = c.in_err-read.ensures.units.refused in absurd (cc)) refl

pub returns-in_err-save_run-clause-went : goal.returns-in_err-save_run-clause-went
returns-in_err-save_run-clause-went c best = went_refused c.from_residual-in_err-save_run.result _ c.from_residual-in_err-save_run.ensures.1 (takes_none c.args.attempt.now c.args.trail.now best _ _ (returns_same c.args.work.now c.count_step_within.new.self c.read_ahead.new.work c.count_step_within.ensures c.read_ahead.ensures.units.adds)) (λ is. absurd (c.in_err-save_run.ensures.refused (ap Err is)))
    (λ is deep goal total choices r s.
    let few = many_choices c.args.attempt.now c.args.split.now c.args.trail.now c.in_ok-read.read (c.args.attempt.now.told _ _ _ c.requires.noted.1 c.requires.noted.2) c.in_ok-read.ensures.run best deep goal total choices r s (c.in_ok-read.ensures.run.goes (going _ c.if-not-read.true)) in
    let full = c.in_err-save_run.ensures.full (ap Err is) in
    omega (arith, few, full)) c.save_run.ensures.most

pub returns-then-not-read-clause-went : goal.returns-then-not-read-clause-went
returns-then-not-read-clause-went c best = record {
  advanced = λ deep goal total choices r s.
      reads_on c.args.attempt.now c.args.split.now c.args.trail.now c.in_ok-read.read (c.args.attempt.now.told _ _ _ c.requires.noted.1 c.requires.noted.2) c.in_ok-read.ensures.run best deep goal total choices r s (c.in_ok-read.ensures.run.goes (going _ c.if-not-read.true))
      c.go_to.new.self (rw (c.place-from.ensures, c.save_run.ensures.now) at c.go_to.ensures.now) (c.go_to.ensures.frames ∙ rw c.place-from.ensures at c.in_ok-save_run.ensures.laid) _
      (omega (arith, returns_same c.args.work.now c.count_step_within.new.self c.read_ahead.new.work c.count_step_within.ensures c.read_ahead.ensures.units.adds));
  bounded = takes_none c.args.attempt.now c.args.trail.now best _ _ (returns_same c.args.work.now c.count_step_within.new.self c.read_ahead.new.work c.count_step_within.ensures c.read_ahead.ensures.units.adds);
  refused = λ e. absurd (cc);
  crowded = λ e. absurd (cc);
  most = c.go_to.ensures.most ∙ c.save_run.ensures.most;
}

pub returns-then-not-has_room_for-clause-went : goal.returns-then-not-has_room_for-clause-went
returns-then-not-has_room_for-clause-went c best = went_refused (Err Choices) Choices refl (takes_none c.args.attempt.now c.args.trail.now best _ _ (returns_same c.args.work.now c.count_step_within.new.self c.read_ahead.new.work c.count_step_within.ensures c.read_ahead.ensures.units.adds)) (λ is. absurd (cc))
    (λ _ deep goal total choices r s.
    let few = choices_stuck c.args.attempt.now c.args.split.now c.args.trail.now c.in_ok-read.read (c.args.attempt.now.told _ _ _ c.requires.noted.1 c.requires.noted.2) c.in_ok-read.ensures.run best deep goal total choices r s (stuck _ c.if-not-read.false) in
    let full : saved c.args.trail.now.frames + (c.in_ok-read.read.count + 1) ≤ c.args.trail.now.most → ⊥ = λ le. absurd (true≢false (sym (c.has_room_for.ensures.1 le) ∙ c.if-not-has_room_for.true)) in
    omega (arith, few, full)) refl

pub returns-in_err-count_returns-clause-went : goal.returns-in_err-count_returns-clause-went
returns-in_err-count_returns-clause-went c best = went_refused c.from_residual-in_err-count_returns.result _ c.from_residual-in_err-count_returns.ensures.1
    (λ deep goal total choices s.
    let all = returns_dead c.args.attempt.now c.args.split.now c.args.trail.now c.in_ok-read.read (c.args.attempt.now.told _ _ _ c.requires.noted.1 c.requires.noted.2) c.in_ok-read.ensures.run best deep goal total choices _ s (stuck _ c.if-not-read.false) (λ e. omega (arith, c.places_left-left.ensures.closes e, c.if-left-eq0.true)) (λ i low high. rw c.place-from.ensures at (c.places_left-left.ensures.dies i (omega (arith, c.if-left-eq0.true)) high)) in
    omega (arith, all, c.count_returns.ensures.adds.most, returns_same c.args.work.now c.count_step_within.new.self c.read_ahead.new.work c.count_step_within.ensures c.read_ahead.ensures.units.adds))
    (λ is deep goal total choices s.
    let all = returns_dead c.args.attempt.now c.args.split.now c.args.trail.now c.in_ok-read.read (c.args.attempt.now.told _ _ _ c.requires.noted.1 c.requires.noted.2) c.in_ok-read.ensures.run best deep goal total choices _ s (stuck _ c.if-not-read.false) (λ e. omega (arith, c.places_left-left.ensures.closes e, c.if-left-eq0.true)) (λ i low high. rw c.place-from.ensures at (c.places_left-left.ensures.dies i (omega (arith, c.if-left-eq0.true)) high)) in
    let past = c.in_err-count_returns.ensures.refused (ap Err is) in
    omega (arith, all, past, returns_same c.args.work.now c.count_step_within.new.self c.read_ahead.new.work c.count_step_within.ensures c.read_ahead.ensures.units.adds))
    (λ is. absurd (c.in_err-count_returns.ensures.saved (ap Err is))) refl

pub returns-then-left-eq0-clause-went : goal.returns-then-left-eq0-clause-went
returns-then-left-eq0-clause-went c best = record {
  advanced = λ deep goal total choices r s.
      is_dead c.args.attempt.now c.args.split.now c.args.trail.now c.in_ok-read.read (c.args.attempt.now.told _ _ _ c.requires.noted.1 c.requires.noted.2) c.in_ok-read.ensures.run best deep goal total choices r s (stuck _ c.if-not-read.false) (λ e. omega (arith, c.places_left-left.ensures.closes e, c.if-left-eq0.true)) (λ i low high. rw c.place-from.ensures at (c.places_left-left.ensures.dies i (omega (arith, c.if-left-eq0.true)) high)) c.args.trail.now refl _ (omega (arith, c.in_ok-count_returns.ensures.counted, returns_same c.args.work.now c.count_step_within.new.self c.read_ahead.new.work c.count_step_within.ensures c.read_ahead.ensures.units.adds));
  bounded = λ deep goal total choices s.
      let all = returns_dead c.args.attempt.now c.args.split.now c.args.trail.now c.in_ok-read.read (c.args.attempt.now.told _ _ _ c.requires.noted.1 c.requires.noted.2) c.in_ok-read.ensures.run best deep goal total choices _ s (stuck _ c.if-not-read.false) (λ e. omega (arith, c.places_left-left.ensures.closes e, c.if-left-eq0.true)) (λ i low high. rw c.place-from.ensures at (c.places_left-left.ensures.dies i (omega (arith, c.if-left-eq0.true)) high)) in
      omega (arith, all, c.count_returns.ensures.adds.most, returns_same c.args.work.now c.count_step_within.new.self c.read_ahead.new.work c.count_step_within.ensures c.read_ahead.ensures.units.adds);
  refused = λ e. absurd (cc);
  crowded = λ e. absurd (cc);
  most = refl;
}

pub returns-in_err-count_returns-2-clause-went : goal.returns-in_err-count_returns-2-clause-went
returns-in_err-count_returns-2-clause-went c best = went_refused c.from_residual-in_err-count_returns-2.result _ c.from_residual-in_err-count_returns-2.ensures.1
    (λ deep goal total choices s.
    let all = returns_back c.args.attempt.now c.args.split.now c.args.trail.now c.in_ok-read.read (c.args.attempt.now.told _ _ _ c.requires.noted.1 c.requires.noted.2) c.in_ok-read.ensures.run best deep goal total choices _ s (stuck _ c.if-not-read.false) (c.places_left-left.result - 1) (omega (arith, c.places_left-left.ensures.few)) (λ e. omega (arith, c.places_left-left.ensures.closes e))
    (λ i low high. rw c.place-from.ensures at (c.places_left-left.ensures.dies i (omega (arith, low, c.if-left-eq0.false)) high)) in
    omega (arith, all, c.if-left-eq0.false, c.places_left-left.ensures.few, c.count_returns-2.ensures.adds.most, returns_same c.args.work.now c.count_step_within.new.self c.read_ahead.new.work c.count_step_within.ensures c.read_ahead.ensures.units.adds))
    (λ is deep goal total choices s.
    let all = returns_back c.args.attempt.now c.args.split.now c.args.trail.now c.in_ok-read.read (c.args.attempt.now.told _ _ _ c.requires.noted.1 c.requires.noted.2) c.in_ok-read.ensures.run best deep goal total choices _ s (stuck _ c.if-not-read.false) (c.places_left-left.result - 1) (omega (arith, c.places_left-left.ensures.few)) (λ e. omega (arith, c.places_left-left.ensures.closes e))
    (λ i low high. rw c.place-from.ensures at (c.places_left-left.ensures.dies i (omega (arith, low, c.if-left-eq0.false)) high)) in
    let past = c.in_err-count_returns-2.ensures.refused (ap Err is) in
    omega (arith, all, past, c.if-left-eq0.false, c.places_left-left.ensures.few, returns_same c.args.work.now c.count_step_within.new.self c.read_ahead.new.work c.count_step_within.ensures c.read_ahead.ensures.units.adds))
    (λ is. absurd (c.in_err-count_returns-2.ensures.saved (ap Err is))) refl

pub returns-in_err-save_run-2-clause-went : goal.returns-in_err-save_run-2-clause-went
returns-in_err-save_run-2-clause-went c best = went_refused c.from_residual-in_err-save_run-2.result _ c.from_residual-in_err-save_run-2.ensures.1
    (λ deep goal total choices s.
    let all = returns_back c.args.attempt.now c.args.split.now c.args.trail.now c.in_ok-read.read (c.args.attempt.now.told _ _ _ c.requires.noted.1 c.requires.noted.2) c.in_ok-read.ensures.run best deep goal total choices _ s (stuck _ c.if-not-read.false) (c.places_left-left.result - 1) (omega (arith, c.places_left-left.ensures.few)) (λ e. omega (arith, c.places_left-left.ensures.closes e))
    (λ i low high. rw c.place-from.ensures at (c.places_left-left.ensures.dies i (omega (arith, low, c.if-left-eq0.false)) high)) in
    omega (arith, all, c.if-left-eq0.false, c.places_left-left.ensures.few, c.count_returns-2.ensures.adds.most, returns_same c.args.work.now c.count_step_within.new.self c.read_ahead.new.work c.count_step_within.ensures c.read_ahead.ensures.units.adds))
    (λ is. absurd (c.in_err-save_run-2.ensures.refused (ap Err is)))
    (λ is.
    let full = c.in_err-save_run-2.ensures.full (ap Err is) in
    let room = c.if-not-has_room_for.ensures.0 refl in
    let few = few_saved c.in_ok-read.read.closes c.saved.result _ c.saved.ensures in
    absurd (omega (arith, full, room, few, c.places_left-left.ensures.few))) c.save_run-2.ensures.most

pub returns-in_err-read_items-clause-went : goal.returns-in_err-read_items-clause-went
returns-in_err-read_items-clause-went c best = went_refused c.from_residual-in_err-read_items.result _ c.from_residual-in_err-read_items.ensures.1
    (λ deep goal total choices s.
    let all = returns_back c.args.attempt.now c.args.split.now c.args.trail.now c.in_ok-read.read (c.args.attempt.now.told _ _ _ c.requires.noted.1 c.requires.noted.2) c.in_ok-read.ensures.run best deep goal total choices _ s (stuck _ c.if-not-read.false) (c.places_left-left.result - 1) (omega (arith, c.places_left-left.ensures.few)) (λ e. omega (arith, c.places_left-left.ensures.closes e))
    (λ i low high. rw c.place-from.ensures at (c.places_left-left.ensures.dies i (omega (arith, low, c.if-left-eq0.false)) high)) in
    omega (arith, all, c.if-left-eq0.false, c.places_left-left.ensures.few, c.count_returns-2.ensures.adds.most, returns_same c.args.work.now c.count_step_within.new.self c.read_ahead.new.work c.count_step_within.ensures c.read_ahead.ensures.units.adds))
    (λ is. absurd (cc)) (λ is. absurd (cc)) (c.read_items.ensures.most ∙ c.save_run-2.ensures.most)

pub returns-then-is_none-clause-went : goal.returns-then-is_none-clause-went
returns-then-is_none-clause-went c best = record {
  advanced = λ deep goal total choices r s.
      goes_back c.args.attempt.now c.args.split.now c.args.trail.now c.in_ok-read.read (c.args.attempt.now.told _ _ _ c.requires.noted.1 c.requires.noted.2) c.in_ok-read.ensures.run best deep goal total choices r s (stuck _ c.if-not-read.false) (c.places_left-left.result - 1) (omega (arith, c.places_left-left.ensures.few)) (λ e. omega (arith, c.places_left-left.ensures.closes e))
      (λ i low high. rw c.place-from.ensures at (c.places_left-left.ensures.dies i (omega (arith, low, c.if-left-eq0.false)) high))
      c.go_to-then-is_none.new.self
      (rw (c.save_run-2.ensures.now, c.place-from.ensures) at c.go_to-then-is_none.ensures.now ∙ sym (alone_items c.args.split.now.group (c.places_left-left.result - 1) c.args.split.now.second c.args.trail.now.now (λ _. no_group c.args.split.now.group c.is_none.result c.is_none.ensures c.if-is_none.true)))
      (c.go_to-then-is_none.ensures.frames ∙ rw (c.place-from.ensures, c.saved.ensures) at c.in_ok-save_run-2.ensures.laid) _
      (omega (arith, c.if-left-eq0.false, c.places_left-left.ensures.few, c.in_ok-count_returns-2.ensures.counted, returns_same c.args.work.now c.count_step_within.new.self c.read_ahead.new.work c.count_step_within.ensures c.read_ahead.ensures.units.adds));
  bounded = λ deep goal total choices s.
      let all = returns_back c.args.attempt.now c.args.split.now c.args.trail.now c.in_ok-read.read (c.args.attempt.now.told _ _ _ c.requires.noted.1 c.requires.noted.2) c.in_ok-read.ensures.run best deep goal total choices _ s (stuck _ c.if-not-read.false) (c.places_left-left.result - 1) (omega (arith, c.places_left-left.ensures.few)) (λ e. omega (arith, c.places_left-left.ensures.closes e))
      (λ i low high. rw c.place-from.ensures at (c.places_left-left.ensures.dies i (omega (arith, low, c.if-left-eq0.false)) high)) in
      omega (arith, all, c.if-left-eq0.false, c.places_left-left.ensures.few, c.count_returns-2.ensures.adds.most, returns_same c.args.work.now c.count_step_within.new.self c.read_ahead.new.work c.count_step_within.ensures c.read_ahead.ensures.units.adds);
  refused = λ e. absurd (cc);
  crowded = λ e. absurd (cc);
  most = c.go_to-then-is_none.ensures.most ∙ c.save_run-2.ensures.most;
}

pub returns-clause-went : goal.returns-clause-went
returns-clause-went c best = record {
  advanced = λ deep goal total choices r s.
      goes_back c.args.attempt.now c.args.split.now c.args.trail.now c.in_ok-read.read (c.args.attempt.now.told _ _ _ c.requires.noted.1 c.requires.noted.2) c.in_ok-read.ensures.run best deep goal total choices r s (stuck _ c.if-not-read.false) (c.places_left-left.result - 1) (omega (arith, c.places_left-left.ensures.few)) (λ e. omega (arith, c.places_left-left.ensures.closes e))
      (λ i low high. rw c.place-from.ensures at (c.places_left-left.ensures.dies i (omega (arith, low, c.if-left-eq0.false)) high))
      c.read_items.new.self (rw c.save_run-2.ensures.now at c.in_ok-read_items.ensures.now) (c.in_ok-read_items.ensures.frames ∙ rw (c.place-from.ensures, c.saved.ensures) at c.in_ok-save_run-2.ensures.laid) _
      (omega (arith, c.if-left-eq0.false, c.places_left-left.ensures.few, c.in_ok-count_returns-2.ensures.counted, returns_same c.args.work.now c.count_step_within.new.self c.read_ahead.new.work c.count_step_within.ensures c.read_ahead.ensures.units.adds));
  bounded = λ deep goal total choices s.
      let all = returns_back c.args.attempt.now c.args.split.now c.args.trail.now c.in_ok-read.read (c.args.attempt.now.told _ _ _ c.requires.noted.1 c.requires.noted.2) c.in_ok-read.ensures.run best deep goal total choices _ s (stuck _ c.if-not-read.false) (c.places_left-left.result - 1) (omega (arith, c.places_left-left.ensures.few)) (λ e. omega (arith, c.places_left-left.ensures.closes e))
      (λ i low high. rw c.place-from.ensures at (c.places_left-left.ensures.dies i (omega (arith, low, c.if-left-eq0.false)) high)) in
      omega (arith, all, c.if-left-eq0.false, c.places_left-left.ensures.few, c.count_returns-2.ensures.adds.most, returns_same c.args.work.now c.count_step_within.new.self c.read_ahead.new.work c.count_step_within.ensures c.read_ahead.ensures.units.adds);
  refused = λ e. absurd (cc);
  crowded = λ e. absurd (cc);
  most = c.read_items.ensures.most ∙ c.save_run-2.ensures.most;
}
