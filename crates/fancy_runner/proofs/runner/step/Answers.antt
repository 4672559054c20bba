use Rattle.std.proofs.Common.{◌≡◌, ℕ, ◌==◌, List, Option, map, get_or, sym, refl, ap, ◌∙◌, inl, inr}
use Rattle.std.proofs.lemmas.List.{map-set}
use Rattle.fancy_input.specs.declared.span.Span.{Span}
use Rattle.fancy_tree.specs.Sets.{has}
use Rattle.fancy_code.specs.declared.slot.Slot.{Slot}
use Rattle.fancy_code.specs.Instructions.{Character, Member, RawByte, Split, Open, Close}
use Rattle.fancy_code.specs.Attempt.{context_in, instrs_in}
use Rattle.fancy_runner.specs.Attempt.{held_in, current_in, saved_in}
use Rattle.fancy_code.specs.Code.{instr_in, set_edges}
use Rattle.fancy_meaning.specs.Context.{State, past_item, past_byte}
use Rattle.fancy_code.specs.Run.{Note, fetched, before, onward, run, instr_at}
use Rattle.fancy_code.specs.Thread.{Thread, state_of, starts_of, empty_slot, slot_from}
use Rattle.fancy_runner.specs.Threads.{thread_of}
use Rattle.fancy_runner.proofs.ChoiceLemmas.{first_alone, second_alone}
use Rattle.fancy_runner.proofs.RunnerSteps.{acts, moved, tested, opened, closed, parted}
use Rattle.fancy_runner.proofs.ThreadsLemmas.{open_spans, close_spans, close_starts}
use Rattle.fancy_runner.proofs.runner.step.Goals as goal

pub returns-in-Character-clause-stepped : goal.returns-in-Character-clause-stepped
returns-in-Character-clause-stepped c kept deep known =
    let read : c.past_character-past.result ≡ past_item (context_in c.args.attempt.now) (λ d. d == c.in-Character.character) c.args.pair.now.place = c.past_character-past.ensures.past c.args.attempt.now.suppressed c.args.attempt.now.base in
    moved (context_in c.args.attempt.now) c.args.attempt.now.last (instrs_in c.args.attempt.now) deep kept (current_in c.args.attempt.now c.args.pair.now c.args.threads.now) known c.advance.result c.past_character-past.result c.in-Character.next (current_in c.args.attempt.now c.advance.new.pair c.args.threads.now) (saved_in c.args.attempt.now c.args.threads.now) (saved_in c.args.attempt.now c.args.threads.now)
    (acts (context_in c.args.attempt.now) c.args.attempt.now.last (instrs_in c.args.attempt.now) deep kept (current_in c.args.attempt.now c.args.pair.now c.args.threads.now) known (Character c.in-Character.character c.in-Character.next) (sym c.fetch.ensures.instr ∙ ap (instr_in c.args.attempt.now.code.now) c.in-Character.is)
    ∙ ap (λ (o : Option ℕ). before (Note fetched) (onward c.args.attempt.now.last (run (context_in c.args.attempt.now) c.args.attempt.now.last (instrs_in c.args.attempt.now) deep) c.in-Character.next (state_of kept (current_in c.args.attempt.now c.args.pair.now c.args.threads.now)) (starts_of (current_in c.args.attempt.now c.args.pair.now c.args.threads.now)) o)) (sym read))
    (c.advance.ensures.moved (held_in c.args.attempt.now c.args.threads.now).slots) refl

pub returns-in-Member-clause-stepped : goal.returns-in-Member-clause-stepped
returns-in-Member-clause-stepped c kept deep known =
    let read : c.past_member-past.result ≡ past_item (context_in c.args.attempt.now) (has (set_edges c.args.attempt.now.code.now c.in-Member.set)) c.args.pair.now.place = c.past_member-past.ensures.past c.args.attempt.now.suppressed c.args.attempt.now.base ∙ ap (λ (es : List ℕ). past_item (context_in c.args.attempt.now) (has es) c.args.pair.now.place) c.set.ensures in
    moved (context_in c.args.attempt.now) c.args.attempt.now.last (instrs_in c.args.attempt.now) deep kept (current_in c.args.attempt.now c.args.pair.now c.args.threads.now) known c.advance-in-Member.result c.past_member-past.result c.in-Member.next (current_in c.args.attempt.now c.advance-in-Member.new.pair c.args.threads.now) (saved_in c.args.attempt.now c.args.threads.now) (saved_in c.args.attempt.now c.args.threads.now)
    (acts (context_in c.args.attempt.now) c.args.attempt.now.last (instrs_in c.args.attempt.now) deep kept (current_in c.args.attempt.now c.args.pair.now c.args.threads.now) known (Member (set_edges c.args.attempt.now.code.now c.in-Member.set) c.in-Member.next) (sym c.fetch.ensures.instr ∙ ap (instr_in c.args.attempt.now.code.now) c.in-Member.is)
    ∙ ap (λ (o : Option ℕ). before (Note fetched) (onward c.args.attempt.now.last (run (context_in c.args.attempt.now) c.args.attempt.now.last (instrs_in c.args.attempt.now) deep) c.in-Member.next (state_of kept (current_in c.args.attempt.now c.args.pair.now c.args.threads.now)) (starts_of (current_in c.args.attempt.now c.args.pair.now c.args.threads.now)) o)) (sym read))
    (c.advance-in-Member.ensures.moved (held_in c.args.attempt.now c.args.threads.now).slots) refl

pub returns-in-RawByte-clause-stepped : goal.returns-in-RawByte-clause-stepped
returns-in-RawByte-clause-stepped c kept deep known =
    let read : c.past_raw_byte-past.result ≡ past_byte (context_in c.args.attempt.now) c.in-RawByte.byte c.args.pair.now.place = c.past_raw_byte-past.ensures.past c.args.attempt.now.code.now.meaning c.args.attempt.now.suppressed c.args.attempt.now.base in
    moved (context_in c.args.attempt.now) c.args.attempt.now.last (instrs_in c.args.attempt.now) deep kept (current_in c.args.attempt.now c.args.pair.now c.args.threads.now) known c.advance-in-RawByte.result c.past_raw_byte-past.result c.in-RawByte.next (current_in c.args.attempt.now c.advance-in-RawByte.new.pair c.args.threads.now) (saved_in c.args.attempt.now c.args.threads.now) (saved_in c.args.attempt.now c.args.threads.now)
    (acts (context_in c.args.attempt.now) c.args.attempt.now.last (instrs_in c.args.attempt.now) deep kept (current_in c.args.attempt.now c.args.pair.now c.args.threads.now) known (RawByte c.in-RawByte.byte c.in-RawByte.next) (sym c.fetch.ensures.instr ∙ ap (instr_in c.args.attempt.now.code.now) c.in-RawByte.is)
    ∙ ap (λ (o : Option ℕ). before (Note fetched) (onward c.args.attempt.now.last (run (context_in c.args.attempt.now) c.args.attempt.now.last (instrs_in c.args.attempt.now) deep) c.in-RawByte.next (state_of kept (current_in c.args.attempt.now c.args.pair.now c.args.threads.now)) (starts_of (current_in c.args.attempt.now c.args.pair.now c.args.threads.now)) o)) (sym read))
    (c.advance-in-RawByte.ensures.moved (held_in c.args.attempt.now c.args.threads.now).slots) refl

pub returns-in-Assert-clause-stepped : goal.returns-in-Assert-clause-stepped
returns-in-Assert-clause-stepped c kept deep known =
    tested (context_in c.args.attempt.now) c.args.attempt.now.last (instrs_in c.args.attempt.now) deep kept (current_in c.args.attempt.now c.args.pair.now c.args.threads.now) known c.pass_test.result _ c.in-Assert.test c.in-Assert.next c.pass_test.new.pair (saved_in c.args.attempt.now c.args.threads.now)
    (sym c.fetch.ensures.instr ∙ ap (instr_in c.args.attempt.now.code.now) c.in-Assert.is) refl c.pass_test.ensures.tested

pub returns-in_ok-save-in-Both-clause-stepped : goal.returns-in_ok-save-in-Both-clause-stepped
returns-in_ok-save-in-Both-clause-stepped c kept deep known =
    let e : instr_at (instrs_in c.args.attempt.now) c.args.pair.now.at ≡ Split c.in-Split.first c.in-Split.second = sym c.fetch.ensures.instr ∙ ap (instr_in c.args.attempt.now.code.now) c.in-Split.is in
    let s = c.in_ok-save-in-Both.ensures (instrs_in c.args.attempt.now) c.in-Split.first e in
    let u : Thread = current_in c.args.attempt.now (record { at = c.in-Split.first; place = c.args.pair.now.place }) c.save.new.self in
    let b : Thread = current_in c.args.attempt.now (record { at = c.in-Split.second; place = c.args.pair.now.place }) c.args.threads.now in
    let f : List Slot → State = λ l. state_of kept (thread_of c.args.pair.now l) in
    inr (
      b,
      parted (context_in c.args.attempt.now) c.args.attempt.now.last (instrs_in c.args.attempt.now) deep kept (current_in c.args.attempt.now c.args.pair.now c.args.threads.now) known c.in-Split.first c.in-Split.second u b e refl (ap f s.0) (ap (map slot_from) s.0) refl refl refl refl,
      s.1,
    )

pub returns-in_ok-open_group-in-Open-clause-stepped : goal.returns-in_ok-open_group-in-Open-clause-stepped
returns-in_ok-open_group-in-Open-clause-stepped c kept deep known =
    let e : instr_at (instrs_in c.args.attempt.now) c.args.pair.now.at ≡ Open c.in-Open.group c.in-Open.next = sym c.fetch.ensures.instr ∙ ap (instr_in c.args.attempt.now.code.now) c.in-Open.is in
    let s = c.in_ok-open_group-in-Open.ensures c.in-Open.next (instrs_in c.args.attempt.now) e in
    let slots : List Slot = (held_in c.args.attempt.now c.args.threads.now).slots in
    let u : Thread = current_in c.args.attempt.now (record { at = c.in-Open.next; place = c.args.pair.now.place }) c.open_group.new.self in
    let f : List Slot → State = λ l. state_of kept (thread_of c.args.pair.now l) in
    let g : List (Option Span) → State = λ l. record { place = c.args.pair.now.place; captures = l; kept = kept } in
    inl (
      opened (context_in c.args.attempt.now) c.args.attempt.now.last (instrs_in c.args.attempt.now) deep kept (current_in c.args.attempt.now c.args.pair.now c.args.threads.now) known c.in-Open.group c.in-Open.next u e refl
          (ap f s.0 ∙ ap g (open_spans slots c.in-Open.group c.args.pair.now.place (get_or slots c.in-Open.group empty_slot) refl))
          (ap (map slot_from) s.0 ∙ map-set slot_from slots c.in-Open.group (record { from = c.args.pair.now.place; span = (get_or slots c.in-Open.group empty_slot).span })),
      s.1,
    )

pub returns-in_ok-close_group-in-Close-clause-stepped : goal.returns-in_ok-close_group-in-Close-clause-stepped
returns-in_ok-close_group-in-Close-clause-stepped c kept deep known =
    let e : instr_at (instrs_in c.args.attempt.now) c.args.pair.now.at ≡ Close c.in-Close.group c.in-Close.next = sym c.fetch.ensures.instr ∙ ap (instr_in c.args.attempt.now.code.now) c.in-Close.is in
    let s = c.in_ok-close_group-in-Close.ensures c.in-Close.next (instrs_in c.args.attempt.now) e in
    let slots : List Slot = (held_in c.args.attempt.now c.args.threads.now).slots in
    let u : Thread = current_in c.args.attempt.now (record { at = c.in-Close.next; place = c.args.pair.now.place }) c.close_group.new.self in
    let f : List Slot → State = λ l. state_of kept (thread_of c.args.pair.now l) in
    let g : List (Option Span) → State = λ l. record { place = c.args.pair.now.place; captures = l; kept = kept } in
    inl (
      closed (context_in c.args.attempt.now) c.args.attempt.now.last (instrs_in c.args.attempt.now) deep kept (current_in c.args.attempt.now c.args.pair.now c.args.threads.now) known c.in-Close.group c.in-Close.next u e refl
          (ap f s.0 ∙ ap g (close_spans slots c.in-Close.group c.args.pair.now.place (get_or slots c.in-Close.group empty_slot) refl))
          (ap (map slot_from) s.0 ∙ close_starts slots c.in-Close.group _ (get_or slots c.in-Close.group empty_slot) refl),
      s.1,
    )

pub returns-in-First-clause-stepped : goal.returns-in-First-clause-stepped
returns-in-First-clause-stepped c kept deep known =
    let e : instr_at (instrs_in c.args.attempt.now) c.args.pair.now.at ≡ Split c.in-Split.first c.in-Split.second = sym c.fetch.ensures.instr ∙ ap (instr_in c.args.attempt.now.code.now) c.in-Split.is in
    let left_out = rw c.in-First.is at (c.choice_at.ensures c.in-Split.first c.in-Split.second e) in
    let current = current_in c.args.attempt.now c.args.pair.now c.args.threads.now in
    inl (
      first_alone (context_in c.args.attempt.now) c.args.attempt.now.last (instrs_in c.args.attempt.now) deep kept current known c.in-Split.first c.in-Split.second e
          (left_out (context_in c.args.attempt.now) c.args.attempt.now.last deep (state_of kept current) (starts_of current) refl refl refl),
      refl,
    )

pub returns-in-Second-clause-stepped : goal.returns-in-Second-clause-stepped
returns-in-Second-clause-stepped c kept deep known =
    let e : instr_at (instrs_in c.args.attempt.now) c.args.pair.now.at ≡ Split c.in-Split.first c.in-Split.second = sym c.fetch.ensures.instr ∙ ap (instr_in c.args.attempt.now.code.now) c.in-Split.is in
    let left_out = rw c.in-Second.is at (c.choice_at.ensures c.in-Split.first c.in-Split.second e) in
    let current = current_in c.args.attempt.now c.args.pair.now c.args.threads.now in
    inl (
      second_alone (context_in c.args.attempt.now) c.args.attempt.now.last (instrs_in c.args.attempt.now) deep kept current known c.in-Split.first c.in-Split.second e
          (left_out (context_in c.args.attempt.now) c.args.attempt.now.last deep (state_of kept current) (starts_of current) refl refl refl),
      refl,
    )
