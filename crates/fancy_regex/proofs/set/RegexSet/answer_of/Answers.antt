use Rattle.std.proofs.Common.{refl, ap, ◌∙◌, arith}
use Rattle.std.proofs.lemmas.Option.{slice_get_read}
use Rattle.fancy_regex.specs.Sets.{asked_of_set}
use Rattle.fancy_regex.proofs.TrialLemmas.{noted_past, noted_with}
use Rattle.fancy_regex.proofs.SetCountLemmas.{easy_at, left_tried, part_left}
use Rattle.fancy_regex.proofs.SetLimitLemmas.{heeds_of_member, no_units_of_member, out_as}
use Rattle.fancy_regex.proofs.SetLemmas.{member_refuses, member_item}
use Rattle.fancy_regex.proofs.set.RegexSet.answer_of.Goals as goal

pub returns-in-Err-clause-some : goal.returns-in-Err-clause-some
returns-in-Err-clause-some g c =
    let is = slice_get_read c.args.self.now.members.items _ c.args.index c.index.result.now refl c.requires.member c.index.ensures in
    member_refuses (asked_of_set c.args.self.now g.S.Haystack.bytes c.args.input.now) c.args.position c.args.index c.index.result.now c.in-Err.error _ _
    is (c.requires.may c.index.result.now is)
    (ap g.S.Haystack.bytes c.again.ensures.haystack) c.again.ensures.request c.in-Err.ensures.refused

pub returns-in-Ok-Some-clause-some : goal.returns-in-Ok-Some-clause-some
returns-in-Ok-Some-clause-some g c =
    let within = rw c.in-Ok-Some.field-0-is at c.in-Ok-Some.ensures.within in (
      member_item (asked_of_set c.args.self.now g.S.Haystack.bytes c.args.input.now) c.args.position c.args.index c.index.result.now _ _ _ _
          (slice_get_read c.args.self.now.members.items _ c.args.index c.index.result.now refl c.requires.member c.index.ensures)
          (ap g.S.Haystack.bytes c.again.ensures.haystack) c.again.ensures.request
          (rw c.in-Ok-Some.field-0-is at c.in-Ok-Some.ensures.regex) (rw c.in-Ok-Some.field-0-is at c.in-Ok-Some.ensures.found) c.in-Ok-Some.ensures.allowed,
      within ∙ c.again.ensures.haystack,
    )

pub attempt-requires-clause-notes : goal.attempt-requires-clause-notes
attempt-requires-clause-notes g c =
    rw (c.again.ensures.haystack, c.again.ensures.request) (c.requires.noted c.args.index c.index.result.now (omega arith)
    (slice_get_read c.args.self.now.members.items _ c.args.index c.index.result.now refl c.requires.member c.index.ensures))

pub returns-in-Err-clause-left : goal.returns-in-Err-clause-left
returns-in-Err-clause-left g c = noted_past (asked_of_set c.args.self.now g.S.Haystack.bytes c.args.input.now) c.args.position c.args.index c.args.index c.args.trials.now c.attempt.new.self (omega arith) c.attempt.ensures.others c.requires.noted

pub returns-in-Ok-Some-clause-left : goal.returns-in-Ok-Some-clause-left
returns-in-Ok-Some-clause-left g c = noted_past (asked_of_set c.args.self.now g.S.Haystack.bytes c.args.input.now) c.args.position c.args.index c.args.index c.args.trials.now c.attempt.new.self (omega arith) c.attempt.ensures.others c.requires.noted

pub returns-in-Ok-None-clause-left : goal.returns-in-Ok-None-clause-left
returns-in-Ok-None-clause-left g c = noted_past (asked_of_set c.args.self.now g.S.Haystack.bytes c.args.input.now) c.args.position c.args.index c.args.index c.args.trials.now c.attempt.new.self (omega arith) c.attempt.ensures.others c.requires.noted

pub returns-in-Ok-None-clause-noted : goal.returns-in-Ok-None-clause-noted
returns-in-Ok-None-clause-noted g c from noted =
    noted_with (asked_of_set c.args.self.now g.S.Haystack.bytes c.args.input.now) c.args.position from c.args.index c.index.result.now c.args.trials.now c.attempt.new.self
    (slice_get_read c.args.self.now.members.items _ c.args.index c.index.result.now refl c.requires.member c.index.ensures)
    c.attempt.ensures.others (rw (c.in-Ok-None.field-0-is, c.again.ensures.haystack, c.again.ensures.request) at c.in-Ok-None.ensures.notes) noted

pub returns-in-Err-clause-bounded : goal.returns-in-Err-clause-bounded
returns-in-Err-clause-bounded g c easy =
    let is = slice_get_read c.args.self.now.members.items _ c.args.index c.index.result.now refl c.requires.member c.index.ensures in
    let q = asked_of_set c.args.self.now g.S.Haystack.bytes c.args.input.now in
    let taken = rw c.again.ensures.request at (c.attempt.ensures.bounded (easy_at q.members c.args.index c.index.result.now easy is)) in
    omega (arith, taken, part_left q c.args.index c.args.position c.index.result.now c.args.trials.now is)

pub returns-in-Ok-Some-clause-bounded : goal.returns-in-Ok-Some-clause-bounded
returns-in-Ok-Some-clause-bounded g c easy =
    let is = slice_get_read c.args.self.now.members.items _ c.args.index c.index.result.now refl c.requires.member c.index.ensures in
    let q = asked_of_set c.args.self.now g.S.Haystack.bytes c.args.input.now in
    let taken = rw c.again.ensures.request at (c.attempt.ensures.bounded (easy_at q.members c.args.index c.index.result.now easy is)) in
    omega (arith, taken, part_left q c.args.index c.args.position c.index.result.now c.args.trials.now is)

pub returns-in-Ok-None-clause-bounded : goal.returns-in-Ok-None-clause-bounded
returns-in-Ok-None-clause-bounded g c easy =
    let is = slice_get_read c.args.self.now.members.items _ c.args.index c.index.result.now refl c.requires.member c.index.ensures in
    let q = asked_of_set c.args.self.now g.S.Haystack.bytes c.args.input.now in
    let taken = rw c.again.ensures.request at (c.attempt.ensures.bounded (easy_at q.members c.args.index c.index.result.now easy is)) in
    omega (arith, taken, part_left q c.args.index c.args.position c.index.result.now c.args.trials.now is)

pub returns-in-Ok-None-clause-spent : goal.returns-in-Ok-None-clause-spent
returns-in-Ok-None-clause-spent g c easy =
    let is = slice_get_read c.args.self.now.members.items _ c.args.index c.index.result.now refl c.requires.member c.index.ensures in
    let q = asked_of_set c.args.self.now g.S.Haystack.bytes c.args.input.now in
    let spent = rw (c.in-Ok-None.field-0-is, c.again.ensures.request) at (c.in-Ok-None.ensures.spent (easy_at q.members c.args.index c.index.result.now easy is)) in
    left_tried q c.args.index c.args.position _ _ c.index.result.now c.args.trials.now c.attempt.new.self is c.attempt.ensures.others spent

pub returns-in-Err-clause-limit : goal.returns-in-Err-clause-limit
returns-in-Err-clause-limit g c =
    heeds_of_member c.args.self.now.members.items c.args.index c.index.result.now c.args.trials.now c.attempt.new.self
    (slice_get_read c.args.self.now.members.items _ c.args.index c.index.result.now refl c.requires.member c.index.ensures) c.attempt.ensures.limit

pub returns-in-Err-clause-units : goal.returns-in-Err-clause-units
returns-in-Err-clause-units g c =
    no_units_of_member c.args.self.now.members.items c.args.index c.index.result.now c.args.trials.now c.attempt.new.self
    (slice_get_read c.args.self.now.members.items _ c.args.index c.index.result.now refl c.requires.member c.index.ensures) c.attempt.ensures.units

pub returns-in-Ok-Some-clause-limit : goal.returns-in-Ok-Some-clause-limit
returns-in-Ok-Some-clause-limit g c =
    heeds_of_member c.args.self.now.members.items c.args.index c.index.result.now c.args.trials.now c.attempt.new.self
    (slice_get_read c.args.self.now.members.items _ c.args.index c.index.result.now refl c.requires.member c.index.ensures) c.attempt.ensures.limit

pub returns-in-Ok-Some-clause-units : goal.returns-in-Ok-Some-clause-units
returns-in-Ok-Some-clause-units g c =
    no_units_of_member c.args.self.now.members.items c.args.index c.index.result.now c.args.trials.now c.attempt.new.self
    (slice_get_read c.args.self.now.members.items _ c.args.index c.index.result.now refl c.requires.member c.index.ensures) c.attempt.ensures.units

pub returns-in-Ok-None-clause-limit : goal.returns-in-Ok-None-clause-limit
returns-in-Ok-None-clause-limit g c =
    heeds_of_member c.args.self.now.members.items c.args.index c.index.result.now c.args.trials.now c.attempt.new.self
    (slice_get_read c.args.self.now.members.items _ c.args.index c.index.result.now refl c.requires.member c.index.ensures) c.attempt.ensures.limit

pub returns-in-Ok-None-clause-units : goal.returns-in-Ok-None-clause-units
returns-in-Ok-None-clause-units g c =
    no_units_of_member c.args.self.now.members.items c.args.index c.index.result.now c.args.trials.now c.attempt.new.self
    (slice_get_read c.args.self.now.members.items _ c.args.index c.index.result.now refl c.requires.member c.index.ensures) c.attempt.ensures.units

pub returns-in-Err-clause-limited : goal.returns-in-Err-clause-limited
returns-in-Err-clause-limited g c out = record {
  index = c.args.index;
  member = c.index.result.now;
  is = slice_get_read c.args.self.now.members.items _ c.args.index c.index.result.now refl c.requires.member c.index.ensures;
  spent = c.in-Err.ensures.limited (out_as c.in-Err.error out);
}
