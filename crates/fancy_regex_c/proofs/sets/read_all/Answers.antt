use Rattle.std.proofs.Common.{◌≡◌, ◌∙◌, ℕ, length, slice_index, ap, arith}
use Rattle.fancy_regex_c.specs.SetReading.{part, text_at, refused, IsRead}
use Rattle.fancy_regex_c.proofs.SetReadingLemmas.{read_more, starts_next}
use Rattle.fancy_regex_c.proofs.sets.read_all.Goals as goal

pub returns-in-Err-clause-refused : goal.returns-in-Err-clause-refused
returns-in-Err-clause-refused c =
    let inside = c.loop-index-test.true in
    let text : c.part.result.now ≡ text_at c.args.patterns.now c.args.ends.now c.loop-index.index = c.part.ensures ∙ ap (λ (s : ℕ). part c.args.patterns.now s (slice_index c.args.ends.now c.loop-index.index)) c.loop-index.invariant.start in
    refused c.loop-index.index (omega (arith, inside)) c.loop-index.members.items c.loop-index.invariant.read c.in-Err.fault (rw text at c.in-Err.ensures.refused) c.in_set.ensures

pub loop-index-preserved : goal.loop-index-preserved
loop-index-preserved c =
    let text : c.part.result.now ≡ text_at c.args.patterns.now c.args.ends.now c.loop-index.index = c.part.ensures ∙ ap (λ (s : ℕ). part c.args.patterns.now s (slice_index c.args.ends.now c.loop-index.index)) c.loop-index.invariant.start in
    let read : IsRead c.args.options.now (text_at c.args.patterns.now c.args.ends.now c.loop-index.index) c.in-Ok.member = record {
      options = c.in-Ok.ensures.options;
      text = rw text at c.in-Ok.ensures.text;
      read = rw text at c.in-Ok.ensures.read;
    } in
    record {
      start = starts_next c.args.ends.now c.loop-index.index;
      read = rw c.in-Ok-push.ensures.items (read_more c.args.options.now c.args.patterns.now c.args.ends.now c.loop-index.index c.loop-index.members.items c.in-Ok.member c.loop-index.invariant.read read);
    }

pub returns-clause-read : goal.returns-clause-read
returns-clause-read c =
    let past = c.loop-index-test.false in
    let within = c.loop-index.auto.index-end in
    let whole : c.loop-index.index ≡ length c.args.ends.now = omega (arith, past, within) in
    rw (c.from_regexes.ensures, ← whole) c.loop-index.invariant.read
