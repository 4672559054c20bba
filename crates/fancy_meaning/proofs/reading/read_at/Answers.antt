use Rattle.std.proofs.Common.{rules, ◌≤◌, length, ap, sym, ◌∙◌}
use Rattle.std.specs.Prelude.{option_map}
use Rattle.fancy_meaning.specs.Reading.{unit_read}
use Rattle.fancy_meaning.proofs.ReadingLemmas.{byte_there, low_unit, no_unit}
use Rattle.fancy_meaning.proofs.reading.read_at.Goals as goal

pub returns-in_err-byte-clause-reading : goal.returns-in_err-byte-clause-reading
returns-in_err-byte-clause-reading c =
    let past : length c.args.haystack.now ≤ c.args.place = search rules in
    ap (option_map unit_read) c.from_residual.ensures ∙ sym (no_unit c.args.meaning c.args.haystack.now c.args.place past)

pub returns-then-byte-lt128-clause-reading : goal.returns-then-byte-lt128-clause-reading
returns-then-byte-lt128-clause-reading c =
    let e = c.in_ok-byte.ensures.lookup in
    sym (low_unit c.args.meaning c.args.haystack.now c.args.place c.in_ok-byte.field-0.now c.if-byte-lt128.true (byte_there c.args.haystack.now c.args.place c.in_ok-byte.field-0.now e.3.0 e.3.1))
