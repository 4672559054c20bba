use Rattle.std.proofs.Common.{◌≡◌, ap, sym, ◌∙◌, Option, Some, ℕ, inl, inr, arith}
use Rattle.fancy_meaning.specs.Context.{Unit_at, one_byte, one_character}
use Rattle.fancy_input.proofs.CharacterLemmas.{char_at-fits}
use Rattle.fancy_meaning.proofs.ReadingLemmas.{byte_there}
use Rattle.fancy_meaning.proofs.reading.read_any_at.Goals as goal

made : ℕ → ℕ → Option Unit_at
made code width = Some (record { code = code; width = width })

pub returns-in_ok-c-in-Unicode : goal.returns-in_ok-c-in-Unicode
unfolding made
returns-in_ok-c-in-Unicode c =
    let at = c.in_ok-c-in-Unicode.ensures in
    let here : made c.in_ok-c-in-Unicode.c c.len_utf8.result ≡ one_character (Some c.in_ok-c-in-Unicode.c) = ap (made c.in_ok-c-in-Unicode.c) c.len_utf8.ensures.value in
    record {
      reading = elim c.in-Unicode.is [
        | inl unicode ↦ rw unicode (here ∙ ap one_character at)
        | inr ascii ↦ rw ascii (here ∙ ap one_character at)
      ];
      fits = omega (arith, char_at-fits c.args.haystack.now c.args.place c.in_ok-c-in-Unicode.c (sym at), c.len_utf8.ensures.value);
    }

pub returns-in_ok-byte-in-Bytes-clause-reading : goal.returns-in_ok-byte-in-Bytes-clause-reading
returns-in_ok-byte-in-Bytes-clause-reading c =
    let e = c.in_ok-byte-in-Bytes.ensures.lookup in
    rw c.in-Bytes.is (ap one_byte (sym (byte_there c.args.haystack.now c.args.place c.in_ok-byte-in-Bytes.field-0.now e.3.0 e.3.1)))
