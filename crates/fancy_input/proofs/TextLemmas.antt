-- What leads from a boundary of text to a boundary: one of its characters, and any text that stands there.
use Rattle.std.proofs.Common.{◌≡◌, ℕ, ◌+◌, ◌≤◌, List, [], ◌∷◌, ◌++◌, length, drop, Some, true, IsTrue, IsUtf8, refl, subst, sym, ap, ◌∙◌, append_assoc, arith}
use Rattle.std.specs.Prelude.{encode_utf8}
use Rattle.std.specs.Char.{len_utf8}
use Rattle.std.specs.Str.{encode_utf8_all, IsAscii}
use Rattle.std.proofs.lemmas.Bool.Decides.{nat_tests}
use Rattle.std.proofs.lemmas.Grind.{common_steps}
use Rattle.std.proofs.lemmas.Str.{IsUtf8-drop, IsUtf8-past_char, IsCharBoundary-past_char, IsCharBoundary-from_rest, IsCharBoundary-at_seam}
use Rattle.fancy_input.specs.Places.{char_at, has_bytes_at, is_boundary}
use Rattle.fancy_input.proofs.PlaceLemmas.{boundary_of_text, text_of_boundary}
use Rattle.fancy_input.proofs.CharacterLemmas.{bytes_begin, char_at-bytes}

-- what follows one character of a text, where the place is a boundary
pub char_at-boundary : (haystack : List ℕ) (i c : ℕ) → IsUtf8 haystack → i ≤ length haystack → IsTrue (is_boundary haystack i) →
    char_at haystack i ≡ Some c → IsTrue (is_boundary haystack (i + len_utf8 c))
char_at-boundary haystack i c text within here e =
    let stands = char_at-bytes haystack i c e in
    text_of_boundary haystack (i + len_utf8 c)
    (IsCharBoundary-past_char haystack stands.1 i c within (IsUtf8-drop haystack i text (boundary_of_text haystack i text within here)) stands.2)

-- after a text that a text begins with, text follows
past_characters : (cs bs rest : List ℕ) → IsUtf8 bs → bs ≡ encode_utf8_all cs ++ rest → IsUtf8 rest
past_characters [] bs rest h e = subst IsUtf8 e h
past_characters (c ∷ cs) bs rest h e =
    past_characters cs (encode_utf8_all cs ++ rest) rest
    (IsUtf8-past_char bs (encode_utf8_all cs ++ rest) c h (e ∙ append_assoc (encode_utf8 c) (encode_utf8_all cs) rest)) refl

pub IsUtf8-past_text : (bs text rest : List ℕ) → IsUtf8 bs → IsUtf8 text → bs ≡ text ++ rest → IsUtf8 rest
IsUtf8-past_text bs text rest h t e = past_characters t.0 bs rest h (e ∙ ap (λ x. x ++ rest) (sym t.1.1))

-- what follows a text that stands at a boundary
pub text_at-boundary : (haystack : List ℕ) (i : ℕ) (text : List ℕ) → IsUtf8 haystack → IsUtf8 text → i ≤ length haystack →
    IsTrue (is_boundary haystack i) → has_bytes_at haystack i text ≡ true → IsTrue (is_boundary haystack (i + length text))
text_at-boundary haystack i text whole part within here e =
    let begins = bytes_begin haystack i text e in
    let rest = drop (length text) (drop i haystack) in
    let tail : IsUtf8 (drop i haystack) = IsUtf8-drop haystack i whole (boundary_of_text haystack i whole within here) in
    text_of_boundary haystack (i + length text)
    (IsCharBoundary-from_rest haystack i (length text) within
    (IsCharBoundary-at_seam (drop i haystack) text rest begins (IsUtf8-past_text (drop i haystack) text rest tail part begins)))

-- in ASCII text each place is a boundary
pub ascii_boundary : (haystack : List ℕ) → IsAscii haystack → (i : ℕ) → IsTrue (is_boundary haystack i)
ascii_boundary haystack h i = let below = h i in grind (arith, nat_tests, common_steps)
