-- The character that two, three or four bytes spell.
use Rattle.std.proofs.Common.{◌≡◌, ℕ, suc, ◌+◌, ◌*◌, ◌%◌, ◌<◌, ◌≤◌, true, List, [], ◌∷◌, ◌++◌, length, take, drop, get_or, Option, Some, None, refl, sym, ap, subst, ◌∙◌, arith, append-nil, append_assoc, drop-cons}
use Rattle.std.specs.Str.{continuation_len}
use Rattle.std.specs.Option.{SomeIff}
use Rattle.std.specs.Char.{IsScalar, encode_utf8}
use Rattle.std.proofs.lemmas.Bool.Decides.{nat_tests}
use Rattle.std.proofs.lemmas.Option.{none-some}
use Rattle.std.proofs.lemmas.List.{take_at, take-append-drop}
use Rattle.std.proofs.lemmas.Str.{length-encode}
use Rattle.fancy_input.specs.Places.{char_at, is_continuation}
use Rattle.fancy_input.proofs.CharacterLemmas.{char_at-from_bytes, char_at-bytes, char_at-none, whole}

-- a character that the bytes begin with has the number n
abbrev pub Reads : List ℕ → ℕ → Type 0
Reads bs n = (c : ℕ) (rest : List ℕ) → IsScalar c → bs ≡ encode_utf8 c ++ rest → c ≡ n

-- where the bytes are those of n, the character at their start is n, if n is a character at all
pub char_at-number : (bs : List ℕ) (n : ℕ) (o : Option ℕ) → SomeIff o (IsScalar n) n → encode_utf8 n ≡ bs → Reads bs n → o ≡ char_at bs 0
char_at-number bs n None other here reads =
    sym (char_at-none bs 0 (λ c rest h e. other (subst IsScalar (reads c rest h e) h)))
char_at-number bs n (Some c) is here reads =
    ap Some is.1 ∙ sym (char_at-from_bytes bs 0 n [] is.0 (sym here ∙ sym (append-nil (encode_utf8 n))))

-- as many bytes as the first one asks for tell the character
pub char_at-window : (haystack : List ℕ) (i n : ℕ) (bs : List ℕ) → n ≡ continuation_len (get_or haystack i 0) + 1 → bs ≡ take n (drop i haystack)
    → char_at bs 0 ≡ char_at haystack i
char_at-window haystack i n bs width is = at (char_at bs 0) refl where
  at : (o : Option ℕ) → char_at bs 0 ≡ o → o ≡ char_at haystack i
  at None none = sym (char_at-none haystack i (λ c rest h e.
      let all : bs ≡ encode_utf8 c = is ∙ ap (take n) e ∙ take_at (encode_utf8 c) rest n (length-encode c ∙ whole haystack i c rest e ∙ sym width) in
      none-some c (sym none ∙ char_at-from_bytes bs 0 c [] h (all ∙ sym (append-nil (encode_utf8 c))))))
  at (Some c) some =
      let stands = char_at-bytes bs 0 c some in
      sym (char_at-from_bytes haystack i c (stands.1 ++ drop n (drop i haystack)) stands.0
      (sym (take-append-drop n (drop i haystack)) ∙ ap (λ (l : List ℕ). l ++ drop n (drop i haystack)) (sym is ∙ stands.2) ∙ append_assoc (encode_utf8 c) stands.1 (drop n (drop i haystack))))

front : (haystack : List ℕ) (i j n : ℕ) → i < length haystack → j ≡ i + 1 → take (suc n) (drop i haystack) ≡ get_or haystack i 0 ∷ take n (drop j haystack)
front haystack i j n lt e =
    let same : suc i ≡ j = omega arith in
    ap (take (suc n)) (drop-cons haystack i 0 lt) ∙ ap (λ (k : ℕ). get_or haystack i 0 ∷ take n (drop k haystack)) same

pub front_two : (haystack : List ℕ) (i : ℕ) → i + 2 ≤ length haystack → get_or haystack i 0 ∷ get_or haystack (i + 1) 0 ∷ [] ≡ take 2 (drop i haystack)
front_two haystack i fits =
    sym (front haystack i (i + 1) 1 (omega arith) refl
    ∙ ap (λ (l : List ℕ). get_or haystack i 0 ∷ l) (front haystack (i + 1) (i + 2) 0 (omega arith) (omega arith)))

pub front_three : (haystack : List ℕ) (i : ℕ) → i + 3 ≤ length haystack →
    get_or haystack i 0 ∷ get_or haystack (i + 1) 0 ∷ get_or haystack (i + 2) 0 ∷ [] ≡ take 3 (drop i haystack)
front_three haystack i fits =
    sym (front haystack i (i + 1) 2 (omega arith) refl
    ∙ ap (λ (l : List ℕ). get_or haystack i 0 ∷ l) (front haystack (i + 1) (i + 2) 1 (omega arith) (omega arith))
    ∙ ap (λ (l : List ℕ). get_or haystack i 0 ∷ get_or haystack (i + 1) 0 ∷ l) (front haystack (i + 2) (i + 3) 0 (omega arith) (omega arith)))

pub front_four : (haystack : List ℕ) (i : ℕ) → i + 4 ≤ length haystack →
    get_or haystack i 0 ∷ get_or haystack (i + 1) 0 ∷ get_or haystack (i + 2) 0 ∷ get_or haystack (i + 3) 0 ∷ [] ≡ take 4 (drop i haystack)
front_four haystack i fits =
    sym (front haystack i (i + 1) 3 (omega arith) refl
    ∙ ap (λ (l : List ℕ). get_or haystack i 0 ∷ l) (front haystack (i + 1) (i + 2) 2 (omega arith) (omega arith))
    ∙ ap (λ (l : List ℕ). get_or haystack i 0 ∷ get_or haystack (i + 1) 0 ∷ l) (front haystack (i + 2) (i + 3) 1 (omega arith) (omega arith))
    ∙ ap (λ (l : List ℕ). get_or haystack i 0 ∷ get_or haystack (i + 1) 0 ∷ get_or haystack (i + 2) 0 ∷ l) (front haystack (i + 3) (i + 4) 0 (omega arith) (omega arith)))

-- how many bytes follow the first
pub follow_one : (a : ℕ) → 128 ≤ a → a < 224 → continuation_len a ≡ 1
follow_one a low high = grind (arith, nat_tests)

pub follow_two : (a : ℕ) → 224 ≤ a → a < 240 → continuation_len a ≡ 2
follow_two a low high = grind (arith, nat_tests)

pub follow_three : (a : ℕ) → 240 ≤ a → continuation_len a ≡ 3
follow_three a low = grind (arith, nat_tests)

-- two bytes
pub two_read : (a b c : ℕ) (rest : List ℕ) → continuation_len a ≡ 1 → a ∷ b ∷ [] ≡ encode_utf8 c ++ rest →
    (194 ≤ a) × (is_continuation b ≡ true) × (c ≡ a % 32 * 64 + b % 64)
unfolding encode_utf8
two_read a b c rest width e = grind (arith, nat_tests)

pub two_written : (a b n : ℕ) → continuation_len a ≡ 1 → 194 ≤ a → is_continuation b ≡ true → n ≡ a % 32 * 64 + b % 64 → encode_utf8 n ≡ a ∷ b ∷ []
unfolding encode_utf8
two_written a b n width least follows is = grind (arith, nat_tests)

-- three bytes
pub three_read : (a b d c : ℕ) (rest : List ℕ) → continuation_len a ≡ 2 → a ∷ b ∷ d ∷ [] ≡ encode_utf8 c ++ rest →
    (2048 ≤ c) × (is_continuation b ≡ true) × (is_continuation d ≡ true) × (c ≡ (a % 16 * 64 + b % 64) * 64 + d % 64)
unfolding encode_utf8
three_read a b d c rest width e = grind (arith, nat_tests)

pub three_written : (a b d n : ℕ) → continuation_len a ≡ 2 → 2048 ≤ n → is_continuation b ≡ true → is_continuation d ≡ true →
    n ≡ (a % 16 * 64 + b % 64) * 64 + d % 64 → encode_utf8 n ≡ a ∷ b ∷ d ∷ []
unfolding encode_utf8
three_written a b d n width least follows ends is = grind (arith, nat_tests)

-- four bytes
pub four_read : (a b d f c : ℕ) (rest : List ℕ) → continuation_len a ≡ 3 → IsScalar c → a ∷ b ∷ d ∷ f ∷ [] ≡ encode_utf8 c ++ rest →
    (65536 ≤ c) × (is_continuation b ≡ true) × (is_continuation d ≡ true) × (is_continuation f ≡ true) × (c ≡ (a % 16 * 64 + b % 64) * 4096 + (d % 64 * 64 + f % 64))
unfolding encode_utf8
four_read a b d f c rest width h e = grind (arith, nat_tests)

pub four_written : (a b d f n : ℕ) → continuation_len a ≡ 3 → a < 256 → 65536 ≤ n → is_continuation b ≡ true → is_continuation d ≡ true → is_continuation f ≡ true →
    n ≡ (a % 16 * 64 + b % 64) * 4096 + (d % 64 * 64 + f % 64) → encode_utf8 n ≡ a ∷ b ∷ d ∷ f ∷ []
unfolding encode_utf8
four_written a b d f n width byte least follows goes_on ends is = grind (arith, nat_tests)
