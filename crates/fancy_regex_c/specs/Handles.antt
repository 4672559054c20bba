-- What a handle holds, for the contracts of the exports.
use Rattle.std.specs.Prelude.{◌≡◌, ℕ, true, MatchBool}
use Rattle.fancy_regex.specs.declared.Regex.{Regex}
use Rattle.fancy_regex.specs.declared.RegexSet.{RegexSet}
use Rattle.fancy_regex_c.specs.declared.handle.Handle.{Handle}
use Rattle.fancy_regex_c.specs.declared.handle.Kept.{Kept}
use Rattle.fancy_regex_c.specs.declared.handle.Kept.TheVariants as Of

-- the handle has what it had
abbrev pub IsSame : Handle → Handle → Type 0
IsSame new old = (new.raw.full ≡ old.raw.full) × (old.raw.full ≡ true → new.raw.value ≡ old.raw.value)

-- P of the regex, where that is what is kept, and else Q
abbrev pub ByRegex : Kept → (Regex → Type 0) → Type 0 → Type 0
ByRegex Of.Nothing P Q = Q
ByRegex (Of.Regex shared) P Q = P shared.value
ByRegex (Of.Set shared) P Q = Q
ByRegex (Of.Matches list) P Q = Q
ByRegex (Of.Tokens list) P Q = Q

-- P of the set, where that is what is kept, and else Q
abbrev pub BySet : Kept → (RegexSet → Type 0) → Type 0 → Type 0
BySet Of.Nothing P Q = Q
BySet (Of.Regex shared) P Q = Q
BySet (Of.Set shared) P Q = P shared.value
BySet (Of.Matches list) P Q = Q
BySet (Of.Tokens list) P Q = Q

-- P of the regex that the handle holds; where it holds none, Q
abbrev pub HeldRegex : Handle → (Regex → Type 0) → Type 0 → Type 0
HeldRegex h P Q = MatchBool h.raw.full (ByRegex h.raw.value P Q) Q

-- P of the set that the handle holds; where it holds none, Q
abbrev pub HeldSet : Handle → (RegexSet → Type 0) → Type 0 → Type 0
HeldSet h P Q = MatchBool h.raw.full (BySet h.raw.value P Q) Q

-- the answer of a call of a regex: NO_HANDLE where the handle holds none
abbrev pub OfRegex : Handle → (Regex → ℕ → Type 0) → ℕ → Type 0
OfRegex h P answer = HeldRegex h (λ r. P r answer) (answer ≡ 5)

-- the answer of a call of a set: NO_HANDLE where the handle holds none
abbrev pub OfSet : Handle → (RegexSet → ℕ → Type 0) → ℕ → Type 0
OfSet h P answer = HeldSet h (λ s. P s answer) (answer ≡ 5)

-- the same of what is kept
abbrev pub KeptRegex : Kept → (Regex → ℕ → Type 0) → ℕ → Type 0
KeptRegex kept P answer = ByRegex kept (λ r. P r answer) (answer ≡ 5)

-- DONE, and then this is made; or NO_MEMORY
pub data Makes (made : Type 0) (answer : ℕ) : Type 0 where
  is_done : answer ≡ 0 → made → Makes made answer
  is_no_memory : answer ≡ 4 → Makes made answer

-- `again`: the other handle holds the regex or the set that is kept; NO_HANDLE where it is neither
abbrev pub MakesAgain : Kept → Handle → ℕ → Type 0
MakesAgain kept out answer =
    ByRegex kept (λ r. Makes (HeldRegex out (λ s. s ≡ r) ⊥) answer)
    (BySet kept (λ r. Makes (HeldSet out (λ s. s ≡ r) ⊥) answer) (answer ≡ 5))

abbrev pub IsMadeAgain : Handle → Handle → ℕ → Type 0
IsMadeAgain h out answer = MatchBool h.raw.full (MakesAgain h.raw.value out answer) (answer ≡ 5)
