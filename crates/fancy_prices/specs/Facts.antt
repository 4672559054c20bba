-- What is told where an attempt stands: the byte there, and what stands before it.
use Rattle.std.specs.Prelude.{◌≡◌, ℕ, ◌-◌, Bool, true, false, ◌&&◌, nat_lt, List, Option, Some, None, IfSome, slice_get}
use Rattle.fancy_bytes.specs.Sets.{member}
use Rattle.fancy_tree.specs.declared.tree.Assertion.{Assertion}
use Rattle.fancy_tree.specs.declared.tree.Meaning.{Meaning}
use Rattle.fancy_input.specs.Lines.{byte_before}
use Rattle.fancy_meaning.specs.Context.{Context, holds, word_before, word_after}
use Rattle.fancy_prices.specs.declared.facts.Before.{Before}
use Rattle.fancy_prices.specs.declared.facts.Before.TheVariants.{Nothing, Among}
use Rattle.fancy_prices.specs.declared.facts.Ending.{Ending}
use Rattle.fancy_prices.specs.declared.facts.Ending.TheVariants.{Last, Second}
use Rattle.fancy_prices.specs.declared.facts.Facts.{Facts}

-- a byte that passes the test
abbrev pub IsByteOf : (ℕ → Bool) → Option ℕ → Type 0
IsByteOf test o = (b : ℕ) × (o ≡ Some b) × (test b ≡ true)

-- what stands before a place is that
abbrev pub IsOfKind : Before → Option ℕ → Type 0
IsOfKind Nothing o = o ≡ None
IsOfKind (Among kind) o = IsByteOf (λ b. nat_lt b 256 && member kind.now.bytes b) o

-- the text before a place ends so: its last byte is of the kind, or this is the byte before its last one
abbrev pub IsEnding : Ending → List ℕ → ℕ → Type 0
IsEnding (Last kind) haystack p = IsOfKind kind (byte_before haystack p)
IsEnding (Second b) haystack p = byte_before haystack (p - 1) ≡ Some b

-- what stands before is a byte that passes the test
abbrev pub IsAlways : Before → (ℕ → Bool) → Type 0
IsAlways kind test = (o : Option ℕ) → IsOfKind kind o → IsByteOf test o

-- the facts hold at a place
pub record Stands (f : Facts) (haystack : List ℕ) (p : ℕ) : Type 0 where
  pub here : slice_get haystack p ≡ Some f.here
  pub before : IfSome f.before (λ kind. IsOfKind kind (byte_before haystack p))

-- where the facts hold the assertion does not
abbrev pub FailsWith : Assertion → Facts → Type 0
FailsWith a f = (x : Context) (p : ℕ) → Stands f x.haystack p → holds x a p ≡ false

-- where they hold it does
abbrev pub HoldsWith : Assertion → Facts → Type 0
HoldsWith a f = (x : Context) (p : ℕ) → Stands f x.haystack p → holds x a p ≡ true

-- if it is told, it is whether a word character stands before, in each meaning
abbrev pub TellsBefore : Facts → Option Bool → Type 0
TellsBefore f told =
    IfSome told (λ word. (meaning : Meaning) (haystack : List ℕ) (p : ℕ) → Stands f haystack p → word_before meaning haystack p ≡ word)

-- so it is of what stands before
abbrev pub TellsWord : Before → Option Bool → Type 0
TellsWord before told =
    IfSome told (λ word. (meaning : Meaning) (haystack : List ℕ) (p b : ℕ) → slice_get haystack p ≡ Some b → IsOfKind before (byte_before haystack p) → word_before meaning haystack p ≡ word)

-- and whether one begins there
abbrev pub TellsHere : Facts → Option Bool → Type 0
TellsHere f told =
    IfSome told (λ word. (meaning : Meaning) (haystack : List ℕ) (p : ℕ) → Stands f haystack p → word_after meaning haystack p ≡ word)
