-- Which bytes stand nowhere in a haystack.
use Rattle.std.specs.Prelude.{◌≡◌, ℕ, ◌<◌, nat_lt, Bool, true, false, not, ◌&&◌, List, [], ◌∷◌}
use Rattle.fancy_tree.specs.declared.tree.Meaning.{Meaning}
use Rattle.fancy_tree.specs.Pattern.{Pattern}
use Rattle.fancy_bytes.specs.Items.{includes, some_below}
use Rattle.fancy_bytes.specs.Required.{required_bytes}
use Rattle.fancy_bytes.specs.Sets.{ByteFlags, member}
use Rattle.fancy_bytes.specs.declared.lacking.KnownBytes.{KnownBytes}

-- each of these bytes stands in the haystack
abbrev pub includes_all : List ℕ → List ℕ → Bool
includes_all haystack [] = true
includes_all haystack (b ∷ bs) = includes haystack b && includes_all haystack bs

-- a byte of this kind stands nowhere in the haystack
abbrev pub lacks_some : (ℕ → Bool) → List ℕ → Bool
lacks_some kind haystack = some_below 256 (λ b. kind b && not (includes haystack b))

-- each byte of the set stands in the haystack
abbrev pub AllStand : ByteFlags → List ℕ → Type 0
AllStand set haystack = (b : ℕ) → b < 256 → member set b ≡ true → includes haystack b ≡ true

-- no byte of the set stands in the haystack
abbrev pub NoneStand : ByteFlags → List ℕ → Type 0
NoneStand set haystack = (b : ℕ) → b < 256 → member set b ≡ true → includes haystack b ≡ false

-- what is known of the bytes of the haystack is true of it
pub record AreKnown (known : KnownBytes) (haystack : List ℕ) : Type 0 where
  pub standing : AllStand known.standing haystack
  pub lacking : NoneStand known.lacking haystack

-- these are the bytes that the pattern requires
abbrev pub AreRequired : Meaning → Pattern → List ℕ → Type 0
AreRequired m p bytes = (b : ℕ) → includes bytes b ≡ (nat_lt b 256 && required_bytes m p b)
