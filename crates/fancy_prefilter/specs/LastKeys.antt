-- Keys of the bytes that were read last, from which the key of a window is made with one more byte.
use Rattle.std.specs.Prelude.{◌≡◌, ℕ, ◌+◌, List}
use Rattle.fancy_prefilter.specs.Keys.{key_at}

-- the keys of the last one, the last two and all of the three bytes at a place
pub record AreLast (one two three : ℕ) (haystack : List ℕ) (p : ℕ) : Type 0 where
  pub last : one ≡ key_at 1 haystack (p + 1 + 1)
  pub last_two : two ≡ key_at 2 haystack (p + 1)
  pub all : three ≡ key_at 3 haystack p
