-- How many of a list's items are taken.
use Rattle.std.specs.Prelude.{ℕ, zero, suc, ◌-◌, ◌==◌, Bool, false, List, take, Option, None, Some}

-- the first so many of these, and all of them without a limit
abbrev pub up_to : {A : Type 0} → Option ℕ → List A → List A
up_to None xs = xs
up_to (Some n) xs = take n xs

-- how many may be replaced: 0 stands for no limit
abbrev pub limit_of : ℕ → Option ℕ
limit_of zero = None
limit_of (suc n) = Some (suc n)

-- none may be replaced any more
abbrev pub is_reached : Option ℕ → Bool
is_reached None = false
is_reached (Some n) = n == 0

-- how many more may be replaced after one
abbrev pub one_fewer : Option ℕ → Option ℕ
one_fewer None = None
one_fewer (Some n) = Some (n - 1)
