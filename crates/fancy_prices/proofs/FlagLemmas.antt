-- Flags that are turned.
use Rattle.std.proofs.Common.{◌≡◌, ◌∙◌, ◌||◌, ◌&&◌, Bool, true, false, not, refl, sym, true≢false}

pub on : (b : Bool) → not b ≡ false → b ≡ true
on true e = refl
on false e = absurd (true≢false e)

pub off : (b : Bool) → not b ≡ true → b ≡ false
off true e = absurd (true≢false (sym e))
off false e = refl

-- neither flag is set where none of the two is
pub neither : (a b c : Bool) → c ≡ (a || b) → c ≡ false → (a ≡ false) × (b ≡ false)
neither true b c e f = absurd (true≢false (sym e ∙ f))
neither false b c e f = (refl, sym e ∙ f)

-- both flags are set
pub both : (a b : Bool) → (a && b) ≡ true → (a ≡ true) × (b ≡ true)
both true b e = (refl, e)
both false b e = absurd (true≢false (sym e))
