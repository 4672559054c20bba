-- Room for branches.
use Rattle.std.proofs.Common.{◌≡◌, ◌≤◌, ◌+◌, ℕ, arith, subst, sym}
use Rattle.fancy_trail.specs.Frames.{Held, saved}

-- what there is room for
pub room : (h held : Held) (n branches : ℕ) → h ≡ held → saved h.frames ≡ branches → saved held.frames + n ≤ held.most → branches + n ≤ h.most
room h held n branches is count le = omega (arith, subst (λ (g : Held). saved g.frames + n ≤ g.most) (sym is) le, count)
