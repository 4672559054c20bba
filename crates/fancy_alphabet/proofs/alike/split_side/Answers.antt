use Rattle.std.proofs.Common.{◌≡◌, ◌↔◌, ◌<◌, ℕ, Bool, List, true, false, get_or, subst, sym}
use Rattle.fancy_alphabet.specs.Sides.{side_of}
use Rattle.fancy_alphabet.proofs.AlikeLemmas.{told_respects}
use Rattle.fancy_alphabet.proofs.alike.split_side.Goals as goal

pub returns-clause-told : goal.returns-clause-told
returns-clause-told c =
    told_respects c.args.side c.in_ok-later.later.items c.deref.result.now c.in_ok-later.ensures.standing
    (subst (λ (marks : List Bool). (byte : ℕ) → byte < 128 → (get_or marks byte false ≡ true) ↔ (side_of byte ≡ c.args.side)) (sym c.deref.ensures.value) c.in_ok-marks.ensures.told)
    c.in_ok-later.ensures.told
