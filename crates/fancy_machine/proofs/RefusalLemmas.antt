-- A `?` passes a refusal on.
use Rattle.std.proofs.Common.{◌≡◌, Result, Ok, Err, sym, ap, ◌∙◌}
use Rattle.std.specs.Prelude.{IsErrAnd, IfErr}
use Rattle.fancy_input.specs.declared.refusal.SearchRefusal.{SearchRefusal}

abbrev refusal_in : {A : Type 0} → SearchRefusal → Result A SearchRefusal → SearchRefusal
refusal_in d (Ok x) = d
refusal_in d (Err e) = e

-- the refusal that is returned is that of the call
pub passed_on : {A : Type 0} (r : Result A SearchRefusal) (e d : SearchRefusal) → IsErrAnd r (λ (x : SearchRefusal). x ≡ e) → r ≡ Err d → e ≡ d
passed_on (Ok x) e d h is = absurd h
passed_on (Err x) e d h is = sym h ∙ ap (refusal_in x) is

-- what is refused for one cause alone is refused for no other
pub refused_alone : {A : Type 0} (r : Result A SearchRefusal) (one d : SearchRefusal) → IfErr r (λ (why : SearchRefusal). why ≡ one) → r ≡ Err d → one ≡ d
refused_alone (Ok x) one d alone is = absurd (cc)
refused_alone (Err x) one d alone is = sym alone ∙ ap (refusal_in x) is
