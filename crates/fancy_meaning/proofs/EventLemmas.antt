-- The laws of `bind`, and what holds of each outcome.
use Rattle.std.proofs.Common.{◌≡◌, Bool, true, false, List, [], ◌∷◌, ◌++◌, if◌then◌else◌, flat_map, refl, sym, ap, ap₂, ◌∙◌, append_assoc}
use Rattle.fancy_meaning.specs.Context.{State}
use Rattle.fancy_meaning.specs.Events.{Event, mark, return, outcome, Walk, stay, bind, guarded, outcomes_in, either, prefer}
use Rattle.fancy_meaning.specs.Forward.{EachOutcome}

pub bind-append : (es fs : List Event) (k : Walk) → bind (es ++ fs) k ≡ bind es k ++ bind fs k
bind-append [] fs k = refl
bind-append (mark ∷ es) fs k = ap (λ x. mark ∷ x) (bind-append es fs k)
bind-append (return ∷ es) fs k = ap (λ x. return ∷ x) (bind-append es fs k)
bind-append (outcome s ∷ es) fs k = ap (λ x. k s ++ x) (bind-append es fs k) ∙ sym (append_assoc (k s) (bind es k) (bind fs k))

pub bind-bind : (es : List Event) (j k : Walk) → bind (bind es j) k ≡ bind es (λ s. bind (j s) k)
bind-bind [] j k = refl
bind-bind (mark ∷ es) j k = ap (λ x. mark ∷ x) (bind-bind es j k)
bind-bind (return ∷ es) j k = ap (λ x. return ∷ x) (bind-bind es j k)
bind-bind (outcome s ∷ es) j k = bind-append (j s) (bind es j) k ∙ ap (λ x. bind (j s) k ++ x) (bind-bind es j k)

pub bind-stay : (es : List Event) → bind es stay ≡ es
bind-stay [] = refl
bind-stay (mark ∷ es) = ap (λ x. mark ∷ x) (bind-stay es)
bind-stay (return ∷ es) = ap (λ x. return ∷ x) (bind-stay es)
bind-stay (outcome s ∷ es) = ap (λ x. outcome s ∷ x) (bind-stay es)

-- what follows matters only at the outcomes
pub bind_cong : (P : State → Type 0) (es : List Event) (j k : Walk) → EachOutcome P es →
    ((s : State) → P s → j s ≡ k s) → bind es j ≡ bind es k
bind_cong P [] j k all same = refl
bind_cong P (mark ∷ es) j k all same = ap (λ x. mark ∷ x) (bind_cong P es j k all same)
bind_cong P (return ∷ es) j k all same = ap (λ x. return ∷ x) (bind_cong P es j k all same)
bind_cong P (outcome s ∷ es) j k all same = ap₂ ◌++◌ (same s all.0) (bind_cong P es j k all.1 same)

pub bind_same : (es : List Event) (j k : Walk) → ((s : State) → j s ≡ k s) → bind es j ≡ bind es k
bind_same [] j k same = refl
bind_same (mark ∷ es) j k same = ap (λ x. mark ∷ x) (bind_same es j k same)
bind_same (return ∷ es) j k same = ap (λ x. return ∷ x) (bind_same es j k same)
bind_same (outcome s ∷ es) j k same = ap₂ ◌++◌ (same s) (bind_same es j k same)

pub outcomes-append : (es fs : List Event) → outcomes_in (es ++ fs) ≡ outcomes_in es ++ outcomes_in fs
outcomes-append [] fs = refl
outcomes-append (mark ∷ es) fs = outcomes-append es fs
outcomes-append (return ∷ es) fs = outcomes-append es fs
outcomes-append (outcome s ∷ es) fs = ap (λ x. s ∷ x) (outcomes-append es fs)

pub outcomes-bind : (es : List Event) (k : Walk) → outcomes_in (bind es k) ≡ flat_map (λ s. outcomes_in (k s)) (outcomes_in es)
outcomes-bind [] k = refl
outcomes-bind (mark ∷ es) k = outcomes-bind es k
outcomes-bind (return ∷ es) k = outcomes-bind es k
outcomes-bind (outcome s ∷ es) k =
    outcomes-append (k s) (bind es k) ∙ ap (λ x. outcomes_in (k s) ++ x) (outcomes-bind es k)

pub EachOutcome-append : (P : State → Type 0) (es fs : List Event) → EachOutcome P es → EachOutcome P fs →
    EachOutcome P (es ++ fs)
EachOutcome-append P [] fs a b = b
EachOutcome-append P (mark ∷ es) fs a b = EachOutcome-append P es fs a b
EachOutcome-append P (return ∷ es) fs a b = EachOutcome-append P es fs a b
EachOutcome-append P (outcome s ∷ es) fs a b = (a.0, EachOutcome-append P es fs a.1 b)

pub EachOutcome-bind : (P Q : State → Type 0) (es : List Event) (k : Walk) → EachOutcome P es →
    ((s : State) → P s → EachOutcome Q (k s)) → EachOutcome Q (bind es k)
EachOutcome-bind P Q [] k all next = tt
EachOutcome-bind P Q (mark ∷ es) k all next = EachOutcome-bind P Q es k all next
EachOutcome-bind P Q (return ∷ es) k all next = EachOutcome-bind P Q es k all next
EachOutcome-bind P Q (outcome s ∷ es) k all next =
    EachOutcome-append Q (k s) (bind es k) (next s all.0) (EachOutcome-bind P Q es k all.1 next)

-- any fact of all states
pub EachOutcome_all : (P : State → Type 0) (es : List Event) → ((s : State) → P s) → EachOutcome P es
EachOutcome_all P [] all = tt
EachOutcome_all P (mark ∷ es) all = EachOutcome_all P es all
EachOutcome_all P (return ∷ es) all = EachOutcome_all P es all
EachOutcome_all P (outcome s ∷ es) all = (all s, EachOutcome_all P es all)

pub EachOutcome-either : (P : State → Type 0) (es fs : List Event) → EachOutcome P es → EachOutcome P fs →
    EachOutcome P (either es fs)
EachOutcome-either P es fs a b = EachOutcome-append P es (return ∷ fs) a b

pub EachOutcome-prefer : (P : State → Type 0) (greedy : Bool) (es fs : List Event) → EachOutcome P es → EachOutcome P fs →
    EachOutcome P (prefer greedy es fs)
EachOutcome-prefer P true es fs a b = EachOutcome-either P es fs a b
EachOutcome-prefer P false es fs a b = EachOutcome-either P fs es b a

pub EachOutcome-only_if : (P : State → Type 0) (b : Bool) (es : List Event) → (b ≡ true → EachOutcome P es) →
    EachOutcome P (if b then es else [])
EachOutcome-only_if P true es all = all refl
EachOutcome-only_if P false es all = tt

pub EachOutcome-if : (P : State → Type 0) (b : Bool) (es fs : List Event) → EachOutcome P es → EachOutcome P fs →
    EachOutcome P (if b then es else fs)
EachOutcome-if P true es fs a b = a
EachOutcome-if P false es fs a b = b

-- what stands after the guard, or what comes without it
pub EachOutcome-guarded : (P Q : State → Type 0) (wanted : State → Bool) (found : Walk) (missed es : List Event) → EachOutcome P es →
    ((s : State) → P s → EachOutcome Q (found s)) → EachOutcome Q missed → EachOutcome Q (guarded wanted found missed es)
EachOutcome-guarded P Q wanted found missed [] all next otherwise = otherwise
EachOutcome-guarded P Q wanted found missed (mark ∷ es) all next otherwise = EachOutcome-guarded P Q wanted found missed es all next otherwise
EachOutcome-guarded P Q wanted found missed (return ∷ es) all next otherwise = EachOutcome-guarded P Q wanted found missed es all next otherwise
EachOutcome-guarded P Q wanted found missed (outcome s ∷ es) all next otherwise =
    EachOutcome-if Q (wanted s) (found s) (guarded wanted found missed es) (next s all.0)
    (EachOutcome-guarded P Q wanted found missed es all.1 next otherwise)

pub bind-if : (b : Bool) (es fs : List Event) (k : Walk) → bind (if b then es else fs) k ≡ (if b then bind es k else bind fs k)
bind-if true es fs k = refl
bind-if false es fs k = refl

if_same_else : (b : Bool) (es fs gs : List Event) → fs ≡ gs → (if b then es else fs) ≡ (if b then es else gs)
if_same_else true es fs gs e = refl
if_same_else false es fs gs e = e

-- what follows a guard follows what it is found for, and what comes without it
pub bind-guarded : (wanted : State → Bool) (found : Walk) (missed es : List Event) (k : Walk) →
    bind (guarded wanted found missed es) k ≡ guarded wanted (λ t. bind (found t) k) (bind missed k) es
bind-guarded wanted found missed [] k = refl
bind-guarded wanted found missed (mark ∷ es) k = ap (λ x. mark ∷ x) (bind-guarded wanted found missed es k)
bind-guarded wanted found missed (return ∷ es) k = ap (λ x. return ∷ x) (bind-guarded wanted found missed es k)
bind-guarded wanted found missed (outcome s ∷ es) k =
    bind-if (wanted s) (found s) (guarded wanted found missed es) k
    ∙ if_same_else (wanted s) (bind (found s) k) _ _ (bind-guarded wanted found missed es k)

pub bind-either : (es fs : List Event) (k : Walk) → bind (either es fs) k ≡ either (bind es k) (bind fs k)
bind-either es fs k = ap (λ x. mark ∷ x) (bind-append es (return ∷ fs) k)

pub bind-prefer : (greedy : Bool) (es fs : List Event) (k : Walk) → bind (prefer greedy es fs) k ≡ prefer greedy (bind es k) (bind fs k)
bind-prefer true es fs k = bind-either es fs k
bind-prefer false es fs k = bind-either fs es k
