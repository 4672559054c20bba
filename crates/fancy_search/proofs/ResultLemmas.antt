-- What follows for a value or an error, where there is one.
use Rattle.std.proofs.Common.{Result, Ok, Err, IfOk, IfErr, IfSome, Option, Some, None}

pub if_err : {A E : Type 0} (P Q : E → Type 0) → ((e : E) → P e → Q e) → (r : Result A E) → IfErr r P → IfErr r Q
if_err P Q f (Ok a) h = tt
if_err P Q f (Err e) h = f e h

pub if_ok : {A E : Type 0} (P Q : A → Type 0) → ((a : A) → P a → Q a) → (r : Result A E) → IfOk r P → IfOk r Q
if_ok P Q f (Ok a) h = f a h
if_ok P Q f (Err e) h = tt

-- what follows of a value from two facts
pub if_ok_both : {A E : Type 0} (P Q R : A → Type 0) → ((a : A) → P a → Q a → R a) → (r : Result A E) → IfOk r P → IfOk r Q → IfOk r R
if_ok_both P Q R f (Ok a) h k = f a h k
if_ok_both P Q R f (Err e) h k = tt

-- what holds of any value holds of one that was found
pub if_any : {A E : Type 0} (P : A → Type 0) → ((a : A) → P a) → (r : Result (Option A) E) → IfOk r (λ m. IfSome m P)
if_any P f (Ok None) = tt
if_any P f (Ok (Some a)) = f a
if_any P f (Err e) = tt
