-- What one call of `next` of an iterator of results answers.
use Rattle.std.specs.Prelude.{Option, None, Some, Result, Ok, Err}

-- The end, an item, or a refusal: the three facts say what holds of each.
abbrev pub ByAnswer : {A E : Type 0} → Option (Result A E) → Type 0 → (A → Type 0) → (E → Type 0) → Type 0
ByAnswer None ends gives refuses = ends
ByAnswer (Some (Ok x)) ends gives refuses = gives x
ByAnswer (Some (Err e)) ends gives refuses = refuses e
