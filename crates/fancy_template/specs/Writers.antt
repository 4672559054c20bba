-- The calls of a writer by which texts are written, and whose fault a refused writing is.
use Rattle.std.specs.Prelude.{◌≡◌, ◌<◌, ◌≤◌, ◌⊎◌, ℕ, List, [], ◌∷◌, length, drop, Result, Ok, Err}
use Rattle.std.specs.IoError.{error_kind}
use Rattle.std.specs.declared.io.Error.{Error as Fault}
use Rattle.std.specs.declared.io.ErrorKind.TheVariants.{WriteZero}

-- A writer's call that was handed some bytes gave this answer, and left this state.
pub record Answered {W : Type 0} (answers : W → List ℕ → Result ℕ Fault → W → Type 0) (answer : Result ℕ Fault) (last : W) : Type 0 where
  pub before : W
  pub bytes : List ℕ
  pub some : 0 < length bytes
  pub call : answers before bytes answer last

-- The fault of a writing is that of the writer's last call, or says that the last call took no byte. No call is made after it.
abbrev pub IsFault : {W : Type 0} → (W → List ℕ → Result ℕ Fault → W → Type 0) → Fault → W → Type 0
IsFault answers fault last = Answered answers (Err fault) last ⊎ (Answered answers (Ok 0) last × (error_kind fault ≡ WriteZero))

-- Texts are written one after another by these calls, and no other: each call is handed all that is left of its text, and the next one
-- what it did not take. An empty text needs no call. The first call that is refused, or that takes no byte, is the last, and the writing
-- has its fault.
pub data Writing {W : Type 0} (answers : W → List ℕ → Result ℕ Fault → W → Type 0) : W → List (List ℕ) → Result (Unit {0}) Fault → W → Type 0 where
  over : (s : W) → Writing answers s [] (Ok tt) s
  written : (s last : W) (texts : List (List ℕ)) (result : Result (Unit {0}) Fault) → Writing answers s texts result last → Writing answers s ([] ∷ texts) result last
  takes : (s next last : W) (count : ℕ) (text : List ℕ) (texts : List (List ℕ)) (result : Result (Unit {0}) Fault) → 0 < count → count ≤ length text → answers s text (Ok count) next
      → Writing answers next (drop count text ∷ texts) result last → Writing answers s (text ∷ texts) result last
  is_refused : (s last : W) (text : List ℕ) (texts : List (List ℕ)) (fault : Fault) → 0 < length text → answers s text (Err fault) last → Writing answers s (text ∷ texts) (Err fault) last
  takes_none : (s last : W) (text : List ℕ) (texts : List (List ℕ)) (fault : Fault) → 0 < length text → answers s text (Ok 0) last → error_kind fault ≡ WriteZero
      → Writing answers s (text ∷ texts) (Err fault) last
