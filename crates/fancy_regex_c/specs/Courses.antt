-- How far a list under way has come, of matches or of tokens, and what it answers when it is asked for the next item.
use Rattle.std.specs.Prelude.{◌≡◌, ◌≤◌, ◌<◌, ◌++◌, ◌∷◌, ◌⊎◌, ℕ, List}
use Rattle.fancy_regex.specs.declared.Error.{Error}
use Rattle.fancy_regex_c.specs.declared.under_way.Progress.{Progress}
use Rattle.fancy_regex_c.specs.Answers.{IsAnswerFor}

-- What a list has still to give: the items that are found and not given yet, and after them those from where it goes on, refusals aside.
-- There it may be at its end, or its next search may be refused by an error, or its haystack may not be searched as it asks.
pub record Course (A : Type 0) : Type 1 where
  pub ready : List A
  pub further : List A
  pub at_end : Type 0
  pub refuses : Error → Type 0
  pub no_place : Type 0
  pub progress : Progress

-- the items that it has still to give
abbrev pub ahead : {A : Type 0} → Course A → List A
ahead c = c.ready ++ c.further

-- no item is ready, and more are found
pub record WantsMore (p : Progress) : Type 0 where
  pub given : p.ready ≤ p.given
  pub goes_on : p.last ≡ 0

-- no item is ready, and nothing but NONE is answered
pub record HasEnded (p : Progress) : Type 0 where
  pub given : p.ready ≤ p.given
  pub told : p.last ≡ 1

-- What comes after the items that are ready: more of them; the end; or a refusal. Want of memory is none of these: it is asked again.
pub data Follows {A : Type 0} (c : Course A) : Type 0 where
  goes_on : c.progress.last ≡ 0 → Follows c
  is_at_end : c.progress.last ≡ 1 → c.at_end → Follows c
  is_refused : IsAnswerFor c.refuses c.progress.last → (c.progress.last ≡ 4 → ⊥) → Follows c
  has_no_place : c.progress.last ≡ 3 → c.no_place → Follows c

-- A list that had none ready has found the next items, at least one where it goes on.
pub record FindsMore {A : Type 0} (c d : Course A) : Type 0 where
  pub none_given : d.progress.given ≡ 0
  pub room : 0 < c.progress.room → 0 < d.progress.room
  pub some : 0 < c.progress.room → d.progress.last ≡ 0 → 0 < d.progress.ready
  pub same : c.further ≡ ahead d
  pub follows : Follows d

-- What is answered where a list is asked for the next item. DONE: the first that was ahead is written, and it ends with it only where
-- it is at its end. NONE: it is at its end, or had ended before. Or a refusal of the next search, which ends it. For NO_MEMORY nothing is
-- lost. `kept` says what is where no item is written.
pub data TellsNext {A : Type 0} (c d : Course A) (written : A → Type 0) (kept : ℕ → Type 0) (answer : ℕ) : Type 0 where
  is_given : answer ≡ 0 → (item : A) → ahead c ≡ item ∷ ahead d → written item → (HasEnded d.progress → d.at_end) → TellsNext c d written kept answer
  is_ended : answer ≡ 1 → d.at_end ⊎ HasEnded c.progress → ahead c ≡ ahead d → HasEnded d.progress → kept answer → TellsNext c d written kept answer
  is_no_place : answer ≡ 3 → d.no_place → ahead c ≡ ahead d → HasEnded d.progress → kept answer → TellsNext c d written kept answer
  is_no_memory : answer ≡ 4 → ahead c ≡ ahead d → (HasEnded d.progress → ⊥) → kept answer → TellsNext c d written kept answer
  is_refused : IsAnswerFor d.refuses answer → (answer ≡ 4 → ⊥) → ahead c ≡ ahead d → HasEnded d.progress → kept answer
      → TellsNext c d written kept answer
