-- What the members of a set found out, from position to position.
use Rattle.std.proofs.Common.{◌≡◌, ◌≤◌, ◌<◌, ◌+◌, ◌⊎◌, ℕ, zero, suc, Bool, true, false, nat_eq, eqb-true, if◌then◌else◌, List, [], ◌∷◌, ◌++◌, length, set, Option, Some, None, inl, inr, refl, sym, ◌∙◌, ap, subst, arith, slice_get}
use Rattle.std.specs.Global.{Box}
use Rattle.std.proofs.lemmas.Option.{none-some, same_Some}
use Rattle.fancy_input.specs.declared.input.Request.{Request}
use Rattle.fancy_core.specs.declared.regex.Regex.{Regex}
use Rattle.fancy_core.specs.Regexes.{program_in}
use Rattle.fancy_code.proofs.MarkingLemmas.{either_side}
use Rattle.fancy_search.specs.declared.cache.AttemptNotes.{AttemptNotes}
use Rattle.fancy_search.specs.declared.cache.Kept.TheVariants.{Nothing}
use Rattle.fancy_code.specs.declared.found.Found.{Found}
use Rattle.fancy_search.specs.KeptTables.{HoldsSteps, KeepsNotes, is_steps, kept_from}
use Rattle.fancy_search.proofs.KeptTablesLemmas.{noted_later}
use Rattle.fancy_regex.specs.LongestMatches.{EndsBy}
use Rattle.fancy_regex.specs.SetMembers.{SetQuery}
use Rattle.fancy_regex.specs.declared.set.trials.Trials.{Trials}
use Rattle.fancy_regex.specs.Trials.{notes_held, notes_at, HoldStepsOf, NotedAt, AreNoted, AreNotedFrom, AreNotedBelow, IsOldOrNew, OthersStayBut}

-- two numbers are the same or not
pub either_one : (m n : ℕ) → (m ≡ n) ⊎ (m ≡ n → ⊥)
either_one m n = elim (either_side m n) [ inl lt ↦ inr (λ e. omega (arith, lt, e)) | inr ge ↦ at (either_side n m) ge ] where
  at : ((n < m) ⊎ (m ≤ n)) → n ≤ m → (m ≡ n) ⊎ (m ≡ n → ⊥)
  at (inl lt) ge = inr (λ e. omega (arith, lt, e))
  at (inr le) ge = inl (omega (arith, ge, le))

-- where no match that was found at a place ends past an end, the notes are kept from that end on
pub reaches : (place end : ℕ) (found : Option Found) → place ≤ end → EndsBy place end found → kept_from found place ≤ end
reaches place end None le by = le
reaches place end (Some f) le by = at (nat_eq f.start place) refl where
  at : (b : Bool) → nat_eq f.start place ≡ b → (if b then f.end else place) ≤ end
  at true e = by f refl (eqb-true f.start place e)
  at false e = le

-- so they are from the end of one that was found
pub reaches_it : (place : ℕ) (found : Option Found) (f : Found) → found ≡ Some f → place ≤ f.end → kept_from found place ≤ f.end
reaches_it place found f is le = subst (λ (o : Option Found). kept_from o place ≤ f.end) (sym is) (at (nat_eq f.start place)) where
  at : (b : Bool) → (if b then f.end else place) ≤ f.end
  at true = omega arith
  at false = le

-- a place without notes is as none
pub none_pushed : (xs : List (Option (Box AttemptNotes))) (k : ℕ) → notes_held (slice_get (xs ++ None ∷ []) k) ≡ notes_held (slice_get xs k)
none_pushed [] zero = refl
none_pushed [] (suc k) = refl
none_pushed (y ∷ ys) zero = refl
none_pushed (y ∷ ys) (suc k) = none_pushed ys k

pub get_set_other : {A : Type 0} (xs : List A) (i k : ℕ) (x : A) → (k ≡ i → ⊥) → slice_get (set xs i x) k ≡ slice_get xs k
get_set_other [] i k x apart = refl
get_set_other (y ∷ ys) zero zero x apart = absurd (apart refl)
get_set_other (y ∷ ys) zero (suc k) x apart = refl
get_set_other (y ∷ ys) (suc i) zero x apart = refl
get_set_other (y ∷ ys) (suc i) (suc k) x apart = get_set_other ys i k x (λ e. apart (ap suc e))

pub get_set_same : {A : Type 0} (xs : List A) (i : ℕ) (x : A) → i < length xs → slice_get (set xs i x) i ≡ Some x
get_set_same [] i x lt = absurd (omega arith)
get_set_same (y ∷ ys) zero x lt = refl
get_set_same (y ∷ ys) (suc i) x lt = get_set_same ys i x (omega arith)

-- what stands in a list stands in a longer one
pub held_before : (xs : List (Option (Box AttemptNotes))) (x : Option (Box AttemptNotes)) (k : ℕ) (notes : AttemptNotes)
    → notes_held (slice_get xs k) ≡ Some notes → notes_held (slice_get (xs ++ x ∷ []) k) ≡ Some notes
held_before [] x k notes is = absurd (none-some notes is)
held_before (y ∷ ys) x zero notes is = is
held_before (y ∷ ys) x (suc k) notes is = held_before ys x k notes is

-- the last of a list stands there
pub held_last : (xs : List (Option (Box AttemptNotes))) (x : Option (Box AttemptNotes)) → slice_get (xs ++ x ∷ []) (length xs) ≡ Some x
held_last [] x = refl
held_last (y ∷ ys) x = held_last ys x

-- where members hold steps of their code, so do all but the last
pub held_fewer : (members : List Regex) (old new : Trials) (x : Option (Box AttemptNotes)) → old.notes.items ≡ new.notes.items ++ x ∷ []
    → HoldStepsOf members old → HoldStepsOf members new
held_fewer members old new x is holds k member notes at here =
    holds k member notes at (ap (λ (l : List (Option (Box AttemptNotes))). notes_held (slice_get l k)) is ∙ held_before new.notes.items x k notes here)

-- and the last
pub held_of_last : (members : List Regex) (old new : Trials) (x : Option (Box AttemptNotes)) (member : Regex) (notes : Box AttemptNotes)
    → old.notes.items ≡ new.notes.items ++ x ∷ [] → x ≡ Some notes → slice_get members (length new.notes.items) ≡ Some member
    → HoldStepsOf members old → is_steps notes.value.kept ≡ true → HoldsSteps (program_in member) notes.value.steps
held_of_last members old new x member notes is some at holds =
    holds (length new.notes.items) member notes.value at
    (ap (λ (l : List (Option (Box AttemptNotes))). notes_held (slice_get l (length new.notes.items))) is ∙ ap notes_held (held_last new.notes.items x ∙ ap Some some))

-- what a member found out stands where it was put
pub noted_now : (member : Regex) (haystack : List ℕ) (request : Request) (place index : ℕ) (xs : List (Option (Box AttemptNotes))) (x : Box AttemptNotes) → index < length xs
    → KeepsNotes (program_in member) haystack request place x.value
    → (notes : AttemptNotes) → notes_held (slice_get (set xs index (Some x)) index) ≡ Some notes → KeepsNotes (program_in member) haystack request place notes
noted_now member haystack request place index xs x lt is notes at =
    subst (λ (n : AttemptNotes). KeepsNotes (program_in member) haystack request place n) (same_Some x.value notes (ap notes_held (sym (get_set_same xs index (Some x) lt)) ∙ at)) is

-- and those of others are as they were
pub stay_but : (index : ℕ) (old mid : Trials) (x : Option (Box AttemptNotes)) → OthersStayBut index old mid
    → (k : ℕ) → (k ≡ index → ⊥) → notes_held (slice_get (set mid.notes.items index x) k) ≡ notes_at old k
stay_but index old mid x others k apart = ap notes_held (get_set_other mid.notes.items index k x apart) ∙ others k apart

module _ (q : SetQuery) where
  -- notes that are new are kept for any place
  is_noted_new : (member : Regex) (place : ℕ) (notes : AttemptNotes) → notes.kept ≡ Nothing → KeepsNotes (program_in member) q.haystack q.request place notes
  is_noted_new member place notes none = rw none (tt, λ e. cc)

  -- so are those that are as they were, for the place that they were kept for
  pub noted_still : (member : Regex) (place k : ℕ) (old : Trials) (notes : AttemptNotes) → IsOldOrNew (notes_at old k) (Some notes)
      → NotedAt k member q.haystack q.request place old → KeepsNotes (program_in member) q.haystack q.request place notes
  noted_still member place k old notes (inl same) noted = noted notes (sym same)
  noted_still member place k old notes (inr fresh) noted = is_noted_new member place notes fresh.1

  -- before any member was tried
  pub none_tried : (These : ℕ → Type 0) (place : ℕ) (trials : Trials) → trials.notes.items ≡ [] → AreNoted These q place trials
  none_tried These place trials none k member these is notes at = absurd (none-some notes (sym (ap (λ (l : List (Option (Box AttemptNotes))). notes_held (slice_get l k)) none) ∙ at))

  -- where all are noted, the steps are of the members' code
  pub holds_noted : (place : ℕ) (trials : Trials) → AreNotedFrom 0 q place trials → HoldStepsOf q.members trials
  holds_noted place trials noted k member notes is at = (noted k member (omega arith) is notes at).1

  -- what is kept for a place is kept for a later one
  pub noted_on : (These : ℕ → Type 0) (place later : ℕ) (trials : Trials) → place ≤ later
      → AreNoted These q place trials → AreNoted These q later trials
  noted_on These place later trials le noted k member these is notes at =
      noted_later (program_in member) q.haystack q.request place later notes le (noted k member these is notes at)

  -- it is kept where another member was tried
  pub noted_past : (place next index : ℕ) (old new : Trials) → next ≤ index → OthersStayBut index old new
      → AreNotedFrom next q place old → AreNotedFrom (index + 1) q place new
  noted_past place next index old new le others noted k member from is notes at =
      noted k member (omega (arith, le, from)) is notes (sym (others k (λ e. omega (arith, e, from))) ∙ at)

  -- what one member found out, told of it by another name
  same_member : (place index k : ℕ) (member other : Regex) (new : Trials) → slice_get q.members index ≡ Some member → slice_get q.members k ≡ Some other → k ≡ index
      → NotedAt index member q.haystack q.request place new → NotedAt k other q.haystack q.request place new
  same_member place index k member other new is at e this =
      subst (λ (n : ℕ). NotedAt n other q.haystack q.request place new) (sym e)
      (subst (λ (r : Regex). NotedAt index r q.haystack q.request place new) (same_Some member other (sym is ∙ ap (slice_get q.members) (sym e) ∙ at)) this)

  -- and of a member that was tried and found nothing too
  pub noted_with : (place from index : ℕ) (member : Regex) (old new : Trials) → slice_get q.members index ≡ Some member → OthersStayBut index old new
      → NotedAt index member q.haystack q.request place new
      → AreNotedFrom from q place old → AreNotedFrom from q place new
  noted_with place from index member old new is others this noted k other reached at = here (either_one k index) where
    here : ((k ≡ index) ⊎ (k ≡ index → ⊥)) → NotedAt k other q.haystack q.request place new
    here (inl e) = same_member place index k member other new is at e this
    here (inr apart) = λ notes got. noted k other reached at notes (sym (others k apart) ∙ got)

  -- The members below one were tried at a place, and what they found ends at `end` or before. So it is of the member that was tried last.
  pub tried_below : (place next index at end later : ℕ) (member : Regex) (old new : Trials) → next ≤ index → slice_get q.members index ≡ Some member
      → OthersStayBut index old new → NotedAt index member q.haystack q.request at new → at ≤ later → end ≤ later → place ≤ later
      → AreNotedBelow next q end old → AreNotedFrom next q place old
      → AreNotedBelow (index + 1) q later new
  tried_below place next index at end later member old new le is others this reach forth on below from k other inside is' = here (either_one k index) where
    here : ((k ≡ index) ⊎ (k ≡ index → ⊥)) → NotedAt k other q.haystack q.request later new
    here (inl e) = λ notes got. noted_later (program_in other) q.haystack q.request at later notes reach (same_member at index k member other new is is' e this notes got)
    here (inr apart) = before (either_side k next) where
      before : ((k < next) ⊎ (next ≤ k)) → NotedAt k other q.haystack q.request later new
      before (inl lt) = λ notes got. noted_later (program_in other) q.haystack q.request end later notes forth (below k other lt is' notes (sym (others k apart) ∙ got))
      before (inr ge) = λ notes got. noted_later (program_in other) q.haystack q.request place later notes on (from k other ge is' notes (sym (others k apart) ∙ got))

  -- all members, of those below one and those from it on
  pub tried_all : (place next end : ℕ) (trials : Trials) → place ≤ end
      → AreNotedBelow next q end trials → AreNotedFrom next q place trials
      → AreNotedFrom 0 q end trials
  tried_all place next end trials le below from k member reached is = at (either_side k next) where
    at : ((k < next) ⊎ (next ≤ k)) → NotedAt k member q.haystack q.request end trials
    at (inl lt) = below k member lt is
    at (inr ge) = λ notes got. noted_later (program_in member) q.haystack q.request place end notes le (from k member ge is notes got)
