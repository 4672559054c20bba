-- How many steps the members of a set may still take, from position to position.
use Rattle.std.proofs.Common.{◌≡◌, ◌≤◌, ◌<◌, ◌+◌, ◌-◌, ◌*◌, ◌⊎◌, ℕ, zero, suc, Bool, true, false, List, [], length, take, Option, Some, None, inl, inr, refl, sym, ◌∙◌, ap, subst, arith, slice_get, get_or, if◌then◌else◌, IfSome, IfNone}
use Rattle.std.specs.Global.{Box}
use Rattle.std.specs.Prelude.{sum_by, nat_lt}
use Rattle.std.proofs.lemmas.Bool.{ltb-true, ltb-false, le-ltb}
use Rattle.std.proofs.lemmas.List.Sums.{sum_by_more, sum_by-take-le}
use Rattle.std.proofs.lemmas.Option.{slice_get_within, slice_get_cases, get_or_from_slice_get}
use Rattle.fancy_input.specs.declared.input.Request.{Request}
use Rattle.fancy_input.specs.Requests.{effective_start}
use Rattle.fancy_code.specs.declared.code.Code.{Code}
use Rattle.fancy_code.specs.declared.found.Found.{Found}
use Rattle.fancy_runner.specs.declared.notes.KeptTable.{KeptTable}
use Rattle.fancy_code.specs.Code.{worth_of}
use Rattle.fancy_meaning.specs.Context.{option_to}
use Rattle.fancy_runner.specs.KeptTable.{IsKept, steps_from, taken_again}
use Rattle.fancy_code.specs.Marking.{sum_to}
use Rattle.fancy_runner.proofs.KeptTableLemmas.{fewer_ahead}
use Rattle.fancy_code.proofs.MarkingLemmas.{times_le, either_side}
use Rattle.fancy_code.proofs.SumLemmas.{sum_le, sum_less}
use Rattle.fancy_search.specs.declared.cache.AttemptNotes.{AttemptNotes}
use Rattle.fancy_search.specs.declared.program.Program.{Program}
use Rattle.fancy_search.specs.declared.cache.Kept.{Kept}
use Rattle.fancy_search.specs.declared.cache.Kept.TheVariants.{Nothing}
use Rattle.fancy_search.specs.KeptTables.{KeepsNotes, kept_from, notes_again, table_kept}
use Rattle.fancy_search.specs.Options.{search_options}
use Rattle.fancy_core.specs.declared.regex.Regex.{Regex}
use Rattle.fancy_core.specs.Limited.{most_steps_of}
use Rattle.fancy_core.specs.Regexes.{easy_in, length_in}
use Rattle.fancy_regex.specs.SetCounts.{AreAllEasy, most_steps_of_all, next_place, steps_left, steps_left_of, steps_left_in}
use Rattle.fancy_regex.specs.SetMembers.{SetQuery}
use Rattle.fancy_regex.specs.Trials.{IsOldOrNew, OthersStayBut, notes_held, notes_at}
use Rattle.fancy_regex.specs.declared.set.trials.Trials.{Trials}
use Rattle.fancy_regex.proofs.TrialLemmas.{either_one}

-- what follows of none from two facts
pub none_both : {A : Type 0} (P Q R : Type 0) → (P → Q → R) → (m : Option A) → IfNone m P → IfNone m Q → IfNone m R
none_both P Q R so None p q = so p q
none_both P Q R so (Some a) p q = tt

-- what is so at all is so where nothing was found
pub none_with : {A : Type 0} (P : Type 0) → P → (m : Option A) → IfNone m P
none_with P p None = p
none_with P p (Some a) = tt

-- what is so from where the notes serve on is so from the position on, where nothing was found
pub none_kept : (P : ℕ → Type 0) (p : ℕ) (m : Option Found) → P (kept_from m p) → IfNone m (P p)
none_kept P p None is = is
none_kept P p (Some f) is = tt

-- each member of a set of easy ones is easy
pub easy_at : (members : List Regex) (k : ℕ) (r : Regex) → AreAllEasy members → slice_get members k ≡ Some r → easy_in r ≡ true
easy_at members k r easy is =
    subst (λ (m : Regex). easy_in m ≡ true) (get_or_from_slice_get members k r r is) (easy k r (slice_get_within members k r is))

-- fewer steps may be taken again at a later place
fewer_again : (kept : Option KeptTable) (code : Code) (place later : ℕ) → place ≤ later → taken_again kept code later ≤ taken_again kept code place
fewer_again None code place later le = omega arith
fewer_again (Some k) code place later le = at (nat_lt later k.from) refl (nat_lt place k.from) refl where
  at : (b : Bool) → nat_lt later k.from ≡ b → (c : Bool) → nat_lt place k.from ≡ c → (if b then worth_of code else 0) ≤ (if c then worth_of code else 0)
  at false e true f = omega arith
  at false e false f = omega arith
  at true e true f = omega arith
  at true e false f = absurd (omega (arith, ltb-true later k.from e, ltb-false place k.from f, le))

-- none may where what was marked before that place has failed
none_again : (kept : Option KeptTable) (code : Code) (place : ℕ) → IfSome kept (λ k. k.from ≤ place) → taken_again kept code place ≡ 0
none_again None code place past = refl
none_again (Some k) code place past = rw (le-ltb place k.from past) refl

-- so it is at the position after one at which nothing was found
pub none_again_after : (program : Program) (haystack : List ℕ) (request : Request) (position : ℕ) (notes : AttemptNotes)
    → KeepsNotes program haystack request position notes → notes_again program (position + 1) notes ≡ 0
none_again_after program haystack request position notes is = none_again (table_kept notes.kept) program.code (position + 1) (at (table_kept notes.kept) is.0) where
  at : (kept : Option KeptTable) → IfSome kept (λ k. IsKept program.code haystack (record request { start = 0; anchored = false }) (search_options program.options) k position notes.notes)
      → IfSome kept (λ k. k.from ≤ position + 1)
  at None is = tt
  at (Some k) is = is.reached

one_more : (length n : ℕ) → length * (n + 1) ≡ length * n + length
one_more length n = omega arith

module _ (member : Regex) (request : Request) where
  -- fewer steps are left from a later place on
  pub fewer_left : (place later : ℕ) (notes : Option AttemptNotes) → place ≤ later → steps_left member request later notes ≤ steps_left member request place notes
  fewer_left place later None le =
      omega (arith, times_le (request.range_end + 1 - later) (request.range_end + 1 - place) (length_in member) (omega (arith, le)))
  fewer_left place later (Some notes) le =
      omega (arith, fewer_ahead (table_kept notes.kept) member.program.code request place later notes.notes.table le, fewer_again (table_kept notes.kept) member.program.code place later le)

  -- where nothing was found out, as many are left from the next place on but for the length of the code
  pub left_alone : (place : ℕ) (notes : Option AttemptNotes) → notes ≡ None → place ≤ request.range_end
      → steps_left member request (place + 1) notes + length_in member ≤ steps_left member request place notes
  left_alone place None none le =
      let one : length_in member * (request.range_end + 1 - place) ≡ length_in member * (request.range_end + 1 - (place + 1)) + length_in member = ap (λ (n : ℕ). length_in member * n) (omega (arith, le)) ∙ one_more (length_in member) (request.range_end + 1 - (place + 1)) in
      omega (arith, one)
  left_alone place (Some notes) none le = cc

  -- as many are left where nothing was found out as where the member was not tried
  fresh_left : (place : ℕ) (new : Option AttemptNotes) → IfSome new (λ notes. notes.kept ≡ Nothing) → steps_left member request place new ≡ steps_left member request place None
  fresh_left place None fresh = refl
  fresh_left place (Some notes) fresh =
      ap (λ (k : Kept). steps_from (table_kept k) member.program.code request place notes.notes.table + taken_again (table_kept k) member.program.code place) fresh ∙ omega arith

  -- notes that are as they were, or new, leave as many
  pub left_stays : (place : ℕ) (old new : Option AttemptNotes) → IsOldOrNew old new → steps_left member request place new ≡ steps_left member request place old
  left_stays place old new (inl same) = ap (steps_left member request place) same
  left_stays place old new (inr fresh) = fresh_left place new fresh.1 ∙ ap (steps_left member request place) (sym fresh.0)

-- Terms that are no more than others, but one, for which what was added before makes up.
sum_le_below : (f g : ℕ → ℕ) (n : ℕ) → ((k : ℕ) → k < n → f k ≤ g k) → sum_to f n ≤ sum_to g n
sum_le_below f g zero each = omega arith
sum_le_below f g (suc n) each = omega (arith, sum_le_below f g n (λ k lt. each k (omega (arith, lt))), each n (omega arith))

sum_trade : (f g : ℕ → ℕ) (before after j n : ℕ) → ((k : ℕ) → (k ≡ j → ⊥) → f k ≤ g k) → j < n → after + f j ≤ before + g j → after + sum_to f n ≤ before + sum_to g n
sum_trade f g before after j zero each lt trade = absurd (omega (arith, lt))
sum_trade f g before after j (suc n) each lt trade = at (either_one j n) (λ less. sum_trade f g before after j n each less trade) where
  at : ((j ≡ n) ⊎ (j ≡ n → ⊥)) → (j < n → after + sum_to f n ≤ before + sum_to g n) → after + sum_to f (suc n) ≤ before + sum_to g (suc n)
  at (inl same) rest = omega (arith, sum_le_below f g n (λ k lt. each k (λ e. absurd (omega (arith, e, same, lt)))), subst (λ (k : ℕ). after + f k ≤ before + g k) same trade)
  at (inr apart) rest = below (either_side j n) where
    below : ((j < n) ⊎ (n ≤ j)) → after + sum_to f (suc n) ≤ before + sum_to g (suc n)
    below (inl less) = omega (arith, rest less, each n (λ e. apart (sym e)))
    below (inr more) = absurd (apart (omega (arith, more, lt)))

-- a sum over the members by their indices is one over the list
sum_members : (f : Regex → ℕ) (xs : List Regex) (g : ℕ → ℕ) (n : ℕ) → n ≤ length xs → ((k : ℕ) (r : Regex) → slice_get xs k ≡ Some r → g k ≡ f r)
    → sum_to g n ≡ sum_by f (take n xs)
sum_members f xs g zero le each = refl
sum_members f xs g (suc n) le each = at (slice_get_cases xs n).1 (sum_members f xs g n (omega (arith, le)) each) where
  at : (((x : Regex) × (n < length xs) × (slice_get xs n ≡ Some x) × (get_or xs n x ≡ x)) ⊎ ((length xs ≤ n) × (slice_get xs n ≡ None))) → sum_to g n ≡ sum_by f (take n xs) → sum_to g (suc n) ≡ sum_by f (take (suc n) xs)
  at (inl found) rest =
      let next : n + 1 ≡ suc n = omega arith in
      let more = sum_by_more f xs n found.0 found.1 in
      let step = ap (λ (m : ℕ). sum_by f (take m xs)) next in
      omega (arith, more, step, each n found.0 found.2, ap f found.3, rest)
  at (inr past) rest = absurd (omega (arith, le, past.0))

module _ (q : SetQuery) where
  -- what is left for the member with an index
  left_here : (next position place k : ℕ) (member : Regex) (trials : Trials) → slice_get q.members k ≡ Some member → next_place next position k ≡ place
      → steps_left_of q next position trials k ≡ steps_left member q.request place (notes_at trials k)
  left_here next position place k member trials is at =
      ap (λ (m : Option Regex). option_to m 0 (λ member. steps_left member q.request (next_place next position k) (notes_at trials k))) is
      ∙ ap (λ (p : ℕ). steps_left member q.request p (notes_at trials k)) at

  -- a member that comes to a later place, or to the same, has no more left
  left_fewer : (next later position place k : ℕ) (old new : Trials) → next_place next position k ≤ next_place later place k → notes_at new k ≡ notes_at old k
      → steps_left_of q later place new k ≤ steps_left_of q next position old k
  left_fewer next later position place k old new le stays = at (slice_get q.members k) where
    at : (m : Option Regex) → option_to m 0 (λ member. steps_left member q.request (next_place later place k) (notes_at new k))
        ≤ option_to m 0 (λ member. steps_left member q.request (next_place next position k) (notes_at old k))
    at None = omega arith
    at (Some member) = omega (arith, ap (steps_left member q.request (next_place later place k)) stays, fewer_left member q.request (next_place next position k) (next_place later place k) (notes_at old k) le)

  -- members that are passed over at a position have no more left at the one after
  pub left_skipped : (next later position : ℕ) (trials : Trials) → next ≤ later → steps_left_in q later position trials ≤ steps_left_in q next position trials
  left_skipped next later position trials le =
      sum_le (steps_left_of q later position trials) (steps_left_of q next position trials) (length q.members) (λ k. left_fewer next later position position k trials trials (omega (arith, le)) refl)

  -- so do all members
  pub left_on : (next position : ℕ) (trials : Trials) → steps_left_in q 0 (position + 1) trials ≤ steps_left_in q next position trials
  left_on next position trials =
      sum_le (steps_left_of q 0 (position + 1) trials) (steps_left_of q next position trials) (length q.members) (λ k. left_fewer next 0 position (position + 1) k trials trials (omega arith) refl)

  -- what is left for the member that is tried next is a part of all
  pub part_left : (index position : ℕ) (member : Regex) (trials : Trials) → slice_get q.members index ≡ Some member
      → steps_left member q.request position (notes_at trials index) ≤ steps_left_in q index position trials
  part_left index position member trials is =
      let here = left_here index position position index member trials is (omega arith) in
      let part = sum_less (λ k. 0) (steps_left_of q index position trials) (steps_left_of q index position trials index) index (length q.members) (λ k. omega arith) (slice_get_within q.members index member is) (omega arith) in
      omega (arith, here, part)

  -- a member is tried: the steps that it takes are no longer left
  pub left_tried : (index position before after : ℕ) (member : Regex) (old new : Trials) → slice_get q.members index ≡ Some member → OthersStayBut index old new
      → after + steps_left member q.request (position + 1) (notes_at new index) ≤ before + steps_left member q.request position (notes_at old index)
      → after + steps_left_in q (index + 1) position new ≤ before + steps_left_in q index position old
  left_tried index position before after member old new is others trade =
      let next = left_here (index + 1) position (position + 1) index member new is (omega arith) in
      let here = left_here index position position index member old is (omega arith) in
      sum_trade (steps_left_of q (index + 1) position new) (steps_left_of q index position old) before after index (length q.members)
      (λ k apart. left_fewer index (index + 1) position position k old new (omega arith) (others k apart))
      (slice_get_within q.members index member is)
      (omega (arith, next, here, trade))

  -- before any member was tried, as many are left as searches with each alone may take
  pub left_at_first : (trials : Trials) → trials.notes.items ≡ [] → steps_left_in q 0 (effective_start q.request) trials ≤ most_steps_of_all q.members q.request
  left_at_first trials none =
      let first = effective_start q.request in
      let each : (k : ℕ) (r : Regex) → slice_get q.members k ≡ Some r → steps_left_of q 0 first trials k ≡ most_steps_of r q.request =
      λ k r is. left_here 0 first first k r trials is (omega arith)
      ∙ ap (λ (l : List (Option (Box AttemptNotes))). steps_left r q.request first (notes_held (slice_get l k))) none in
      omega (arith, sum_members (λ r. most_steps_of r q.request) q.members (steps_left_of q 0 first trials) (length q.members) (omega arith) each, sum_by-take-le (λ r. most_steps_of r q.request) q.members (length q.members))
