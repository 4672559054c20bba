-- What the code gives from an instruction and a place keeps the equations of its instructions.
use Rattle.std.proofs.Common.{◌≡◌, ℕ, ◌+◌, ◌<◌, Bool, true, false, List, [], ◌∷◌, ◌++◌, Option, Some, None, refl, sym, ap, ◌∙◌, subst, arith, length-append, length}
use Rattle.std.specs.Prelude.{is_some, option_map, nat_le, if◌then◌else◌, ◌==◌}
use Rattle.std.specs.Option.{option_or}
use Rattle.std.proofs.lemmas.Bool.{true≢false}
use Rattle.fancy_tree.specs.Sets.{has}
use Rattle.fancy_code.specs.Instructions.{Instruction, Match, Fail, Character, Member, RawByte, Assert, Split, Open, Close, Enter, Commit, Look, Deny, Test, Back, Recall, Keep, Continue, Taken}
use Rattle.fancy_meaning.specs.Context.{Context, State, Unit_at, unit_at, past_item, moved_to, option_to, holds}
use Rattle.fancy_meaning.specs.Events.{Event, mark, return, outcome, either}
use Rattle.fancy_code.specs.Run.{Raw, Note, Stop, choice_opened, fetched, returned, before, join, onward, instr_at, act, run, erase}
use Rattle.fancy_code.specs.Compile.{IsEasyInstr, AreEasy}
use Rattle.fancy_code.specs.Thread.{events_of, size_of, first_accepted, ends_well, pair_run, rank}
use Rattle.fancy_code.proofs.RunMore.{known_act}
use Rattle.fancy_alphabet.specs.declared.effect.Effect.{Effect}
use Rattle.fancy_alphabet.specs.declared.effect.Effect.TheVariants.{Fails, Reads, Splits}
use Rattle.fancy_alphabet.specs.Sights.{IsSeen}
use Rattle.fancy_states.specs.Ways.{Obeys, Solves}
use Rattle.fancy_alphabet.specs.Effects.{Seen, effect_of, moves_if, reads_if, reads_where}
use Rattle.fancy_alphabet.proofs.SightLemmas.{holds_seen}
use Rattle.fancy_states.specs.Futures.{ArePlain, IsPlainInstr, place_of, end_at, known_at}
use Rattle.fancy_alphabet.specs.Units.{cut, unit_by, place_after}

erase_append : (a b : List Raw) → erase (a ++ b) ≡ erase a ++ erase b
erase_append [] b = refl
erase_append (Note choice_opened ∷ a) b = ap (λ (es : List Event). mark ∷ es) (erase_append a b)
erase_append (Note returned ∷ a) b = ap (λ (es : List Event). return ∷ es) (erase_append a b)
erase_append (Note fetched ∷ a) b = erase_append a b
erase_append (Stop q s v ∷ a) b = ap (λ (es : List Event). outcome s ∷ es) (erase_append a b)

known_some : (o : Option (List Raw)) → is_some o ≡ true → (w : List Raw) × (o ≡ Some w)
known_some None k = absurd (true≢false (sym k))
known_some (Some w) k = (w, refl)

-- one fetch, and then the other
fetched_then : (o' o : Option (List Raw)) → o ≡ before (Note fetched) o' → is_some o ≡ true → (is_some o' ≡ true) × (events_of o ≡ events_of o') × (size_of o' < size_of o)
fetched_then None o e k = absurd (true≢false (sym (sym (ap (λ (w : Option (List Raw)). is_some w) e) ∙ k)))
fetched_then (Some w) o e k = (refl, ap events_of e, omega (arith, ap size_of e))

parted_then : (a b o : Option (List Raw)) → o ≡ before (Note fetched) (before (Note choice_opened) (join a b)) → is_some o ≡ true
    → (is_some a ≡ true) × (is_some b ≡ true) × (events_of o ≡ either (events_of a) (events_of b)) × (size_of a < size_of o) × (size_of b < size_of o)
parted_then None b o e k = absurd (true≢false (sym (sym (ap (λ (w : Option (List Raw)). is_some w) e) ∙ k)))
parted_then (Some v) None o e k = absurd (true≢false (sym (sym (ap (λ (w : Option (List Raw)). is_some w) e) ∙ k)))
parted_then (Some v) (Some w) o e k = (
  refl,
  refl,
  ap events_of e ∙ ap (λ (es : List Event). mark ∷ es) (erase_append v (Note returned ∷ w)),
  omega (arith, ap size_of e, length-append v (Note returned ∷ w)),
  omega (arith, ap size_of e, length-append v (Note returned ∷ w)),
)

first_or : (ok : State → Bool) (a b : List Event) → first_accepted ok (a ++ b) ≡ option_or (first_accepted ok a) (first_accepted ok b)
first_or ok [] b = refl
first_or ok (mark ∷ a) b = first_or ok a b
first_or ok (return ∷ a) b = first_or ok a b
first_or ok (outcome s ∷ a) b = at (ok s) (first_or ok a b) where
  at : (c : Bool) → first_accepted ok (a ++ b) ≡ option_or (first_accepted ok a) (first_accepted ok b)
      → (if c then Some s else (first_accepted ok (a ++ b))) ≡ option_or (if c then Some s else (first_accepted ok a)) (first_accepted ok b)
  at true e = refl
  at false e = e

place_or : (a b : Option State) → option_map place_of (option_or a b) ≡ option_or (option_map place_of a) (option_map place_of b)
place_or None b = refl
place_or (Some s) b = refl

module _ (good : ℕ → Bool) (x : Context) (limit : ℕ) (code : List Instruction) (deep : ℕ) (here : ℕ) (fine : good here ≡ true) where
  abbrev Ends : ℕ → ℕ → Option ℕ
  Ends = end_at good x limit code deep

  abbrev KnownAt : ℕ → ℕ → Bool
  KnownAt = known_at good x limit code deep

  abbrev RankAt : ℕ → ℕ
  RankAt q = rank x limit code deep q here

  abbrev origin : State
  origin = record { place = here; captures = []; kept = 0 }

  abbrev RunAt : ℕ → Option (List Raw)
  RunAt q = pair_run x limit code deep q here

  abbrev end_in : List Event → Option ℕ
  end_in es = option_map place_of (first_accepted (ends_well good) es)

  acted : (q : ℕ) (j : Instruction) → KnownAt here q ≡ true → instr_at code q ≡ j → RunAt q ≡ before (Note fetched) (act x limit q j (run x limit code deep) (run x (length x.haystack) code deep) origin [])
  acted q j k e =
      let w = known_some (RunAt q) k in
      known_act x limit code deep q origin [] w.0 w.1 ∙ ap (λ (j : Instruction). before (Note fetched) (act x limit q j (run x limit code deep) (run x (length x.haystack) code deep) origin [])) e

  -- an instruction that goes on at another instruction and place
  passes : (q n p : ℕ) → KnownAt here q ≡ true → RunAt q ≡ before (Note fetched) (pair_run x limit code deep n p)
      → (KnownAt p n ≡ true) × (Ends here q ≡ Ends p n) × (rank x limit code deep n p < RankAt q)
  passes q n p k e =
      let f = fetched_then (pair_run x limit code deep n p) (RunAt q) e k in
      (f.0, ap end_in f.1, f.2)

  -- the place after the unit
  abbrev After : Option Unit_at → ℕ
  After u = place_after here u

  abbrev Keeps : Option Unit_at → Effect → ℕ → Type 0
  Keeps u k q = Obeys (Ends here) (Ends (After u)) (KnownAt here) (KnownAt (After u)) RankAt k here q

  nothing : (q : ℕ) → RunAt q ≡ before (Note fetched) (Some []) → Ends here q ≡ None
  nothing q w = ap (λ (o : Option (List Raw)). end_in (events_of o)) w

  never_if : (kd : Option Unit_at → Effect) (u : Unit_at) (c : Bool) → kd None ≡ Fails → kd (Some u) ≡ Fails → kd (if c then Some u else None) ≡ Fails
  never_if kd u true a b = b
  never_if kd u false a b = a

  read_if : (kd : Option Unit_at → Effect) (u : Unit_at) (q n : ℕ) (c : Bool) → kd None ≡ Fails → kd (Some u) ≡ Reads n → KnownAt here q ≡ true
      → RunAt q ≡ before (Note fetched) (if c then (run x limit code deep n (moved_to origin (here + u.width)) []) else (Some []))
      → Keeps (if c then Some u else None) (kd (if c then Some u else None)) q
  read_if kd u q n true a b k w =
      let p = passes q n (here + u.width) k w in
      subst (λ (j : Effect). Keeps (Some u) j q) (sym b) (p.0, p.1)
  read_if kd u q n false a b k w = subst (λ (j : Effect). Keeps None j q) (sym a) (nothing q w)

  test_if : (kd : Option Unit_at → Effect) (u : Unit_at) (q n : ℕ) (b : Bool) → kd None ≡ Fails → kd (Some u) ≡ reads_if b n → KnownAt here q ≡ true
      → RunAt q ≡ before (Note fetched) (onward limit (run x limit code deep) n origin [] (if b then Some (here + u.width) else None))
      → Keeps (if nat_le (here + u.width) limit then Some u else None) (kd (if nat_le (here + u.width) limit then Some u else None)) q
  test_if kd u q n true a b k w = read_if kd u q n (nat_le (here + u.width) limit) a b k w
  test_if kd u q n false a b k w =
      subst (λ (j : Effect). Keeps (if nat_le (here + u.width) limit then Some u else None) j q) (sym (never_if kd u (nat_le (here + u.width) limit) a b)) (nothing q w)

  item : (o : Option Unit_at) (kd : Option Unit_at → Effect) (test : ℕ → Bool) (q n : ℕ) → kd None ≡ Fails → ((u : Unit_at) → kd (Some u) ≡ reads_if (test u.code) n)
      → KnownAt here q ≡ true
      → RunAt q ≡ before (Note fetched) (onward limit (run x limit code deep) n origin [] (option_to o None (λ u. if test u.code then Some (here + u.width) else None)))
      → Keeps (cut limit here o) (kd (cut limit here o)) q
  item None kd test q n a b k w = subst (λ (j : Effect). Keeps None j q) (sym a) (nothing q w)
  item (Some u) kd test q n a b k w = test_if kd u q n (test u.code) a (b u) k w

  parts : (q a b : ℕ) → KnownAt here q ≡ true → RunAt q ≡ before (Note fetched) (before (Note choice_opened) (join (RunAt a) (RunAt b)))
      → Keeps (unit_by x limit here) (Splits a b) q
  parts q a b k w =
      let p = parted_then (RunAt a) (RunAt b) (RunAt q) w k in (
        p.0,
        p.1,
        ap end_in p.2 ∙ ap (option_map place_of) (first_or (ends_well good) (events_of (RunAt a)) (return ∷ events_of (RunAt b)))
            ∙ place_or (first_accepted (ends_well good) (events_of (RunAt a))) (first_accepted (ends_well good) (events_of (RunAt b))),
        p.3,
        p.4,
      )

  -- an instruction that reads an item
  reads : (u : Option Unit_at) (test : ℕ → Bool) (q n : ℕ) → u ≡ unit_by x limit here → KnownAt here q ≡ true
      → RunAt q ≡ before (Note fetched) (onward limit (run x limit code deep) n origin [] (past_item x test here))
      → Keeps u (reads_where u test n) q
  unfolding past_item
  reads u test q n e k w =
      subst (λ (o : Option Unit_at). Keeps o (reads_where o test n) q) (sym e) (item (unit_at x here) (λ o. reads_where o test n) test q n refl (λ v. refl) k w)

  -- an instruction that tests the place
  moves : (u : Option Unit_at) (q n : ℕ) (b : Bool) → KnownAt here q ≡ true
      → RunAt q ≡ before (Note fetched) (if b then (run x limit code deep n origin []) else (Some [])) → Keeps u (moves_if b n) q
  moves u q n true k w = passes q n here k w
  moves u q n false k w = nothing q w

  obeys : ArePlain code → (s : Seen) → IsSeen x limit here s → (q : ℕ) (j : Instruction) → instr_at code q ≡ j → KnownAt here q ≡ true
      → Keeps s.unit (effect_of s j) q
  obeys plain s seen q Match e k =
      ap (λ (o : Option (List Raw)). end_in (events_of o)) (acted q Match k e) ∙ ap (λ (b : Bool). option_map place_of (if b then Some origin else None)) fine
  obeys plain s seen q Fail e k = nothing q (acted q Fail k e)
  obeys plain s seen q (Character c n) e k = reads s.unit (λ d. d == c) q n seen.unit k (acted q (Character c n) k e)
  obeys plain s seen q (Member edges n) e k = reads s.unit (has edges) q n seen.unit k (acted q (Member edges n) k e)
  obeys plain s seen q (RawByte byte n) e k = absurd (subst IsPlainInstr e (plain q))
  obeys plain s seen q (Assert a n) e k =
      subst (λ (b : Bool). Keeps s.unit (moves_if b n) q) (sym (holds_seen x limit here s seen a (subst IsPlainInstr e (plain q))))
      (moves s.unit q n (holds x a here) k (acted q (Assert a n) k e))
  obeys plain s seen q (Split a b) e k = parts q a b k (acted q (Split a b) k e)
  obeys plain s seen q (Open g n) e k = passes q n here k (acted q (Open g n) k e)
  obeys plain s seen q (Close g n) e k = passes q n here k (acted q (Close g n) k e)
  obeys plain s seen q (Enter body) e k = absurd (subst IsPlainInstr e (plain q))
  obeys plain s seen q (Commit n) e k = absurd (subst IsPlainInstr e (plain q))
  obeys plain s seen q (Look behind body n) e k = absurd (subst IsPlainInstr e (plain q))
  obeys plain s seen q (Deny behind body n) e k = absurd (subst IsPlainInstr e (plain q))
  obeys plain s seen q (Test body other) e k = absurd (subst IsPlainInstr e (plain q))
  obeys plain s seen q (Back m n) e k = absurd (subst IsPlainInstr e (plain q))
  obeys plain s seen q (Recall folded number moved still) e k = absurd (subst IsPlainInstr e (plain q))
  obeys plain s seen q (Keep n) e k = absurd (subst IsPlainInstr e (plain q))
  obeys plain s seen q (Continue n) e k = absurd (subst IsPlainInstr e (plain q))
  obeys plain s seen q (Taken number n) e k = absurd (subst IsPlainInstr e (plain q))

  -- so the ends at a place and after the unit that is read there are those of the code
  pub solves : ArePlain code → (s : Seen) → IsSeen x limit here s → Solves code s here (Ends here) (Ends (After s.unit))
      (KnownAt here) (KnownAt (After s.unit)) RankAt
  solves plain s seen q k = obeys plain s seen q (instr_at code q) refl k

easy_of : (i : Instruction) → IsPlainInstr i → IsEasyInstr i
easy_of Match p = tt
easy_of Fail p = tt
easy_of (Character c n) p = tt
easy_of (Member edges n) p = tt
easy_of (RawByte byte n) p = tt
easy_of (Assert a n) p = tt
easy_of (Split a b) p = tt
easy_of (Open g n) p = tt
easy_of (Close g n) p = tt
easy_of (Enter body) p = absurd p
easy_of (Commit n) p = absurd p
easy_of (Look behind body n) p = absurd p
easy_of (Deny behind body n) p = absurd p
easy_of (Test body other) p = absurd p
easy_of (Back m n) p = absurd p
easy_of (Recall folded number moved still) p = absurd p
easy_of (Keep n) p = absurd p
easy_of (Continue n) p = absurd p
easy_of (Taken number n) p = absurd p

-- plain code is easy
pub plain_easy : (code : List Instruction) → ArePlain code → AreEasy code
plain_easy code plain q = easy_of (instr_at code q) (plain q)
