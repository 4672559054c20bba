-- Easy code leaves the kept start alone, so an outcome is accepted by its place.
use Rattle.std.proofs.Common.{◌≡◌, ℕ, zero, suc, Bool, true, false, ◌==◌, List, [], ◌∷◌, ◌++◌, length, filter, Option, Some, None, refl, ap, ◌∙◌, subst}
use Rattle.std.specs.Prelude.{if◌then◌else◌, nat_le, slice_index, slice_set}
use Rattle.fancy_tree.specs.Sets.{has}
use Rattle.fancy_code.specs.Instructions.{Instruction, Match, Fail, Character, Member, RawByte, Assert, Split, Open, Close, Enter, Commit, Look, Deny, Test, Back, Recall, Keep, Continue, Taken}
use Rattle.fancy_meaning.specs.Context.{Context, State, moved_to, with_capture, past_item, past_byte, holds}
use Rattle.fancy_meaning.specs.Events.{Event, mark, return, outcome, outcomes_in}
use Rattle.fancy_code.specs.Run.{Raw, Note, Stop, Sign, choice_opened, returned, fetched, Go, Ends, AllStops, before, join, onward, instr_at, act, run, erase}
use Rattle.fancy_code.specs.Compile.{IsEasyInstr, AreEasy}
use Rattle.fancy_meaning.specs.Search.{first_one}
use Rattle.fancy_code.specs.Thread.{first_accepted, ends_well}

abbrev KeepsAt : ℕ → Ends
KeepsAt k q s v = s.kept ≡ k

-- each outcome keeps the start k
abbrev AllKeep : ℕ → Option (List Raw) → Type 0
AllKeep k None = Unit {0}
AllKeep k (Some w) = AllStops (KeepsAt k) w

abbrev Keeps : Go → Type 0
Keeps go = (q : ℕ) (s : State) (v : List ℕ) → AllKeep s.kept (go q s v)

stops_both : (k : ℕ) (a b : List Raw) → AllStops (KeepsAt k) a → AllStops (KeepsAt k) b → AllStops (KeepsAt k) (a ++ b)
stops_both k [] b f g = g
stops_both k (Note m ∷ a) b f g = stops_both k a b f g
stops_both k (Stop q s v ∷ a) b f g = (f.0, stops_both k a b f.1 g)

before_keeps : (k : ℕ) (m : Sign) (o : Option (List Raw)) → AllKeep k o → AllKeep k (before (Note m) o)
before_keeps k m None f = tt
before_keeps k m (Some w) f = f

join_keeps : (k : ℕ) (o p : Option (List Raw)) → AllKeep k o → AllKeep k p → AllKeep k (join o p)
join_keeps k None p f g = tt
join_keeps k (Some a) None f g = tt
join_keeps k (Some a) (Some b) f g = stops_both k a (Note returned ∷ b) f g

if_keeps : (k : ℕ) (c : Bool) (o : Option (List Raw)) → AllKeep k o → AllKeep k (if c then o else (Some []))
if_keeps k true o f = f
if_keeps k false o f = tt

onward_keeps : (limit : ℕ) (go : Go) (next : ℕ) (s : State) (v : List ℕ) (o : Option ℕ) → Keeps go → AllKeep s.kept (onward limit go next s v o)
onward_keeps limit go next s v None f = tt
onward_keeps limit go next s v (Some p) f = if_keeps s.kept (nat_le p limit) (go next (moved_to s p) v) (f next (moved_to s p) v)

module _ (x : Context) (limit : ℕ) where
  act_keeps : (q : ℕ) (i : Instruction) (go far : Go) → IsEasyInstr i → Keeps go → (s : State) (v : List ℕ) → AllKeep s.kept (act x limit q i go far s v)
  act_keeps q Match go far k f s v = (refl, tt)
  act_keeps q Fail go far k f s v = tt
  act_keeps q (Character c next) go far k f s v = onward_keeps limit go next s v (past_item x (λ d. d == c) s.place) f
  act_keeps q (Member edges next) go far k f s v = onward_keeps limit go next s v (past_item x (has edges) s.place) f
  act_keeps q (RawByte byte next) go far k f s v = onward_keeps limit go next s v (past_byte x byte s.place) f
  act_keeps q (Assert a next) go far k f s v = if_keeps s.kept (holds x a s.place) (go next s v) (f next s v)
  act_keeps q (Split a b) go far k f s v = before_keeps s.kept choice_opened (join (go a s v) (go b s v)) (join_keeps s.kept (go a s v) (go b s v) (f a s v) (f b s v))
  act_keeps q (Open group next) go far k f s v = f next s (slice_set v group s.place)
  act_keeps q (Close group next) go far k f s v = f next (with_capture s group (slice_index v group)) v
  act_keeps q (Enter body) go far k f s v = absurd k
  act_keeps q (Commit next) go far k f s v = absurd k
  act_keeps q (Look behind body next) go far k f s v = absurd k
  act_keeps q (Deny behind body next) go far k f s v = absurd k
  act_keeps q (Test body other) go far k f s v = absurd k
  act_keeps q (Back n next) go far k f s v = absurd k
  act_keeps q (Recall folded number moved still) go far k f s v = absurd k
  act_keeps q (Keep next) go far k f s v = absurd k
  act_keeps q (Continue next) go far k f s v = absurd k
  act_keeps q (Taken number next) go far k f s v = absurd k

  run_keeps : (code : List Instruction) → AreEasy code → (n : ℕ) → Keeps (run x limit code n)
  run_keeps code easy zero q s v = tt
  run_keeps code easy (suc n) q s v =
      before_keeps s.kept fetched (act x limit q (instr_at code q) (run x limit code n) (run x (length x.haystack) code n) s v)
      (act_keeps q (instr_at code q) (run x limit code n) (run x (length x.haystack) code n) (easy q) (run_keeps code easy n) s v)

  pub known_keeps : (code : List Instruction) → AreEasy code → (n q : ℕ) (s : State) (v : List ℕ) (w : List Raw) → run x limit code n q s v ≡ Some w → AllStops (KeepsAt s.kept) w
  known_keeps code easy n q s v w e = subst (AllKeep s.kept) e (run_keeps code easy n q s v)

if_same : (c d : Bool) (s : State) (a b : Option State) → c ≡ d → a ≡ b → (if c then Some s else a) ≡ (if d then Some s else b)
if_same c d s a b e f = ap (λ (y : Bool). if y then Some s else a) e ∙ ap (λ (o : Option State). if d then Some s else o) f

-- the first outcome that one test accepts is the first that the other accepts, where the two agree at the kept start
pub same_accepted : (k : ℕ) (ok : State → Bool) (good : ℕ → Bool) → ((s : State) → s.kept ≡ k → ok s ≡ good s.place) → (w : List Raw) → AllStops (KeepsAt k) w
    → first_accepted ok (erase w) ≡ first_accepted (ends_well good) (erase w)
same_accepted k ok good f [] stops = refl
same_accepted k ok good f (Note choice_opened ∷ w) stops = same_accepted k ok good f w stops
same_accepted k ok good f (Note returned ∷ w) stops = same_accepted k ok good f w stops
same_accepted k ok good f (Note fetched ∷ w) stops = same_accepted k ok good f w stops
same_accepted k ok good f (Stop q s v ∷ w) stops = if_same (ok s) (good s.place) s _ _ (f s stops.0) (same_accepted k ok good f w stops.1)

filter_one : (c : Bool) (s : State) (ss : List State) (o : Option State) → first_one ss ≡ o → first_one (if c then (s ∷ ss) else ss) ≡ (if c then Some s else o)
filter_one true s ss o e = refl
filter_one false s ss o e = e

-- the first of the accepted outcomes
pub first_filtered : (ok : State → Bool) (es : List Event) → first_one (filter ok (outcomes_in es)) ≡ first_accepted ok es
first_filtered ok [] = refl
first_filtered ok (mark ∷ es) = first_filtered ok es
first_filtered ok (return ∷ es) = first_filtered ok es
first_filtered ok (outcome s ∷ es) = filter_one (ok s) s (filter ok (outcomes_in es)) (first_accepted ok es) (first_filtered ok es)

pub none_filtered : (ok : State → Bool) → ((s : State) → ok s ≡ false) → (ss : List State) → first_one (filter ok ss) ≡ None
none_filtered ok f [] = refl
none_filtered ok f (s ∷ ss) =
    ap (λ (c : Bool). first_one (if c then (s ∷ filter ok ss) else (filter ok ss))) (f s) ∙ none_filtered ok f ss
