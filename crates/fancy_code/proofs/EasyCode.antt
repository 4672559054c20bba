-- Easy code reads neither captures nor where groups began: what it gives depends on the instruction and the place alone.
use Rattle.std.proofs.Common.{◌≡◌, ℕ, zero, suc, Bool, true, false, List, [], ◌∷◌, ◌++◌, length, Option, Some, None, refl, ap, subst}
use Rattle.std.specs.Prelude.{nat_le, if◌then◌else◌, ◌==◌}
use Rattle.fancy_tree.specs.Sets.{has}
use Rattle.fancy_code.specs.Instructions.{Instruction, Match, Fail, Character, Member, RawByte, Assert, Split, Open, Close, Enter, Commit, Look, Deny, Test, Back, Recall, Keep, Continue, Taken}
use Rattle.fancy_meaning.specs.Context.{Context, State, moved_to, past_item, past_byte, holds}
use Rattle.fancy_code.specs.Run.{Raw, Note, Stop, Sign, choice_opened, returned, fetched, Go, before, join, onward, instr_at, act, run}
use Rattle.fancy_code.specs.Compile.{IsEasyInstr}

-- the same but for captures
abbrev pub Alike : List Raw → List Raw → Type 0
Alike [] [] = Unit {0}
Alike [] (e ∷ es) = ⊥
Alike (e ∷ w) [] = ⊥
Alike (Note m ∷ w) (Note n ∷ es) = (m ≡ n) × Alike w es
Alike (Note m ∷ w) (Stop q s v ∷ es) = ⊥
Alike (Stop q s v ∷ w) (Note m ∷ es) = ⊥
Alike (Stop q s v ∷ w) (Stop p r u ∷ es) = (s.place ≡ r.place) × Alike w es

abbrev pub BothAlike : Option (List Raw) → Option (List Raw) → Type 0
BothAlike None None = Unit {0}
BothAlike None (Some es) = ⊥
BothAlike (Some w) None = ⊥
BothAlike (Some w) (Some es) = Alike w es

alike_append : (w es a b : List Raw) → Alike w es → Alike a b → Alike (w ++ a) (es ++ b)
alike_append [] [] a b f g = g
alike_append [] (e ∷ es) a b f g = absurd f
alike_append (e ∷ w) [] a b f g = absurd f
alike_append (Note m ∷ w) (Note n ∷ es) a b f g = (f.0, alike_append w es a b f.1 g)
alike_append (Note m ∷ w) (Stop q s v ∷ es) a b f g = absurd f
alike_append (Stop q s v ∷ w) (Note m ∷ es) a b f g = absurd f
alike_append (Stop q s v ∷ w) (Stop p r u ∷ es) a b f g = (f.0, alike_append w es a b f.1 g)

before_both : (m : Sign) (o p : Option (List Raw)) → BothAlike o p → BothAlike (before (Note m) o) (before (Note m) p)
before_both m None None f = tt
before_both m None (Some es) f = absurd f
before_both m (Some w) None f = absurd f
before_both m (Some w) (Some es) f = (refl, f)

join_both : (o p a b : Option (List Raw)) → BothAlike o p → BothAlike a b → BothAlike (join o a) (join p b)
join_both None None a b f g = tt
join_both None (Some es) a b f g = absurd f
join_both (Some w) None a b f g = absurd f
join_both (Some w) (Some es) None None f g = tt
join_both (Some w) (Some es) None (Some b) f g = absurd g
join_both (Some w) (Some es) (Some a) None f g = absurd g
join_both (Some w) (Some es) (Some a) (Some b) f g = alike_append w es (Note returned ∷ a) (Note returned ∷ b) f (refl, g)

if_alike : (c : Bool) (o p : Option (List Raw)) → BothAlike o p → BothAlike (if c then o else (Some [])) (if c then p else (Some []))
if_alike true o p f = f
if_alike false o p f = tt

-- from an instruction and a place
abbrev pub Blind : Go → Type 0
Blind go = (q : ℕ) (s r : State) (v u : List ℕ) → s.place ≡ r.place → BothAlike (go q s v) (go q r u)

onward_both : (limit : ℕ) (go : Go) (next : ℕ) (s r : State) (v u : List ℕ) (o : Option ℕ) → Blind go → BothAlike (onward limit go next s v o) (onward limit go next r u o)
onward_both limit go next s r v u None f = tt
onward_both limit go next s r v u (Some p) f = if_alike (nat_le p limit) _ _ (f next (moved_to s p) (moved_to r p) v u refl)

item_both : (limit : ℕ) (go : Go) (next : ℕ) (s r : State) (v u : List ℕ) (past : ℕ → Option ℕ) → Blind go → s.place ≡ r.place
    → BothAlike (onward limit go next s v (past s.place)) (onward limit go next r u (past r.place))
item_both limit go next s r v u past f e =
    subst (λ (y : ℕ). BothAlike (onward limit go next s v (past s.place)) (onward limit go next r u (past y))) e (onward_both limit go next s r v u (past s.place) f)

module _ (x : Context) (limit : ℕ) where
  pub act_both : (q : ℕ) (i : Instruction) (go far : Go) → IsEasyInstr i → Blind go → (s r : State) (v u : List ℕ) → s.place ≡ r.place
      → BothAlike (act x limit q i go far s v) (act x limit q i go far r u)
  act_both q Match go far k f s r v u e = (e, tt)
  act_both q Fail go far k f s r v u e = tt
  act_both q (Character c next) go far k f s r v u e = item_both limit go next s r v u (past_item x (λ d. d == c)) f e
  act_both q (Member edges next) go far k f s r v u e = item_both limit go next s r v u (past_item x (has edges)) f e
  act_both q (RawByte byte next) go far k f s r v u e = item_both limit go next s r v u (past_byte x byte) f e
  act_both q (Assert a next) go far k f s r v u e =
      subst (λ (y : ℕ). BothAlike (if holds x a s.place then (go next s v) else (Some [])) (if holds x a y then (go next r u) else (Some []))) e
      (if_alike (holds x a s.place) _ _ (f next s r v u e))
  act_both q (Split a b) go far k f s r v u e = before_both choice_opened _ _ (join_both _ _ _ _ (f a s r v u e) (f b s r v u e))
  act_both q (Open g next) go far k f s r v u e = f next s r _ _ e
  act_both q (Close g next) go far k f s r v u e = f next _ _ v u e
  act_both q (Enter body) go far k f s r v u e = absurd k
  act_both q (Commit next) go far k f s r v u e = absurd k
  act_both q (Look behind body next) go far k f s r v u e = absurd k
  act_both q (Deny behind body next) go far k f s r v u e = absurd k
  act_both q (Test body other) go far k f s r v u e = absurd k
  act_both q (Back n next) go far k f s r v u e = absurd k
  act_both q (Recall folded number moved still) go far k f s r v u e = absurd k
  act_both q (Keep next) go far k f s r v u e = absurd k
  act_both q (Continue next) go far k f s r v u e = absurd k
  act_both q (Taken number next) go far k f s r v u e = absurd k

  pub run_both : (code : List Instruction) → ((q : ℕ) → IsEasyInstr (instr_at code q)) → (n : ℕ) → Blind (run x limit code n)
  run_both code easy zero q s r v u e = tt
  run_both code easy (suc n) q s r v u e =
      before_both fetched _ _ (act_both q (instr_at code q) (run x limit code n) (run x (length x.haystack) code n) (easy q) (run_both code easy n) s r v u e)

-- so the number of raw events is the pair's alone
pub alike_length : (w es : List Raw) → Alike w es → length w ≡ length es
alike_length [] [] f = refl
alike_length [] (e ∷ es) f = absurd f
alike_length (e ∷ w) [] f = absurd f
alike_length (Note m ∷ w) (Note n ∷ es) f = ap suc (alike_length w es f.1)
alike_length (Note m ∷ w) (Stop q s v ∷ es) f = absurd f
alike_length (Stop q s v ∷ w) (Note m ∷ es) f = absurd f
alike_length (Stop q s v ∷ w) (Stop p r u ∷ es) f = ap suc (alike_length w es f.1)
