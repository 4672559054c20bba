-- What is known of the code stays known where more instructions are followed.
use Rattle.std.proofs.Common.{◌≡◌, ℕ, zero, suc, Bool, true, false, List, [], ◌∷◌, Option, Some, None, refl, sym, ap, ap₂, ◌∙◌, ◌≤◌, length, arith}
use Rattle.std.specs.Prelude.{length, is_some, slice_index, slice_set, nat_le, if◌then◌else◌, ◌==◌}
use Rattle.std.proofs.lemmas.Option.{get_or_from_slice_get, none-some}
use Rattle.fancy_tree.specs.Sets.{has}
use Rattle.fancy_code.specs.Instructions.{Instruction, Match, Fail, Character, Member, RawByte, Assert, Split, Open, Close, Enter, Commit, Look, Deny, Test, Back, Recall, Keep, Continue, Taken}
use Rattle.fancy_meaning.specs.Context.{Context, State, moved_to, with_capture, group_span, past_item, past_byte, units_back, holds, continues, option_to}
use Rattle.fancy_meaning.specs.Backreference.{past_backreference}
use Rattle.fancy_meaning.specs.Events.{Event, any, ends_look}
use Rattle.fancy_code.specs.Run.{Raw, Note, Stop, choice_opened, returned, fetched, Go, Ends, before, join, guard, fenced, onward, rejoin, resume, halt, Given, instr_at, act, run}
use Rattle.fancy_code.specs.Compile.{Has}

-- what the one knows, the other knows too
abbrev pub More : Option (List Raw) → Option (List Raw) → Type 0
More o o' = (w : List Raw) → o ≡ Some w → o' ≡ Some w

abbrev pub MoreGo : Go → Go → Type 0
MoreGo go go' = (q : ℕ) (s : State) (v : List ℕ) → More (go q s v) (go' q s v)

if_more : (b : Bool) (o o' p : Option (List Raw)) → More o o' → More (if b then o else p) (if b then o' else p)
if_more true o o' p f = f
if_more false o o' p f = λ w h. h

if_both : (b : Bool) (o o' p p' : Option (List Raw)) → More o o' → More p p' → More (if b then o else p) (if b then o' else p')
if_both true o o' p p' f g = f
if_both false o o' p p' f g = g

pub before_more : (e : Raw) (o o' : Option (List Raw)) → More o o' → More (before e o) (before e o')
before_more e None o' f w h = absurd (none-some w h)
before_more e (Some a) o' f w h = ap (before e) (f a refl) ∙ h

join_more : (a b a' b' : Option (List Raw)) → More a a' → More b b' → More (join a b) (join a' b')
join_more None b a' b' f g w h = absurd (none-some w h)
join_more (Some a) None a' b' f g w h = absurd (none-some w h)
join_more (Some a) (Some b) a' b' f g w h = ap₂ join (f a refl) (g b refl) ∙ h

guard_more : (es : List Raw) (go go' : Go) (wanted : State → Bool) (m m' : Option (List Raw)) → MoreGo go go' → More m m'
    → More (guard go wanted m es) (guard go' wanted m' es)
guard_more [] go go' wanted m m' f g = g
guard_more (Note n ∷ es) go go' wanted m m' f g = before_more (Note n) _ _ (guard_more es go go' wanted m m' f g)
guard_more (Stop q s v ∷ es) go go' wanted m m' f g = if_both (wanted s) _ _ _ _ (f q s v) (guard_more es go go' wanted m m' f g)

-- for the instructions that open a region
pub fenced_more : (go go' : Go) (wanted : State → Bool) (m m' o o' : Option (List Raw)) → MoreGo go go' → More m m' → More o o'
    → More (fenced go wanted m o) (fenced go' wanted m' o')
fenced_more go go' wanted m m' None o' f g h w e = absurd (none-some w e)
fenced_more go go' wanted m m' (Some es) o' f g h w e =
    ap (fenced go' wanted m') (h es refl) ∙ guard_more es go go' wanted m m' f g w e

onward_more : (limit : ℕ) (go go' : Go) (next : ℕ) (s : State) (v : List ℕ) (p : Option ℕ) → MoreGo go go'
    → More (onward limit go next s v p) (onward limit go' next s v p)
onward_more limit go go' next s v None f = λ w h. h
onward_more limit go go' next s v (Some p) f = if_more (nat_le p limit) _ _ _ (f next (moved_to s p) v)

rejoin_more : (limit : ℕ) (go go' : Go) (moved still : ℕ) (s : State) (v : List ℕ) (p : Option ℕ) → MoreGo go go'
    → More (rejoin limit go moved still s v p) (rejoin limit go' moved still s v p)
rejoin_more limit go go' moved still s v None f = λ w h. h
rejoin_more limit go go' moved still s v (Some p) f =
    if_more (nat_le p limit) _ _ _ (if_both (p == s.place) _ _ _ _ (f still (moved_to s p) v) (f moved (moved_to s p) v))

back_more : (go go' : Go) (next : ℕ) (s : State) (v : List ℕ) (o : Option ℕ) → MoreGo go go'
    → More (option_to o (Some []) (λ p. go next (moved_to s p) v)) (option_to o (Some []) (λ p. go' next (moved_to s p) v))
back_more go go' next s v None f = λ w h. h
back_more go go' next s v (Some p) f = f next (moved_to s p) v

same_more : (o : Option (List Raw)) → More o o
same_more o w h = h

resume_more : (go go' : Go) (next p : ℕ) → MoreGo go go' → MoreGo (resume go next p) (resume go' next p)
resume_more go go' next p f q s v = f next (moved_to s p) v

module _ (x : Context) (limit : ℕ) where
  pub act_more : (q : ℕ) (i : Instruction) (go go' far far' : Go) → MoreGo go go' → MoreGo far far' → (s : State) (v : List ℕ)
      → More (act x limit q i go far s v) (act x limit q i go' far' s v)
  act_more q Match go go' far far' f g s v = λ w h. h
  act_more q Fail go go' far far' f g s v = λ w h. h
  act_more q (Character c next) go go' far far' f g s v = onward_more limit go go' next s v (past_item x (λ d. d == c) s.place) f
  act_more q (Member edges next) go go' far far' f g s v = onward_more limit go go' next s v (past_item x (has edges) s.place) f
  act_more q (RawByte byte next) go go' far far' f g s v = onward_more limit go go' next s v (past_byte x byte s.place) f
  act_more q (Assert a next) go go' far far' f g s v = if_more (holds x a s.place) _ _ _ (f next s v)
  act_more q (Split a b) go go' far far' f g s v = before_more (Note choice_opened) _ _ (join_more _ _ _ _ (f a s v) (f b s v))
  act_more q (Open k next) go go' far far' f g s v = f next s (slice_set v k s.place)
  act_more q (Close k next) go go' far far' f g s v = f next (with_capture s k (slice_index v k)) v
  act_more q (Enter body) go go' far far' f g s v = fenced_more go go' any (Some []) (Some []) _ _ f (same_more (Some [])) (f body s v)
  act_more q (Commit next) go go' far far' f g s v = λ w h. h
  act_more q (Look behind body next) go go' far far' f g s v =
      fenced_more (resume go next s.place) (resume go' next s.place) (ends_look behind s.place) (Some []) (Some []) _ _
      (resume_more go go' next s.place f) (same_more (Some [])) (g body s v)
  act_more q (Deny behind body next) go go' far far' f g s v =
      before_more (Note choice_opened) _ _
      (fenced_more halt halt (ends_look behind s.place) _ _ _ _ (λ q r u. same_more (Some [])) (before_more (Note returned) _ _ (f next s v)) (g body s v))
  act_more q (Test body other) go go' far far' f g s v =
      before_more (Note choice_opened) _ _ (fenced_more go go' any _ _ _ _ f (before_more (Note returned) _ _ (f other s v)) (f body s v))
  act_more q (Back n next) go go' far far' f g s v = back_more go go' next s v (units_back x n s.place) f
  act_more q (Recall folded number moved still) go go' far far' f g s v = rejoin_more limit go go' moved still s v (past_backreference x folded number s) f
  act_more q (Keep next) go go' far far' f g s v = f next (record s { kept = s.place }) v
  act_more q (Continue next) go go' far far' f g s v = if_more (continues x s.place) _ _ _ (f next s v)
  act_more q (Taken number next) go go' far far' f g s v = if_more (is_some (group_span s number)) _ _ _ (f next s v)

pub run_more : (x : Context) (limit : ℕ) (code : List Instruction) (n q : ℕ) (s : State) (v : List ℕ) → More (run x limit code n q s v) (run x limit code (suc n) q s v)
run_more x limit code zero q s v = λ w h. absurd (none-some w h)
run_more x limit code (suc n) q s v =
    before_more (Note fetched) _ _
    (act_more x limit q (instr_at code q) (run x limit code n) (run x limit code (suc n)) (run x (length x.haystack) code n) (run x (length x.haystack) code (suc n))
    (run_more x limit code n) (run_more x (length x.haystack) code n) s v)

module _ (x : Context) (limit : ℕ) (code : List Instruction) where
  -- a run that is known is one fetch, and then what the instruction says of the same run
  pub known_act : (deep q : ℕ) (s : State) (v : List ℕ) (w : List Raw) → run x limit code deep q s v ≡ Some w
      → run x limit code deep q s v ≡ before (Note fetched) (act x limit q (instr_at code q) (run x limit code deep) (run x (length x.haystack) code deep) s v)
  known_act zero q s v w k = absurd (none-some w k)
  known_act (suc n) q s v w k =
      k
      ∙ sym (before_more (Note fetched) _ _
      (act_more x limit q (instr_at code q) (run x limit code n) (run x limit code (suc n)) (run x (length x.haystack) code n) (run x (length x.haystack) code (suc n))
      (run_more x limit code n) (run_more x (length x.haystack) code n) s v) w k)

  pub has_at : (q : ℕ) (i : Instruction) → Has code q i → instr_at code q ≡ i
  has_at q i h = get_or_from_slice_get code q i Fail h

  pub given_more : (P : Ends) (o o' : Option (List Raw)) (es : List Event) → More o o' → Given P o es → Given P o' es
  given_more P o o' es f g = (g.0, f g.0 g.1, g.2, g.3)

-- no instruction stands past the end
pub past_end : (code : List Instruction) (q : ℕ) → length code ≤ q → instr_at code q ≡ Fail
past_end [] q h = refl
past_end (i ∷ code) zero h = absurd (omega arith)
past_end (i ∷ code) (suc q) h = past_end code q (omega arith)
