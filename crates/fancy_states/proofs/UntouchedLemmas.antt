-- Plain code keeps the kept start that it began with, and where it ends no group, the groups.
use Rattle.std.proofs.Common.{◌≡◌, ℕ, zero, suc, Bool, true, false, ◌==◌, List, [], ◌∷◌, ◌++◌, length, Option, Some, None, refl, subst}
use Rattle.std.specs.Prelude.{if◌then◌else◌, nat_le, slice_index, slice_set}
use Rattle.fancy_tree.specs.Sets.{has}
use Rattle.fancy_input.specs.declared.span.Span.{Span}
use Rattle.fancy_code.specs.Instructions.{Instruction, Match, Fail, Character, Member, RawByte, Assert, Split, Open, Close, Enter, Commit, Look, Deny, Test, Back, Recall, Keep, Continue, Taken}
use Rattle.fancy_meaning.specs.Context.{Context, State, holds, moved_to, past_item, with_capture}
use Rattle.fancy_code.specs.Run.{Raw, Note, Stop, Sign, choice_opened, returned, fetched, Go, Ends, AllStops, before, join, onward, instr_at, act, run, erase}
use Rattle.fancy_code.specs.Thread.{first_accepted}
use Rattle.fancy_states.specs.Futures.{ArePlain, EndsNoGroup, IsPlainInstr}

-- a state with this kept start, and where `whole` holds, with these groups
pub record IsUntouched (whole : Type 0) (groups : List (Option Span)) (kept : ℕ) (s : State) : Type 0 where
  pub captures : whole → s.captures ≡ groups
  pub start : s.kept ≡ kept

module _ (whole : Type 0) (groups : List (Option Span)) (kept : ℕ) where
  abbrev Untouched : Ends
  Untouched q s v = IsUntouched whole groups kept s

  -- each outcome is such
  abbrev AllUntouched : Option (List Raw) → Type 0
  AllUntouched None = Unit {0}
  AllUntouched (Some w) = AllStops Untouched w

  abbrev Leaves : Go → Type 0
  Leaves go = (q : ℕ) (s : State) (v : List ℕ) → IsUntouched whole groups kept s → AllUntouched (go q s v)

  stops_both : (a b : List Raw) → AllStops Untouched a → AllStops Untouched b → AllStops Untouched (a ++ b)
  stops_both [] b f g = g
  stops_both (Note m ∷ a) b f g = stops_both a b f g
  stops_both (Stop q s v ∷ a) b f g = (f.0, stops_both a b f.1 g)

  before_leaves : (m : Sign) (o : Option (List Raw)) → AllUntouched o → AllUntouched (before (Note m) o)
  before_leaves m None f = tt
  before_leaves m (Some w) f = f

  join_leaves : (o p : Option (List Raw)) → AllUntouched o → AllUntouched p → AllUntouched (join o p)
  join_leaves None p f g = tt
  join_leaves (Some a) None f g = tt
  join_leaves (Some a) (Some b) f g = stops_both a (Note returned ∷ b) f g

  if_leaves : (c : Bool) (o : Option (List Raw)) → AllUntouched o → AllUntouched (if c then o else (Some []))
  if_leaves true o f = f
  if_leaves false o f = tt

  onward_leaves : (limit : ℕ) (go : Go) (next : ℕ) (s : State) (v : List ℕ) (o : Option ℕ) → Leaves go → IsUntouched whole groups kept s
      → AllUntouched (onward limit go next s v o)
  onward_leaves limit go next s v None f is = tt
  onward_leaves limit go next s v (Some p) f is =
      if_leaves (nat_le p limit) (go next (moved_to s p) v) (f next (moved_to s p) v (record { captures = is.captures; start = is.start }))

  module _ (x : Context) (limit : ℕ) where
    act_leaves : (q : ℕ) (i : Instruction) (go far : Go) → IsPlainInstr i → (whole → (group next : ℕ) → i ≡ Close group next → ⊥)
        → Leaves go → (s : State) (v : List ℕ) → IsUntouched whole groups kept s → AllUntouched (act x limit q i go far s v)
    act_leaves q Match go far k none f s v is = (is, tt)
    act_leaves q Fail go far k none f s v is = tt
    act_leaves q (Character c next) go far k none f s v is = onward_leaves limit go next s v (past_item x (λ d. d == c) s.place) f is
    act_leaves q (Member edges next) go far k none f s v is = onward_leaves limit go next s v (past_item x (has edges) s.place) f is
    act_leaves q (RawByte byte next) go far k none f s v is = absurd k
    act_leaves q (Assert a next) go far k none f s v is = if_leaves (holds x a s.place) (go next s v) (f next s v is)
    act_leaves q (Split a b) go far k none f s v is = before_leaves choice_opened (join (go a s v) (go b s v)) (join_leaves (go a s v) (go b s v) (f a s v is) (f b s v is))
    act_leaves q (Open group next) go far k none f s v is = f next s (slice_set v group s.place) is
    act_leaves q (Close group next) go far k none f s v is =
        f next (with_capture s group (slice_index v group)) v (record { captures = λ w. absurd (none w group next refl); start = is.start })
    act_leaves q (Enter body) go far k none f s v is = absurd k
    act_leaves q (Commit next) go far k none f s v is = absurd k
    act_leaves q (Look behind body next) go far k none f s v is = absurd k
    act_leaves q (Deny behind body next) go far k none f s v is = absurd k
    act_leaves q (Test body other) go far k none f s v is = absurd k
    act_leaves q (Back n next) go far k none f s v is = absurd k
    act_leaves q (Recall folded number moved still) go far k none f s v is = absurd k
    act_leaves q (Keep next) go far k none f s v is = absurd k
    act_leaves q (Continue next) go far k none f s v is = absurd k
    act_leaves q (Taken number next) go far k none f s v is = absurd k

    run_leaves : (code : List Instruction) → ArePlain code → (whole → EndsNoGroup code) → (n : ℕ) → Leaves (run x limit code n)
    run_leaves code plain none zero q s v is = tt
    run_leaves code plain none (suc n) q s v is =
        before_leaves fetched (act x limit q (instr_at code q) (run x limit code n) (run x (length x.haystack) code n) s v)
        (act_leaves q (instr_at code q) (run x limit code n) (run x (length x.haystack) code n) (plain q) (λ w. none w q) (run_leaves code plain none n) s v is)

    known_leaves : (code : List Instruction) → ArePlain code → (whole → EndsNoGroup code) → (n q : ℕ) (s : State) (v : List ℕ) (w : List Raw) → IsUntouched whole groups kept s
        → run x limit code n q s v ≡ Some w → AllStops Untouched w
    known_leaves code plain none n q s v w is e = subst AllUntouched e (run_leaves code plain none n q s v is)

  first_leaves : (ok : State → Bool) (w : List Raw) (s : State) → AllStops Untouched w → first_accepted ok (erase w) ≡ Some s → IsUntouched whole groups kept s
  first_leaves ok [] s stops e = cc
  first_leaves ok (Note choice_opened ∷ w) s stops e = first_leaves ok w s stops e
  first_leaves ok (Note returned ∷ w) s stops e = first_leaves ok w s stops e
  first_leaves ok (Note fetched ∷ w) s stops e = first_leaves ok w s stops e
  first_leaves ok (Stop q r v ∷ w) s stops e = by (λ f. first_leaves ok w s stops.1 f) (ok r) e where
    by : (first_accepted ok (erase w) ≡ Some s → IsUntouched whole groups kept s) → (b : Bool) → (if b then Some r else (first_accepted ok (erase w))) ≡ Some s → IsUntouched whole groups kept s
    by rest true e = let same : r ≡ s = cc in subst (IsUntouched whole groups kept) same stops.0
    by rest false e = rest e

  -- the first accepted outcome of a run of plain code
  pub outcome_untouched : (x : Context) (limit : ℕ) (code : List Instruction) → ArePlain code → (whole → EndsNoGroup code) → (n q : ℕ) (s r : State) (v : List ℕ) (w : List Raw) (ok : State → Bool)
      → IsUntouched whole groups kept s → run x limit code n q s v ≡ Some w → first_accepted ok (erase w) ≡ Some r → IsUntouched whole groups kept r
  outcome_untouched x limit code plain none n q s r v w ok is e first = first_leaves ok w r (known_leaves x limit code plain none n q s v w is e) first
