-- Easy code gives the same wherever `\G` holds.
use Rattle.std.proofs.Common.{◌≡◌, ℕ, zero, suc, Bool, ◌==◌, List, [], length, Option, Some, None, refl, ap, ap₂, ◌∙◌}
use Rattle.std.specs.Prelude.{if◌then◌else◌, nat_le, slice_index, slice_set}
use Rattle.fancy_tree.specs.Sets.{has}
use Rattle.fancy_tree.specs.declared.tree.Assertion.{Assertion}
use Rattle.fancy_tree.specs.declared.tree.Assertion.TheVariants.{TextStart, TextEnd, LineStart, LineEnd, LineStartCrlf, LineEndCrlf, LastLine, LastLineCrlf, WordBoundary, NotWordBoundary, WordStart, WordEnd, WordStartHalf, WordEndHalf}
use Rattle.fancy_code.specs.Instructions.{Instruction, Match, Fail, Character, Member, RawByte, Assert, Split, Open, Close, Enter, Commit, Look, Deny, Test, Back, Recall, Keep, Continue, Taken}
use Rattle.fancy_meaning.specs.Context.{Context, State, moved_to, with_capture, unit_at, past_item, past_byte, holds}
use Rattle.fancy_code.specs.Run.{Raw, Note, choice_opened, fetched, Go, before, join, onward, instr_at, act, run}
use Rattle.fancy_code.specs.Compile.{IsEasyInstr, AreEasy}

-- the same, with `\G` at another place or nowhere
abbrev pub continued_at : Context → Option ℕ → Context
continued_at x here = record x { continues_at = here }

item_elsewhere : (x : Context) (here : Option ℕ) (test : ℕ → Bool) (p : ℕ) → past_item (continued_at x here) test p ≡ past_item x test p
unfolding past_item unit_at
item_elsewhere x here test p = refl

byte_elsewhere : (x : Context) (here : Option ℕ) (byte p : ℕ) → past_byte (continued_at x here) byte p ≡ past_byte x byte p
unfolding past_byte
byte_elsewhere x here byte p = refl

holds_elsewhere : (x : Context) (here : Option ℕ) (a : Assertion) (p : ℕ) → holds (continued_at x here) a p ≡ holds x a p
unfolding holds
holds_elsewhere x here TextStart p = refl
holds_elsewhere x here TextEnd p = refl
holds_elsewhere x here LineStart p = refl
holds_elsewhere x here LineEnd p = refl
holds_elsewhere x here LineStartCrlf p = refl
holds_elsewhere x here LineEndCrlf p = refl
holds_elsewhere x here LastLine p = refl
holds_elsewhere x here LastLineCrlf p = refl
holds_elsewhere x here WordBoundary p = refl
holds_elsewhere x here NotWordBoundary p = refl
holds_elsewhere x here WordStart p = refl
holds_elsewhere x here WordEnd p = refl
holds_elsewhere x here WordStartHalf p = refl
holds_elsewhere x here WordEndHalf p = refl

-- two that give the same at each instruction
abbrev Agree : Go → Go → Type 0
Agree f g = (q : ℕ) (s : State) (v : List ℕ) → f q s v ≡ g q s v

onward_agrees : (limit : ℕ) (f g : Go) (next : ℕ) (s : State) (v : List ℕ) (o : Option ℕ) → Agree f g → onward limit f next s v o ≡ onward limit g next s v o
onward_agrees limit f g next s v None h = refl
onward_agrees limit f g next s v (Some p) h = ap (λ (w : Option (List Raw)). if nat_le p limit then w else (Some [])) (h next (moved_to s p) v)

module _ (x : Context) (here : Option ℕ) (limit : ℕ) where
  onward_elsewhere : (f g : Go) (next : ℕ) (s : State) (v : List ℕ) (o u : Option ℕ) → Agree f g → o ≡ u → onward limit f next s v o ≡ onward limit g next s v u
  onward_elsewhere f g next s v o u h e = onward_agrees limit f g next s v o h ∙ ap (onward limit g next s v) e

  act_elsewhere : (q : ℕ) (i : Instruction) (f g far away : Go) → IsEasyInstr i → Agree f g → (s : State) (v : List ℕ)
      → act (continued_at x here) limit q i f far s v ≡ act x limit q i g away s v
  act_elsewhere q Match f g far away k h s v = refl
  act_elsewhere q Fail f g far away k h s v = refl
  act_elsewhere q (Character c next) f g far away k h s v = onward_elsewhere f g next s v _ _ h (item_elsewhere x here (λ d. d == c) s.place)
  act_elsewhere q (Member edges next) f g far away k h s v = onward_elsewhere f g next s v _ _ h (item_elsewhere x here (has edges) s.place)
  act_elsewhere q (RawByte byte next) f g far away k h s v = onward_elsewhere f g next s v _ _ h (byte_elsewhere x here byte s.place)
  act_elsewhere q (Assert a next) f g far away k h s v =
      ap₂ (λ (b : Bool) (w : Option (List Raw)). if b then w else (Some [])) (holds_elsewhere x here a s.place) (h next s v)
  act_elsewhere q (Split a b) f g far away k h s v = ap₂ (λ (o u : Option (List Raw)). before (Note choice_opened) (join o u)) (h a s v) (h b s v)
  act_elsewhere q (Open group next) f g far away k h s v = h next s (slice_set v group s.place)
  act_elsewhere q (Close group next) f g far away k h s v = h next (with_capture s group (slice_index v group)) v
  act_elsewhere q (Enter body) f g far away k h s v = absurd k
  act_elsewhere q (Commit next) f g far away k h s v = absurd k
  act_elsewhere q (Look behind body next) f g far away k h s v = absurd k
  act_elsewhere q (Deny behind body next) f g far away k h s v = absurd k
  act_elsewhere q (Test body other) f g far away k h s v = absurd k
  act_elsewhere q (Back n next) f g far away k h s v = absurd k
  act_elsewhere q (Recall folded number moved still) f g far away k h s v = absurd k
  act_elsewhere q (Keep next) f g far away k h s v = absurd k
  act_elsewhere q (Continue next) f g far away k h s v = absurd k
  act_elsewhere q (Taken number next) f g far away k h s v = absurd k

  pub run_elsewhere : (code : List Instruction) → AreEasy code → (n : ℕ) → Agree (run (continued_at x here) limit code n) (run x limit code n)
  run_elsewhere code easy zero q s v = refl
  run_elsewhere code easy (suc n) q s v =
      ap (before (Note fetched))
      (act_elsewhere q (instr_at code q) (run (continued_at x here) limit code n) (run x limit code n) (run (continued_at x here) (length x.haystack) code n) (run x (length x.haystack) code n)
      (easy q) (run_elsewhere code easy n) s v)
