-- Every walk of a pattern leads on, and the star is what it says.
use Rattle.std.proofs.Common.{◌≡◌, ℕ, zero, suc, ◌+◌, ◌-◌, ◌<◌, ◌≤◌, Bool, true, false, List, [], ◌∷◌, length, Option, Some, None, if◌then◌else◌, nat_le, ◌==◌, ◌&&◌, refl, ap, arith, leb-true, le_refl, le_trans, slice_get, is_some, take, drop}
use Rattle.std.specs.Str.{str_eq_ignore_ascii_case}
use borrow.Author.Tests.{eqb-false}
use Rattle.fancy_tree.specs.declared.tree.Meaning.{Meaning}
use Rattle.fancy_tree.specs.declared.tree.Meaning.TheVariants.{Unicode, Bytes, AsciiText}
use Rattle.fancy_tree.specs.declared.tree.RepeatKind.{RepeatKind}
use Rattle.fancy_tree.specs.declared.tree.RepeatKind.TheVariants.{Greedy, Lazy, Possessive}
use Rattle.fancy_tree.specs.Pattern.{Pattern, empty, character, member_of, in_any_case, raw_byte, backreference, assertion, group_test, keep_start, continue_here, group, repeat, look_ahead, look_behind, atomic, conditional, followed, or_else, last_branch}
use Rattle.fancy_tree.specs.Sizes.{is_empty}
use Rattle.fancy_input.specs.Places.{has_bytes_at}
use Rattle.fancy_input.specs.declared.span.Span.{Span}
use Rattle.fancy_meaning.specs.Context.{Context, State, Unit_at, group_span, unit_at, past_item, past_byte, holds, continues, option_to}
use Rattle.fancy_meaning.specs.Backreference.{captured_text, past_text, past_letters, shares_folding, Piece, whole_character, other_byte, cut, past_piece, past_pieces, past_characters, past_folded, past_span, past_backreference}
use Rattle.fancy_meaning.specs.Events.{Event, mark, return, outcome, Walk, stay, bind, any, prefer, move, holding, copies, optionals, turns, star, put_back, ends_look, looked}
use Rattle.fancy_meaning.specs.Trace.{trace, repeated, by_kind, is_greedy}
use Rattle.fancy_meaning.specs.Forward.{EachOutcome, IsBetween, LeadsOn}
use Rattle.fancy_meaning.proofs.EventLemmas.{bind_cong, EachOutcome-bind, EachOutcome-guarded, EachOutcome_all, EachOutcome-either, EachOutcome-prefer, EachOutcome-only_if, EachOutcome-if}

-- what is past p, if anything
unfoldable pub PastIs : ℕ → Option ℕ → Type 0
PastIs p None = Unit {0}
PastIs p (Some q) = p ≤ q

pub EachOutcome_imp : (P Q : State → Type 0) (es : List Event) → ((s : State) → P s → Q s) → EachOutcome P es → EachOutcome Q es
EachOutcome_imp P Q [] f all = tt
EachOutcome_imp P Q (mark ∷ es) f all = EachOutcome_imp P Q es f all
EachOutcome_imp P Q (return ∷ es) f all = EachOutcome_imp P Q es f all
EachOutcome_imp P Q (outcome s ∷ es) f all = (f s all.0, EachOutcome_imp P Q es f all.1)

same_unless : (b : Bool) (es fs : List Event) → (b ≡ false → es ≡ fs) → (if b then [] else es) ≡ (if b then [] else fs)
same_unless true es fs e = refl
same_unless false es fs e = e refl

pub past_item-past : (x : Context) (test : ℕ → Bool) (p : ℕ) → PastIs p (past_item x test p)
unfolding PastIs past_item
past_item-past x test p =
    elim (unit_at x p) as (λ (u : Option Unit_at). PastIs p (option_to u None (λ u. if test u.code then Some (p + u.width) else None))) [
      | None ↦ tt
      | Some u ↦ elim (test u.code) as (λ b. PastIs p (if b then Some (p + u.width) else None)) [ true ↦ omega arith | false ↦ tt ]
    ]

pub LeadsOn-stay : (limit : ℕ) → LeadsOn limit stay
LeadsOn-stay limit s h = (record { from = le_refl s.place; to = h }, tt)

LeadsOn-move : (limit : ℕ) (s : State) (past : Option ℕ) → PastIs s.place past → EachOutcome (IsBetween s.place limit) (move limit s past)
unfolding PastIs
LeadsOn-move limit s None h = tt
LeadsOn-move limit s (Some p) h =
    EachOutcome-only_if _ (nat_le p limit) _ (λ e. (record { from = h; to = leb-true p limit e }, tt))

pub LeadsOn-holding : (limit : ℕ) (b : Bool) → LeadsOn limit (holding b)
LeadsOn-holding limit b s h = EachOutcome-only_if _ b _ (λ e. LeadsOn-stay limit s h)

pub past_byte-past : (x : Context) (byte p : ℕ) → PastIs p (past_byte x byte p)
unfolding PastIs past_byte
past_byte-past x byte p =
    elim (slice_get x.haystack p) as (λ (u : Option ℕ). PastIs p (option_to u None (λ b. if b == byte then Some (p + 1) else None))) [
      | None ↦ tt
      | Some b ↦ elim (b == byte) as (λ b. PastIs p (if b then Some (p + 1) else None)) [ true ↦ omega arith | false ↦ tt ]
    ]

past_text-past : (x : Context) (text : List ℕ) (p : ℕ) → PastIs p (past_text x text p)
unfolding PastIs past_text
past_text-past x text p =
    elim (has_bytes_at x.haystack p text) as (λ b. PastIs p (if b then Some (p + length text) else None)) [ true ↦ omega arith | false ↦ tt ]

past_letters-past : (x : Context) (text : List ℕ) (p : ℕ) → PastIs p (past_letters x text p)
unfolding PastIs past_letters
past_letters-past x text p =
    elim (str_eq_ignore_ascii_case (take (length text) (drop p x.haystack)) text) as (λ b. PastIs p (if b then Some (p + length text) else None)) [
      | true ↦ omega arith
      | false ↦ tt
    ]

past_from : (p r : ℕ) (o : Option ℕ) → p ≤ r → PastIs r o → PastIs p o
unfolding PastIs
past_from p r None le h = tt
past_from p r (Some q) le h = le_trans le h

-- one step past p, and then on from there
past_then : (p : ℕ) (o : Option ℕ) (next : ℕ → Option ℕ) → PastIs p o → ((r : ℕ) → PastIs r (next r)) → PastIs p (option_to o None (λ r. next r))
unfolding PastIs
past_then p None next first on = tt
past_then p (Some r) next first on = past_from p r (next r) first (on r)

past_piece-past : (x : Context) (piece : Piece) (p : ℕ) → PastIs p (past_piece x piece p)
past_piece-past x (whole_character c) p = past_item-past x (shares_folding c) p
past_piece-past x (other_byte b) p = past_byte-past x b p

past_pieces-past : (x : Context) (pieces : List Piece) (p : ℕ) → PastIs p (past_pieces x pieces p)
unfolding PastIs past_pieces
past_pieces-past x [] p = le_refl p
past_pieces-past x (piece ∷ pieces) p = past_then p (past_piece x piece p) (past_pieces x pieces) (past_piece-past x piece p) (past_pieces-past x pieces)

past_characters-past : (x : Context) (text : List ℕ) (p : ℕ) → PastIs p (past_characters x text p)
unfolding past_characters
past_characters-past x text p = past_pieces-past x (cut text) p

past_folded-past : (x : Context) (m : Meaning) (text : List ℕ) (p : ℕ) → PastIs p (past_folded x m text p)
past_folded-past x Unicode text p = past_characters-past x text p
past_folded-past x Bytes text p = past_letters-past x text p
past_folded-past x AsciiText text p = past_letters-past x text p

past_span-past : (x : Context) (folded : Bool) (span : Option Span) (p : ℕ) → PastIs p (past_span x folded span p)
unfolding PastIs
past_span-past x folded None p = tt
past_span-past x false (Some span) p = past_text-past x (captured_text x span) p
past_span-past x true (Some span) p = past_folded-past x x.meaning (captured_text x span) p

pub past_backreference-past : (x : Context) (folded : Bool) (number : ℕ) (s : State) → PastIs s.place (past_backreference x folded number s)
unfolding past_backreference
past_backreference-past x folded number s = past_span-past x folded (group_span s number) s.place

pub LeadsOn-bind : (limit : ℕ) (walk next : Walk) → LeadsOn limit walk → LeadsOn limit next → LeadsOn limit (λ s. bind (walk s) next)
LeadsOn-bind limit walk next here later s h =
    EachOutcome-bind (IsBetween s.place limit) (IsBetween s.place limit) (walk s) next (here s h)
    (λ t b. EachOutcome_imp _ _ (next t) (λ u c. record { from = le_trans b.from c.from; to = c.to }) (later t b.to))

pub LeadsOn-copies : (limit n : ℕ) (body rest : Walk) → LeadsOn limit body → LeadsOn limit rest → LeadsOn limit (copies n body rest)
LeadsOn-copies limit zero body rest a b s h = b s h
LeadsOn-copies limit (suc n) body rest a b s h =
    LeadsOn-bind limit body (copies n body rest) a (LeadsOn-copies limit n body rest a b) s h

pub LeadsOn-optionals : (greedy : Bool) (limit n : ℕ) (body : Walk) → LeadsOn limit body → LeadsOn limit (optionals greedy n body)
LeadsOn-optionals greedy limit zero body a s h = LeadsOn-stay limit s h
LeadsOn-optionals greedy limit (suc n) body a s h =
    EachOutcome-prefer _ greedy _ _
    (LeadsOn-bind limit body (optionals greedy n body) a (LeadsOn-optionals greedy limit n body a) s h)
    (LeadsOn-stay limit s h)

pub LeadsOn-turns : (greedy : Bool) (limit n : ℕ) (body : Walk) → LeadsOn limit body → LeadsOn limit (turns greedy n body)
LeadsOn-turns greedy limit zero body a s h = tt
LeadsOn-turns greedy limit (suc n) body a s h =
    EachOutcome-prefer _ greedy _ _
    (EachOutcome-bind (IsBetween s.place limit) (IsBetween s.place limit) (body s) _ (a s h)
    (λ t b. EachOutcome-if _ (t.place == s.place) _ _ tt
    (EachOutcome_imp _ _ (turns greedy n body t) (λ u c. record { from = le_trans b.from c.from; to = c.to })
    (LeadsOn-turns greedy limit n body a t b.to))))
    (LeadsOn-stay limit s h)

-- turns of a body that stays within a bound do so, whatever the limit
pub LeadsOn-repeated : (greedy : Bool) (limit bound low : ℕ) (high : Option ℕ) (body : Walk) → LeadsOn bound body →
    LeadsOn bound (repeated greedy limit low high body)
LeadsOn-repeated greedy limit bound low None body a =
    LeadsOn-copies bound low body (star greedy limit body) a (λ s h. LeadsOn-turns greedy bound (suc (limit - s.place)) body a s h)
LeadsOn-repeated greedy limit bound low (Some high) body a =
    LeadsOn-copies bound low body (optionals greedy (high - low) body) a (LeadsOn-optionals greedy bound (high - low) body a)

pub LeadsOn-by_kind : (P : State → Type 0) (kind : RepeatKind) (es : List Event) → EachOutcome P es → EachOutcome P (by_kind kind es)
LeadsOn-by_kind P Greedy es a = a
LeadsOn-by_kind P Lazy es a = a
LeadsOn-by_kind P Possessive es a = EachOutcome-guarded P P any stay [] es a (λ s h. (h, tt)) tt

pub LeadsOn-looked : (limit : ℕ) (negated behind : Bool) (s : State) (es : List Event) → s.place ≤ limit →
    EachOutcome (IsBetween s.place limit) (looked negated behind s es)
LeadsOn-looked limit true behind s es h =
    EachOutcome-guarded (λ t. Unit {0}) (IsBetween s.place limit) (ends_look behind s.place) (λ t. []) (return ∷ stay s) es
    (EachOutcome_all _ es (λ t. tt)) (λ t u. tt) (LeadsOn-stay limit s h)
LeadsOn-looked limit false behind s es h =
    EachOutcome-guarded (λ t. Unit {0}) (IsBetween s.place limit) (ends_look behind s.place) (put_back s.place) [] es
    (EachOutcome_all _ es (λ t. tt)) (λ t u. (record { from = le_refl s.place; to = h }, tt)) tt

-- a pattern leads on, and ends by the limit
pub LeadsOn-trace : (x : Context) (limit : ℕ) (p : Pattern) → LeadsOn limit (trace x limit p)
unfolding trace
LeadsOn-trace x limit empty s h = LeadsOn-stay limit s h
LeadsOn-trace x limit (character c) s h = LeadsOn-move limit s _ (past_item-past x _ s.place)
LeadsOn-trace x limit (member_of edges) s h = LeadsOn-move limit s _ (past_item-past x _ s.place)
LeadsOn-trace x limit (in_any_case edges) s h = LeadsOn-move limit s _ (past_item-past x _ s.place)
LeadsOn-trace x limit (raw_byte byte) s h = LeadsOn-move limit s _ (past_byte-past x byte s.place)
LeadsOn-trace x limit (backreference folded number) s h = LeadsOn-move limit s _ (past_backreference-past x folded number s)
LeadsOn-trace x limit (assertion a) s h = LeadsOn-holding limit (holds x a s.place) s h
LeadsOn-trace x limit (group_test number) s h = LeadsOn-holding limit (is_some (group_span s number)) s h
LeadsOn-trace x limit keep_start s h = (record { from = le_refl s.place; to = h }, tt)
LeadsOn-trace x limit continue_here s h = LeadsOn-holding limit (continues x s.place) s h
LeadsOn-trace x limit (group index body) s h =
    EachOutcome-bind (IsBetween s.place limit) _ (trace x limit body s) _ (LeadsOn-trace x limit body s h)
    (λ t b. (record { from = b.from; to = b.to }, tt))
LeadsOn-trace x limit (repeat low high kind body) s h =
    LeadsOn-by_kind _ kind _ (LeadsOn-repeated (is_greedy kind) limit limit low high (trace x limit body) (LeadsOn-trace x limit body) s h)
LeadsOn-trace x limit (look_ahead negated body) s h = LeadsOn-looked limit negated false s _ h
LeadsOn-trace x limit (look_behind negated body) s h = LeadsOn-looked limit negated true s _ h
LeadsOn-trace x limit (atomic body) s h =
    EachOutcome-guarded (IsBetween s.place limit) (IsBetween s.place limit) any stay [] (trace x limit body s)
    (LeadsOn-trace x limit body s h) (λ t b. (b, tt)) tt
LeadsOn-trace x limit (conditional condition on_match otherwise) s h =
    EachOutcome-if _ (is_empty on_match && is_empty otherwise) _ _
    (EachOutcome-guarded (IsBetween s.place limit) (IsBetween s.place limit) any stay [] (trace x limit condition s)
    (LeadsOn-trace x limit condition s h) (λ t b. (b, tt)) tt)
    (EachOutcome-guarded (IsBetween s.place limit) (IsBetween s.place limit) any (trace x limit on_match)
    (return ∷ trace x limit otherwise s) (trace x limit condition s) (LeadsOn-trace x limit condition s h)
    (λ t b. EachOutcome_imp _ _ (trace x limit on_match t) (λ u c. record { from = le_trans b.from c.from; to = c.to })
    (LeadsOn-trace x limit on_match t b.to))
    (LeadsOn-trace x limit otherwise s h))
LeadsOn-trace x limit (followed part rest) s h =
    LeadsOn-bind limit (trace x limit part) (trace x limit rest) (LeadsOn-trace x limit part) (LeadsOn-trace x limit rest) s h
LeadsOn-trace x limit (or_else branch others) s h =
    EachOutcome-either (IsBetween s.place limit) (trace x limit branch s) (trace x limit others s)
    (LeadsOn-trace x limit branch s h) (LeadsOn-trace x limit others s h)
LeadsOn-trace x limit (last_branch branch) s h = LeadsOn-trace x limit branch s h

-- more turns than the place leaves room for change nothing
turns_enough : (greedy : Bool) (limit : ℕ) (body : Walk) → LeadsOn limit body → (m n : ℕ) (s : State) → s.place ≤ limit →
    limit - s.place < m → limit - s.place < n → turns greedy m body s ≡ turns greedy n body s
turns_enough greedy limit body a zero n s h p q = absurd (omega arith)
turns_enough greedy limit body a (suc m) zero s h p q = absurd (omega arith)
turns_enough greedy limit body a (suc m) (suc n) s h p q =
    ap (λ es. prefer greedy es (stay s))
    (bind_cong (IsBetween s.place limit) (body s) _ _ (a s h)
    (λ t b. same_unless (t.place == s.place) _ _
    (λ ne. let b_from = b.from in let b_to = b.to in let apart : (t.place ≡ s.place → ⊥) = eqb-false t.place s.place ne in
    turns_enough greedy limit body a m n t b.to (omega arith) (omega arith))))

-- the star is a mark, a turn that moves on and then the star, a return, and the state; or the other way round
pub star-is : (greedy : Bool) (limit : ℕ) (body : Walk) → LeadsOn limit body → (s : State) → s.place ≤ limit →
    star greedy limit body s
    ≡ prefer greedy (bind (body s) (λ t. if t.place == s.place then [] else star greedy limit body t)) (stay s)
star-is greedy limit body a s h =
    ap (λ es. prefer greedy es (stay s))
    (bind_cong (IsBetween s.place limit) (body s) _ _ (a s h)
    (λ t b. same_unless (t.place == s.place) _ _
    (λ ne. let b_from = b.from in let b_to = b.to in let apart : (t.place ≡ s.place → ⊥) = eqb-false t.place s.place ne in
    turns_enough greedy limit body a (limit - s.place) (suc (limit - t.place)) t b.to (omega arith) (omega arith))))
