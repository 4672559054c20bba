-- A text that spells something is read so, and what is read is spelled so.
use Rattle.std.proofs.Common.{◌≡◌, ℕ, zero, suc, ◌+◌, ◌≤◌, ◌==◌, ◌||◌, ◌&&◌, not, Bool, true, false, List, [], ◌∷◌, ◌++◌, length, Option, Some, None, drop, refl, sym, ap, ◌∙◌, subst, append_assoc, append-nil, inl, inr, cond, codes, nat_eq, arith}
use Rattle.std.specs.Option.{option_map}
use Rattle.std.specs.List.{starts_with, list_all}
use Rattle.fancy_tree.specs.declared.tree.Meaning.{Meaning}
use Rattle.fancy_tree.specs.declared.tree.RepeatKind.{RepeatKind}
use Rattle.fancy_tree.specs.declared.tree.RepeatKind.TheVariants.{Greedy, Lazy, Possessive}
use Rattle.fancy_syntax.specs.declared.groups.Grouping.{Grouping}
use Rattle.fancy_tree.specs.Pattern.{Pattern, backreference, repeat, in_branches}
use Rattle.fancy_tree.specs.Sizes.{is_empty}
use Rattle.fancy_tree.specs.Limits.{most_parentheses}
use Rattle.fancy_tree.specs.Text.{Text, ◌∈◌}
use Rattle.fancy_class.specs.Words.{is_at_any, is_at, begins}
use Rattle.fancy_syntax.specs.Counts.{is_count, begins_count}
use Rattle.fancy_syntax.specs.Blanks.{past_blank}
use Rattle.fancy_tree.specs.Names.{is_name_character, is_name, name_here, past_name}
use Rattle.fancy_syntax.specs.References as references
use Rattle.fancy_syntax.specs.References.{Target, called, group_condition, is_left_out}
use Rattle.fancy_syntax.specs.Dialect as d
use Rattle.fancy_syntax.specs.Dialect.{Flags, Scope, in_force, Setting, one_more_group, one_more_name, NameMark, name_mark, name_mark_after_p, GroupMark, mark_atomic, mark_ahead, mark_not_ahead, mark_behind, mark_not_behind, inside, wants, test_here, Condition, TestsNoGroup, back_to, ReadsAtom, begins_quantifier, Quantifier, optional, asterisk, plus, exactly, at_least, between, at_most, Quantifies, greedily, lazily, possessively, Blanks, IsUnquantified}
use Rattle.fancy_syntax.specs.Grammar as g
use Rattle.fancy_syntax.specs.Grammar.{Place, place_past, past_blanks, after_blanks, RepeatBounds, bounds_in, past_count, are_bounds, opening_here, opens_group, parentheses, wrap, ends_branch, start}
use Rattle.fancy_tree.proofs.Facts.{some_pair, some_is_none, chosen, same_some, char_is, either_no, both_true, left_of}
use Rattle.fancy_syntax.proofs.ParserLemmas.{referred}
use Rattle.fancy_syntax.proofs.ReferenceLemmas.{ends_reference, reference_begins, no_paren_begun, no_end_begun, no_blank_begun}
use Rattle.fancy_syntax.proofs.ConditionLemmas.{condition_is_read, condition_is_spelled, tests_no_group, none_is_read}
use Rattle.fancy_syntax.proofs.AtomLemmas.{ends_atom, no_paren, no_end}
use Rattle.fancy_syntax.proofs.FlagLemmas.{setting_is_read, no_colon_first, no_angle_first, no_p_first, no_mark_first, no_parenthesis_first, no_hash_first, setting_spelled}
use Rattle.fancy_tree.proofs.NameLemmas.{no_closing, no_parenthesis, no_equals_sign, no_exclamation_mark, other_character, name_is_read, past_read, name_is_some, row_is_name, row_then_rest}
use Rattle.fancy_class.proofs.WordLemmas.{begins_with}
use Rattle.fancy_syntax.proofs.BlankLemmas.{read_blanks, end_is_no_blank, quantifier_is_no_blank, unquantified_is_read, unquantified_is_spelled, skipped, no_blank_left}
use Rattle.fancy_class.proofs.WordLemmas.{first_is as at_char}
use Rattle.fancy_syntax.proofs.CountLemmas.{IsRead, exactly_is_read, at_least_is_read, between_is_read, at_most_is_read, count_spelled}

-- a name begins with neither of the characters that make look-behind of a `<`
name_is_no_look : (n rest : Text) → is_name n ≡ true → (is_at "=" (n ++ rest) ≡ false) × (is_at "!" (n ++ rest) ≡ false)
name_is_no_look [] rest h = cc
name_is_no_look (c ∷ n) rest h =
    let b = (both_true (is_name_character c) (list_all is_name_character n) h).0 in
    (rw (other_character 61 c no_equals_sign b) refl, rw (other_character 33 c no_exclamation_mark b) refl)

either_false : (a b : Bool) → (a || b) ≡ false → (a ≡ false) × (b ≡ false)
either_false true b h = cc
either_false false b h = (refl, h)

-- What is spelled begins as an item may, and not where a branch ends.
pub atom_begins : {k : ℕ} {s q : Scope} {t after : Text} {a : Pattern} → d.Atom k s t after a q → ends_branch (t ++ after) ≡ false
atom_begins (d.single b r) = no_end r
atom_begins (d.plain b) = refl
atom_begins (d.flagged f b) = refl
atom_begins (d.capture n h b) = refl
atom_begins (d.unnamed n h b) = refl
atom_begins (d.named n m h b) = refl
atom_begins (d.marked m b) = refl
atom_begins {s = s} {t = t} {after = after} (d.reference h) = no_end_begun (t ++ after) (reference_begins s.opened (t ++ after) h)
atom_begins (d.reference_by_name n h) = refl
atom_begins (d.tested c h b) = refl
atom_begins (d.decided c h f a b) = refl

pub item_begins : {k : ℕ} {s q : Scope} {t after : Text} {x : Option Pattern} → d.Item k s t after x q → ends_branch (t ++ after) ≡ false
item_begins (d.set f) = refl
item_begins (d.bare a h) = atom_begins a
item_begins (d.quantified {t = t} {u = u} {v = v} {after = after} a e b h) = rw (append_assoc t (u ++ v) after, append_assoc u v after) (atom_begins a)

-- no blank begins there
capture_is_no_blank : (x : Bool) (t : Text) → is_at "?*" t ≡ false → past_blank x (40 ∷ t) ≡ None
capture_is_no_blank x [] h = refl
capture_is_no_blank x (c ∷ t) h = let n = either_no (63 == c) ((42 == c) || false) h in rw n.0 refl

flags_are_no_blank : (x : Bool) {m : Meaning} {t : Text} {f g : Flags} → Setting m t f g → (rest : Text) → past_blank x (40 ∷ 63 ∷ (t ++ rest)) ≡ None
flags_are_no_blank x s rest = let n = no_hash_first s in rw n.2.0 (rw n.2.1 refl)

name_is_no_blank : (x : Bool) {m : Text} → NameMark m → (t rest : Text) → past_blank x (40 ∷ 63 ∷ ((m ++ t) ++ rest)) ≡ None
name_is_no_blank x name_mark t rest = refl
name_is_no_blank x name_mark_after_p t rest = refl

mark_is_no_blank : (x : Bool) {m : Text} {how : Grouping} → GroupMark m how → (rest : Text) → past_blank x (40 ∷ (m ++ rest)) ≡ None
mark_is_no_blank x mark_atomic rest = refl
mark_is_no_blank x mark_ahead rest = refl
mark_is_no_blank x mark_not_ahead rest = refl
mark_is_no_blank x mark_behind rest = refl
mark_is_no_blank x mark_not_behind rest = refl

pub atom_is_no_blank : {k : ℕ} {s q : Scope} {t after : Text} {a : Pattern} → d.Atom k s t after a q → past_blank s.flags.ignore_blanks (t ++ after) ≡ None
atom_is_no_blank (d.single b r) = b
atom_is_no_blank (d.plain b) = refl
atom_is_no_blank {s = s} {after = after} (d.flagged {u = u} {t = t} f b) = rw (append_assoc u (58 ∷ (t ++ 41 ∷ [])) after) (flags_are_no_blank s.flags.ignore_blanks f ((58 ∷ (t ++ 41 ∷ [])) ++ after))
atom_is_no_blank {s = s} {after = after} (d.capture {t = t} n h b) = rw (append_assoc t (41 ∷ []) after) (capture_is_no_blank s.flags.ignore_blanks (t ++ 41 ∷ after) h)
atom_is_no_blank {s = s} {after = after} (d.unnamed {t = t} n h b) = rw (append_assoc t (41 ∷ []) after) (capture_is_no_blank s.flags.ignore_blanks (t ++ 41 ∷ after) h)
atom_is_no_blank {s = s} {after = after} (d.named {t = t} n m h b) = name_is_no_blank s.flags.ignore_blanks m (n ++ (62 ∷ (t ++ 41 ∷ []))) after
atom_is_no_blank {s = s} {after = after} (d.marked {m = m} {t = t} w b) = rw (append_assoc m (t ++ 41 ∷ []) after) (mark_is_no_blank s.flags.ignore_blanks w ((t ++ 41 ∷ []) ++ after))
atom_is_no_blank {s = s} {t = t} {after = after} (d.reference h) = no_blank_begun s.flags.ignore_blanks (t ++ after) (reference_begins s.opened (t ++ after) h)
atom_is_no_blank (d.reference_by_name n h) = refl
atom_is_no_blank (d.tested c h b) = refl
atom_is_no_blank (d.decided c h f a b) = refl

pub item_is_no_blank : {k : ℕ} {s q : Scope} {t after : Text} {x : Option Pattern} → d.Item k s t after x q → past_blank s.flags.ignore_blanks (t ++ after) ≡ None
item_is_no_blank {s = s} {after = after} (d.set {t = t} f) = rw (append_assoc t (41 ∷ []) after) (flags_are_no_blank s.flags.ignore_blanks f (41 ∷ after))
item_is_no_blank (d.bare a h) = atom_is_no_blank a
item_is_no_blank (d.quantified {t = t} {u = u} {v = v} {after = after} a e b h) = rw (append_assoc t (u ++ v) after, append_assoc u v after) (atom_is_no_blank a)

-- the quantifier that is spelled is read
turns_begin : {t : Text} {low : ℕ} {high : Option ℕ} → Quantifier t low high → (after : Text) → begins_quantifier (t ++ after) ≡ true
turns_begin optional after = refl
turns_begin asterisk after = refl
turns_begin plus after = refl
turns_begin (exactly n h) after = rw (append_assoc n (125 ∷ []) after) (exactly_is_read n after h).begins
turns_begin (at_least n h) after = rw (append_assoc n (44 ∷ 125 ∷ []) after) (at_least_is_read n after h).begins
turns_begin (between n m h f le) after = rw (append_assoc n (44 ∷ (m ++ 125 ∷ [])) after, append_assoc m (125 ∷ []) after) (between_is_read n m after h f le).begins
turns_begin (at_most m f) after = rw (append_assoc m (125 ∷ []) after) (at_most_is_read m after f).begins

choose_count : (b : Bool) (c d : RepeatBounds) (u v : Text) (s : Scope) → b ≡ true → c ≡ d → are_bounds d ≡ true → u ≡ v
    → ◌≡◌ {A = Option (RepeatBounds × Place)} (cond {A = Option (RepeatBounds × Place)} (b && are_bounds c) (Some (c, start s u)) None) (Some (d, start s v))
choose_count b c d u v s h e f w = rw (h, e, f, w) refl

count_is_read : {t after : Text} {b : RepeatBounds} → IsRead t after b → (s : Scope) → ◌≡◌ {A = Option (RepeatBounds × Place)} (g.quantifier_here (start s (123 ∷ t))) (Some (b, start s after))
count_is_read {t} {after} {b} x s = choose_count (begins_count (123 ∷ t)) (bounds_in t) b (past_count t) after s x.begins x.bounds x.fits x.follows

turns_are_read : {t : Text} {low : ℕ} {high : Option ℕ} → Quantifier t low high → (s : Scope) (after : Text) → ◌≡◌ {A = Option (RepeatBounds × Place)} (g.quantifier_here (start s (t ++ after))) (Some ((low, high), start s after))
turns_are_read optional s after = refl
turns_are_read asterisk s after = refl
turns_are_read plus s after = refl
turns_are_read (exactly n h) s after = rw (append_assoc n (125 ∷ []) after) (count_is_read (exactly_is_read n after h) s)
turns_are_read (at_least n h) s after = rw (append_assoc n (44 ∷ 125 ∷ []) after) (count_is_read (at_least_is_read n after h) s)
turns_are_read (between n m h f le) s after = rw (append_assoc n (44 ∷ (m ++ 125 ∷ [])) after, append_assoc m (125 ∷ []) after) (count_is_read (between_is_read n m after h f le) s)
turns_are_read (at_most m f) s after = rw (append_assoc m (125 ∷ []) after) (count_is_read (at_most_is_read m after f) s)

greedy_is_read : (s : Scope) (after : Text) → is_at "?+" after ≡ false → ◌≡◌ {A = Option (RepeatKind × Place)} (g.kind (start s after)) (Some (Greedy, start s after))
greedy_is_read s [] h = refl
greedy_is_read s (c ∷ rest) h =
    let m = either_false (63 == c) ((43 == c) || false) h in
    let n = either_false (43 == c) false m.1 in
    rw (m.0, n.0) refl

quantified_is : (a : Pattern) (p : Place) {s q r : Place} {b : RepeatBounds} {how : RepeatKind} → after_blanks p ≡ s → begins_quantifier s.text ≡ true → is_empty a ≡ false → ◌≡◌ {A = Option (RepeatBounds × Place)} (g.quantifier_here s) (Some (b, q))
    → ◌≡◌ {A = Option (RepeatKind × Place)} (g.kind q) (Some (how, r)) → ◌≡◌ {A = Option (Pattern × Place)} (g.with_quantifier a p) (Some (repeat b.0 b.1 how a, r))
quantified_is a p {b = b} is h e f t =
    let begun : begins_quantifier (after_blanks p).text ≡ true = ap (λ (y : Place). begins_quantifier y.text) is ∙ h in
    rw (begun, e) (ap (g.with_kind a) (ap g.quantifier_here is ∙ f) ∙ ap (option_map (λ (found : RepeatKind × Place). (repeat b.0 b.1 found.0 a, found.1))) t)

-- a quantifier that stands at once
mark_here : {u after : Text} {low : ℕ} {high : Option ℕ} {kind : RepeatKind} → Quantifies u after low high kind → (a : Pattern) (s : Scope) (p : Place) → after_blanks p ≡ start s (u ++ after) → is_empty a ≡ false
    → g.with_quantifier a p ≡ Some (repeat low high kind a, start s after)
mark_here {after = after} (greedily {t = t} w h) a s p is e = quantified_is a p is (turns_begin w after) e (turns_are_read w s after) (greedy_is_read s after h)
mark_here {after = after} (lazily {t = t} w) a s p is e =
    quantified_is a p (is ∙ ap (start s) (append_assoc t (63 ∷ []) after)) (turns_begin w (63 ∷ after)) e (turns_are_read w s (63 ∷ after)) refl
mark_here {after = after} (possessively {t = t} w) a s p is e =
    quantified_is a p (is ∙ ap (start s) (append_assoc t (43 ∷ []) after)) (turns_begin w (43 ∷ after)) e (turns_are_read w s (43 ∷ after)) refl

quantifies_begin : {u after : Text} {low : ℕ} {high : Option ℕ} {kind : RepeatKind} → Quantifies u after low high kind → begins_quantifier (u ++ after) ≡ true
quantifies_begin {after = after} (greedily w h) = turns_begin w after
quantifies_begin {after = after} (lazily {t = t} w) = rw (append_assoc t (63 ∷ []) after) (turns_begin w (63 ∷ after))
quantifies_begin {after = after} (possessively {t = t} w) = rw (append_assoc t (43 ∷ []) after) (turns_begin w (43 ∷ after))

pub mark_is_read : {w u after : Text} {low : ℕ} {high : Option ℕ} {kind : RepeatKind} → Quantifies u after low high kind → (a : Pattern) (s : Scope) → Blanks s.flags.ignore_blanks w (u ++ after) → is_empty a ≡ false
    → g.with_quantifier a (start s (w ++ (u ++ after))) ≡ Some (repeat low high kind a, start s after)
mark_is_read {w} {u} {after} q a s b e =
    mark_here q a s (start s (w ++ (u ++ after))) (ap (start s) (read_blanks b (quantifier_is_no_blank s.flags.ignore_blanks (u ++ after) (quantifies_begin q)))) e

pub bare_is_read : (a : Pattern) (s : Scope) (after : Text) → IsUnquantified s.flags.ignore_blanks after → g.with_quantifier a (start s after) ≡ Some (a, start s after)
bare_is_read a s after h = rw (unquantified_is_read s.flags.ignore_blanks after h) refl

unnamed_opens : (s : Scope) (rest : Text) → is_at "?*" rest ≡ false → ◌≡◌ {A = Option (g.Opening × Place)} (opening_here (start s (40 ∷ rest))) (Some (g.unnamed_opening (start s (40 ∷ rest))))
unnamed_opens s [] h = refl
unnamed_opens s (x ∷ rest) h =
    let m = either_false (63 == x) ((42 == x) || false) h in
    let n = either_false (42 == x) false m.1 in
    rw (m.0, n.0) (rw m.0 refl)

pub capture_is_read : (s : Scope) (rest : Text) → s.unnamed_capture ≡ true → is_at "?*" rest ≡ false
    → ◌≡◌ {A = Option (g.Opening × Place)} (opening_here (start s (40 ∷ rest))) (Some (g.capture (s.opened + 1), start (one_more_group s) rest))
capture_is_read s rest u h = unnamed_opens s rest h ∙ ap (λ b. Some (cond {A = g.Opening × Place} b (g.capture (s.opened + 1), start (one_more_group s) rest) (g.plain, start s rest))) u

pub unnamed_is_read : (s : Scope) (rest : Text) → s.unnamed_capture ≡ false → is_at "?*" rest ≡ false → ◌≡◌ {A = Option (g.Opening × Place)} (opening_here (start s (40 ∷ rest))) (Some (g.plain, start s rest))
unnamed_is_read s rest u h = unnamed_opens s rest h ∙ ap (λ b. Some (cond {A = g.Opening × Place} b (g.capture (s.opened + 1), start (one_more_group s) rest) (g.plain, start s rest))) u

plain_opens : g.plain ≡ g.setting → ⊥
plain_opens e = cc

capture_opens : (n : ℕ) → g.capture n ≡ g.setting → ⊥
capture_opens n e = cc

mark_is_no_setting : (how : Grouping) → g.marked how ≡ g.setting → ⊥
mark_is_no_setting how e = cc

reference_is_no_setting : (folded : Bool) (n : ℕ) → g.reference folded n ≡ g.setting → ⊥
reference_is_no_setting folded n e = cc

conditional_is_no_setting : (c : Pattern) → g.chooses c ≡ g.setting → ⊥
conditional_is_no_setting c e = cc

condition_is_no_setting : g.condition ≡ g.setting → ⊥
condition_is_no_setting e = cc

-- flags that are spelled open what they are to open
pub flags_open : (s : Scope) {t : Text} {f : Flags} → Setting s.meaning t s.flags f → (d : ℕ) (rest : Text) → (d ∈ ":)") ≡ true
    → ◌≡◌ {A = Option (g.Opening × Place)} (opening_here (start s (40 ∷ 63 ∷ (t ++ d ∷ rest)))) (Some (cond (58 == d) g.plain g.setting, start (in_force f s) rest))
flags_open s {t} {f} l d rest h =
    let n = no_colon_first l in
    let other : begins "(?:" (40 ∷ 63 ∷ (t ++ d ∷ rest)) ≡ false = rw n.2.0 (rw n.2.1 refl) in
    let a = no_angle_first l in
    let unnamed : begins "(?<" (40 ∷ 63 ∷ (t ++ d ∷ rest)) ≡ false = rw a.2.0 (rw a.2.1 refl) in
    let p = no_p_first l in
    let unnamed_after_p : begins "(?P<" (40 ∷ 63 ∷ (t ++ d ∷ rest)) ≡ false = rw p.2.0 (rw p.2.1 refl) in
    let no_reference : begins "(?P=" (40 ∷ 63 ∷ (t ++ d ∷ rest)) ≡ false = rw p.2.0 (rw p.2.1 refl) in
    let q = no_parenthesis_first l in
    let no_conditional : begins "(?(" (40 ∷ 63 ∷ (t ++ d ∷ rest)) ≡ false = rw q.2.0 (rw q.2.1 refl) in
    rw (other, no_mark_first l (d ∷ rest), unnamed, unnamed_after_p, no_reference, no_conditional) (ap (g.flag_group (start s (40 ∷ 63 ∷ (t ++ d ∷ rest)))) (setting_is_read l d rest h))

choose_name : (s : Scope) (a b : Bool) (m n u v : Text) → a ≡ false → b ≡ true → m ≡ n → u ≡ v
    → ◌≡◌ {A = Option (g.Opening × Place)} (cond {A = Option (g.Opening × Place)} (a || not b) None (Some (g.capture (s.opened + 1), start (one_more_name m s) (drop 1 u)))) (Some (g.capture (s.opened + 1), start (one_more_name n s) (drop 1 v)))
choose_name s a b m n u v h e f w = rw (h, e, f, w) refl

named_is_read : (s : Scope) (whole n rest : Text) → is_name n ≡ true → ◌≡◌ {A = Option (g.Opening × Place)} (g.named_opening (start s whole) (n ++ 62 ∷ rest)) (Some (g.capture (s.opened + 1), start (one_more_name n s) rest))
named_is_read s whole n rest h =
    choose_name s (length (name_here (n ++ 62 ∷ rest)) == 0) (is_at ">" (past_name (n ++ 62 ∷ rest))) (name_here (n ++ 62 ∷ rest)) n (past_name (n ++ 62 ∷ rest)) (62 ∷ rest)
    (ap (λ l. length l == 0) (name_is_read 62 n rest no_closing h) ∙ name_is_some n h) (ap (is_at ">") (past_read 62 n rest no_closing h)) (name_is_read 62 n rest no_closing h) (past_read 62 n rest no_closing h)

-- a name that is spelled opens its group
pub name_opens : (s : Scope) {m : Text} → NameMark m → (n rest : Text) → is_name n ≡ true
    → ◌≡◌ {A = Option (g.Opening × Place)} (opening_here (start s (40 ∷ 63 ∷ (m ++ (n ++ 62 ∷ rest))))) (Some (g.capture (s.opened + 1), start (one_more_name n s) rest))
name_opens s name_mark n rest h =
    let no_look = name_is_no_look n (62 ∷ rest) h in
    let behind : begins "(?<=" (40 ∷ 63 ∷ 60 ∷ (n ++ 62 ∷ rest)) ≡ false = no_word (n ++ 62 ∷ rest) 61 no_look.0 in
    let not_behind : begins "(?<!" (40 ∷ 63 ∷ 60 ∷ (n ++ 62 ∷ rest)) ≡ false = no_word (n ++ 62 ∷ rest) 33 no_look.1 in
    rw (behind, not_behind) (named_is_read s (40 ∷ 63 ∷ 60 ∷ (n ++ 62 ∷ rest)) n rest h)
  where
    no_word : (t : Text) (c : ℕ) → is_at_any (c ∷ []) t ≡ false → starts_with nat_eq t (c ∷ []) ≡ false
    no_word [] c e = refl
    no_word (x ∷ t) c e = rw (either_false (c == x) false e).0 refl
name_opens s name_mark_after_p n rest h = named_is_read s (40 ∷ 63 ∷ 80 ∷ 60 ∷ (n ++ 62 ∷ rest)) n rest h

-- a mark that is spelled opens its group
pub mark_opens : (s : Scope) {m : Text} {how : Grouping} → GroupMark m how → (rest : Text) → ◌≡◌ {A = Option (g.Opening × Place)} (opening_here (start s (40 ∷ (m ++ rest)))) (Some (g.marked how, start (inside how s) rest))
mark_opens s mark_atomic rest = refl
mark_opens s mark_ahead rest = refl
mark_opens s mark_not_ahead rest = refl
mark_opens s mark_behind rest = refl
mark_opens s mark_not_behind rest = refl

choose_reference : (s : Scope) (a b : Bool) (m n u v : Text) → a ≡ false → b ≡ true → m ≡ n → u ≡ v
    → ◌≡◌ {A = Option (g.Opening × Place)} (cond {A = Option (g.Opening × Place)} (a || not b) None (Some (g.reference s.flags.ignore_case (length s.wanted), start (wants (called m) s) (drop 1 u))))
    (Some (g.reference s.flags.ignore_case (length s.wanted), start (wants (called n) s) (drop 1 v)))
choose_reference s a b m n u v h e f w = rw (h, e, f, w) refl

-- a reference to a name that is spelled is one
pub reference_opens : (s : Scope) (n rest : Text) → is_name n ≡ true
    → ◌≡◌ {A = Option (g.Opening × Place)} (opening_here (start s (40 ∷ 63 ∷ 80 ∷ 61 ∷ (n ++ 41 ∷ rest)))) (Some (g.reference s.flags.ignore_case (length s.wanted), start (wants (called n) s) rest))
reference_opens s n rest h =
    choose_reference s (length (name_here (n ++ 41 ∷ rest)) == 0) (is_at ")" (past_name (n ++ 41 ∷ rest))) (name_here (n ++ 41 ∷ rest)) n (past_name (n ++ 41 ∷ rest)) (41 ∷ rest)
    (ap (λ l. length l == 0) (name_is_read 41 n rest no_parenthesis h) ∙ name_is_some n h) (ap (is_at ")") (past_read 41 n rest no_parenthesis h)) (name_is_read 41 n rest no_parenthesis h) (past_read 41 n rest no_parenthesis h)

-- a conditional that is spelled is one
pub test_opens : (s : Scope) (t : Text) {w : Target} {u : Text} → group_condition t ≡ Some (w, u) → ◌≡◌ {A = Option (g.Opening × Place)} (opening_here (start s (40 ∷ 63 ∷ 40 ∷ t))) (Some (g.chooses (test_here s), start (wants w s) u))
test_opens s t h = ap (g.by_test (start s (40 ∷ 63 ∷ 40 ∷ t)) t) h

-- and so is one whose condition is a pattern
pub condition_opens : (s : Scope) (t : Text) → group_condition t ≡ None → is_left_out t ≡ false → ◌≡◌ {A = Option (g.Opening × Place)} (opening_here (start s (40 ∷ 63 ∷ 40 ∷ t))) (Some (g.condition, start s t))
condition_opens s t h f = ap (g.by_test (start s (40 ∷ 63 ∷ 40 ∷ t)) t) h ∙ ap (λ b. cond {A = Option (g.Opening × Place)} b None (Some (g.condition, start s t))) f

one_parenthesis : (k : ℕ) → 1 ≤ suc k
one_parenthesis k = omega arith

two_parentheses : (k : ℕ) → 2 ≤ suc (suc k)
two_parentheses k = omega arith

mutual
  pub read_branches : {k : ℕ} {s r : Scope} {t after : Text} {bs : List Pattern} → d.Branches k s t after bs r → ends_branch after ≡ true → is_at "|" after ≡ false → g.BranchesReading k (start s (t ++ after)) bs (start r after)
  read_branches (d.one p) e f = g.last (read_parts p e) f
  read_branches {after = after} (d.either {q = q} {t = t} {u = u} p b) e f = rw (append_assoc t (124 ∷ u) after) (g.more (read_parts p refl) refl (read_branches b e f))

  pub read_parts : {k : ℕ} {s r : Scope} {t after : Text} {ps : List Pattern} → d.Parts k s t after ps r → ends_branch after ≡ true → g.PartsReading k (start s (t ++ after)) ps (start r after)
  read_parts {k} {s = s} {t = t} {after = after} (d.nothing b) e =
      let left : past_blanks s.flags.ignore_blanks (t ++ after) ≡ after = read_blanks b (end_is_no_blank s.flags.ignore_blanks after e) in
      subst (λ l. g.PartsReading k (start s (t ++ after)) [] (start s l)) left (g.none (ap ends_branch left ∙ e))
  read_parts {k} {s = s} {r = r} {after = after} (d.item {q = q} {t = t} {u = u} {v = v} {x = x} b i p) e =
      let left : past_blanks s.flags.ignore_blanks (t ++ (u ++ (v ++ after))) ≡ u ++ (v ++ after) = read_blanks b (item_is_no_blank i) in
      rw (append_assoc t (u ++ v) after, append_assoc u v after)
      (g.next (ap ends_branch left ∙ item_begins i) (subst (λ l. g.ItemReading k (start s l) x (start q (v ++ after))) (sym left) (read_item i)) (read_parts p e))

  pub read_item : {k : ℕ} {s r : Scope} {t after : Text} {x : Option Pattern} → d.Item k s t after x r → g.ItemReading k (start s (t ++ after)) x (start r after)
  read_item {s = s} {after = after} (d.set {t = t} f) = rw (append_assoc t (41 ∷ []) after) (g.sets refl (g.at_once (flags_open s f 41 after refl) refl (one_parenthesis _)))
  read_item (d.bare {q = q} {after = after} {a = a} b h) = read_atom b (bare_is_read a q after h)
  read_item (d.quantified {q = q} {t = t} {u = u} {v = v} {after = after} {a = a} b e c h) = rw (append_assoc t (u ++ v) after, append_assoc u v after) (read_atom b (mark_is_read h a q c e))

  pub read_atom : {k : ℕ} {s q : Scope} {t after : Text} {a x : Pattern} {r : Place} → d.Atom k s t after a q → g.with_quantifier a (start q after) ≡ Some (x, r) → g.ItemReading k (start s (t ++ after)) (Some x) r
  read_atom (d.single b r) f = g.single (no_paren r) (g.alone r) f
  read_atom {after = after} (d.plain {t = t} b) f = rw (append_assoc t (41 ∷ []) after) (g.grouped refl (g.at_once refl refl (one_parenthesis _)) refl (read_branches b refl refl) refl f)
  read_atom {s = s} {after = after} (d.flagged {u = u} {t = t} l b) f =
      rw (append_assoc u (58 ∷ (t ++ 41 ∷ [])) after, append_assoc t (41 ∷ []) after) (g.grouped refl (g.at_once (flags_open s l 58 (t ++ 41 ∷ after) refl) refl (one_parenthesis _)) refl (read_branches b refl refl) refl f)
  read_atom {s = s} {after = after} (d.capture {t = t} u h b) f =
      rw (append_assoc t (41 ∷ []) after) (g.grouped refl (g.at_once (capture_is_read s (t ++ (41 ∷ after)) u h) refl (one_parenthesis _)) refl (read_branches b refl refl) refl f)
  read_atom {s = s} {after = after} (d.unnamed {t = t} u h b) f =
      rw (append_assoc t (41 ∷ []) after) (g.grouped refl (g.at_once (unnamed_is_read s (t ++ (41 ∷ after)) u h) refl (one_parenthesis _)) refl (read_branches b refl refl) refl f)
  read_atom {s = s} {after = after} (d.named {m = m} {t = t} n l h b) f =
      rw (append_assoc m (n ++ 62 ∷ (t ++ 41 ∷ [])) after, append_assoc n (62 ∷ (t ++ 41 ∷ [])) after, append_assoc t (41 ∷ []) after)
      (g.grouped refl (g.at_once (name_opens s l n (t ++ 41 ∷ after) h) refl (one_parenthesis _)) refl (read_branches b refl refl) refl f)
  read_atom {s = s} {after = after} (d.marked {m = m} {t = t} w b) f =
      rw (append_assoc m (t ++ 41 ∷ []) after, append_assoc t (41 ∷ []) after) (g.grouped refl (g.at_once (mark_opens s w (t ++ 41 ∷ after)) refl (one_parenthesis _)) refl (read_branches b refl refl) refl f)
  read_atom {s = s} {t = t} {after = after} (d.reference h) f = g.single (no_paren_begun (t ++ after) (reference_begins s.opened (t ++ after) h)) (g.refers h) f
  read_atom {s = s} {after = after} (d.reference_by_name n h) f = rw (append_assoc n (41 ∷ []) after) (g.refers_by_name refl (g.at_once (reference_opens s n after h) refl (one_parenthesis _)) f)
  read_atom {s = s} {after = after} (d.tested {k = k} {t = t} c h b) f =
      rw (append_assoc c (41 ∷ (t ++ 41 ∷ [])) after, append_assoc t (41 ∷ []) after)
      (g.grouped refl (g.at_once (test_opens s (c ++ 41 ∷ (t ++ 41 ∷ after)) (condition_is_read h (t ++ 41 ∷ after))) refl (two_parentheses k)) refl (read_branches b refl refl) refl f)
  read_atom {s = s} {after = after} (d.decided {t = t} c h f a b) x =
      rw (append_assoc c (41 ∷ (t ++ 41 ∷ [])) after, append_assoc t (41 ∷ []) after)
      (g.grouped refl (g.after_condition (condition_opens s (c ++ 41 ∷ (t ++ 41 ∷ after)) (none_is_read (c ++ 41 ∷ (t ++ 41 ∷ after)) h) f) (read_branches a refl refl) refl) refl (read_branches b refl refl) refl x)

not_true : (b : Bool) → not b ≡ true → b ≡ false
not_true true h = cc
not_true false h = refl

not_false : (b : Bool) → not b ≡ false → b ≡ true
not_false true h = refl
not_false false h = cc

no_special : (u : Text) → begins "(?" (40 ∷ u) ≡ false → begins "(*" (40 ∷ u) ≡ false → is_at "?*" u ≡ false
no_special [] h f = refl
no_special (x ∷ u) h f = go (63 == x) (42 == x) h f
  where
    go : (a b : Bool) → (a && true) ≡ false → (b && true) ≡ false → (a || (b || false)) ≡ false
    go true b h f = h
    go false true h f = f
    go false false h f = refl

-- what a parenthesis may open
pub data Opened (p : Place) : g.Opening → Place → Type 0 where
  as_plain : (u : Text) → p.text ≡ codes "(?:" ++ u → Opened p g.plain (start p.scope u)
  as_flagged : (t u : Text) (f : Flags) → p.text ≡ codes "(?" ++ (t ++ 58 ∷ u) → Setting p.scope.meaning t p.scope.flags f → Opened p g.plain (start (in_force f p.scope) u)
  as_setting : (t u : Text) (f : Flags) → p.text ≡ codes "(?" ++ (t ++ 41 ∷ u) → Setting p.scope.meaning t p.scope.flags f → Opened p g.setting (start (in_force f p.scope) u)
  as_name : (m n u : Text) → NameMark m → is_name n ≡ true → p.text ≡ codes "(?" ++ (m ++ (n ++ 62 ∷ u)) → Opened p (g.capture (p.scope.opened + 1)) (start (one_more_name n p.scope) u)
  as_capture : (u : Text) → p.scope.unnamed_capture ≡ true → p.text ≡ 40 ∷ u → is_at "?*" u ≡ false → Opened p (g.capture (p.scope.opened + 1)) (start (one_more_group p.scope) u)
  as_unnamed : (u : Text) → p.scope.unnamed_capture ≡ false → p.text ≡ 40 ∷ u → is_at "?*" u ≡ false → Opened p g.plain (start p.scope u)
  as_marked : (m u : Text) (how : Grouping) → GroupMark m how → p.text ≡ 40 ∷ (m ++ u) → Opened p (g.marked how) (start (inside how p.scope) u)
  as_reference : (n u : Text) → is_name n ≡ true → p.text ≡ codes "(?P=" ++ (n ++ 41 ∷ u) → Opened p (g.reference p.scope.flags.ignore_case (length p.scope.wanted)) (start (wants (called n) p.scope) u)
  as_test : (c u : Text) (w : Target) → Condition c w → p.text ≡ codes "(?(" ++ (c ++ 41 ∷ u) → Opened p (g.chooses (test_here p.scope)) (start (wants w p.scope) u)
  as_condition : (u : Text) → group_condition u ≡ None → is_left_out u ≡ false → p.text ≡ codes "(?(" ++ u → Opened p g.condition (start p.scope u)

is_opened : {p : Place} {how : g.Opening} {q : Place} {a : g.Opening} {b : Place} → ◌≡◌ {A = Option (g.Opening × Place)} (Some (a, b)) (Some (how, q)) → Opened p a b → Opened p how q
is_opened {p} {how} {q} {a} {b} s o = let t = some_pair s in subst (λ x. Opened p x q) t.0 (subst (λ y. Opened p a y) t.1 o)

-- the opening by flags
flags_opened : (p : Place) (how : g.Opening) (q : Place) (f : Flags) (t v : Text) → p.text ≡ codes "(?" ++ (t ++ v) → Setting p.scope.meaning t p.scope.flags f → is_at ":)" v ≡ true
    → ◌≡◌ {A = Option (g.Opening × Place)} (g.flag_group p (Some (f, v))) (Some (how, q)) → Opened p how q
flags_opened p how q f t [] is l e h = absurd (some_is_none (sym h))
flags_opened p how q f t (c ∷ v) is l e h = go (58 == c) refl e h
  where
    go : (b : Bool) → (58 == c) ≡ b → (b || ((41 == c) || false)) ≡ true → ◌≡◌ {A = Option (g.Opening × Place)} (Some (cond b g.plain g.setting, start (in_force f p.scope) v)) (Some (how, q)) → Opened p how q
    go true x e h = is_opened h (as_flagged t v f (is ∙ ap (λ d. 40 ∷ 63 ∷ (t ++ d ∷ v)) (char_is 58 c x)) l)
    go false x e h = is_opened h (as_setting t v f (is ∙ ap (λ d. 40 ∷ 63 ∷ (t ++ d ∷ v)) (char_is 41 c (left_of (41 == c) false e refl))) l)

-- the opening by a name
name_opened : (p : Place) (how : g.Opening) (q : Place) (m t : Text) → NameMark m → p.text ≡ codes "(?" ++ (m ++ t) → g.named_opening p t ≡ Some (how, q) → Opened p how q
name_opened p how q m t l is h =
    elim (chosen ((length (name_here t) == 0) || not (is_at ">" (past_name t))) _ _ _ h) [
      | inl x ↦ absurd (some_is_none (sym x.1))
      | inr x ↦
          let n = either_false (length (name_here t) == 0) (not (is_at ">" (past_name t))) x.0 in
          is_opened x.1 (as_name m (name_here t) (drop 1 (past_name t)) l (row_is_name t n.0)
          (is ∙ ap (λ u. 40 ∷ 63 ∷ (m ++ u)) (row_then_rest t ∙ ap (λ u. name_here t ++ u) (at_char 62 (past_name t) (not_false (is_at ">" (past_name t)) n.1)))))
    ]

-- a whole reference to a name
reference_opened : (p : Place) (how : g.Opening) (q : Place) (t : Text) → p.text ≡ codes "(?P=" ++ t → g.named_reference p t ≡ Some (how, q) → Opened p how q
reference_opened p how q t is h =
    elim (chosen ((length (name_here t) == 0) || not (is_at ")" (past_name t))) _ _ _ h) [
      | inl x ↦ absurd (some_is_none (sym x.1))
      | inr x ↦
          let n = either_false (length (name_here t) == 0) (not (is_at ")" (past_name t))) x.0 in
          is_opened x.1 (as_reference (name_here t) (drop 1 (past_name t)) (row_is_name t n.0)
          (is ∙ ap (λ u. 40 ∷ 63 ∷ 80 ∷ 61 ∷ u) (row_then_rest t ∙ ap (λ u. name_here t ++ u) (at_char 41 (past_name t) (not_false (is_at ")" (past_name t)) n.1)))))
    ]

-- a conditional
conditional_opened : (p : Place) (how : g.Opening) (q : Place) (t : Text) → p.text ≡ codes "(?(" ++ t → g.conditional_at p t ≡ Some (how, q) → Opened p how q
conditional_opened p how q t is h = by_condition (group_condition t) refl h
  where
    by_condition : (o : Option (Target × Text)) → group_condition t ≡ o → ◌≡◌ {A = Option (g.Opening × Place)} (g.by_test p t o) (Some (how, q)) → Opened p how q
    by_condition None e f =
        elim (chosen (is_left_out t) _ _ _ f) [
          | inl x ↦ absurd (some_is_none (sym x.1))
          | inr x ↦ is_opened x.1 (as_condition t e x.0 is)
        ]
    by_condition (Some (w, u)) e f =
        let r = condition_is_spelled t e in
        is_opened f (as_test r.condition u w r.tests (is ∙ ap (λ v. 40 ∷ 63 ∷ 40 ∷ v) r.is))

-- a mark that is read is spelled
record MarkRead (t : Text) (how : Grouping) (n : ℕ) : Type 0 where
  mark : Text
  spelled : GroupMark mark how
  is : t ≡ 40 ∷ (mark ++ drop n t)

marked_here : (t : Text) (how : Grouping) (n : ℕ) → g.mark_here t ≡ Some (how, n) → MarkRead t how n
marked_here t how n h =
    elim (chosen (begins "(?>" t) _ _ _ h) [
      | inl x ↦ is_it x.1 (record { mark = codes "?>"; spelled = mark_atomic; is = begins_with (codes "(?>") t x.0 })
      | inr x ↦ elim (chosen (begins "(?=" t) _ _ _ x.1) [
        | inl x ↦ is_it x.1 (record { mark = codes "?="; spelled = mark_ahead; is = begins_with (codes "(?=") t x.0 })
        | inr x ↦ elim (chosen (begins "(?!" t) _ _ _ x.1) [
          | inl x ↦ is_it x.1 (record { mark = codes "?!"; spelled = mark_not_ahead; is = begins_with (codes "(?!") t x.0 })
          | inr x ↦ elim (chosen (begins "(?<=" t) _ _ _ x.1) [
            | inl x ↦ is_it x.1 (record { mark = codes "?<="; spelled = mark_behind; is = begins_with (codes "(?<=") t x.0 })
            | inr x ↦ elim (chosen (begins "(?<!" t) _ _ _ x.1) [
              | inl x ↦ is_it x.1 (record { mark = codes "?<!"; spelled = mark_not_behind; is = begins_with (codes "(?<!") t x.0 })
              | inr x ↦ absurd (some_is_none (sym x.1))
            ]
          ]
        ]
      ]
    ]
  where
    is_it : {a : Grouping} {i : ℕ} → ◌≡◌ {A = Option (Grouping × ℕ)} (Some (a, i)) (Some (how, n)) → MarkRead t a i → MarkRead t how n
    is_it {a} {i} s o = let e = some_pair s in subst (λ x. MarkRead t x n) e.0 (subst (λ y. MarkRead t a y) e.1 o)

-- the opening that nothing distinguishes
unnamed_opened : (p : Place) (how : g.Opening) (q : Place) → p.text ≡ 40 ∷ drop 1 p.text → is_at "?*" (drop 1 p.text) ≡ false → ◌≡◌ {A = Option (g.Opening × Place)} (Some (g.unnamed_opening p)) (Some (how, q)) → Opened p how q
unnamed_opened p how q is n h =
    elim (chosen p.scope.unnamed_capture (g.capture (p.scope.opened + 1), start (one_more_group p.scope) (drop 1 p.text)) (g.plain, place_past 1 p) (how, q) (same_some h)) [
      | inl x ↦ is_opened (ap Some x.1) (as_capture (drop 1 p.text) x.0 is n)
      | inr x ↦ is_opened (ap Some x.1) (as_unnamed (drop 1 p.text) x.0 is n)
    ]

-- the opening where no mark stands
unmarked_opened : (p : Place) (how : g.Opening) (q : Place) → is_at "(" p.text ≡ true → g.unmarked_opening p ≡ Some (how, q) → Opened p how q
unmarked_opened p how q e h =
    elim (chosen (begins "(?<" p.text) _ _ _ h) [
      | inl y ↦ name_opened p how q (codes "<") (drop 3 p.text) name_mark (begins_with (codes "(?<") p.text y.0) y.1
      | inr y ↦ elim (chosen (begins "(?P<" p.text) _ _ _ y.1) [
        | inl z ↦ name_opened p how q (codes "P<") (drop 4 p.text) name_mark_after_p (begins_with (codes "(?P<") p.text z.0) z.1
        | inr z ↦ elim (chosen (begins "(?P=" p.text) _ _ _ z.1) [
          | inl y ↦ reference_opened p how q (drop 4 p.text) (begins_with (codes "(?P=") p.text y.0) y.1
          | inr y ↦ elim (chosen (begins "(?(" p.text) _ _ _ y.1) [
            | inl z ↦ conditional_opened p how q (drop 3 p.text) (begins_with (codes "(?(") p.text z.0) z.1
            | inr z ↦ elim (chosen (begins "(?" p.text) _ _ _ z.1) [
              | inl y ↦ by_flags (g.flags_in p.scope.meaning (drop 2 p.text) (g.first_letter p.scope.flags)) refl (begins_with (codes "(?") p.text y.0) y.1
              | inr y ↦ (let none = y.0 in elim (chosen (begins "(*" p.text) _ _ _ y.1) [
                | inl x ↦ absurd (some_is_none (sym x.1))
                | inr x ↦ unnamed_opened p how q (at_char 40 p.text e) (no_special (drop 1 p.text) (rw (at_char 40 p.text e) at none) (rw (at_char 40 p.text e) at x.0)) x.1
              ])
            ]
          ]
        ]
      ]
    ]
  where
    by_flags : (o : Option (Flags × Text)) → g.flags_in p.scope.meaning (drop 2 p.text) (g.first_letter p.scope.flags) ≡ o → p.text ≡ codes "(?" ++ drop 2 p.text
        → ◌≡◌ {A = Option (g.Opening × Place)} (g.flag_group p o) (Some (how, q)) → Opened p how q
    by_flags None x is h = absurd (some_is_none (sym h))
    by_flags (Some (f, v)) x is h =
        let r = setting_spelled p.scope.meaning (drop 2 p.text) p.scope.flags f v x in
        flags_opened p how q f r.letters v (is ∙ ap (λ l. 40 ∷ 63 ∷ l) r.is) r.spelled r.ends h

pub opened : (p : Place) (how : g.Opening) (q : Place) → is_at "(" p.text ≡ true → opening_here p ≡ Some (how, q) → Opened p how q
opened p how q e h =
    elim (chosen (begins "(?:" p.text) _ _ _ h) [
      | inl x ↦ is_opened x.1 (as_plain (drop 3 p.text) (begins_with (codes "(?:") p.text x.0))
      | inr x ↦ by_mark (g.mark_here p.text) refl x.1
    ]
  where
    by_mark : (o : Option (Grouping × ℕ)) → g.mark_here p.text ≡ o → g.by_mark p o ≡ Some (how, q) → Opened p how q
    by_mark None f x = unmarked_opened p how q e x
    by_mark (Some (m, n)) f x = let k = marked_here p.text m n f in is_opened x (as_marked k.mark (drop n p.text) m k.spelled k.is)

-- the number of turns that was read
pub record Stated (p : Place) (b : RepeatBounds) (q : Place) : Type 0 where
  pub mark : Text
  pub rest : Text
  pub text : p.text ≡ mark ++ rest
  pub states : Quantifier mark b.0 b.1
  pub end : q ≡ start p.scope rest

pub stated : (p : Place) (b : RepeatBounds) (q : Place) → g.quantifier_here p ≡ Some (b, q) → Stated p b q
stated p b q h =
    elim (chosen (is_at "?" p.text) _ _ _ h) [
      | inl x ↦ is_it x.1 (one_mark 63 optional x.0)
      | inr x ↦ elim (chosen (is_at "*" p.text) _ _ _ x.1) [
        | inl x ↦ is_it x.1 (one_mark 42 asterisk x.0)
        | inr x ↦ elim (chosen (is_at "+" p.text) _ _ _ x.1) [
          | inl x ↦ is_it x.1 (one_mark 43 plus x.0)
          | inr x ↦ elim (chosen (begins_count p.text && are_bounds (bounds_in (drop 1 p.text))) _ _ _ x.1) [
            | inl x ↦ is_it x.1 (one_count x.0)
            | inr x ↦ absurd (some_is_none (sym x.1))
          ]
        ]
      ]
    ]
  where
    one_count : (begins_count p.text && are_bounds (bounds_in (drop 1 p.text))) ≡ true → Stated p (bounds_in (drop 1 p.text)) (start p.scope (past_count (drop 1 p.text)))
    one_count x =
        let f = both_true (begins_count p.text) (are_bounds (bounds_in (drop 1 p.text))) x in
        let b = both_true (is_at "{" p.text) (is_count (drop 1 p.text)) f.0 in
        let c = count_spelled (drop 1 p.text) b.1 f.1 in
        record { mark = 123 ∷ c.mark; rest = past_count (drop 1 p.text); text = at_char 123 p.text b.0 ∙ ap (λ l. 123 ∷ l) c.text; states = c.states; end = refl }

    one_mark : (c : ℕ) {low : ℕ} {high : Option ℕ} → Quantifier (c ∷ []) low high → is_at_any (c ∷ []) p.text ≡ true → Stated p (low, high) (place_past 1 p)
    one_mark c w x = record { mark = c ∷ []; rest = drop 1 p.text; text = at_char c p.text x; states = w; end = refl }

    is_it : {a : RepeatBounds} {r : Place} → ◌≡◌ {A = Option (RepeatBounds × Place)} (Some (a, r)) (Some (b, q)) → Stated p a r → Stated p b q
    is_it {a} {r} s o = let t = some_pair s in subst (λ x. Stated p x q) t.0 (subst (λ y. Stated p a y) t.1 o)

-- the kind that was read
pub data Suffixed (p : Place) : RepeatKind → Place → Type 0 where
  no_suffix : is_at "?+" p.text ≡ false → Suffixed p Greedy p
  lazy_suffix : (u : Text) → p.text ≡ 63 ∷ u → Suffixed p Lazy (start p.scope u)
  possessive_suffix : (u : Text) → p.text ≡ 43 ∷ u → Suffixed p Possessive (start p.scope u)

pub suffixed : (p : Place) (how : RepeatKind) (q : Place) → g.kind p ≡ Some (how, q) → Suffixed p how q
suffixed p how q h =
    elim (chosen (is_at "?" p.text) _ _ _ h) [
      | inl x ↦ is_it x.1 (lazy_suffix (drop 1 p.text) (at_char 63 p.text x.0))
      | inr x ↦ (let lazy = x.0 in elim (chosen (is_at "+" p.text) _ _ _ x.1) [
        | inl x ↦ is_it x.1 (possessive_suffix (drop 1 p.text) (at_char 43 p.text x.0))
        | inr x ↦ is_it x.1 (no_suffix (neither_suffix p.text lazy x.0))
      ])
    ]
  where
    neither_suffix : (t : Text) → is_at "?" t ≡ false → is_at "+" t ≡ false → is_at "?+" t ≡ false
    neither_suffix [] h f = refl
    neither_suffix (c ∷ t) h f = go (63 == c) (43 == c) h f
      where
        go : (a b : Bool) → (a || false) ≡ false → (b || false) ≡ false → (a || (b || false)) ≡ false
        go true b h f = cc
        go false true h f = cc
        go false false h f = refl

    is_it : {a : RepeatKind} {r : Place} → ◌≡◌ {A = Option (RepeatKind × Place)} (Some (a, r)) (Some (how, q)) → Suffixed p a r → Suffixed p how q
    is_it {a} {r} s o = let t = some_pair s in subst (λ x. Suffixed p x q) t.0 (subst (λ y. Suffixed p a y) t.1 o)

-- the quantifier that was read, or none
pub data Quantity (a : Pattern) (q : Place) : Pattern → Place → Type 0 where
  no_mark : IsUnquantified q.scope.flags.ignore_blanks q.text → Quantity a q a q
  marked : {low : ℕ} {high : Option ℕ} {kind : RepeatKind} (w m u : Text) → q.text ≡ w ++ (m ++ u) → Blanks q.scope.flags.ignore_blanks w (m ++ u) → is_empty a ≡ false → Quantifies m u low high kind
      → Quantity a q (repeat low high kind a) (start q.scope u)

-- a repeat is its number of turns and its kind
pub record Repeats (a : Pattern) (o : Option (RepeatBounds × Place)) (t : Pattern) (r : Place) : Type 0 where
  pub bounds : RepeatBounds
  pub follows : Place
  pub how : RepeatKind
  pub turns : o ≡ Some (bounds, follows)
  pub kind : g.kind follows ≡ Some (how, r)
  pub is : repeat bounds.0 bounds.1 how a ≡ t

pub repeats : (a : Pattern) (o : Option (RepeatBounds × Place)) (t : Pattern) (r : Place) → g.with_kind a o ≡ Some (t, r) → Repeats a o t r
repeats a None t r h = absurd (some_is_none (sym h))
repeats a (Some (b, p)) t r h = go (g.kind p) refl h
  where
    go : (o : Option (RepeatKind × Place)) → g.kind p ≡ o → ◌≡◌ {A = Option (Pattern × Place)} (option_map {U = Pattern × Place} (λ (found : RepeatKind × Place). (repeat b.0 b.1 found.0 a, found.1)) o) (Some (t, r)) → Repeats a (Some (b, p)) t r
    go None e h = absurd (some_is_none (sym h))
    go (Some (how, s)) e h = let x = some_pair h in record { bounds = b; follows = p; how = how; turns = refl; kind = e ∙ ap (λ (y : Place). Some (how, y)) x.1; is = x.0 }

quantity_of : (a : Pattern) (q p : Place) {b : RepeatBounds} {r : Place} {how : RepeatKind} → is_empty a ≡ false → Stated (after_blanks q) b p → Suffixed p how r → Quantity a q (repeat b.0 b.1 how a) r
quantity_of a q p {b} e s (no_suffix h) =
    let w = skipped q.scope.flags.ignore_blanks q.text in
    subst (λ y. Quantity a q (repeat b.0 b.1 Greedy a) y) (sym s.end)
    (marked w.row s.mark s.rest (w.is ∙ ap (λ l. w.row ++ l) s.text) (subst (λ l. Blanks q.scope.flags.ignore_blanks w.row l) s.text w.spelled) e
    (greedily s.states (ap (λ (y : Place). is_at "?+" y.text) (sym s.end) ∙ h)))
quantity_of a q p {b} e s (lazy_suffix u h) =
    let w = skipped q.scope.flags.ignore_blanks q.text in
    let is : (after_blanks q).text ≡ (s.mark ++ codes "?") ++ u = s.text ∙ (ap (λ l. s.mark ++ l) (ap (λ (y : Place). y.text) (sym s.end) ∙ h) ∙ sym (append_assoc s.mark (63 ∷ []) u)) in
    subst (λ (y : Place). Quantity a q (repeat b.0 b.1 Lazy a) (start y.scope u)) (sym s.end)
    (marked w.row (s.mark ++ codes "?") u (w.is ∙ ap (λ l. w.row ++ l) is) (subst (λ l. Blanks q.scope.flags.ignore_blanks w.row l) is w.spelled) e (lazily s.states))
quantity_of a q p {b} e s (possessive_suffix u h) =
    let w = skipped q.scope.flags.ignore_blanks q.text in
    let is : (after_blanks q).text ≡ (s.mark ++ codes "+") ++ u = s.text ∙ (ap (λ l. s.mark ++ l) (ap (λ (y : Place). y.text) (sym s.end) ∙ h) ∙ sym (append_assoc s.mark (43 ∷ []) u)) in
    subst (λ (y : Place). Quantity a q (repeat b.0 b.1 Possessive a) (start y.scope u)) (sym s.end)
    (marked w.row (s.mark ++ codes "+") u (w.is ∙ ap (λ l. w.row ++ l) is) (subst (λ l. Blanks q.scope.flags.ignore_blanks w.row l) is w.spelled) e (possessively s.states))

pub quantity : (a : Pattern) (q : Place) (t : Pattern) (r : Place) → g.with_quantifier a q ≡ Some (t, r) → Quantity a q t r
quantity a q t r h =
    elim (chosen (not (begins_quantifier (after_blanks q).text)) _ _ _ h) [
      | inl x ↦ is_it x.1 (no_mark (unquantified_is_spelled q.scope.flags.ignore_blanks q.text (not_true _ x.0)))
      | inr x ↦ elim (chosen (is_empty a) _ _ _ x.1) [
        | inl x ↦ absurd (some_is_none (sym x.1))
        | inr x ↦
            let w = repeats a (g.quantifier_here (after_blanks q)) t r x.1 in
            subst (λ y. Quantity a q y r) w.is (quantity_of a q w.follows x.0 (stated (after_blanks q) w.bounds w.follows w.turns) (suffixed w.follows w.how r w.kind))
      ]
    ]
  where
    is_it : {u : Pattern} {b : Place} → ◌≡◌ {A = Option (Pattern × Place)} (Some (u, b)) (Some (t, r)) → Quantity a q u b → Quantity a q t r
    is_it {u} {b} s o = let e = some_pair s in subst (λ x. Quantity a q x r) e.0 (subst (λ y. Quantity a q u y) e.1 o)

pub atom_is : (p : Place) (a : Pattern) (q : Place) → g.IsAtom p a q → past_blank p.scope.flags.ignore_blanks p.text ≡ None → (w : Text) × (p.text ≡ w ++ q.text) × ((k : ℕ) → d.Atom k p.scope w q.text a q.scope)
atom_is p a q (g.alone {t = t} h) clean =
    let e = ends_atom h in (
      e.front,
      e.is,
      λ k. d.single (subst (λ u. past_blank p.scope.flags.ignore_blanks u ≡ None) e.is clean) (subst (λ u. ReadsAtom p.scope u a t) e.is h),
    )
atom_is p a q (g.refers {w = w} {t = t} h) clean =
    let e = ends_reference p.scope.opened p.text h in (e.front, e.is, λ k. d.reference (subst (λ u. references.read_reference p.scope.opened u ≡ Some (w, t)) e.is h))

-- an atom with what quantifies it
pub spell_quantity : {k : ℕ} {s : Scope} {a t : Pattern} {q r : Place} {w : Text} → d.Atom k s w q.text a q.scope → Quantity a q t r → (v : Text) × (w ++ q.text ≡ v ++ r.text) × d.Item k s v r.text (Some t) r.scope
spell_quantity {w = w} b (no_mark h) = (w, refl, d.bare b h)
spell_quantity {k} {s} {a} {q = q} {w = w} b (marked v m u e c f h) =
    (w ++ (v ++ m), ap (λ l. w ++ l) e ∙ (ap (λ l. w ++ l) (sym (append_assoc v m u)) ∙ sym (append_assoc w (v ++ m) u)), d.quantified (subst (λ l. d.Atom k s w l a q.scope) e b) f c h)

spell_setting : {k : ℕ} {p q : Place} {how : g.Opening} → Opened p how q → how ≡ g.setting → (t : Text) × (p.text ≡ t ++ q.text) × d.Item (suc k) p.scope t q.text None q.scope
spell_setting (as_plain u e) h = absurd (plain_opens h)
spell_setting (as_flagged t u f e l) h = absurd (plain_opens h)
spell_setting (as_setting t u f e l) h = (codes "(?" ++ (t ++ codes ")"), e ∙ ap (λ v. codes "(?" ++ v) (sym (append_assoc t (41 ∷ []) u)), d.set l)
spell_setting {p = p} (as_name m n u l f e) h = absurd (capture_opens (p.scope.opened + 1) h)
spell_setting {p = p} (as_capture u c e f) h = absurd (capture_opens (p.scope.opened + 1) h)
spell_setting (as_unnamed u c e f) h = absurd (plain_opens h)
spell_setting (as_marked m u how l e) h = absurd (mark_is_no_setting how h)
spell_setting {p = p} (as_reference n u l e) h = absurd (reference_is_no_setting p.scope.flags.ignore_case (length p.scope.wanted) h)
spell_setting {p = p} (as_test c u w l e) h = absurd (conditional_is_no_setting (test_here p.scope) h)
spell_setting (as_condition u n l e) h = absurd (condition_is_no_setting h)

false_is_true : false ≡ true → ⊥
false_is_true h = cc

abbrev is_whole : g.Opening → Bool
is_whole (g.reference folded n) = true
is_whole g.setting = false
is_whole g.plain = false
is_whole (g.capture n) = false
is_whole (g.marked how) = false
is_whole (g.chooses c) = false
is_whole g.condition = false

-- a whole reference
spell_reference : {k : ℕ} {p q : Place} {how : g.Opening} → Opened p how q → is_whole how ≡ true → (t : Text) × (p.text ≡ t ++ q.text) × d.Atom (suc k) p.scope t q.text (referred how) q.scope
spell_reference (as_plain u e) h = absurd (false_is_true h)
spell_reference (as_flagged t u f e l) h = absurd (false_is_true h)
spell_reference (as_setting t u f e l) h = absurd (false_is_true h)
spell_reference (as_name m n u l f e) h = absurd (false_is_true h)
spell_reference (as_capture u c e f) h = absurd (false_is_true h)
spell_reference (as_unnamed u c e f) h = absurd (false_is_true h)
spell_reference (as_marked m u how l e) h = absurd (false_is_true h)
spell_reference (as_test c u w l e) h = absurd (false_is_true h)
spell_reference (as_condition u n l e) h = absurd (false_is_true h)
spell_reference (as_reference n u l e) h = (codes "(?P=" ++ (n ++ codes ")"), e ∙ ap (λ v. codes "(?P=" ++ v) (sym (append_assoc n (41 ∷ []) u)), d.reference_by_name n l)

-- what a parenthesis opens at once
at_most_opened : {k : ℕ} {p q : Place} {how : g.Opening} → is_at "(" p.text ≡ true → g.Opens k p how q → opens_group how ≡ false → (j : ℕ) × (k ≡ suc j) × Opened p how q
at_most_opened {p = p} {q = q} {how = how} e (g.at_once {k = j} o a f) n = (j, refl, opened p how q e o)
at_most_opened e (g.after_condition o b c) n = absurd (false_is_true (sym n))

-- the place of a condition
record IsCondition (p inside : Place) : Type 0 where
  is : p.text ≡ codes "(?(" ++ inside.text
  untested : TestsNoGroup inside.text
  kept : is_left_out inside.text ≡ false
  there : inside.scope ≡ p.scope

condition_of : {p q : Place} {how : g.Opening} → Opened p how q → how ≡ g.condition → IsCondition p q
condition_of (as_plain u e) h = absurd (false_is_true (ap g.asks h))
condition_of (as_flagged t u f e l) h = absurd (false_is_true (ap g.asks h))
condition_of (as_setting t u f e l) h = absurd (false_is_true (ap g.asks h))
condition_of (as_name m n u l f e) h = absurd (false_is_true (ap g.asks h))
condition_of (as_capture u c e f) h = absurd (false_is_true (ap g.asks h))
condition_of (as_unnamed u c e f) h = absurd (false_is_true (ap g.asks h))
condition_of (as_marked m u how l e) h = absurd (false_is_true (ap g.asks h))
condition_of (as_reference n u l e) h = absurd (false_is_true (ap g.asks h))
condition_of (as_test c u w l e) h = absurd (false_is_true (ap g.asks h))
condition_of (as_condition u n l e) h = record { is = e; untested = tests_no_group u n; kept = l; there = refl }

-- a conditional has room for two parentheses
spell_test : {t after : Text} {bs : List Pattern} {q : Scope} (k : ℕ) (s : Scope) (c : Text) (w : Target) → Condition c w → 2 ≤ suc k
    → d.Branches k (wants w s) t (41 ∷ after) bs q → d.Atom (suc k) s (codes "(?(" ++ (c ++ 41 ∷ (t ++ codes ")"))) after (d.conditional_of (test_here s) bs) (back_to s q)
spell_test zero s c w h fits b = absurd (omega (arith, fits))
spell_test (suc k) s c w h fits b = d.tested c h b

-- the group that a parenthesis opens, from what is inside it
spell_group : {k : ℕ} {p inside : Place} {how : g.Opening} {t after : Text} {bs : List Pattern} {s : Scope} → parentheses how ≤ suc k → Opened p how inside → opens_group how ≡ true → inside.text ≡ t ++ 41 ∷ after
    → d.Branches k inside.scope t (41 ∷ after) bs s → (w : Text) × (p.text ≡ w ++ after) × d.Atom (suc k) p.scope w after (wrap how bs) (back_to p.scope s)
spell_group {k} {p} {t = t} {after = after} fits (as_test c u w l e) n i b = (
  codes "(?(" ++ (c ++ (codes ")" ++ (t ++ codes ")"))),
  e ∙ (ap (λ x. codes "(?(" ++ (c ++ 41 ∷ x)) (i ∙ sym (append_assoc t (41 ∷ []) after)) ∙ ap (λ x. codes "(?(" ++ x) (sym (append_assoc c (41 ∷ (t ++ 41 ∷ [])) after))),
  spell_test k p.scope c w l fits b,
)
spell_group {t = t} {after = after} fits (as_plain u e) n i b = (codes "(?:" ++ (t ++ codes ")"), e ∙ ap (λ l. codes "(?:" ++ l) (i ∙ sym (append_assoc t (41 ∷ []) after)), d.plain b)
spell_group {t = t} {after = after} fits (as_flagged v u f e l) n i b = (
  codes "(?" ++ (v ++ (codes ":" ++ (t ++ codes ")"))),
  e ∙ (ap (λ x. codes "(?" ++ (v ++ 58 ∷ x)) (i ∙ sym (append_assoc t (41 ∷ []) after)) ∙ ap (λ x. codes "(?" ++ x) (sym (append_assoc v (58 ∷ (t ++ 41 ∷ [])) after))),
  d.flagged l b,
)
spell_group fits (as_setting v u f e l) n i b = absurd (false_is_true n)
spell_group fits (as_condition u l f e) n i b = absurd (false_is_true n)
spell_group fits (as_reference v u l e) n i b = absurd (false_is_true n)
spell_group {t = t} {after = after} fits (as_marked m u how l e) n i b =
    (codes "(" ++ (m ++ (t ++ codes ")")), e ∙ (ap (λ x. 40 ∷ (m ++ x)) (i ∙ sym (append_assoc t (41 ∷ []) after)) ∙ ap (λ x. 40 ∷ x) (sym (append_assoc m (t ++ 41 ∷ []) after))), d.marked l b)
spell_group {t = t} {after = after} fits (as_name m v u l f e) n i b = (
  codes "(?" ++ (m ++ (v ++ (codes ">" ++ (t ++ codes ")")))),
  e
      ∙ (ap (λ x. codes "(?" ++ (m ++ (v ++ 62 ∷ x))) (i ∙ sym (append_assoc t (41 ∷ []) after))
      ∙ (ap (λ x. codes "(?" ++ (m ++ x)) (sym (append_assoc v (62 ∷ (t ++ 41 ∷ [])) after)) ∙ ap (λ x. codes "(?" ++ x) (sym (append_assoc m (v ++ 62 ∷ (t ++ 41 ∷ [])) after)))),
  d.named v l f b,
)
spell_group {t = t} {after = after} fits (as_capture u c e f) n i b = (codes "(" ++ (t ++ codes ")"), e ∙ ap (λ l. 40 ∷ l) (i ∙ sym (append_assoc t (41 ∷ []) after)), d.capture c (rw i at f) b)
spell_group {t = t} {after = after} fits (as_unnamed u c e f) n i b = (codes "(" ++ (t ++ codes ")"), e ∙ ap (λ l. 40 ∷ l) (i ∙ sym (append_assoc t (41 ∷ []) after)), d.unnamed c (rw i at f) b)

-- what is spelled inside a group, and the parenthesis after it, spell an atom with what opens it
abbrev Wraps : ℕ → Place → g.Opening → Place → Type 0
Wraps j p how inside = (k : ℕ) → j ≡ suc k → (t after : Text) (bs : List Pattern) (s : Scope) → inside.text ≡ t ++ 41 ∷ after → d.Branches k inside.scope t (41 ∷ after) bs s
    → (w : Text) × (p.text ≡ w ++ after) × d.Atom j p.scope w after (wrap how bs) (back_to p.scope s)

-- a condition that is a pattern, with the branches after it
spell_condition : {p inside : Place} {c t after : Text} {cs bs : List Pattern} {r s : Scope} (i : ℕ) → IsCondition p inside → inside.text ≡ c ++ 41 ∷ (t ++ 41 ∷ after) → d.Branches i inside.scope c (41 ∷ (t ++ 41 ∷ after)) cs r
    → d.Branches (suc i) (back_to p.scope r) t (41 ∷ after) bs s → (w : Text) × (p.text ≡ w ++ after) × d.Atom (suc (suc i)) p.scope w after (d.conditional_of (in_branches cs) bs) (back_to p.scope s)
spell_condition {p} {inside} {c} {t} {after} {cs} {bs} {r} {s} i x is a b = (
  codes "(?(" ++ (c ++ (codes ")" ++ (t ++ codes ")"))),
  x.is ∙ ap (λ v. codes "(?(" ++ v) (is ∙ (ap (λ v. c ++ 41 ∷ v) (sym (append_assoc t (41 ∷ []) after)) ∙ sym (append_assoc c (41 ∷ (t ++ 41 ∷ [])) after))),
  d.decided c (subst TestsNoGroup is x.untested) (ap is_left_out (sym is) ∙ x.kept) (subst (λ z. d.Branches i z c (41 ∷ (t ++ 41 ∷ after)) cs r) x.there a) b,
)

mutual
  pub spell_branches : {k : ℕ} {p r : Place} {bs : List Pattern} → g.BranchesReading k p bs r → (t : Text) × (p.text ≡ t ++ r.text) × d.Branches k p.scope t r.text bs r.scope
  spell_branches (g.last b e) = let x = spell_parts b in (x.0, x.1, d.one x.2)
  spell_branches {k} {p} {r} (g.more {q = q} {ps = ps} b e c) =
      let x = spell_parts b in
      let y = spell_branches c in
      let is : q.text ≡ 124 ∷ (y.0 ++ r.text) = at_char 124 q.text e ∙ ap (λ l. 124 ∷ l) y.1 in
      (x.0 ++ (124 ∷ y.0), x.1 ∙ (ap (λ l. x.0 ++ l) is ∙ sym (append_assoc x.0 (124 ∷ y.0) r.text)), d.either (subst (λ l. d.Parts k p.scope x.0 l ps q.scope) is x.2) y.2)

  pub spell_parts : {k : ℕ} {p r : Place} {ps : List Pattern} → g.PartsReading k p ps r → (t : Text) × (p.text ≡ t ++ r.text) × d.Parts k p.scope t r.text ps r.scope
  spell_parts {p = p} (g.none e) = let w = skipped p.scope.flags.ignore_blanks p.text in (w.row, w.is, d.nothing w.spelled)
  spell_parts {k} {p} {r} (g.next {q = q} {item = item} h i ps) =
      let w = skipped p.scope.flags.ignore_blanks p.text in
      let x = spell_item i (no_blank_left p.scope.flags.ignore_blanks p.text) in
      let y = spell_parts ps in
      let is : (after_blanks p).text ≡ x.0 ++ (y.0 ++ r.text) = x.1 ∙ ap (λ l. x.0 ++ l) y.1 in (
        w.row ++ (x.0 ++ y.0),
        w.is ∙ (ap (λ l. w.row ++ l) (is ∙ sym (append_assoc x.0 y.0 r.text)) ∙ sym (append_assoc w.row (x.0 ++ y.0) r.text)),
        d.item (subst (λ l. Blanks p.scope.flags.ignore_blanks w.row l) is w.spelled) (subst (λ l. d.Item k p.scope x.0 l item q.scope) y.1 x.2) y.2,
      )

  pub spell_item : {k : ℕ} {p r : Place} {x : Option Pattern} → g.ItemReading k p x r → past_blank p.scope.flags.ignore_blanks p.text ≡ None → (t : Text) × (p.text ≡ t ++ r.text) × d.Item k p.scope t r.text x r.scope
  spell_item {p = p} {r = r} (g.sets e o) clean =
      let w = at_most_opened e o refl in
      subst (λ m. (t : Text) × (p.text ≡ t ++ r.text) × d.Item m p.scope t r.text None r.scope) (sym w.1) (spell_setting {k = w.0} w.2 refl)
  spell_item {p = p} (g.refers_by_name {k = k} {n = n} {q = q} {r = r} {folded = folded} {x = x} e o f) clean =
      let v = at_most_opened e o refl in
      let w = spell_reference {k = v.0} v.2 refl in
      let y = spell_quantity w.2 (quantity (backreference folded n) q x r f) in
      subst (λ m. (t : Text) × (p.text ≡ t ++ r.text) × d.Item m p.scope t r.text (Some x) r.scope) (sym v.1) (y.0, w.1 ∙ y.1, y.2)
  spell_item {k} {p} (g.single {q = q} {r = r} {a = a} {x = x} e f h) clean =
      let w = atom_is p a q f clean in
      let y = spell_quantity (w.2 k) (quantity a q x r h) in
      (y.0, w.1 ∙ y.1, y.2)
  spell_item {p = p} (g.grouped {k = k} {inside = inside} {q = q} {r = r} {how = how} {bs = bs} {x = x} e o n b c f) clean =
      let y = spell_branches b in
      let is : q.text ≡ 41 ∷ drop 1 q.text = at_char 41 q.text c in
      let w = spell_opening e o n k refl y.0 (drop 1 q.text) bs q.scope (y.1 ∙ ap (λ l. y.0 ++ l) is) (subst (λ l. d.Branches k inside.scope y.0 l bs q.scope) is y.2) in
      let z = spell_quantity w.2 (quantity _ _ x r f) in
      (z.0, w.1 ∙ z.1, z.2)

  spell_opening : {j : ℕ} {p inside : Place} {how : g.Opening} → is_at "(" p.text ≡ true → g.Opens j p how inside → opens_group how ≡ true → Wraps j p how inside
  spell_opening {p = p} {inside = inside} {how = how} e (g.at_once {k = i} o a f) n k deep t after bs s is b =
      let same : k ≡ i = omega (arith, deep) in
      spell_group {k = i} f (opened p how inside e o) n is (subst (λ m. d.Branches m inside.scope t (41 ∷ after) bs s) same b)
  spell_opening {p = p} e (g.after_condition {k = i} {inside = inside} {q = q} {cs = cs} o x y) n k deep t after bs s is b =
      let same : k ≡ suc i = omega (arith, deep) in
      let z = spell_branches x in
      let closes : q.text ≡ 41 ∷ (t ++ 41 ∷ after) = at_char 41 q.text y ∙ ap (λ l. 41 ∷ l) is in
      spell_condition i (condition_of (opened p g.condition inside e o) refl) (z.1 ∙ ap (λ l. z.0 ++ l) closes) (subst (λ l. d.Branches i inside.scope z.0 l cs q.scope) closes z.2)
      (subst (λ m. d.Branches m (back_to p.scope q.scope) t (41 ∷ after) bs s) same b)

pub spelling_read : {s : Scope} {text : Text} {p : Pattern} {end : Scope} → d.Spells s text p end → g.Reads s text p (start end [])
spelling_read {s} {text} {p} {end} x = record {
  branches = x.branches;
  is = x.is;
  reads = subst (λ l. g.BranchesReading most_parentheses (start s l) x.branches (start end [])) (append-nil text) (read_branches x.spelled refl refl);
  all = refl;
}

pub reading_spelled : {s : Scope} {text : Text} {p : Pattern} {end : Place} → g.Reads s text p end → d.Spells s text p end.scope
reading_spelled {s} {text} {p} {end} x =
    let y = spell_branches x.reads in
    let same : y.0 ≡ text = sym (append-nil y.0) ∙ (ap (λ l. y.0 ++ l) (sym x.all) ∙ sym y.1) in
    record {
      branches = x.branches;
      is = x.is;
      spelled = subst (λ l. d.Branches most_parentheses s l [] x.branches end.scope) same (subst (λ l. d.Branches most_parentheses s y.0 l x.branches end.scope) x.all y.2);
    }
