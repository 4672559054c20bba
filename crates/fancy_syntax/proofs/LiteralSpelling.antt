-- Texts of which each character stands for itself, as it is or after a backslash.
use Rattle.std.proofs.Common.{◌≡◌, ℕ, ◌==◌, ◌&&◌, ◌||◌, Bool, true, false, List, [], ◌∷◌, ◌++◌, codes, map, Some, None, length, max, sum_by, arith, refl, sym, ap, ◌∙◌, subst}
use Rattle.std.specs.List.{list_all}
use Rattle.std.proofs.lemmas.List.Sums.{sum_by-cons}
use Rattle.fancy_tree.specs.declared.tree.Meaning.TheVariants.{Unicode}
use Rattle.fancy_tree.specs.Pattern.{Pattern, character, in_sequence}
use Rattle.fancy_tree.specs.Sizes.{nodes}
use Rattle.fancy_tree.specs.Text.{Text, is_among}
use Rattle.fancy_class.specs.Words.{is_at, is_at_any}
use Rattle.fancy_syntax.specs.Blanks.{past_blank, is_blank}
use Rattle.fancy_syntax.specs.Dialect.{Scope, Spells, leaf, by_itself, by_lexeme, lexeme, escape, is_escapable, character_lexeme, begins_quantifier}
use Rattle.fancy_syntax.specs.Grammar.{Place, after_blanks, start, ends_branch, last, PartsReading, none, next, ItemReading, single, alone}
use Rattle.fancy_tree.proofs.Facts.{true_is_false, both_true, char_is}
use Rattle.fancy_syntax.proofs.BlankLemmas.{blanks_stop}
use Rattle.fancy_syntax.proofs.SpellingLemmas.{reading_spelled}
use Rattle.fancy_tree.proofs.SizeLemmas.{nodes-in_sequence}
use Rattle.fancy_syntax.proofs.UniqueLemmas.{one_pattern}

-- a character that is not among these is none of them
pub other_than : (d c : ℕ) (cs : List ℕ) → is_among d cs ≡ true → is_among c cs ≡ false → (d == c) ≡ false
other_than d c cs h n = go (d == c) refl
  where
    go : (b : Bool) → (d == c) ≡ b → b ≡ false
    go true e = absurd (true_is_false (sym h ∙ (ap (λ x. is_among x cs) (sym (char_is d c e)) ∙ n)))
    go false e = refl

neither : (a b : Bool) → a ≡ false → b ≡ false → (a || b) ≡ false
neither true b h n = h
neither false b h n = n

-- what is not among these is not among some of them
pub not_among_fewer : (c : ℕ) (ds cs : List ℕ) → list_all (λ d. is_among d cs) ds ≡ true → is_among c cs ≡ false → is_among c ds ≡ false
not_among_fewer c [] cs h n = refl
not_among_fewer c (d ∷ ds) cs h n =
    let b = both_true (is_among d cs) (list_all (λ d. is_among d cs) ds) h in
    neither (d == c) (is_among c ds) (other_than d c cs b.0 n) (not_among_fewer c ds cs b.1 n)

either_cases : (a b : Bool) (P : Type 0) → (a || b) ≡ true → (a ≡ true → P) → (b ≡ true → P) → P
either_cases true b P h f g = f refl
either_cases false b P h f g = g h

-- what holds of each of these holds of one among them
pub holds_among : (p : ℕ → Bool) (c : ℕ) (cs : List ℕ) → list_all p cs ≡ true → is_among c cs ≡ true → p c ≡ true
holds_among p c [] h m = absurd (true_is_false (sym m))
holds_among p c (d ∷ cs) h m =
    let b = both_true (p d) (list_all p cs) h in
    either_cases (d == c) (is_among c cs) _ m (λ e. ap p (char_is d c e) ∙ b.0) (λ e. holds_among p c cs b.1 e)

-- what is in force lets a character stand for itself alone, and skips comments alone
pub record IsPlain (s : Scope) : Type 0 where
  pub meaning : s.meaning ≡ Unicode
  pub ignore_case : s.flags.ignore_case ≡ false
  pub ignore_blanks : s.flags.ignore_blanks ≡ false

-- what begins or ends a group, a branch or a quantifier
abbrev marks : Text
marks = codes "(|)?*+{"

-- none of these stands here
abbrev BeginsPlainly : Text → Type 0
BeginsPlainly t = is_at_any marks t ≡ false

and_off : (a : Bool) → (a && false) ≡ false
and_off true = refl
and_off false = refl

no_blank : (t : Text) → BeginsPlainly t → past_blank false t ≡ None
no_blank [] h = refl
no_blank (c ∷ t) h = rw (and_off (is_blank c), and_off (35 == c), other_than 40 c marks refl h) refl

no_quantifier : (t : Text) → BeginsPlainly t → begins_quantifier t ≡ false
no_quantifier [] h = refl
no_quantifier (c ∷ t) h = rw (other_than 63 c marks refl h, other_than 42 c marks refl h, other_than 43 c marks refl h, other_than 123 c marks refl h) refl

here_is : (s : Scope) (t : Text) → IsPlain s → BeginsPlainly t → after_blanks (start s t) ≡ start s t
here_is s t plain h = ap (start s) (rw plain.ignore_blanks (blanks_stop false t (no_blank t h)))

-- the word stands for this character, whatever follows it
pub record StandsFor (s : Scope) (word : Text) (c : ℕ) : Type 0 where
  pub first : ℕ
  pub others : Text
  pub is : word ≡ first ∷ others
  pub plain : BeginsPlainly (first ∷ [])
  pub reads : (rest : Text) → lexeme s (word ++ rest) ≡ Some (leaf (character c), rest)

-- words, one after another, for these characters
pub data StandFor (s : Scope) : Text → Text → Type 0 where
  no_word : StandFor s [] []
  word : {w v t : Text} {c : ℕ} → StandsFor s w c → StandFor s v t → StandFor s (w ++ v) (c ∷ t)

word_begins : {s : Scope} {w : Text} {c : ℕ} (x : StandsFor s w c) (rest : Text) → w ++ rest ≡ x.first ∷ (x.others ++ rest)
word_begins x rest = ap (λ l. l ++ rest) x.is

word_plain : {s : Scope} {w : Text} {c : ℕ} → StandsFor s w c → (rest : Text) → BeginsPlainly (w ++ rest)
word_plain x rest = ap (is_at_any marks) (word_begins x rest) ∙ x.plain

words_plain : {s : Scope} {v t : Text} → StandFor s v t → BeginsPlainly v
words_plain no_word = refl
words_plain (word {v = v} x rest) = word_plain x v

opens_nothing : (t : Text) → BeginsPlainly t → is_at "(" t ≡ false
opens_nothing [] h = refl
opens_nothing (c ∷ t) h = rw (other_than 40 c marks refl h) refl

-- a word in front of words
goes_on : {s : Scope} {w : Text} {c : ℕ} → StandsFor s w c → (rest : Text) → ends_branch (w ++ rest) ≡ false
goes_on x rest = ap ends_branch (word_begins x rest) ∙ rw (other_than 124 x.first marks refl x.plain, other_than 41 x.first marks refl x.plain) refl

word_read : {k : ℕ} (s : Scope) (w rest : Text) (c : ℕ) → IsPlain s → StandsFor s w c → BeginsPlainly rest → ItemReading k (start s (w ++ rest)) (Some (character c)) (start s rest)
word_read s w rest c plain x h =
    let unquantified : begins_quantifier (after_blanks (start s rest)).text ≡ false = ap (λ (p : Place). begins_quantifier p.text) (here_is s rest plain h) ∙ no_quantifier rest h in
    single (opens_nothing (w ++ rest) (word_plain x rest)) (alone (by_lexeme (x.reads rest) by_itself)) (rw unquantified refl)

words_read : {k : ℕ} {s : Scope} {v t : Text} → IsPlain s → StandFor s v t → PartsReading k (start s v) (map character t) (start s [])
words_read {k} {s} plain no_word =
    let stays = here_is s [] plain refl in
    subst (λ p. PartsReading k (start s []) [] p) stays (none (ap (λ (p : Place). ends_branch p.text) stays))
words_read {k} {s} plain (word {w = w} {v = v} {c = c} x rest) =
    let stays = here_is s (w ++ v) plain (word_plain x v) in
    next (ap (λ (p : Place). ends_branch p.text) stays ∙ goes_on x v)
    (subst (λ p. ItemReading k p (Some (character c)) (start s v)) (sym stays) (word_read s w v c plain x (words_plain rest)))
    (words_read plain rest)

-- words for characters spell the sequence of these, and nothing else
pub words_spell : {s : Scope} {v t : Text} → IsPlain s → StandFor s v t → Spells s v (in_sequence (map character t)) s
words_spell {s} plain x = reading_spelled (record { branches = _ ∷ []; is = refl; reads = last (words_read plain x) refl; all = refl })

pub words_spell_one : {s : Scope} {v t : Text} {p : Pattern} {end : Scope} → IsPlain s → StandFor s v t → Spells s v p end → p ≡ in_sequence (map character t)
words_spell_one {s} {v} plain x h = one_pattern s v _ _ _ s h (words_spell plain x)

-- a sequence of characters has a node for each, and one where it has none
characters_counted : (t : Text) → sum_by nodes (map character t) ≡ length t
unfolding nodes
characters_counted [] = refl
characters_counted (c ∷ t) = omega (arith, characters_counted t, sum_by-cons nodes (character c) (map character t))

pub nodes-characters : (t : Text) → nodes (in_sequence (map character t)) ≡ max (length t) 1
nodes-characters t = omega (arith, nodes-in_sequence (map character t), characters_counted t)

-- an escape that stands for a character
pub by_escape : (s : Scope) (d c : ℕ) → IsPlain s → ((rest : Text) → escape s d rest ≡ Some (character_lexeme s c, rest)) → StandsFor s (92 ∷ d ∷ []) c
by_escape s d c plain h = record { first = 92; others = d ∷ []; is = refl; plain = refl; reads = λ rest. h rest ∙ rw (plain.ignore_case, plain.meaning) refl }

-- a character that is escaped
pub by_backslash : (s : Scope) (c : ℕ) → IsPlain s → is_escapable c ≡ true → StandsFor s (92 ∷ c ∷ []) c
by_backslash s c plain h = by_escape s c c plain (λ rest. rw h refl)

-- what means something else than itself
abbrev pub meant : Text
meant = codes "|()*+?\\.^$[{"

-- a character as it is
pub by_itself_alone : (s : Scope) (c : ℕ) → IsPlain s → is_among c meant ≡ false → StandsFor s (c ∷ []) c
by_itself_alone s c plain h = record {
  first = c;
  others = [];
  is = refl;
  plain = not_among_fewer c marks meant refl h;
  reads = λ rest. rw (
    other_than 92 c meant refl h,
    other_than 46 c meant refl h,
    other_than 94 c meant refl h,
    other_than 36 c meant refl h,
    other_than 124 c meant refl h,
    other_than 40 c meant refl h,
    other_than 41 c meant refl h,
    other_than 42 c meant refl h,
    other_than 43 c meant refl h,
    other_than 63 c meant refl h,
    other_than 91 c meant refl h,
    other_than 123 c meant refl h,
    plain.ignore_case,
    plain.meaning,
  ) refl;
}
