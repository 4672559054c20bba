-- A code for patterns: the steps by which a pattern is put together from its parts, last part first. So patterns are data whose
-- equations have one proof each.
use Rattle.std.specs.Prelude.{◌≡◌, ℕ, ◌==◌, Bool, true, false, List, [], ◌∷◌, ◌++◌, Option, Some, None, if◌then◌else◌}
use Rattle.std.specs.Coded.{Coded, code_by, coded_ℕ, coded_list, coded×}
use Rattle.std.proofs.Common.{refl, sym, ap, ◌∙◌, append_assoc, append-nil}
use Rattle.fancy_tree.specs.declared.tree.Assertion.{Assertion}
use Rattle.fancy_tree.specs.declared.tree.Assertion.TheVariants.{TextStart, TextEnd, LineStart, LineEnd, LineStartCrlf, LineEndCrlf, LastLine, LastLineCrlf, WordBoundary, NotWordBoundary, WordStart, WordEnd, WordStartHalf, WordEndHalf}
use Rattle.fancy_tree.specs.declared.tree.RepeatKind.{RepeatKind}
use Rattle.fancy_tree.specs.declared.tree.RepeatKind.TheVariants.{Greedy, Lazy, Possessive}
use Rattle.fancy_tree.specs.Pattern.{Pattern, empty, character, member_of, in_any_case, raw_byte, backreference, assertion, group_test, keep_start, continue_here, group, repeat, look_ahead, look_behind, atomic, conditional, followed, or_else, last_branch}

-- ---- numbers for what is no number

abbrev flag : Bool → ℕ
flag true = 1
flag false = 0

flag_back : (b : Bool) → (flag b == 1) ≡ b
flag_back true = refl
flag_back false = refl

abbrev number_of_kind : RepeatKind → ℕ
number_of_kind Greedy = 0
number_of_kind Lazy = 1
number_of_kind Possessive = 2

abbrev kind_at : ℕ → RepeatKind
kind_at n = if n == 0 then Greedy else (if n == 1 then Lazy else Possessive)

kind_back : (k : RepeatKind) → kind_at (number_of_kind k) ≡ k
kind_back Greedy = refl
kind_back Lazy = refl
kind_back Possessive = refl

abbrev number_of_assertion : Assertion → ℕ
number_of_assertion TextStart = 0
number_of_assertion TextEnd = 1
number_of_assertion LineStart = 2
number_of_assertion LineEnd = 3
number_of_assertion LineStartCrlf = 4
number_of_assertion LineEndCrlf = 5
number_of_assertion LastLine = 6
number_of_assertion LastLineCrlf = 7
number_of_assertion WordBoundary = 8
number_of_assertion NotWordBoundary = 9
number_of_assertion WordStart = 10
number_of_assertion WordEnd = 11
number_of_assertion WordStartHalf = 12
number_of_assertion WordEndHalf = 13

abbrev assertion_at : ℕ → Assertion
assertion_at n =
    if n == 0 then TextStart else (
    if n == 1 then TextEnd else (
    if n == 2 then LineStart else (
    if n == 3 then LineEnd else (
    if n == 4 then LineStartCrlf else (
    if n == 5 then LineEndCrlf else (
    if n == 6 then LastLine else (
    if n == 7 then LastLineCrlf else (
    if n == 8 then WordBoundary else (
    if n == 9 then NotWordBoundary else (
    if n == 10 then WordStart else (
    if n == 11 then WordEnd else (
    if n == 12 then WordStartHalf else (
    WordEndHalf)))))))))))))

assertion_back : (a : Assertion) → assertion_at (number_of_assertion a) ≡ a
assertion_back TextStart = refl
assertion_back TextEnd = refl
assertion_back LineStart = refl
assertion_back LineEnd = refl
assertion_back LineStartCrlf = refl
assertion_back LineEndCrlf = refl
assertion_back LastLine = refl
assertion_back LastLineCrlf = refl
assertion_back WordBoundary = refl
assertion_back NotWordBoundary = refl
assertion_back WordStart = refl
assertion_back WordEnd = refl
assertion_back WordStartHalf = refl
assertion_back WordEndHalf = refl

abbrev limits : Option ℕ → List ℕ
limits None = []
limits (Some n) = n ∷ []

abbrev limit_in : List ℕ → Option ℕ
limit_in [] = None
limit_in (n ∷ ns) = Some n

limit_back : (m : Option ℕ) → limit_in (limits m) ≡ m
limit_back None = refl
limit_back (Some n) = refl

-- ---- steps

-- a form by its number, two numbers and a list of them
abbrev Step : Type 0
Step = ℕ × (ℕ × (ℕ × List ℕ))

abbrev plain : ℕ → Step
plain form = (form, (0, (0, [])))

abbrev with_number : ℕ → ℕ → Step
with_number form n = (form, (n, (0, [])))

abbrev with_list : ℕ → List ℕ → Step
with_list form ns = (form, (0, (0, ns)))

abbrev steps : Pattern → List Step
steps empty = plain 0 ∷ []
steps (character c) = with_number 1 c ∷ []
steps (member_of edges) = with_list 2 edges ∷ []
steps (in_any_case edges) = with_list 3 edges ∷ []
steps (raw_byte b) = with_number 4 b ∷ []
steps (backreference folded n) = (5, (flag folded, (n, []))) ∷ []
steps (assertion a) = with_number 6 (number_of_assertion a) ∷ []
steps (group_test n) = with_number 7 n ∷ []
steps keep_start = plain 8 ∷ []
steps continue_here = plain 9 ∷ []
steps (group n p) = steps p ++ with_number 10 n ∷ []
steps (repeat least most kind p) = steps p ++ (11, (least, (number_of_kind kind, limits most))) ∷ []
steps (look_ahead negated p) = steps p ++ with_number 12 (flag negated) ∷ []
steps (look_behind negated p) = steps p ++ with_number 13 (flag negated) ∷ []
steps (atomic p) = steps p ++ plain 14 ∷ []
steps (conditional test first second) = steps test ++ (steps first ++ (steps second ++ plain 15 ∷ []))
steps (followed p rest) = steps p ++ (steps rest ++ plain 16 ∷ [])
steps (or_else p rest) = steps p ++ (steps rest ++ plain 17 ∷ [])
steps (last_branch p) = steps p ++ plain 18 ∷ []

-- ---- what steps make of the patterns that were made before, the last first

abbrev of_one : (Pattern → Pattern) → List Pattern → List Pattern
of_one f [] = []
of_one f (p ∷ made) = f p ∷ made

abbrev of_two : (Pattern → Pattern → Pattern) → List Pattern → List Pattern
of_two f [] = []
of_two f (q ∷ []) = []
of_two f (q ∷ p ∷ made) = f p q ∷ made

abbrev of_three : (Pattern → Pattern → Pattern → Pattern) → List Pattern → List Pattern
of_three f [] = []
of_three f (r ∷ []) = []
of_three f (r ∷ q ∷ []) = []
of_three f (r ∷ q ∷ p ∷ made) = f p q r ∷ made

abbrev put : ℕ → ℕ → ℕ → List ℕ → List Pattern → List Pattern
put form m n ns made =
    if form == 0 then empty ∷ made else (
    if form == 1 then character m ∷ made else (
    if form == 2 then member_of ns ∷ made else (
    if form == 3 then in_any_case ns ∷ made else (
    if form == 4 then raw_byte m ∷ made else (
    if form == 5 then backreference (m == 1) n ∷ made else (
    if form == 6 then assertion (assertion_at m) ∷ made else (
    if form == 7 then group_test m ∷ made else (
    if form == 8 then keep_start ∷ made else (
    if form == 9 then continue_here ∷ made else (
    if form == 10 then of_one (group m) made else (
    if form == 11 then of_one (repeat m (limit_in ns) (kind_at n)) made else (
    if form == 12 then of_one (look_ahead (m == 1)) made else (
    if form == 13 then of_one (look_behind (m == 1)) made else (
    if form == 14 then of_one atomic made else (
    if form == 15 then of_three conditional made else (
    if form == 16 then of_two followed made else (
    if form == 17 then of_two or_else made else (
    of_one last_branch made))))))))))))))))))

abbrev put_all : List Step → List Pattern → List Pattern
put_all [] made = made
put_all (s ∷ rest) made = put_all rest (put s.0 s.1.0 s.1.1.0 s.1.1.1 made)

-- the steps of one part, and then others
after_part : (part others rest : List Step) (p : Pattern) (made : List Pattern) →
    ((rest : List Step) (made : List Pattern) → put_all (part ++ rest) made ≡ put_all rest (p ∷ made))
    → put_all ((part ++ others) ++ rest) made ≡ put_all (others ++ rest) (p ∷ made)
after_part part others rest p made h = ap (λ ss. put_all ss made) (append_assoc part others rest) ∙ h (others ++ rest) made

put_steps : (p : Pattern) (rest : List Step) (made : List Pattern) → put_all (steps p ++ rest) made ≡ put_all rest (p ∷ made)
put_steps empty rest made = refl
put_steps (character c) rest made = refl
put_steps (member_of edges) rest made = refl
put_steps (in_any_case edges) rest made = refl
put_steps (raw_byte b) rest made = refl
put_steps (backreference folded n) rest made = ap (λ b. put_all rest (backreference b n ∷ made)) (flag_back folded)
put_steps (assertion a) rest made = ap (λ b. put_all rest (assertion b ∷ made)) (assertion_back a)
put_steps (group_test n) rest made = refl
put_steps keep_start rest made = refl
put_steps continue_here rest made = refl
put_steps (group n p) rest made = after_part (steps p) (with_number 10 n ∷ []) rest p made (put_steps p)
put_steps (repeat least most kind p) rest made =
    after_part (steps p) ((11, (least, (number_of_kind kind, limits most))) ∷ []) rest p made (put_steps p)
    ∙ (ap (λ m. put_all rest (repeat least m (kind_at (number_of_kind kind)) p ∷ made)) (limit_back most)
    ∙ ap (λ k. put_all rest (repeat least most k p ∷ made)) (kind_back kind))
put_steps (look_ahead negated p) rest made =
    after_part (steps p) (with_number 12 (flag negated) ∷ []) rest p made (put_steps p)
    ∙ ap (λ b. put_all rest (look_ahead b p ∷ made)) (flag_back negated)
put_steps (look_behind negated p) rest made =
    after_part (steps p) (with_number 13 (flag negated) ∷ []) rest p made (put_steps p)
    ∙ ap (λ b. put_all rest (look_behind b p ∷ made)) (flag_back negated)
put_steps (atomic p) rest made = after_part (steps p) (plain 14 ∷ []) rest p made (put_steps p)
put_steps (conditional test first second) rest made =
    after_part (steps test) (steps first ++ (steps second ++ plain 15 ∷ [])) rest test made (put_steps test)
    ∙ (after_part (steps first) (steps second ++ plain 15 ∷ []) rest first (test ∷ made) (put_steps first)
    ∙ after_part (steps second) (plain 15 ∷ []) rest second (first ∷ test ∷ made) (put_steps second))
put_steps (followed p others) rest made =
    after_part (steps p) (steps others ++ plain 16 ∷ []) rest p made (put_steps p)
    ∙ after_part (steps others) (plain 16 ∷ []) rest others (p ∷ made) (put_steps others)
put_steps (or_else p others) rest made =
    after_part (steps p) (steps others ++ plain 17 ∷ []) rest p made (put_steps p)
    ∙ after_part (steps others) (plain 17 ∷ []) rest others (p ∷ made) (put_steps others)
put_steps (last_branch p) rest made = after_part (steps p) (plain 18 ∷ []) rest p made (put_steps p)

abbrev last_made : List Pattern → Pattern
last_made [] = empty
last_made (p ∷ made) = p

pub coded_pattern : Coded Pattern
coded_pattern = code_by (List Step) (coded_list (coded× coded_ℕ (coded× coded_ℕ (coded× coded_ℕ (coded_list coded_ℕ)))))
    steps (λ ss. last_made (put_all ss []))
    (λ p. ap (λ ss. last_made (put_all ss [])) (sym (append-nil (steps p))) ∙ ap last_made (put_steps p [] []))
