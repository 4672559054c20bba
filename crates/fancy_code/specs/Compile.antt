-- What it is for instructions to be those of a pattern.
use Rattle.std.specs.Prelude.{◌≡◌, ℕ, zero, suc, ◌+◌, ◌-◌, ◌*◌, ◌<◌, ◌≤◌, Bool, true, false, ◌&&◌, List, [], ◌∷◌, Option, Some, None, IfSome, length, slice_get, slice_index}
use Rattle.fancy_tree.specs.declared.tree.RepeatKind.{RepeatKind}
use Rattle.fancy_tree.specs.declared.tree.RepeatKind.TheVariants.{Greedy, Lazy, Possessive}
use Rattle.fancy_tree.specs.GroupNumbers.{Numbered}
use Rattle.fancy_tree.specs.Pattern.{Pattern, empty, character, member_of, in_any_case, raw_byte, backreference, assertion, group_test, keep_start, continue_here, group, repeat, look_ahead, look_behind, atomic, conditional, followed, or_else, last_branch}
use Rattle.fancy_bytes.specs.Firsts.{AreStartBytes}
use Rattle.fancy_bytes.specs.Openings.{opening}
use Rattle.fancy_code.specs.declared.code.Code.{Code}
use Rattle.fancy_code.specs.declared.code.Entry.{Entry}
use Rattle.fancy_code.specs.Instructions.{Instruction}
use Rattle.fancy_code.specs.Instructions as i
use Rattle.fancy_tree.specs.declared.tree.Meaning.{Meaning}
use Rattle.fancy_tree.specs.Sizes.{size, nodes, is_empty}
use Rattle.fancy_code.specs.CodeLength.{code_len}
use Rattle.fancy_meaning.specs.Easy.{is_easy}
use Rattle.fancy_code.specs.Code.{instrs_of}
use Rattle.fancy_code.specs.Branches.{AreBranches}
use Rattle.fancy_prefilter.specs.Prefilters.{text_in, window_in, branches_in}
use Rattle.fancy_prefilter.specs.Regions.{IsReach}
use Rattle.fancy_code.specs.Foretold.{AreForetold, StartsAt}
use Rattle.fancy_code.specs.Run.{instr_at}

-- the instruction stands at q
abbrev pub Has : List Instruction → ℕ → Instruction → Type 0
Has code q i = slice_get code q ≡ Some i

-- both forms' instructions stand at the entry
abbrev pub HasBoth : List Instruction → Entry → Instruction → Instruction → Type 0
HasBoth code entry moved still = Has code entry.moved moved × Has code entry.still still

-- From the place `from` on, each instruction of the one stands in the other.
abbrev pub Extends : ℕ → List Instruction → List Instruction → Type 0
Extends from code later = (q : ℕ) (i : Instruction) → from ≤ q → Has code q i → Has later q i

-- The instructions stand in the later code.
abbrev pub Keeps : List Instruction → List Instruction → Type 0
Keeps code later = Extends 0 code later

-- a choice between one more turn and none
abbrev pub split_of : Bool → ℕ → ℕ → Instruction
split_of true more less = i.Split more less
split_of false more less = i.Split less more

-- where the whole pattern goes on: at the instruction that ends a way
abbrev pub stopping : Entry
stopping = record { moved = 0; still = 0 }

-- Where M says that the code of one copy goes from an entry on to the next: the code of n copies.
abbrev pub CopiesBy : (Entry → Entry → Type 0) → ℕ → Entry → Entry → Type 0
CopiesBy M zero next entry = entry ≡ next
CopiesBy M (suc n) next entry = (mid : Entry) × CopiesBy M n next mid × M mid entry

-- n optional copies, each inside the one before
abbrev pub OptionalsBy : (Entry → Entry → Type 0) → Bool → List Instruction → ℕ → Entry → Entry → Type 0
OptionalsBy M greedy code zero next entry = entry ≡ next
OptionalsBy M greedy code (suc n) next entry =
    (mid : Entry) × (body : Entry) × OptionalsBy M greedy code n next mid × M mid body
    × HasBoth code entry (split_of greedy body.moved next.moved) (split_of greedy body.still next.still)

-- The star. A turn goes on where something was consumed before, or fails where it consumed nothing; both forms share that turn.
abbrev pub StarBy : (Entry → Entry → Type 0) → Bool → List Instruction → Entry → Entry → Type 0
StarBy M greedy code next entry =
    (turn : Entry) × M (record { moved = entry.moved; still = 1 }) turn
    × HasBoth code entry (split_of greedy turn.still next.moved) (split_of greedy turn.still next.still)

-- what follows the least number of turns
abbrev pub RestBy : (Entry → Entry → Type 0) → Bool → List Instruction → ℕ → Option ℕ → Entry → Entry → Type 0
RestBy M greedy code low None next entry = StarBy M greedy code next entry
RestBy M greedy code low (Some high) next entry = OptionalsBy M greedy code (high - low) next entry

abbrev pub RepeatBy : (Entry → Entry → Type 0) → Bool → List Instruction → ℕ → Option ℕ → Entry → Entry → Type 0
RepeatBy M greedy code low high next entry = (mid : Entry) × RestBy M greedy code low high next mid × CopiesBy M low mid entry

-- a part of which the first way that stops is taken
abbrev pub AtomicBy : (Entry → Entry → Type 0) → List Instruction → Entry → Entry → Type 0
AtomicBy M code next entry =
    (close : Entry) × (inner : Entry) × M close inner
    × HasBoth code close (i.Commit next.moved) (i.Commit next.still)
    × HasBoth code entry (i.Enter inner.moved) (i.Enter inner.still)

-- a condition, and what follows it or its failure
abbrev pub ConditionBy : (Entry → Entry → Type 0) → (Entry → Type 0) → (Entry → Type 0) → List Instruction → Entry → Type 0
ConditionBy M First Second code entry =
    (one : Entry) × (two : Entry) × (close : Entry) × (inner : Entry) × First one × Second two × M close inner
    × HasBoth code close (i.Commit one.moved) (i.Commit one.still)
    × HasBoth code entry (i.Test inner.moved two.moved) (i.Test inner.still two.still)

abbrev pub KindBy : (Entry → Entry → Type 0) → RepeatKind → List Instruction → ℕ → Option ℕ → Entry → Entry → Type 0
KindBy M Greedy code low high next entry = RepeatBy M true code low high next entry
KindBy M Lazy code low high next entry = RepeatBy M false code low high next entry
KindBy M Possessive code low high next entry = AtomicBy (RepeatBy M true code low high) code next entry

abbrev pub look_of : Bool → Bool → ℕ → ℕ → Instruction
look_of true behind body next = i.Deny behind body next
look_of false behind body next = i.Look behind body next

-- a look-around whose body begins at `start`
abbrev pub LooksBy : Bool → Bool → ℕ → List Instruction → Entry → Entry → Type 0
LooksBy negated behind start code next entry = HasBoth code entry (look_of negated behind start next.moved) (look_of negated behind start next.still)

-- so many units back, and then the body; it fails where it has no size
abbrev pub BackBy : Option ℕ → (Entry → Type 0) → List Instruction → ℕ → Type 0
BackBy None M code start = start ≡ 1
BackBy (Some n) M code start = (inner : Entry) × M inner × Has code start (i.Back n inner.moved)

abbrev pub EitherBy : Bool → Type 0 → Type 0 → Type 0
EitherBy true A B = A
EitherBy false A B = B

-- The code of the pattern begins at `entry` and goes on at `next`: at `moved` once something was consumed since the innermost star's turn began, and before that at `still`.
abbrev mutual
  pub Means : Meaning → Pattern → List Instruction → Entry → Entry → Type 0
  Means m empty code next entry = entry ≡ next
  Means m (character c) code next entry = Has code entry.moved (i.Character c next.moved) × (entry.still ≡ entry.moved)
  Means m (member_of edges) code next entry = Has code entry.moved (i.Member edges next.moved) × (entry.still ≡ entry.moved)
  Means m (in_any_case edges) code next entry = Has code entry.moved (i.Member edges next.moved) × (entry.still ≡ entry.moved)
  Means m (raw_byte byte) code next entry = Has code entry.moved (i.RawByte byte next.moved) × (entry.still ≡ entry.moved)
  Means m (backreference folded number) code next entry = HasBoth code entry (i.Recall folded number next.moved next.moved) (i.Recall folded number next.moved next.still)
  Means m (assertion a) code next entry = HasBoth code entry (i.Assert a next.moved) (i.Assert a next.still)
  Means m (group_test number) code next entry = HasBoth code entry (i.Taken number next.moved) (i.Taken number next.still)
  Means m keep_start code next entry = HasBoth code entry (i.Keep next.moved) (i.Keep next.still)
  Means m continue_here code next entry = HasBoth code entry (i.Continue next.moved) (i.Continue next.still)
  Means m (group index body) code next entry =
      (close : Entry) × (inner : Entry) × Means m body code close inner
      × HasBoth code close (i.Close index next.moved) (i.Close index next.still)
      × HasBoth code entry (i.Open index inner.moved) (i.Open index inner.still)
  Means m (repeat low high kind body) code next entry = KindBy (Means m body code) kind code low high next entry
  Means m (look_ahead negated body) code next entry = (inner : Entry) × Means m body code stopping inner × LooksBy negated false inner.moved code next entry
  Means m (look_behind negated body) code next entry =
      (start : ℕ) × Behind m body (Means m body code stopping) code start × LooksBy negated true start code next entry
  Means m (atomic body) code next entry = AtomicBy (Means m body code) code next entry
  Means m (conditional condition first second) code next entry =
      EitherBy (is_empty first && is_empty second)
      (AtomicBy (Means m condition code) code next entry)
      (ConditionBy (Means m condition code) (Means m first code next) (Means m second code next) code entry)
  Means m (followed part rest) code next entry = (mid : Entry) × Means m rest code next mid × Means m part code mid entry
  Means m (or_else branch others) code next entry =
      (one : Entry) × (two : Entry) × Means m branch code next one × Means m others code next two
      × HasBoth code entry (i.Split one.moved two.moved) (i.Split one.still two.still)
  Means m (last_branch branch) code next entry = Means m branch code next entry

  -- The code of a look-behind's body begins at `start`, each branch with its own way back. `whole` is what the body as one branch means.
  pub Behind : Meaning → Pattern → (Entry → Type 0) → List Instruction → ℕ → Type 0
  Behind m (or_else branch others) whole code start =
      (one : ℕ) × (two : ℕ) × BackBy (size m branch) (Means m branch code stopping) code one × Behind m others (Means m others code stopping) code two
      × Has code start (i.Split one two)
  Behind m (last_branch branch) whole code start = BackBy (size m branch) (Means m branch code stopping) code start
  Behind m p whole code start = BackBy (size m p) whole code start

-- The code of the pattern was appended from the place `from` on: whatever is done to the other instructions, it means the pattern.
abbrev pub Emitted : Meaning → Pattern → ℕ → List Instruction → Entry → Entry → Type 0
Emitted m p from code next entry = (later : List Instruction) → Extends from code later → Means m p later next entry

-- a condition that goes on at the one entry, and where it fails at the other
abbrev pub TestBy : (Entry → Entry → Type 0) → List Instruction → Entry → Entry → Entry → Type 0
TestBy M code one two entry =
    (close : Entry) × (inner : Entry) × M close inner
    × HasBoth code close (i.Commit one.moved) (i.Commit one.still)
    × HasBoth code entry (i.Test inner.moved two.moved) (i.Test inner.still two.still)

abbrev pub TestEmitted : Meaning → Pattern → ℕ → List Instruction → Entry → Entry → Entry → Type 0
TestEmitted m p from code one two entry = (later : List Instruction) → Extends from code later → TestBy (Means m p later) later one two entry

-- the code of a look-behind's branch, and of its whole body
abbrev pub BackEmitted : Meaning → Pattern → ℕ → List Instruction → ℕ → Type 0
BackEmitted m p from code start = (later : List Instruction) → Extends from code later → BackBy (size m p) (Means m p later stopping) later start

abbrev pub BehindEmitted : Meaning → Pattern → ℕ → List Instruction → ℕ → Type 0
BehindEmitted m p from code start = (later : List Instruction) → Extends from code later → Behind m p (Means m p later stopping) later start

abbrev pub CopiesEmitted : Meaning → ℕ → Pattern → ℕ → List Instruction → Entry → Entry → Type 0
CopiesEmitted m n p from code next entry = (later : List Instruction) → Extends from code later → CopiesBy (Means m p later) n next entry

abbrev pub OptionalsEmitted : Meaning → Bool → ℕ → Pattern → ℕ → List Instruction → Entry → Entry → Type 0
OptionalsEmitted m greedy n p from code next entry =
    (later : List Instruction) → Extends from code later → OptionalsBy (Means m p later) greedy later n next entry

abbrev pub StarEmitted : Meaning → Bool → Pattern → ℕ → List Instruction → Entry → Entry → Type 0
StarEmitted m greedy p from code next entry = (later : List Instruction) → Extends from code later → StarBy (Means m p later) greedy later next entry

abbrev pub RestEmitted : Meaning → Bool → ℕ → Option ℕ → Pattern → ℕ → List Instruction → Entry → Entry → Type 0
RestEmitted m greedy low high p from code next entry =
    (later : List Instruction) → Extends from code later → RestBy (Means m p later) greedy later low high next entry

-- how many instructions deep n turns of a star go, where one goes d deep
abbrev pub turn_depth : ℕ → ℕ → ℕ
turn_depth d zero = 1
turn_depth d (suc n) = turn_depth d n + (d + 2)

-- n copies, and then the rest, which goes c deep
abbrev pub copies_depth : ℕ → ℕ → ℕ → ℕ
copies_depth d c zero = c
copies_depth d c (suc n) = d + copies_depth d c n

abbrev pub optionals_depth : ℕ → ℕ → ℕ
optionals_depth d zero = 0
optionals_depth d (suc n) = d + optionals_depth d n + 1

-- what follows the least number of turns, in a text of n bytes
abbrev pub rest_depth : ℕ → ℕ → ℕ → Option ℕ → ℕ
rest_depth d n low None = turn_depth d (suc n)
rest_depth d n low (Some high) = optionals_depth d (high - low)

abbrev pub kind_depth : RepeatKind → ℕ → ℕ
kind_depth Greedy n = n
kind_depth Lazy n = n
kind_depth Possessive n = n + 2

-- how many instructions deep the code of the pattern goes in a text of n bytes
abbrev mutual
  pub depth : ℕ → Pattern → ℕ
  depth n empty = 0
  depth n (character c) = 1
  depth n (member_of edges) = 1
  depth n (in_any_case edges) = 1
  depth n (raw_byte byte) = 1
  depth n (backreference folded number) = 1
  depth n (assertion a) = 1
  depth n (group_test number) = 1
  depth n keep_start = 1
  depth n continue_here = 1
  depth n (group index body) = depth n body + 2
  depth n (repeat low high kind body) = kind_depth kind (copies_depth (depth n body) (rest_depth (depth n body) n low high) low)
  depth n (look_ahead negated body) = depth n body + 2
  depth n (look_behind negated body) = behind_depth n body (depth n body) + 1
  depth n (atomic body) = depth n body + 2
  depth n (conditional condition first second) = depth n condition + depth n first + depth n second + 2
  depth n (followed part rest) = depth n part + depth n rest
  depth n (or_else branch others) = depth n branch + depth n others + 1
  depth n (last_branch branch) = depth n branch

  -- the same for the body of a look-behind, to where it stops; `whole` is that of the body as one branch
  pub behind_depth : ℕ → Pattern → ℕ → ℕ
  behind_depth n (or_else branch others) whole = depth n branch + 2 + behind_depth n others (depth n others) + 1
  behind_depth n (last_branch branch) whole = depth n branch + 2
  behind_depth n p whole = whole + 2

-- the two lists are as long, and the same below lo
abbrev pub Below : ℕ → List ℕ → List ℕ → Type 0
Below lo v u = (length v ≡ length u) × ((k : ℕ) → k < lo → slice_index u k ≡ slice_index v k)

-- where alternatives are told that the code opens with, it opens with them
abbrev pub HasBranches : Code → Type 0
HasBranches code = IfSome (branches_in code.prefilter.opening) (λ b. AreBranches b (instrs_of code) code.meaning code.start)

-- the code is that of the pattern
pub record IsCodeOf (p : Pattern) (code : Code) : Type 0 where
  pub entry : Entry
  pub means : Means code.meaning p (instrs_of code) stopping entry
  pub begins : entry.moved ≡ code.start
  pub matching : Has (instrs_of code) 0 i.Match
  pub failing : Has (instrs_of code) 1 i.Fail
  pub numbered : Numbered 0 code.groups p
  pub starts : AreStartBytes code.meaning p code.prefilter.starts
  pub opens : IfSome (text_in code.prefilter.opening) (λ text. text ≡ opening code.meaning p)
  pub foretold : IfSome (window_in code.prefilter.opening) (λ sets. AreForetold sets code)
  pub anchored : StartsAt code.prefilter.anchor (instrs_of code) code.start
  pub branched : HasBranches code
  pub required : IfSome code.prefilter.region (IsReach code.meaning p)

-- An instruction that reads neither captures nor where groups began, and that ends no way early.
abbrev pub IsEasyInstr : Instruction → Type 0
IsEasyInstr i.Match = Unit {0}
IsEasyInstr i.Fail = Unit {0}
IsEasyInstr (i.Character c next) = Unit {0}
IsEasyInstr (i.Member set next) = Unit {0}
IsEasyInstr (i.RawByte byte next) = Unit {0}
IsEasyInstr (i.Assert a next) = Unit {0}
IsEasyInstr (i.Split a b) = Unit {0}
IsEasyInstr (i.Open index next) = Unit {0}
IsEasyInstr (i.Close index next) = Unit {0}
IsEasyInstr (i.Enter body) = ⊥
IsEasyInstr (i.Commit next) = ⊥
IsEasyInstr (i.Look behind body next) = ⊥
IsEasyInstr (i.Deny behind body next) = ⊥
IsEasyInstr (i.Test body other) = ⊥
IsEasyInstr (i.Back n next) = ⊥
IsEasyInstr (i.Recall folded number moved still) = ⊥
IsEasyInstr (i.Keep next) = ⊥
IsEasyInstr (i.Continue next) = ⊥
IsEasyInstr (i.Taken number next) = ⊥

-- each instruction of the code is easy
abbrev pub AreEasy : List Instruction → Type 0
AreEasy code = (q : ℕ) → IsEasyInstr (instr_at code q)

-- the same as a truth value, of one instruction and of all
abbrev pub is_easy_instr : Instruction → Bool
is_easy_instr i.Match = true
is_easy_instr i.Fail = true
is_easy_instr (i.Character c next) = true
is_easy_instr (i.Member set next) = true
is_easy_instr (i.RawByte byte next) = true
is_easy_instr (i.Assert a next) = true
is_easy_instr (i.Split a b) = true
is_easy_instr (i.Open index next) = true
is_easy_instr (i.Close index next) = true
is_easy_instr (i.Enter body) = false
is_easy_instr (i.Commit next) = false
is_easy_instr (i.Look behind body next) = false
is_easy_instr (i.Deny behind body next) = false
is_easy_instr (i.Test body other) = false
is_easy_instr (i.Back n next) = false
is_easy_instr (i.Recall folded number moved still) = false
is_easy_instr (i.Keep next) = false
is_easy_instr (i.Continue next) = false
is_easy_instr (i.Taken number next) = false

abbrev pub are_easy : List Instruction → Bool
are_easy [] = true
are_easy (i ∷ code) = is_easy_instr i && are_easy code

-- Code that was easy still is.
abbrev pub StaysEasy : List Instruction → List Instruction → Type 0
StaysEasy code later = are_easy code ≡ true → are_easy later ≡ true

-- The code is that of the pattern with so many groups. It has at most four instructions for each node, and two more, and is easy where
-- the pattern is.
pub record IsCompiled (p : Pattern) (g : ℕ) (m : Meaning) (c : Code) : Type 0 where
  pub code : IsCodeOf p c
  pub easy : is_easy p ≡ true → are_easy (instrs_of c) ≡ true
  pub short : code_len c ≤ 4 * nodes p + 2
  pub groups : c.groups ≡ g
  pub meaning : c.meaning ≡ m
