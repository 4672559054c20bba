-- What matches are replaced by, and what that makes of a text.
use Prim.Native.Char.{code}
use Rattle.std.specs.Prelude.{◌≡◌, ◌≤◌, ◌<◌, ◌⊎◌, ℕ, Bool, List, [], ◌∷◌, ◌++◌, length, Option, None, Some, Result, MatchOption, IfOk, IfErr, chars, encode_utf8_all, map, true, if◌then◌else◌}
use Rattle.std.specs.Cow.{cow_str_bytes}
use Rattle.std.specs.declared.borrow.CowStr.{CowStr}
use Rattle.fancy_tree.specs.declared.error.Error.{Error}
use Rattle.fancy_tree.specs.declared.error.Error.TheVariants.{Memory}
use Rattle.fancy_input.specs.Requests.{whole}
use Rattle.fancy_template.specs.Marks.{has_mark}
use Rattle.fancy_core.specs.declared.regex.Regex.{Regex}
use Rattle.fancy_core.specs.GroupTexts.{Seen, expansion_of}
use Rattle.fancy_search.specs.Groups.{spans_of}
use Rattle.fancy_core.specs.Searches.{matches_of}
use Rattle.fancy_core.specs.Limited.{Refuses}
use Rattle.fancy_search.specs.MatchList.{MatchItem, span_of_item, start_of, stop_of}
use Rattle.fancy_search.specs.Remaining.{standing_at, scan, allows_at, AllowsUpTo}
use Rattle.fancy_core.specs.Pieces.{pieces, interleaved, limited}
use Rattle.fancy_core.specs.ItemLimits.{limit_of}
use Rattle.fancy_core.specs.Regexes.{program_in, group_count_in, query_in_turn}

-- a template without `$` is one text for all matches: its own characters
abbrev pub fixed_of : List ℕ → Option (List ℕ)
fixed_of template = if has_mark (code "$") (chars template) then None else Some (encode_utf8_all (chars template))

-- A template appends this text for a match: what it expands to, and where it is one text for all matches, that text.
pub record Expands (template : List ℕ) (seen : Seen) (text : List ℕ) : Type 0 where
  pub value : text ≡ expansion_of template seen
  pub fixed : (x : List ℕ) → fixed_of template ≡ Some x → text ≡ x

-- what a replacer sees of an item
abbrev pub seen_of : Regex → List ℕ → MatchItem → Seen
seen_of regex t i = record { regex = regex; haystack = t; spans = spans_of (group_count_in regex) i.found }

-- The answers to these matches, one after the other: each call goes on from the state that the one before left, and the last leaves this state.
abbrev pub Answers : {R : Type 0} → (R → Seen → List ℕ → R → Type 0) → R → List Seen → List (List ℕ) → R → Type 0
Answers gave r [] [] last = r ≡ last
Answers gave r [] (a ∷ answers) last = ⊥
Answers gave r (x ∷ xs) [] last = ⊥
Answers gave r (x ∷ xs) (a ∷ answers) last = (next : _) × gave r x a next × Answers gave next xs answers last

-- the text with answers in the place of the items
abbrev pub replaced : List ℕ → List MatchItem → List (List ℕ) → List ℕ
replaced t items answers = interleaved (pieces t 0 (map span_of_item items)) answers

-- the text with one and the same text in the place of each of the items
abbrev pub text_with_each : List ℕ → List MatchItem → List ℕ → List ℕ
text_with_each t items x = replaced t items (map (λ _. x) items)

-- the matches in a text, from its start on
abbrev pub all_matches : Regex → List ℕ → List MatchItem
all_matches regex t = matches_of regex true t (whole t)

-- the matches in a text that a limit takes: all of them for 0, else the first so many
abbrev pub first_matches : Regex → List ℕ → ℕ → List MatchItem
first_matches regex t limit = limited limit (all_matches regex t)

-- where the last of these items ends; the start of the text, where there is none
abbrev pub end_of : List MatchItem → ℕ
end_of [] = 0
end_of (x ∷ []) = stop_of x
end_of (x ∷ (y ∷ ys)) = end_of (y ∷ ys)

-- the first of these items, if there is one, starts at s or later
abbrev pub StartFrom : ℕ → List MatchItem → Type 0
StartFrom s [] = Unit {0}
StartFrom s (x ∷ xs) = s ≤ start_of x

-- The search for these items may be refused by this error: one of the whole text, with `\G` on or off, that starts at `from` or later, and not after the start of the first of them.
pub record IsRefusedFrom (regex : Regex) (t : List ℕ) (from : ℕ) (items : List MatchItem) (error : Error) : Type 0 where
  pub start : ℕ
  pub on : Bool
  pub after : from ≤ start
  pub before : StartFrom start items
  pub refused : Refuses regex (query_in_turn regex t (record (whole t) { start = start }) on) error

-- There is no limit, or these are fewer than it allows: one more may be replaced.
abbrev pub AllowsOneMore : ℕ → List MatchItem → Type 0
AllowsOneMore limit done = (limit ≡ 0) ⊎ (length done < limit)

-- A replacement was refused after those of its matches that come first, `done`, and by no call of the replacer: for want of
-- memory, or by the search for the others. Once the limit is reached nothing is searched.
pub record IsRefusedAfter (regex : Regex) (t : List ℕ) (limit : ℕ) (done : List MatchItem) (error : Error) : Type 0 where
  pub later : List MatchItem
  pub order : first_matches regex t limit ≡ done ++ later
  pub refused : (error ≡ Memory) ⊎ (AllowsOneMore limit done × IsRefusedFrom regex t (end_of done) later error)

-- A replacement was refused after some of its matches.
abbrev pub IsRefusedAfterSome : Regex → List ℕ → ℕ → Error → Type 0
IsRefusedAfterSome regex t limit error = (done : List MatchItem) × IsRefusedAfter regex t limit done error

-- The searches for the matches that a limit takes keep within their limits of returns. Once so many are found no more is searched for.
abbrev pub AllowsReplacing : Regex → List ℕ → ℕ → Type 0
AllowsReplacing regex t limit =
    AllowsUpTo (allows_at (program_in regex) t (whole t)) (scan (program_in regex) true t (whole t)) (limit_of limit) (standing_at 0) (all_matches regex t)

-- A replacement: what the replacer does in each of its states, of type R, and what is replaced.
pub record Replacing (R : Type 0) : Type 1 where
  -- its one text for all matches, if it has one
  pub fixed : R → Option (List ℕ)
  -- what a call may append: the state that the replacer was in, the match, the text, and the state that it is in then
  pub appends : R → Seen → List ℕ → R → Type 0
  -- what a call may refuse with: the state that the replacer was in, the match, the error, and the state that it is in then
  pub refuses : R → Seen → Error → R → Type 0
  -- in this text the matches of this regex are replaced, the first so many: all of them for the limit 0
  pub regex : Regex
  pub text : List ℕ
  pub limit : ℕ

abbrev pub replacing : {R : Type 0} → (R → Option (List ℕ)) → (R → Seen → List ℕ → R → Type 0) → (R → Seen → Error → R → Type 0) → Regex → List ℕ → ℕ → Replacing R
replacing fixed appends refuses regex text limit = record { fixed = fixed; appends = appends; refuses = refuses; regex = regex; text = text; limit = limit }

-- The replacement by a template with these bytes. A call appends what it expands to, and refuses for want of memory alone; the
-- template stays as it was.
abbrev pub with_template : {R : Type 0} → (R → List ℕ) → Regex → List ℕ → ℕ → Replacing R
with_template bytes regex text limit =
    replacing (λ s. fixed_of (bytes s)) (λ s seen answer next. (next ≡ s) × Expands (bytes s) seen answer) (λ s seen e next. (next ≡ s) × (e ≡ Memory)) regex text limit

-- the replacement by a text that is taken as it is
abbrev pub with_text : {R : Type 0} → (R → List ℕ) → Regex → List ℕ → ℕ → Replacing R
with_text bytes regex text limit =
    replacing (λ s. Some (bytes s)) (λ s seen answer next. (next ≡ s) × (answer ≡ bytes s)) (λ s seen e next. (next ≡ s) × (e ≡ Memory)) regex text limit

-- the matches that it takes
abbrev pub matches_taken : {R : Type 0} → Replacing R → List MatchItem
matches_taken k = first_matches k.regex k.text k.limit

-- The replacer's answers to these items take it from its first state to its last: its one text for each, where its first state has
-- one for all, which leaves it as it was; else those of its calls.
abbrev pub AnswersOf : {R : Type 0} → Replacing R → R → R → List MatchItem → List (List ℕ) → Type 0
AnswersOf k first last items answers =
    MatchOption (k.fixed first) (Answers k.appends first (map (seen_of k.regex k.text) items) answers last)
    (λ x. (answers ≡ map (λ _. x) items) × (last ≡ first))

-- The matches that it takes were replaced, and this is what came of the text. The answers took the replacer from its first state to
-- its last.
pub record IsReplaced {R : Type 0} (k : Replacing R) (first last : R) (result : List ℕ) : Type 0 where
  pub answers : List (List ℕ)
  pub given : AnswersOf k first last (matches_taken k) answers
  pub joined : result ≡ replaced k.text (matches_taken k) answers

-- It was refused between the replacer's calls. The answers to the matches that come before took the replacer from its first state
-- to its last.
pub record IsRefusedBetweenCalls {R : Type 0} (k : Replacing R) (first last : R) (error : Error) : Type 0 where
  pub done : List MatchItem
  pub after : IsRefusedAfter k.regex k.text k.limit done error
  pub answers : List (List ℕ)
  pub given : AnswersOf k first last done answers

-- A call refused with this error. There is no one text for all matches; the calls for the matches before answered, in order from the
-- first state on, and in the state that they left the call for the next match refuses, which leaves the last state.
pub record IsRefusedByReplacer {R : Type 0} (k : Replacing R) (first last : R) (error : Error) : Type 0 where
  pub unfixed : k.fixed first ≡ None
  pub done : List MatchItem
  pub next : MatchItem
  pub later : List MatchItem
  pub order : matches_taken k ≡ done ++ (next ∷ later)
  pub answers : List (List ℕ)
  pub state : R
  pub given : AnswersOf k first state done answers
  pub refused : k.refuses state (seen_of k.regex k.text next) error last

-- The text that a replacement answers: the matches that it takes were replaced in it, which took the replacer from its first state
-- to its last. It stands only where the searches for them kept within their limits.
abbrev pub Replaces : {R Z : Type 0} → Replacing R → R → R → Result (CowStr Z) Error → Type 0
Replaces k first last result = IfOk result (λ r. IsReplaced k first last (cow_str_bytes r) × AllowsReplacing k.regex k.text k.limit)

-- The same where the replacer was given away: some state was its last.
abbrev pub ReplacesBy : {R Z : Type 0} → Replacing R → R → Result (CowStr Z) Error → Type 0
ReplacesBy {R} k first result = IfOk result (λ r. (last : R) × IsReplaced k first last (cow_str_bytes r) × AllowsReplacing k.regex k.text k.limit)

-- One of the matches that it takes was not replaced, for this error: between the replacer's calls, or by a call.
abbrev pub IsRefusedReplacing : {R : Type 0} → Replacing R → R → R → Error → Type 0
IsRefusedReplacing k first last error = IsRefusedBetweenCalls k first last error ⊎ IsRefusedByReplacer k first last error

-- The error that a replacement answers is such a refusal, which took the replacer from its first state to its last.
abbrev pub Fails : {R Z : Type 0} → Replacing R → R → R → Result (CowStr Z) Error → Type 0
Fails k first last result = IfErr result (λ e. IsRefusedReplacing k first last e)

-- The same where the replacer was given away.
abbrev pub FailsBy : {R Z : Type 0} → Replacing R → R → Result (CowStr Z) Error → Type 0
FailsBy {R} k first result = IfErr result (λ e. (last : R) × IsRefusedReplacing k first last e)
