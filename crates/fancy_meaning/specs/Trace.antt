-- The trace of a pattern from a state: every choice that opens, every return to one, and every outcome, in order of preference.
use Rattle.std.specs.Prelude.{ℕ, ◌-◌, Bool, true, false, ◌&&◌, List, [], ◌∷◌, length, Option, Some, None, if◌then◌else◌, ◌==◌, is_some}
use Rattle.fancy_tree.specs.declared.tree.RepeatKind.{RepeatKind}
use Rattle.fancy_tree.specs.declared.tree.RepeatKind.TheVariants.{Greedy, Lazy, Possessive}
use Rattle.fancy_tree.specs.Pattern.{Pattern, empty, character, member_of, in_any_case, raw_byte, backreference, assertion, group_test, keep_start, continue_here, group, repeat, look_ahead, look_behind, atomic, conditional, followed, or_else, last_branch}
use Rattle.fancy_tree.specs.Sets.{has}
use Rattle.fancy_tree.specs.Sizes.{size, is_empty}
use Rattle.fancy_meaning.specs.Context.{Context, State, moved_to, with_capture, group_span, past_item, past_byte, units_back, holds, continues, option_to}
use Rattle.fancy_meaning.specs.Backreference.{past_backreference}
use Rattle.fancy_meaning.specs.Events.{Event, mark, return, Walk, stay, bind, guarded, any, outcomes_in, either, move, holding, copies, optionals, star, looked}

abbrev pub is_greedy : RepeatKind → Bool
is_greedy Greedy = true
is_greedy Lazy = false
is_greedy Possessive = true

-- `low` copies, and then the star or the optionals
abbrev pub repeated : Bool → ℕ → ℕ → Option ℕ → Walk → Walk
repeated greedy limit low None body = copies low body (star greedy limit body)
repeated greedy limit low (Some high) body = copies low body (optionals greedy (high - low) body)

-- a possessive repeat is an atomic group round the greedy one
abbrev pub by_kind : RepeatKind → List Event → List Event
by_kind Greedy es = es
by_kind Lazy es = es
by_kind Possessive es = guarded any stay [] es

-- the walk from n units before the state's place; none where there are not so many
abbrev pub from_before : Context → Option ℕ → Walk → Walk
from_before x None walk s = []
from_before x (Some n) walk s = option_to (units_back x n s.place) [] (λ p. walk (moved_to s p))

module _ (x : Context) where
  -- consumed text ends by the limit; look-around and assertions read the whole haystack
  unfoldable mutual
    pub trace : ℕ → Pattern → Walk
    trace limit empty s = stay s
    trace limit (character c) s = move limit s (past_item x (λ d. d == c) s.place)
    trace limit (member_of edges) s = move limit s (past_item x (has edges) s.place)
    trace limit (in_any_case edges) s = move limit s (past_item x (has edges) s.place)
    trace limit (raw_byte byte) s = move limit s (past_byte x byte s.place)
    trace limit (backreference folded number) s = move limit s (past_backreference x folded number s)
    trace limit (assertion a) s = holding (holds x a s.place) s
    trace limit (group_test number) s = holding (is_some (group_span s number)) s
    trace limit keep_start s = stay (record s { kept = s.place })
    trace limit continue_here s = holding (continues x s.place) s
    trace limit (group index body) s = bind (trace limit body s) (λ t. stay (with_capture t index s.place))
    trace limit (repeat low high kind body) s =
        by_kind kind (repeated (is_greedy kind) limit low high (trace limit body) s)
    trace limit (look_ahead negated body) s = looked negated false s (trace (length x.haystack) body s)
    trace limit (look_behind negated body) s =
        looked negated true s (behind body (trace (length x.haystack) body) s)
    trace limit (atomic body) s = guarded any stay [] (trace limit body s)
    trace limit (conditional condition first second) s =
        if is_empty first && is_empty second
        then guarded any stay [] (trace limit condition s)
        else mark ∷ guarded any (trace limit first) (return ∷ trace limit second s) (trace limit condition s)
    trace limit (followed part rest) s = bind (trace limit part s) (trace limit rest)
    trace limit (or_else branch others) s = either (trace limit branch s) (trace limit others s)
    trace limit (last_branch branch) s = trace limit branch s

    -- The branches of a look-behind's body, each from its own size before the place. A body that is no alternative is one branch, and `whole` is its trace.
    pub behind : Pattern → Walk → Walk
    behind (or_else branch others) whole s =
        either (from_before x (size x.meaning branch) (trace (length x.haystack) branch) s)
        (behind others (trace (length x.haystack) others) s)
    behind (last_branch branch) whole s =
        from_before x (size x.meaning branch) (trace (length x.haystack) branch) s
    behind p whole s = from_before x (size x.meaning p) whole s

-- the outcomes alone, in order of preference
unfoldable pub outcomes : Context → ℕ → Pattern → State → List State
outcomes x limit p s = outcomes_in (trace x limit p s)
