-- The code of a pattern follows the pattern's trace.
use Rattle.std.proofs.Common.{ℕ, suc, ◌+◌, ◌≤◌, ◌≡◌, Bool, ◌&&◌, true, false, List, [], ◌∷◌, length, refl, arith}
use Rattle.std.specs.Prelude.{◌==◌, is_some, if◌then◌else◌}
use Rattle.fancy_tree.specs.declared.tree.RepeatKind.TheVariants.{Greedy, Lazy, Possessive}
use Rattle.fancy_tree.specs.Pattern.{Pattern, empty, character, member_of, in_any_case, raw_byte, backreference, assertion, group_test, keep_start, continue_here, group, repeat, look_ahead, look_behind, atomic, conditional, followed, or_else, last_branch}
use Rattle.fancy_tree.specs.Sets.{has}
use Rattle.fancy_code.specs.Instructions.{Instruction}
use Rattle.fancy_code.specs.Instructions as i
use Rattle.fancy_code.specs.declared.code.Entry.{Entry}
use Rattle.fancy_meaning.specs.Context.{Context, State, group_span, past_item, past_byte, holds, continues}
use Rattle.fancy_meaning.specs.Events.{mark, return, stay, guarded, any, move, looked}
use Rattle.fancy_meaning.specs.Trace.{trace, behind, repeated}
use Rattle.fancy_code.specs.Run.{CodeGives}
use Rattle.fancy_tree.specs.GroupNumbers.{Numbered}
use Rattle.fancy_tree.specs.Sizes.{size, is_empty}
use Rattle.fancy_code.specs.Compile.{Has, Means, Behind, AtomicBy, ConditionBy, EitherBy, depth, behind_depth, copies_depth, rest_depth, stopping}
use Rattle.fancy_code.proofs.RunLemmas.{gives_more, gives_split}
use Rattle.fancy_meaning.proofs.Past.{item_beyond, byte_beyond}
use Rattle.fancy_code.proofs.FollowParts.{Follow, deeper, none_follow, item_follows, both_follow, either_follow, group_follows, repeat_follows}
use Rattle.fancy_code.proofs.FollowRegions.{Kept, atomic_follows, condition_follows, look_follows, stops_gives, back_gives, test_follows, keep_follows, recall_follows}

module _ (x : Context) (code : List Instruction) (hi : ℕ) (matching : Has code 0 i.Match) (failing : Has code 1 i.Fail) where
  -- one item of the set by these edges
  member_follows : (edges : List ℕ) (limit lo : ℕ) (next entry : Entry) → Has code entry.moved (i.Member edges next.moved) × (entry.still ≡ entry.moved)
      → Follow x limit code hi (λ s. move limit s (past_item x (has edges) s.place)) 1 lo next entry
  member_follows edges limit lo next entry means =
      item_follows x limit code hi lo (i.Member edges next.moved) (past_item x (has edges)) next entry means.0 means.1 (λ n q s v. refl) (item_beyond x (has edges))

  mutual
    unfolding trace

    -- in both forms, for whatever follows and however the ways stop
    pub follows : (p : Pattern) (limit : ℕ) → limit ≤ length x.haystack → (lo : ℕ) (next entry : Entry) → Means x.meaning p code next entry → Numbered lo hi p
        → Follow x limit code hi (trace x limit p) (depth (length x.haystack) p) lo next entry
    follows empty limit le lo next entry means num = none_follow x limit code hi lo next entry means
    follows (character c) limit le lo next entry means num =
        item_follows x limit code hi lo (i.Character c next.moved) (past_item x (λ d. d == c)) next entry means.0 means.1 (λ n q s v. refl) (item_beyond x (λ d. d == c))
    follows (member_of edges) limit le lo next entry means num = member_follows edges limit lo next entry means
    follows (in_any_case edges) limit le lo next entry means num = member_follows edges limit lo next entry means
    follows (raw_byte byte) limit le lo next entry means num =
        item_follows x limit code hi lo (i.RawByte byte next.moved) (past_byte x byte) next entry means.0 means.1 (λ n q s v. refl) (byte_beyond x byte)
    follows (backreference folded number) limit le lo next entry means num = recall_follows x limit code hi folded number lo next entry means
    follows (assertion a) limit le lo next entry means num =
        test_follows x limit code hi (λ s. holds x a s.place) (i.Assert a next.moved) (i.Assert a next.still) lo next entry means (λ n s v. refl) (λ n s v. refl)
    follows (group_test number) limit le lo next entry means num =
        test_follows x limit code hi (λ s. is_some (group_span s number)) (i.Taken number next.moved) (i.Taken number next.still) lo next entry means (λ n s v. refl) (λ n s v. refl)
    follows keep_start limit le lo next entry means num = keep_follows x limit code hi lo next entry means
    follows continue_here limit le lo next entry means num =
        test_follows x limit code hi (λ s. continues x s.place) (i.Continue next.moved) (i.Continue next.still) lo next entry means (λ n s v. refl) (λ n s v. refl)
    follows (group index body) limit le lo next entry means num =
        group_follows x limit code hi (trace x limit body) (depth (length x.haystack) body) lo index next means.0 means.1 entry num.0 num.1
        (follows body limit le (index + 1) means.0 means.1 means.2 num.2) means.3 means.4
    follows (repeat low high Greedy body) limit le lo next entry means num =
        repeat_follows x limit code hi failing (Means x.meaning body code) (trace x limit body) (depth (length x.haystack) body) lo (λ n e m. follows body limit le lo n e m num)
        true (length x.haystack) low high next entry le means
    follows (repeat low high Lazy body) limit le lo next entry means num =
        repeat_follows x limit code hi failing (Means x.meaning body code) (trace x limit body) (depth (length x.haystack) body) lo (λ n e m. follows body limit le lo n e m num)
        false (length x.haystack) low high next entry le means
    follows (repeat low high Possessive body) limit le lo next entry means num =
        atomic_follows x limit code hi (repeated true limit low high (trace x limit body)) (copies_depth (depth (length x.haystack) body) (rest_depth (depth (length x.haystack) body) (length x.haystack) low high) low)
        lo next means.0 means.1 entry
        (repeat_follows x limit code hi failing (Means x.meaning body code) (trace x limit body) (depth (length x.haystack) body) lo (λ n e m. follows body limit le lo n e m num)
        true (length x.haystack) low high means.0 means.1 le means.2)
        means.3 means.4
    follows (look_ahead negated body) limit le lo next entry means num =
        deeper x limit code hi (λ s. looked negated false s (trace x (length x.haystack) body s)) (depth (length x.haystack) body + 1 + 1) (depth (length x.haystack) body + 2) lo next entry (omega arith)
        (look_follows x limit code hi negated false means.0.moved (depth (length x.haystack) body + 1) lo (trace x (length x.haystack) body) next entry
        (λ s v within len. stops_gives x (length x.haystack) code hi matching (trace x (length x.haystack) body) (depth (length x.haystack) body) lo means.0
        (follows body (length x.haystack) (omega arith) lo stopping means.0 means.1 num) s v (omega arith) len)
        means.2)
    follows (look_behind negated body) limit le lo next entry means num =
        look_follows x limit code hi negated true means.0 (behind_depth (length x.haystack) body (depth (length x.haystack) body)) lo (behind x body (trace x (length x.haystack) body)) next entry
        (λ s v within len. behind_gives body lo (Means x.meaning body code stopping) (λ inner m. follows body (length x.haystack) (omega arith) lo stopping inner m num) means.0 means.1 num s v (omega arith) len)
        means.2
    follows (atomic body) limit le lo next entry means num =
        atomic_follows x limit code hi (trace x limit body) (depth (length x.haystack) body) lo next means.0 means.1 entry (follows body limit le lo means.0 means.1 means.2 num) means.3 means.4
    follows (conditional condition first second) limit le lo next entry means num =
        decided (is_empty first && is_empty second) means (λ n e m. follows condition limit le lo n e m num.0) (λ e m. follows first limit le lo next e m num.1)
        (λ e m. follows second limit le lo next e m num.2) where
          decided : (b : Bool)
              → EitherBy b (AtomicBy (Means x.meaning condition code) code next entry)
              (ConditionBy (Means x.meaning condition code) (Means x.meaning first code next) (Means x.meaning second code next) code entry)
              → ((n e : Entry) → Means x.meaning condition code n e → Follow x limit code hi (trace x limit condition) (depth (length x.haystack) condition) lo n e)
              → ((e : Entry) → Means x.meaning first code next e → Follow x limit code hi (trace x limit first) (depth (length x.haystack) first) lo next e)
              → ((e : Entry) → Means x.meaning second code next e → Follow x limit code hi (trace x limit second) (depth (length x.haystack) second) lo next e)
              → Follow x limit code hi (λ s. if b then guarded any stay [] (trace x limit condition s)
              else mark ∷ guarded any (trace x limit first) (return ∷ trace x limit second s) (trace x limit condition s)) (depth (length x.haystack) (conditional condition first second)) lo next entry
          decided true w fc ff fg =
              deeper x limit code hi (λ s. guarded any stay [] (trace x limit condition s)) (depth (length x.haystack) condition + 2) (depth (length x.haystack) (conditional condition first second)) lo next entry (omega arith)
              (atomic_follows x limit code hi (trace x limit condition) (depth (length x.haystack) condition) lo next w.0 w.1 entry (fc w.0 w.1 w.2) w.3 w.4)
          decided false w fc ff fg =
              condition_follows x limit code hi (trace x limit condition) (trace x limit first) (trace x limit second)
              (depth (length x.haystack) condition) (depth (length x.haystack) first) (depth (length x.haystack) second) lo next w.0 w.1 w.2 w.3 entry
              (fc w.2 w.3 w.6) (ff w.0 w.4) (fg w.1 w.5) w.7 w.8
    follows (followed part rest) limit le lo next entry means num =
        both_follow x limit code hi (trace x limit part) (trace x limit rest) (depth (length x.haystack) part) (depth (length x.haystack) rest) lo next means.0 entry
        (follows part limit le lo means.0 entry means.2 num.0) (follows rest limit le lo next means.0 means.1 num.1)
    follows (or_else branch others) limit le lo next entry means num =
        either_follow x limit code hi (trace x limit branch) (trace x limit others) (depth (length x.haystack) branch) (depth (length x.haystack) others) lo next means.0 means.1 entry
        (follows branch limit le lo next means.0 means.2 num.0) (follows others limit le lo next means.1 means.3 num.1) means.4
    follows (last_branch branch) limit le lo next entry means num = follows branch limit le lo next entry means num

    -- a look-behind's body, each branch of which goes back its own size
    behind_gives : (p : Pattern) (lo : ℕ) (M : Entry → Type 0)
        → ((inner : Entry) → M inner → Follow x (length x.haystack) code hi (trace x (length x.haystack) p) (depth (length x.haystack) p) lo stopping inner)
        → (start : ℕ) → Behind x.meaning p M code start → Numbered lo hi p → (s : State) (v : List ℕ) → s.place ≤ length x.haystack → length v ≡ hi
        → CodeGives x (length x.haystack) code (Kept lo v) (behind_depth (length x.haystack) p (depth (length x.haystack) p)) start s v (behind x p (trace x (length x.haystack) p) s)
    behind_gives (or_else branch others) lo M each start by num s v le len =
        gives_more x (length x.haystack) code (Kept lo v)
        (suc (depth (length x.haystack) branch + 2 + behind_depth (length x.haystack) others (depth (length x.haystack) others)))
        (depth (length x.haystack) branch + 2 + behind_depth (length x.haystack) others (depth (length x.haystack) others) + 1) start s v _ (omega arith)
        (gives_split x (length x.haystack) code (Kept lo v) (depth (length x.haystack) branch + 2 + behind_depth (length x.haystack) others (depth (length x.haystack) others))
        start by.0 by.1 s v _ _ by.4
        (gives_more x (length x.haystack) code (Kept lo v) (depth (length x.haystack) branch + 2) _ by.0 s v _ (omega arith)
        (back_gives x (length x.haystack) code hi matching failing (size x.meaning branch) (trace x (length x.haystack) branch) (Means x.meaning branch code stopping) (depth (length x.haystack) branch) lo by.0
        (λ inner m. follows branch (length x.haystack) (omega arith) lo stopping inner m num.0) by.2 s v le len))
        (gives_more x (length x.haystack) code (Kept lo v) (behind_depth (length x.haystack) others (depth (length x.haystack) others)) _ by.1 s v _ (omega arith)
        (behind_gives others lo (Means x.meaning others code stopping) (λ inner m. follows others (length x.haystack) (omega arith) lo stopping inner m num.1) by.1 by.3 num.1 s v le len)))
    behind_gives (last_branch branch) lo M each start by num s v le len =
        back_gives x (length x.haystack) code hi matching failing (size x.meaning branch) (trace x (length x.haystack) branch) (Means x.meaning branch code stopping) (depth (length x.haystack) branch) lo start
        (λ inner m. follows branch (length x.haystack) (omega arith) lo stopping inner m num) by s v le len
    behind_gives empty lo M each start by num s v le len = back_gives x (length x.haystack) code hi matching failing (size x.meaning empty) (trace x (length x.haystack) empty) M (depth (length x.haystack) empty) lo start each by s v le len
    behind_gives (character c) lo M each start by num s v le len = back_gives x (length x.haystack) code hi matching failing (size x.meaning (character c)) (trace x (length x.haystack) (character c)) M (depth (length x.haystack) (character c)) lo start each by s v le len
    behind_gives (member_of edges) lo M each start by num s v le len = back_gives x (length x.haystack) code hi matching failing (size x.meaning (member_of edges)) (trace x (length x.haystack) (member_of edges)) M (depth (length x.haystack) (member_of edges)) lo start each by s v le len
    behind_gives (in_any_case edges) lo M each start by num s v le len = back_gives x (length x.haystack) code hi matching failing (size x.meaning (in_any_case edges)) (trace x (length x.haystack) (in_any_case edges)) M (depth (length x.haystack) (in_any_case edges)) lo start each by s v le len
    behind_gives (raw_byte byte) lo M each start by num s v le len = back_gives x (length x.haystack) code hi matching failing (size x.meaning (raw_byte byte)) (trace x (length x.haystack) (raw_byte byte)) M (depth (length x.haystack) (raw_byte byte)) lo start each by s v le len
    behind_gives (backreference folded number) lo M each start by num s v le len = back_gives x (length x.haystack) code hi matching failing (size x.meaning (backreference folded number)) (trace x (length x.haystack) (backreference folded number)) M (depth (length x.haystack) (backreference folded number)) lo start each by s v le len
    behind_gives (assertion a) lo M each start by num s v le len = back_gives x (length x.haystack) code hi matching failing (size x.meaning (assertion a)) (trace x (length x.haystack) (assertion a)) M (depth (length x.haystack) (assertion a)) lo start each by s v le len
    behind_gives (group_test number) lo M each start by num s v le len = back_gives x (length x.haystack) code hi matching failing (size x.meaning (group_test number)) (trace x (length x.haystack) (group_test number)) M (depth (length x.haystack) (group_test number)) lo start each by s v le len
    behind_gives keep_start lo M each start by num s v le len = back_gives x (length x.haystack) code hi matching failing (size x.meaning keep_start) (trace x (length x.haystack) keep_start) M (depth (length x.haystack) keep_start) lo start each by s v le len
    behind_gives continue_here lo M each start by num s v le len = back_gives x (length x.haystack) code hi matching failing (size x.meaning continue_here) (trace x (length x.haystack) continue_here) M (depth (length x.haystack) continue_here) lo start each by s v le len
    behind_gives (group index body) lo M each start by num s v le len = back_gives x (length x.haystack) code hi matching failing (size x.meaning (group index body)) (trace x (length x.haystack) (group index body)) M (depth (length x.haystack) (group index body)) lo start each by s v le len
    behind_gives (repeat low high kind body) lo M each start by num s v le len = back_gives x (length x.haystack) code hi matching failing (size x.meaning (repeat low high kind body)) (trace x (length x.haystack) (repeat low high kind body)) M (depth (length x.haystack) (repeat low high kind body)) lo start each by s v le len
    behind_gives (look_ahead negated body) lo M each start by num s v le len = back_gives x (length x.haystack) code hi matching failing (size x.meaning (look_ahead negated body)) (trace x (length x.haystack) (look_ahead negated body)) M (depth (length x.haystack) (look_ahead negated body)) lo start each by s v le len
    behind_gives (look_behind negated body) lo M each start by num s v le len = back_gives x (length x.haystack) code hi matching failing (size x.meaning (look_behind negated body)) (trace x (length x.haystack) (look_behind negated body)) M (depth (length x.haystack) (look_behind negated body)) lo start each by s v le len
    behind_gives (atomic body) lo M each start by num s v le len = back_gives x (length x.haystack) code hi matching failing (size x.meaning (atomic body)) (trace x (length x.haystack) (atomic body)) M (depth (length x.haystack) (atomic body)) lo start each by s v le len
    behind_gives (conditional condition first second) lo M each start by num s v le len = back_gives x (length x.haystack) code hi matching failing (size x.meaning (conditional condition first second)) (trace x (length x.haystack) (conditional condition first second)) M (depth (length x.haystack) (conditional condition first second)) lo start each by s v le len
    behind_gives (followed part rest) lo M each start by num s v le len = back_gives x (length x.haystack) code hi matching failing (size x.meaning (followed part rest)) (trace x (length x.haystack) (followed part rest)) M (depth (length x.haystack) (followed part rest)) lo start each by s v le len
