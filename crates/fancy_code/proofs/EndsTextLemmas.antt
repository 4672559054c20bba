-- Where the last part of a pattern holds at the end of the text alone, each outcome ends there.
use Rattle.std.proofs.Common.{◌≡◌, ℕ, ◌==◌, true, not, length, sym, eqb-true, true≢false}
use Rattle.fancy_tree.specs.declared.tree.Assertion.{Assertion}
use Rattle.fancy_tree.specs.declared.tree.Assertion.TheVariants.{TextStart, TextEnd, LineStart, LineEnd, LineStartCrlf, LineEndCrlf, LastLine, LastLineCrlf, WordBoundary, NotWordBoundary, WordStart, WordEnd, WordStartHalf, WordEndHalf}
use Rattle.fancy_tree.specs.Pattern.{Pattern, empty, character, member_of, in_any_case, raw_byte, backreference, assertion, group_test, keep_start, continue_here, group, repeat, look_ahead, look_behind, atomic, conditional, followed, or_else, last_branch}
use Rattle.fancy_bytes.proofs.BoolLemmas.{parts_of}
use Rattle.fancy_required.specs.Ends.{ends_text, is_text_end}
use Rattle.fancy_meaning.specs.Context.{Context, State, holds}
use Rattle.fancy_meaning.specs.Forward.{EachOutcome}
use Rattle.fancy_meaning.specs.Trace.{trace}
use Rattle.fancy_meaning.proofs.EventLemmas.{EachOutcome-bind, EachOutcome-only_if, EachOutcome_all}

text_ends : (x : Context) (p : ℕ) → holds x TextEnd p ≡ true → p ≡ length x.haystack
unfolding holds
text_ends x p h = eqb-true p (length x.haystack) (parts_of (p == length x.haystack) (not x.end_text_off) h).0

-- so does each that holds at the end of the text alone
holds_at_end : (x : Context) (a : Assertion) (p : ℕ) → is_text_end a ≡ true → holds x a p ≡ true → p ≡ length x.haystack
holds_at_end x TextStart p e h = absurd (true≢false (sym e))
holds_at_end x TextEnd p e h = text_ends x p h
holds_at_end x LineStart p e h = absurd (true≢false (sym e))
holds_at_end x LineEnd p e h = absurd (true≢false (sym e))
holds_at_end x LineStartCrlf p e h = absurd (true≢false (sym e))
holds_at_end x LineEndCrlf p e h = absurd (true≢false (sym e))
holds_at_end x LastLine p e h = absurd (true≢false (sym e))
holds_at_end x LastLineCrlf p e h = absurd (true≢false (sym e))
holds_at_end x WordBoundary p e h = absurd (true≢false (sym e))
holds_at_end x NotWordBoundary p e h = absurd (true≢false (sym e))
holds_at_end x WordStart p e h = absurd (true≢false (sym e))
holds_at_end x WordEnd p e h = absurd (true≢false (sym e))
holds_at_end x WordStartHalf p e h = absurd (true≢false (sym e))
holds_at_end x WordEndHalf p e h = absurd (true≢false (sym e))

pub trace_ends_text : (x : Context) (p : Pattern) → ends_text p ≡ true → (limit : ℕ) (s : State) → EachOutcome (λ t. t.place ≡ length x.haystack) (trace x limit p s)
unfolding trace
trace_ends_text x empty e limit s = absurd (true≢false (sym e))
trace_ends_text x (character c) e limit s = absurd (true≢false (sym e))
trace_ends_text x (member_of edges) e limit s = absurd (true≢false (sym e))
trace_ends_text x (in_any_case edges) e limit s = absurd (true≢false (sym e))
trace_ends_text x (raw_byte byte) e limit s = absurd (true≢false (sym e))
trace_ends_text x (backreference folded number) e limit s = absurd (true≢false (sym e))
trace_ends_text x (assertion a) e limit s = EachOutcome-only_if (λ t. t.place ≡ length x.haystack) (holds x a s.place) _ (λ h. (holds_at_end x a s.place e h, tt))
trace_ends_text x (group_test number) e limit s = absurd (true≢false (sym e))
trace_ends_text x keep_start e limit s = absurd (true≢false (sym e))
trace_ends_text x continue_here e limit s = absurd (true≢false (sym e))
trace_ends_text x (group index body) e limit s =
    EachOutcome-bind (λ t. t.place ≡ length x.haystack) (λ t. t.place ≡ length x.haystack) (trace x limit body s) _ (trace_ends_text x body e limit s) (λ t h. (h, tt))
trace_ends_text x (repeat low high kind body) e limit s = absurd (true≢false (sym e))
trace_ends_text x (look_ahead negated body) e limit s = absurd (true≢false (sym e))
trace_ends_text x (look_behind negated body) e limit s = absurd (true≢false (sym e))
trace_ends_text x (atomic body) e limit s = absurd (true≢false (sym e))
trace_ends_text x (conditional condition on_match otherwise) e limit s = absurd (true≢false (sym e))
trace_ends_text x (followed part rest) e limit s =
    EachOutcome-bind (λ t. Unit {0}) (λ t. t.place ≡ length x.haystack) (trace x limit part s) (trace x limit rest) (EachOutcome_all (λ t. Unit {0}) (trace x limit part s) (λ t. tt))
    (λ t h. trace_ends_text x rest e limit t)
trace_ends_text x (or_else branch others) e limit s = absurd (true≢false (sym e))
trace_ends_text x (last_branch branch) e limit s = absurd (true≢false (sym e))
