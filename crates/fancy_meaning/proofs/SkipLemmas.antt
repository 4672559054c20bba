-- Positions that may be passed over.
use Rattle.std.proofs.Common.{◌≡◌, ℕ, zero, suc, ◌+◌, ◌-◌, ◌<◌, ◌≤◌, Bool, true, false, not, Option, Some, None, refl, sym, ap, ap₂, subst, ◌∙◌, arith, le_refl, slice_index, true≢false}
use Rattle.std.proofs.lemmas.Option.{get_or_from_slice_get}
use Rattle.fancy_input.specs.Requests.{effective_start, positions}
use Rattle.fancy_meaning.specs.Search.{Query, answer_at, answer_from, search, context_of, initial}
use Rattle.fancy_meaning.proofs.SearchLemmas.{is-no_answer, all_none}
use Rattle.fancy_meaning.proofs.AttemptLemmas.{search_miss}
use Rattle.fancy_bytes.specs.Firsts.{nullable, first_bytes, AreStartBytes}
use Rattle.fancy_bytes.specs.Sets.{ByteFlags, member}
use Rattle.fancy_bytes.proofs.BoolLemmas.{parts_of}
use Rattle.fancy_bytes.specs.Required.{required_bytes}
use Rattle.fancy_meaning.specs.Stands.{SeesBefore, Stands, NoneSeen}
use Rattle.fancy_meaning.proofs.BeginLemmas.{attempt_begins, accepted_holds}
use Rattle.fancy_meaning.proofs.RequireLemmas.{trace_requires}

-- what a search does at a position that it passes over
pub none_here : (q : Query) (p : ℕ) → nullable q.sought.pattern ≡ false → ¬ SeesBefore q.haystack q.request.range_end (first_bytes q.sought.meaning q.sought.pattern) p → answer_at q p ≡ None
none_here q p never unseen = is-no_answer q p (λ h. unseen (attempt_begins q p never h))

-- positions without an answer may be passed over
pub skip_none : (q : Query) (d n m p r : ℕ) → n ≡ d + m → r ≡ p + d → ((k : ℕ) → p ≤ k → k < r → answer_at q k ≡ None) → answer_from q n p ≡ answer_from q m r
skip_none q zero n m p r count to none =
    let same : n ≡ m = omega arith in
    let there : p ≡ r = omega arith in
    ap₂ (answer_from q) same there
skip_none q (suc d) n m p r count to none =
    search_miss q n (d + m) p (omega arith) (none p (le_refl p) (omega arith))
    ∙ skip_none q d (d + m) m (p + 1) r refl (omega arith) (λ k a b. none k (omega arith) b)

pub skips_lose_nothing : (q : Query) (d n p : ℕ) → nullable q.sought.pattern ≡ false →
    NoneSeen q.haystack q.request.range_end (first_bytes q.sought.meaning q.sought.pattern) p (p + d) → answer_from q (d + n) p ≡ answer_from q n (p + d)
skips_lose_nothing q d n p never unseen = skip_none q d (d + n) n p (p + d) refl refl (λ k a b. none_here q k never (unseen k a b))

-- where a required byte stands nowhere, no attempt finds anything
pub lacking_at : (q : Query) (b : ℕ) → required_bytes q.sought.meaning q.sought.pattern b ≡ true → ¬ Stands q.haystack b → (p : ℕ) → answer_at q p ≡ None
lacking_at q b e lacks p =
    is-no_answer q p
    (λ h. lacks (accepted_holds q p (λ t. Stands q.haystack b) h (trace_requires (context_of q) b q.sought.pattern e q.request.range_end (initial q p))))

pub lacking_is_none : (q : Query) (b : ℕ) → required_bytes q.sought.meaning q.sought.pattern b ≡ true → ¬ Stands q.haystack b → search q ≡ None
lacking_is_none q b e lacks = all_none q (positions q.request) (effective_start q.request) (λ k from to. lacking_at q b e lacks k)
