-- Positions that the bytes which matches start at pass over.
use Rattle.std.proofs.Common.{◌≡◌, ℕ, ◌+◌, ◌-◌, ◌<◌, ◌≤◌, Bool, true, false, not, Option, Some, None, refl, sym, ap, subst, ◌∙◌, arith, slice_index, true≢false}
use Rattle.std.proofs.lemmas.Option.{get_or_from_slice_get}
use Rattle.fancy_bytes.specs.Firsts.{nullable, AreStartBytes}
use Rattle.fancy_bytes.specs.Sets.{ByteFlags, member}
use Rattle.fancy_bytes.proofs.BoolLemmas.{parts_of}
use Rattle.fancy_prefilter.specs.Seen.{MayNotStart, NoneMayStart}
use Rattle.fancy_meaning.specs.Search.{Query, answer_at, answer_from}
use Rattle.fancy_meaning.proofs.SkipLemmas.{none_here, skip_none}

off : (b : Bool) → not b ≡ true → b ≡ false
off true e = absurd (true≢false (sym e))
off false e = refl

module _ (q : Query) (starts : Option ByteFlags) (is : AreStartBytes q.sought.meaning q.sought.pattern starts) (bytes : (k : ℕ) → slice_index q.haystack k < 256) where
  -- nothing is found where no match starts
  pub none_starts : (p : ℕ) → MayNotStart starts q.haystack q.request.range_end p → answer_at q p ≡ None
  none_starts = by starts is where
    by : (o : Option ByteFlags) → AreStartBytes q.sought.meaning q.sought.pattern o → (p : ℕ) → MayNotStart o q.haystack q.request.range_end p → answer_at q p ≡ None
    by None has p never = absurd never
    by (Some set) has p unseen =
        none_here q p (off (nullable q.sought.pattern) (parts_of (not (nullable q.sought.pattern)) _ has.0).0)
        (λ h.
        let same : slice_index q.haystack p ≡ h.1.byte = get_or_from_slice_get q.haystack p h.1.byte 0 h.1.stands in
        let small : h.1.byte < 256 = subst (λ (b : ℕ). b < 256) same (bytes p) in
        true≢false (sym (has.1 h.1.byte small ∙ h.1.passes) ∙ sym (ap (member set) same) ∙ unseen h.0))

  -- positions where no match starts may be passed over
  pub starts_passed : (n m p r : ℕ) → p ≤ r → n ≡ (r - p) + m → NoneMayStart starts q.haystack q.request.range_end p r → answer_from q n p ≡ answer_from q m r
  starts_passed n m p r le count none = skip_none q (r - p) n m p r count (omega arith) (λ k from before. none_starts k (none k from before))
