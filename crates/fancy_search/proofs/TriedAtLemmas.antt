-- Whether a program tries a position, and what an attempt there takes.
use Rattle.std.proofs.Common.{◌≡◌, ℕ, ◌<◌, ◌≤◌, Bool, true, false, not, ◌&&◌, ◌||◌, nat_lt, Some, None, option_map, slice_get, slice_index, take, length, if◌then◌else◌, refl, sym, ap, ◌∙◌, arith, true≢false}
use Rattle.std.proofs.Math.Bool.{or-false}
use Rattle.std.proofs.lemmas.Bool.{ltb-true, ltb-false}
use Rattle.std.proofs.lemmas.List.{length-take-le}
use Rattle.std.proofs.lemmas.Option.{slice_get-get_or, slice_get_past}
use Rattle.fancy_bytes.specs.Firsts.{has_start_bytes}
use Rattle.fancy_bytes.specs.Items.{includes}
use Rattle.fancy_bytes.specs.Required.{required_bytes}
use Rattle.fancy_bytes.proofs.BoolLemmas.{parts_of, some_found}
use Rattle.fancy_bytes.proofs.LackLemmas.{stands_included}
use Rattle.fancy_meaning.specs.Search.{Query, answer_at, attempt, returns_at, choices_at}
use Rattle.fancy_meaning.specs.Tried.{may_begin}
use Rattle.fancy_meaning.proofs.SkipLemmas.{lacking_at}
use Rattle.fancy_search.specs.declared.program.Program.{Program}
use Rattle.fancy_search.specs.Programs.{program_options}
use Rattle.fancy_search.specs.SearchCounts.{lacks_required, tried_by, returns_taken_at, choices_opened_at}
use Rattle.fancy_search.specs.Starts.{may_start}
use Rattle.fancy_search.proofs.StartLemmas.{get_taken, none_before}

-- an attempt that is made takes what it goes through, and another nothing
pub taken_at : (r : Program) (q : Query) (p : ℕ) → tried_by r q p ≡ true → returns_taken_at r q p ≡ returns_at q p
taken_at r q p e = ap (λ (b : Bool). if b then returns_at q p else 0) e

pub opened_at : (r : Program) (q : Query) (p : ℕ) → tried_by r q p ≡ true → choices_opened_at r q p ≡ choices_at q p
opened_at r q p e = ap (λ (b : Bool). if b then choices_at q p else 0) e

pub untaken_at : (r : Program) (q : Query) (p : ℕ) → tried_by r q p ≡ false → returns_taken_at r q p ≡ 0
untaken_at r q p e = ap (λ (b : Bool). if b then returns_at q p else 0) e

-- where a required byte is lacking, no attempt finds anything
lacking_none_at : (q : Query) (p : ℕ) → lacks_required q ≡ true → answer_at q p ≡ None
lacking_none_at q p e =
    let f = some_found 256 (λ b. required_bytes q.sought.meaning q.sought.pattern b && not (includes q.haystack b)) e in
    let told = parts_of (required_bytes q.sought.meaning q.sought.pattern f.0) (not (includes q.haystack f.0)) f.2 in
    lacking_at q f.0 told.0 (λ s. true≢false (sym told.1 ∙ ap not (stands_included q.haystack f.0 s.place s.there))) p

-- whether a match may begin at a position is told by the byte that stands there, within the range
pub begins_by_next : (q : Query) (p : ℕ) → q.request.range_end ≤ length q.haystack
    → may_start q.sought.meaning q.sought.pattern (slice_get (take q.request.range_end q.haystack) p) ≡ may_begin q p
begins_by_next q p range = by (nat_lt p q.request.range_end) refl where
  by : (b : Bool) → nat_lt p q.request.range_end ≡ b → may_start q.sought.meaning q.sought.pattern (slice_get (take q.request.range_end q.haystack) p) ≡ may_begin q p
  by true e =
      let below : p < q.request.range_end = ltb-true p q.request.range_end e in
      let stands : slice_get (take q.request.range_end q.haystack) p ≡ Some (slice_index q.haystack p) = get_taken q.request.range_end q.haystack p below ∙ slice_get-get_or q.haystack p 0 (omega (arith, below, range)) in
      rw (stands, e) refl
  by false e =
      let past : length (take q.request.range_end q.haystack) ≤ p = omega (arith, length-take-le q.request.range_end q.haystack range, ltb-false p q.request.range_end e) in
      rw (slice_get_past (take q.request.range_end q.haystack) p past, e) (sym (or-false (not (has_start_bytes q.sought.pattern))))

-- nor does one that is not made
pub untried_at : (r : Program) (q : Query) (p : ℕ) → q.request.range_end ≤ length q.haystack → tried_by r q p ≡ false → attempt q p ≡ None
untried_at r q p range e = ap (option_map (λ s. record { position = p; state = s })) (by (program_options r).seek (lacks_required q) (may_begin q p) refl refl e) where
  by : (seek lacks begins : Bool) → lacks_required q ≡ lacks → may_begin q p ≡ begins → (not (seek && lacks) && (not seek || begins)) ≡ false → answer_at q p ≡ None
  by false lacks begins l b never = absurd (true≢false never)
  by true true begins l b never = lacking_none_at q p l
  by true false true l b never = absurd (true≢false never)
  by true false false l b never = none_before q p (begins_by_next q p range ∙ b)

pub tries_unless : (r : Program) (q : Query) (p : ℕ) → (program_options r).seek ≡ true → may_begin q p ≡ true → (lacking : Bool) → lacking ≡ lacks_required q → not lacking ≡ tried_by r q p
tries_unless r q p e may true l = rw (e, may, ← l) refl
tries_unless r q p e may false l = rw (e, may, ← l) refl
