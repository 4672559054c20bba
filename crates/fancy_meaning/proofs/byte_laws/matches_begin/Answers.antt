use Rattle.std.proofs.Common.{◌≡◌, Bool, true, false, not, refl, sym, subst, true≢false}
use Rattle.fancy_meaning.specs.Search.{context_of, initial}
use Rattle.fancy_meaning.proofs.KeptLemmas.{KeptAt, kept_without}
use Rattle.fancy_bytes.specs.Firsts.{nullable, has_keep_start, first_bytes}
use Rattle.fancy_meaning.specs.Stands.{SeesBefore}
use Rattle.fancy_bytes.proofs.BoolLemmas.{parts_of}
use Rattle.fancy_meaning.proofs.BeginLemmas.{attempt_begins, accepted_holds}
use Rattle.fancy_meaning.proofs.byte_laws.matches_begin.Goals as goal

denied : (b : Bool) → not b ≡ true → b ≡ false
denied true e = absurd (true≢false (sym e))
denied false e = refl

pub returns : goal.returns
returns c q p h e =
    let both = parts_of (not (nullable q.sought.pattern)) _ e in
    let kept : h.state.kept ≡ p =
    accepted_holds q p (KeptAt p) h (kept_without (context_of q) p q.request.range_end q.sought.pattern (denied (has_keep_start q.sought.pattern) both.1) (initial q p) refl) in
    (kept, subst (SeesBefore q.haystack q.request.range_end (first_bytes q.sought.meaning q.sought.pattern)) (sym kept) (attempt_begins q p (denied (nullable q.sought.pattern) both.0) h))
