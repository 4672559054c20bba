use Rattle.std.proofs.Common.{◌≡◌, ◌<◌, ◌≤◌, ℕ, Some, None, length, ◌∷◌, [], refl, ap, arith, length-append, subst, Option, IfSome}
use Rattle.std.specs.Prelude.{slice_index_or}
use Rattle.fancy_code.specs.Code.{instrs_of}
use Rattle.fancy_splits.specs.declared.splits.ToldPart.{ToldPart}
use Rattle.fancy_splits.specs.Splits.{IsTold}
use Rattle.fancy_splits.proofs.SplitLemmas.{noted_more, within_more}
use Rattle.fancy_splits.proofs.splits.Splits.of.Goals as goal

pub loop-at-preserved : goal.loop-at-preserved
loop-at-preserved c =
    let numbers = c.loop-at.splits.numbers.items in
    let parts = c.loop-at.splits.parts.items in
    let filled = c.resize.new.self.items in
    let old = c.loop-at.invariant in
    let by = c.in_ok-resize.ensures.by_index in
    let more = c.in_ok-push.ensures.items in
    let last = c.in_ok-push-2.ensures.items in
    let count : length parts ≡ c.len-in-loop-at.result = omega (arith, c.len-in-loop-at.ensures, c.loop-at.splits.parts.ok.0) in
    let long : length filled ≡ c.loop-at.at = omega (arith, c.in_ok-resize.ensures.len, c.resize.new.self.ok.0) in
    let kept : (k : ℕ) → k < c.loop-at.at → k < length numbers → slice_index_or filled k None ≡ slice_index_or numbers k None =
    (λ k lt had. by.0 k None lt (omega (arith, had, c.loop-at.splits.numbers.ok.0))) in
    let none : (k : ℕ) → length numbers ≤ k → k < c.loop-at.at → slice_index_or filled k None ≡ None =
    (λ k past lt. by.1 k None refl (omega (arith, past, c.loop-at.splits.numbers.ok.0)) lt) in
    record {
      short = omega (arith, ap length more, length-append filled (Some c.len-in-loop-at.result ∷ []), long);
      few = omega (arith, ap length last, length-append parts (c.in-Some.found ∷ []), old.few, c.if-len-eq-MOST.false);
      within = rw (more, last) (within_more numbers filled c.loop-at.at c.len-in-loop-at.result long kept none parts c.in-Some.found count old.within);
      noted = rw (more, last)
          (noted_more numbers filled c.loop-at.at c.len-in-loop-at.result long kept none parts c.in-Some.found count old.within (IsTold (instrs_of c.args.code.now) c.args.code.now.meaning) old.noted
          (subst (λ (o : Option ToldPart). IfSome o (IsTold (instrs_of c.args.code.now) c.args.code.now.meaning c.loop-at.at)) c.in-Some.is c.in_ok-found.ensures));
    }
