use Rattle.std.proofs.Common.{arith, sym, refl, ◌∙◌}
use Rattle.std.proofs.lemmas.Option.{slice_get_read}
use Rattle.fancy_regex.proofs.SetCandidateLemmas.{passed, that_one, one_more}
use Rattle.fancy_regex.proofs.set.RegexSet.next_in_groups.Goals as goal

pub returns-then-may_start_before : goal.returns-then-may_start_before
returns-then-may_start_before c =
    let s = c.args.self.now in
    let index = c.in-Some.index in
    let candidate = c.in-Some.ensures in
    let inside = candidate.inside in
    let count = c.len-count.ensures in
    let is = slice_get_read s.members.items _ index c.index.result.now refl (omega (arith, inside, count)) c.index.ensures in
    let first = c.candidates.invariant.reached in
    let later = candidate.reached in
    record {
      reached = omega (arith, first, later);
      inside = omega (arith, inside, count);
      starts = that_one s.members.items c.args.searched.now c.args.position index c.index.result.now is (rw c.byte_at-next.ensures at (sym c.may_start_before.ensures ∙ c.if-may_start_before.true));
      none = passed s.members.items c.args.searched.now c.args.position s.candidates.width c.args.groups c.requires c.args.from c.candidates.from index c.candidates.invariant.none candidate.none;
    }

pub candidates-preserved : goal.candidates-preserved
candidates-preserved c =
    let s = c.args.self.now in
    let index = c.in-Some.index in
    let candidate = c.in-Some.ensures in
    let inside = candidate.inside in
    let count = c.len-count.ensures in
    let is = slice_get_read s.members.items _ index c.index.result.now refl (omega (arith, inside, count)) c.index.ensures in
    let first = c.candidates.invariant.reached in
    let later = candidate.reached in
    record {
      reached = omega (arith, first, later);
      none = one_more s.members.items c.args.searched.now c.args.position c.args.from index c.index.result.now is (rw c.byte_at-next.ensures at (sym c.may_start_before.ensures ∙ c.if-may_start_before.false))
          (passed s.members.items c.args.searched.now c.args.position s.candidates.width c.args.groups c.requires c.args.from c.candidates.from index c.candidates.invariant.none candidate.none);
    }

pub returns : goal.returns
returns c =
    let s = c.args.self.now in
    let count = c.len-count.ensures in
    λ k r from below.
    passed s.members.items c.args.searched.now c.args.position s.candidates.width c.args.groups c.requires c.args.from c.candidates.from c.len-count.result c.candidates.invariant.none c.in_default.ensures
    k r from (omega (arith, below, count))
