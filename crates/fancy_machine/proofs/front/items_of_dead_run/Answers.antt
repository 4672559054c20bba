use Rattle.std.proofs.Common.{◌≡◌, ◌+◌, ◌-◌, ℕ, false, Option, Some, None, arith, refl, sym, ◌∙◌, subst, true≢false}
use Rattle.std.specs.Prelude.{is_some}
use Rattle.fancy_machine.specs.Runs.{Lacks}
use Rattle.fancy_machine.proofs.front.items_of_dead_run.Goals as goal

none_there : (o : Option ℕ) → is_some o ≡ false → o ≡ None
none_there None e = refl
none_there (Some g) e = absurd (true≢false e)

pub returns : goal.returns
returns c =
    let split = c.in_ok-split.split.now in
    let haystack = c.args.attempt.now.haystack.now in
    let e : c.in_ok-past.past ≡ c.args.position + (c.in_ok-past.past - c.args.position) = omega (arith, c.in_ok-past.ensures.past) in (
      split,
      c.in_ok-split.ensures,
      record {
        items = c.in_ok-past.ensures.items c.args.attempt.now.splits.now haystack split c.requires.known c.in_ok-split.ensures;
        inside = omega (arith, e, c.if-past-end.false);
        ends = subst (Lacks split.begins haystack) e (c.may_begin.ensures c.if-may_begin.false);
        stuck = subst (Lacks split.leaves haystack) e (c.may_leave.ensures c.if-may_leave.false);
        apart = c.if-not-split.false;
        alone = none_there split.group (sym c.is_some.ensures ∙ c.if-is_some.false);
      },
    )
