use Rattle.std.proofs.Common.{◌≡◌, ◌-◌, ◌^◌, Bool, true, false, refl, sym, subst}
use Rattle.std.specs.Prelude.{nat_lt, if◌then◌else◌}
use Rattle.fancy_input.specs.declared.work.Work.{Work}
use Rattle.fancy_input.specs.Work.{units_of, stepped, stepped_within}
use Rattle.fancy_input.proofs.WorkLemmas.{one_step}
use Rattle.fancy_alphabet.proofs.effect.effect_at.Goals as goal

pub returns-clause-steps : goal.returns-clause-steps
returns-clause-steps c = (one_step c.args.work.now c.fetch.new.work c.fetch.ensures.work).more

pub returns-clause-bounded : goal.returns-clause-bounded
returns-clause-bounded c = (one_step c.args.work.now c.fetch.new.work c.fetch.ensures.work).one

pub returns-clause-counted : goal.returns-clause-counted
returns-clause-counted c = (one_step c.args.work.now c.fetch.new.work c.fetch.ensures.work).counted

pub returns-clause-returns : goal.returns-clause-returns
returns-clause-returns c = (one_step c.args.work.now c.fetch.new.work c.fetch.ensures.work).returns

-- a step counts no units
no_units : (before after : Work) → after ≡ stepped_within before → units_of after ≡ units_of before
no_units before after is = subst (λ (w : Work). units_of w ≡ units_of before) (sym is) (at (nat_lt before.steps (2 ^ 64 - 1))) where
  at : (b : Bool) → units_of (if b then stepped before else before) ≡ units_of before
  at true = refl
  at false = refl

pub returns-clause-units : goal.returns-clause-units
returns-clause-units c = no_units c.args.work.now c.fetch.new.work c.fetch.ensures.work
