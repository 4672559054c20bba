use Rattle.std.proofs.Common.{◌≡◌, ◌-◌, ◌<◌, ◌≤◌, ℕ, zero, suc, List, [], ◌∷◌, sym, subst, arith}
use Rattle.fancy_trail.specs.Frames.{Frame, Saved, Within}
use Rattle.fancy_trail.specs.Ways.{EndsInRun, SavedOn}
use Rattle.fancy_machine.specs.declared.attempt.Attempt.{Attempt}
use Rattle.fancy_machine.specs.Attempt.{DiesAt, DieFirst}
use Rattle.fancy_machine.proofs.runs.pass_over.Goals as goal

-- branches that are dropped from a run die first, where bytes tell it of its places
die_first : (a : Attempt) (q n m p : ℕ) (fs gs hs : List Frame) → EndsInRun q p m fs hs → SavedOn n fs gs → n ≤ m → ((k : ℕ) → k < n → DiesAt a q (p - k)) → DieFirst a n fs gs
die_first a q zero m p fs gs hs run on le dies = on
die_first a q (suc n) zero p fs gs hs run on le dies = absurd (omega (arith, le))
die_first a q (suc n) (suc m) p [] gs hs run on le dies = absurd on
die_first a q (suc n) (suc m) p (Within r ∷ fs) gs hs run on le dies = absurd on
die_first a q (suc n) (suc m) p (Saved x ∷ fs) gs hs run on le dies =
    let here : p - 0 ≡ p = omega arith in
    let dead : DiesAt a x.at x.state.place = subst (λ (i : ℕ). DiesAt a i x.state.place) (sym run.0) (subst (DiesAt a q) (sym run.1) (subst (DiesAt a q) here (dies 0 (omega arith)))) in
    (dead, die_first a q n m (p - 1) fs gs hs run.2 on (omega (arith, le)) (λ k lt. let same : p - suc k ≡ p - 1 - k = omega arith in subst (DiesAt a q) same (dies (suc k) (omega (arith, lt)))))

pub returns-in-Some-clause-passed : goal.returns-in-Some-clause-passed
returns-in-Some-clause-passed c =
    die_first c.args.attempt.now c.in-Some.run'.at c.drop_last.result _ c.in-Some.run'.last c.args.trail.now.frames c.drop_last.new.self.frames c.in-Some.ensures.run.0 c.in-Some.ensures.run.1 c.drop_last.ensures.dropped
    (omega (arith, c.drop_last.ensures.few, c.places_dead.ensures.few)) (λ k lt. c.places_dead.ensures.dead k (omega (arith, lt, c.drop_last.ensures.few)))
