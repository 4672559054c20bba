-- What going on did, from its parts.
use Rattle.std.proofs.Common.{◌≡◌, ◌+◌, ℕ, Option, Result, Ok, Err, arith, subst, sym}
use Rattle.std.specs.Prelude.{IsErrAnd}
use Rattle.fancy_input.specs.declared.refusal.SearchRefusal.{SearchRefusal}
use Rattle.fancy_input.specs.declared.refusal.SearchRefusal.TheVariants.{Returns, Choices}
use Rattle.fancy_input.specs.declared.work.Work.{Work}
use Rattle.fancy_input.specs.Work.{returns_of}
use Rattle.fancy_code.specs.declared.step.Next.{Next}
use Rattle.fancy_meaning.specs.Context.{State}
use Rattle.fancy_machine.specs.declared.attempt.Attempt.{Attempt}
use Rattle.fancy_trail.specs.Frames.{Held}
use Rattle.fancy_machine.specs.Attempt.{TakesAtLeast, IsOverfull}
use Rattle.fancy_machine.specs.Parts.{WentOn}
use Rattle.fancy_machine.proofs.RefusalLemmas.{passed_on}

-- no attempt takes fewer returns than it took before
pub takes_none : (a : Attempt) (h : Held) (best : Option State) (before after : ℕ) → after ≡ before → TakesAtLeast a before after h best
takes_none a h best before after same deep goal total choices s = omega (arith, same, s.count)

-- it was refused for e
pub went_refused : {a : Attempt} {limit : ℕ} {old new : Held} {best now : Option State} {before after : Work} (r : Result Next SearchRefusal) (e : SearchRefusal) → IsErrAnd r (λ (x : SearchRefusal). x ≡ e)
    → TakesAtLeast a (returns_of before) (returns_of after) old best → (e ≡ Returns → TakesAtLeast a (returns_of before) (limit + 1) old best) → (e ≡ Choices → IsOverfull a old best) → new.most ≡ old.most
    → WentOn a limit r old best new now before after
went_refused (Ok next) e h least refused crowded most = absurd h
went_refused (Err x) e h least refused crowded most = record {
  advanced = tt;
  bounded = least;
  refused = λ is. refused (passed_on (Err x) e Returns h is);
  crowded = λ is. crowded (passed_on (Err x) e Choices h is);
  most = most;
}

-- a refusal is passed on
pub went_passed : {a : Attempt} {limit : ℕ} {old new : Held} {best now : Option State} {before after : Work} (r : Result Next SearchRefusal) (e : SearchRefusal) → IsErrAnd r (λ (x : SearchRefusal). x ≡ e)
    → WentOn a limit (Err e) old best new now before after → WentOn a limit r old best new now before after
went_passed (Ok next) e h w = absurd h
went_passed {a} {limit} {old} {new} {best} {now} {before} {after} (Err x) e h w = subst (λ (y : SearchRefusal). WentOn a limit (Err y) old best new now before after) (sym h) w
