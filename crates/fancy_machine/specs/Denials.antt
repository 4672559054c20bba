-- What an attempt sees at a negated look-around.
use Rattle.std.specs.Prelude.{◌≡◌, ℕ, ◌<◌, Bool, true, false, Result, Ok, Err, slice_index_or}
use Rattle.fancy_input.specs.declared.refusal.SearchRefusal.{SearchRefusal}
use Rattle.fancy_code.specs.declared.step.Next.{Next}
use Rattle.fancy_code.specs.declared.step.Next.TheVariants.{On, Dead}
use Rattle.fancy_splits.specs.declared.denials.Sight.{Sight}
use Rattle.fancy_splits.specs.declared.denials.Sight.TheVariants.{Unclear, Finds, Misses}
use Rattle.fancy_splits.specs.declared.denials.ToldDenial.{ToldDenial}
use Rattle.fancy_splits.specs.Denials.{SeesByte}
use Rattle.fancy_machine.specs.declared.attempt.Attempt.{Attempt}

-- at the place p it sees a byte that tells this
abbrev pub Tells : Attempt → ToldDenial → ℕ → Sight → Type 0
Tells a l p t = (b : ℕ) × (b < 256) × SeesByte l.behind a.haystack.now p b × (slice_index_or l.sights b Unclear ≡ t)

-- so it does, and that is something
abbrev pub IsSeen : Attempt → ToldDenial → ℕ → Sight → Type 0
IsSeen a l p Unclear = ⊥
IsSeen a l p Finds = Tells a l p Finds
IsSeen a l p (Misses c) = Tells a l p (Misses c)

-- whether the way goes on, as a turn says it
abbrev pub as_next : Result Bool SearchRefusal → Result Next SearchRefusal
as_next (Ok true) = Ok On
as_next (Ok false) = Ok Dead
as_next (Err e) = Err e
