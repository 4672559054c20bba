use Rattle.std.proofs.Common.{◌≡◌, Option, Some, None, refl}
use Rattle.std.specs.Prelude.{IfNone}
use Rattle.fancy_code.specs.declared.found.Found.{Found}
use Rattle.fancy_search.specs.declared.cache.AttemptCache.{AttemptCache}
use Rattle.fancy_core.proofs.attempt.find_straight.Goals as goal

pub returns-clause-none : goal.returns-clause-none
returns-clause-none c = at c.read_straight.result c.read_straight.ensures.none c.read_straight.ensures.untried where
  now : AttemptCache
  now = record { engines = c.read_straight.new.cache; known = c.args.cache.now.known; work = c.read_straight.new.work }

  at : (o : Option (Option Found)) → IfNone o (c.read_straight.new.cache ≡ c.args.cache.now.engines) → IfNone o (c.read_straight.new.work ≡ c.args.cache.now.work) → IfNone o (now ≡ c.args.cache.now)
  at None engines work = rw (engines, work) refl
  at (Some found) engines work = tt
