use Rattle.std.proofs.Common.{arith, refl, sym, ◌∙◌}
use Rattle.fancy_search.specs.Programs.{query_in}
use Rattle.fancy_search.proofs.SearchedLemmas.{no_returns}
use Rattle.fancy_search.proofs.program.Program.is_match.Goals as goal

pub is_hopeless-requires : goal.is_hopeless-requires
is_hopeless-requires c = record { known = c.new-known.ensures _ }

pub returns-then-is_hopeless-clause-allowed : goal.returns-then-is_hopeless-clause-allowed
returns-then-is_hopeless-clause-allowed c hard =
    let none = no_returns c.args.self.now (query_in c.args.self.now c.args.asked.now) (c.is_hopeless.ensures.hard hard c.if-is_hopeless.true) in
    omega (arith, none)

pub is_match_followed-requires-clause-followable : goal.is_match_followed-requires-clause-followable
is_match_followed-requires-clause-followable c = record {
  inside = c.args.asked.now.inside;
  easy = sym c.args.self.now.decided ∙ c.if-not-self.false;
  plain = c.if-is_followed_alone.ensures.plain refl;
  places = c.if-is_followed_alone.ensures.places refl;
}
