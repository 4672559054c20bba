use Rattle.std.proofs.Common.{rules}
use Rattle.fancy_core.proofs.captures.Captures.get.Goals as goal

pub make_match-requires-clause-ordered : goal.make_match-requires-clause-ordered
make_match-requires-clause-ordered g c = (c.args.self.now.placed c.args.number c.in-Some.span (search rules)).ordered

pub make_match-requires-clause-inside : goal.make_match-requires-clause-inside
make_match-requires-clause-inside g c = (c.args.self.now.placed c.args.number c.in-Some.span (search rules)).inside

pub make_match-requires-clause-starts_cleanly : goal.make_match-requires-clause-starts_cleanly
make_match-requires-clause-starts_cleanly g c = (c.args.self.now.placed c.args.number c.in-Some.span (search rules)).starts_cleanly

pub make_match-requires-clause-ends_cleanly : goal.make_match-requires-clause-ends_cleanly
make_match-requires-clause-ends_cleanly g c = (c.args.self.now.placed c.args.number c.in-Some.span (search rules)).ends_cleanly
