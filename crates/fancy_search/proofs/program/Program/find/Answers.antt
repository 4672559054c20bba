use Rattle.std.proofs.Common.{sym, refl, ap, ◌∙◌, arith}
use Rattle.std.specs.Prelude.{option_map}
use Rattle.fancy_meaning.specs.Search.{span_of}
use Rattle.fancy_search.specs.Programs.{query_in}
use Rattle.fancy_search.specs.SearchCounts.{IsHardProgram}
use Rattle.fancy_search.proofs.SearchedLemmas.{no_returns}
use Rattle.fancy_search.proofs.program.Program.find.Goals as goal

pub is_hopeless-requires : goal.is_hopeless-requires
is_hopeless-requires c = record { known = c.new-known.ensures _ }

pub returns-then-is_hopeless-clause-served : goal.returns-then-is_hopeless-clause-served
returns-then-is_hopeless-clause-served c =
    let none = λ (hard : IsHardProgram c.args.self.now). no_returns c.args.self.now (query_in c.args.self.now c.args.asked.now) (c.is_hopeless.ensures.hard hard c.if-is_hopeless.true) in
    record {
      answer = ap (option_map span_of) (sym (c.is_hopeless.ensures.none c.if-is_hopeless.true));
      stands = tt;
      counts = record { steps = omega arith; returns = omega arith; paired = c.requires.room.2; within = λ h. h; limited = λ e. cc };
      idle = λ _. refl;
      none = λ _. refl;
      hard = λ hard. record {
        counted = omega (arith, none hard);
        stopped = λ e. cc;
        fits = omega arith;
        most = omega (arith, none hard);
      };
      refused = tt;
      allowed = λ hard. omega (arith, none hard);
    }

pub find_easily-requires-clause-easy : goal.find_easily-requires-clause-easy
find_easily-requires-clause-easy c = sym c.args.self.now.decided ∙ c.if-self.true

pub find_easily-requires-clause-hopeful : goal.find_easily-requires-clause-hopeful
find_easily-requires-clause-hopeful c = c.is_hopeless.ensures.seeks c.if-is_hopeless.false

pub find_hard-requires-clause-hard : goal.find_hard-requires-clause-hard
find_hard-requires-clause-hard c = sym c.args.self.now.decided ∙ c.if-self.false

pub find_hard-requires-clause-hopeful : goal.find_hard-requires-clause-hopeful
find_hard-requires-clause-hopeful c = c.is_hopeless.ensures.seeks c.if-is_hopeless.false
