use Rattle.std.proofs.Common.{arith, List, sym, subst, All}
use Rattle.fancy_code.specs.Code.{instrs_of}
use Rattle.fancy_states.specs.Cells.{IsCellOf}
use Rattle.fancy_states.specs.declared.cells.Cell.{Cell}
use Rattle.fancy_alphabet.proofs.ClassLemmas.{no_classes}
use Rattle.fancy_states.proofs.cells.Cells.clear.Goals as goal

pub returns-clause-all : goal.returns-clause-all
returns-clause-all c code = (
  subst (λ (cs : List Cell). All (IsCellOf code c.forget.new.self.rows.lists.items) cs) (sym c.forget.ensures.empty.cells) (λ k d lt. absurd (omega (arith, lt))),
  no_classes c.new.result (instrs_of code) c.new.ensures.columns c.new.ensures.tests,
)
