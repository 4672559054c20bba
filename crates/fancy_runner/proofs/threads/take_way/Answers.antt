use Rattle.std.proofs.Common.{◌≡◌, List, [], None, Some, sym, ap, ◌∙◌, arith}
use Rattle.std.proofs.lemmas.List.{nil_from_length}
use Rattle.std.specs.Prelude.{reverse}
use Rattle.fancy_runner.specs.declared.pair.Pair.{Pair}
use Rattle.fancy_code.specs.Code.{instrs_of}
use Rattle.fancy_runner.specs.Threads.{saved_after}
use Rattle.fancy_runner.proofs.ThreadsLemmas.{saved_by}
use Rattle.fancy_runner.proofs.threads.take_way.Goals as goal

pub returns-in-Some-way_from : goal.returns-in-Some-way_from
returns-in-Some-way_from c slots ts =
    sym (c.passed.invariant slots ts)
    ∙ saved_by (instrs_of c.args.code.now) c.pop.new.self.items c.passed.passed.items c.in-Some.pair c.in-Some.ensures.items (Some c.in-Some-way_from.way) (sym c.way_from.ensures ∙ c.in-Some-way_from.is) slots ts

pub passed-preserved : goal.passed-preserved
passed-preserved c slots ts =
    let none : c.way_from.result ≡ None = c.in_default-way_from.is in
    sym (saved_by (instrs_of c.args.code.now) c.pop.new.self.items c.passed.passed.items c.in-Some.pair c.in-Some.ensures.items None (sym c.way_from.ensures ∙ none) slots ts)
    ∙ c.passed.invariant slots ts

pub returns : goal.returns
returns c =
    let before : c.passed.passed.items ≡ [] = nil_from_length c.passed.passed.items (omega (arith, c.in_default.ensures.cases.0, c.passed.passed.ok.0)) in
    let after : c.pop.new.self.items ≡ [] = nil_from_length c.pop.new.self.items (omega (arith, c.in_default.ensures.cases.1, c.pop.new.self.ok.0)) in (
      ap reverse after,
      λ slots ts. sym (c.passed.invariant slots ts) ∙ ap (λ (ps : List Pair). saved_after (instrs_of c.args.code.now) (reverse ps) slots ts) before,
    )
