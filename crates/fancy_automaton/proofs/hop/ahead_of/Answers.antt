use Rattle.std.proofs.Common.{arith}
use Rattle.fancy_alphabet.specs.Sides.{seen_as}
use Rattle.fancy_alphabet.proofs.ClassLemmas.{first_low, row_low}
use Rattle.fancy_automaton.proofs.hop.ahead_of.Goals as goal

pub overflow_mul-begun : goal.overflow_mul-begun
overflow_mul-begun c = (let start = c.requires.start.2 in omega (arith, start))

pub overflow_mul-next : goal.overflow_mul-next
overflow_mul-next c = (let low = row_low c.args.cells.now.table.classes c.args.at.next c.requires.row in omega (arith, low))

pub overflow_cast-result : goal.overflow_cast-result
overflow_cast-result c =
    let classes = c.args.cells.now.table.classes in
    let start = c.requires.start in
    let low = row_low classes c.args.at.next c.requires.row in
    let first = first_low classes (seen_as classes.tests start.0) in
    omega (arith, low, first, start.2)

pub returns : goal.returns
returns c =
    let start = c.requires.start in
    (start.0, start.1, omega (arith, start.2))
