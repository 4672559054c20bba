use Rattle.std.proofs.Common.{arith}
use Rattle.fancy_alphabet.proofs.ClassLemmas.{first_low, row_low}
use Rattle.fancy_alphabet.proofs.classes.Classes.start.Goals as goal

pub overflow_mul-start : goal.overflow_mul-start
overflow_mul-start c = (let low = row_low c.args.self.now c.args.row c.requires in omega (arith, low))

pub overflow_cast-result : goal.overflow_cast-result
overflow_cast-result c =
    let low = row_low c.args.self.now c.args.row c.requires in
    let first = first_low c.args.self.now c.args.side in
    omega (arith, low, first)
