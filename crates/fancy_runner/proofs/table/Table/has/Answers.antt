use Rattle.std.proofs.Common.{arith}
use Rattle.fancy_runner.proofs.TableLemmas.{read_gone, read_word, read_past}
use Rattle.fancy_runner.proofs.table.Table.has.Goals as goal

pub returns-then-at-self : goal.returns-then-at-self
returns-then-at-self c = read_gone c.self.inside.gone c.self.inside.words.items c.self.inside.pairs c.args.n c.args.self.now c.self.view_is c.requires (omega (arith, c.if-at-self.true))

pub returns : goal.returns
returns c =
    read_word c.self.inside.gone c.self.inside.words.items c.self.inside.pairs c.args.n c.index-word.result.now c.args.self.now c.self.view_is c.requires (omega (arith, c.if-at-self.false))
    (omega (arith, c.self.inside.words.ok.0, c.len.ensures, c.if-at-len.false)) c.index-word.ensures

pub returns-then-at-len : goal.returns-then-at-len
returns-then-at-len c =
    read_past c.self.inside.gone c.self.inside.words.items c.self.inside.pairs c.args.n c.args.self.now c.self.view_is c.requires (omega (arith, c.if-at-self.false))
    (omega (arith, c.self.inside.words.ok.0, c.len.ensures, c.if-at-len.true))
