use Rattle.std.proofs.Common.{◌≡◌, ◌-◌, List, ℕ, ap, ◌∙◌, arith}
use Rattle.fancy_runner.specs.Table.{with_gone, bits_of}
use Rattle.fancy_runner.proofs.TableLemmas.{brought_back, unmarking_kept, unmarked_kept}
use Rattle.fancy_runner.proofs.table.Table.unmark.Goals as goal

pub returns-then-at-len : goal.returns-then-at-len
returns-then-at-len c =
    let gone : ℕ = c.self.inside.gone - c.saturating_sub-back.result in
    let is : bits_of (with_gone gone c.put_before.new.words.items) c.self.inside.pairs ≡ c.args.self.now =
    ap (λ (ws : List ℕ). bits_of ws c.self.inside.pairs) (brought_back c.self.inside.gone c.saturating_sub-back.result c.self.inside.words.items c.put_before.new.words.items (omega (arith, c.saturating_sub-back.ensures)) c.put_before.ensures.items) ∙ c.self.view_is in
    unmarking_kept gone c.put_before.new.words.items c.self.inside.pairs c.args.n c.index-word.result.now c.args.self.now is c.requires (omega (arith, c.saturating_sub-back.ensures)) (omega (arith, c.put_before.new.words.ok.0, c.len.ensures, c.if-at-len.true)) c.index-word.ensures

pub returns-else-at-len : goal.returns-else-at-len
returns-else-at-len c =
    let gone : ℕ = c.self.inside.gone - c.saturating_sub-back.result in
    let is : bits_of (with_gone gone c.put_before.new.words.items) c.self.inside.pairs ≡ c.args.self.now =
    ap (λ (ws : List ℕ). bits_of ws c.self.inside.pairs) (brought_back c.self.inside.gone c.saturating_sub-back.result c.self.inside.words.items c.put_before.new.words.items (omega (arith, c.saturating_sub-back.ensures)) c.put_before.ensures.items) ∙ c.self.view_is in
    is ∙ unmarked_kept gone c.put_before.new.words.items c.self.inside.pairs c.args.n c.args.self.now is c.requires (omega (arith, c.saturating_sub-back.ensures)) (omega (arith, c.put_before.new.words.ok.0, c.len.ensures, c.if-at-len.false))
