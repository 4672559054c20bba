use Rattle.std.proofs.Common.{◌/◌, ◌-◌, ◌<◌, length, ap, ℕ, arith, length-append}
use Rattle.std.proofs.lemmas.List.{length-replicate}
use Rattle.fancy_runner.specs.Table.{with_gone}
use Rattle.fancy_runner.proofs.TableLemmas.{length-bits_of, marking_kept, marked_gone}
use Rattle.fancy_runner.proofs.table.Table.mark.Goals as goal

pub returns-then-at-self : goal.returns-then-at-self
returns-then-at-self c =
    let m = marked_gone c.self.inside.gone c.self.inside.words.items c.self.inside.pairs c.args.n c.args.self.now c.self.view_is c.requires (omega (arith, c.if-at-self.true)) in
    record { new = m.new; after = m.is; same = m.same }

pub fill-requires : goal.fill-requires
fill-requires c =
    let n_in : c.args.n < c.self.inside.pairs = omega (arith, length-bits_of (with_gone c.self.inside.gone c.self.inside.words.items) c.self.inside.pairs, ap length c.self.view_is, c.requires) in
    omega (arith, c.self.invariant.0, c.if-at-self.false)

pub returns : goal.returns
returns c =
    let more = c.fill.new.words.items in
    let word_in : c.args.n / 64 - c.self.inside.gone < length more =
    omega (arith, ap length c.fill.ensures.items, c.self.inside.words.ok.0, length-append {A = ℕ}, length-replicate {A = ℕ}) in
    let m = marking_kept c.self.inside.gone c.self.inside.words.items more c.self.inside.pairs _ c.args.n c.index-word.result.now c.args.self.now c.self.view_is c.requires (omega (arith, c.if-at-self.false)) c.fill.ensures.items word_in c.index-word.ensures in
    record { new = m.new; after = m.is; same = m.same }

pub invariant_of-self : goal.invariant_of-self
invariant_of-self c =
    let n_in : c.args.n < c.self.inside.pairs = omega (arith, length-bits_of (with_gone c.self.inside.gone c.self.inside.words.items) c.self.inside.pairs, ap length c.self.view_is, c.requires) in (
      omega (arith, c.self.invariant.0, c.fill.ensures.capacity),
      omega (arith, n_in, c.self.invariant.0, c.self.invariant.1, c.if-at-self.false, c.fill.ensures.capacity, ap length c.fill.ensures.items, c.fill.new.words.ok.0, c.self.inside.words.ok.0, length-append {A = ℕ}, length-replicate {A = ℕ}),
    )
