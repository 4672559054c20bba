use Rattle.std.proofs.Common.{ℕ, suc, ◌≡◌, ◌<◌, ◌∙◌, true, sym, ap, subst, arith}
use Rattle.std.proofs.lemmas.Option.{IfSome_then}
use Rattle.fancy_bytes.specs.Sets.{member}
use Rattle.fancy_code.specs.Code.{instrs_of, instr_in}
use Rattle.fancy_splits.specs.declared.splits.ToldSplit.{ToldSplit}
use Rattle.fancy_prices.specs.Rows.{AreWhole}
use Rattle.fancy_splits.specs.Front.{DiesAtEach, Leads}
use Rattle.fancy_splits.proofs.FrontLemmas.{each_open, each_read, each_split, one_split}
use Rattle.fancy_prices.proofs.PriceForms.{same_price}
use Rattle.fancy_splits.proofs.front.+front.Goals as goal

pub returns-in-Open : goal.returns-in-Open
returns-in-Open t c =
    IfSome_then c.front_from.result c.front_from.ensures
    (λ f leads l noted. (
      each_open (instrs_of c.args.code.now) c.args.code.now.meaning l.items c.args.at f.at f.before.marks f.before.returns c.in-Open.field-0 c.in-Open.next
          (sym c.instr.ensures.instr ∙ ap (instr_in c.args.code.now) c.in-Open.is) (leads l noted).0,
      (leads l noted).1,
    ))

pub returns-in_ok-before-in-Split : goal.returns-in_ok-before-in-Split
returns-in_ok-before-in-Split t c l noted =
    let front = c.in_ok-front-in-Split.front in
    let before = c.in_ok-before-in-Split.before in
    let split = c.in_ok-split-in-Split.split.now in
    let same = one_split c.args.splits.now front.at split l c.in_ok-split-in-Split.ensures noted in (
      same_price (λ (m r : ℕ). Leads (instrs_of c.args.code.now) c.args.code.now.meaning l.items m r c.args.at front.at) before (suc front.before.marks) (suc front.before.returns)
          (omega (arith, c.in_ok-before-in-Split.ensures.0, c.nothing.ensures.0)) (omega (arith, c.in_ok-before-in-Split.ensures.1, c.nothing.ensures.1))
          (each_split (instrs_of c.args.code.now) c.args.code.now.meaning l.items c.args.at front.at front.before.marks front.before.returns c.in-Split.first c.in-Split.second
          (sym c.instr.ensures.instr ∙ ap (instr_in c.args.code.now) c.in-Split.is)
          (subst (λ (o : ToldSplit). DiesAtEach (instrs_of c.args.code.now) c.args.code.now.meaning o.items c.in-Split.first) same (c.dies_at_each.ensures c.if-not-dies_at_each.false))
          (c.in_ok-front-in-Split.ensures l noted).0),
      (c.in_ok-front-in-Split.ensures l noted).1,
    )

pub returns-else-not-are_among : goal.returns-else-not-are_among
returns-else-not-are_among t c l noted =
    let split = c.in_ok-split-in-Character.split.now in
    let same = one_split c.args.splits.now c.in-Character.next split l c.in_ok-split-in-Character.ensures noted in (
      same_price (λ (m r : ℕ). Leads (instrs_of c.args.code.now) c.args.code.now.meaning l.items m r c.args.at c.in-Character.next) c.nothing-in-Character.result 0 0
          c.nothing-in-Character.ensures.0 c.nothing-in-Character.ensures.1
          (each_read (instrs_of c.args.code.now) c.args.code.now.meaning l.items c.args.at c.in-Character.next c.reader_at.result.items
          (subst (λ (o : ToldSplit). (b : ℕ) → b < 256 → member o.items b ≡ true → member c.reader_at.result.items b ≡ true) same (c.are_among.ensures c.if-not-are_among.false))
          c.reader_at.ensures.reads),
      λ w. subst (λ (o : ToldSplit). AreWhole o.items) same (c.are_whole.ensures w),
    )
