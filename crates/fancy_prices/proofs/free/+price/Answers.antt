use Rattle.std.proofs.Common.{◌≡◌, ℕ, sym, ap, ◌∙◌, arith, inl, inr}
use Rattle.std.proofs.lemmas.Option.{IfSome_then}
use Rattle.fancy_code.specs.Code.{instrs_of, instr_in}
use Rattle.fancy_code.specs.Instructions.{Look}
use Rattle.fancy_code.specs.Run.{instr_at}
use Rattle.fancy_code.proofs.InstructionLemmas.{length-instrs_of}
use Rattle.fancy_prices.specs.Prices.{Dies}
use Rattle.fancy_prices.proofs.PriceForms.{chosen, same_price, still_nothing, told_nothing}
use Rattle.fancy_prices.proofs.DyingWays.{dies_assert, dies_close, dies_deny, dies_enter, dies_held, dies_keep, dies_look, dies_look_quiet, dies_nowhere, dies_open, dies_split, finds_none}
use Rattle.fancy_prices.proofs.BehindLemmas.{none_behind}
use Rattle.fancy_prices.proofs.FoundBehind.{dies_denied}
use Rattle.fancy_prices.proofs.free.+price.Goals as goal

pub price_of-returns-then-at-len : goal.price_of-returns-then-at-len
price_of-returns-then-at-len t c =
    same_price (λ (m r : ℕ). Dies (instrs_of c.args.code.now) c.args.code.now.meaning c.args.facts m r c.args.at) c.nothing.result 0 0 c.nothing.ensures.0 c.nothing.ensures.1
    (dies_nowhere (instrs_of c.args.code.now) c.args.code.now.meaning c.args.facts c.args.at (omega (arith, c.if-at-len.true, c.len.ensures, length-instrs_of c.args.code.now)))

pub price_of-returns-then-holds : goal.price_of-returns-then-holds
price_of-returns-then-holds t c =
    IfSome_then c.price_of.result c.price_of.ensures
    (λ p dies. dies_held (instrs_of c.args.code.now) c.args.code.now.meaning c.args.facts p.marks p.returns c.args.at c.in-Assert.assertion c.in-Assert.next
    (sym c.instr.ensures.instr ∙ ap (instr_in c.args.code.now) c.in-Assert.is) (c.holds.ensures c.if-holds.true) dies)

pub price_of-returns-in_ok-price_of-in-Assert : goal.price_of-returns-in_ok-price_of-in-Assert
price_of-returns-in_ok-price_of-in-Assert t c =
    still_nothing (λ (m r : ℕ). Dies (instrs_of c.args.code.now) c.args.code.now.meaning c.args.facts m r c.args.at)
    (λ (m r : ℕ). Dies (instrs_of c.args.code.now) c.args.code.now.meaning c.args.facts m r c.in-Assert.next) c.if_nothing.result c.in_ok-price_of-in-Assert.field-0 c.if_nothing.ensures
    c.in_ok-price_of-in-Assert.ensures
    (dies_assert (instrs_of c.args.code.now) c.args.code.now.meaning c.args.facts c.args.at c.in-Assert.assertion c.in-Assert.next (sym c.instr.ensures.instr ∙ ap (instr_in c.args.code.now) c.in-Assert.is))

pub price_of-returns-in_ok-price_of-in-Split : goal.price_of-returns-in_ok-price_of-in-Split
price_of-returns-in_ok-price_of-in-Split t c =
    let first = c.in_ok-first-in-Split.first in
    let second = c.in_ok-price_of-in-Split.field-0 in
    chosen (λ (m r : ℕ). Dies (instrs_of c.args.code.now) c.args.code.now.meaning c.args.facts m r c.args.at) c.or.result first second c.or.ensures
    (dies_split (instrs_of c.args.code.now) c.args.code.now.meaning c.args.facts first.marks first.returns second.marks second.returns c.args.at c.in-Split.first c.in-Split.second
    (sym c.instr.ensures.instr ∙ ap (instr_in c.args.code.now) c.in-Split.is) c.in_ok-first-in-Split.ensures c.in_ok-price_of-in-Split.ensures)

pub price_of-returns-in-Look : goal.price_of-returns-in-Look
price_of-returns-in-Look t c =
    IfSome_then c.price_of_look.result c.price_of_look.ensures (λ p dies. dies c.args.at (sym c.instr.ensures.instr ∙ ap (instr_in c.args.code.now) c.in-Look.is))

pub price_of-returns-then-is_denied : goal.price_of-returns-then-is_denied
price_of-returns-then-is_denied t c =
    same_price (λ (m r : ℕ). Dies (instrs_of c.args.code.now) c.args.code.now.meaning c.args.facts m r c.args.at) c.denied.result 1 0 c.denied.ensures.0 c.denied.ensures.1
    (dies_denied (instrs_of c.args.code.now) c.args.code.now.meaning c.args.facts c.in-Deny.behind c.args.at c.in-Deny.body c.in-Deny.next
    (sym c.instr.ensures.instr ∙ ap (instr_in c.args.code.now) c.in-Deny.is) (c.is_denied.ensures c.if-is_denied.true))

pub price_of-returns-in_ok-price_of_body-in-Deny : goal.price_of-returns-in_ok-price_of_body-in-Deny
price_of-returns-in_ok-price_of_body-in-Deny t c =
    let body = c.in_ok-price_of_body-in-Deny.field-0 in
    let next = c.in_ok-next-in-Deny.next in
    chosen (λ (m r : ℕ). Dies (instrs_of c.args.code.now) c.args.code.now.meaning c.args.facts m r c.args.at) c.or-in-Deny.result body next c.or-in-Deny.ensures
    (dies_deny (instrs_of c.args.code.now) c.args.code.now.meaning c.args.facts c.in-Deny.behind body.marks body.returns next.marks next.returns c.args.at c.in-Deny.body c.in-Deny.next
    (sym c.instr.ensures.instr ∙ ap (instr_in c.args.code.now) c.in-Deny.is) c.in_ok-price_of_body-in-Deny.ensures c.in_ok-next-in-Deny.ensures)

pub price_of-returns-in-Character : goal.price_of-returns-in-Character
price_of-returns-in-Character t c =
    told_nothing (λ (m r : ℕ). Dies (instrs_of c.args.code.now) c.args.code.now.meaning c.args.facts m r c.args.at) c.nothing_if.result c.begins_otherwise.result c.nothing_if.ensures c.begins_otherwise.ensures

pub price_of-returns-in-Keep : goal.price_of-returns-in-Keep
price_of-returns-in-Keep t c =
    elim c.in-Keep.is [
      | inl k ↦ IfSome_then c.price_of-in-Keep.result c.price_of-in-Keep.ensures
          (λ p dies. dies_keep (instrs_of c.args.code.now) c.args.code.now.meaning c.args.facts p.marks p.returns c.args.at c.in-Keep.next (sym c.instr.ensures.instr ∙ ap (instr_in c.args.code.now) k) dies)
      | inr n ↦ IfSome_then c.price_of-in-Keep.result c.price_of-in-Keep.ensures
          (λ p dies. dies_enter (instrs_of c.args.code.now) c.args.code.now.meaning c.args.facts p.marks p.returns c.args.at c.in-Keep.next (sym c.instr.ensures.instr ∙ ap (instr_in c.args.code.now) n) dies)
    ]

pub price_of-returns-in-Open : goal.price_of-returns-in-Open
price_of-returns-in-Open t c =
    elim c.in-Open.is [
      | inl o ↦ IfSome_then c.price_of-in-Open.result c.price_of-in-Open.ensures
          (λ p dies. dies_open (instrs_of c.args.code.now) c.args.code.now.meaning c.args.facts p.marks p.returns c.args.at o.0 c.in-Open.next (sym c.instr.ensures.instr ∙ ap (instr_in c.args.code.now) o.1) dies)
      | inr o ↦ IfSome_then c.price_of-in-Open.result c.price_of-in-Open.ensures
          (λ p dies. dies_close (instrs_of c.args.code.now) c.args.code.now.meaning c.args.facts p.marks p.returns c.args.at o.0 c.in-Open.next (sym c.instr.ensures.instr ∙ ap (instr_in c.args.code.now) o.1) dies)
    ]

pub price_of_body-returns-in-Some-stops_never_behind : goal.price_of_body-returns-in-Some-stops_never_behind
price_of_body-returns-in-Some-stops_never_behind t c =
    let price = c.in-Some-stops_never_behind.price in
    none_behind (instrs_of c.args.code.now) c.args.code.now.meaning c.args.behind c.args.facts c.in-Some.kind price.marks price.returns c.args.body c.if-behind.true c.in-Some.is
    c.in-Some-stops_never_behind.ensures

pub price_of_body-returns : goal.price_of_body-returns
price_of_body-returns t c =
    IfSome_then c.price_of.result c.price_of.ensures (λ p dies. finds_none (instrs_of c.args.code.now) c.args.code.now.meaning c.args.facts c.args.behind p.marks p.returns c.args.body dies)

pub price_of_look-returns-in-Some : goal.price_of_look-returns-in-Some
price_of_look-returns-in-Some t c at is =
    let price = c.in-Some.price in
    dies_look (instrs_of c.args.code.now) c.args.code.now.meaning c.args.facts c.args.behind price.marks price.returns at c.args.body c.args.next is c.in-Some.ensures

pub price_of_look-returns-then-is_quiet : goal.price_of_look-returns-then-is_quiet
price_of_look-returns-then-is_quiet t c =
    still_nothing (λ (m r : ℕ). (at : ℕ) → instr_at (instrs_of c.args.code.now) at ≡ Look c.args.behind c.args.body c.args.next → Dies (instrs_of c.args.code.now) c.args.code.now.meaning c.args.facts m r at)
    (λ (m r : ℕ). Dies (instrs_of c.args.code.now) c.args.code.now.meaning c.args.facts m r c.args.next) c.if_nothing.result c.in_ok-price_of.field-0 c.if_nothing.ensures c.in_ok-price_of.ensures
    (λ dies at is. dies_look_quiet (instrs_of c.args.code.now) c.args.code.now.meaning c.args.facts c.args.behind at c.args.body c.args.next is (c.is_quiet.ensures c.if-is_quiet.true) dies)
