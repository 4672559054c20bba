use Rattle.std.proofs.Common.{◌≢◌, ℕ, suc, ◌+◌, ◌∷◌, length, arith, ap, subst}
use Rattle.std.proofs.lemmas.Option.{IfSome_then}
use Rattle.fancy_code.specs.Code.{instrs_of}
use Rattle.fancy_splits.specs.declared.choices.Onward.{Onward}
use Rattle.fancy_splits.specs.declared.choices.Onward.TheVariants.{Ends}
use Rattle.fancy_splits.specs.Splits.{Leads, ways_of}
use Rattle.fancy_prices.proofs.PriceForms.{same_price}
use Rattle.fancy_splits.proofs.PassageLemmas.{leads_as, leads_by_first, leads_over}
use Rattle.fancy_splits.proofs.choices.passage_of.Goals.{in-Goes+else-to-ways, in-Reads-1}
use Rattle.fancy_splits.proofs.choices.passage_of.Goals as goal

pub returns-in_ok-price-in-Ends : goal.returns-in_ok-price-in-Ends
returns-in_ok-price-in-Ends c at is =
    let code = instrs_of c.args.code.now in
    let meaning = c.args.code.now.meaning in
    let first = c.passage_from-first.result in
    let second = c.passage_from-second.result in
    let led = subst (λ (o : Onward). Leads code meaning c.args.here first.price.marks first.price.returns (ways_of first) o c.args.ways.first) c.in-Ends.is c.passage_from-first.ensures in (
      omega (arith, c.in_ok-price-in-Ends.ensures.0),
      same_price (λ (m r : ℕ). Leads code meaning c.args.here m r (ways_of second) second.onward at) c.in_ok-price-in-Ends.price (suc (first.price.marks + second.price.marks)) (first.price.returns + suc second.price.returns)
          c.in_ok-price-in-Ends.ensures.0 c.in_ok-price-in-Ends.ensures.1
          (leads_over code meaning c.args.here at c.args.ways.first c.args.ways.second is first.price.marks first.price.returns led.1 second.price.marks second.price.returns (ways_of second) second.onward c.passage_from-second.ensures),
    )

pub returns-in-Goes-2 : goal.returns-in-Goes-2
returns-in-Goes-2 c =
    let code = instrs_of c.args.code.now in
    let meaning = c.args.code.now.meaning in
    let first = c.passage_from-first.result in
    let on : first.onward ≢ Ends =
    elim c.in-Goes-2-1.branch [
      | in-Goes+else-to-ways w ↦ λ e. cc
      | in-Reads-1 w ↦ λ e. cc
    ] in
    IfSome_then c.behind.result c.behind.ensures
    (λ p is at splits. (
      omega (arith, ap length is.2),
      leads_as code meaning c.args.here p first.price (c.args.ways.second ∷ ways_of first) first.onward at is.0 is.1 is.2
          (leads_by_first code meaning c.args.here at c.args.ways.first c.args.ways.second splits first.price.marks first.price.returns (ways_of first) first.onward on c.passage_from-first.ensures),
    ))
