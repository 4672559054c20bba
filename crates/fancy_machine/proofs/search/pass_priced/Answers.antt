use Rattle.std.proofs.Common.{◌≡◌, ◌-◌, Err, ap, subst, arith}
use Rattle.fancy_input.specs.Work.{returns_of}
use Rattle.fancy_prices.specs.Entries.{is_entry}
use Rattle.fancy_machine.specs.Front.{GoesPast}
use Rattle.fancy_machine.proofs.PricedLemmas.{passes_one, passes_priced}
use Rattle.fancy_machine.proofs.RefusalLemmas.{passed_on}
use Rattle.fancy_machine.proofs.search.pass_priced.Goals as goal

pub returns-in_err-count_returns-clause-refused : goal.returns-in_err-count_returns-clause-refused
returns-in_err-count_returns-clause-refused g c e =
    let past = passes_priced g.q c.args.attempts.now c.args.positions.now.range_end c.args.from c.requires.0 c.requires.1.1.1.1.1.1.0 (is_entry c.args.positions.now.entries.now) c.requires.1.1.1.1.1.0 c.args.positions.now.haystack.now c.requires.1.0 c.args.positions.now.seek c.requires.1.1.1.0 c.args.positions.now.last c.priced_from-priced.result c.priced_from-priced.ensures in
    let lt = c.in_err-count_returns.ensures.refused (ap Err (passed_on c.from_residual.result _ _ c.from_residual.ensures.1 e)) in
    omega (arith, lt, past.count)

pub returns-in_err-count_returns-clause-bounded : goal.returns-in_err-count_returns-clause-bounded
returns-in_err-count_returns-clause-bounded g c =
    let past = passes_priced g.q c.args.attempts.now c.args.positions.now.range_end c.args.from c.requires.0 c.requires.1.1.1.1.1.1.0 (is_entry c.args.positions.now.entries.now) c.requires.1.1.1.1.1.0 c.args.positions.now.haystack.now c.requires.1.0 c.args.positions.now.seek c.requires.1.1.1.0 c.args.positions.now.last c.priced_from-priced.result c.priced_from-priced.ensures in
    omega (arith, c.count_returns.ensures.adds.most, past.count)

pub returns-clause-passed : goal.returns-clause-passed
returns-clause-passed g c =
    let past = passes_priced g.q c.args.attempts.now c.args.positions.now.range_end c.args.from c.requires.0 c.requires.1.1.1.1.1.1.0 (is_entry c.args.positions.now.entries.now) c.requires.1.1.1.1.1.0 c.args.positions.now.haystack.now c.requires.1.0 c.args.positions.now.seek c.requires.1.1.1.0 c.args.positions.now.last c.priced_from-priced.result c.priced_from-priced.ensures in
    let count : c.priced_from-priced.result.returns ≡ returns_of c.count_returns.new.self - returns_of c.args.work.now = omega (arith, c.in_ok-count_returns.ensures.counted) in
    (c.priced_from-priced.ensures.passed, subst (GoesPast g.q c.args.positions.now.seek c.args.positions.now.last c.args.from c.priced_from-priced.result.past) count past)

pub returns-clause-bounded : goal.returns-clause-bounded
returns-clause-bounded g c =
    let past = passes_priced g.q c.args.attempts.now c.args.positions.now.range_end c.args.from c.requires.0 c.requires.1.1.1.1.1.1.0 (is_entry c.args.positions.now.entries.now) c.requires.1.1.1.1.1.0 c.args.positions.now.haystack.now c.requires.1.0 c.args.positions.now.seek c.requires.1.1.1.0 c.args.positions.now.last c.priced_from-priced.result c.priced_from-priced.ensures in
    omega (arith, c.count_returns.ensures.adds.most, past.count)

pub returns-then-price-eq0-2-clause-passed : goal.returns-then-price-eq0-2-clause-passed
returns-then-price-eq0-2-clause-passed g c = (
  omega arith,
  passes_one g.q c.args.attempts.now c.args.positions.now.range_end c.args.from c.requires.0 c.requires.1.1.1.1.1.1.0 (is_entry c.args.positions.now.entries.now) c.requires.1.1.1.1.1.0 c.args.positions.now.seek c.requires.1.1.1.0 c.args.positions.now.last (omega (arith, c.requires.1.1.0.0)) c.args.price (omega arith) c.requires.1.1.1.1.1.1.1 _ (omega arith),
)
