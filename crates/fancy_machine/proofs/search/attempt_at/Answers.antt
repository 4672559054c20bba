use Rattle.std.proofs.Common.{Err, ap, refl, sym, arith}
use Rattle.fancy_prices.specs.Entries.{is_entry}
use Rattle.fancy_machine.proofs.AnswerLemmas.{answers_ok, answers_err, keeps_returns, limits_err, limits_of}
use Rattle.fancy_machine.proofs.MachineSearch.{is_asked, missed_here}
use Rattle.fancy_machine.proofs.SeekLemmas.{costs_asked}
use Rattle.fancy_machine.proofs.search.attempt_at.Goals as goal

pub try_position-requires : goal.try_position-requires
try_position-requires g c = (
  is_asked g.q g.q.sought.pattern c.args.asked.now.code.now c.args.asked.now.options.now c.args.haystack.now c.args.asked.now.request c.args.asked.now.continues c.requires.0.query c.new-attempt.result c.new-attempt.ensures.code c.new-attempt.ensures.serves c.requires.0.code c.requires.0.inside c.args.position c.requires.1.1.0,
  record { room = omega (arith, c.returns.ensures); seen = record { lines = c.ready_last_lines.ensures; run = c.none-cache.ensures c.new-attempt.result.splits.now c.new-attempt.result.haystack.now } },
)

pub returns : goal.returns
returns g c =
    let a = rw (c.new-attempt.ensures.options, c.returns.ensures) at c.try_position.ensures.answers in
    record { answer = a.answer; count = a.count; bounded = a.bounded; refused = a.refused; crowded = a.crowded; heeds = a.heeds; counts = a.counts; limits = a.limits }

pub returns-in_err-count_returns : goal.returns-in_err-count_returns
returns-in_err-count_returns g c =
    let costs = costs_asked g.q c.args.asked.now.code.now c.args.asked.now.options.now c.args.haystack.now c.args.asked.now.request c.args.asked.now.continues c.requires.0.query c.requires.0.code (λ k. omega (arith, c.type_inv.haystack k)) c.requires.0.inside (is_entry c.args.asked.now.prices.now.entries) c.requires.0.prices.entries c.args.position c.in-Some.price c.in-Some.ensures.told in
    answers_err c.from_residual.result _ c.from_residual.ensures.1 (omega (arith, c.count_returns.ensures.adds.most, costs.returns))
    (λ is. let lt = c.in_err-count_returns.ensures.refused (ap Err is) in omega (arith, lt, c.returns.ensures, costs.returns))
    (λ is. absurd (c.in_err-count_returns.ensures.saved (ap Err is)))
    (omega arith) (keeps_returns _ c.count_returns.ensures.adds)
    (limits_err c.from_residual.result _ c.from_residual.ensures.1 (λ is. is) refl
    (limits_of (rw c.returns.ensures at c.in_err-count_returns.ensures.stopped) (rw c.returns.ensures at c.count_returns.ensures.fits) c.count_returns.ensures.within c.in_err-count_returns.ensures.limited))

pub returns-in-Some : goal.returns-in-Some
returns-in-Some g c =
    let costs = costs_asked g.q c.args.asked.now.code.now c.args.asked.now.options.now c.args.haystack.now c.args.asked.now.request c.args.asked.now.continues c.requires.0.query c.requires.0.code (λ k. omega (arith, c.type_inv.haystack k)) c.requires.0.inside (is_entry c.args.asked.now.prices.now.entries) c.requires.0.prices.entries c.args.position c.in-Some.price c.in-Some.ensures.told in
    answers_ok (sym (missed_here g.q c.args.position costs.none)) (omega (arith, c.in_ok-count_returns.ensures.counted, costs.returns)) (omega arith) (keeps_returns _ c.count_returns.ensures.adds)
    (limits_of (λ e. absurd (cc)) (rw c.returns.ensures at c.count_returns.ensures.fits) c.count_returns.ensures.within (λ e. absurd (cc)))
