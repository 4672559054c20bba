use Rattle.fancy_prices.proofs.FactLemmas.{boundary_fails, no_boundary_fails, start_fails_before, start_fails_here, end_fails_before, end_fails_here, start_half_fails, end_half_fails}
use Rattle.fancy_prices.proofs.facts.Facts.fails_by_words.Goals as goal

pub returns-in-WordBoundary : goal.returns-in-WordBoundary
returns-in-WordBoundary c e x p stands =
    boundary_fails c.args.self _ _ c.in-Some-Some.ensures c.in-Some-Some.ensures' c.args.assertion x p stands c.in-WordBoundary.is e

pub returns-in-NotWordBoundary : goal.returns-in-NotWordBoundary
returns-in-NotWordBoundary c e x p stands =
    no_boundary_fails c.args.self _ _ c.in-Some-Some.ensures c.in-Some-Some.ensures' c.args.assertion x p stands c.in-NotWordBoundary.is e

pub returns-then-before : goal.returns-then-before
returns-then-before c e x p stands =
    start_fails_before c.args.self _ _ c.in-Some-Some.ensures c.in-Some-Some.ensures' c.args.assertion x p stands c.in-WordStart.is e

pub returns-else-before : goal.returns-else-before
returns-else-before c e x p stands =
    start_fails_here c.args.self _ _ c.in-Some-Some.ensures c.in-Some-Some.ensures' c.args.assertion x p stands c.in-WordStart.is e

pub returns-then-not-before : goal.returns-then-not-before
returns-then-not-before c e x p stands =
    end_fails_before c.args.self _ _ c.in-Some-Some.ensures c.in-Some-Some.ensures' c.args.assertion x p stands c.in-WordEnd.is e

pub returns-else-not-before : goal.returns-else-not-before
returns-else-not-before c e x p stands =
    end_fails_here c.args.self _ _ c.in-Some-Some.ensures c.in-Some-Some.ensures' c.args.assertion x p stands c.in-WordEnd.is e

pub returns-in-WordStartHalf : goal.returns-in-WordStartHalf
returns-in-WordStartHalf c e x p stands =
    start_half_fails c.args.self _ _ c.in-Some-Some.ensures c.in-Some-Some.ensures' c.args.assertion x p stands c.in-WordStartHalf.is e

pub returns-in-WordEndHalf : goal.returns-in-WordEndHalf
returns-in-WordEndHalf c e x p stands =
    end_half_fails c.args.self _ _ c.in-Some-Some.ensures c.in-Some-Some.ensures' c.args.assertion x p stands c.in-WordEndHalf.is e
