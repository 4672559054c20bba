use Rattle.std.proofs.Common.{◌∙◌, Option, Some, ap, length, option_map, replicate, subst, ℕ}
use Rattle.fancy_states.specs.Origins.{ComeFrom}
use Rattle.fancy_states.specs.Search.{begun_if, ends_in}
use Rattle.fancy_states.specs.Starts.{match_from}
use Rattle.fancy_states.specs.declared.origin.Origin.{Origin}
use Rattle.fancy_states.specs.declared.origin.Origin.TheVariants.{Earlier, Last}
use Rattle.fancy_automaton.proofs.EndLemmas.{began_earlier, began_last, comes_last, last_found, last_quiet}
use Rattle.fancy_automaton.proofs.search.told_end.Goals as goal

pub returns-in-None : goal.returns-in-None
returns-in-None c deep begun =
    let a = c.args.attempt.now in
    let cells = c.args.cells.now in
    let at = c.args.at in
    let is = c.requires.sole in
    ap (option_map ends_in) c.span_from.ensures
    ∙ last_quiet a cells at.stand is.0 (replicate (length is.0) at.start) (match_from at.start at.end) c.row_of.result c.in_ok-k.k c.seen_at-sight.result c.index-cell.result.now is.1 c.requires.last
    c.row_of.ensures (c.seen_at-sight.ensures.told is.1.all) c.in_ok-k.ensures c.index-cell.ensures c.in-None.is deep begun

pub returns-in-Last : goal.returns-in-Last
returns-in-Last c =
    let a = c.args.attempt.now in
    let cells = c.args.cells.now in
    let at = c.args.at in
    let is = c.requires.sole in
    let starts = replicate (length is.0) at.start in
    let found = match_from at.start at.end in
    let d = c.index-cell.result.now in
    let many = length (begun_if found is.0 a.code.now.start) in
    let way = c.in-Some.field-0 in
    let like = c.seen_at-sight.ensures.told is.1.all in
    let come : ComeFrom Last many d.came.items (Some way) = subst (λ (o : Origin). ComeFrom o many d.came.items (Some way)) c.in-Last.is
    (subst (λ (m : Option ℕ). ComeFrom d.origin many d.came.items m) c.in-Some.is
    (comes_last a cells at.stand is.0 starts found c.row_of.result c.in_ok-k.k c.seen_at-sight.result d is.1 c.requires.last c.row_of.ensures like c.in_ok-k.ensures c.index-cell.ensures)) in
    last_found a cells at.stand is.0 starts found c.row_of.result c.in_ok-k.k c.seen_at-sight.result d is.1 c.requires.last c.row_of.ensures like c.in_ok-k.ensures c.index-cell.ensures way c.last_begun-start.result c.in-Some.is
    (began_last is.0 at.start a.code.now.start at.stand.place way c.last_begun-start.result at.end c.last_begun-start.ensures.here c.last_begun-start.ensures.before come.0 come.2)

pub returns-in-Earlier : goal.returns-in-Earlier
returns-in-Earlier c =
    let a = c.args.attempt.now in
    let cells = c.args.cells.now in
    let at = c.args.at in
    let is = c.requires.sole in
    let starts = replicate (length is.0) at.start in
    let found = match_from at.start at.end in
    let d = c.index-cell.result.now in
    let many = length (begun_if found is.0 a.code.now.start) in
    let way = c.in-Some.field-0 in
    let like = c.seen_at-sight.ensures.told is.1.all in
    let come : ComeFrom Earlier many d.came.items (Some way) = subst (λ (o : Origin). ComeFrom o many d.came.items (Some way)) c.in-Earlier.is
    (subst (λ (m : Option ℕ). ComeFrom d.origin many d.came.items m) c.in-Some.is
    (comes_last a cells at.stand is.0 starts found c.row_of.result c.in_ok-k.k c.seen_at-sight.result d is.1 c.requires.last c.row_of.ensures like c.in_ok-k.ensures c.index-cell.ensures)) in
    last_found a cells at.stand is.0 starts found c.row_of.result c.in_ok-k.k c.seen_at-sight.result d is.1 c.requires.last c.row_of.ensures like c.in_ok-k.ensures c.index-cell.ensures way at.start c.in-Some.is
    (began_earlier is.0 at.start a.code.now.start at.stand.place way at.end come.1)
