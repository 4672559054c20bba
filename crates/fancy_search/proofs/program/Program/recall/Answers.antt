use Rattle.fancy_states.proofs.RememberedLemmas.{recalls}
use Rattle.fancy_search.proofs.ProgramSizeLemmas.{parts_of_easy}
use Rattle.fancy_search.proofs.SearchedLemmas.{found_ungrouped, known}
use Rattle.fancy_search.proofs.program.Program.recall.Goals as goal

pub find_told-requires-clause-kept : goal.find_told-requires-clause-kept
find_told-requires-clause-kept c = record {
  bounded = c.requires.kept.within;
  all = recalls c.args.steps.now.cells c.args.self.now.code c.requires.kept.true_of;
}

pub returns : goal.returns
returns c on =
    let easy = parts_of_easy _ _ _ c.requires.followable.easy in
    rw (easy.1, easy.2) (known _ _ c.args.self.now.compiled
    (λ compiled. rw (c.args.self.now.meant, c.for_search-options.ensures) at
    (found_ungrouped c.args.self.now.code c.in_ok-found.found _ c.requires.whole (c.in_ok-found.ensures _ on compiled.coded))))
