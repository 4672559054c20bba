use Rattle.std.proofs.Common.{ℕ, List, refl, sym, subst}
use Rattle.fancy_input.specs.Requests.{effective_start}
use Rattle.fancy_search.specs.KeptTables.{IsKeptIn}
use Rattle.fancy_search.proofs.ScanLemmas.{answered_after, answered_groups}
use Rattle.fancy_search.proofs.searcher.Searcher.answer.Goals as goal

pub returns-clause-item : goal.returns-clause-item
returns-clause-item g c =
    let answer = c.in_ok-found.ensures.served.answer in
    let groups = answered_groups c.args.program.now _ c.as_bytes.result.now _ c.args.self.now.request _ c.in_ok-found.found c.in-Some.found c.search_next.new.cache c.args.self.now.inside c.as_bytes.ensures.bytes c.in-Some.is c.requires.suits c.as_bytes.ensures.utf8 answer in
    record {
      placed = groups.cut 1 0 _ refl;
      after = answered_after c.args.program.now c.as_bytes.result.now _ c.args.self.now.request _ c.in_ok-found.found c.in-Some.found c.search_next.new.cache c.args.self.now.inside c.as_bytes.ensures.bytes c.in-Some.is answer;
      groups = groups;
    }

pub returns-clause-kept : goal.returns-clause-kept
returns-clause-kept g c =
    subst (λ (haystack : List ℕ). IsKeptIn c.args.program.now haystack c.args.self.now.request c.search_next.new.kept c.in-Some.found.end c.search_next.new.cache) c.as_bytes.ensures.bytes
    (rw c.in-Some.is at c.in_ok-found.ensures.kept)

pub search_next-requires-clause-kept : goal.search_next-requires-clause-kept
search_next-requires-clause-kept g c =
    subst (λ (haystack : List ℕ). IsKeptIn c.args.program.now haystack c.args.self.now.request c.args.self.now.kept (effective_start c.args.self.now.request) c.args.cache.now) (sym c.as_bytes.ensures.bytes)
    c.requires.kept
