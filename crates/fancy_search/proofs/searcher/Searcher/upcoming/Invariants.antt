use Rattle.std.proofs.Common.{◌≡◌, ◌≤◌, if◌then◌else◌}
use Rattle.fancy_input.specs.Requests.{effective_start}
use Rattle.fancy_tree.specs.declared.error.Error.{Error}
use Rattle.fancy_search.specs.KeptTables.{KeepsFrom}
use Rattle.fancy_search.specs.Searchers.{item_next, start_next, RefusesItem, AllowsItem}
use Rattle.fancy_search.proofs.searcher.Searcher.upcoming.Given as goal

abbrev pub invariant-searches : goal.invariant-searches
invariant-searches g l = record {
  haystack : l.self.haystack ≡ l.fn.self.haystack;
  request : l.self.request ≡ record l.fn.self.request { start = l.self.request.start };
  later : l.fn.self.request.start ≤ l.self.request.start;
  running : l.self.ended ≡ l.fn.self.ended;
  groups : l.self.groups ≡ l.fn.self.groups;
  kept : KeepsFrom g.S.Haystack.bytes l.program l.self l.cache (effective_start l.self.request);
  value : item_next g.S.Haystack.text g.S.Haystack.bytes l.program l.self ≡ item_next g.S.Haystack.text g.S.Haystack.bytes l.program l.fn.self;
  start : start_next g.S.Haystack.text g.S.Haystack.bytes l.program l.self ≡ start_next g.S.Haystack.text g.S.Haystack.bytes l.program l.fn.self;
  refused : (e : Error) → RefusesItem g.S.Haystack.text g.S.Haystack.bytes l.program l.self e → RefusesItem g.S.Haystack.text g.S.Haystack.bytes l.program l.fn.self e;
  allowed : AllowsItem g.S.Haystack.text g.S.Haystack.bytes l.program l.self → AllowsItem g.S.Haystack.text g.S.Haystack.bytes l.program l.fn.self;
}

abbrev pub decreases-searches : goal.decreases-searches
decreases-searches g l = if l.self.skips_empty then 1 else 0
