use Rattle.std.proofs.Common.{None, length, ◌≡◌, string_bytes, true}
use Rattle.fancy_core.specs.Replacing.{replacing, AllowsReplacing}
use Rattle.fancy_core.specs.Rewriting.{rewriting_regex, rewriting_text, todo_of, AllowsTodo}
use Rattle.fancy_core.proofs.ReplaceLemmas.{Goes}
use Rattle.fancy_core.proofs.regex.Regex.rewrite.Given as goal

abbrev pub invariant-matches : goal.invariant-matches
invariant-matches g l = record {
  callable : g.R.Replacer.callable l.replacer;
  regex : rewriting_regex l.rewriting ≡ l.self;
  text : rewriting_text l.rewriting ≡ l.text;
  asks : l.rewriting.searcher.groups ≡ true;
  allowed : AllowsTodo l.rewriting → AllowsReplacing l.self l.text l.limit;
  goes : Goes (replacing (λ _. None) g.R.Replacer.appends g.R.Replacer.refuses l.self l.text l.limit) l.fn.replacer l.replacer (string_bytes l.rewriting.out) l.rewriting.last l.rewriting.found l.rewriting.left (todo_of l.rewriting);
}

abbrev pub decreases-matches : goal.decreases-matches
decreases-matches g l = length (todo_of l.rewriting)
