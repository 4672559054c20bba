use Rattle.std.proofs.Common.{length, ◌≡◌, string_bytes}
use Rattle.fancy_core.specs.Replacing.{AllowsReplacing}
use Rattle.fancy_core.specs.Rewriting.{rewriting_regex, rewriting_text, todo_of, AllowsTodo}
use Rattle.fancy_core.proofs.ReplaceLemmas.{Goes, filling}
use Rattle.fancy_core.proofs.regex.Regex.fill.Given as goal

abbrev pub invariant-matches : goal.invariant-matches
invariant-matches l = record {
  regex : rewriting_regex l.rewriting ≡ l.self;
  text : rewriting_text l.rewriting ≡ l.text;
  allowed : AllowsTodo l.rewriting → AllowsReplacing l.self l.text l.limit;
  goes : Goes (filling l.self l.text l.limit) l.fixed l.fixed (string_bytes l.rewriting.out) l.rewriting.last l.rewriting.found l.rewriting.left (todo_of l.rewriting);
}

abbrev pub decreases-matches : goal.decreases-matches
decreases-matches l = length (todo_of l.rewriting)
