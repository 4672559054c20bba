use Rattle.std.proofs.Common.{rules}
use Rattle.fancy_code.proofs.CodeLemmas.{keeps_on}
use Rattle.fancy_code.proofs.emitter.Emitter.put_both.Goals as goal

pub returns : goal.returns
returns c = record {
  moved_at = search rules;
  still_at = search rules;
  length = search rules;
  kept = keeps_on _ _ _ c.in_ok-moved.ensures.puts.kept c.in_ok-still.ensures.puts.kept;
  stands = search rules;
  easy = search rules;
}
