use Rattle.std.proofs.Common.{◌≡◌, ◌-◌, ◌≤◌, ◌++◌, ◌⊎◌, replicate}
use Rattle.std.specs.Prelude.{vec_len, vec_capacity}
use Rattle.fancy_runner.proofs.table.fill.Given as goal

abbrev pub invariant-fill : goal.invariant-fill
invariant-fill l = record {
  items : l.words.items ≡ l.fn.words.items ++ replicate (vec_len l.words - vec_len l.fn.words) l.word;
  longer : vec_len l.fn.words ≤ vec_len l.words;
  most : (vec_len l.words ≤ l.len) ⊎ (vec_len l.words ≡ vec_len l.fn.words);
  capacity : vec_capacity l.words ≡ vec_capacity l.fn.words;
}

abbrev pub decreases-fill : goal.decreases-fill
decreases-fill l = l.len - vec_len l.words
