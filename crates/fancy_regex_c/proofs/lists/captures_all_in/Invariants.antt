use Rattle.std.proofs.Common.{◌≤◌, ◌-◌, length}
use Rattle.fancy_regex.specs.CaptureIterations.{matches_in}
use Rattle.fancy_regex.specs.Regexes.{group_count_in}
use Rattle.fancy_regex_c.specs.Handed.{handed_bytes, is_handed_text}
use Rattle.fancy_regex_c.specs.Lists.{rows_listed}
use Rattle.fancy_regex_c.proofs.ListLemmas.{StandsAt}
use Rattle.fancy_regex_c.proofs.RowLemmas.{RowsGo}
use Rattle.fancy_regex_c.proofs.lists.captures_all_in.Given as goal

abbrev pub invariant-rows : goal.invariant-rows
invariant-rows l = record {
  inside : l.used ≤ length l.groups;
  fewer : l.written ≤ l.used;
  stands : StandsAt (matches_in l.list) l.regex l.haystack l.request;
  goes : RowsGo (group_count_in l.regex) (rows_listed l.regex (is_handed_text l.haystack) (handed_bytes l.haystack)) l.fn.request l.request l.fn.groups l.groups l.used l.written;
}

abbrev pub decreases-rows : goal.decreases-rows
decreases-rows l = length l.groups - l.used
