use Rattle.std.proofs.Common.{◌≡◌}
use Rattle.fancy_regex_c.specs.Handed.{handed_bytes, is_handed_text}
use Rattle.fancy_regex_c.specs.Lists.{spans_listed}
use Rattle.fancy_regex_c.proofs.ListLemmas.{Goes, StandsAt}
use Rattle.fancy_regex_c.proofs.lists.find_all_in.Given as goal

abbrev pub invariant-loop-index : goal.invariant-loop-index
invariant-loop-index l = record {
  written : l.written ≡ l.index;
  stands : StandsAt l.list l.regex l.haystack l.request;
  goes : Goes (spans_listed l.regex (is_handed_text l.haystack) (handed_bytes l.haystack)) l.fn.request l.request l.fn.spans l.spans l.index;
}
