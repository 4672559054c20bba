use Rattle.std.proofs.Common.{◌≡◌, ◌<◌, ◌-◌, length, true}
use Rattle.fancy_regex.specs.GroupTexts.{bytes_of_str}
use Rattle.fancy_regex.specs.Iterations.{regex_in, haystack_of, next_request, spans_left}
use Rattle.fancy_regex.specs.Requests.{whole}
use Rattle.fancy_regex_c.specs.Splitting.{pieces_of}
use Rattle.fancy_regex_c.proofs.CutLemmas.{Cuts}
use Rattle.fancy_regex_c.proofs.texts.cut.Given as goal

abbrev pub invariant-pieces : goal.invariant-pieces
invariant-pieces l = record {
  regex : regex_in l.list ≡ l.regex;
  text : (haystack_of l.list).now ≡ l.text;
  request : next_request l.list ≡ record (whole l.text) { start = (next_request l.list).start };
  inside : l.count < l.limit;
  cuts : Cuts (pieces_of l.regex l.text l.limit) (length l.text) l.limit l.fn.pieces l.pieces l.count l.start (spans_left (λ _. true) bytes_of_str l.list);
}

abbrev pub decreases-pieces : goal.decreases-pieces
decreases-pieces l = l.limit - l.count
