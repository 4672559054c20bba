use Rattle.std.proofs.Common.{◌-◌, ◌≡◌, drop}
use Rattle.fancy_input.specs.LastLines.{ends_only, Told}
use Rattle.fancy_input.proofs.last_lines.Row.is_followed.Given as goal

abbrev pub invariant-loop-at : goal.invariant-loop-at
invariant-loop-at l = record {
  same : ends_only l.crlf (drop l.place l.haystack) ≡ ends_only l.crlf (drop l.at l.haystack);
  told : Told (ends_only l.crlf) l.haystack l.self;
}

abbrev pub decreases-loop-at : goal.decreases-loop-at
decreases-loop-at l = l.self.all_from - l.at
