-- Small lists of matches, computed.
use Rattle.std.proofs.Common.{refl}
use Rattle.std.specs.Str.{chars}
use Rattle.std.specs.Char.{encode_utf8}
use Rattle.fancy_input.specs.Places.{char_at, char_before, has_bytes_at, prev_place}
use Rattle.fancy_meaning.specs.Context.{continues, unit_at, past_item}
use Rattle.fancy_meaning.specs.Trace.{trace, outcomes}
use Rattle.fancy_meaning.specs.Search.{answer_at, answer_from}
use Rattle.fancy_search.specs.MatchList.{answer, next_after, items_from}
use Rattle.fancy_regex.specs.ListExamples.{WorkedLists}

pub lists : WorkedLists
unfolding items_from next_after answer answer_from answer_at outcomes trace unit_at past_item char_at char_before has_bytes_at prev_place chars encode_utf8 continues
lists = record {
  here_once = refl;
  here_passed_over = refl;
  here_again = refl;
  turns = refl;
  kept_at_the_end = refl;
  kept_after_a_match = refl;
  kept_inside = refl;
}
