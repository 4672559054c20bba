use Rattle.std.proofs.Common.{◌≡◌, List, false, length}
use Rattle.fancy_regex.specs.TokenLists.{token_query, token_place, has_ended_tokens}
use Rattle.fancy_regex_c.specs.declared.plain.Member.{Member}
use Rattle.fancy_regex_c.specs.Handed.{handed_bytes}
use Rattle.fancy_regex_c.specs.Asked.{asked_of_set}
use Rattle.fancy_regex_c.specs.TokenGiving.{GivesTokens}
use Rattle.fancy_regex_c.proofs.sets.tokens_in.Given as goal

abbrev pub invariant-loop-index : goal.invariant-loop-index
invariant-loop-index l = record {
  asked : token_query handed_bytes l.list ≡ asked_of_set l.set (handed_bytes l.haystack) l.fn.request;
  unended : has_ended_tokens l.list ≡ false;
  place : token_place l.list ≡ l.request.start;
  given : (given : List Member) × (length given ≡ l.index) × GivesTokens (asked_of_set l.set (handed_bytes l.haystack) l.fn.request) given l.fn.tokens l.tokens l.fn.request l.request l.written;
}
