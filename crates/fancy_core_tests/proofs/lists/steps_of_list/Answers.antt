use Rattle.std.proofs.Common.{arith, rules, refl, ◌≡◌, Some, Ok}
use Rattle.fancy_search.proofs.KeptTablesLemmas.{keeps_nothing, keeps_on}
use Rattle.fancy_core_tests.proofs.lists.steps_of_list.Goals as goal

pub matches-preserved : goal.matches-preserved
matches-preserved g c =
    let answer : c.search_next-answer.result ≡ Ok (Some c.in-Some.found) = cc (c.expect.ensures, c.in-Some.is) in
    record {
      whole = c.matches.invariant.whole;
      begins = c.matches.invariant.begins;
      paired = c.search_next-answer.ensures.served.counts.paired;
      known = c.search_next-answer.ensures.known;
      kept = keeps_on c.args.program.now c.as_bytes-haystack.result.now c.search_next-answer.new.cache c.matches.request (record c.matches.request { start = c.max.result }) c.search_next-answer.new.kept c.search_next-answer.new.kept c.in-Some.found.end refl refl (omega (arith, c.max.ensures))
          (rw answer at c.search_next-answer.ensures.kept);
    }

pub matches-init : goal.matches-init
matches-init g c = record {
  whole = refl;
  begins = refl;
  paired = search rules;
  known = c.new-known.ensures _;
  kept = keeps_nothing c.args.program.now c.as_bytes-haystack.result.now c.new-cache.result _ _ _ refl;
}
