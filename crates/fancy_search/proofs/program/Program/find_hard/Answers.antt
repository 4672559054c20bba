use Rattle.std.proofs.Common.{refl, arith}
use Rattle.fancy_machine.specs.Asked.{groups_held}
use Rattle.fancy_search.specs.Programs.{query_in}
use Rattle.fancy_search.proofs.ResultLemmas.{if_ok}
use Rattle.fancy_search.proofs.SearchedLemmas.{found_by, found_stands, none_tried, none_tried_in}
use Rattle.fancy_search.proofs.program.Program.find_hard.Goals as goal

pub backtrack-requires : goal.backtrack-requires
backtrack-requires c = (refl, (c.requires.hard, (c.requires.hopeful, (c.requires.room, λ kept. cc))))

pub returns : goal.returns
returns c =
    let q = query_in c.args.self.now c.args.asked.now in
    let groups = groups_held c.backtrack.new.cache in
    let returned = c.backtrack.ensures.returned in
    record {
      served = record {
        answer = if_ok _ _ (found_by q groups) c.backtrack.result c.backtrack.ensures.answer;
        stands = if_ok _ _ (found_stands c.args.self.now c.args.asked.now groups) c.backtrack.result c.backtrack.ensures.answer;
        counts = c.backtrack.ensures.counts;
        idle = λ none. c.backtrack.ensures.idle (none_tried_in c.args.self.now q c.requires.hopeful none);
        none = λ none. if_ok _ _ (none_tried c.args.self.now q groups c.requires.hopeful none) c.backtrack.result c.backtrack.ensures.answer;
        hard = λ _. returned;
        refused = c.backtrack.ensures.refused;
        allowed = if_ok _ _ (λ _ counted hard. omega (arith, counted, returned.fits)) c.backtrack.result returned.counted;
      };
    }
