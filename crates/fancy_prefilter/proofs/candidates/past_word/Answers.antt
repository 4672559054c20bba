use Rattle.std.proofs.Common.{arith}
use Rattle.fancy_prefilter.proofs.NextLemmas.{still_inside}
use Rattle.fancy_prefilter.proofs.candidates.past_word.Goals as goal

pub returns-in-None-clause-none : goal.returns-in-None-clause-none
returns-in-None-clause-none c k =
    still_inside c.args.others.now c.args.haystack.now c.args.place c.args.last c.max.result k c.requires.here c.in-None.ensures c.requires.within c.max.ensures

pub returns-in-Some-clause-none : goal.returns-in-Some-clause-none
returns-in-Some-clause-none c k =
    let other = c.in-Some.ensures in
    still_inside c.args.others.now c.args.haystack.now c.args.place c.in-Some.other c.max-in-Some.result k c.requires.here other.none (omega (arith, other.within, c.requires.within)) c.max-in-Some.ensures
