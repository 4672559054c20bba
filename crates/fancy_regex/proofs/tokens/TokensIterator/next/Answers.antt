use Rattle.std.proofs.Common.{refl, arith}
use Rattle.fancy_regex.specs.Sets.{asked_of_set}
use Rattle.fancy_regex.proofs.TokenGivenLemmas.{goes_on_with, end_is}
use Rattle.fancy_regex.proofs.TrialLemmas.{holds_noted}
use Rattle.fancy_regex.proofs.tokens.TokensIterator.next.Goals as goal

pub leave-requires : goal.leave-requires
leave-requires g c =
    let s = c.args.self.now in
    record { noted = rw c.deref.ensures.value (holds_noted (asked_of_set s.set.now g.S.Haystack.bytes s.input) s.place s.trials (s.noted c.if-self.false)) }

pub token_at-requires-clause-noted : goal.token_at-requires-clause-noted
token_at-requires-clause-noted g c = c.args.self.now.noted c.if-self.false

pub returns-in-Ok-clause-steps : goal.returns-in-Ok-clause-steps
returns-in-Ok-clause-steps g c =
    let s = c.args.self.now in
    let q = asked_of_set s.set.now g.S.Haystack.bytes s.input in
    let given = c.in-Ok.ensures.given in
    let end = end_is _ s.place given.end c.end-self.result given.span c.end-self.ensures in
    let moves = given.moves in
    record {
      answers = record {
        moves = omega (arith, moves, end);
        first = goes_on_with q s.place _ given.end c.end-self.result s.ended c.if-self.false given.is end;
        groups = given.item;
        within = given.within;
        limits = c.in-Ok.ensures.limits;
        goes_on = c.if-self.false;
      };
      same_set = refl;
      same_haystack = refl;
      same_request = refl;
    }

pub invariant_of-self-in-Ok-clause-noted : goal.invariant_of-self-in-Ok-clause-noted
invariant_of-self-in-Ok-clause-noted g c going =
    let s = c.args.self.now in
    let q = asked_of_set s.set.now g.S.Haystack.bytes s.input in
    let given = c.in-Ok.ensures.given in
    let end = end_is _ s.place given.end c.end-self.result given.span c.end-self.ensures in
    rw end (rw given.span at c.in-Ok.ensures.noted)
