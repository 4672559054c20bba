use Rattle.fancy_regex.specs.Sets.{asked_of_set}
use Rattle.fancy_regex.proofs.TrialLemmas.{holds_noted}
use Rattle.fancy_regex.proofs.tokens.Tokens.drop.Goals as goal

pub leave-requires : goal.leave-requires
leave-requires g c =
    let s = c.args.self in
    record { noted = rw c.deref.ensures.value (holds_noted (asked_of_set s.set.now g.S.Haystack.bytes s.input) s.place s.trials (s.noted c.if-not-ended.true)) }
