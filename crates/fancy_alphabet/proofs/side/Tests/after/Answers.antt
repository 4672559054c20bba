use Rattle.std.proofs.Common.{ap, sym}
use Rattle.fancy_code.specs.Attempt.{context_in}
use Rattle.fancy_alphabet.specs.Sides.{seen_as}
use Rattle.fancy_alphabet.specs.declared.side.Tests.{Tests}
use Rattle.fancy_alphabet.proofs.SideLemmas.{some_after}
use Rattle.fancy_alphabet.proofs.side.Tests.after.Goals as goal

pub returns-in-Nothing : goal.returns-in-Nothing
returns-in-Nothing c =
    let some = some_after (context_in c.args.attempt.now) c.args.place c.requires in
    (some.0, some.1, sym (ap (λ (t : Tests). seen_as t some.0) c.in-Nothing.is))
