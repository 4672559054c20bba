use Rattle.std.proofs.Common.{ap₂}
use Rattle.fancy_alphabet.specs.declared.side.Side.{Side}
use Rattle.fancy_alphabet.specs.declared.sight.Sight.{Sight}
use Rattle.fancy_alphabet.proofs.sight.sight_at.Goals as goal

pub returns-clause-seen : goal.returns-clause-seen
returns-clause-seen c =
    let before = c.before-2.ensures in
    let after = c.after.ensures in (
      record { before = before.0; after = after.0; reading = c.reading_at.result },
      record { before = before.1; after = after.1; unit = c.reading_at.ensures.reading },
      ap₂ (λ (b a : Side). (let s : Sight = record { before = b; after = a; reading = c.reading_at.result } in s)) before.2 after.2,
    )
