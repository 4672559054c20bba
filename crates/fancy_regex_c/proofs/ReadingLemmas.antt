-- What reading a pattern answers, where memory runs out.
use Rattle.std.proofs.Common.{ℕ, List, Err, inl}
use Rattle.fancy_regex.specs.declared.Error.TheVariants.{Memory}
use Rattle.fancy_regex.specs.declared.Options.{Options}
use Rattle.fancy_regex.specs.Built.{IsReading}

-- memory may run out at any time
pub out_of_memory : (o : Options) (pattern : List ℕ) → IsReading o pattern (Err Memory)
out_of_memory o pattern = record { text = tt; options = tt; spelled = tt; sized = tt; refused = inl tt; succeeds = λ p h. tt }
