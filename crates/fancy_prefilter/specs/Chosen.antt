-- Which ways of a choice are gone where a byte stands.
use Rattle.std.specs.Prelude.{◌≡◌, Bool, false}
use Rattle.fancy_prefilter.specs.declared.choice.Choice.{Choice}
use Rattle.fancy_prefilter.specs.declared.choice.Choice.TheVariants.{Both, First, Second}

-- a way is left out where its set does not have the byte
abbrev pub ChosenBy : Choice → Bool → Bool → Type 0
ChosenBy Both first second = Unit {0}
ChosenBy First first second = second ≡ false
ChosenBy Second first second = first ≡ false
