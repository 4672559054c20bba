use Rattle.std.proofs.Common.{true}
use Rattle.fancy_regex.proofs.SetSearchLemmas.{searches_new}
use Rattle.fre_commands.proofs.commands.set.Goals as goal

pub find_input-requires : goal.find_input-requires
find_input-requires g c = record { searched = searches_new (λ h. true) (λ h. h.now) c.in_ok-set.set c.new-input.result _ c.in_ok-set.ensures.options c.new-input.ensures.haystack c.new-input.ensures.request }
