use Rattle.fancy_machine.proofs.MachineSearch.{deep_in}
use Rattle.fancy_machine.proofs.search.finds_at.Given as goal

abbrev pub ghost-run : goal.ghost-run
ghost-run g a = deep_in g.q
