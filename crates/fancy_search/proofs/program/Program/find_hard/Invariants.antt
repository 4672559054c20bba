use Rattle.fancy_search.specs.Programs.{program_pattern}
use Rattle.fancy_search.proofs.program.Program.find_hard.Given as goal

abbrev pub ghost-backtrack : goal.ghost-backtrack
ghost-backtrack a = program_pattern a.self.now
