use Rattle.fancy_search.specs.Programs.{program_pattern}
use Rattle.fancy_search.proofs.program.Program.attempt_hard.Given as goal

abbrev pub ghost-backtrack_at : goal.ghost-backtrack_at
ghost-backtrack_at a = program_pattern a.self.now
