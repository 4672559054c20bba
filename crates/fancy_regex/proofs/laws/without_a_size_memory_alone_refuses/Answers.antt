use Rattle.fancy_search.proofs.ProgramSizeLemmas.{refused_for_memory, refused_by_text}
use Rattle.fancy_regex.proofs.laws.without_a_size_memory_alone_refuses.Goals as goal

pub returns-clause-pattern : goal.returns-clause-pattern
returns-clause-pattern c = λ o p e unset h. refused_for_memory o p e unset h

pub returns-clause-text : goal.returns-clause-text
returns-clause-text c = λ o text e unset h. refused_by_text o text e unset h
