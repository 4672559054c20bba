use Rattle.std.proofs.Common.{refl}
use Rattle.fancy_regex.specs.declared.Error.TheVariants.{Memory}
use Rattle.fancy_regex_c.specs.Faults.{refused}
use Rattle.fancy_regex_c.proofs.ReadingLemmas.{out_of_memory}
use Rattle.fancy_regex_c.proofs.regexes.fancy_regex_new.Goals as goal

-- where the regex was read, but there is no memory to keep it, memory has run out
pub returns-then-answer-ne-DONE-clause-refused : goal.returns-then-answer-ne-DONE-clause-refused
returns-then-answer-ne-DONE-clause-refused c = λ not_done.
    rw c.memory.ensures (c.keep_regex-answer.ensures.answer not_done, refused c.in-Ok.ensures.options c.in-Ok.ensures.text (Memory, refl, out_of_memory _ _))
