use Rattle.fancy_code.proofs.ClassifyLemmas.{easy-Concat, easy-Alternation}
use Rattle.fancy_code.proofs.classify.+is_easy.Goals as goal

pub is_easy-returns-in-Concat : goal.is_easy-returns-in-Concat
is_easy-returns-in-Concat t c =
    rw (c.in-Concat.is, easy-Concat c.in-Concat.parts) (rw c.deref-in-Concat.ensures.value at c.are_easy.ensures)

pub is_easy-returns-in-Alternation : goal.is_easy-returns-in-Alternation
is_easy-returns-in-Alternation t c =
    rw (c.in-Alternation.is, easy-Alternation c.in-Alternation.branches) (rw c.deref-in-Alternation.ensures.value at c.are_easy-in-Alternation.ensures)
