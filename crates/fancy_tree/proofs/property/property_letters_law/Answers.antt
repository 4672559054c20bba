use Rattle.fancy_tree.proofs.PropertyLetters.{letter_l, letter_m, letter_n, letter_p, letter_s, letter_z, letter_c}
use Rattle.fancy_tree.proofs.property.property_letters_law.Goals as goal

pub returns-clause-letter : goal.returns-clause-letter
returns-clause-letter c = letter_l

pub returns-clause-mark : goal.returns-clause-mark
returns-clause-mark c = letter_m

pub returns-clause-number : goal.returns-clause-number
returns-clause-number c = letter_n

pub returns-clause-punctuation : goal.returns-clause-punctuation
returns-clause-punctuation c = letter_p

pub returns-clause-symbol : goal.returns-clause-symbol
returns-clause-symbol c = letter_s

pub returns-clause-separator : goal.returns-clause-separator
returns-clause-separator c = letter_z

pub returns-clause-other : goal.returns-clause-other
returns-clause-other c = letter_c
