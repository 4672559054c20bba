use Rattle.fancy_template.proofs.RowLemmas.{strips}
use Rattle.fancy_template.proofs.scan.after_word.Goals as goal

pub returns : goal.returns
returns c = strips c.args.word.now c.args.text.now c.strip_prefix.result c.utf8.word c.utf8.text c.strip_prefix.ensures.cases
