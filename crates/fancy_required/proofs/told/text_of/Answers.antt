use Rattle.std.proofs.Common.{◌∙◌, arith}
use Rattle.fancy_required.proofs.LongestLemmas.{no_longer, none_here, none_past}
use Rattle.fancy_required.proofs.ToldLemmas.{text_told}
use Rattle.fancy_required.proofs.told.text_of.Goals as goal
use Rattle.fancy_required.proofs.told.text_of.Goals.{else-loop-i-test, then-loop-i-test+in_default}

pub returns-clause-stands : goal.returns-clause-stands
returns-clause-stands c m p h = text_told m p c.args.told.now c.longest_text-from.result c.loop-i.i c.loop-i.text.items c.loop-i.invariant.is h

pub returns-clause-longest : goal.returns-clause-longest
returns-clause-longest c =
    no_longer c.args.told.now c.longest_text-from.result c.loop-i.i c.loop-i.text.items c.longest_text-from.ensures c.loop-i.invariant.far
    (elim c.loop-i-test.branch [
      | else-loop-i-test w ↦ none_past c.args.told.now c.loop-i.i (omega (arith, w.loop-i-test))
      | then-loop-i-test+in_default w ↦ none_here c.args.told.now c.loop-i.i w.index-told-i.result (omega (arith, w.loop-i-test)) (λ byte one. w.in_default.not-One byte (w.index-told-i.is ∙ one))
    ])
