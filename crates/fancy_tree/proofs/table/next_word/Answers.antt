use Rattle.std.proofs.Common.{refl, arith, eq-eqb, ne_eqb}
use Rattle.fancy_tree.specs.Sets.{is_odd}
use Rattle.fancy_tree.proofs.CharSetLemmas.{word_full, word_clear, word_more, word_cut, word_bits}
use Rattle.fancy_tree.proofs.table.next_word.Goals as goal
use Rattle.fancy_tree.proofs.table.next_word.Goals.{then-at-eq1, else-at-eq1}

pub loop-at-init : goal.loop-at-init
unfolding is_odd
loop-at-init c =
    elim c.if-at-eq1.branch [
      | then-at-eq1 w ↦ word_full _ _ _ _ c.requires.cut (eq-eqb _ _ w.if-at-eq1.true) w.word-is
      | else-at-eq1 w ↦ word_clear _ _ _ _ c.requires.cut (ne_eqb _ _ w.if-at-eq1.false) w.word-is
    ]

pub loop-at-preserved : goal.loop-at-preserved
loop-at-preserved c = word_more _ _ _ _ _ c.loop-at.invariant c.loop-at-test.true c.if-edges-at.true refl

pub returns-else-edges-at-clause-bits : goal.returns-else-edges-at-clause-bits
returns-else-edges-at-clause-bits c =
    word_bits _ _ _ _ c.loop-at.invariant (word_cut _ _ _ _ c.requires.rising c.loop-at.invariant (λ within. c.if-edges-at.false))

pub returns-after-loop-at-clause-bits : goal.returns-after-loop-at-clause-bits
returns-after-loop-at-clause-bits c =
    word_bits _ _ _ _ c.loop-at.invariant (word_cut _ _ _ _ c.requires.rising c.loop-at.invariant (λ within. absurd (omega arith)))
