use Rattle.fancy_regex_c.proofs.FilledLemmas.{puts_within, puts_past}
use Rattle.fancy_regex_c.proofs.buffers.put_next.Goals.{then-count-buffer, else-count-buffer}
use Rattle.fancy_regex_c.proofs.buffers.put_next.Goals as goal

pub returns-clause-put : goal.returns-clause-put
returns-clause-put g c =
    elim c.if-count-buffer.branch [
      | then-count-buffer w ↦ rw w.buffer-is (puts_within c.args.item c.args.buffer.now c.args.count.now w.if-count-buffer.true)
      | else-count-buffer w ↦ rw w.buffer-is (puts_past c.args.item c.args.buffer.now c.args.count.now w.if-count-buffer.false)
    ]
