use Rattle.std.proofs.Common.{rules, [], ℕ}
use Rattle.std.proofs.KnownBytes.{Appends-nil}
use Rattle.fancy_explain.proofs.WritingLemmas.{text_then, ok_then, ok_appends}
use Rattle.fancy_explain.proofs.writing.write_blanks.Goals as goal

pub loop-init : goal.loop-init
loop-init g c = ([], Appends-nil _)

pub loop-preserved : goal.loop-preserved
loop-preserved g c = text_then g.W.Writer.contents _ _ _ c.loop.invariant (_, c.in_ok-write_whole.ensures.ok)

pub returns-clause-ok : goal.returns-clause-ok
returns-clause-ok g c = ok_then g.W.Writer.contents _ _ _ c.write_whole-2.result c.loop.invariant (ok_appends g.W.Writer.contents _ _ c.write_whole-2.result _ c.write_whole-2.ensures.ok)
