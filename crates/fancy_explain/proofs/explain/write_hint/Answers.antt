use Rattle.fancy_explain.proofs.WritingLemmas.{text_then, ok_then}
use Rattle.fancy_explain.proofs.explain.write_hint.Goals as goal

pub returns-clause-ok : goal.returns-clause-ok
returns-clause-ok g c =
    let k = g.W.Writer.contents in
    ok_then k _ _ _ c.write_text-3.result (text_then k _ _ _ c.in_ok-write_text.ensures.ok c.in_ok-write_text-2.ensures.ok) c.write_text-3.ensures.ok
