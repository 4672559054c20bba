use Rattle.fancy_explain.proofs.WritingLemmas.{text_then, ok_then}
use Rattle.fancy_explain.proofs.explain.write_place.Goals as goal

pub returns-clause-ok : goal.returns-clause-ok
returns-clause-ok g c =
    let k = g.W.Writer.contents in
    let t0 = text_then k _ _ _ c.in_ok-write_text.ensures.ok c.in_ok-write_number.ensures.ok in
    let t1 = text_then k _ _ _ t0 c.in_ok-write_text-2.ensures.ok in
    let t2 = text_then k _ _ _ t1 c.in_ok-write_number-2.ensures.ok in
    let t3 = text_then k _ _ _ t2 c.in_ok-write_text-3.ensures.ok in
    let t4 = text_then k _ _ _ t3 c.in_ok-write_text-4.ensures.ok in
    let t5 = text_then k _ _ _ t4 c.in_ok-write_text-5.ensures.ok in
    ok_then k _ _ _ c.write_blanks.result t5 c.write_blanks.ensures.ok
