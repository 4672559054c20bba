use Rattle.std.proofs.Common.{rules, sym, subst, List, ℕ, ◌∙◌}
use Rattle.std.specs.Io.KnownBytes.{Appends}
use Rattle.fancy_explain.proofs.WritingLemmas.{text_then, ok_then, named}
use Rattle.fancy_explain.proofs.explain.explain_whole.Goals as goal

pub returns-clause-ok : goal.returns-clause-ok
returns-clause-ok g c =
    let k = g.W.Writer.contents in
    let t0 = text_then k _ _ _ c.in_ok-write_text.ensures.ok c.in_ok-write_text-2.ensures.ok in
    let t1 = text_then k _ _ _ t0 c.in_ok-write_subject.ensures.ok in
    let name = subst (λ (l : List ℕ). Appends (k c.args.writer.now) (k c.write_whole.new.writer) l) (c.as_bytes.ensures.value ∙ c.name.ensures) c.in_ok-write_whole.ensures.ok in
    named k _ _ _ c.write_hint.result _ name (ok_then k _ _ _ c.write_hint.result t1 c.write_hint.ensures.ok)
