use Rattle.std.proofs.Common.{rules, ap, subst, List, ℕ, ◌∙◌, ◌≡◌, min, length, OnOk}
use Rattle.std.specs.Io.KnownBytes.{Appends}
use Rattle.fancy_lines.specs.LineColumns.{line_of}
use Rattle.fancy_tree.specs.Errors.{parse_error_name}
use Rattle.fancy_explain.specs.Explained.{Explains}
use Rattle.fancy_explain.proofs.WritingLemmas.{text_then, ok_then, named_line}
use Rattle.fancy_explain.proofs.explain.explain_at.Goals as goal

pub returns-clause-ok : goal.returns-clause-ok
returns-clause-ok g c =
    let k = g.W.Writer.contents in
    let name = subst (λ (l : List ℕ). Appends (k c.args.writer.now) (k c.write_whole.new.writer) l) (c.as_bytes-2.ensures.value ∙ c.name.ensures) c.in_ok-write_whole.ensures.ok in
    let before = subst (λ (l : List ℕ). Appends (k c.write_place.new.writer) (k c.write_whole-2.new.writer) l) c.line_at.ensures.before c.in_ok-write_whole-2.ensures.ok in
    let after = subst (λ (l : List ℕ). Appends (k c.write_whole-2.new.writer) (k c.write_whole-3.new.writer) l) c.line_at.ensures.after c.in_ok-write_whole-3.ensures.ok in
    let end = ok_then k _ _ _ c.write_hint.result c.in_ok-write_caret.ensures.ok c.write_hint.ensures.ok in
    let said = named_line k _ _ _ _ _ _ c.write_hint.result _ _ _ name c.in_ok-write_place.ensures.ok before after end in
    let whole : line_of c.as_bytes.result.now c.min-place.result ≡ line_of c.args.pattern.now (min c.args.place (length c.args.pattern.now)) =
    ap (λ (x : List ℕ). line_of x c.min-place.result) c.as_bytes.ensures.value ∙ ap (λ (n : ℕ). line_of c.args.pattern.now n) (search rules) in
    subst (λ (l : List ℕ). OnOk c.write_hint.result (Explains k c.args.writer.now (parse_error_name c.args.kind) l c.write_hint.new.writer)) whole said
