use Rattle.std.proofs.Common.{List, ℕ, map, chars}
use Rattle.std.specs.Io.KnownBytes.{Appends}
use Rattle.fancy_template.specs.Expansions.{expanded, expansion, expanded_texts}
use Rattle.fancy_template.specs.Expanders.{syntax_of, steps_left}
use Rattle.fancy_template.proofs.ExpansionLemmas.{Given}
use Rattle.fancy_template.proofs.WriteLemmas.{IsWrittenBut}
use Rattle.fancy_template.proofs.expander.Expander.write_expansion.Given as goal

abbrev pub invariant-loop-step : goal.invariant-loop-step
invariant-loop-step g l =
    let k = g.C.GroupTexts.captured l.captures in
    let s = syntax_of l.self in
    let left = steps_left l.step-iterator in
    record {
      given : Given k (expansion s k (chars l.template)) (λ (done : List ℕ). Appends (g.W.Writer.contents l.fn.writer) (g.W.Writer.contents l.writer) done) left;
      written : IsWrittenBut g.W.Writer.answers l.fn.writer (expanded_texts s k (chars l.template)) l.writer (map (expanded k) left);
    }
