use Rattle.std.proofs.Common.{◌≡◌, ℕ, List, Bor}
use Rattle.fancy_regex_c.proofs.ReplaceLemmas.{by_template}
use Rattle.fancy_regex_c.proofs.texts.replaced.Goals as goal

pub returns-then-how-eq0-clause-text : goal.returns-then-how-eq0-clause-text
returns-then-how-eq0-clause-text c =
    let zero : c.args.how.literal ≡ 0 = c.if-how-eq0.true in
    rw (zero, ← c.requires.same) (by_template (λ (s : Bor (List ℕ)). s.now) c.args.regex.now c.args.text.now c.args.how.limit c.args.replacement c.replacen.result c.replacen.ensures.text)
