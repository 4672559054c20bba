use Rattle.std.proofs.Common.{◌≡◌, ℕ, length, List, Bor, sym, ap, ◌∙◌, arith}
use Rattle.std.specs.Option.{option_map}
use Rattle.fancy_syntax.specs.Grammar.{past_blanks}
use Rattle.fancy_syntax.proofs.BlankLemmas.{blanks_step, blanks_stop, blank_shorter, blanks_shorter}
use Rattle.fancy_syntax.proofs.blank.past_blanks.Goals as goal

pub loop-after-preserved : goal.loop-after-preserved
loop-after-preserved c =
    c.loop-after.invariant ∙ blanks_step c.args.ignore_blanks c.loop-after.rest.now c.in-Some.after.now (sym c.past_blank.ensures ∙ ap (option_map (λ (r : Bor (List ℕ)). r.now)) c.in-Some.is)

pub loop-after-smaller : goal.loop-after-smaller
loop-after-smaller c =
    blank_shorter c.args.ignore_blanks c.loop-after.rest.now c.in-Some.after.now (sym c.past_blank.ensures ∙ ap (option_map (λ (r : Bor (List ℕ)). r.now)) c.in-Some.is)

pub returns-clause-value : goal.returns-clause-value
returns-clause-value c =
    sym (c.loop-after.invariant ∙ blanks_stop c.args.ignore_blanks c.loop-after.rest.now (sym c.past_blank.ensures ∙ ap (option_map (λ (r : Bor (List ℕ)). r.now)) c.in_default.is))

pub returns-clause-shorter : goal.returns-clause-shorter
returns-clause-shorter c =
    let left : c.loop-after.rest.now ≡ past_blanks c.args.ignore_blanks c.args.text.now = sym (c.loop-after.invariant ∙ blanks_stop c.args.ignore_blanks c.loop-after.rest.now (sym c.past_blank.ensures ∙ ap (option_map (λ (r : Bor (List ℕ)). r.now)) c.in_default.is)) in
    omega (arith, ap (length {A = ℕ}) left, blanks_shorter c.args.ignore_blanks c.args.text.now)
