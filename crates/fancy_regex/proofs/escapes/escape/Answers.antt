use Rattle.std.proofs.Common.{List, ℕ, ◌∙◌, ap, sym, map-id, flat_map, encode_utf8_all, rules}
use Rattle.std.proofs.lemmas.Iterator.{YieldsList-from_chars}
use Rattle.std.proofs.lemmas.Iterator.Consumers.{YieldsList-end}
use Rattle.std.proofs.lemmas.Iterator.Search.{any_from_yields_List}
use Rattle.fancy_regex.specs.Escapes.{escaped_character, is_special}
use Rattle.fancy_regex.proofs.EscapeLemmas.{plain_bytes}
use Rattle.fancy_template.proofs.MarkLemmas.{one_more}
use Rattle.fancy_regex.proofs.escapes.escape.Goals as goal

pub loop-c-preserved : goal.loop-c-preserved
loop-c-preserved c = one_more escaped_character _ _ _ _ c.loop-c.invariant c.in_ok-push_escaped.ensures

pub returns-then-not-any-clause-value : goal.returns-then-not-any-clause-value
returns-then-not-any-clause-value c =
    let special = any_from_yields_List is_special _ _ _ c.any.ensures.ran (YieldsList-from_chars c.args.text.now c.utf8.text cc) (λ x b q k. search rules) in
    plain_bytes _ c.utf8.text (sym special ∙ c.if-not-any.true)

pub returns-then-not-any-clause-borrowed : goal.returns-then-not-any-clause-borrowed
returns-then-not-any-clause-borrowed c =
    let special = any_from_yields_List is_special _ _ _ c.any.ensures.ran (YieldsList-from_chars c.args.text.now c.utf8.text cc) (λ x b q k. search rules) in
    search (rules, sym special ∙ c.if-not-any.true)

pub returns-clause-value : goal.returns-clause-value
returns-clause-value c =
    let special = any_from_yields_List is_special _ _ _ c.any.ensures.ran (YieldsList-from_chars c.args.text.now c.utf8.text cc) (λ x b q k. search rules) in
    let end = YieldsList-end (YieldsList-from_chars c.args.text.now c.utf8.text cc) c.loop-c.yielded _ c.loop-c.yielded_by _ _ c.in-None.is c.next.ensures.steps in
    rw (sym special ∙ c.if-not-any.false)
    (c.loop-c.invariant ∙ ap (λ (cs : List ℕ). encode_utf8_all (flat_map escaped_character cs)) (sym (map-id c.loop-c.yielded) ∙ end.0))

pub returns-clause-borrowed : goal.returns-clause-borrowed
returns-clause-borrowed c =
    let special = any_from_yields_List is_special _ _ _ c.any.ensures.ran (YieldsList-from_chars c.args.text.now c.utf8.text cc) (λ x b q k. search rules) in
    search (rules, sym special ∙ c.if-not-any.false)
