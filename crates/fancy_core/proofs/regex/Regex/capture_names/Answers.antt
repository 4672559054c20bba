use Rattle.std.proofs.Common.{◌≡◌, ◌<◌, ◌≤◌, ◌+◌, ℕ, List, Option, Some, length, slice_get, set, take, chars, vec_items, arith, subst, sym, ap, ◌∙◌}
use Rattle.std.specs.Borrow.{Bor}
use Rattle.std.proofs.lemmas.List.{take_all, length-set}
use Rattle.fancy_tree.specs.Names.{named_groups}
use Rattle.fancy_core.specs.CaptureNames.{names_in}
use Rattle.fancy_core.specs.Regexes.{group_count_in}
use Rattle.fancy_core.proofs.CaptureNamesLemmas.{Placed, placed_none, as_many, placed_more, placed_past, placed_all}
use Rattle.fancy_core.proofs.NumberedLemmas.{as_many_as_groups, first_is_none}
use Rattle.fancy_core.proofs.regex.Regex.capture_names.Goals as goal
use Rattle.fancy_core.proofs.regex.Regex.capture_names.Goals.{then-named-len, else-named-len}

pub loop-named-init : goal.loop-named-init
loop-named-init c = (as_many c.in_ok-names.names.items c.captures_len.result c.in_ok-names.ensures ∙ c.captures_len.ensures, placed_none c.in_ok-names.names.items c.captures_len.result c.in_ok-names.ensures)

pub loop-named-preserved : goal.loop-named-preserved
loop-named-preserved c =
    let groups = c.groups-groups.result.now in
    let old = c.loop-named.names.items in
    let placed : Placed old (named_groups (take c.loop-named.named-index groups)) = c.loop-named.invariant.1 in
    elim c.if-named-len.branch [
      | then-named-len w ↦
          let items : c.if-named-len.names.items ≡ set old c.named-item.result.group (Some w.as_str.result) = ap vec_items w.names-is in
          let fits : c.named-item.result.group < length old = omega (arith, w.if-named-len.true, c.len.ensures, c.loop-named.names.ok.0) in (
            ap (length {A = Option (Bor (List ℕ))}) items ∙ (length-set old c.named-item.result.group (Some w.as_str.result) ∙ c.loop-named.invariant.0),
            subst (λ l. Placed l (named_groups (take (c.loop-named.named-index + 1) groups))) (sym items)
                (placed_more groups c.loop-named.named-index c.named-item.result c.loop-named-test.true c.named-item.is old placed (Some w.as_str.result) (ap (λ t. Some (chars t)) w.as_str.ensures.value) fits),
          )
      | else-named-len w ↦
          let items : c.if-named-len.names.items ≡ old = ap vec_items w.names-is in
          let past : length old ≤ c.named-item.result.group = omega (arith, w.if-named-len.false, c.len.ensures, c.loop-named.names.ok.0) in (
            ap (length {A = Option (Bor (List ℕ))}) items ∙ c.loop-named.invariant.0,
            subst (λ l. Placed l (named_groups (take (c.loop-named.named-index + 1) groups))) (sym items)
                (placed_past groups c.loop-named.named-index c.named-item.result c.loop-named-test.true c.named-item.is old placed past),
          )
    ]

pub returns-clause-names : goal.returns-clause-names
returns-clause-names c =
    let all : named_groups (take c.loop-named.named-index c.groups-groups.result.now) ≡ names_in c.args.self.now = ap named_groups (take_all c.loop-named.named-index c.groups-groups.result.now c.loop-named-test.false) ∙ (c.groups-groups.ensures ∙ c.names.ensures) in
    placed_all c.loop-named.names.items (group_count_in c.args.self.now) (names_in c.args.self.now) c.loop-named.invariant.0 (subst (λ l. Placed c.loop-named.names.items l) all c.loop-named.invariant.1)

pub returns-clause-count : goal.returns-clause-count
returns-clause-count c = ap length (returns-clause-names c) ∙ as_many_as_groups c.args.self.now

pub returns-clause-whole_match : goal.returns-clause-whole_match
returns-clause-whole_match c = ap (λ l. slice_get l 0) (returns-clause-names c) ∙ first_is_none c.args.self.now
