use Rattle.std.proofs.Common.{List, map, ap, ap₂, ◌∙◌, subst}
use Rattle.std.proofs.lemmas.Result.{err_from_is_err_and}
use Rattle.fancy_syntax.specs.declared.reference.Target.{Target as Found_target}
use Rattle.fancy_tree.specs.GroupNames.{names_of}
use Rattle.fancy_tree.specs.Pattern.{pattern_of}
use Rattle.fancy_syntax.specs.References.{Groups, group_for}
use Rattle.fancy_tree.specs.Refers.{number_in, refers_to}
use Rattle.fancy_syntax.specs.Views.{targets_of, draft_groups, RefusesReference, AreResolved, HaveFault}
use Rattle.fancy_syntax.proofs.ResolveLemmas.{same_groups}
use Rattle.fancy_syntax.proofs.parse.Draft.resolve.Goals as goal

pub returns-in_err-numbers-clause-refused : goal.returns-in_err-numbers-clause-refused
returns-in_err-numbers-clause-refused c =
    let p = err_from_is_err_and c.from_residual-in_err-numbers.result c.from_residual-in_err-numbers.ensures.1 in
    let same = same_groups c.args.only_named c.args.self c.names_alone.result (names_of c.in_ok-names.names) c.names_alone.ensures c.in_ok-names.ensures in
    rw (p.1, p.2)
    (subst (λ (ts : List Found_target). RefusesReference c.in_err-numbers.field-0.0 (HaveFault (draft_groups c.args.only_named c.args.self) ts)) c.deref.ensures.value
    (subst (λ (g : Groups). RefusesReference c.in_err-numbers.field-0.0 (HaveFault g c.deref.result.now)) same c.in_err-numbers.ensures.refused))

pub returns-clause-tree : goal.returns-clause-tree
returns-clause-tree c =
    let same = same_groups c.args.only_named c.args.self c.names_alone.result (names_of c.in_ok-names.names) c.names_alone.ensures c.in_ok-names.ensures in
    c.refer.ensures
    ∙ ap (λ ns. refers_to (number_in ns) (pattern_of c.args.self.tree))
    (c.deref-2.ensures.value ∙ (c.in_ok-numbers.ensures.numbers ∙ ap₂ (λ (g : Groups) (ts : List Found_target). map (group_for g) (targets_of ts)) same c.deref.ensures.value))

pub returns-clause-resolved : goal.returns-clause-resolved
returns-clause-resolved c =
    let same = same_groups c.args.only_named c.args.self c.names_alone.result (names_of c.in_ok-names.names) c.names_alone.ensures c.in_ok-names.ensures in
    subst (λ (ts : List Found_target). AreResolved (draft_groups c.args.only_named c.args.self) ts) c.deref.ensures.value
    (subst (λ (g : Groups). AreResolved g c.deref.result.now) same c.in_ok-numbers.ensures.resolved)
