use Rattle.std.proofs.Common.{◌∙◌, arith}
use Rattle.std.proofs.lemmas.Result.{err_from_is_err_and}
use Rattle.fancy_tree.specs.declared.error.Error.TheVariants.{CompileError}
use Rattle.fancy_tree.specs.declared.error.CompileError.TheVariants.{PatternTooComplex}
use Rattle.fancy_syntax.specs.Views.{dialect_options}
use Rattle.fancy_syntax.proofs.ParseLemmas.{refused_as, refused_is_memory, accepted, refused_by, refused_sizes, only_memory, too_complex}
use Rattle.fancy_syntax.proofs.parse.parse_with.Goals as goal

pub returns-in_err-draft-clause-refused : goal.returns-in_err-draft-clause-refused
returns-in_err-draft-clause-refused c =
    let p = err_from_is_err_and c.from_residual-in_err-draft.result c.from_residual-in_err-draft.ensures.1 in
    rw (p.1, p.2) (refused_as (dialect_options c.args.options) c.in_err-draft.field-0.0 (c.deref.ensures.value ∙ c.in_ok-characters.ensures) c.in_err-draft.ensures.refused)

pub returns-in_err-draft-clause-succeeds : goal.returns-in_err-draft-clause-succeeds
returns-in_err-draft-clause-succeeds c q x =
    let p = err_from_is_err_and c.from_residual-in_err-draft.result c.from_residual-in_err-draft.ensures.1 in
    rw (p.1, p.2) (refused_is_memory c.in_err-draft.field-0.0 (refused_as (dialect_options c.args.options) c.in_err-draft.field-0.0 (c.deref.ensures.value ∙ c.in_ok-characters.ensures) c.in_err-draft.ensures.refused) x)

pub returns-then-nodes-gt-MAX_NODES-clause-refused :
    goal.returns-then-nodes-gt-MAX_NODES-clause-refused
returns-then-nodes-gt-MAX_NODES-clause-refused c =
    too_complex c.in_ok-draft.draft c.in_ok-draft.ensures.value (c.deref.ensures.value ∙ c.in_ok-characters.ensures) c.nodes.ensures c.if-nodes-gt-MAX_NODES.true

pub returns-then-nodes-gt-MAX_NODES-clause-succeeds :
    goal.returns-then-nodes-gt-MAX_NODES-clause-succeeds
returns-then-nodes-gt-MAX_NODES-clause-succeeds c p x =
    refused_is_memory (CompileError PatternTooComplex) (too_complex c.in_ok-draft.draft c.in_ok-draft.ensures.value (c.deref.ensures.value ∙ c.in_ok-characters.ensures) c.nodes.ensures c.if-nodes-gt-MAX_NODES.true) x

pub returns-in_err-parsed-clause-refused : goal.returns-in_err-parsed-clause-refused
returns-in_err-parsed-clause-refused c =
    let p = err_from_is_err_and c.from_residual-in_err-parsed.result c.from_residual-in_err-parsed.ensures.1 in
    rw (p.1, p.2)
    (refused_by (dialect_options c.args.options) c.in_ok-draft.draft c.in_ok-draft.ensures.value (c.deref.ensures.value ∙ c.in_ok-characters.ensures) c.in_err-parsed.field-0.0 c.in_err-parsed.ensures.refused)

pub returns-in_err-parsed-clause-succeeds : goal.returns-in_err-parsed-clause-succeeds
returns-in_err-parsed-clause-succeeds c q x =
    let p = err_from_is_err_and c.from_residual-in_err-parsed.result c.from_residual-in_err-parsed.ensures.1 in
    rw (p.1, p.2)
    (refused_is_memory c.in_err-parsed.field-0.0
    (refused_by (dialect_options c.args.options) c.in_ok-draft.draft c.in_ok-draft.ensures.value (c.deref.ensures.value ∙ c.in_ok-characters.ensures) c.in_err-parsed.field-0.0 c.in_err-parsed.ensures.refused) x)

pub returns-clause-accepted : goal.returns-clause-accepted
returns-clause-accepted c =
    accepted (dialect_options c.args.options) c.in_ok-draft.draft c.in_ok-draft.ensures.value (c.deref.ensures.value ∙ c.in_ok-characters.ensures) c.in_ok-parsed.parsed c.with_sizes.result c.nodes.ensures (omega arith)
    c.in_ok-parsed.ensures.tree c.in_ok-parsed.ensures.same c.in_ok-parsed.ensures.resolved c.with_sizes.ensures.value c.with_sizes.ensures.sized c.with_sizes.ensures.fills

pub returns-clause-refused : goal.returns-clause-refused
returns-clause-refused c =
    refused_sizes (dialect_options c.args.options) c.in_ok-draft.draft c.in_ok-draft.ensures.value (c.deref.ensures.value ∙ c.in_ok-characters.ensures) c.in_ok-parsed.parsed c.with_sizes.result
    c.in_ok-parsed.ensures.tree c.with_sizes.ensures.refused

pub returns-clause-succeeds : goal.returns-clause-succeeds
returns-clause-succeeds c p x =
    only_memory c.with_sizes.result
    (refused_sizes (dialect_options c.args.options) c.in_ok-draft.draft c.in_ok-draft.ensures.value (c.deref.ensures.value ∙ c.in_ok-characters.ensures) c.in_ok-parsed.parsed c.with_sizes.result
    c.in_ok-parsed.ensures.tree c.with_sizes.ensures.refused) x
