use Rattle.std.proofs.Common.{rules, refl, sym, ◌∙◌, ◌+◌, ap, subst, inl, inr, arith}
use Rattle.fancy_syntax.specs.Dialect.{DialectOptions}
use Rattle.fancy_tree.specs.GroupNames.{names_of}
use Rattle.fancy_states.proofs.PlainLemmas.{plain_is}
use Rattle.fancy_search.specs.Compiled.{IsSpelled}
use Rattle.fancy_search.specs.Options.{is_easy_under}
use Rattle.fancy_search.proofs.ReadingLemmas.{spelled_in, read_as}
use Rattle.std.proofs.lemmas.Result.{err_from_is_err_and}
use Rattle.fancy_tree.specs.Pattern.{pattern_of}
use Rattle.fancy_syntax.specs.Views as views
use Rattle.fancy_syntax.proofs.GroupLemmas.{numbered, wider}
use Rattle.fancy_tree.proofs.RefersFacts.{numbered-refers_to}
use Rattle.fancy_tree.specs.GroupNumbers.{Numbered}
use Rattle.fancy_search.proofs.SpelledLemmas.{bytes_accepted, kept_accepted}
use Rattle.fancy_search.proofs.RisingLemmas.{rising_names}
use Rattle.fancy_search.proofs.ProgramSizeLemmas.{too_long, both_of, second_fails}
use Rattle.fancy_search.proofs.program.Program.new.Goals as goal

pub returns-in_err-tree : goal.returns-in_err-tree
returns-in_err-tree c =
    let q = err_from_is_err_and c.from_residual.result c.from_residual.ensures.1 in
    let refused = rw c.parse_options.ensures at c.in_err-tree.ensures.refused in
    rw (q.1, q.2) (record {
      options = tt;
      spelled = tt;
      sized = tt;
      refused = inl refused;
      succeeds = λ p h. let e = c.in_err-tree.ensures.succeeds p (rw c.parse_options.ensures h) in rw e tt;
    })

pub returns-in_err-code : goal.returns-in_err-code
returns-in_err-code c =
    let q = err_from_is_err_and c.from_residual-in_err-code.result c.from_residual-in_err-code.ensures.1 in
    rw (q.1, q.2) (record { options = tt; spelled = tt; sized = tt; refused = inl tt; succeeds = λ p h. tt })

pub compile-requires-clause-small : goal.compile-requires-clause-small
compile-requires-clause-small c = omega (arith, (c.in_ok-tree.ensures.accepted.0).small)

pub compile-requires-clause-numbered : goal.compile-requires-clause-numbered
compile-requires-clause-numbered c =
    let h = c.in_ok-tree.ensures.accepted in
    wider (pattern_of c.in_ok-tree.field-0.tree) (0 + 1) ((h.0).end.opened + 1) 0 c.in_ok-tree.field-0.groups (omega arith) (omega (arith, h.1)) (subst (Numbered (0 + 1) ((h.0).end.opened + 1)) (sym (h.0).is) (numbered-refers_to _ (0 + 1) ((h.0).end.opened + 1) (h.0).written (numbered _ _ _ _ (h.0).spelled.spelled)))

pub invariant_of-result : goal.invariant_of-result
invariant_of-result c = record {
  pooled = λ steps. rw c.new-pool.ensures ((λ is. is), (λ is. is));
  reading = (pattern_of c.in_ok-tree.field-0.tree, ∣ spelled_in c.args.options c.in_ok-text.ensures.ok (rw c.parse_options.ensures at c.in_ok-tree.ensures.accepted.0) ∣₁);
  compiled = ∣ record {
    coded = c.in_ok-code.ensures.code;
    has_group_zero = omega (arith, c.in_ok-tree.ensures.accepted.1, c.in_ok-code.ensures.groups);
    rising = rising_names _ (views.dialect_options c.parse_options.result) _ _ _ _ _ (c.in_ok-tree.ensures.accepted.0).spelled.spelled (c.in_ok-tree.ensures.accepted.1 ∙ sym c.in_ok-code.ensures.groups) c.in_ok-tree.ensures.accepted.2;
  } ∣₁;
  handed = c.for_search-for_search.ensures;
  meant = c.in_ok-code.ensures.meaning ∙ c.meaning.ensures;
  short = c.in_ok-code.ensures.short;
  decided = c.is_easy-easy.ensures;
  single = λ e. ∣ c.is_one_item-one_item.ensures e ∣₁;
  direct = λ end is. rw is at c.straight_end-straight.ensures;
  alone = c.ends_no_group-ungrouped.ensures;
  followed = λ e at. plain_is _ (c.is_plain-plain.ensures.0 e at);
  light = c.in_ok-code.ensures.easy;
  limited = search rules;
  starts = kept_accepted (c.in_ok-tree.ensures.accepted.0);
  needed = rw (sym c.meaning-2.ensures) c.in_ok-required.ensures;
  priced = c.in_ok-prices.ensures;
  whole = λ e. bytes_accepted (ap (λ (o : DialectOptions). o.keeps_characters) c.parse_options.ensures ∙ e) (c.in_ok-tree.ensures.accepted.0);
}

pub returns-then-forbids : goal.returns-then-forbids
returns-then-forbids c =
    let h = rw c.parse_options.ensures at c.in_ok-tree.ensures.accepted.0 in
    let found = rw c.len.ensures at (sym c.if-forbids.ensures) in
    let why = both_of _ _ found in
    let hard = sym c.is_easy-easy.ensures ∙ why.0 in
    record {
      options = tt;
      spelled = tt;
      sized = tt;
      refused = inr (_, h, too_long c.args.options _ _ _ _ h h hard (c.in_ok-code.ensures.short) why.1);
      succeeds = λ p x. too_long c.args.options _ _ _ _ x h hard (c.in_ok-code.ensures.short) why.1;
    }

pub returns-clause-options : goal.returns-clause-options
returns-clause-options c = refl

pub returns-clause-spelled : goal.returns-clause-spelled
returns-clause-spelled c =
    let h = rw c.parse_options.ensures at c.in_ok-tree.ensures.accepted in
    let is = read_as c.args.options c.result-1.given.0 c.in_ok-text.ensures.ok h.0 in
    subst (λ q. IsSpelled c.args.options c.args.pattern.now q c.in_ok-code.code.groups (names_of c.in_ok-tree.field-0.names)) is (record {
      spelled = h.0;
      counted = h.1 ∙ sym c.in_ok-code.ensures.groups;
      named = sym h.2;
    })

pub returns-clause-sized : goal.returns-clause-sized
returns-clause-sized c = λ hard.
    let h = rw c.parse_options.ensures at c.in_ok-tree.ensures.accepted.0 in
    let is = read_as c.args.options c.result-1.given.0 c.in_ok-text.ensures.ok h in
    second_fails _ _ (c.is_easy-easy.ensures ∙ (ap (is_easy_under c.args.options) is ∙ hard)) (rw c.len.ensures at (sym c.if-forbids.ensures))

pub returns-clause-refused : goal.returns-clause-refused
returns-clause-refused c = tt

pub returns-clause-succeeds : goal.returns-clause-succeeds
returns-clause-succeeds c = λ p h. tt
