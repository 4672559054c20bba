use Rattle.std.proofs.Common.{◌≡◌, List, length, map, sym, ap, ◌∙◌, arith}
use Rattle.std.specs.List.{list_all}
use Rattle.std.proofs.lemmas.List.{length-map}
use Rattle.std.proofs.lemmas.List.Folds.{list_all-map}
use Rattle.fancy_tree.specs.declared.tree.Tree.{Tree}
use Rattle.fancy_tree.specs.Pattern.{pattern_of, in_sequence}
use Rattle.fancy_tree.specs.Sizes.{has_size, has_sizes}
use Rattle.fancy_tree.proofs.PatternLemmas.{pattern-Concat, pattern-Alternation}
use Rattle.fancy_tree.proofs.LookBehindLemmas.{have_sizes, one_size, only_part}
use Rattle.fancy_tree.proofs.tree.Tree.+has_sizes.Goals as goal

pub returns-in-Alternation : goal.returns-in-Alternation
returns-in-Alternation t c =
    c.have_size.ensures
    ∙ (ap (list_all (λ (x : Tree). has_size c.args.meaning (pattern_of x))) c.deref.ensures.value
    ∙ (sym (list_all-map (has_size c.args.meaning) pattern_of c.in-Alternation.branches.items)
    ∙ (sym (have_sizes c.args.meaning (map pattern_of c.in-Alternation.branches.items)) ∙ ap (has_sizes c.args.meaning) (sym (ap pattern_of c.in-Alternation.is ∙ pattern-Alternation c.in-Alternation.branches)))))

pub returns-in-empty : goal.returns-in-empty
returns-in-empty t c =
    let many : length c.as_slice.result.now ≡ length c.in-Concat.parts.items = ap (length {A = Tree}) c.as_slice.ensures.value in
    c.has_size.ensures
    ∙ one_size c.args.meaning (pattern_of c.args.self.now) (map pattern_of c.in-Concat.parts.items) (ap pattern_of c.in-Concat.is ∙ pattern-Concat c.in-Concat.parts)
    (λ h. omega (arith, h, many, length-map c.in-Concat.parts.items pattern_of, c.in-empty.len_below))

pub returns-in-len1 : goal.returns-in-len1
returns-in-len1 t c =
    c.has_sizes.ensures
    ∙ ap (has_sizes c.args.meaning)
    (sym (only_part c.as_slice.result.now c.only-item.result (omega (arith, c.in-len1.len_at_least, c.in-len1.len_below)) c.only-item.is)
    ∙ (ap (λ (ts : List Tree). in_sequence (map pattern_of ts)) c.as_slice.ensures.value ∙ sym (ap pattern_of c.in-Concat.is ∙ pattern-Concat c.in-Concat.parts)))

pub returns-in_default-as_slice : goal.returns-in_default-as_slice
returns-in_default-as_slice t c =
    let many : length c.as_slice.result.now ≡ length c.in-Concat.parts.items = ap (length {A = Tree}) c.as_slice.ensures.value in
    c.has_size-in_default-as_slice.ensures
    ∙ one_size c.args.meaning (pattern_of c.args.self.now) (map pattern_of c.in-Concat.parts.items) (ap pattern_of c.in-Concat.is ∙ pattern-Concat c.in-Concat.parts)
    (λ h. omega (arith, h, many, length-map c.in-Concat.parts.items pattern_of, c.in_default-as_slice.len_at_least))
