use Rattle.std.proofs.Common.{Option, Some, sym, ap, ◌∙◌}
use Rattle.std.specs.Option.{option_map}
use Rattle.fancy_syntax.specs.Views.{letters_of}
use Rattle.fancy_syntax.specs.Flags.{flags_of}
use Rattle.fancy_tree.specs.Text.{Text}
use Rattle.fancy_syntax.specs.Dialect.{Flags}
use Rattle.fancy_syntax.proofs.FlagLemmas.{stops_here, stops_early, no_letter_here, letter_here, no_end_here, all_the_rest}
use Rattle.fancy_syntax.proofs.flags.read_flags.Goals as goal

pub returns-then-letters-clause-value : goal.returns-then-letters-clause-value
returns-then-letters-clause-value c =
    let with_text : Text → Option (Flags × Text) = λ t. Some (flags_of c.loop-i.letters.flags, t) in
    ap with_text (all_the_rest c.args.text.now c.loop-i.i) ∙ sym (c.loop-i.invariant ∙ stops_here c.args.meaning c.args.text.now c.loop-i.i c.index-text-i.result c.index-text-i.result (letters_of c.loop-i.letters) c.loop-i-test.true c.index-text-i.is (sym c.if-contains.ensures.value) c.if-letters.true)

pub returns-then-contains-clause-value : goal.returns-then-contains-clause-value
returns-then-contains-clause-value c =
    sym (c.loop-i.invariant ∙ stops_early c.args.meaning c.args.text.now c.loop-i.i c.index-text-i.result c.index-text-i.result (letters_of c.loop-i.letters) c.loop-i-test.true c.index-text-i.is (sym c.if-contains.ensures.value) c.if-letters.false)

pub returns-in-None-clause-value : goal.returns-in-None-clause-value
returns-in-None-clause-value c =
    sym (c.loop-i.invariant ∙ no_letter_here c.args.meaning c.args.text.now c.loop-i.i c.index-text-i.result c.index-text-i.result (letters_of c.loop-i.letters) c.loop-i-test.true c.index-text-i.is (sym c.if-contains.ensures.value) (sym c.next.ensures ∙ ap (option_map letters_of) c.in-None.is))

pub loop-i-preserved : goal.loop-i-preserved
loop-i-preserved c =
    c.loop-i.invariant ∙ letter_here c.args.meaning c.args.text.now c.loop-i.i c.index-text-i.result c.index-text-i.result (letters_of c.loop-i.letters) c.loop-i-test.true c.index-text-i.is (letters_of c.in-Some.next) (sym c.if-contains.ensures.value) (sym c.next.ensures ∙ ap (option_map letters_of) c.in-Some.is)

pub returns-clause-value : goal.returns-clause-value
returns-clause-value c = sym (c.loop-i.invariant ∙ no_end_here c.args.meaning c.args.text.now c.loop-i.i (letters_of c.loop-i.letters) c.loop-i-test.false)
