use Rattle.std.proofs.Common.{◌≡◌, List, [], ◌∷◌, length, map, sym, ap, ◌∙◌, arith}
use Rattle.std.specs.Option.{option_map}
use Rattle.std.proofs.lemmas.List.{length-map, map-append}
use Rattle.fancy_tree.specs.Pattern.{backreference}
use Rattle.fancy_syntax.specs.References.{Target}
use Rattle.fancy_syntax.specs.Grammar.{start}
use Rattle.fancy_syntax.specs.Views.{scope_of, place, target_of, reading_of}
use Rattle.fancy_syntax.proofs.LexemeLemmas.{the_reference, no_reference_here}
use Rattle.fancy_syntax.proofs.parser.Parser.reference.Goals as goal

pub returns-in_ok-push-in-Some-clause-value : goal.returns-in_ok-push-in-Some-clause-value
returns-in_ok-push-in-Some-clause-value c =
    let count : c.len-index.result ≡ length (map target_of c.args.self.now.wanted.items) =
    omega (arith, c.len-index.ensures, c.args.self.now.wanted.ok.0, length-map c.args.self.now.wanted.items target_of) in
    the_reference (place c.args.self.now) (sym c.in_ok-found.ensures.value ∙ ap (option_map reading_of) c.in-Some.is)
    (c.reference.ensures ∙ ap (backreference c.args.self.now.flags.ignore_case) count)
    (ap (λ (l : List Target). start (record (scope_of c.args.self.now) { wanted = l }) c.in-Some.after.now)
    (ap (map target_of) c.in_ok-push-in-Some.ensures.items ∙ map-append target_of c.args.self.now.wanted.items (c.in-Some.target ∷ [])))

pub returns-in-None-clause-value : goal.returns-in-None-clause-value
returns-in-None-clause-value c = rw c.error.ensures (no_reference_here (place c.args.self.now) c.requires (sym c.in_ok-found.ensures.value ∙ ap (option_map reading_of) c.in-None.is))
