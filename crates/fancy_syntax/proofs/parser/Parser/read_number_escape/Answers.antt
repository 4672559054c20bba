use Rattle.std.proofs.Common.{refl, drop}
use Rattle.fancy_syntax.specs.Views.{scope_of, place, text_left}
use Rattle.fancy_syntax.proofs.LexemeLemmas.{byte_is_small, number_meant, refuses_too, no_number_lexeme}
use Rattle.fancy_syntax.proofs.parser.Parser.read_number_escape.Goals as goal

pub literal_tree_by_number-requires : goal.literal_tree_by_number-requires
literal_tree_by_number-requires c = byte_is_small c.args.digits c.skip.new.self.rest.now c.in-Ok.ensures.value

pub returns-in_ok-literal_tree_by_number-in-Ok-clause-value : goal.returns-in_ok-literal_tree_by_number-in-Ok-clause-value
returns-in_ok-literal_tree_by_number-in-Ok-clause-value c =
    number_meant (scope_of c.args.self.now) c.args.digits (drop 2 (text_left c.args.self.now)) (place c.args.self.now) c.in_ok-literal_tree_by_number-in-Ok.field-0
    (rw c.skip.ensures.place at c.in-Ok.ensures.value) refl refl c.in_ok-literal_tree_by_number-in-Ok.ensures

pub returns-in-Err-clause-value : goal.returns-in-Err-clause-value
returns-in-Err-clause-value c =
    rw c.class_error.ensures
    (refuses_too _ c.in-Err.refusal (no_number_lexeme (scope_of c.args.self.now) c.args.digits (drop 2 (text_left c.args.self.now))) (rw c.skip.ensures.place at c.in-Err.ensures.value))
