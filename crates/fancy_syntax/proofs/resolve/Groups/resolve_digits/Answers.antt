use Rattle.std.proofs.Common.{◌≡◌, ◌-◌, ◌^◌, min, chars, sym, ap, ◌∙◌}
use Rattle.fancy_syntax.specs.Counts.{past_digits, decimal}
use Rattle.fancy_syntax.specs.Views.{groups_of}
use Rattle.fancy_syntax.proofs.ParserLemmas.{nothing_left, some_left}
use Rattle.fancy_syntax.proofs.ResolveLemmas.{by_its_number, no_number_either}
use Rattle.fancy_syntax.proofs.resolve.Groups.resolve_digits.Goals as goal

pub returns-then-is_empty : goal.returns-then-is_empty
returns-then-is_empty c =
    let left : c.past_digits.result.now ≡ past_digits (chars c.args.name.now) = c.past_digits.ensures.value ∙ ap past_digits (c.deref.ensures.value ∙ c.in_ok-digits.ensures) in
    by_its_number (groups_of c.args.self.now) (chars c.args.name.now) c.resolve_number.result (sym left ∙ nothing_left c.past_digits.result.now c.if-is_empty.ensures)
    (c.resolve_number.ensures (decimal (chars c.args.name.now)) (c.decimal.ensures ∙ ap (λ t. min (decimal t) (2 ^ 64 - 1)) (c.deref-then-is_empty.ensures.value ∙ c.in_ok-digits.ensures)))

pub returns : goal.returns
returns c =
    let left : c.past_digits.result.now ≡ past_digits (chars c.args.name.now) = c.past_digits.ensures.value ∙ ap past_digits (c.deref.ensures.value ∙ c.in_ok-digits.ensures) in
    no_number_either (groups_of c.args.self.now) (chars c.args.name.now) c.no_name.result (λ e. some_left c.past_digits.result.now c.if-is_empty.ensures (left ∙ e)) c.no_name.ensures
