use Rattle.std.proofs.Common.{◌∙◌, ◌||◌, Bool, sym, ap}
use Rattle.fancy_bytes.specs.Sets.{member}
use Rattle.fancy_bytes.proofs.ItemLemmas.{first_items_one}
use Rattle.fancy_bytes.proofs.start.add_first_of_character.Goals as goal

pub returns-in-Unicode : goal.returns-in-Unicode
returns-in-Unicode c b lt =
    c.insert-in-Unicode.ensures b lt
    ∙ ap (λ (x : Bool). member c.args.set.now b || x)
    (sym (c.lead_byte.ensures b) ∙ sym (first_items_one c.args.meaning c.args.c b (λ e. let is = c.in-Unicode.is in cc) c.ranges.c.0))

pub returns-in-AsciiText : goal.returns-in-AsciiText
returns-in-AsciiText c b lt =
    c.insert-in-AsciiText.ensures b lt
    ∙ ap (λ (x : Bool). member c.args.set.now b || x)
    (sym (c.lead_byte-in-AsciiText.ensures b) ∙ sym (first_items_one c.args.meaning c.args.c b (λ e. let is = c.in-AsciiText.is in cc) c.ranges.c.0))
