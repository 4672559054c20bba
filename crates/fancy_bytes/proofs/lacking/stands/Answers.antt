use Rattle.std.proofs.Common.{ℕ, List, Bool, take, ap, sym, ◌∙◌, ◌||◌}
use Rattle.std.proofs.lemmas.List.{take_rest}
use Rattle.fancy_bytes.specs.Items.{includes}
use Rattle.fancy_bytes.proofs.LackLemmas.{includes-parts}
use Rattle.fancy_bytes.proofs.lacking.stands.Goals as goal

pub returns-then-has_byte : goal.returns-then-has_byte
returns-then-has_byte c =
    let here = c.has_byte-2.ensures ∙ ap (λ (h : List ℕ). includes h c.args.byte) (take_rest c.args.haystack.now c.args.from) in
    c.if-has_byte.true
    ∙ sym (ap (λ (b : Bool). b || includes (take c.args.from c.args.haystack.now) c.args.byte) (sym here ∙ c.if-has_byte.true))
    ∙ includes-parts c.args.haystack.now c.args.from c.args.byte

pub returns-else-has_byte : goal.returns-else-has_byte
returns-else-has_byte c =
    let here = c.has_byte-2.ensures ∙ ap (λ (h : List ℕ). includes h c.args.byte) (take_rest c.args.haystack.now c.args.from) in
    c.has_byte-else-has_byte.ensures
    ∙ sym (ap (λ (b : Bool). b || includes (take c.args.from c.args.haystack.now) c.args.byte) (sym here ∙ c.if-has_byte.false))
    ∙ includes-parts c.args.haystack.now c.args.from c.args.byte
