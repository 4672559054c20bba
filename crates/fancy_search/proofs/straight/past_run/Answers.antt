use Rattle.std.proofs.Common.{◌∙◌, ap, sym}
use Rattle.fancy_code.specs.Code.{instr_in}
use Rattle.fancy_search.specs.Straight.{past_turns}
use Rattle.fancy_search.proofs.straight.past_run.Goals as goal

pub returns-in-Character-clause-read : goal.returns-in-Character-clause-read
returns-in-Character-clause-read c x m h =
    c.past_items.ensures.read x m h
    ∙ sym (ap (λ i. past_turns x c.args.places.end i c.args.places.start) (sym c.instr.ensures.instr ∙ ap (instr_in c.args.code.now) c.in-Character.is))
