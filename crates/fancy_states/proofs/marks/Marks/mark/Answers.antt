use Rattle.std.proofs.Common.{◌<◌, ◌∙◌, ap, arith, length, set, sym, true}
use Rattle.fancy_states.specs.Marks.{marks_of}
use Rattle.fancy_states.proofs.TurnLemmas.{length-marks, marked_at, marks_made, marks-set}
use Rattle.fancy_states.proofs.marks.Marks.mark.Goals as goal

pub returns-then-index-self-clause-after : goal.returns-then-index-self-clause-after
returns-then-index-self-clause-after c =
    let turn = c.self.inside.turn in
    let stamps = c.self.inside.stamps.items in
    let lt : c.args.n < length stamps = omega (arith, c.requires, ap length c.self.view_is, length-marks turn stamps) in
    sym (ap (λ ms. set ms c.args.n true) (sym c.self.view_is)
    ∙ marks_made (marks_of turn stamps) c.args.n (omega (arith, lt, length-marks turn stamps)) (marked_at turn c.args.n stamps c.index.result.now lt (sym c.index.ensures ∙ c.if-index-self.true))
    ∙ c.self.view_is)

pub returns-clause-after : goal.returns-clause-after
returns-clause-after c =
    let turn = c.self.inside.turn in
    let stamps = c.self.inside.stamps.items in
    let lt : c.args.n < length stamps = omega (arith, c.requires, ap length c.self.view_is, length-marks turn stamps) in
    marks-set turn c.args.n stamps lt ∙ ap (λ ms. set ms c.args.n true) c.self.view_is
