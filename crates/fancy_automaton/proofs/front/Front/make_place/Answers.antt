use Rattle.std.proofs.Common.{refl, subst, sym}
use Rattle.fancy_code.specs.declared.code.Code.{Code}
use Rattle.fancy_states.specs.Cells.{HasRows}
use Rattle.fancy_automaton.specs.Front.{ways_of}
use Rattle.fancy_automaton.proofs.FrontLemmas.{front_restarted}
use Rattle.fancy_automaton.proofs.front.Front.make_place.Goals as goal

pub returns-clause-front : goal.returns-clause-front
returns-clause-front c a place resume same is =
    let f = c.args.self.now in
    front_restarted a c.args.cells.now c.restart.new.cells f _ place resume
    (record { bounded = c.restart.ensures.within; all = c.restart.ensures.stays a.code.now is.all })
    (subst (λ (code : Code). HasRows c.restart.new.cells.rows.lists.items c.in_ok-target.target.next c.in_ok-target.target.begun (ways_of c.args.cells.now f) code.start) (sym same) c.in_ok-target.ensures.rows)
    refl refl is

pub returns-in_err-target-clause-kept : goal.returns-in_err-target-clause-kept
returns-in_err-target-clause-kept c = record { bounded = c.restart.ensures.within; all = c.restart.ensures.stays c.args.code.now c.requires.kept.all }

pub returns-clause-kept : goal.returns-clause-kept
returns-clause-kept c = record { bounded = c.restart.ensures.within; all = c.restart.ensures.stays c.args.code.now c.requires.kept.all }
