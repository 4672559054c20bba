use Rattle.std.proofs.Common.{refl}
use Rattle.fancy_states.proofs.TransitionLemmas.{told_noted, told_same}
use Rattle.fancy_states.proofs.transitions.Transitions.note.Goals as goal

pub returns-clause-told : goal.returns-clause-told
returns-clause-told c cells told is =
    told_noted cells c.args.self.now c.reserve.new.self _ c.args.row c.in-Some.column c.args.sight c.args.entry c.in-Some.ensures
    c.in_ok-reserve.ensures.classes c.in_ok-reserve.ensures.slots c.in_ok-reserve.ensures.same c.in_ok-reserve.ensures.room refl refl refl told is

pub returns-in_err-reserve-clause-told : goal.returns-in_err-reserve-clause-told
returns-in_err-reserve-clause-told c cells told is = told_same cells c.args.self.now c.reserve.new.self c.in_err-reserve.ensures.classes c.in_err-reserve.ensures.slots c.in_err-reserve.ensures.same told
