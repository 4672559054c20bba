use Rattle.std.proofs.Common.{arith}
use Rattle.fancy_automaton.proofs.FrontLemmas.{front_on, still_stands}
use Rattle.fancy_automaton.proofs.front.Front.pass.Goals as goal

pub hop-requires : goal.hop-requires
hop-requires c = record { stands = c.requires.stands }

pub advance-requires : goal.advance-requires
advance-requires c = record {
  stands = still_stands c.args.attempt.now c.args.cells.now c.hop.new.self c.args.place c.in_ok-hopped.hopped
      (omega (arith, c.in_ok-hopped.ensures.forth, c.if-hopped-place.false)) c.requires.stands.good c.requires.stands.within c.in_ok-hopped.ensures.front;
}

pub returns-clause-front : goal.returns-clause-front
returns-clause-front c =
    front_on c.args.attempt.now c.advance.new.cells c.advance.new.self _ c.in_ok-resume.resume c.in_ok-resume.ensures.step.ends c.in_ok-resume.ensures.step.front

pub returns-clause-forth : goal.returns-clause-forth
returns-clause-forth c = omega (arith, c.in_ok-resume.ensures.step.front.going.ahead)
