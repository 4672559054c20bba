use Rattle.std.proofs.Common.{arith, refl}
use Rattle.fancy_automaton.specs.Front.{ways_of}
use Rattle.fancy_automaton.proofs.FrontLemmas.{front_waits}
use Rattle.fancy_automaton.proofs.SoleLemmas.{front_waits_at, waits_front}
use Rattle.fancy_automaton.proofs.front.Front.run.Goals as goal

pub is_told-requires : goal.is_told-requires
is_told-requires c =
    let here = front_waits c.args.attempt.now c.args.cells.now c.args.self.now c.args.place c.requires.front (c.has_waiting.ensures.some c.if-not-has_waiting.false) in
    record { front = c.requires.front; good = here.0; within = here.1 }

pub run-requires : goal.run-requires
run-requires c =
    let a = c.args.attempt.now in
    let cells = c.args.cells.now in
    let f = c.args.self.now in
    let here = front_waits a cells f c.args.place c.requires.front (c.has_waiting.ensures.some c.if-not-has_waiting.false) in
    record {
      waits = (
        ways_of cells f,
        front_waits_at a cells f c.stand-from.result c.args.place (record { front = c.requires.front; good = here.0; within = here.1 })
            c.stand-from.ensures.place c.stand-from.ensures.next c.stand-from.ensures.begun c.stand-from.ensures.opened,
      );
    }

pub returns : goal.returns
returns c = record {
  front = waits_front c.args.attempt.now c.args.cells.now _ c.in_ok-to.to refl refl c.in_ok-to.ensures.waits;
  forth = omega (arith, c.in_ok-to.ensures.forth, c.stand-from.ensures.place);
  ends = c.in_ok-to.ensures.waits.1.within;
}
