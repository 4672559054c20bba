use Rattle.std.proofs.Common.{◌≡◌, ℕ}
use Rattle.fancy_code.specs.Code.{instrs_of}
use Rattle.fancy_code.specs.Instructions.{Character}
use Rattle.fancy_code.specs.Run.{instr_at}
use Rattle.fancy_alphabet.specs.Alike.{AreSeen, AreStanding, Respects, is_character}
use Rattle.fancy_alphabet.proofs.AlikeLemmas.{MembersBelow}
use Rattle.fancy_alphabet.proofs.alike.standing.Given as goal

abbrev pub invariant-loop-at : goal.invariant-loop-at
invariant-loop-at l = record {
  standing : AreStanding l.stands.items;
  characters : (q c next : ℕ) → instr_at (instrs_of l.code) q ≡ Character c next → Respects l.stands.items (is_character c);
  members : MembersBelow (instrs_of l.code) l.at l.stands.items;
  seen : AreSeen l.code l.stands.items l.seen.items;
}
