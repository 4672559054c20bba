use Rattle.std.proofs.Common.{◌∙◌, ◌<◌, ℕ, Bool, List, ap, arith, false, get_or, subst, sym, true≢false}
use Rattle.fancy_code.proofs.InstructionLemmas.{length-instrs_of}
use Rattle.fancy_code.specs.Code.{instrs_of}
use Rattle.fancy_alphabet.specs.Alike.{IsApart, is_character, is_member}
use Rattle.fancy_alphabet.proofs.AlikeLemmas.{apart_respects, members_all, members_more}
use Rattle.fancy_alphabet.proofs.alike.standing.Goals as goal

pub loop-at-init : goal.loop-at-init
loop-at-init c =
    let stands = c.in_ok-stands.stands.items in record {
      standing = c.in_ok-stands.ensures.standing;
      characters = λ q k next e. apart_respects c.in_ok-alone.alone.items stands k c.in_ok-stands.ensures.standing.ascii
          (subst (λ (marks : List Bool). (byte : ℕ) → byte < 128 → IsApart marks byte (get_or stands byte 0)) c.deref.ensures.value c.in_ok-stands.ensures.apart)
          (λ low. c.in_ok-alone.ensures.told q k next e low);
      members = λ q lt. absurd (omega (arith, lt));
      seen = λ n on. absurd (true≢false (sym on ∙ ap (λ (l : List Bool). get_or l n false) c.new-seen.ensures.items));
    }

pub loop-at-preserved : goal.loop-at-preserved
loop-at-preserved c =
    let stands = c.refine_by.new.stands.items in record {
      standing = c.in_ok-refine_by.ensures.standing;
      characters = λ q k next e. c.in_ok-refine_by.ensures.kept (is_character k) (c.loop-at.invariant.characters q k next e);
      members = members_more (instrs_of c.args.code.now) c.loop-at.at c.loop-at.stands.items stands c.loop-at.invariant.members c.in_ok-refine_by.ensures.kept
          (λ edges next e. c.in_ok-refine_by.ensures.told edges next (c.instr.ensures.instr ∙ e));
      seen = c.in_ok-refine_by.ensures.seen;
    }

pub returns-clause-characters : goal.returns-clause-characters
returns-clause-characters c q k next e = c.in_ok-later.ensures.kept (is_character k) (c.loop-at.invariant.characters q k next e)

pub returns-clause-members : goal.returns-clause-members
returns-clause-members c q next edges e =
    c.in_ok-later.ensures.kept (is_member edges)
    (members_all (instrs_of c.args.code.now) c.loop-at.at c.loop-at.stands.items (omega (arith, c.len-at-end.ensures, length-instrs_of c.args.code.now)) c.loop-at.invariant.members q next edges e)
