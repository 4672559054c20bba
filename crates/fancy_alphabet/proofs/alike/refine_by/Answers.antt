use Rattle.std.proofs.Common.{◌∙◌, ℕ, List, ap, subst, sym}
use Rattle.fancy_code.specs.Code.{instr_in, set_edges}
use Rattle.fancy_alphabet.specs.Alike.{Respects, is_member}
use Rattle.fancy_alphabet.proofs.AlikeLemmas.{member_edges}
use Rattle.fancy_alphabet.proofs.alike.refine_by.Goals as goal

pub returns-in_ok-refine-in-Member-clause-told : goal.returns-in_ok-refine-in-Member-clause-told
returns-in_ok-refine-in-Member-clause-told c edges next e =
    subst (λ (es : List ℕ). Respects c.refine.new.stands.items (is_member es))
    (member_edges (set_edges c.args.code.now c.in-Member.number) edges c.in-Member.field-1 next (sym (ap (instr_in c.args.code.now) c.in-Member.is) ∙ e)) c.in_ok-refine-in-Member.ensures.told
