use Rattle.std.proofs.Common.{◌∙◌, ℕ, List, Bool, false, ap, get_or, subst, sym, inl, inr}
use Rattle.fancy_code.specs.Code.{set_edges}
use Rattle.fancy_alphabet.specs.Alike.{Keeps, Respects, is_marked, is_member}
use Rattle.fancy_alphabet.proofs.AlikeLemmas.{respects_same}
use Rattle.fancy_alphabet.proofs.alike.refine.Goals as goal

pub returns-clause-kept : goal.returns-clause-kept
returns-clause-kept c = subst (λ (xs : List ℕ). Keeps xs c.in_ok-stands.field-0.items) c.deref-3.ensures.value c.in_ok-stands.ensures.kept

pub returns-clause-seen : goal.returns-clause-seen
returns-clause-seen c n on =
    let code = c.args.code.now in
    let later = c.in_ok-stands.field-0.items in
    elim (c.note.ensures n on) [
      | inl same ↦ subst (λ (k : ℕ). Respects later (is_member (set_edges code k))) (sym same)
          (respects_same later (is_marked c.deref-2.result.now) (is_member (set_edges code c.args.number)) c.in_ok-stands.ensures.standing
          (λ byte lt. ap (λ (marks : List Bool). get_or marks byte false) c.deref-2.ensures.value ∙ c.in_ok-marks.ensures.told byte lt
          ∙ ap (λ (es : List ℕ). is_member es byte) c.set.ensures)
          c.in_ok-stands.ensures.told)
      | inr before ↦ subst (λ (xs : List ℕ). Keeps xs later) c.deref-3.ensures.value c.in_ok-stands.ensures.kept (is_member (set_edges code n)) (c.requires.seen n before)
    ]
