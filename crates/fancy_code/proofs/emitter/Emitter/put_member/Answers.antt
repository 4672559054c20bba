use Rattle.std.proofs.Common.{refl, ap, ◌∙◌}
use Rattle.std.specs.Prelude.{Some}
use Rattle.std.proofs.lemmas.Result.{IfOk-weaker}
use Rattle.fancy_code.specs.Instructions as i
use Rattle.fancy_code.proofs.CompileLemmas.{shared_emits, emits_after}
use Rattle.fancy_code.proofs.emitter.Emitter.put_member.Goals as goal

pub returns : goal.returns
returns c =
    IfOk-weaker c.put_shared.result _ _
    (λ entry puts. emits_after _ _ _ _ _ _ _ c.in_ok-number.ensures.instrs
    (shared_emits _ _ _ _ _ _ _ (λ is. refl) (λ later has still. (has ∙ ap (λ edges. Some (i.Member edges c.args.next.moved)) c.in_ok-number.ensures.edges, still)) puts))
    c.put_shared.ensures
