use Rattle.std.proofs.Common.{sym, true≢false}
use Rattle.std.proofs.lemmas.Result.{IfOk-weaker}
use Rattle.fancy_code.proofs.CompileLemmas.{both_emit}
use Rattle.fancy_code.proofs.emitter.Emitter.put_recall.Goals as goal

pub returns : goal.returns
returns c = IfOk-weaker c.put_both.result _ _ (λ entry. both_emit _ _ _ _ _ _ _ _ (λ is. absurd (true≢false (sym is))) (λ later has. has)) c.put_both.ensures
