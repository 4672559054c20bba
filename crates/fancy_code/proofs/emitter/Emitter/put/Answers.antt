use Rattle.std.proofs.Common.{rules, ◌≡◌, ℕ, List, [], ◌∷◌, ◌++◌, length, sym, subst, ap, arith}
use Rattle.std.specs.Prelude.{is_ok}
use Rattle.std.proofs.lemmas.List.{length-append, length-map}
use Rattle.fancy_code.specs.Emitted.{emitted, instr_by}
use Rattle.fancy_code.specs.Instructions.{Instruction, with_set}
use Rattle.fancy_code.specs.Compile.{Has, Keeps}
use Rattle.fancy_code.proofs.ClassifyLemmas.{easy_put}
use Rattle.fancy_code.proofs.InstructionLemmas.{known_pushed, with_sets-put}
use Rattle.fancy_code.proofs.CodeLemmas.{keeps_append, get_append_seam}
use Rattle.fancy_code.proofs.emitter.Emitter.put.Goals as goal

pub invariant_of-self : goal.invariant_of-self
invariant_of-self c = record { known = known_pushed (is_ok c.push.result) _ c.args.self.now.instrs.items _ c.args.instr c.push.ensures.items c.args.self.now.known c.requires.known }

pub returns-clause-puts : goal.returns-clause-puts
returns-clause-puts c =
    let own = c.args.self.now in
    let last = instr_by own c.args.instr in
    let now = with_sets-put own.sets.items own.instrs.items _ c.args.instr c.in_ok-push.ensures.items in
    let same : length (emitted own) ≡ c.len-at.result = omega (arith, c.len-at.ensures, own.instrs.ok.0, length-map own.instrs.items (with_set own.sets.items)) in
    record {
      at = search rules;
      length = omega (arith, ap length now, length-append (emitted own) (last ∷ []));
      kept = subst (λ (l : List Instruction). Keeps (emitted own) l) (sym now) (keeps_append (emitted own) (last ∷ []));
      stands = subst (λ (l : List Instruction). Has l c.len-at.result last) (sym now)
          (subst (λ (q : ℕ). Has (emitted own ++ last ∷ []) q last) same (get_append_seam (emitted own) [] last));
      easy = easy_put (emitted own) _ last now;
    }
