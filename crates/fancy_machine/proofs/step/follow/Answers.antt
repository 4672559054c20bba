use Rattle.std.proofs.Common.{◌≡◌, ℕ, List, ◌∷◌, [], Result, Some, Ok, Err, sym, refl, ap, ◌∙◌, subst}
use Rattle.std.proofs.lemmas.Result.{IfOk-weaker}
use Rattle.fancy_tree.specs.Sets.{has}
use Rattle.fancy_input.specs.declared.refusal.SearchRefusal.{SearchRefusal}
use Rattle.fancy_input.specs.declared.refusal.SearchRefusal.TheVariants.{Memory, Returns, Choices, Steps}
use Rattle.fancy_code.specs.declared.code.Code.{Code}
use Rattle.fancy_code.specs.declared.code.Instr.{Instr}
use Rattle.fancy_code.specs.declared.step.Next.{Next}
use Rattle.fancy_code.specs.Code.{instrs_of, instr_in, set_edges}
use Rattle.fancy_meaning.specs.Context.{past_item}
use Rattle.fancy_code.specs.Run.{Raw, Stop, instr_at}
use Rattle.fancy_code.proofs.InstructionLemmas.{length-instrs_of}
use Rattle.fancy_code.proofs.RunMore.{past_end}
use Rattle.fancy_machine.specs.declared.attempt.Attempt.{Attempt}
use Rattle.fancy_machine.specs.Attempt.{attempt_context, code_in, StepsTo}
use Rattle.fancy_trail.specs.Frames.{Held}
use Rattle.fancy_trail.specs.Left.{IsStep}
use Rattle.fancy_machine.specs.Parts.{Follows, FollowsIfOk, FollowsInMemory, FollowsNext}
use Rattle.fancy_machine.proofs.MachineSteps.{stopped, failed, read_by}
use Rattle.fancy_machine.proofs.RefusalLemmas.{refused_alone}
use Rattle.fancy_code.specs.Instructions as i
use Rattle.fancy_machine.proofs.step.follow.Goals as goal

-- the instruction that is followed is j
follows : (code : Code) {at n : ℕ} {here j : Instr} → n ≡ at → instr_in code here ≡ instr_at (instrs_of code) n → here ≡ j → instr_at (instrs_of code) at ≡ instr_in code j
follows code same is e = ap (instr_at (instrs_of code)) (sym same) ∙ sym is ∙ ap (instr_in code) e

-- what is not refused
steps : {a : Attempt} {next : Next} {old new : Held} → StepsTo a next old new → new.most ≡ old.most → FollowsNext a (Ok next) old new
steps stepped most = record { stepped = stepped; refused = λ e. cc; crowded = λ e. absurd (cc); most = most }

-- no step is counted
never : {a : Attempt} {j : Instr} {old new : Held} (r : Result Next SearchRefusal) → FollowsInMemory a j r old new → r ≡ Err Steps → ⊥
never r f is = let no : Memory ≡ Steps = refused_alone r Memory Steps f.refused is in cc

-- the instruction that comes next is j
one : {a : Attempt} {j : Instr} {next : Next} {old new : Held} → instr_at (instrs_of a.code.now) old.now.at ≡ instr_in a.code.now j → Follows a j next old new → FollowsNext a (Ok next) old new
one e f = steps (f.stepped e) f.most

branching : {a : Attempt} {j : Instr} {r : Result Next SearchRefusal} {old new : Held} → instr_at (instrs_of a.code.now) old.now.at ≡ instr_in a.code.now j → FollowsIfOk a j r old new → FollowsNext a r old new
branching {r = r} e f = record { stepped = IfOk-weaker r _ _ (λ next does. does e) f.stepped; refused = f.refused; crowded = λ is. f.crowded is e; most = f.most }

remembering : {a : Attempt} {j : Instr} {r : Result Next SearchRefusal} {old new : Held} → instr_at (instrs_of a.code.now) old.now.at ≡ instr_in a.code.now j → FollowsInMemory a j r old new → FollowsNext a r old new
remembering {r = r} e f = record {
  stepped = IfOk-weaker r _ _ (λ next does. does e) f.stepped;
  refused = λ is. let no : Memory ≡ Returns = refused_alone r Memory Returns f.refused is in cc;
  crowded = λ is. let no : Memory ≡ Choices = refused_alone r Memory Choices f.refused is in absurd (cc);
  most = f.most;
}

pub returns-then-at-len-clause-followed : goal.returns-then-at-len-clause-followed
returns-then-at-len-clause-followed c =
    steps (λ deep w known. failed (attempt_context c.args.attempt.now) (instrs_of c.args.attempt.now.code.now) deep c.args.trail.now.now c.args.trail.now.frames w known c.args.trail.now.now (past_end (instrs_of c.args.attempt.now.code.now) c.args.trail.now.now.at (rw (c.at-at.ensures, c.len.ensures ∙ sym (length-instrs_of c.args.attempt.now.code.now)) at c.if-at-len.true))) refl

pub returns-in-Match-clause-followed : goal.returns-in-Match-clause-followed
returns-in-Match-clause-followed c = steps stepped c.stop.ensures.most where
  stepped : StepsTo c.args.attempt.now c.stop.result c.args.trail.now c.stop.new.self
  stepped deep w known =
      let s = stopped (attempt_context c.args.attempt.now) (instrs_of c.args.attempt.now.code.now) deep c.args.trail.now.now c.args.trail.now.frames w known i.Match c.at-at.result (follows c.args.attempt.now.code.now c.at-at.ensures c.instr.ensures.instr c.in-Match.is) (ap (λ (q : ℕ). Some (Stop q c.args.trail.now.now.state c.args.trail.now.now.starts ∷ [])) (sym c.at-at.ensures)) in
      subst (λ (l : List Raw). IsStep (code_in c.args.attempt.now deep) c.stop.result l c.args.trail.now.now c.args.trail.now.frames c.stop.new.self.now c.stop.new.self.frames) (sym s.2) (c.stop.ensures.stopped (code_in c.args.attempt.now deep) s.0 s.1)

pub returns-in-Commit-clause-followed : goal.returns-in-Commit-clause-followed
returns-in-Commit-clause-followed c = steps stepped c.stop-in-Commit.ensures.most where
  stepped : StepsTo c.args.attempt.now c.stop-in-Commit.result c.args.trail.now c.stop-in-Commit.new.self
  stepped deep w known =
      let s = stopped (attempt_context c.args.attempt.now) (instrs_of c.args.attempt.now.code.now) deep c.args.trail.now.now c.args.trail.now.frames w known (i.Commit c.in-Commit.next) c.in-Commit.next (follows c.args.attempt.now.code.now c.at-at.ensures c.instr.ensures.instr c.in-Commit.is) refl in
      subst (λ (l : List Raw). IsStep (code_in c.args.attempt.now deep) c.stop-in-Commit.result l c.args.trail.now.now c.args.trail.now.frames c.stop-in-Commit.new.self.now c.stop-in-Commit.new.self.frames) (sym s.2) (c.stop-in-Commit.ensures.stopped (code_in c.args.attempt.now deep) s.0 s.1)

pub returns-in-Fail-clause-followed : goal.returns-in-Fail-clause-followed
returns-in-Fail-clause-followed c =
    steps (λ deep w known. failed (attempt_context c.args.attempt.now) (instrs_of c.args.attempt.now.code.now) deep c.args.trail.now.now c.args.trail.now.frames w known c.args.trail.now.now (follows c.args.attempt.now.code.now c.at-at.ensures c.instr.ensures.instr c.in-Fail.is)) refl

pub returns-in-Member-clause-followed : goal.returns-in-Member-clause-followed
returns-in-Member-clause-followed c =
    steps (λ deep w known. read_by (attempt_context c.args.attempt.now) (instrs_of c.args.attempt.now.code.now) deep c.args.trail.now.now c.args.trail.now.frames w known c.read_member.result (i.Member (set_edges c.args.attempt.now.code.now c.in-Member.set) c.in-Member.next) c.in-Member.next _ _ c.read_member.new.trail.now c.read_member.new.trail.frames
    (follows c.args.attempt.now.code.now c.at-at.ensures c.instr.ensures.instr c.in-Member.is) refl (ap (λ (es : List ℕ). past_item (attempt_context c.args.attempt.now) (has es) c.args.trail.now.now.state.place) c.set.ensures)
    c.read_member.ensures.way c.read_member.ensures.frames) c.read_member.ensures.most

pub returns-in-Character-clause-followed : goal.returns-in-Character-clause-followed
returns-in-Character-clause-followed c =
    one (follows c.args.attempt.now.code.now c.at-at.ensures c.instr.ensures.instr c.in-Character.is) c.read_character.ensures

pub returns-in-RawByte-clause-followed : goal.returns-in-RawByte-clause-followed
returns-in-RawByte-clause-followed c =
    one (follows c.args.attempt.now.code.now c.at-at.ensures c.instr.ensures.instr c.in-RawByte.is) c.read_raw_byte.ensures

pub returns-in_ok-count_units-in-Back-clause-followed : goal.returns-in_ok-count_units-in-Back-clause-followed
returns-in_ok-count_units-in-Back-clause-followed c =
    one (follows c.args.attempt.now.code.now c.at-at.ensures c.instr.ensures.instr c.in-Back.is) c.go_back.ensures

pub returns-in_ok-count_units-in-Recall-clause-followed : goal.returns-in_ok-count_units-in-Recall-clause-followed
returns-in_ok-count_units-in-Recall-clause-followed c =
    one (follows c.args.attempt.now.code.now c.at-at.ensures c.instr.ensures.instr c.in-Recall.is) c.recall.ensures

pub returns-in-Continue-clause-followed : goal.returns-in-Continue-clause-followed
returns-in-Continue-clause-followed c =
    one (follows c.args.attempt.now.code.now c.at-at.ensures c.instr.ensures.instr c.in-Continue.is) c.test_continued.ensures

pub returns-in-Taken-clause-followed : goal.returns-in-Taken-clause-followed
returns-in-Taken-clause-followed c =
    one (follows c.args.attempt.now.code.now c.at-at.ensures c.instr.ensures.instr c.in-Taken.is) c.test_taken.ensures

pub returns-in-Assert-clause-followed : goal.returns-in-Assert-clause-followed
returns-in-Assert-clause-followed c =
    one (follows c.args.attempt.now.code.now c.at-at.ensures c.instr.ensures.instr c.in-Assert.is) c.assert_at.ensures.followed

pub returns-in-Keep-clause-followed : goal.returns-in-Keep-clause-followed
returns-in-Keep-clause-followed c =
    one (follows c.args.attempt.now.code.now c.at-at.ensures c.instr.ensures.instr c.in-Keep.is) (c.keep.ensures c.args.attempt.now)

pub returns-in-Open-clause-followed : goal.returns-in-Open-clause-followed
returns-in-Open-clause-followed c =
    remembering (follows c.args.attempt.now.code.now c.at-at.ensures c.instr.ensures.instr c.in-Open.is) (c.begin_group.ensures c.args.attempt.now)

pub returns-in-Close-clause-followed : goal.returns-in-Close-clause-followed
returns-in-Close-clause-followed c =
    remembering (follows c.args.attempt.now.code.now c.at-at.ensures c.instr.ensures.instr c.in-Close.is) (c.end_group.ensures c.args.attempt.now)

pub returns-in-Enter-clause-followed : goal.returns-in-Enter-clause-followed
returns-in-Enter-clause-followed c =
    remembering (follows c.args.attempt.now.code.now c.at-at.ensures c.instr.ensures.instr c.in-Enter.is) (c.begin_atom.ensures c.args.attempt.now)

pub returns-in-Look-clause-followed : goal.returns-in-Look-clause-followed
returns-in-Look-clause-followed c =
    remembering (follows c.args.attempt.now.code.now c.at-at.ensures c.instr.ensures.instr c.in-Look.is) c.begin_look.ensures

pub returns-in-Split-clause-followed : goal.returns-in-Split-clause-followed
returns-in-Split-clause-followed c =
    branching (follows c.args.attempt.now.code.now c.at-at.ensures c.instr.ensures.instr c.in-Split.is) (c.split.ensures c.args.attempt.now)

pub returns-in-Test-clause-followed : goal.returns-in-Test-clause-followed
returns-in-Test-clause-followed c =
    branching (follows c.args.attempt.now.code.now c.at-at.ensures c.instr.ensures.instr c.in-Test.is) (c.begin_condition.ensures c.args.attempt.now)

pub returns-in-Deny-clause-followed : goal.returns-in-Deny-clause-followed
returns-in-Deny-clause-followed c =
    branching (follows c.args.attempt.now.code.now c.at-at.ensures c.instr.ensures.instr c.in-Deny.is) c.begin_denial.ensures

pub returns-in-Open-clause-heeds : goal.returns-in-Open-clause-heeds
returns-in-Open-clause-heeds c = record { within = λ is. is; limited = λ e. absurd (never c.begin_group.result (c.begin_group.ensures c.args.attempt.now) e) }

pub returns-in-Close-clause-heeds : goal.returns-in-Close-clause-heeds
returns-in-Close-clause-heeds c = record { within = λ is. is; limited = λ e. absurd (never c.end_group.result (c.end_group.ensures c.args.attempt.now) e) }

pub returns-in-Enter-clause-heeds : goal.returns-in-Enter-clause-heeds
returns-in-Enter-clause-heeds c = record { within = λ is. is; limited = λ e. absurd (never c.begin_atom.result (c.begin_atom.ensures c.args.attempt.now) e) }

pub returns-in-Split-clause-heeds : goal.returns-in-Split-clause-heeds
returns-in-Split-clause-heeds c = record { within = λ is. is; limited = λ e. absurd ((c.split.ensures c.args.attempt.now).unlimited e) }

pub returns-in-Test-clause-heeds : goal.returns-in-Test-clause-heeds
returns-in-Test-clause-heeds c = record { within = λ is. is; limited = λ e. absurd ((c.begin_condition.ensures c.args.attempt.now).unlimited e) }
