use Rattle.std.proofs.Common.{ℕ, Option, ap, subst, ◌∙◌}
use Rattle.fancy_tree.specs.Sets.{has}
use Rattle.fancy_code.specs.Instructions.{edges_in}
use Rattle.fancy_meaning.specs.Context.{past_item}
use Rattle.fancy_machine.specs.Attempt.{attempt_context}
use Rattle.fancy_machine.specs.Machine.{MovedTo}
use Rattle.fancy_machine.proofs.ContinuesLemmas.{item_seen, suppressed_of}
use Rattle.fancy_machine.proofs.read.read_member.Goals as goal

pub returns : goal.returns
returns c =
    record {
      frames = c.advance.ensures.frames;
      most = c.advance.ensures.most;
      way = subst (λ (o : Option ℕ). MovedTo c.advance.result c.args.next o c.args.trail.now.now c.advance.new.trail.now)
          (c.past_member-past.ensures.past (suppressed_of (attempt_context c.args.attempt.now)) 0
          ∙ item_seen c.args.attempt.now.haystack.now c.args.attempt.now.code.now.meaning (attempt_context c.args.attempt.now) (suppressed_of (attempt_context c.args.attempt.now)) 0 c.place.result (has (edges_in c.args.set.now))
          ∙ ap (past_item (attempt_context c.args.attempt.now) (has (edges_in c.args.set.now))) c.place.ensures)
          c.advance.ensures.way;
    }
