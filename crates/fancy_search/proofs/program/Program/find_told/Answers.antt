use Rattle.std.proofs.Common.{◌∙◌, ap, false, sym}
use Rattle.fancy_input.specs.declared.input.Request.{Request}
use Rattle.fancy_search.proofs.KeptTablesLemmas.{steps_held}
use Rattle.fancy_search.proofs.SearchedLemmas.{attempted}
use Rattle.fancy_search.proofs.program.Program.find_told.Goals as goal

pub recall-requires-clause-followable : goal.recall-requires-clause-followable
recall-requires-clause-followable c = record {
  inside = rw c.anchored_at-from_position.ensures c.args.asked.now.inside;
  easy = sym c.args.self.now.decided ∙ c.if-not-self.false;
  plain = c.can_follow.ensures.plain c.if-not-can_follow.false;
  places = c.can_follow.ensures.places c.if-not-can_follow.false c.args.asked.now.haystack.now c.args.asked.now.utf8;
}

pub recall-requires-clause-whole : goal.recall-requires-clause-whole
recall-requires-clause-whole c = c.args.self.now.alone c.if-not-self-2.false

pub recall-requires-clause-anchored : goal.recall-requires-clause-anchored
recall-requires-clause-anchored c = ap (λ (r : Request). r.anchored) c.anchored_at-from_position.ensures

pub recall-requires-clause-kept : goal.recall-requires-clause-kept
recall-requires-clause-kept c =
    steps_held c.args.self.now c.args.notes.now.steps c.in_ok-steps.steps.now c.in_ok-steps.ensures.held (c.requires.notes.1 c.in_ok-steps.ensures.kept)

pub returns-clause-answer : goal.returns-clause-answer
returns-clause-answer c =
    rw c.anchored_at-from_position.ensures at (c.in_ok-found.ensures false)
    ∙ attempted c.args.self.now c.args.asked.now c.args.position (sym c.args.self.now.decided ∙ c.if-not-self.false) c.requires.tries
