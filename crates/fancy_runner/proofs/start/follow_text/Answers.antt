use Rattle.std.proofs.Common.{◌≡◌, ◌∙◌, length, sym, arith}
use Rattle.fancy_prefilter.proofs.StandsLemmas.{text_within}
use Rattle.fancy_runner.proofs.RunLemmas.{worked_none, ran_ok}
use Rattle.fancy_runner.proofs.BranchLemmas.{text_none, text_missed, text_found}
use Rattle.fancy_runner.proofs.start.follow_text.Goals as goal

pub returns-then-not-stands_at-clause-answer : goal.returns-then-not-stands_at-clause-answer
returns-then-not-stands_at-clause-answer c is kept deep known failed =
    text_none c.args.attempt.now c.args.text.now c.args.group c.args.start.at c.args.start.place kept deep is (c.stands_at.ensures.lacks c.if-not-stands_at.true)

pub returns-then-not-is_match_boundary-clause-answer : goal.returns-then-not-is_match_boundary-clause-answer
returns-then-not-is_match_boundary-clause-answer c is kept deep known failed =
    let size : c.len.result ≡ length c.args.text.now.bytes.items = omega (arith, c.len.ensures) in
    text_missed c.args.attempt.now c.args.text.now c.args.group c.args.start.at c.args.start.place kept deep is c.if-not-text.false known (c.stands_at.ensures.stands c.if-not-stands_at.false)
    (rw size at (sym c.is_match_boundary.ensures ∙ c.if-not-is_match_boundary.true))

pub returns-clause-answer : goal.returns-clause-answer
returns-clause-answer c is kept deep known failed =
    let size : c.len.result ≡ length c.args.text.now.bytes.items = omega (arith, c.len.ensures) in
    rw size
    (text_found c.args.attempt.now c.args.text.now c.args.group c.args.start.at c.args.start.place kept deep is c.if-not-text.false known (c.stands_at.ensures.stands c.if-not-stands_at.false)
    (rw size at (sym c.is_match_boundary.ensures ∙ c.if-not-is_match_boundary.false)) c.begin_with.new.self.slots c.in_ok-begin_with.ensures.slots)

pub returns-clause-attempted : goal.returns-clause-attempted
returns-clause-attempted c = record {
  ran = ran_ok (worked_none c.requires.ready.ready.last_lines) (omega arith);
  ends = (omega (arith, c.len.ensures), omega (arith, c.len.ensures, text_within c.args.attempt.now.haystack.now c.args.attempt.now.last c.args.text.now.bytes.items c.args.start.place c.requires.ready.high (c.stands_at.ensures.stands c.if-not-stands_at.false)));
}
