use Rattle.std.proofs.Common.{[]}
use Rattle.std.proofs.lemmas.Result.{err_from_is_err_and}
use Rattle.fancy_core.proofs.BuiltLemmas.{out_of_memory}
use Rattle.fancy_regex.proofs.SetListLemmas.{zip_push, text_at, texts_more, readings_have_options}
use Rattle.fancy_regex.proofs.set.RegexSet.new_with_options.Goals as goal

pub returns-in_err-text-clause-refused : goal.returns-in_err-text-clause-refused
returns-in_err-text-clause-refused c =
    let q = err_from_is_err_and c.from_residual.result c.from_residual.ensures.1 in
    rw (q.1, q.2) (record {
      index = c.loop-pattern.pattern-index;
      text = _;
      is = text_at c.args.patterns.now c.loop-pattern.pattern-index (record { ref_ptr = (0, 0); now = [] }) c.loop-pattern-test.true;
      members = c.loop-pattern.members.items;
      read = c.loop-pattern.invariant;
      refused = out_of_memory _ _;
    })

pub returns-in_err-member-clause-refused : goal.returns-in_err-member-clause-refused
returns-in_err-member-clause-refused c =
    let q = err_from_is_err_and c.from_residual-in_err-member.result c.from_residual-in_err-member.ensures.1 in
    rw (q.1, q.2) (record {
      index = c.loop-pattern.pattern-index;
      text = _;
      is = text_at c.args.patterns.now c.loop-pattern.pattern-index _ c.loop-pattern-test.true;
      members = c.loop-pattern.members.items;
      read = c.loop-pattern.invariant;
      refused = rw c.in_ok-text.ensures.ok at c.in_err-member.ensures;
    })

pub returns-in_err-push-clause-refused : goal.returns-in_err-push-clause-refused
returns-in_err-push-clause-refused c =
    let q = err_from_is_err_and c.from_residual-in_err-push.result c.from_residual-in_err-push.ensures.1 in
    rw (q.1, q.2) (record {
      index = c.loop-pattern.pattern-index;
      text = _;
      is = text_at c.args.patterns.now c.loop-pattern.pattern-index (record { ref_ptr = (0, 0); now = [] }) c.loop-pattern-test.true;
      members = c.loop-pattern.members.items;
      read = c.loop-pattern.invariant;
      refused = out_of_memory _ _;
    })

pub loop-pattern-preserved : goal.loop-pattern-preserved
loop-pattern-preserved c =
    rw (texts_more c.args.patterns.now c.loop-pattern.pattern-index (record { ref_ptr = (0, 0); now = [] }) c.loop-pattern-test.true, c.in_ok-push.ensures.items)
    (zip_push _ _ _ _ _ c.loop-pattern.invariant (rw c.in_ok-text.ensures.ok at c.in_ok-member.ensures))

pub returns-clause-options : goal.returns-clause-options
returns-clause-options c = rw c.from_regexes.ensures (readings_have_options _ _ _ c.loop-pattern.invariant)
