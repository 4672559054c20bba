use Rattle.std.proofs.Common.{◌∙◌, refl, sym}
use Rattle.fancy_meaning.specs.Reading.{search_context}
use Rattle.fancy_search.proofs.StraightLemmas.{same_test}
use Rattle.fancy_search.proofs.straight.past_test.Goals as goal

pub returns-then-holds_at : goal.returns-then-holds_at
returns-then-holds_at c x r =
    let seen = search_context c.args.haystack.now c.args.meaning c.args.suppressed 0 in
    let holds = same_test x seen c.args.assertion c.args.place r.meaning_is r.haystack_is r.start r.end ∙ sym (c.if-holds_at.ensures.held 0) in
    rw holds refl

pub returns-else-holds_at : goal.returns-else-holds_at
returns-else-holds_at c x r =
    let seen = search_context c.args.haystack.now c.args.meaning c.args.suppressed 0 in
    let fails = same_test x seen c.args.assertion c.args.place r.meaning_is r.haystack_is r.start r.end ∙ sym (c.if-holds_at.ensures.held 0) in
    rw fails refl
