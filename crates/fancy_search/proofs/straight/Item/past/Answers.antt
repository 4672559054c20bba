use Rattle.std.proofs.Common.{◌∙◌, ◌==◌, ap, false, sym}
use Rattle.fancy_tree.specs.Sets.{has}
use Rattle.fancy_code.specs.Instructions.{edges_in}
use Rattle.fancy_meaning.specs.Context.{past_item}
use Rattle.fancy_meaning.specs.Reading.{search_context}
use Rattle.fancy_meaning.specs.declared.reading.SuppressedEnds.{SuppressedEnds}
use Rattle.fancy_search.specs.Straight.{test_of}
use Rattle.fancy_search.proofs.StraightLemmas.{some_beyond, same_item}
use Rattle.fancy_search.proofs.straight.Item.past.Goals as goal

abbrev any : SuppressedEnds
any = record { start = false; end = false }

pub returns-in-Character-clause-read : goal.returns-in-Character-clause-read
returns-in-Character-clause-read c x m h =
    let seen = search_context c.args.haystack.now c.args.meaning any 0 in
    c.past_character.ensures.past any 0 ∙ same_item seen x (λ d. d == c.in-Character.character) c.args.place (sym m) (sym h)
    ∙ sym (ap (λ i. past_item x (test_of i) c.args.place) c.in-Character.is)

pub returns-in-Character-clause-beyond : goal.returns-in-Character-clause-beyond
returns-in-Character-clause-beyond c =
    let seen = search_context c.args.haystack.now c.args.meaning any 0 in
    some_beyond seen (λ d. d == c.in-Character.character) c.args.place _ (c.past_character.ensures.past any 0)

pub returns-in-Member-clause-read : goal.returns-in-Member-clause-read
returns-in-Member-clause-read c x m h =
    let seen = search_context c.args.haystack.now c.args.meaning any 0 in
    c.past_member.ensures.past any 0 ∙ same_item seen x (has (edges_in c.in-Member.set.now)) c.args.place (sym m) (sym h)
    ∙ sym (ap (λ i. past_item x (test_of i) c.args.place) c.in-Member.is)

pub returns-in-Member-clause-beyond : goal.returns-in-Member-clause-beyond
returns-in-Member-clause-beyond c =
    let seen = search_context c.args.haystack.now c.args.meaning any 0 in
    some_beyond seen (has (edges_in c.in-Member.set.now)) c.args.place _ (c.past_member.ensures.past any 0)
