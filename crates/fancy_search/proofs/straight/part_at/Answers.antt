use Rattle.std.proofs.Common.{ℕ, List, false, sym, ap, subst, ◌≡◌, ◌∙◌, ◌==◌}
use Rattle.fancy_tree.specs.Sets.{has}
use Rattle.fancy_code.specs.Code.{instr_in, set_edges}
use Rattle.fancy_meaning.specs.Context.{Context, past_item}
use Rattle.fancy_meaning.specs.Reading.{search_context}
use Rattle.fancy_code.specs.declared.code.Code.{Code}
use Rattle.fancy_meaning.specs.declared.reading.SuppressedEnds.{SuppressedEnds}
use Rattle.fancy_search.specs.Straight.{after_part, past_part}
use Rattle.fancy_search.proofs.StraightLemmas.{same_item, same_byte}
use Rattle.fancy_search.proofs.straight.part_at.Goals as goal

abbrev any : SuppressedEnds
any = record { start = false; end = false }

abbrev read_in : List ℕ → Code → Context
read_in haystack code = search_context haystack code.meaning any 0

pub returns-in-Character-clause-next : goal.returns-in-Character-clause-next
returns-in-Character-clause-next c = sym (ap after_part (sym c.instr.ensures.instr ∙ ap (instr_in c.args.code.now) c.in-Character.is))

pub returns-in-Character-clause-past : goal.returns-in-Character-clause-past
returns-in-Character-clause-past c x r =
    c.past_character.ensures.past any 0 ∙ same_item (read_in c.args.haystack.now c.args.code.now) x (λ d. d == c.in-Character.character) c.args.place (sym r.meaning_is) (sym r.haystack_is)
    ∙ sym (ap (λ i. past_part x i c.args.place) (sym c.instr.ensures.instr ∙ ap (instr_in c.args.code.now) c.in-Character.is))

pub returns-in-Member-clause-next : goal.returns-in-Member-clause-next
returns-in-Member-clause-next c = sym (ap after_part (sym c.instr.ensures.instr ∙ ap (instr_in c.args.code.now) c.in-Member.is))

pub returns-in-Member-clause-past : goal.returns-in-Member-clause-past
returns-in-Member-clause-past c x r =
    let read = subst (λ (e : List ℕ). c.past_member.result ≡ past_item (read_in c.args.haystack.now c.args.code.now) (has e) c.args.place) c.set.ensures (c.past_member.ensures.past any 0) in
    read ∙ same_item (read_in c.args.haystack.now c.args.code.now) x (has (set_edges c.args.code.now c.in-Member.set)) c.args.place (sym r.meaning_is) (sym r.haystack_is)
    ∙ sym (ap (λ i. past_part x i c.args.place) (sym c.instr.ensures.instr ∙ ap (instr_in c.args.code.now) c.in-Member.is))

pub returns-in-RawByte-clause-next : goal.returns-in-RawByte-clause-next
returns-in-RawByte-clause-next c = sym (ap after_part (sym c.instr.ensures.instr ∙ ap (instr_in c.args.code.now) c.in-RawByte.is))

pub returns-in-RawByte-clause-past : goal.returns-in-RawByte-clause-past
returns-in-RawByte-clause-past c x r =
    c.past_raw_byte.ensures.past c.args.code.now.meaning any 0 ∙ same_byte (read_in c.args.haystack.now c.args.code.now) x c.in-RawByte.byte c.args.place (sym r.haystack_is)
    ∙ sym (ap (λ i. past_part x i c.args.place) (sym c.instr.ensures.instr ∙ ap (instr_in c.args.code.now) c.in-RawByte.is))

pub returns-in-Assert-clause-next : goal.returns-in-Assert-clause-next
returns-in-Assert-clause-next c = sym (ap after_part (sym c.instr.ensures.instr ∙ ap (instr_in c.args.code.now) c.in-Assert.is))

pub returns-in-Assert-clause-past : goal.returns-in-Assert-clause-past
returns-in-Assert-clause-past c x r =
    c.past_test.ensures x r
    ∙ sym (ap (λ i. past_part x i c.args.place) (sym c.instr.ensures.instr ∙ ap (instr_in c.args.code.now) c.in-Assert.is))
