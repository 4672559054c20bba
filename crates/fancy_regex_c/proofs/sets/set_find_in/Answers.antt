use Rattle.std.proofs.Common.{◌≡◌, ◌∙◌, ℕ, refl, sym, ap}
use Rattle.fancy_regex.specs.SetMatches.{question_of, position_of, members_to_come}
use Rattle.fancy_regex.specs.Inputs.{haystack_in, request_in}
use Rattle.fancy_regex.specs.SetMembers.{set_position}
use Rattle.fancy_regex_c.specs.Asked.{asked_of_set}
use Rattle.fancy_regex_c.specs.Buffers.{done_if}
use Rattle.fancy_regex_c.specs.Handed.{handed_bytes}
use Rattle.fancy_regex_c.specs.SetFinding.{is_found, is_refused, at_position}
use Rattle.fancy_regex_c.proofs.MemberLemmas.{asks_as_asked, puts_the_same, length_put, same_refusal}
use Rattle.fancy_regex_c.proofs.sets.set_find_in.Goals as goal

pub returns-in-Ok-put_members : goal.returns-in-Ok-put_members
returns-in-Ok-put_members c =
    let input = c.in-Ok.ensures in
    let found = rw c.in-Ok-Some.field-0-is at c.in-Ok-Some.ensures.found in
    let m = c.in-Ok-Some.matches in
    let q = asked_of_set c.args.set.now c.args.haystack.now c.args.request in
    let s = question_of handed_bytes m in
    let asks : s ≡ q = asks_as_asked c.args.set.now c.args.haystack.now c.args.request m (haystack_in c.in-Ok.input) (request_in c.in-Ok.input) found.of_set found.of_haystack input.bytes found.of_request input.request in
    let put = c.in-Ok-put_members.ensures.put in
    let long = length_put s (position_of m) (members_to_come handed_bytes m) c.args.members.now c.put_members.new.members c.put_members.new.wanted put in
    is_found input.said input.place (position_of m) (ap set_position (sym asks) ∙ found.stands)
    (puts_the_same q s (position_of m) (members_to_come handed_bytes m) c.args.members.now c.put_members.new.members c.put_members.new.wanted asks found.items put)
    (c.done_if.ensures ∙ ap (λ (n : ℕ). done_if c.put_members.new.wanted n) long)

pub returns-in-Err-put_members : goal.returns-in-Err-put_members
returns-in-Err-put_members c =
    let input = c.in-Ok.ensures in
    let found = rw c.in-Ok-Some.field-0-is at c.in-Ok-Some.ensures.found in
    let m = c.in-Ok-Some.matches in
    let q = asked_of_set c.args.set.now c.args.haystack.now c.args.request in
    let s = question_of handed_bytes m in
    let asks : s ≡ q = asks_as_asked c.args.set.now c.args.haystack.now c.args.request m (haystack_in c.in-Ok.input) (request_in c.in-Ok.input) found.of_set found.of_haystack input.bytes found.of_request input.request in
    let e = c.in-Err-put_members.error in
    let refused = c.in-Err-put_members.ensures.refused in
    is_refused input.said input.place (
      e,
      c.answer_of-in-Err-put_members.ensures.value,
      at_position (position_of m) refused.0 (ap set_position (sym asks) ∙ found.stands)
          (same_refusal q s (position_of m) (position_of m) refused.0 e asks refl refused.1),
    )
