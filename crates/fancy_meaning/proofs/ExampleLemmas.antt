-- Small searches, computed.
use Rattle.std.proofs.Common.{◌≡◌, ℕ, zero, suc, ◌==◌, Bool, ◌||◌, false, true, codes, ◌∙◌, refl, ap, ap₂, arith}
use Rattle.std.proofs.lemmas.Bool.Decides.{nat_tests}
use Rattle.std.specs.Str.{chars}
use Rattle.std.specs.Char.{encode_utf8}
use Rattle.fancy_tree.specs.Sizes.{size}
use Rattle.fancy_tree.specs.Sets.{has}
use Rattle.unicode.specs.Rows.{in_ranges}
use Rattle.unicode.specs.Perl.{is_word_char}
use Rattle.unicode.proofs.PerlComputing.{ucd_perl}
use Rattle.unicode.proofs.CaseComputing.{ucd_case}
use Rattle.fancy_input.specs.Places.{char_at, char_before, has_bytes_at, prev_place}
use Rattle.fancy_meaning.specs.Context.{continues, unit_at, past_item, past_byte, units_back, holds, word_before, word_after}
use Rattle.fancy_meaning.specs.Backreference.{captured_text, past_text, past_letters, cut_after, past_pieces, past_characters, past_backreference}
use Rattle.fancy_meaning.specs.Trace.{trace, outcomes}
use Rattle.fancy_meaning.specs.Search.{returns, answer_at, answer_from, gone_through, gone_from}
use Rattle.fancy_meaning.specs.Tried.{tried}
use Rattle.fancy_meaning.specs.Examples.{WorkedExamples, example_query, a_or_b_before_c}
use Rattle.fancy_bytes.specs.Firsts.{first_bytes}
use Rattle.fancy_bytes.specs.Items.{is_in_each}
use Rattle.fancy_bytes.proofs.ItemLemmas.{first_items_one, lead_one}
use Rattle.fancy_tree.specs.declared.tree.Meaning.TheVariants.{Unicode}

-- `(?:a|b)(?=c)` begins with either letter
begins_with_letter : (byte : ℕ) → first_bytes Unicode a_or_b_before_c byte ≡ (((byte == 97) || (byte == 98)) || false)
begins_with_letter byte =
    ap₂ (λ (x y : Bool). (x || y) || false) (first_items_one Unicode 97 byte (λ e. cc) refl ∙ lead_one 97 byte (omega arith))
    (first_items_one Unicode 98 byte (λ e. cc) refl ∙ lead_one 98 byte (omega arith))

-- so on `xxbc` it may begin at the third position alone
sought_at_third : (p : ℕ) → tried true (example_query a_or_b_before_c 1 (codes "xxbc")) p ≡ (p == 2)
sought_at_third zero = begins_with_letter 120
sought_at_third (suc zero) = begins_with_letter 120
sought_at_third (suc (suc zero)) = begins_with_letter 98
sought_at_third (suc (suc (suc zero))) = begins_with_letter 99
sought_at_third (suc (suc (suc (suc p)))) = grind (arith, nat_tests)

pub examples : WorkedExamples
unfolding answer_from answer_at outcomes trace unit_at past_item past_byte captured_text past_text past_letters cut_after past_pieces past_characters past_backreference ucd_case units_back size has holds word_before word_after char_at char_before in_ranges ucd_perl is_word_char has_bytes_at prev_place chars encode_utf8 gone_through gone_from continues is_in_each
examples = record {
  first_branch = refl;
  goes_back = refl;
  lazy_optional = refl;
  optional_choice = refl;
  nothing = refl;
  empty_turn = refl;
  required_turn = refl;
  atomic_group = refl;
  possessive_count = refl;
  one_choice = refl;
  one_return = refl;
  returns_at_each = refl;
  returns_sought = ap (returns (example_query a_or_b_before_c 1 (codes "xxbc"))) (λ i. λ p. sought_at_third p i);
  no_return = refl;
  behind_a_character = refl;
  behind_two_items = refl;
  behind_one_item = refl;
  behind_neither = refl;
  denied_behind_two_items = refl;
  denied_behind_one_item = refl;
  allowed_behind_neither = refl;
  on_group_taken = refl;
  on_group_not_taken = refl;
  on_group = refl;
  on_condition = refl;
  on_no_condition = refl;
  condition_alone = refl;
  condition_or_nothing = refl;
  ahead_past_the_range = refl;
  ahead_of_too_little = refl;
  captured_ahead = refl;
  found_behind_ahead = refl;
  not_ahead = refl;
  not_again_ahead = refl;
  possessive_turns = refl;
  here_at_the_start = refl;
  here_in_a_range = refl;
  here_on = refl;
  here_off = refl;
  here_suppressed = refl;
  here_kept = refl;
  not_here = refl;
  not_here_at_the_start = refl;
  not_here_suppressed = refl;
  longest_branch = refl;
  not_empty_turns = refl;
  repeated_exactly = refl;
  repeated_folded = refl;
  repeated_wider = refl;
  repeated_bytes = refl;
  repeated_no_bytes = refl;
  repeated_nothing = refl;
  literal_in_any_case = refl;
  literal_as_a_set = λ x limit s. refl;
  required_of_literal = refl;
  not_required_of_literal = refl;
  required_of_set = λ byte. refl;
  kept_start = refl;
  not_behind = refl;
  word_boundary = refl;
  inside_a_word = refl;
  before_the_range = refl;
  after_the_range = refl;
  before_a_stray_byte = refl;
  after_a_stray_byte = refl;
  inside_a_character = refl;
  start_kept = refl;
  start_suppressed = refl;
  end_kept = refl;
  end_suppressed = refl;
  line_start_kept = refl;
  last_line_kept = refl;
}
