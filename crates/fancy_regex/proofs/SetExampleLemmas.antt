-- A small set and its tokens, computed.
use Rattle.std.proofs.Common.{ℕ, List, [], ◌∷◌, Option, Some, None, ◌≡◌, ◌∙◌, refl, ap}
use Rattle.std.specs.Prelude.{codes, true}
use Rattle.std.specs.Str.{chars}
use Rattle.std.specs.Char.{encode_utf8}
use Rattle.fancy_tree.specs.Pattern.{Pattern, followed}
use Rattle.fancy_input.specs.declared.input.Request.{Request}
use Rattle.fancy_input.specs.Places.{char_at, char_before, has_bytes_at, prev_place}
use Rattle.fancy_input.specs.Requests.{whole}
use Rattle.fancy_meaning.specs.Context.{State, continues, unit_at, past_item}
use Rattle.fancy_meaning.specs.Trace.{trace, outcomes}
use Rattle.fancy_meaning.specs.Search.{Sought, Query, answer_at}
use Rattle.fancy_meaning.specs.Examples.{example_query, a, b, a_or_ab}
use Rattle.fancy_core.specs.declared.regex.Regex.{Regex}
use Rattle.fancy_core.specs.Regexes.{query}
use Rattle.fancy_regex.specs.Tokens.{token_at, tokens_from}
use Rattle.fancy_regex.specs.SetExamples.{SearchesFor, WorkedSet, WorkedTie, WorkedSets}

-- the same in a request
abbrev asked_in : Pattern → List ℕ → Request → Query
asked_in p t w = record (example_query p 1 t) { request = w }

-- anchored at a place
abbrev at_place : List ℕ → ℕ → Request
at_place t i = record (whole t) { start = i; anchored = true }

answers : (p : Pattern) (r : Regex) → SearchesFor p r → (t : List ℕ) (w : Request) (i : ℕ) → answer_at (query r t w) i ≡ answer_at (asked_in p t w) i
answers p r e t w i = ap (λ (s : Sought). answer_at (record { sought = s; haystack = t; request = w; continues = true }) i) e

-- the whole match of a pattern without groups
abbrev spanning : ℕ → ℕ → Option State
spanning from to = Some (record { place = to; captures = None ∷ []; kept = from })

ab_at_0 : answer_at (asked_in (followed a b) (codes "xab") (whole (codes "xab"))) 0 ≡ None
unfolding answer_at outcomes trace unit_at past_item char_at char_before has_bytes_at prev_place chars encode_utf8 continues
ab_at_0 = refl

alternatives_at_0 : answer_at (asked_in a_or_ab (codes "xab") (whole (codes "xab"))) 0 ≡ None
unfolding answer_at outcomes trace unit_at past_item char_at char_before has_bytes_at prev_place chars encode_utf8 continues
alternatives_at_0 = refl

ab_at_1 : answer_at (asked_in (followed a b) (codes "xab") (whole (codes "xab"))) 1 ≡ spanning 1 3
unfolding answer_at outcomes trace unit_at past_item char_at char_before has_bytes_at prev_place chars encode_utf8 continues
ab_at_1 = refl

alternatives_at_1 : answer_at (asked_in a_or_ab (codes "xab") (whole (codes "xab"))) 1 ≡ spanning 1 2
unfolding answer_at outcomes trace unit_at past_item char_at char_before has_bytes_at prev_place chars encode_utf8 continues
alternatives_at_1 = refl

ab_token_at_0 : answer_at (asked_in (followed a b) (codes "aab") (at_place (codes "aab") 0)) 0 ≡ None
unfolding answer_at outcomes trace unit_at past_item char_at char_before has_bytes_at prev_place chars encode_utf8 continues
ab_token_at_0 = refl

alternatives_token_at_0 : answer_at (asked_in a_or_ab (codes "aab") (at_place (codes "aab") 0)) 0 ≡ spanning 0 1
unfolding answer_at outcomes trace unit_at past_item char_at char_before has_bytes_at prev_place chars encode_utf8 continues
alternatives_token_at_0 = refl

ab_token_at_1 : answer_at (asked_in (followed a b) (codes "aab") (at_place (codes "aab") 1)) 1 ≡ spanning 1 3
unfolding answer_at outcomes trace unit_at past_item char_at char_before has_bytes_at prev_place chars encode_utf8 continues
ab_token_at_1 = refl

alternatives_token_at_1 : answer_at (asked_in a_or_ab (codes "aab") (at_place (codes "aab") 1)) 1 ≡ spanning 1 2
unfolding answer_at outcomes trace unit_at past_item char_at char_before has_bytes_at prev_place chars encode_utf8 continues
alternatives_token_at_1 = refl

no_ab_token : answer_at (asked_in (followed a b) (codes "xab") (at_place (codes "xab") 0)) 0 ≡ None
unfolding answer_at outcomes trace unit_at past_item char_at char_before has_bytes_at prev_place chars encode_utf8 continues
no_ab_token = refl

no_alternatives_token : answer_at (asked_in a_or_ab (codes "xab") (at_place (codes "xab") 0)) 0 ≡ None
unfolding answer_at outcomes trace unit_at past_item char_at char_before has_bytes_at prev_place chars encode_utf8 continues
no_alternatives_token = refl

a_token : answer_at (asked_in a (codes "ab") (at_place (codes "ab") 0)) 0 ≡ spanning 0 1
unfolding answer_at outcomes trace unit_at past_item char_at char_before has_bytes_at prev_place chars encode_utf8 continues
a_token = refl

alternatives_token : answer_at (asked_in a_or_ab (codes "ab") (at_place (codes "ab") 0)) 0 ≡ spanning 0 1
unfolding answer_at outcomes trace unit_at past_item char_at char_before has_bytes_at prev_place chars encode_utf8 continues
alternatives_token = refl

apart : (r s : Regex) → SearchesFor (followed a b) r → SearchesFor a_or_ab s → WorkedSet r s
unfolding tokens_from token_at
apart r s e f =
    let r0 = answers (followed a b) r e (codes "xab") (whole (codes "xab")) 0 ∙ ab_at_0 in
    let s0 = answers a_or_ab s f (codes "xab") (whole (codes "xab")) 0 ∙ alternatives_at_0 in
    let r1 = answers (followed a b) r e (codes "xab") (whole (codes "xab")) 1 ∙ ab_at_1 in
    let s1 = answers a_or_ab s f (codes "xab") (whole (codes "xab")) 1 ∙ alternatives_at_1 in
    record {
      position = rw (r0, s0, r1) refl;
      both = rw (r1, s1) refl;
      tokens =
          rw (answers (followed a b) r e (codes "aab") (at_place (codes "aab") 0) 0 ∙ ab_token_at_0, answers a_or_ab s f (codes "aab") (at_place (codes "aab") 0) 0 ∙ alternatives_token_at_0, answers (followed a b) r e (codes "aab") (at_place (codes "aab") 1) 1 ∙ ab_token_at_1, answers a_or_ab s f (codes "aab") (at_place (codes "aab") 1) 1 ∙ alternatives_token_at_1) refl;
      no_token = rw (answers (followed a b) r e (codes "xab") (at_place (codes "xab") 0) 0 ∙ no_ab_token, answers a_or_ab s f (codes "xab") (at_place (codes "xab") 0) 0 ∙ no_alternatives_token) refl;
    }

tied : (r s : Regex) → SearchesFor a r → SearchesFor a_or_ab s → WorkedTie r s
unfolding token_at
tied r s e f = record {
  token = rw (answers a r e (codes "ab") (at_place (codes "ab") 0) 0 ∙ a_token, answers a_or_ab s f (codes "ab") (at_place (codes "ab") 0) 0 ∙ alternatives_token) refl;
}

pub sets : WorkedSets
sets = record { apart = apart; tied = tied }
