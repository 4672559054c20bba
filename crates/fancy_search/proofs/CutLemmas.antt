-- The groups that a search finds are spans that the haystack can be cut at.
use Rattle.std.proofs.Common.{◌≡◌, ◌≤◌, ◌<◌, ◌==◌, ℕ, Bool, true, false, List, [], length, map, Option, Some, None, if◌then◌else◌, IsUtf8, refl, sym, ap, ◌∙◌, arith, inl, inr, ◌⊎◌}
use Rattle.std.specs.List.{range_with_len}
use Rattle.std.proofs.lemmas.List.{get_or_past}
use Rattle.std.proofs.lemmas.List.FromFn.{length-map-range_with_len, get_or-map-range_with_len}
use Rattle.fancy_tree.specs.declared.tree.BytesMode.{BytesMode}
use Rattle.fancy_tree.specs.declared.tree.BytesMode.TheVariants.{Unicode, Ascii, UnicodeBytes}
use Rattle.fancy_tree.specs.Modes.{meaning_of, keeps_characters}
use Rattle.fancy_input.specs.Places.{is_boundary}
use Rattle.fancy_input.specs.declared.input.Request.{Request}
use Rattle.fancy_input.specs.declared.span.Span.{Span}
use Rattle.fancy_meaning.specs.Context.{group_span}
use Rattle.fancy_meaning.specs.Search.{Query, Answer, search, attempt, span_of}
use Rattle.fancy_code.specs.declared.found.Found.{Found}
use Rattle.fancy_search.specs.declared.cache.Cache.{Cache}
use Rattle.fancy_search.specs.Cached.{cached_groups, found_at, found_with, groups_by, groups_or}
use Rattle.fancy_search.specs.declared.cache.Engine.{Engine}
use Rattle.fancy_search.specs.declared.cache.Engine.TheVariants.{Runner, Machine, WithoutGroups, Unasked}
use Rattle.fancy_runner.specs.Groups.{groups_in}
use Rattle.fancy_machine.specs.Asked.{groups_held}
use Rattle.std.specs.Prelude.{slice_index_or}
use Rattle.fancy_meaning.specs.Placed.{has_keep_start_in_look_around, any_place, LiesWithin, KeepsBoundaries, by_characters, of_ascii, reads_characters}
use Rattle.fancy_meaning.proofs.FoundLemmas.{answer_within, answer_on_boundaries, attempt_within, attempt_on_boundaries}
use Rattle.fancy_search.specs.declared.program.Program.{Program}
use Rattle.fancy_search.specs.Programs.{program_options, asked_of}
use Rattle.fancy_search.specs.Searching.{Suits}
use Rattle.fancy_search.specs.Groups.{span_of_group, spans_of, span_at, IsCut, AreCut}

whole_characters : (m : BytesMode) (unicode : Bool) → keeps_characters m ≡ true → reads_characters (meaning_of m unicode) ≡ true
whole_characters Unicode true e = refl
whole_characters Unicode false e = refl
whole_characters Ascii unicode e = cc
whole_characters UnicodeBytes unicode e = cc

abbrev start_or : Option Span → ℕ
start_or None = 0
start_or (Some x) = x.start

abbrev end_or : Option Span → ℕ
end_or None = 0
end_or (Some x) = x.end

-- a number has its span in the list, or is past its end
span_listed : (g : ℕ → Option Span) (n number : ℕ) (x : Span) → span_at (map g (range_with_len 0 n)) number ≡ Some x → g number ≡ Some x
span_listed g n number x e =
    elim (below number n) [
      | inl h ↦ sym (get_or-map-range_with_len g 0 n number number None h (omega arith)) ∙ e
      | inr h ↦ absurd (let none : None ≡ Some x = sym (get_or_past (map g (range_with_len 0 n)) number None (omega (arith, length-map-range_with_len g 0 n))) ∙ e in cc)
    ]
  where
    below : (a b : ℕ) → (a < b) ⊎ (b ≤ a)
    below a b = grind arith

-- what was found with these groups has at most those of an answer
abbrev HasFewer : List (Option Span) → Answer → Type 0
HasFewer groups f = (number : ℕ) (x : Span) → slice_index_or groups number None ≡ Some x → group_span f.state number ≡ Some x

module _ (q : Query) (text : Bool) (f : Answer) (within : LiesWithin q any_place f) (cleanly : text ≡ true → LiesWithin q (is_boundary q.haystack) f)
    (range : q.request.range_end ≤ length q.haystack) (outside : has_keep_start_in_look_around q.sought.pattern ≡ false) where
  whole_cut : (x : Span) → Some (span_of f) ≡ Some x → IsCut text q.haystack x.start x.end
  whole_cut x h =
      let begins : f.state.kept ≡ x.start = ap start_or h in
      let forward : f.state.kept ≤ f.state.place = (within.forward outside).to in
      let ends : f.state.place ≡ x.end = ap end_or h in
      record {
        ordered = omega (arith, forward, begins, ends);
        inside = omega (arith, within.ends, ends, range);
        starts_cleanly = λ t. rw begins at (cleanly t).keeps;
        ends_cleanly = λ t. rw ends at (cleanly t).placed.stands;
      }

  group_cut : (number : ℕ) (x : Span) → group_span f.state number ≡ Some x → IsCut text q.haystack x.start x.end
  group_cut number x h =
      let y = within.placed.spans number x h in
      record {
        ordered = y.ordered;
        inside = y.within;
        starts_cleanly = λ t. ((cleanly t).placed.spans number x h).begins;
        ends_cleanly = λ t. ((cleanly t).placed.spans number x h).ends;
      }

  module _ (groups : List (Option Span)) (fewer : HasFewer groups f) where
    abbrev held : Answer
    held = record { position = f.position; state = record { place = f.state.place; captures = groups; kept = f.state.kept } }

    either_cut : (b : Bool) (number : ℕ) (x : Span) →
        (if b then Some (span_of held) else group_span held.state number) ≡ Some x → IsCut text q.haystack x.start x.end
    either_cut true number x h = whole_cut x h
    either_cut false number x h = group_cut number x (fewer number x h)

    all_cut : (n : ℕ) → AreCut text q.haystack (spans_of n held)
    all_cut n number x h = either_cut (number == 0) number x (span_listed (span_of_group held) n number x h)

keeps_by : (r : Program) (text : Bool) (haystack : List ℕ) (request : Request) (c b : Bool) → keeps_characters (program_options r).bytes_mode ≡ b →
    Suits (program_options r) text haystack → (text ≡ true → IsUtf8 haystack) → text ≡ true → KeepsBoundaries (asked_of r haystack request c)
keeps_by r text haystack request c true e suits utf8 t = by_characters (utf8 t) (whole_characters _ _ e) (r.whole e) e
keeps_by r text haystack request c false e suits utf8 t = of_ascii (suits t e)

-- the groups that are held are those of the answer, or none
held_fewer : (served : Engine) (runner machine : List (Option Span)) (position place kept : ℕ) (others : List (Option Span))
    → HasFewer (groups_by served runner machine []) (record { position = position; state = record { place = place; captures = groups_by served runner machine others; kept = kept } })
held_fewer Runner runner machine position place kept others number x h = h
held_fewer Machine runner machine position place kept others number x h = h
held_fewer (WithoutGroups groups) runner machine position place kept others number x h = h
held_fewer Unasked runner machine position place kept others number x h = let none : None ≡ Some x = sym (get_or_past [] number None (omega arith)) ∙ h in cc

-- what a search with a program finds can be cut out of the haystack, with all its groups
pub groups_cut : (r : Program) (text : Bool) (haystack : List ℕ) (request : Request) (c : Bool) (found : Found) (cache : Cache) (others : List (Option Span)) (n : ℕ) →
    request.range_end ≤ length haystack → Suits (program_options r) text haystack → (text ≡ true → IsUtf8 haystack) →
    Some (found_with found (groups_or cache others)) ≡ search (asked_of r haystack request c) → AreCut text haystack (spans_of n (found_at found cache))
groups_cut r text haystack request c found cache others n range suits utf8 e =
    all_cut (asked_of r haystack request c) text (found_with found (groups_or cache others))
    (answer_within (asked_of r haystack request c) _ range (sym e))
    (λ t. answer_on_boundaries (asked_of r haystack request c) _ range (keeps_by r text haystack request c _ refl suits utf8 t) (sym e))
    range r.starts (cached_groups cache) (held_fewer cache.served (groups_in cache.runner) (groups_held cache.machine) found.position found.end found.start others) n

-- what an attempt at a position finds can be cut out too
pub groups_cut_at : (r : Program) (text : Bool) (haystack : List ℕ) (request : Request) (c : Bool) (p : ℕ) (found : Found) (cache : Cache) (n : ℕ) →
    request.range_end ≤ length haystack → p ≤ request.range_end → Suits (program_options r) text haystack → (text ≡ true → IsUtf8 haystack) →
    Some (found_at found cache) ≡ attempt (asked_of r haystack request c) p → AreCut text haystack (spans_of n (found_at found cache))
groups_cut_at r text haystack request c p found cache n range to suits utf8 e =
    all_cut (asked_of r haystack request c) text (found_at found cache)
    (attempt_within (asked_of r haystack request c) p _ range to (sym e))
    (λ t. attempt_on_boundaries (asked_of r haystack request c) p _ range to (sym e) (keeps_by r text haystack request c _ refl suits utf8 t))
    range r.starts (cached_groups cache) (λ number x h. h) n
