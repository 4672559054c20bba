-- What the searches of an iteration owe its list.
use Rattle.std.proofs.Common.{arith, le_trans, ℕ, suc, ◌≤◌, ◌<◌, ◌^◌, ◌≡◌, Bool, true, false, max, List, [], length, Option, Some, None, IsUtf8, if◌then◌else◌, refl, sym}
use Rattle.std.proofs.lemmas.Grind.{common_steps}
use Rattle.fancy_input.specs.declared.input.Request.{Request}
use Rattle.fancy_input.specs.Requests.{effective_start}
use Rattle.fancy_input.proofs.PlaceLemmas.{next_place_above}
use Rattle.fancy_meaning.specs.Search.{Answer, search}
use Rattle.fancy_code.specs.declared.found.Found.{Found}
use Rattle.fancy_search.specs.declared.cache.Cache.{Cache}
use Rattle.fancy_search.specs.Cached.{found_with, groups_or, IsAnswerIn}
use Rattle.fancy_states.specs.Search.{groups_of}
use Rattle.fancy_code.proofs.PositionLemmas.{positions_none}
use Rattle.fancy_meaning.proofs.AttemptLemmas.{search_over}
use Rattle.fancy_meaning.proofs.FoundLemmas.{answer_within, found-is_reached}
use Rattle.fancy_search.specs.declared.program.Program.{Program}
use Rattle.fancy_search.specs.Programs.{asked_of, program_options}
use Rattle.fancy_search.specs.Searching.{Suits}
use Rattle.fancy_search.specs.MatchList.{Scan, MatchItem, answer, Sound, items_from}
use Rattle.fancy_search.specs.Remaining.{Standing, scan, upcoming, items_left, turns_left}
use Rattle.fancy_search.specs.FoundItems.{HasGroups}
use Rattle.fancy_search.proofs.CutLemmas.{groups_cut}
use Rattle.fancy_search.proofs.MatchListLemmas.{few_items, items_none}
use Rattle.fancy_search.proofs.RemainingLemmas.{keeps_none, next_left, none_left, none_end}

-- what a search with the program finds lies between its effective start and its range's end
pub search_lies : (program : Program) (haystack : List ℕ) (r : Request) (c : Bool) (f : Answer) → r.range_end ≤ length haystack → search (asked_of program haystack r c) ≡ Some f →
    (effective_start r ≤ f.state.kept) × (f.state.kept ≤ f.state.place) × (f.state.place ≤ r.range_end)
search_lies program haystack r c f range e =
    let within = answer_within (asked_of program haystack r c) f range e in
    let reached = found-is_reached (asked_of program haystack r c) f e in
    let forward = within.forward program.starts in
    (le_trans reached.tried.from forward.from, forward.to, within.ends)

pub scan_sound : (program : Program) (text : Bool) (haystack : List ℕ) (r : Request) → r.range_end ≤ length haystack → Sound (scan program text haystack r)
scan_sound program text haystack r range = record {
  found = λ s c f e. let l = search_lies program haystack (record r { start = s }) c f range e in record { after = l.0; ordered = l.1; inside = l.2 };
  advances = λ i. next_place_above text haystack i;
}

-- the items that are left and one refusal can be counted
pub few_turns : (program : Program) (text : Bool) (haystack : List ℕ) (r : Request) (ended continues skips_empty : Bool) → r.range_end ≤ length haystack → length haystack < 2 ^ 63 → ended ≡ false
    → turns_left ended (items_left (scan program text haystack r) (record { start = r.start; continues = continues; skips_empty = skips_empty; ended = ended })) < 2 ^ 64
few_turns program text haystack r ended continues skips_empty range short e =
    let k = scan program text haystack r in
    let o = upcoming k (record { start = r.start; continues = continues; skips_empty = skips_empty; ended = false }) in
    let few : length (items_from k o) ≤ suc r.range_end = few_items k o in
    rw e (omega (arith, few, range, short))

-- what a search answered starts at the start of its request or later
pub answered_after : (program : Program) (bytes haystack : List ℕ) (r : Request) (c : Bool) (m : Option Found) (f : Found) (cache : Cache) → r.range_end ≤ length haystack → bytes ≡ haystack → m ≡ Some f →
    IsAnswerIn m cache (asked_of program bytes r c) → r.start ≤ f.start
answered_after program bytes haystack r c m f cache range same found e =
    let is : search (asked_of program haystack r c) ≡ Some (found_with f (groups_or cache (groups_of 0 (search (asked_of program haystack r c))))) = sym (rw (found, same) at e) in
    let l : effective_start r ≤ f.start = (search_lies program haystack r c _ range is).0 in
    grind (arith, common_steps)

pub answered_groups : (program : Program) (text : Bool) (bytes haystack : List ℕ) (r : Request) (c : Bool) (m : Option Found) (f : Found) (cache : Cache) → r.range_end ≤ length haystack → bytes ≡ haystack → m ≡ Some f →
    Suits (program_options program) text haystack → (text ≡ true → IsUtf8 bytes) → IsAnswerIn m cache (asked_of program bytes r c) → HasGroups text haystack f cache
answered_groups program text bytes haystack r c m f cache range same found suits utf8 e = record {
  cut = λ n. groups_cut program text haystack r c f cache _ n range suits (λ t. rw same at (utf8 t)) (rw (found, same) at e);
}

-- past the range's end a search finds none
none_past : (program : Program) (text : Bool) (haystack : List ℕ) (r : Request) (s : ℕ) (c : Bool) → r.range_end < s → answer (scan program text haystack r) s c ≡ None
unfolding answer
none_past program text haystack r s c past =
    let k = scan program text haystack r in
    let after : r.range_end < max s r.range_start = grind (arith, common_steps) in
    let none : k.find s c ≡ None = search_over _ _ _ (positions_none (record r { start = s }) after) in
    rw none refl

left_if : (k : Scan) (ended : Bool) (o : Option MatchItem) → o ≡ None → (if ended then [] else items_from k o) ≡ []
left_if k true o e = refl
left_if k false o e = rw e (items_none k)

-- and nothing is left there
pub none_left_past : (program : Program) (text : Bool) (haystack : List ℕ) (r : Request) (st : Standing) → r.range_end < st.start → items_left (scan program text haystack r) st ≡ []
none_left_past program text haystack r st past =
    let k = scan program text haystack r in
    left_if k st.ended (upcoming k st) (keeps_none k st.start st.continues st.skips_empty (none_past program text haystack r st.start st.continues past))

-- what is left after the next item, and where there is none
pub ruleset stepping = (scan_sound, next_left, none_left, none_end)
