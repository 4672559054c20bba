-- A set with the default options can search a whole haystack.
use Rattle.std.proofs.Common.{◌≡◌, ◌∙◌, ap, ℕ, Bool, List, slice_index_or, refl, sym, subst}
use Rattle.fancy_input.specs.declared.input.Request.{Request}
use Rattle.fancy_input.specs.declared.regex_input.RegexInput.{RegexInput}
use Rattle.fancy_input.specs.Inputs.{haystack_in, request_in}
use Rattle.fancy_input.specs.Requests.{whole}
use Rattle.fancy_input.proofs.PlaceLemmas.{is_boundary_at_end}
use Rattle.fancy_search.specs.declared.options.Options.{Options}
use Rattle.fancy_search.specs.Options.{by_default}
use Rattle.fancy_search.specs.Searching.{CanSearch}
use Rattle.fancy_core.specs.Regexes.{options_in}
use Rattle.fancy_regex.specs.declared.set.RegexSet.{RegexSet}
use Rattle.fancy_regex.specs.Sets.{members_of, HaveOptions, CanSearchAll}

can_search_whole : (text : Bool) (haystack : List ℕ) → CanSearch by_default text haystack (whole haystack)
can_search_whole text haystack = record {
  suits = λ is anywhere. absurd (cc);
  starts = λ is inside. refl;
  range_starts = λ is. refl;
  range_ends = λ is. is_boundary_at_end haystack;
}

searches_whole : {S : Type 0} {g : _} (text : S → Bool) (bytes : S → List ℕ) (s : RegexSet) (input : RegexInput S g) → HaveOptions by_default (members_of s)
    → request_in input ≡ whole (bytes (haystack_in input)) → CanSearchAll text bytes s input
searches_whole text bytes s input same request = λ k d below.
    let options : options_in (slice_index_or (members_of s) k d) ≡ by_default = same k d below in
    let haystack = haystack_in input in
    subst (λ (r : Request). CanSearch (options_in (slice_index_or (members_of s) k d)) (text haystack) (bytes haystack) r) (sym request)
    (subst (λ (o : Options). CanSearch o (text haystack) (bytes haystack) (whole (bytes haystack))) (sym options) (can_search_whole (text haystack) (bytes haystack)))

-- the same of an input that was just made of a haystack
pub searches_new : {S : Type 0} {g : _} (text : S → Bool) (bytes : S → List ℕ) (s : RegexSet) (input : RegexInput S g) (haystack : S) → HaveOptions by_default (members_of s)
    → haystack_in input ≡ haystack → request_in input ≡ whole (bytes haystack) → CanSearchAll text bytes s input
searches_new text bytes s input haystack same is request = searches_whole text bytes s input same (request ∙ ap (λ h. whole (bytes h)) (sym is))
