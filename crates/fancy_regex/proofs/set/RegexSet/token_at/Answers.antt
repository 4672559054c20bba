use Rattle.std.proofs.Common.{◌≡◌, ◌<◌, ◌≤◌, true, IfSome, length, take, refl, sym, ap, subst, ◌∙◌, arith, inl, inr}
use Rattle.std.proofs.lemmas.Option.{slice_get_read}
use Rattle.std.proofs.lemmas.Result.{err_from_is_err_and}
use Rattle.fancy_code.specs.Queries.{answer_with}
use Rattle.fancy_input.specs.Inputs.{haystack_in}
use Rattle.fancy_input.specs.declared.input.Request.{Request}
use Rattle.fancy_core.specs.Captures.{spans_in, searched_in, found_by}
use Rattle.fancy_core.specs.declared.regex.Regex.{Regex}
use Rattle.fancy_core.specs.Regexes.{options_in}
use Rattle.fancy_core.specs.Searches.{CanSearchInput}
use Rattle.fancy_search.proofs.CutLemmas.{groups_cut_at}
use Rattle.fancy_search.specs.Cached.{cached_groups}
use Rattle.fancy_search.specs.KeptTables.{kept_from}
use Rattle.fancy_search.specs.Searching.{Suits}
use Rattle.fancy_regex.specs.LongestMatches.{IsLongestIfAny}
use Rattle.fancy_regex.specs.Sets.{asked_of_set}
use Rattle.fancy_regex.specs.Tokens.{placed_at}
use Rattle.fancy_regex.specs.Trials.{AreNotedFrom}
use Rattle.fancy_regex.proofs.SetCandidateLemmas.{starts_there}
use Rattle.fancy_regex.proofs.SetLemmas.{item_is_matched}
use Rattle.fancy_regex.proofs.SetLimitLemmas.{heeds_of_member, passed_on}
use Rattle.fancy_regex.proofs.TrialLemmas.{reaches, reaches_it, noted_past, tried_below, tried_all}
use Rattle.fancy_regex.proofs.TokenSearchLemmas.{goes_forth, passed_short, passed_one, passed_over, taken_longer, all_gone, none_gone, limits_of_one, limits_over, limits_more}
use Rattle.fancy_regex.proofs.TokenGivenLemmas.{found_as_attempted, found_by_end, item_of_found, limit_kept, out_of_memory_at, token_of_found}
use Rattle.fancy_regex.proofs.set.RegexSet.token_at.Goals as goal
use Rattle.fancy_regex.proofs.set.RegexSet.token_at.Goals.{in-Some-found_past+in_ok-captures, in_default-found_past}

pub members-init : goal.members-init
members-init g c =
    record {
      limit = λ most all. omega (arith, c.reset.ensures.steps, c.reset.ensures.units);
      known = c.requires.known;
      below = λ k member below is. absurd (omega (arith, below));
      above = c.requires.noted;
      inside = omega arith;
      longest = (refl, λ k below. absurd (omega (arith, below)));
      limits = λ k r below is may. absurd (omega (arith, below));
    }

pub members-preserved : goal.members-preserved
members-preserved g c =
    let s = c.args.self.now in
    let p = c.args.place in
    let haystack = haystack_in c.args.input.now in
    let q = asked_of_set s g.S.Haystack.bytes c.args.input.now in
    let index = c.in-Some.index in
    let member = c.index-member.result.now in
    let starter = c.in-Some.ensures in
    let inside = starter.inside in
    let is = slice_get_read s.members.items _ index member refl inside c.index-member.ensures in
    let limit = limit_kept q p index member is (rw (c.request-request.ensures.value, c.as_bytes-bytes.ensures.bytes, c.haystack-haystack.ensures) at c.in_ok-found.ensures.allowed) in
    let found = (rw (c.request-request.ensures.value, c.as_bytes-bytes.ensures.bytes, c.haystack-haystack.ensures) at c.in_ok-found.ensures.found) ∙ sym (found_as_attempted q p index member is) in
    let over = passed_over q haystack p (take c.request-request.result.range_end c.as_bytes-bytes.result.now) (rw (c.request-request.ensures.value, c.as_bytes-bytes.ensures.bytes, c.haystack-haystack.ensures) refl) (rw (c.as_bytes-bytes.ensures.bytes, c.haystack-haystack.ensures) at c.at-groups.ensures.bytes) c.args.input.now.inside (omega (arith, c.requires.ends)) c.members.from index c.members.end c.members.longest starter.reached starter.none c.members.invariant.longest in
    let forth = goes_forth q haystack p index c.members.end c.members.longest over in
    let heeds = heeds_of_member s.members.items index member c.members.trials c.find.new.self is c.find.ensures.limit in
    let above = noted_past q p c.members.from index c.members.trials c.find.new.self starter.reached c.find.ensures.others c.members.invariant.above in
    let limits = limits_more q p index (limits_over q p (take c.request-request.result.range_end c.as_bytes-bytes.result.now) (rw (c.request-request.ensures.value, c.as_bytes-bytes.ensures.bytes, c.haystack-haystack.ensures) refl) c.members.from index starter.none c.members.invariant.limits) limit in
    elim c.match-found_past.branch [
      | in-Some-found_past+in_ok-captures w ↦ (
          let past = w.in-Some-found_past.ensures.past in
          let further = w.in-Some-found_past.ensures.past.past in
          let end = w.in-Some-found_past.found.end in
          record {
            limit = λ k all. heeds k all (c.members.invariant.limit k all);
            known = rw (c.as_bytes-bytes.ensures.bytes, c.haystack-haystack.ensures) at c.find.ensures.known;
            below = rw w.end-is (tried_below q p c.members.from index (kept_from c.in_ok-found.found p) c.members.end end member c.members.trials c.find.new.self
                starter.reached is c.find.ensures.others (rw (c.request-request.ensures.value, c.as_bytes-bytes.ensures.bytes, c.haystack-haystack.ensures) at c.in_ok-found.ensures.notes) (reaches_it p c.in_ok-found.found w.in-Some-found_past.found past.is (omega (arith, forth, further))) (omega (arith, further)) (omega (arith, forth, further))
                c.members.invariant.below c.members.invariant.above);
            above = above;
            inside = omega (arith, inside);
            longest = rw (w.longest-is, w.end-is) (taken_longer q haystack p index c.members.end end c.members.longest (record { found = w.new.result }) w.new.ensures.pattern further
                (token_of_found q p haystack index member w.in-Some-found_past.found c.find.new.self.cache.engines (record { found = w.new.result }) is
                (sym found ∙ ap (answer_with (cached_groups c.find.new.self.cache.engines)) past.is) past.starts (omega (arith, forth, further)) limit
                w.new.ensures.pattern (ap (λ k. found_by k) w.new.ensures.captures ∙ w.in_ok-captures.ensures.regex) (ap (λ k. spans_in k) w.new.ensures.captures ∙ w.in_ok-captures.ensures.groups)
                (ap (λ k. searched_in k) w.new.ensures.captures ∙ w.in_ok-captures.ensures.within ∙ c.haystack-haystack.ensures))
                over);
            limits = limits;
          })
      | in_default-found_past w ↦ record {
        limit = λ k all. heeds k all (c.members.invariant.limit k all);
        known = rw (c.as_bytes-bytes.ensures.bytes, c.haystack-haystack.ensures) at c.find.ensures.known;
        below = rw w.end-is (tried_below q p c.members.from index (kept_from c.in_ok-found.found p) c.members.end c.members.end member c.members.trials c.find.new.self
            starter.reached is c.find.ensures.others (rw (c.request-request.ensures.value, c.as_bytes-bytes.ensures.bytes, c.haystack-haystack.ensures) at c.in_ok-found.ensures.notes) (reaches p c.members.end c.in_ok-found.found forth w.in_default-found_past.ensures.none) (omega arith) forth
            c.members.invariant.below c.members.invariant.above);
        above = above;
        inside = omega (arith, inside);
        longest = rw (w.longest-is, w.end-is) (passed_short q haystack p index c.members.end c.members.longest
            (found_by_end q p index c.members.end (cached_groups c.find.new.self.cache.engines) c.in_ok-found.found w.in_default-found_past.ensures.none found) over);
        limits = limits;
      }
    ]

pub find-requires-clause-notes : goal.find-requires-clause-notes
find-requires-clause-notes g c =
    let s = c.args.self.now in
    let starter = c.in-Some.ensures in
    rw (c.request-request.ensures.value, c.as_bytes-bytes.ensures.bytes, c.haystack-haystack.ensures)
    (c.members.invariant.above c.in-Some.index c.index-member.result.now starter.reached (slice_get_read s.members.items _ c.in-Some.index c.index-member.result.now refl starter.inside c.index-member.ensures))

pub find-requires-clause-known : goal.find-requires-clause-known
find-requires-clause-known g c = rw (c.as_bytes-bytes.ensures.bytes, c.haystack-haystack.ensures) c.members.invariant.known

pub captures_found-requires : goal.captures_found-requires
captures_found-requires g c =
    let s = c.args.self.now in
    let p = c.args.place in
    let starter = c.in-Some.ensures in
    let member = c.index-member.result.now in
    let here = record c.request-request.result { start = p; anchored = true } in
    let past = c.in-Some-found_past.ensures.past in
    let may = subst (λ (r : Regex). CanSearchInput g.S.Haystack.text g.S.Haystack.bytes (options_in r) c.args.input.now) (sym c.index-member.ensures) (c.requires.searched c.in-Some.index member starter.inside) in
    record {
      cut = groups_cut_at member.program (g.S.Haystack.text c.haystack-haystack.result) (g.S.Haystack.bytes c.haystack-haystack.result) here _ p c.in-Some-found_past.found c.find.new.self.cache.engines _
          (subst (λ h. c.request-request.result.range_end ≤ length (g.S.Haystack.bytes h)) (sym c.haystack-haystack.ensures) c.request-request.ensures.inside)
          (let ends = subst (λ (r : Request). p < r.range_end) (sym c.request-request.ensures.value) c.requires.ends in omega (arith, ends))
          (subst (λ h. Suits (options_in member) (g.S.Haystack.text h) (g.S.Haystack.bytes h)) (sym c.haystack-haystack.ensures) may.suits)
          (λ t. rw c.as_bytes-bytes.ensures.bytes at (c.as_bytes-bytes.ensures.utf8 t))
          (rw (past.is, c.as_bytes-bytes.ensures.bytes) at c.in_ok-found.ensures.found);
    }

pub new-requires : goal.new-requires
new-requires g c =
    let s = c.args.self.now in
    let p = c.args.place in
    let index = c.in-Some.index in
    let member = c.index-member.result.now in
    let q = asked_of_set s g.S.Haystack.bytes c.args.input.now in
    let is = slice_get_read s.members.items _ index member refl c.in-Some.ensures.inside c.index-member.ensures in
    let limit = limit_kept q p index member is (rw (c.request-request.ensures.value, c.as_bytes-bytes.ensures.bytes, c.haystack-haystack.ensures) at c.in_ok-found.ensures.allowed) in
    let found = (rw (c.request-request.ensures.value, c.as_bytes-bytes.ensures.bytes, c.haystack-haystack.ensures) at c.in_ok-found.ensures.found) ∙ sym (found_as_attempted q p index member is) in
    let past = c.in-Some-found_past.ensures.past in
    let finds = sym found ∙ ap (answer_with (cached_groups c.find.new.self.cache.engines)) past.is in
    record { matched = item_is_matched (placed_at q p) p index member _ (item_of_found q p index member member _ _ is finds refl c.in_ok-captures.ensures.groups limit) }

pub returns-in_err-found-clause-refused : goal.returns-in_err-found-clause-refused
returns-in_err-found-clause-refused g c =
    let s = c.args.self.now in
    let p = c.args.place in
    let q = asked_of_set s g.S.Haystack.bytes c.args.input.now in
    let member = c.index-member.result.now in
    let starter = c.in-Some.ensures in
    let is = slice_get_read s.members.items _ c.in-Some.index member refl starter.inside c.index-member.ensures in
    let e = err_from_is_err_and c.from_residual.result c.from_residual.ensures.1 in
    rw (e.1, e.2) (inr (record {
      index = c.in-Some.index;
      refuses = record { member = member; is = is; starts = starts_there q p (take c.request-request.result.range_end c.as_bytes-bytes.result.now) (rw (c.request-request.ensures.value, c.as_bytes-bytes.ensures.bytes, c.haystack-haystack.ensures) refl) member (starter.starts member is); refuses = rw (c.request-request.ensures.value, c.as_bytes-bytes.ensures.bytes, c.haystack-haystack.ensures) at c.in_err-found.ensures.refused };
      limits = limits_over q p (take c.request-request.result.range_end c.as_bytes-bytes.result.now) (rw (c.request-request.ensures.value, c.as_bytes-bytes.ensures.bytes, c.haystack-haystack.ensures) refl) c.members.from c.in-Some.index starter.none c.members.invariant.limits;
    }))

pub returns-in_err-captures-clause-refused : goal.returns-in_err-captures-clause-refused
returns-in_err-captures-clause-refused g c =
    let s = c.args.self.now in
    let p = c.args.place in
    let index = c.in-Some.index in
    let q = asked_of_set s g.S.Haystack.bytes c.args.input.now in
    let member = c.index-member.result.now in
    let starter = c.in-Some.ensures in
    let is = slice_get_read s.members.items _ index member refl starter.inside c.index-member.ensures in
    let found = (rw (c.request-request.ensures.value, c.as_bytes-bytes.ensures.bytes, c.haystack-haystack.ensures) at c.in_ok-found.ensures.found) ∙ sym (found_as_attempted q p index member is) in
    let past = c.in-Some-found_past.ensures.past in
    let finds = sym found ∙ ap (answer_with (cached_groups c.find.new.self.cache.engines)) past.is in
    let limits = limits_over q p (take c.request-request.result.range_end c.as_bytes-bytes.result.now) (rw (c.request-request.ensures.value, c.as_bytes-bytes.ensures.bytes, c.haystack-haystack.ensures) refl) c.members.from index starter.none c.members.invariant.limits in
    let e = err_from_is_err_and c.from_residual-in_err-captures.result c.from_residual-in_err-captures.ensures.1 in
    rw (e.1, e.2) (inr (out_of_memory_at q p index member _ _ is finds c.in_err-captures.ensures.refused limits))

pub returns-in-None-clause-refused : goal.returns-in-None-clause-refused
returns-in-None-clause-refused g c =
    let s = c.args.self.now in
    let p = c.args.place in
    let q = asked_of_set s g.S.Haystack.bytes c.args.input.now in
    let over = passed_over q (haystack_in c.args.input.now) p (take c.request-request.result.range_end c.as_bytes-bytes.result.now) (rw (c.request-request.ensures.value, c.as_bytes-bytes.ensures.bytes, c.haystack-haystack.ensures) refl) (rw (c.as_bytes-bytes.ensures.bytes, c.haystack-haystack.ensures) at c.at-groups.ensures.bytes) c.args.input.now.inside (omega (arith, c.requires.ends)) c.members.from (length s.members.items) c.members.end c.members.longest c.members.invariant.inside c.in_default.ensures c.members.invariant.longest in
    inl (record {
      names = refl;
      none = none_gone q (haystack_in c.args.input.now) p c.members.end c.members.longest c.in-None.is over;
      limits = limits_over q p (take c.request-request.result.range_end c.as_bytes-bytes.result.now) (rw (c.request-request.ensures.value, c.as_bytes-bytes.ensures.bytes, c.haystack-haystack.ensures) refl) c.members.from (length s.members.items) c.in_default.ensures c.members.invariant.limits;
    })

pub returns-in-Some-longest-clause-given : goal.returns-in-Some-longest-clause-given
returns-in-Some-longest-clause-given g c =
    let s = c.args.self.now in
    let p = c.args.place in
    let q = asked_of_set s g.S.Haystack.bytes c.args.input.now in
    let over = passed_over q (haystack_in c.args.input.now) p (take c.request-request.result.range_end c.as_bytes-bytes.result.now) (rw (c.request-request.ensures.value, c.as_bytes-bytes.ensures.bytes, c.haystack-haystack.ensures) refl) (rw (c.as_bytes-bytes.ensures.bytes, c.haystack-haystack.ensures) at c.at-groups.ensures.bytes) c.args.input.now.inside (omega (arith, c.requires.ends)) c.members.from (length s.members.items) c.members.end c.members.longest c.members.invariant.inside c.in_default.ensures c.members.invariant.longest in
    let longest = subst (λ x. IsLongestIfAny q (haystack_in c.args.input.now) p (length s.members.items) c.members.end x) c.in-Some-longest.is over in
    all_gone q (haystack_in c.args.input.now) p c.members.end c.in-Some-longest.token c.requires.ends longest

pub returns-in-Some-longest-clause-noted : goal.returns-in-Some-longest-clause-noted
returns-in-Some-longest-clause-noted g c =
    let s = c.args.self.now in
    let p = c.args.place in
    let q = asked_of_set s g.S.Haystack.bytes c.args.input.now in
    let longest = subst (λ x. IsLongestIfAny q (haystack_in c.args.input.now) p c.members.from c.members.end x) c.in-Some-longest.is c.members.invariant.longest in
    let forth = goes_forth q (haystack_in c.args.input.now) p c.members.from c.members.end c.members.longest c.members.invariant.longest in
    subst (λ o. IfSome o (λ t. AreNotedFrom 0 q t.end c.members.trials)) (sym longest.token.span)
    (tried_all q p c.members.from c.members.end c.members.trials forth c.members.invariant.below c.members.invariant.above)

pub returns-in-Some-longest-clause-limits : goal.returns-in-Some-longest-clause-limits
returns-in-Some-longest-clause-limits g c =
    let s = c.args.self.now in
    let p = c.args.place in
    let q = asked_of_set s g.S.Haystack.bytes c.args.input.now in
    limits_over q p (take c.request-request.result.range_end c.as_bytes-bytes.result.now) (rw (c.request-request.ensures.value, c.as_bytes-bytes.ensures.bytes, c.haystack-haystack.ensures) refl) c.members.from (length s.members.items) c.in_default.ensures c.members.invariant.limits

pub returns-in_err-found-clause-limit : goal.returns-in_err-found-clause-limit
returns-in_err-found-clause-limit g c most all =
    let s = c.args.self.now in
    let is = slice_get_read s.members.items _ c.in-Some.index c.index-member.result.now refl c.in-Some.ensures.inside c.index-member.ensures in
    heeds_of_member s.members.items c.in-Some.index c.index-member.result.now c.members.trials c.find.new.self is c.find.ensures.limit most all (c.members.invariant.limit most all)

pub returns-in_err-captures-clause-limit : goal.returns-in_err-captures-clause-limit
returns-in_err-captures-clause-limit g c most all =
    let s = c.args.self.now in
    let is = slice_get_read s.members.items _ c.in-Some.index c.index-member.result.now refl c.in-Some.ensures.inside c.index-member.ensures in
    heeds_of_member s.members.items c.in-Some.index c.index-member.result.now c.members.trials c.find.new.self is c.find.ensures.limit most all (c.members.invariant.limit most all)

pub returns-in_err-found-clause-limited : goal.returns-in_err-found-clause-limited
returns-in_err-found-clause-limited g c out =
    let s = c.args.self.now in
    record {
      index = c.in-Some.index;
      member = c.index-member.result.now;
      is = slice_get_read s.members.items _ c.in-Some.index c.index-member.result.now refl c.in-Some.ensures.inside c.index-member.ensures;
      spent = c.find.ensures.limited (passed_on c.from_residual.result _ c.from_residual.ensures.1 out c.find.result c.in_err-found.was);
    }

pub returns-in_err-found-clause-known : goal.returns-in_err-found-clause-known
returns-in_err-found-clause-known g c = rw (c.as_bytes-bytes.ensures.bytes, c.haystack-haystack.ensures) at c.find.ensures.known

pub returns-in_err-captures-clause-known : goal.returns-in_err-captures-clause-known
returns-in_err-captures-clause-known g c = rw (c.as_bytes-bytes.ensures.bytes, c.haystack-haystack.ensures) at c.find.ensures.known

pub next_starter-requires-clause-all : goal.next_starter-requires-clause-all
next_starter-requires-clause-all g c = c.at-groups.ensures.held c.args.self.now.members.items c.args.self.now.listed

pub next_starter-requires-clause-only : goal.next_starter-requires-clause-only
next_starter-requires-clause-only g c = c.at-groups.ensures.only c.args.self.now.members.items c.args.self.now.told

pub members-preserved-then-ends_no_later : goal.members-preserved-then-ends_no_later
members-preserved-then-ends_no_later g c =
    let s = c.args.self.now in
    let p = c.args.place in
    let haystack = haystack_in c.args.input.now in
    let q = asked_of_set s g.S.Haystack.bytes c.args.input.now in
    let index = c.in-Some.index in
    let member = c.index-member.result.now in
    let starter = c.in-Some.ensures in
    let inside = starter.inside in
    let is = slice_get_read s.members.items _ index member refl inside c.index-member.ensures in
    let searched = take c.request-request.result.range_end c.as_bytes-bytes.result.now in
    let there : searched ≡ take q.request.range_end q.haystack = rw (c.request-request.ensures.value, c.as_bytes-bytes.ensures.bytes, c.haystack-haystack.ensures) refl in
    let over = passed_over q haystack p searched there (rw (c.as_bytes-bytes.ensures.bytes, c.haystack-haystack.ensures) at c.at-groups.ensures.bytes) c.args.input.now.inside (omega (arith, c.requires.ends)) c.members.from index c.members.end c.members.longest starter.reached starter.none c.members.invariant.longest in
    let forth = goes_forth q haystack p index c.members.end c.members.longest over in
    let one = c.if-ends_no_later.ensures.one refl in
    record {
      limit = c.members.invariant.limit;
      known = c.members.invariant.known;
      below = λ k r lt at. tried_all q p c.members.from c.members.end c.members.trials forth c.members.invariant.below c.members.invariant.above k r (omega arith) at;
      above = λ k r le at. (let reached = starter.reached in c.members.invariant.above k r (omega (arith, le, reached)) at);
      inside = omega (arith, inside);
      longest = passed_one q haystack p searched there index c.members.end c.members.longest member is one c.args.input.now.inside c.requires.ends (c.if-ends_no_later.ensures.low refl) (c.if-ends_no_later.ensures.past refl) over;
      limits = limits_of_one q p index member is one (limits_over q p searched there c.members.from index starter.none c.members.invariant.limits);
    }
