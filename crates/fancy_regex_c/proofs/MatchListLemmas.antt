-- A list of matches that finds more of them, and gives them.
use Rattle.std.specs.Prelude.{⊤}
use Rattle.std.proofs.Common.{◌≡◌, ◌∙◌, ◌<◌, ◌≤◌, ◌+◌, ◌-◌, ◌*◌, ◌^◌, ◌⊎◌, min, ℕ, zero, suc, Bool, true, false, List, [], ◌∷◌, ◌++◌, length, map, take, drop, get_or, vec_items, refl, sym, ap, subst, arith, append_assoc, inl, inr}
use Rattle.std.proofs.Math.Nat.{le_trans, mul-le-mul_right, zero-mul, suc-mul}
use Rattle.std.proofs.lemmas.List.{length-append, length-take, take_at, drop_at, drop-drop, get_or-take, get_or-drop, get_or_past}
use Rattle.fancy_regex.specs.declared.Regex.{Regex}
use Rattle.fancy_regex.specs.Regexes.{group_count_in}
use Rattle.fancy_regex_c.specs.declared.plain.Request.{Request}
use Rattle.fancy_regex_c.specs.declared.plain.Span.{Span}
use Rattle.fancy_regex_c.specs.declared.under_way.MatchList.{MatchList}
use Rattle.fancy_regex_c.specs.declared.under_way.Progress.{Progress}
use Rattle.fancy_regex_c.specs.Asked.{says_text, IsPlaceIn}
use Rattle.fancy_regex_c.specs.Courses.{WantsMore, HasEnded, Follows}
use Rattle.fancy_regex_c.specs.Courses as Next
use Rattle.fancy_regex_c.specs.Lists.{spans_listed, rows_listed, joined, AreRows, AsksTheSame, EndsAt, is_full, is_ended, is_refused, TellsRowsIn, TellsSpansIn, is_given, is_no_place}
use Rattle.fancy_regex_c.specs.NextMatches.{width_by, rows_of, listed_by, list_listing, match_course, IsMatchListOf, FindsMatches, ReadiesMatches, IsRow, IsNewMatchListOf, MovesMatchList, has_some, finds}
use Rattle.fancy_regex_c.specs.UnderWay.{owned_bytes, is_owned_text}
use Rattle.fancy_regex_c.proofs.CourseLemmas.{refusal_is, IsReady, stays_ready, found_ready, follows_on, follows_some, unended, tells_given, tells_end, tells_memory}
use Rattle.fancy_regex_c.proofs.ListLemmas.{given_order, given_same}

-- rows that are joined are cut into the same rows
rows_back : (w : ℕ) (rows : List (List Span)) (rest : List Span) → AreRows w rows → rows_of (length rows) w (joined rows ++ rest) ≡ rows
rows_back w [] rest are = refl
rows_back w (row ∷ rows) rest (long, are) =
    let apart : (row ++ joined rows) ++ rest ≡ row ++ (joined rows ++ rest) = append_assoc row (joined rows) rest in
    let first : take w (row ++ (joined rows ++ rest)) ≡ row = take_at row (joined rows ++ rest) w long in
    let more : drop w (row ++ (joined rows ++ rest)) ≡ joined rows ++ rest = drop_at row (joined rows ++ rest) w long in
    rw (apart, first, more) (ap (λ (z : List (List Span)). row ∷ z) (rows_back w rows rest are))

length-joined : (w : ℕ) (rows : List (List Span)) → AreRows w rows → length (joined rows) ≡ length rows * w
length-joined w [] are = sym (zero-mul w)
length-joined w (row ∷ rows) (long, are) =
    let whole : length (row ++ joined rows) ≡ length row + length (joined rows) = length-append row (joined rows) in
    let rest : length (joined rows) ≡ length rows * w = length-joined w rows are in
    let more : suc (length rows) * w ≡ length rows * w + w = suc-mul (length rows) w in
    whole ∙ omega (arith, long, rest, more)

-- the row with this index, and those after it
pub row_at : (n k w : ℕ) (spans : List Span) → k < n → drop k (rows_of n w spans) ≡ take w (drop (k * w) spans) ∷ drop (suc k) (rows_of n w spans)
row_at zero k w spans inside = absurd (omega (arith, inside))
row_at (suc n) zero w spans inside = ap (λ (k : ℕ). take w (drop k spans) ∷ rows_of n w (drop w spans)) (sym (zero-mul w))
row_at (suc n) (suc k) w spans inside =
    let next : w + k * w ≡ suc k * w = (let more = suc-mul k w in omega (arith, more)) in
    let here : drop (k * w) (drop w spans) ≡ drop (suc k * w) spans = drop-drop (k * w) w spans ∙ ap (λ (j : ℕ). drop j spans) next in
    row_at n k w (drop w spans) (omega (arith, inside)) ∙ ap (λ (z : List Span). take w z ∷ drop (suc k) (rows_of n w (drop w spans))) here

-- past the last row there is none
pub no_row : (n k w : ℕ) (spans : List Span) → n ≤ k → drop k (rows_of n w spans) ≡ []
no_row zero zero w spans past = refl
no_row zero (suc k) w spans past = refl
no_row (suc n) zero w spans past = absurd (omega (arith, past))
no_row (suc n) (suc k) w spans past = no_row n k w (drop w spans) (omega (arith, past))

-- spans one after another are rows of one span
abbrev single : List Span → List (List Span)
single spans = map (λ s. s ∷ []) spans

single_rows : (spans : List Span) → AreRows 1 (single spans)
single_rows [] = tt
single_rows (s ∷ spans) = (refl, single_rows spans)

joined_single : (spans : List Span) → joined (single spans) ≡ spans
joined_single [] = refl
joined_single (s ∷ spans) = ap (λ (z : List Span). s ∷ z) (joined_single spans)

single-append : (xs ys : List Span) → single (xs ++ ys) ≡ single xs ++ single ys
single-append [] ys = refl
single-append (x ∷ xs) ys = ap (λ (z : List (List Span)). (x ∷ []) ∷ z) (single-append xs ys)

length-single : (xs : List Span) → length (single xs) ≡ length xs
length-single [] = refl
length-single (x ∷ xs) = ap suc (length-single xs)

-- Rows of the next matches stand at the start of a buffer, with groups or not, and the list has come to another request by them.
pub record FindsRows (b : Bool) (regex : Regex) (text : Bool) (bytes : List ℕ) (before at : Request) (old new : List Span) (written last : ℕ) : Type 0 where
  pub rows : List (List Span)
  pub each : AreRows (width_by b regex) rows
  pub order : (listed_by b regex text bytes).ahead before ≡ rows ++ (listed_by b regex text bytes).ahead at
  pub same : AsksTheSame before at
  pub rest : List Span
  pub put : new ≡ joined rows ++ rest
  pub counted : written ≡ length rows
  pub some : width_by b regex ≤ length old → last ≡ 0 → 0 < length rows
  pub how : EndsAt (listed_by b regex text bytes) ⊤ at last ⊎ ((last ≡ 3) × (IsPlaceIn regex text bytes at → ⊥))

module _ (regex : Regex) (text : Bool) (bytes : List ℕ) (before at : Request) (old new : List Span) (written last : ℕ) where
  -- where nothing was searched
  nothing_found : (b : Bool) → last ≡ 3 → (IsPlaceIn regex text bytes before → ⊥) → written ≡ 0 → at ≡ before → FindsRows b regex text bytes before at old new written last
  nothing_found b e outside nothing same = record {
    rows = [];
    each = tt;
    order = ap (λ (r : Request). (listed_by b regex text bytes).ahead r) (sym same);
    same = subst (λ (r : Request). AsksTheSame before r) (sym same) refl;
    rest = new;
    put = refl;
    counted = nothing;
    some = λ wide more. absurd (omega (arith, e, more));
    how = inr (e, subst (λ (r : Request). IsPlaceIn regex text bytes r → ⊥) (sym same) outside);
  }

  with_groups : TellsRowsIn regex text bytes before at old new written last → FindsRows true regex text bytes before at old new written last
  with_groups (is_no_place e outside nothing kept same) = nothing_found true e outside nothing same
  with_groups (is_given place given gives each put counted ends) = record {
    rows = given;
    each = each;
    order = given_order (rows_listed regex text bytes) given before at gives;
    same = given_same (rows_listed regex text bytes) given before at gives;
    rest = drop (length (joined given)) old;
    put = put;
    counted = counted;
    some = some given ends;
    how = inl (how ends);
  }
    where
      some : (rows : List (List Span)) → EndsAt (rows_listed regex text bytes) (length old < length (joined rows) + group_count_in regex) at last → group_count_in regex ≤ length old → last ≡ 0 → 0 < length rows
      some [] (is_full e full) wide more = absurd (omega (arith, full, wide))
      some [] (is_ended e allowed none) wide more = absurd (omega (arith, e, more))
      some [] (is_refused (why, is, refused)) wide more = let far = refusal_is why in absurd (omega (arith, far, is, more))
      some (row ∷ rows) ends wide more = omega arith

      how : {P : Type 0} → EndsAt (rows_listed regex text bytes) P at last → EndsAt (rows_listed regex text bytes) ⊤ at last
      how (is_full e full) = is_full e tt
      how (is_ended e allowed none) = is_ended e allowed none
      how (is_refused refused) = is_refused refused

  alone : TellsSpansIn regex text bytes before at old new written last → FindsRows false regex text bytes before at old new written last
  alone (is_no_place e outside nothing kept same) = nothing_found false e outside nothing same
  alone (is_given place given gives put counted ends) = record {
    rows = single given;
    each = single_rows given;
    order = ap single (given_order (spans_listed regex text bytes) given before at gives) ∙ single-append given _;
    same = given_same (spans_listed regex text bytes) given before at gives;
    rest = drop (length given) old;
    put = put ∙ ap (λ (z : List Span). z ++ drop (length given) old) (sym (joined_single given));
    counted = counted ∙ sym (length-single given);
    some = some ends;
    how = inl (how ends);
  }
    where
      some : EndsAt (spans_listed regex text bytes) (written ≡ length old) at last → 1 ≤ length old → last ≡ 0 → 0 < length (single given)
      some (is_full e full) wide more = let long = length-single given in omega (arith, full, wide, counted, long)
      some (is_ended e allowed none) wide more = absurd (omega (arith, e, more))
      some (is_refused (why, is, refused)) wide more = let far = refusal_is why in absurd (omega (arith, far, is, more))

      how : {P : Type 0} → EndsAt (spans_listed regex text bytes) P at last → EndsAt (listed_by false regex text bytes) ⊤ at last
      how (is_full e full) = is_full e tt
      how (is_ended e allowed none) = is_ended e allowed (ap single none)
      how (is_refused refused) = is_refused refused

  pub finds_rows : (b : Bool) → (b ≡ true → TellsRowsIn regex text bytes before at old new written last) → (b ≡ false → TellsSpansIn regex text bytes before at old new written last)
      → FindsRows b regex text bytes before at old new written last
  finds_rows true groups spans = with_groups (groups refl)
  finds_rows false groups spans = alone (spans refl)

-- the same of a haystack with the same text and bytes
pub same_rows : (b : Bool) (regex : Regex) (text u : Bool) (bytes v : List ℕ) (before at : Request) (old new : List Span) (written last : ℕ) → text ≡ u → bytes ≡ v
    → FindsRows b regex text bytes before at old new written last → FindsRows b regex u v before at old new written last
same_rows b regex text u bytes v before at old new written last e f found = rw (e, f) at found

-- what the list l becomes where it has found more
module _ (l m : MatchList) (e : m ≡ record l { request = m.request; spans = m.spans; progress = m.progress }) (old : List Span) (written last : ℕ)
    (wide : 0 < l.progress.room → width_by l.has_groups l.regex.value ≤ length old) (none : m.progress.given ≡ 0) (room : 0 < l.progress.room → 0 < m.progress.room) (ready : m.progress.ready ≡ written)
    (is : m.progress.last ≡ last) (other : last ≡ 4 → ⊥)
    (f : FindsRows l.has_groups l.regex.value (is_owned_text l.haystack) (owned_bytes l.haystack) l.request m.request old (vec_items m.spans) written last) where
  abbrev found_width : ℕ
  found_width = width_by l.has_groups l.regex.value

  abbrev found_list : MatchList
  found_list = record l { request = m.request; spans = m.spans; progress = m.progress }

  counted : m.progress.ready ≡ length f.rows
  counted = ready ∙ f.counted

  cut : drop m.progress.given (rows_of m.progress.ready found_width (vec_items m.spans)) ≡ f.rows
  cut =
      ap (λ (k : ℕ). drop k (rows_of m.progress.ready found_width (vec_items m.spans))) none
      ∙ (ap (λ (k : ℕ). rows_of k found_width (vec_items m.spans)) counted
      ∙ (ap (λ (z : List Span). rows_of (length f.rows) found_width z) f.put ∙ rows_back found_width f.rows f.rest f.each))

  follows : Follows (match_course found_list)
  follows = elim f.how [ inl how ↦ by_how how | inr place ↦ Next.has_no_place (is ∙ place.0) place.1 ]
    where
      by_how : EndsAt (list_listing l) ⊤ m.request last → Follows (match_course found_list)
      by_how (is_full nil full) = Next.goes_on (is ∙ nil)
      by_how (is_ended one allowed nothing) = Next.is_at_end (is ∙ one) (allowed, nothing)
      by_how (is_refused (why, answer, refused)) = Next.is_refused (why, is ∙ answer, refused) (λ four. other (sym is ∙ four))

  pub finds_matches : FindsMatches l m
  finds_matches = subst (λ (x : MatchList). FindsMatches l x) (sym e) (record {
    same_regex = refl;
    same_haystack = refl;
    same_groups = refl;
    moved = f.same;
    found = (let whole = ap length f.put ∙ length-append (joined f.rows) f.rest in let long = length-joined found_width f.rows f.each in let many : m.progress.ready * found_width ≡ length f.rows * found_width = ap (λ (k : ℕ). k * found_width) counted in omega (arith, whole, long, many));
    finds = record {
      none_given = none;
      room = room;
      some = λ some more. (let any = f.some (wide some) (sym is ∙ more) in omega (arith, any, counted));
      same = f.order ∙ ap (λ (z : List (List Span)). z ++ (list_listing l).ahead m.request) (sym cut);
      follows = follows;
    };
  })

-- a list that has a match ready, if there is one
pub match_list_ready : (regex : Regex) (bytes : List ℕ) (r : Request) (l m : MatchList) → IsMatchListOf regex bytes r l → ReadiesMatches l m
    → IsMatchListOf regex bytes r m × (m.has_groups ≡ l.has_groups) × IsReady (match_course l) (match_course m)
match_list_ready regex bytes r l m is (has_some some same) =
    subst (λ (x : MatchList). IsMatchListOf regex bytes r x × (x.has_groups ≡ l.has_groups) × IsReady (match_course l) (match_course x)) (sym same) (is, refl, stays_ready (match_course l) some is.follows)
match_list_ready regex bytes r l m is (finds wants f) = (
  record {
    of_regex = f.same_regex ∙ is.of_regex;
    of_bytes = ap owned_bytes f.same_haystack ∙ is.of_bytes;
    of_text = ap is_owned_text f.same_haystack ∙ is.of_text;
    of_request = f.moved ∙ ap (λ (q : Request). record q { start = m.request.start; standing = m.request.standing }) is.of_request;
    room = f.finds.room is.room;
    found = λ _. f.found;
    follows = inr f.finds.follows;
  },
  f.same_groups,
  found_ready (match_course l) (match_course m) is.room
      (no_row l.progress.ready l.progress.given (width_by l.has_groups l.regex.value) (vec_items l.spans) wants.given) wants f.finds,
)

-- what a call makes of a list d that has a match ready, if there is one
module _ (regex : Regex) (bytes : List ℕ) (r : Request) (l d : MatchList) (is : IsMatchListOf regex bytes r l) (readies : ReadiesMatches l d) (p : Progress) (old new : List Span)
    (ready : p.ready ≡ d.progress.ready) (room : p.room ≡ d.progress.room) where
  abbrev moved_list : MatchList
  moved_list = record d { progress = p }

  abbrev width : ℕ
  width = width_by d.has_groups d.regex.value

  there : IsMatchListOf regex bytes r d
  there = (match_list_ready regex bytes r l d is readies).0

  is_ready : IsReady (match_course l) (match_course d)
  is_ready = (match_list_ready regex bytes r l d is readies).2

  stays : (p.given < p.ready → p.ready * width ≤ length (vec_items d.spans)) → HasEnded p ⊎ Follows (match_course moved_list) → IsMatchListOf regex bytes r moved_list
  stays found follows = record {
    of_regex = there.of_regex;
    of_bytes = there.of_bytes;
    of_text = there.of_text;
    of_request = there.of_request;
    room = (let some = there.room in omega (arith, some, room));
    found = found;
    follows = follows;
  }

  -- the spans of the match with the next number
  pub row_inside : d.progress.given < d.progress.ready → (d.progress.given + 1) * width ≤ length (vec_items d.spans)
  row_inside some =
      let long = there.found some in
      let fewer : (d.progress.given + 1) * width ≤ d.progress.ready * width = mul-le-mul_right width (omega (arith, some)) in
      le_trans fewer long

  pub moves_match : d.progress.given < d.progress.ready → p.given ≡ d.progress.given + 1 → p.last ≡ d.progress.last → IsRow new (take width (drop (d.progress.given * width) (vec_items d.spans)))
      → MovesMatchList regex bytes r l moved_list old new 0
  moves_match some given last writes =
      let next : suc d.progress.given ≡ p.given = omega (arith, given) in
      let row = take width (drop (d.progress.given * width) (vec_items d.spans)) in
      let first : (match_course d).ready ≡ row ∷ (match_course moved_list).ready = row_at d.progress.ready d.progress.given width (vec_items d.spans) some ∙ rw (next, ready) refl in
      let follows = follows_some (match_course l) (match_course d) is_ready (IsRow new) (λ _. new ≡ old) p (match_course moved_list).ready some in
      let long = there.found some in
      record {
        stays = stays (λ more. rw ready long) (inr (follows_on (match_course d) p (match_course moved_list).ready last follows));
        same_groups = (match_list_ready regex bytes r l d is readies).1;
        tells = tells_given (match_course l) (match_course d) is_ready (IsRow new) (λ _. new ≡ old) p (match_course moved_list).ready row some first last writes;
        ended = λ ended. absurd (unended (match_course l) (match_course d) is_ready (IsRow new) (λ _. new ≡ old) p (match_course moved_list).ready some ended);
      }

  pub ends_matches : d.progress.ready ≤ d.progress.given → p.given ≡ d.progress.given → p.last ≡ 1 → new ≡ old → MovesMatchList regex bytes r l moved_list old new d.progress.last
  ends_matches none given last keeps =
      let all : (match_course d).ready ≡ (match_course moved_list).ready = rw (ready, given) refl in
      let ended : HasEnded p = record { given = omega (arith, none, given, ready); told = last } in
      record {
        stays = stays (λ more. absurd (omega (arith, more, none, given, ready))) (inl ended);
        same_groups = (match_list_ready regex bytes r l d is readies).1;
        tells = tells_end (match_course l) (match_course d) is_ready (IsRow new) (λ _. new ≡ old) p (match_course moved_list).ready none all ended keeps;
        ended = λ before. (is_ready.ends before).told;
      }

-- where memory was refused
pub keeps_matches : (regex : Regex) (bytes : List ℕ) (r : Request) (l m : MatchList) (old : List Span) → IsMatchListOf regex bytes r l → WantsMore l.progress → m ≡ record l { spans = m.spans }
    → MovesMatchList regex bytes r l m old old 4
keeps_matches regex bytes r l m old is wants e = subst (λ (x : MatchList). MovesMatchList regex bytes r l x old old 4) (sym e) (record {
  stays = record {
    of_regex = is.of_regex;
    of_bytes = is.of_bytes;
    of_text = is.of_text;
    of_request = is.of_request;
    room = is.room;
    found = λ more. (let none = wants.given in absurd (omega (arith, more, none)));
    follows = elim is.follows [ inl ended ↦ inl ended | inr follows ↦ inr (follows_on (match_course l) l.progress (match_course (record l { spans = m.spans })).ready refl follows) ];
  };
  same_groups = refl;
  tells = tells_memory (match_course l) (match_course (record l { spans = m.spans })) (IsRow old) (λ _. old ≡ old) wants
      (ap (λ (z : List (List Span)). z ++ (match_course l).further) (no_row l.progress.ready l.progress.given _ _ wants.given ∙ sym (no_row l.progress.ready l.progress.given _ _ wants.given))) refl refl;
  ended = λ ended. (let told = ended.told in let more = wants.goes_on in absurd (omega (arith, told, more)));
})

same_ahead : (b : Bool) (s t : Regex) (a u : Bool) (x y : List ℕ) (q r : Request) → s ≡ t → a ≡ u → x ≡ y → q ≡ r → (listed_by b s a x).ahead q ≡ (listed_by b t u y).ahead r
same_ahead b s t a u x y q r e f d w = rw (e, f, d, w) refl

-- a list that is begun
pub new_matches : (regex : Regex) (bytes : List ℕ) (r : Request) (l : MatchList) → l.regex.value ≡ regex → owned_bytes l.haystack ≡ bytes → is_owned_text l.haystack ≡ says_text r → l.request ≡ r
    → l.progress ≡ record { ready = 0; given = 0; room = 8; last = 0 } → IsNewMatchListOf l.has_groups regex bytes r l
new_matches regex bytes r l of_regex of_bytes of_text of_request begins =
    let ready = ap (λ (p : Progress). p.ready) begins in
    let given = ap (λ (p : Progress). p.given) begins in
    let room = ap (λ (p : Progress). p.room) begins in
    let last = ap (λ (p : Progress). p.last) begins in
    let none = no_row l.progress.ready l.progress.given (width_by l.has_groups l.regex.value) (vec_items l.spans) (omega (arith, ready, given)) in
    record {
      list = record {
        of_regex = of_regex;
        of_bytes = of_bytes;
        of_text = of_text;
        of_request = subst (λ (q : Request). AsksTheSame q l.request) of_request refl;
        room = omega (arith, room);
        found = λ some. absurd (omega (arith, some, ready, given));
        follows = inr (Next.goes_on last);
      };
      groups = refl;
      all = ap (λ (z : List (List Span)). z ++ (list_listing l).ahead l.request) none
          ∙ same_ahead l.has_groups l.regex.value regex (is_owned_text l.haystack) (says_text r) (owned_bytes l.haystack) bytes l.request r of_regex of_text of_bytes of_request;
      unended = λ ended. (let told = ended.told in absurd (omega (arith, told, last)));
    }

-- a span of a row that stands in others
pub span_of_row : (spans : List Span) (index w number : ℕ) (d : Span) → number < w → get_or (take w (drop (index * w) spans)) number d ≡ get_or spans (index * w + number) d
span_of_row spans index w number d inside = get_or-take w (drop (index * w) spans) number d inside ∙ get_or-drop (index * w) spans number d

-- past its last one there is none
pub no_span : (spans : List Span) (index w number : ℕ) (d : Span) → w ≤ number → get_or (take w (drop (index * w) spans)) number d ≡ d
no_span spans index w number d past =
    let short : length (take w (drop (index * w) spans)) ≤ w = (let long = length-take w (drop (index * w) spans) in omega (arith, long)) in
    get_or_past (take w (drop (index * w) spans)) number d (omega (arith, short, past))

-- a buffer for some matches has room for one
pub some_room : (room w long : ℕ) → room * w ≤ long → 0 < room → w ≤ long
some_room room w long fits some =
    let one : 1 * w ≤ room * w = mul-le-mul_right w some in
    omega (arith, one, fits)

-- the span that is looked up is that of the row
pub looked_up : (spans : List Span) (index w number at first : ℕ) → (index + 1) * w ≤ length spans → length spans * 16 < 2 ^ 63 → number < w → first ≡ min (index * w) (2 ^ 64 - 1) → at ≡ min (first + number) (2 ^ 64 - 1)
    → (at ≡ index * w + number) × (at < length spans)
looked_up spans index w number at first fits short inside begins is =
    let more : (index + 1) * w ≡ index * w + w = (let next : index + 1 ≡ suc index = omega arith in ap (λ (k : ℕ). k * w) next ∙ suc-mul index w) in
    (omega (arith, fits, short, inside, begins, is, more), omega (arith, fits, short, inside, begins, is, more))
