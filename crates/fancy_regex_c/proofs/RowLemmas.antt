-- Rows of spans, one after another.
use Rattle.std.proofs.Common.{◌≡◌, ◌∙◌, ◌≤◌, ◌+◌, ◌-◌, ℕ, suc, List, [], ◌∷◌, ◌++◌, Option, Some, length, map, take, drop, refl, sym, ap, arith, append_assoc, append-nil}
use borrow.Rule.Slice.PartMut.{mid_of, put_mid, mid_len, same_len_mid, Post-is}
use Rattle.std.proofs.lemmas.List.{length-append, length-map, take_at, drop_at, drop-drop}
use Rattle.std.proofs.lemmas.List.FromFn.{length-range_with_len}
use Rattle.std.specs.List.{range_with_len}
use Rattle.fancy_regex.specs.declared.Span.{Span as Found}
use Rattle.fancy_regex.specs.CaptureIterations.{groups_of_each}
use Rattle.fancy_regex.specs.Groups.{spans_of}
use Rattle.fancy_regex.specs.MatchList.{MatchItem}
use Rattle.fancy_regex_c.specs.declared.plain.Request.{Request}
use Rattle.fancy_regex_c.specs.declared.plain.Span.{Span}
use Rattle.fancy_regex_c.specs.Lists.{Listing, GivesItem, GivesItems, joined, AreRows}
use Rattle.fancy_regex_c.specs.Searches.{crossing, AreGroups}
use Rattle.fancy_regex_c.proofs.ListLemmas.{gives_last}

joined-append : {A : Type 0} (rows : List (List A)) (row : List A) → joined (rows ++ (row ∷ [])) ≡ joined rows ++ row
joined-append {A} [] row = append-nil row
joined-append {A} (x ∷ rows) row = ap (λ (z : List A). x ++ z) (joined-append rows row) ∙ sym (append_assoc x (joined rows) row)

rows-append : (w : ℕ) (rows : List (List Span)) (row : List Span) → AreRows w rows → length row ≡ w → AreRows w (rows ++ (row ∷ []))
rows-append w [] row are long = (long, tt)
rows-append w (x ∷ rows) row (first, rest) long = (first, rows-append w rows row rest long)

-- spans that are the groups, as many as there are
pub row_is : (groups : List (Option Found)) (row : List Span) → length row ≡ length groups → AreGroups groups row → row ≡ map crossing groups
row_is [] [] long are = refl
row_is [] (s ∷ row) long are = absurd (omega (arith, long))
row_is (g ∷ groups) [] long are = absurd (omega (arith, long))
row_is (g ∷ groups) (s ∷ row) long are =
    let here : Some s ≡ Some (crossing g) = are 0 (omega arith) in
    let first : s ≡ crossing g = cc in
    let rest : row ≡ map crossing groups = row_is groups row (omega (arith, long)) (λ k h. are (suc k) (omega (arith, h))) in
    rw (first, rest) refl

-- each match has the groups of the regex
pub first_long : (n : ℕ) (items : List MatchItem) (spans : List (Option Found)) (rest : List (List (Option Found))) → groups_of_each n items ≡ spans ∷ rest → length spans ≡ n
first_long n [] spans rest e = absurd (cc)
first_long n (i ∷ items) spans rest e =
    let same : spans_of n i.found ≡ spans = cc in
    ap length (sym same) ∙ (length-map (range_with_len 0 n) _ ∙ length-range_with_len 0 n)

-- What a buffer is in which a row was put, for which there is room from the spans that are used on.
pub record RowFits (used width : ℕ) (now row : List Span) : Type 0 where
  pub long : length row ≡ width
  pub same : length (put_mid used (used + width - used) now row) ≡ length now
  pub inside : used + width ≤ length (put_mid used (used + width - used) now row)
  pub put : put_mid used (used + width - used) now row ≡ take used now ++ (row ++ drop (used + width) now)

pub row_fits : (used width : ℕ) (now row : List Span) → used ≤ length now → width ≤ length now - used → length row ≡ length (mid_of used (used + width - used) now) → RowFits used width now row
row_fits used width now row inside room kept =
    let fits : used + width ≤ length now = omega (arith, inside, room) in
    let middle = mid_len used (used + width) now fits in
    let same = same_len_mid used (used + width - used) now row kept in
    record {
      long = omega (arith, kept, middle);
      same = same;
      inside = omega (arith, fits, same);
      put = ap (λ (z : List Span). take used now ++ (row ++ z)) (Post-is used (used + width) now (omega arith));
    }

-- How far rows are given: those of so many matches are in the buffer, in so many spans, and the list has come to this request by them.
pub record RowsGo (w : ℕ) (list : Listing (List Span)) (before at : Request) (old now : List Span) (used written : ℕ) : Type 0 where
  pub given : List (List Span)
  pub gives : GivesItems list given before at
  pub each : AreRows w given
  pub counted : length given ≡ written
  pub filled : length (joined given) ≡ used
  pub put : now ≡ joined given ++ drop used old

pub rows_go_more : (w : ℕ) (list : Listing (List Span)) (before at next : Request) (old now new : List Span) (used written : ℕ) (row : List Span)
    → GivesItem list row at next → length row ≡ w → new ≡ take used now ++ (row ++ drop (used + w) now)
    → RowsGo w list before at old now used written → RowsGo w list before next old new (used + w) (written + 1)
rows_go_more w list before at next old now new used written row gives long puts g =
    let front : take used now ≡ joined g.given = ap (take used) g.put ∙ take_at (joined g.given) (drop used old) used g.filled in
    let behind : drop used now ≡ drop used old = ap (drop used) g.put ∙ drop_at (joined g.given) (drop used old) used g.filled in
    let after : drop (used + w) now ≡ drop (used + w) old = sym (drop-drop w used now) ∙ (ap (drop w) behind ∙ drop-drop w used old) in
    let more : joined (g.given ++ (row ∷ [])) ≡ joined g.given ++ row = joined-append g.given row in
    record {
      given = g.given ++ (row ∷ []);
      gives = gives_last list g.given row before at next g.gives gives;
      each = rows-append w g.given row g.each long;
      counted = length-append g.given (row ∷ []) ∙ ap (λ (n : ℕ). n + 1) g.counted;
      filled = (let whole : length (joined g.given ++ row) ≡ length (joined g.given) + length row = length-append (joined g.given) row in ap length more ∙ (whole ∙ rw (g.filled, long) refl));
      put = puts ∙ (ap (λ (z : List Span). z ++ (row ++ drop (used + w) now)) front ∙ (ap (λ (z : List Span). joined g.given ++ (row ++ z)) after
          ∙ (sym (append_assoc (joined g.given) row (drop (used + w) old)) ∙ ap (λ (z : List Span). z ++ drop (used + w) old) (sym more))));
    }
