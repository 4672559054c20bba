use Rattle.std.proofs.Common.{◌≤◌, ◌*◌, ℕ, List, refl, sym, ap, subst, arith, length}
use Rattle.std.proofs.lemmas.List.{with_items_is}
use Rattle.std.specs.Vec.{with_items}
use Rattle.fancy_regex_c.specs.declared.under_way.MatchList.{MatchList}
use Rattle.fancy_regex_c.specs.declared.plain.Span.{Span}
use Rattle.fancy_regex_c.specs.Handed.{handed_bytes, is_handed_text}
use Rattle.fancy_regex_c.specs.UnderWay.{owned_bytes, is_owned_text}
use Rattle.fancy_regex_c.proofs.MatchListLemmas.{FindsRows, finds_rows, same_rows, finds_matches, some_room}
use Rattle.fancy_regex_c.proofs.under_way.MatchList.find_more.Goals as goal

pub returns-clause-found : goal.returns-clause-found
returns-clause-found c done =
    let l = c.args.self.now in
    let m : MatchList = record l {
      request = c.rows_in-last.new.request;
      spans = with_items c.resize.new.self c.rows_in-last.new.spans;
      progress = c.found.new.self;
    } in
    let h = c.lend-haystack.result in
    let old = c.deref_mut.result.now in
    let rows = finds_rows l.regex.value (is_handed_text h) (handed_bytes h) l.request c.rows_in-last.new.request old c.rows_in-last.new.spans c.rows_in-last.new.written c.rows_in-last.result l.has_groups
    (rw c.deref.ensures at c.rows_in-last.ensures.groups) (rw c.deref.ensures at c.rows_in-last.ensures.alone) in
    let lent = c.lend-haystack.ensures in
    let there = same_rows l.has_groups l.regex.value (is_handed_text h) (is_owned_text l.haystack) (handed_bytes h) (owned_bytes l.haystack) l.request c.rows_in-last.new.request old c.rows_in-last.new.spans
    c.rows_in-last.new.written c.rows_in-last.result lent.text lent.bytes rows in
    let same = ap length c.deref_mut.ensures.value in
    let long = c.in-Ok.ensures.len in
    let short = c.deref_mut.type_inv.1 in
    let wanted = c.saturating_mul-wanted.ensures in
    let width = c.width.ensures in
    let fits : l.progress.room * c.width.result ≤ length old = omega (arith, same, long, short, wanted) in
    let kept = c.rows_in-last.auto.spans in
    let full = c.resize.new.self.ok.0 in
    let put = with_items_is c.resize.new.self c.rows_in-last.new.spans (omega (arith, kept, same, full)) in
    finds_matches l m refl old c.rows_in-last.new.written c.rows_in-last.result (λ some. subst (λ (n : ℕ). n ≤ length old) width (some_room l.progress.room c.width.result (length old) fits some)) c.found.ensures.given c.found.ensures.room c.found.ensures.ready c.found.ensures.last c.if-last-eq-NO_MEMORY.false
    (subst (λ (z : List Span). FindsRows l.has_groups l.regex.value (is_owned_text l.haystack) (owned_bytes l.haystack) l.request c.rows_in-last.new.request old z c.rows_in-last.new.written c.rows_in-last.result) (sym put) there)
