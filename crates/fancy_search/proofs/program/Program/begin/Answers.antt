use Rattle.std.proofs.Common.{◌≡◌, ◌≤◌, ◌+◌, ◌-◌, ◌*◌, ◌∙◌, ℕ, not, ap, arith, refl, sym, subst, true≢false}
use Rattle.fancy_input.specs.Work.{steps_of}
use Rattle.fancy_meaning.specs.Search.{Query, search}
use Rattle.fancy_runner.specs.KeptTable.{past_tried}
use Rattle.fancy_runner.specs.Searched.{answer_past}
use Rattle.fancy_search.specs.Programs.{program_length}
use Rattle.fancy_input.specs.Requests.{effective_start}
use Rattle.fancy_code.proofs.ClassifyLemmas.{easy_code}
use Rattle.fancy_search.proofs.LaterLemmas.{all_answered, later_search, none_is, paid_before, past_answered, where_none, without_filters}
use Rattle.fancy_search.proofs.SearchedLemmas.{known, nowhere}
use Rattle.fancy_search.proofs.ProgramSizeLemmas.{parts_of_easy}
use Rattle.fancy_search.proofs.program.Program.begin.Goals as goal
use Rattle.fancy_search.proofs.program.Program.begin.Goals.{then-is_none+else-search-request, else-is_none}

pub search-requires-clause-easy : goal.search-requires-clause-easy
search-requires-clause-easy c = easy_code _ (c.args.self.now.light (parts_of_easy _ _ _ c.requires.easy).0)

pub returns-in-Ok-clause-begun : goal.returns-in-Ok-clause-begun
returns-in-Ok-clause-begun c =
    let none = none_is c.in-Ok.searched.found (c.is_none.ensures ∙ ap not c.if-is_none.true) in
    let from : effective_start c.args.request ≤ c.in-Ok.searched.reached = c.in-Ok.ensures.forth in
    let to : c.in-Ok.searched.reached ≤ c.args.request.range_end = c.if-search-request.true in
    let left = rw none at c.in-Ok.ensures.left_off (rw c.requires.unanchored (omega (arith, from, to))) in
    let begins : effective_start (record c.args.request { start = c.in-Ok.searched.reached }) ≡ c.in-Ok.searched.reached = omega (arith, from) in
    let length = program_length c.args.self.now in
    record {
      same = λ on later.
          later_search c.args.self.now c.args.haystack.now c.args.request c.in-Ok.searched.reached on later c.requires.easy c.requires.inside c.requires.unanchored from to
          ∙ without_filters c.args.self.now c.args.haystack.now c.args.request on c.requires.easy (λ (q : Query). answer_past q c.in-Ok.searched.reached ≡ search q) (known _ _ c.args.self.now.compiled
          (λ compiled. past_answered _ _ c.in-Ok.searched (rw (c.args.self.now.meant, c.for_search.ensures) at (c.in-Ok.ensures.answer _ on compiled.coded)) none));
      ends = refl;
      free = refl;
      paid = subst (λ (s : ℕ). steps_of c.search.new.work + length * (c.args.request.range_end + 1 - s) ≤ steps_of c.args.work.now + length * (c.args.request.range_end + 1 - effective_start c.args.request)) (sym begins)
          (paid_before length (effective_start c.args.request) c.in-Ok.searched.reached (c.args.request.range_end + 1) (steps_of c.args.work.now) (steps_of c.search.new.work) from (omega (arith, to)) left.paid);
      units = c.search.ensures.heeds.units;
      tried = λ on none.
          (let never : 1 ≡ 0 = nowhere c.args.self.now c.args.haystack.now c.args.request on 0 1 (λ k. omega (arith, c.type_inv.haystack k)) none (λ starts. absurd (left.starts starts)) in cc);
    }

pub returns-in-Ok-2-clause-begun : goal.returns-in-Ok-2-clause-begun
returns-in-Ok-2-clause-begun c on =
    let easy = parts_of_easy _ _ _ c.requires.easy in
    let ended = where_none c.in-Ok.searched.found (past_tried c.args.request ≤ c.in-Ok.searched.reached)
    (λ none. elim c.if-is_none.branch [
      | then-is_none+else-search-request w ↦ rw c.requires.unanchored (omega (arith, w.if-search-request.false, c.in-Ok.ensures.forth))
      | else-is_none w ↦ absurd (true≢false (sym (c.is_none.ensures ∙ ap not w.if-is_none.false) ∙ none))
    ]) in
    rw (easy.1, easy.2) (known _ _ c.args.self.now.compiled
    (λ compiled. all_answered _ _ c.in-Ok.searched (rw (c.args.self.now.meant, c.for_search.ensures) at (c.in-Ok.ensures.answer _ on compiled.coded)) ended))

pub returns-in-Ok-clause-idle : goal.returns-in-Ok-clause-idle
returns-in-Ok-clause-idle c on none =
    nowhere c.args.self.now c.args.haystack.now c.args.request on _ _ (λ k. omega (arith, c.type_inv.haystack k)) none c.search.ensures.idle

pub returns-in-Ok-2-clause-idle : goal.returns-in-Ok-2-clause-idle
returns-in-Ok-2-clause-idle c on none =
    nowhere c.args.self.now c.args.haystack.now c.args.request on _ _ (λ k. omega (arith, c.type_inv.haystack k)) none c.search.ensures.idle

pub returns-in-Err-clause-idle : goal.returns-in-Err-clause-idle
returns-in-Err-clause-idle c on none =
    nowhere c.args.self.now c.args.haystack.now c.args.request on _ _ (λ k. omega (arith, c.type_inv.haystack k)) none c.search.ensures.idle
