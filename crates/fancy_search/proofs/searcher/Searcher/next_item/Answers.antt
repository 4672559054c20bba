use Rattle.std.proofs.Common.{rules, refl, ◌∙◌, ap}
use Rattle.fancy_input.specs.declared.input.Request.{Request}
use Rattle.fancy_search.specs.FoundItems.{item_in}
use Rattle.fancy_search.specs.Searchers.{item_next, scan_of, standing_of}
use Rattle.fancy_search.proofs.IterationStepLemmas.{gives, scan_after, stands_after}
use Rattle.fancy_search.proofs.ScanLemmas.{scan_sound}
use Rattle.fancy_search.proofs.KeptTablesLemmas.{keeps_moved}
use Rattle.fancy_search.proofs.searcher.Searcher.next_item.Goals as goal

pub returns-in-Ok-Some-clause-goes_on : goal.returns-in-Ok-Some-clause-goes_on
returns-in-Ok-Some-clause-goes_on g c =
    stands_after g.S.Haystack.text g.S.Haystack.bytes c.args.program.now c.args.self.now.haystack c.upcoming.new.self.haystack c.args.self.now.request c.go_after.new.self.request c.go_after.new.self.ended c.go_after.new.self.continues c.go_after.new.self.skips_empty c.upcoming.new.cache (item_next g.S.Haystack.text g.S.Haystack.bytes c.args.program.now c.args.self.now) c.in-Ok-Some.item
    c.upcoming.ensures.haystack (c.go_after.ensures.goes.ended ∙ c.upcoming.ensures.ended) c.go_after.ensures.stands c.go_after.ensures.goes.continues c.go_after.ensures.goes.skips_empty

pub returns-in-Ok-Some-clause-steps : goal.returns-in-Ok-Some-clause-steps
returns-in-Ok-Some-clause-steps g c =
    let before = c.args.self.now in
    let after = c.go_after.new.self in
    let same = scan_after g.S.Haystack.text g.S.Haystack.bytes c.args.program.now before.haystack after.haystack before.request after.request (c.go_after.ensures.goes.haystack ∙ c.upcoming.ensures.haystack) (c.go_after.ensures.goes.request ∙ ap (λ (r : Request). record r { start = after.request.start }) c.upcoming.ensures.request) in
    (gives (scan_of g.S.Haystack.text g.S.Haystack.bytes c.args.program.now before) (scan_of g.S.Haystack.text g.S.Haystack.bytes c.args.program.now after) (standing_of before) (standing_of after) (item_in c.upcoming.new.cache (item_next g.S.Haystack.text g.S.Haystack.bytes c.args.program.now before) c.in-Ok-Some.item)
    (scan_sound c.args.program.now (g.S.Haystack.text before.haystack) (g.S.Haystack.bytes before.haystack) before.request before.inside) c.if-self.false (search rules) same (returns-in-Ok-Some-clause-goes_on g c)).items

pub returns-in-Ok-Some-clause-keeps_end : goal.returns-in-Ok-Some-clause-keeps_end
returns-in-Ok-Some-clause-keeps_end g c =
    let before = c.args.self.now in
    let after = c.go_after.new.self in
    let same = scan_after g.S.Haystack.text g.S.Haystack.bytes c.args.program.now before.haystack after.haystack before.request after.request (c.go_after.ensures.goes.haystack ∙ c.upcoming.ensures.haystack) (c.go_after.ensures.goes.request ∙ ap (λ (r : Request). record r { start = after.request.start }) c.upcoming.ensures.request) in
    (gives (scan_of g.S.Haystack.text g.S.Haystack.bytes c.args.program.now before) (scan_of g.S.Haystack.text g.S.Haystack.bytes c.args.program.now after) (standing_of before) (standing_of after) (item_in c.upcoming.new.cache (item_next g.S.Haystack.text g.S.Haystack.bytes c.args.program.now before) c.in-Ok-Some.item)
    (scan_sound c.args.program.now (g.S.Haystack.text before.haystack) (g.S.Haystack.bytes before.haystack) before.request before.inside) c.if-self.false (search rules) same (returns-in-Ok-Some-clause-goes_on g c)).end

pub returns-in-Err-clause-steps : goal.returns-in-Err-clause-steps
returns-in-Err-clause-steps g c = (c.in-Err.ensures.refused, rw c.refuse.ensures.ended refl)

pub upcoming-requires-clause-kept : goal.upcoming-requires-clause-kept
upcoming-requires-clause-kept g c = c.requires.kept c.if-self.false

pub returns-in-Ok-Some-clause-kept : goal.returns-in-Ok-Some-clause-kept
returns-in-Ok-Some-clause-kept g c running =
    keeps_moved g.S.Haystack.bytes c.args.program.now c.upcoming.new.cache c.upcoming.new.self.haystack c.go_after.new.self.haystack c.upcoming.new.self.request c.go_after.new.self.request c.upcoming.new.self.kept c.go_after.new.self.kept c.in-Ok-Some.item.found.end
    c.go_after.ensures.goes.haystack c.go_after.ensures.goes.request c.go_after.ensures.goes.kept c.go_after.ensures.moved (rw c.in-Ok-Some.field-0-is at c.in-Ok-Some.ensures.kept)
