use Rattle.std.proofs.Common.{◌≡◌, sym, ap, ◌∙◌, true}
use Rattle.fancy_meaning.specs.Tried.{may_begin}
use Rattle.fancy_search.specs.Programs.{query_in}
use Rattle.fancy_search.specs.Starts.{may_start}
use Rattle.fancy_search.proofs.SearchedLemmas.{lacking_as_told}
use Rattle.fancy_search.proofs.TriedAtLemmas.{tries_unless, begins_by_next}
use Rattle.fancy_search.proofs.program.Program.is_tried.Goals as goal

pub returns-then-may_start_before-clause-tried : goal.returns-then-may_start_before-clause-tried
returns-then-may_start_before-clause-tried c =
    let q = query_in c.args.self.now c.args.asked.now in
    let may : true ≡ may_start q.sought.meaning q.sought.pattern c.byte_at-next.result = sym c.if-may_start_before.true ∙ c.may_start_before.ensures in
    let begins : may_begin q c.args.position ≡ true =
    sym (may ∙ ap (may_start q.sought.meaning q.sought.pattern) c.byte_at-next.ensures ∙ begins_by_next q c.args.position c.args.asked.now.inside) in
    tries_unless c.args.self.now q c.args.position c.if-not-self.false begins c.are_lacking.result
    (c.are_lacking.ensures.value ∙ lacking_as_told c.args.self.now c.args.asked.now)
