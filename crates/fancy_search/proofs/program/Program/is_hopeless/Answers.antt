use Rattle.std.proofs.Common.{sym, ◌∙◌}
use Rattle.fancy_search.specs.Programs.{query_in}
use Rattle.fancy_search.proofs.SearchedLemmas.{lacking_as_told, lacking_none, stands_all, hopeless}
use Rattle.fancy_search.proofs.program.Program.is_hopeless.Goals as goal

pub returns-clause-none : goal.returns-clause-none
returns-clause-none c e =
    let told = sym (lacking_as_told c.args.self.now c.args.asked.now) ∙ sym c.are_lacking.ensures.value ∙ e in
    lacking_none (query_in c.args.self.now c.args.asked.now) told

pub returns-clause-seeks : goal.returns-clause-seeks
returns-clause-seeks c e =
    let told = sym (lacking_as_told c.args.self.now c.args.asked.now) ∙ sym c.are_lacking.ensures.value ∙ e in
    stands_all c.args.self.now (query_in c.args.self.now c.args.asked.now) told

pub returns-clause-hard : goal.returns-clause-hard
returns-clause-hard c hard e =
    let told = sym (lacking_as_told c.args.self.now c.args.asked.now) ∙ sym c.are_lacking.ensures.value ∙ e in
    hopeless c.args.self.now (query_in c.args.self.now c.args.asked.now)
    (sym (c.looks_for_required.ensures.unasked hard) ∙ c.if-not-looks_for_required.false) told
