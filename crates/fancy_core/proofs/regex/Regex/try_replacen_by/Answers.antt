use Rattle.std.proofs.Common.{inl, sym}
use Rattle.fancy_search.proofs.ResultLemmas.{if_err}
use Rattle.fancy_core.specs.Replacing.{replacing}
use Rattle.fancy_core.proofs.AllowedLemmas.{if_both}
use Rattle.fancy_core.proofs.ReplaceLemmas.{filled_replaces, fixed_stays}
use Rattle.fancy_core.proofs.regex.Regex.try_replacen_by.Goals as goal

pub returns-in-Some-clause-text : goal.returns-in-Some-clause-text
returns-in-Some-clause-text g c =
    let k = replacing g.R.Replacer.fixed g.R.Replacer.appends g.R.Replacer.refuses c.args.self.now c.args.text.now c.args.limit in
    if_both _ _ _ (λ a w allowed. (filled_replaces k _ c.in-Some.fixed.now _ (sym c.in-Some.ensures) w, allowed)) c.fill.result c.fill.ensures.text c.fill.ensures.allowed

pub returns-in-Some-clause-refused : goal.returns-in-Some-clause-refused
returns-in-Some-clause-refused g c =
    let k = replacing g.R.Replacer.fixed g.R.Replacer.appends g.R.Replacer.refuses c.args.self.now c.args.text.now c.args.limit in
    if_err _ _ (λ e w. inl (fixed_stays k _ c.in-Some.fixed.now e (sym c.in-Some.ensures) w)) c.fill.result c.fill.ensures.refused
