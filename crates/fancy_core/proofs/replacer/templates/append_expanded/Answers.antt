use Rattle.std.proofs.Common.{refl}
use Rattle.fancy_core.specs.GroupTexts.{bytes_of_str, expansion_of, seen_in}
use Rattle.fancy_core.proofs.FixedLemmas.{fixed_is_expansion}
use Rattle.fancy_search.proofs.ResultLemmas.{if_ok}
use Rattle.fancy_core.proofs.replacer.templates.append_expanded.Goals as goal

pub returns-clause-ok : goal.returns-clause-ok
returns-clause-ok c =
    let template = c.args.template.now in
    let seen = seen_in bytes_of_str c.args.captures.now in
    if_ok _ _ (λ _ e. (expansion_of template seen, e, record { value = refl; fixed = λ x f. fixed_is_expansion template seen x (expansion_of template seen) f refl })) c.expand.result c.expand.ensures.value
