use Rattle.std.proofs.Common.{◌≡◌, ◌<◌, [], length, sym, subst, ◌∙◌, arith}
use Rattle.fancy_bytes.specs.Sets.{ByteFlags}
use Rattle.fancy_bytes.specs.Rows.{set_at}
use Rattle.fancy_code.specs.Choices.{BeginsAmong}
use Rattle.fancy_code.specs.Code.{instrs_of}
use Rattle.fancy_code.proofs.ChoosingLemmas.{by_first, first_default, some_sets}
use Rattle.fancy_code.proofs.EndLemmas.{begins_at_ends}
use Rattle.fancy_code.proofs.choosing.beginning_of.Goals as goal

pub returns : goal.returns
returns c =
    let sets = c.in_ok-sets.sets.items in
    let some : 0 < length sets = some_sets sets _ (omega (arith, c.in_ok-sets.sets.ok.0)) c.if-is_empty.ensures in
    let same : c.replace.result ≡ set_at sets 0 = c.replace.ensures.value ∙ c.index_mut.ensures.value ∙ first_default sets c.index_mut.result.now [] some in
    subst (λ (set : ByteFlags). BeginsAmong (instrs_of c.args.code.now) c.args.code.now.meaning set c.args.at) (sym same)
    (by_first (instrs_of c.args.code.now) c.args.code.now.meaning sets c.args.at c.in_ok-sets.ensures some)

pub returns-then-ends_there : goal.returns-then-ends_there
returns-then-ends_there c =
    begins_at_ends (instrs_of c.args.code.now) c.args.code.now.meaning c.bytes_at_end.result c.args.at c.bytes_at_end.ensures (c.ends_there.ensures c.if-ends_there.true)
