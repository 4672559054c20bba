use Rattle.std.proofs.Common.{refl, sym, ◌∙◌, arith}
use Rattle.std.proofs.lemmas.Option.{slice_get_read}
use Rattle.fancy_regex.proofs.StrictestLemmas.{first_decides, one_more_keeps}
use Rattle.fancy_regex.proofs.set.strictest.Goals as goal

pub loop-index-preserved : goal.loop-index-preserved
loop-index-preserved c =
    let members = c.args.members.now in
    let index = c.loop-index.index in
    let member = c.index-members-index.result in
    one_more_keeps members index member (slice_get_read members _ index member refl c.loop-index-test.true c.index-members-index.is)
    (sym c.keeps_characters.ensures ∙ c.if-not-keeps_characters.false) c.loop-index.invariant

pub returns-then-not-keeps_characters : goal.returns-then-not-keeps_characters
returns-then-not-keeps_characters c =
    let members = c.args.members.now in
    let index = c.loop-index.index in
    let member = c.index-members-index.result in
    first_decides members index member (slice_get_read members _ index member refl c.loop-index-test.true c.index-members-index.is) c.loop-index-test.true
    (sym c.keeps_characters.ensures ∙ c.if-not-keeps_characters.true)

pub returns : goal.returns
returns c = record { inside = λ some. some; decides = λ d keeps k e within. c.loop-index.invariant k e (omega (arith, within, c.loop-index-test.false)) }
