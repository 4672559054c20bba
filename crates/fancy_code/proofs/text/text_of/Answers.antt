use Rattle.std.proofs.Common.{ℕ, List, sym, subst}
use Rattle.fancy_code.specs.Code.{instrs_of}
use Rattle.fancy_code.specs.Texts.{ConsumesTo}
use Rattle.fancy_code.proofs.TextLemmas.{consumes_none, consumes_more}
use Rattle.fancy_code.proofs.text.text_of.Goals as goal

pub loop-init : goal.loop-init
loop-init c =
    subst (λ (text : List ℕ). ConsumesTo (instrs_of c.args.code.now) c.args.code.now.meaning text c.args.head c.args.head) (sym c.new-bytes.ensures.items)
    (consumes_none (instrs_of c.args.code.now) c.args.code.now.meaning c.args.head)

pub loop-preserved : goal.loop-preserved
loop-preserved c =
    subst (λ (text : List ℕ). ConsumesTo (instrs_of c.args.code.now) c.args.code.now.meaning text c.args.head c.in-Some.letter.next) (sym c.in_ok-push.ensures.items)
    (consumes_more (instrs_of c.args.code.now) c.args.code.now.meaning c.loop.bytes.items c.args.head c.loop.at c.in-Some.letter.byte c.in-Some.letter.next c.loop.invariant
    c.in-Some.ensures.low c.in-Some.ensures.is)

pub returns-in_default : goal.returns-in_default
returns-in_default c = c.text_with.ensures c.args.head c.loop.invariant

pub returns : goal.returns
returns c = c.text_with-2.ensures c.args.head c.loop.invariant
