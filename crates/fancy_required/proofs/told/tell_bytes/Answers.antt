use Rattle.std.proofs.Common.{◌+◌, [], ◌∷◌, drop, arith, slice_index}
use Rattle.fancy_required.specs.Told.{TellsText}
use Rattle.fancy_required.specs.declared.told.Told.TheVariants.{One}
use Rattle.fancy_required.proofs.ToldLemmas.{all_told, byte_on, on, text_end}
use Rattle.fancy_required.proofs.told.tell_bytes.Goals as goal

pub loop-i-preserved : goal.loop-i-preserved
loop-i-preserved c =
    let bytes = c.args.bytes.now in
    let i = c.loop-i.i in
    let b = slice_index bytes i in
    on (TellsText (drop i bytes)) (TellsText (drop (i + 1) bytes)) (TellsText bytes) c.args.told.now.items c.loop-i.told.items c.push.new.self.items (One b ∷ [])
    (λ more h. byte_on bytes i more (omega arith) h)
    c.in_ok-push.ensures.items c.loop-i.invariant

pub returns : goal.returns
returns c =
    all_told (TellsText (drop c.loop-i.i c.args.bytes.now)) (TellsText c.args.bytes.now) c.args.told.now.items c.loop-i.told.items
    (text_end c.args.bytes.now c.loop-i.i (omega arith)) c.loop-i.invariant
