use Rattle.std.proofs.Common.{◌≡◌, ◌↔◌, true}
use Rattle.fancy_alphabet.specs.Sides.{side_of}
use Rattle.fancy_alphabet.proofs.AlikeLemmas.{mark_more}
use Rattle.fancy_alphabet.proofs.alike.sided.Goals as goal

pub loop-byte-preserved : goal.loop-byte-preserved
loop-byte-preserved c =
    mark_more (λ byte mark. (mark ≡ true) ↔ (side_of byte ≡ c.args.side)) c.loop-byte.byte c.loop-byte.marks.items c.push.new.self.items c.is_sided.result
    c.loop-byte.invariant c.in_ok-push.ensures.items c.is_sided.ensures
