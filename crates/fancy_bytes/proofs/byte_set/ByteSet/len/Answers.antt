use Rattle.std.proofs.Common.{ap, arith, refl, length, slice_index}
use Rattle.fancy_bytes.specs.Sets.{all_members}
use Rattle.fancy_bytes.proofs.SetLemmas.{count_words}
use Rattle.fancy_bytes.proofs.byte_set.ByteSet.len.Goals as goal

pub returns : goal.returns
returns c =
    let words = c.self.inside.words in
    let told = c.self.told in
    let counted = count_words words (slice_index words 0) (slice_index words 1) (slice_index words 2) (slice_index words 3) (omega arith) (omega arith) (omega arith) (omega arith) refl refl refl refl in
    let same = ap (λ x. length (all_members x)) c.self.view_is in omega (arith, counted, same)
