use Rattle.std.proofs.Common.{◌<◌, List, ℕ, length, sym, ap, subst, ◌∙◌, arith}
use Rattle.fancy_prefilter.specs.Keys.{AreRising, AreCovered}
use Rattle.fancy_prefilter.proofs.KeyLemmas.{fits, is_there}
use Rattle.fancy_prefilter.proofs.key_table.KeyTable.new.Goals as goal

pub invariant_of-result : goal.invariant_of-result
invariant_of-result c =
    let told = c.is_sound.ensures in
    let sound = c.if-not-is_sound.false in
    let starts = c.deref-4.ensures.value in
    let members = c.deref-5.ensures.value in
    record {
      wide = omega (arith, c.if-width-eq0.false);
      sized = ap length (sym starts) ∙ told.sized sound;
      rising = subst (λ (xs : List ℕ). AreRising c.in_ok-starts.starts.items xs) members
          (subst (λ (xs : List ℕ). AreRising xs c.deref-5.result.now) starts (told.rising sound));
    }

pub returns-clause-tells : goal.returns-clause-tells
returns-clause-tells c number row haystack end p get bytes stands =
    let rows = c.args.rows.now in
    let width : ℕ = c.width_of-width.result in
    let some : 0 < width = omega (arith, c.if-width-eq0.false) in
    let covered = subst (λ (xs : List ℕ). AreCovered c.in_ok-starts.starts.items xs rows width) c.deref-5.ensures.value
    (subst (λ (xs : List ℕ). AreCovered xs c.deref-5.result.now rows width) c.deref-4.ensures.value (c.is_sound.ensures.covered c.if-not-is_sound.false)) in (
      fits c.in_ok-starts.starts.items c.in_ok-members.members.items haystack number width row.items end p some (covered number row get) stands,
      is_there c.in_ok-starts.starts.items c.in_ok-members.members.items haystack number width row.items end p some (covered number row get) stands bytes,
    )
