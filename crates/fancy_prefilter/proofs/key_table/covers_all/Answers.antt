use Rattle.std.proofs.Common.{◌≡◌, ℕ, inl, inr, ◌<◌, Some, List, length, sym, ap, subst, ◌∙◌, arith, slice_get, take}
use Rattle.std.proofs.lemmas.Bool.{cases_eq}
use Rattle.std.proofs.lemmas.Option.{get_or_from_slice_get, slice_get_within}
use Rattle.std.specs.Global.{Vec}
use Rattle.fancy_bytes.specs.Sets.{ByteFlags}
use Rattle.fancy_prefilter.specs.Keys.{Covers, IsCovered}
use Rattle.fancy_prefilter.proofs.key_table.covers_all.Goals as goal

pub loop-number-preserved : goal.loop-number-preserved
loop-number-preserved c k row lt get =
    elim (cases_eq k c.loop-number.number) [
      | inl same ↦
          let at : slice_get c.args.rows.now c.loop-number.number ≡ Some row = ap (λ (i : ℕ). slice_get c.args.rows.now i) (sym same) ∙ get in
          let is : c.index-rows-number.result ≡ row = c.index-rows-number.is ∙ get_or_from_slice_get c.args.rows.now c.loop-number.number row c.index-rows-number.result at in
          let items : c.deref.result.now ≡ row.items = c.deref.ensures.value ∙ ap (λ (v : Vec ByteFlags). v.items) is in
          let size : length c.deref.result.now ≡ length row.items = ap length items in
          subst (λ (n : ℕ). IsCovered c.args.starts.now c.args.members.now n c.args.width row.items) (sym same)
          (record {
            enough = omega (arith, size, c.deref.ensures.len, c.len.ensures, c.if-len-width.false);
            covered = subst (λ (sets : List ByteFlags). Covers c.args.starts.now c.args.members.now c.loop-number.number 0 (take c.args.width sets)) items
                (c.covers.ensures c.if-not-covers.false);
          })
      | inr other ↦ c.loop-number.invariant k row (omega (arith, other, lt)) get
    ]

pub returns : goal.returns
returns c e number row get =
    let within : number < length c.args.rows.now = slice_get_within c.args.rows.now number row get in
    c.loop-number.invariant number row (omega (arith, within, c.loop-number-test.false)) get
