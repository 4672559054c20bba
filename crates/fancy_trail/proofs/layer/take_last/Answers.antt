use Rattle.std.proofs.Common.{◌≡◌, ◌-◌, ◌<◌, ◌∙◌, Some, arith, set, subst, sym, take}
use Rattle.std.proofs.lemmas.Bool.{lt-ltb}
use Rattle.std.proofs.lemmas.List.{get_or_default}
use Rattle.fancy_trail.specs.declared.layer.Layer.{Layer}
use Rattle.fancy_trail.specs.Layers.{TookLast, earlier}
use Rattle.fancy_trail.proofs.LayerLemmas.{last_set}
use Rattle.fancy_trail.proofs.layer.take_last.Goals as goal

pub returns-then-earlier-gt0 : goal.returns-then-earlier-gt0
returns-then-earlier-gt0 c =
    let more : 0 < earlier c.index-layer.result.now = omega (arith, c.if-earlier-gt0.true, c.earlier.ensures) in
    let s = last_set (c.len-len.result - 1) c.args.layers.now.items c.index-layer.result.now _ (omega (arith, c.len-len.ensures, c.if-len-eq0.false, c.args.layers.now.ok.0)) c.index-layer.ensures in
    let l = c.index-layer.result.now in
    let same : l ≡ c.index_mut.result.now =
    c.index-layer.ensures ∙ get_or_default c.args.layers.now.items (c.len-len.result - 1) l c.index_mut.result.now (omega (arith, c.len-len.ensures, c.if-len-eq0.false, c.args.layers.now.ok.0)) ∙ sym c.index_mut.ensures.value in
    subst (λ (x : Layer). TookLast (Some l) c.args.layers.now.items (set c.args.layers.now.items (c.len-len.result - 1) (record x { place = l.place - 1 }))) same
    (take (c.len-len.result - 1) c.args.layers.now.items, s.0, rw (lt-ltb 0 (earlier l) more) s.1)
