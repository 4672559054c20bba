use Rattle.std.proofs.Common.{arith, ◌+◌, ◌≡◌, ◌∙◌, ℕ, ap, inl, inr}
use Rattle.std.proofs.lemmas.Bool.{cases_lt}
use Rattle.fancy_bytes.proofs.ItemBytesLemmas.{rough_encoding, wider_on}
use Rattle.fancy_bytes.proofs.items.add_all.Goals as goal

pub loop-i-preserved : goal.loop-i-preserved
loop-i-preserved c =
    let w = c.add_bytes-in-loop-i.ensures.wider in
    record {
      wider = wider_on _ _ _ c.loop-i.invariant.wider w;
      size = c.add_bytes-in-loop-i.ensures.size ∙ c.loop-i.invariant.size;
      low = λ j b from same lt small is. w.has j b lt (omega (arith, small)) (c.loop-i.invariant.low j b from same (omega (arith, lt, w.shorter)) small is);
      high = λ i j b inside from same lt high small.
          elim (cases_lt i c.loop-i.i) [
            | inl before ↦ w.has j b lt small (c.loop-i.invariant.high i j b before from same (omega (arith, lt, w.shorter)) high small)
            | inr here ↦
                let e : i ≡ c.loop-i.i = omega (arith, inside, here) in
                c.add_bytes-in-loop-i.ensures.has j b (omega (arith, from, e)) (λ x. same x ∙ ap (λ (k : ℕ). c.args.from + k) e) lt small (c.high_bytes-high.ensures b high small)
          ];
    }

pub returns-clause-has : goal.returns-clause-has
returns-clause-has c least most d is item enough few =
    rough_encoding c.loop-i.sets.items c.args.from c.args.exact d (λ j from same lt small. c.loop-i.invariant.low j d from same lt small is)
    (λ i j b inside. c.loop-i.invariant.high i j b (omega (arith, inside, c.loop-i-test.false)))
