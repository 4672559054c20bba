use Rattle.std.proofs.Common.{arith, ◌<◌, ◌≡◌, ◌∙◌, ℕ, true, sym, subst, inl, inr, true≢false}
use Rattle.std.proofs.lemmas.Bool.{cases_lt}
use Rattle.std.proofs.lemmas.Str.{length-encode, len_utf8_bounds}
use Rattle.std.specs.Char.{encode_utf8}
use Rattle.fancy_tree.specs.declared.tree.Meaning.TheVariants.{Unicode}
use Rattle.fancy_bytes.specs.Items.{is_item}
use Rattle.fancy_bytes.specs.Rows.{HasEncoding}
use Rattle.fancy_bytes.proofs.ItemBytesLemmas.{wider_encoding, wider_on}
use Rattle.fancy_bytes.proofs.items.add_each.Goals as goal

pub loop-preserved : goal.loop-preserved
loop-preserved c =
    record {
      wider = wider_on _ _ _ c.loop.invariant.wider c.add_code.ensures.wider;
      size = c.add_code.ensures.size ∙ c.loop.invariant.size;
      has = λ d is item enough lt.
          elim (cases_lt d c.loop.next) [
            | inl before ↦ wider_encoding _ _ c.add_code.ensures.wider c.args.from c.args.exact (encode_utf8 d) (c.loop.invariant.has d is item enough before)
            | inr from ↦ elim (cases_lt d c.in-Some.code) [
              | inl none ↦ absurd (true≢false (sym is ∙ (rw c.edges.ensures at c.in-Some.ensures.1) d from none))
              | inr le ↦
                  let same : d ≡ c.in-Some.code = omega (arith, lt, le) in
                  subst (λ (x : ℕ). HasEncoding c.add_code.new.sets.items c.args.from c.args.exact (encode_utf8 x)) (sym same)
                  (c.add_code.ensures.has (subst (λ (x : ℕ). is_item Unicode x ≡ true) same item))
            ]
          ];
    }

pub returns-in_default-clause-has : goal.returns-in_default-clause-has
returns-in_default-clause-has c e d is item enough few =
    let below : d < c.first_with-end.result =
    c.first_with-end.ensures.before d item (omega (arith, few, length-encode d, (len_utf8_bounds d).1, c.saturating_add.ensures)) in
    elim (cases_lt d c.loop.next) [
      | inl before ↦ c.loop.invariant.has d is item (omega (arith, enough, length-encode d)) before
      | inr from ↦ absurd (true≢false (sym is ∙ (rw c.edges.ensures at c.in-Some.ensures.1) d from (omega (arith, below, c.if-code-end.false))))
    ]

pub returns-in_default-2-clause-has : goal.returns-in_default-2-clause-has
returns-in_default-2-clause-has c e d is item enough few =
    elim (cases_lt d c.loop.next) [
      | inl before ↦ c.loop.invariant.has d is item (omega (arith, enough, length-encode d)) before
      | inr from ↦ absurd (true≢false (sym is ∙ (rw c.edges.ensures at c.in_default.ensures) d from))
    ]
