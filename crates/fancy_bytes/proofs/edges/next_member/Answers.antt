use Rattle.std.proofs.Common.{◌≡◌, ◌∙◌, ◌%◌, ◌<◌, ◌≤◌, ◌==◌, ℕ, true, false, Option, None, Some, IfSome, MatchOption, is_some, nat_lt, length, slice_index, get_or, Bor, arith, le_refl, sym}
use Rattle.std.proofs.lemmas.Bool.Decides.{nat_tests}
use Rattle.std.proofs.lemmas.List.{get_or_default}
use Rattle.std.specs.Option.{option_copied}
use Rattle.fancy_tree.specs.Sets.{has, is_odd}
use Rattle.fancy_tree.proofs.EdgesLemmas.{has_cut}
use Rattle.fancy_bytes.proofs.EdgeLemmas.{out_to, next_is}
use Rattle.fancy_bytes.proofs.edges.next_member.Goals as goal

pub returns-then-next-eq1 : goal.returns-then-next-eq1
unfolding is_odd
returns-then-next-eq1 c =
    let odd : is_odd c.edges_to-next.result ≡ true = grind (arith, nat_tests, c.if-next-eq1.true) in
    (le_refl c.args.from, λ d low lt. absurd (omega (arith, low, lt)), has_cut _ _ _ c.edges_to-next.ensures ∙ odd)

pub returns : goal.returns
unfolding is_odd
returns c = rw c.copied.ensures (by_edge c.get.result c.get.ensures.lookup.0 c.get.ensures.lookup.1) where
  even : is_odd c.edges_to-next.result ≡ false
  even = grind (arith, nat_tests, c.if-next-eq1.false)

  by_edge : (o : Option (Bor ℕ)) → is_some o ≡ nat_lt c.edges_to-next.result (length c.args.edges.now) → IfSome o (λ r. r.now ≡ get_or c.args.edges.now c.edges_to-next.result r.now)
      → MatchOption (option_copied o) ((d : ℕ) → c.args.from ≤ d → has c.args.edges.now d ≡ false)
      (λ n. (c.args.from ≤ n) × ((d : ℕ) → c.args.from ≤ d → d < n → has c.args.edges.now d ≡ false) × (has c.args.edges.now n ≡ true))
  by_edge None none is =
      λ d low. out_to c.args.edges.now c.args.from c.edges_to-next.result c.requires c.edges_to-next.ensures even d low (λ h. grind (arith, nat_tests, none, h))
  by_edge (Some r) some edge =
      let here : c.edges_to-next.result < length c.args.edges.now = grind (arith, nat_tests, some) in
      let is : r.now ≡ slice_index c.args.edges.now c.edges_to-next.result = edge ∙ get_or_default c.args.edges.now c.edges_to-next.result r.now 0 here in (
        omega (arith, is, c.edges_to-next.ensures.after c.edges_to-next.result (le_refl _) here),
        λ d low lt. out_to c.args.edges.now c.args.from c.edges_to-next.result c.requires c.edges_to-next.ensures even d low (λ h. omega (arith, is, lt)),
        rw is (next_is c.args.edges.now c.args.from c.edges_to-next.result c.requires c.edges_to-next.ensures even here),
      )
