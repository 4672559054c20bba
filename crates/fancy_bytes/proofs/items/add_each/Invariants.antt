use Rattle.std.proofs.Common.{◌≡◌, ◌<◌, ◌≤◌, ℕ, true, length}
use Rattle.std.specs.Char.{len_utf8, encode_utf8}
use Rattle.fancy_tree.specs.Members.{edges_of}
use Rattle.fancy_tree.specs.Sets.{has}
use Rattle.fancy_tree.specs.declared.tree.Meaning.TheVariants.{Unicode}
use Rattle.fancy_bytes.specs.Items.{is_item}
use Rattle.fancy_bytes.specs.Rows.{HasEncoding, Wider}
use Rattle.fancy_bytes.proofs.items.add_each.Given as goal

abbrev pub invariant-loop : goal.invariant-loop
invariant-loop l = record {
  wider : Wider l.fn.sets.items l.sets.items;
  size : length l.sets.items ≡ length l.fn.sets.items;
  has : (c : ℕ) → has (edges_of l.set.set) c ≡ true → is_item Unicode c ≡ true → l.fn.sizes.least ≤ len_utf8 c → c < l.next → HasEncoding l.sets.items l.from l.exact (encode_utf8 c);
}
