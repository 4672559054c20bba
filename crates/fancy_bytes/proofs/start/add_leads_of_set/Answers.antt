use Rattle.std.proofs.Common.{◌∙◌, ◌||◌, List, Bool, arith, ap, sym}
use Rattle.fancy_tree.specs.Members.{edges_of}
use Rattle.fancy_tree.specs.Sets.{has}
use Rattle.fancy_bytes.specs.Items.{first_of_characters}
use Rattle.fancy_bytes.specs.Sets.{member}
use Rattle.fancy_bytes.proofs.EdgeLemmas.{byte_added, byte_passed, bytes_done}
use Rattle.fancy_bytes.proofs.ItemLemmas.{ascii_first}
use Rattle.fancy_bytes.proofs.start.add_leads_of_set.Goals as goal
use Rattle.fancy_bytes.proofs.start.add_leads_of_set.Goals.{then-is_first, else-is_first}

pub loop-byte-init : goal.loop-byte-init
loop-byte-init c b lt =
    (rw c.edges.ensures at c.add_ascii.ensures) b lt ∙ ap (λ (t : Bool). member c.args.set.now b || t) (ascii_first (has (edges_of c.args.items.now)) b)

pub loop-byte-preserved : goal.loop-byte-preserved
loop-byte-preserved c b lt =
    elim c.if-is_first.branch [
      | then-is_first w ↦
          ap (λ (s : List Bool). member s b) w.set-is
          ∙ byte_added (first_of_characters (has (edges_of c.args.items.now))) c.loop-byte.byte b _ (member c.loop-byte.set b) _ (sym c.is_first.ensures ∙ w.if-is_first.true)
          (c.loop-byte.invariant b lt) (w.insert.ensures b lt)
      | else-is_first w ↦
          ap (λ (s : List Bool). member s b) w.set-is
          ∙ byte_passed (first_of_characters (has (edges_of c.args.items.now))) c.loop-byte.byte b _ (member c.loop-byte.set b) (sym c.is_first.ensures ∙ w.if-is_first.false)
          (c.loop-byte.invariant b lt)
    ]

pub returns : goal.returns
returns c b lt = bytes_done (first_of_characters (has (edges_of c.args.items.now))) c.loop-byte.byte b _ (member c.loop-byte.set b) lt (omega arith) (c.loop-byte.invariant b lt)
