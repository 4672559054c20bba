use Rattle.std.proofs.Common.{◌∙◌, ℕ, List, ap, sym, true≢false}
use Rattle.fancy_tree.specs.Members.{edges_of}
use Rattle.fancy_tree.specs.Pattern.{pattern_of}
use Rattle.fancy_tree.specs.Sets.{has}
use Rattle.fancy_required.proofs.ToldLemmas.{bytes_in_bytes, bytes_of_ascii, tells_byte_item, tells_item, told_any}
use Rattle.fancy_required.proofs.told.tell_member.Goals as goal
use Rattle.fancy_required.proofs.told.tell_member.Goals.{else-not-matches-via-then-not-matches+else-not-is_ascii, else-not-matches-via-else-not-matches, in-Bytes-matches, in_default-matches}

pub returns-in_ok-push-3 : goal.returns-in_ok-push-3
returns-in_ok-push-3 c =
    tells_item c.args.meaning (pattern_of c.args.tree.now) (has (edges_of c.args.set.now)) c.new-first.result c.add_first.new.set c.args.told.now.items c.push-2.new.self.items c.push-then-not-is_ascii.new.self.items
    c.requires c.new-first.ensures c.add_first.ensures c.in_ok-push-2.ensures.items c.in_ok-push-3.ensures.items

pub returns-else-not-matches : goal.returns-else-not-matches
returns-else-not-matches c =
    tells_byte_item c.args.meaning (pattern_of c.args.tree.now) (has (edges_of c.args.set.now)) c.new-first.result c.add_first.new.set c.args.told.now.items c.push-2.new.self.items
    c.requires
    (elim c.else-not-matches.branch [
      | else-not-matches-via-then-not-matches+else-not-is_ascii w ↦ bytes_of_ascii c.args.meaning (has (edges_of c.args.set.now)) (λ d past. ap (λ (edges : List ℕ). has edges d) (sym w.edges.ensures) ∙ w.is_ascii.ensures w.if-not-is_ascii.false d past)
      | else-not-matches-via-else-not-matches w ↦ bytes_in_bytes c.args.meaning (has (edges_of c.args.set.now))
          (elim c.match-matches.branch [ in-Bytes-matches v ↦ v.in-Bytes-matches.is | in_default-matches v ↦ absurd (true≢false (sym w.if-not-matches.false ∙ v.matches-is)) ])
    ])
    c.new-first.ensures c.add_first.ensures c.in_ok-push-2.ensures.items

pub returns-in-Bytes : goal.returns-in-Bytes
returns-in-Bytes c = told_any c.args.meaning (pattern_of c.args.tree.now) c.args.told.now.items c.push.new.self.items c.in_ok-push.ensures.items
