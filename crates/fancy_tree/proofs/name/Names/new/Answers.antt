use Rattle.std.proofs.Common.{◌≡◌, bytes_eq, chars, string_bytes, sym, ap, ◌∙◌, cond, Some, get_or, arith}
use Rattle.std.proofs.lemmas.Map.Text.{btree_map_updates_text}
use Rattle.std.proofs.lemmas.Str.{IsUtf8-string_bytes}
use Rattle.fancy_tree.proofs.NameLemmas.{same_characters, last_named_more}
use Rattle.fancy_tree.proofs.name.Names.new.Goals as goal

pub loop-named-preserved : goal.loop-named-preserved
loop-named-preserved c = λ name u.
    let group = c.named-item.result in
    let key : string_bytes c.in_ok-clone.field-0 ≡ string_bytes group.name = c.in_ok-clone.ensures.cases in
    let same : bytes_eq (string_bytes c.in_ok-clone.field-0) name ≡ bytes_eq (chars (string_bytes group.name)) (chars name) =
    ap (λ x. bytes_eq x name) key ∙ same_characters (string_bytes group.name) name (IsUtf8-string_bytes group.name) u in
    btree_map_updates_text (string_bytes c.in_ok-clone.field-0) c.loop-named.last c.insert.new.self _ c.in_ok-insert.ensures.updates name
    ∙ (ap (cond (bytes_eq (string_bytes c.in_ok-clone.field-0) name) (Some group.group)) (c.loop-named.invariant name u)
    ∙ sym (last_named_more c.args.groups.items c.loop-named.named-index group (omega arith) (c.named-item.is ∙ ap (λ gs. get_or gs c.loop-named.named-index group) c.deref-named-items.ensures.value) (chars name) (bytes_eq (string_bytes c.in_ok-clone.field-0) name) same))
