use Rattle.std.proofs.Common.{rules, ℕ, ◌≡◌, length, string_bytes, sym, subst}
use Rattle.std.specs.String.Boundary.{IsSplitPoint}
use Rattle.std.proofs.lemmas.Str.{IsUtf8-string_bytes}
use Rattle.fancy_template.proofs.ExpansionLemmas.{may_cut}
use Rattle.fancy_template.proofs.expander.Expander.append_expansion.Goals as goal

pub truncate-requires : goal.truncate-requires
truncate-requires g c =
    let at : c.len-length.result ≡ length (string_bytes c.args.dst.now) = search rules in
    let begun = c.in-Err.ensures.begun in
    λ _. subst (λ (n : ℕ). IsSplitPoint (string_bytes c.push_steps.new.dst) n) (sym at) (may_cut (string_bytes c.args.dst.now) (string_bytes c.push_steps.new.dst) begun.0 (IsUtf8-string_bytes c.args.dst.now) (IsUtf8-string_bytes c.push_steps.new.dst) begun.1)
