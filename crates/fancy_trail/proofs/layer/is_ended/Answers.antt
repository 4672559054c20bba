use Rattle.std.proofs.Common.{ap, sym, ◌∙◌}
use Rattle.fancy_trail.specs.declared.layer.Kind.{Kind}
use Rattle.fancy_trail.specs.Ways.{ends_kind}
use Rattle.fancy_trail.proofs.layer.is_ended.Goals as goal

pub returns-in-Branch : goal.returns-in-Branch
returns-in-Branch c = sym (ap (λ (j : Kind). ends_kind j c.args.from c.args.place) c.in-Branch.is)

pub returns-in-Atom : goal.returns-in-Atom
returns-in-Atom c = sym (ap (λ (j : Kind). ends_kind j c.args.from c.args.place) c.in-Atom.is)

pub returns-in-Look : goal.returns-in-Look
returns-in-Look c = c.ends.ensures ∙ sym (ap (λ (j : Kind). ends_kind j c.args.from c.args.place) c.in-Look.is)

pub returns-in-Denial : goal.returns-in-Denial
returns-in-Denial c = c.ends-in-Denial.ensures ∙ sym (ap (λ (j : Kind). ends_kind j c.args.from c.args.place) c.in-Denial.is)

pub returns-in-Condition : goal.returns-in-Condition
returns-in-Condition c = sym (ap (λ (j : Kind). ends_kind j c.args.from c.args.place) c.in-Condition.is)
