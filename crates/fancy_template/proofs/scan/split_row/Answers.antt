use Rattle.std.proofs.Common.{rules, ◌≡◌, [], chars}
use Rattle.fancy_template.specs.Templates.{row}
use Rattle.fancy_template.specs.Expanders.{test_of}
use Rattle.fancy_template.proofs.RowLemmas.{passed_more, passed_boundary, front_is_row, front_is_text, back_is_past, row_of_none, row_of_other}
use Rattle.fancy_template.proofs.scan.split_row.Goals as goal
use Rattle.fancy_template.proofs.scan.split_row.Goals.{in-Some+then-not-includes, in_default}

pub loop-c-preserved : goal.loop-c-preserved
loop-c-preserved c = (search rules, passed_more _ _ _ _ _ c.loop-c.invariant.1 c.in-Some.ensures.bytes c.in-Some.ensures.chars (search rules))

pub split_at-requires : goal.split_at-requires
split_at-requires c = passed_boundary _ _ _ c.loop-c.invariant.1 c.loop-c.invariant.0

pub returns-clause-row : goal.returns-clause-row
returns-clause-row c =
    let e : row (test_of c.args.kind) (chars c.loop-c.rest.now) ≡ [] = elim c.match-split_first.branch [ in-Some+then-not-includes w ↦ row_of_other _ _ _ _ w.in-Some.ensures.chars (search rules) | in_default w ↦ row_of_none _ _ w.in_default.ensures.chars ] in
    front_is_row _ _ _ c.loop-c.invariant.1 _ c.utf8.text c.loop-c.invariant.0 e c.split_at.ensures.front

pub returns-clause-rest : goal.returns-clause-rest
returns-clause-rest c =
    let e : row (test_of c.args.kind) (chars c.loop-c.rest.now) ≡ [] = elim c.match-split_first.branch [ in-Some+then-not-includes w ↦ row_of_other _ _ _ _ w.in-Some.ensures.chars (search rules) | in_default w ↦ row_of_none _ _ w.in_default.ensures.chars ] in
    back_is_past _ _ _ c.loop-c.invariant.1 _ e c.split_at.ensures.back

pub returns-clause-text : goal.returns-clause-text
returns-clause-text c = front_is_text _ _ _ c.loop-c.invariant.1 _ c.utf8.text c.loop-c.invariant.0 c.split_at.ensures.front
