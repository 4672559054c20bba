use Rattle.std.proofs.Common.{◌≡◌, ◌∙◌, Bool, List, ap, sym, subst, length-set, true, false}
use Rattle.std.proofs.lemmas.Bool.{not-false}
use Rattle.std.specs.Prelude.{slice_index_or}
use Rattle.fancy_code.proofs.MarkingLemmas.{member-set}
use Rattle.fancy_states.proofs.MarkLemmas.{marked-new}
use Rattle.fancy_states.proofs.closure.is_first.Goals as goal
use Rattle.std.proofs.Common.{length}

pub returns-clause-adds : goal.returns-clause-adds
returns-clause-adds c q h = member-set c.args.marks.now q c.args.at (subst (λ (x : List Bool). slice_index_or x q false ≡ true) c.mark.ensures.after h)

pub returns-clause-seen : goal.returns-clause-seen
returns-clause-seen c old = not-false _ (sym c.mark.ensures.new ∙ old)

pub returns-clause-one : goal.returns-clause-one
returns-clause-one c fresh = marked-new c.args.marks.now c.mark.new.self c.args.at c.requires (sym fresh ∙ c.mark.ensures.new) c.mark.ensures.after

pub returns-clause-room : goal.returns-clause-room
returns-clause-room c = ap length c.mark.ensures.after ∙ length-set c.args.marks.now c.args.at true
