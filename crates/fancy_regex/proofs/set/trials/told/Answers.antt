use Rattle.std.proofs.Common.{◌∙◌, Some, ap, arith, refl}
use Rattle.std.proofs.lemmas.Option.{slice_get_read}
use Rattle.fancy_regex.specs.Trials.{notes_held}
use Rattle.fancy_regex.proofs.set.trials.told.Goals as goal

pub find_told-requires-clause-notes : goal.find_told-requires-clause-notes
find_told-requires-clause-notes c =
    let element = c.index-notes-index.result in
    let there = slice_get_read c.args.notes.now _ c.args.index element refl (omega arith) c.index-notes-index.is in
    rw c.deref.ensures (c.requires.notes c.in-Some.held.value (ap notes_held there ∙ ap (λ e. notes_held (Some e)) c.in-Some.is))
