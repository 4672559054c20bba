use Rattle.std.proofs.Common.{◌≡◌, ◌∙◌, Some, ap, sym, ℕ}
use Rattle.fancy_states.specs.Starts.{match_from}
use Rattle.fancy_automaton.proofs.SoleLemmas.{sole_front}
use Rattle.fancy_automaton.proofs.front.Front.sole.Goals as goal
use Rattle.fancy_automaton.proofs.front.Front.sole.Goals.{in-None, in-Some+else-found-start}

pub returns-clause-sole : goal.returns-clause-sole
returns-clause-sole c =
    let f = c.args.self.now in
    let start = c.in_ok-start.start in
    let found : f.found ≡ match_from start c.match-self.end = elim c.match-self.branch [
      | in-None w ↦ w.in-None.is ∙ ap (match_from start) (sym w.end-is)
      | in-Some+else-found-start w ↦ w.in-Some.is ∙ ap (λ (s : ℕ). Some (record { start = s; end = w.in-Some.found.end })) w.if-found-start.false ∙ ap (match_from start) (sym w.end-is)
    ] in
    sole_front c.args.attempt.now c.args.cells.now f c.stand.result c.args.place start c.match-self.end c.requires.stands
    c.in_ok-start.ensures found c.stand.ensures.place c.stand.ensures.next c.stand.ensures.begun c.stand.ensures.opened
