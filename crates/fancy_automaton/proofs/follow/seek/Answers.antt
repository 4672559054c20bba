use Rattle.std.proofs.Common.{◌≡◌, ◌∙◌, ap, ap₂, arith, inl, inr, None, option_map, refl, ℕ, subst, sym, true≢false}
use Rattle.fancy_code.specs.Attempt.{context_in}
use Rattle.fancy_alphabet.specs.Classes.{IsStart}
use Rattle.fancy_automaton.specs.declared.hop.Stand.{Stand}
use Rattle.fancy_states.specs.declared.transitions.Kind.{Kind}
use Rattle.fancy_states.specs.declared.transitions.Kind.TheVariants.{Mixed}
use Rattle.fancy_automaton.specs.Sole.{IsAmid, IsSole, Reaches, came_to, stood}
use Rattle.fancy_states.specs.Transitions.{IsOfKind}
use Rattle.fancy_automaton.proofs.SoleLemmas.{idle_sole, quiet_amid, quiet_earlier, quiet_last, sorted}
use Rattle.fancy_automaton.proofs.follow.seek.Goals as goal
use Rattle.fancy_automaton.proofs.follow.seek.Goals.{else-places-test, then-places-test+in_default, then-places-test+in-Some+in_default-kind-2, then-places-test+in-Some+in_default-kind, then-places-test+in-Some+then-ends, in-Quiet, in-Mixed+then-not-any, in-Mixed+else-not-any}

pub places-preserved : goal.places-preserved
places-preserved c =
    let a = c.args.attempt.now in
    let cells = c.args.cells.now in
    let at = came_to c.args.from.stand c.places.place (option_map (λ t. t.now) c.places.last) in
    let is = c.places.invariant.sole.1 in
    let past = c.in-Some.told.past in
    let step = c.in-Some.told.step.now in
    let start = c.start_after-start.result in
    let seen = c.in-Some.ensures.told cells at.begun c.view-table.ensures is.followed (record { bounded = is.kept; all = is.all }) is.good
    (subst (IsStart (context_in a) at.place cells.table.classes at.begun) (sym c.places.invariant.row) is.begins) in
    let idle : (step.kind ≡ Mixed) → step.next ≡ c.args.idle → IsSole a cells (record { stand = stood past step; start = start; end = None }) = λ mixed here.
    idle_sole a cells (stood past step) c.args.idle start c.requires.idle here
    (quiet_amid a cells at past seen.0 step seen.1 c.places.invariant.sole.0 _ is (subst (λ (k : Kind). IsOfKind k cells.table.classes cells.cells.items at.begun seen.0 step) mixed seen.2)) in
    record {
      sole = elim c.match-step.branch [
        | in-Quiet w ↦ (
            let told = subst (λ (k : Kind). IsOfKind k cells.table.classes cells.cells.items at.begun seen.0 step) w.in-Quiet.is seen.2 in
            elim (sorted step.origin told.2) [
              | inl earlier ↦ subst (λ (s : ℕ). IsSole a cells (record { stand = stood past step; start = s; end = None })) (sym (c.start_after-start.ensures.earlier earlier))
                  (quiet_earlier a cells at past seen.0 step seen.1 c.places.invariant.sole.0 c.places.start is (told.0, told.1) earlier)
              | inr last ↦ subst (λ (s : ℕ). IsSole a cells (record { stand = stood past step; start = s; end = None })) (sym (c.start_after-start.ensures.last last))
                  (quiet_last a cells at past seen.0 step seen.1 c.places.invariant.sole.0 _ is (told.0, told.1) last)
            ])
        | in-Mixed+then-not-any w ↦ idle w.in-Mixed.is w.if-step-idle.true
        | in-Mixed+else-not-any w ↦ idle w.in-Mixed.is w.if-step-idle.true
      ];
      row = refl;
      forth = omega (arith, c.places.invariant.forth, seen.1.forth);
    }

pub returns-clause-reaches : goal.returns-clause-reaches
returns-clause-reaches c =
    elim c.places-test.branch [
      | else-places-test w ↦ stays w.place-is w.start-is w.last-is
      | then-places-test+in_default w ↦ stays w.place-is w.start-is w.last-is
      | then-places-test+in-Some+in_default-kind-2 w ↦ stays w.place-is w.start-is w.last-is
      | then-places-test+in-Some+in_default-kind w ↦ stays w.place-is w.start-is w.last-is
      | then-places-test+in-Some+then-ends w ↦
          let a = c.args.attempt.now in
          let cells = c.args.cells.now in
          let at = came_to c.args.from.stand c.places.place (option_map (λ t. t.now) c.places.last) in
          let is = c.places.invariant.sole.1 in
          let past = w.in-Some.told.past in
          let step = w.in-Some.told.step.now in
          let seen = w.in-Some.ensures.told cells at.begun c.view-table.ensures is.followed (record { bounded = is.kept; all = is.all }) is.good
          (subst (IsStart (context_in a) at.place cells.table.classes at.begun) (sym c.places.invariant.row) is.begins) in
          let mixed : (step.kind ≡ Mixed) × (step.next ≡ c.args.idle) = elim w.match-step.branch [
            | in-Quiet v ↦ absurd (true≢false (sym w.if-ends.true ∙ v.ends-is))
            | in-Mixed+then-not-any v ↦ (v.in-Mixed.is, v.if-step-idle.true)
            | in-Mixed+else-not-any v ↦ (v.in-Mixed.is, v.if-step-idle.true)
          ] in
          let told = subst (λ (k : Kind). IsOfKind k cells.table.classes cells.cells.items at.begun seen.0 step) mixed.0 seen.2 in
          let amid = quiet_amid a cells at past seen.0 step seen.1 c.places.invariant.sole.0 _ is told in
          let e : c.came_to.result ≡ stood past step = c.came_to.ensures ∙ ap₂ (λ n l. came_to c.args.from.stand n (option_map (λ t. t.now) l)) w.place-is w.last-is in
          record {
            sole = idle_sole a cells c.came_to.result c.args.idle c.places-test.start c.requires.idle (ap (λ (st : Stand). st.next) e ∙ mixed.1)
                (subst (λ (st : Stand). IsAmid a cells st) (sym e) amid);
            forth = omega (arith, c.places.invariant.forth, seen.1.forth, ap (λ (st : Stand). st.place) e);
          }
    ]
  where
    stays : c.places-test.place ≡ c.places.place → c.places-test.start ≡ c.places.start → c.places-test.last ≡ c.places.last
        → Reaches c.args.attempt.now c.args.cells.now c.args.from.stand.place (record { stand = c.came_to.result; start = c.places-test.start; end = None })
    stays same start kept =
        let e : c.came_to.result ≡ came_to c.args.from.stand c.places.place (option_map (λ t. t.now) c.places.last) =
        c.came_to.ensures ∙ ap₂ (λ n l. came_to c.args.from.stand n (option_map (λ t. t.now) l)) same kept in
        record {
          sole = subst (λ (st : Stand). IsSole c.args.attempt.now c.args.cells.now (record { stand = st; start = c.places-test.start; end = None })) (sym e)
              (subst (λ (s : ℕ). IsSole c.args.attempt.now c.args.cells.now (record { stand = came_to c.args.from.stand c.places.place (option_map (λ t. t.now) c.places.last); start = s; end = None })) (sym start)
              c.places.invariant.sole);
          forth = omega (arith, c.places.invariant.forth, ap (λ (st : Stand). st.place) e);
        }
