-- A box is taken apart: what `into_raw_with_allocator` hands out is what the parts own.
use mathlib.Core.Path.{◌≡◌, refl, sym, subst, ap, ◌∙◌}
use mathlib.Core.List.{List, [], ◌∷◌, ◌++◌}
use seplogic.Ra.Ura.{Ura}
use mir.Syntax.{Fn, Args, Dict, a_type, dcons, dnil}
use mir.MapTy.{inst_fn}
use mir.Raw.{raw as bare}
use mir.Val.{Val, vstruct, of_list}
use base.Logic.{SProp, ent, id⊢, never, fst∗}
use base.Fml.{ftrue, fsep, flft}
use contract.BorrowLft.{◌⊑◌}
use prog.Memory.{Memory}
use prog.Routine.{Routine}
use prog.Wp.{WpFn, Tables}
use types.Logic.{Logic, sem}
use contract.Monad.{Fun, fact}
use contract.Running.{tables, tables_of}
use sound.WpLaws.{fm_of, WpFn-mono}
use types.Kit.{Item, ‵, raw, ◌⊛◌, some, later, ◌$◌, ◌∵◌, !, qed, by, move, drop, use1, join, split, split3, pick, rewrite, fsplit, fjoin, fpick, feq_l, suffices, await, done}
use types.Part.{whole, sub, agg}
use types.Run.{stop, fld, no_more, and_then, of_opd, returns, enter}
use types.ByLocal.{alloc_all, pass_all, free_all, look_at, get, get_in, sets, lands_as}
use denote.RattleType.{RattleType}
use denote.Exit.{no}
use denote.Param.{bounded}
use denote.RawPtr.{Ptr, RawPtr, block_ptr, null_ptr, ptr_val, in_a_block}
use denote.Signature.{plain}
use denote.Steps.{heard, nothing, only}
use denote.Struct.Tuple.{Tuple}
use denote.Triple.Call.{calls_at}
use denote.Triple.Clauses.{Ended, Clauses}
use denote.Triple.Spec.{triple_of}
use denote.Triple.Statement.{Triple, Contract}
use denote.Triple.Table.{entered}
use denote.Triple.Walked.{says, Stays, stay_dropped, walk_of, ends_at, walk_Meets}
use Rattle.std.proofs.alloc.Calls.{token, handle_tells, Goes-blank}
use Rattle.std.specs.Box.Ownership.{box_owns}
use Rattle.std.proofs.BoxSteps.Form.{Bx, D, τ, R, P, B, word, box_typed}
use Rattle.std.proofs.BoxSteps.Steps.{box_out, box_in}
use Rattle.std.specs.contracts.boxed.Box.into_raw_with_allocator as IntoRaw
use Rattle.std.proofs.boxed.Box.into_raw_with_allocator.Symbol as symbol
use Rattle.std.proofs.boxed.Box.into_raw_with_allocator.Met as known
use Rattle.fancy_regex_c.specs.contracts.handle.parts.Parts as Parts
use Rattle.fancy_regex_c.specs.contracts.handle.parts.Parts.of as F
use Rattle.fancy_regex_c.specs.contracts.handle.parts.Parts.of.Key.{name as #self}
use Rattle.fancy_regex_c.proofs.handle.parts.Parts.of.Statement as stated
use Rattle.fancy_regex_c.proofs.handle.parts.Parts.of.Code as code

module _ (E : Bx) (drops : Dict) where
  abbrev args : Args
  args = bounded (a_type ∷ a_type ∷ []) (E.row, (E.al.row, tt)) (dcons E.al.d (dcons E.al.drops (dcons drops dnil)))

  abbrev body : Fn
  body = inst_fn args code.function

  abbrev ended : Ended
  ended = F.ended E.row E.al.row E.al.g E.al.d E.al.drops drops

  abbrev stayed : Stays ended.signature.params ended.kept
  stayed = (stay_dropped (plain (λ _. B E)) no, tt)

  abbrev Made : RattleType
  Made = Parts.the_row (R E) (P E) E.al.g

  module _ {M : Type 1} {𝓤 : Ura M} (𝓛 : Logic 𝓤) (at_mem : Memory → SProp 𝓤) (run : Routine → Fun 𝓤) (𝓣 : Tables 𝓤 𝓛.H) where
    open 𝓛 use {H}

    abbrev clauses : Clauses 𝓤 ended
    clauses = F.clauses E.row E.al.row E.al.g E.al.d E.al.drops drops 𝓛 at_mem run

    -- what `into_raw_with_allocator` asks and gives
    abbrev Call : Contract 𝓤
    Call = triple_of 𝓛 (IntoRaw.signature E.row E.al.row E.al.g E.al.d E.al.drops drops) (IntoRaw.spec E.row E.al.row E.al.g E.al.d E.al.drops drops 𝓛 at_mem run)

    walk : Triple 𝓤 (𝓣.C (symbol.name args)) Call → (z : (walk_of 𝓛 ended stayed clauses).Ghost)
        → ent 𝓤 ((walk_of 𝓛 ended stayed clauses).pre z) (WpFn 𝓤 H 𝓣.C 𝓣.Λ body (z.0.4.0 ++ []) ((walk_of 𝓛 ended stayed clauses).post z))
    walk called z =
        let End = (walk_of 𝓛 ended stayed clauses).post z in
        let lifetimes = z.0.0 in let shares = z.0.1 in
        let box = z.0.3.0 in let handle = box.alloc in
        let tokens : Item 𝓤 = ‵ (flft lifetimes.0 shares.0) ⊛ ‵ (flft lifetimes.1.0 shares.1.0) ⊛ ‵ ftrue in
        let alive : Item 𝓤 = raw (fact 𝓤 (lifetimes.0 ⊑ E.row.lives)) ⊛ raw (fact 𝓤 (lifetimes.1.0 ⊑ E.al.row.lives)) ⊛ ‵ ftrue in
        qed 𝓛 ((tokens ⊛ ‵ (fsep ((B E).own_val box z.0.4.0) ftrue)) ∷ alive ∷ []) ∵ split ! $ move ! (1 ∷ []) $ fsplit ! $
        box_out E ! box z.0.4.0 (λ block offset h same words fits. box_in E ! box block offset box.value same refl $
        let given = word E h block offset in
        let asked : Call.Ghost = ((lifetimes, shares, tt, (box, tt), (given ∷ [], tt)), tt) in
        let have : List (Item 𝓤) = ‵ ((B E).own_val box (given ∷ [])) ∷ ‵ ftrue ∷ tokens ∷ alive ∷ [] in
        by ! (subst (λ (vs : List Val). ent 𝓤 (types.Kit.⋆ 𝓛 have) (WpFn 𝓤 H 𝓣.C 𝓣.Λ body (vs ++ []) End)) (sym words)
        -- the locals, and the call with the box
        (qed 𝓛 have ∵ enter ! 𝓣.C 𝓣.Λ body (given ∷ []) _ $ alloc_all ! (λ ls. pass_all ! refl (box_typed E h block offset fits, tt) $
        sets ! (of_opd ! (get ! refl)) refl (box_typed E h block offset fits) $
        fjoin ! $ move ! (1 ∷ 0 ∷ []) $ join ! $ join ! $ use1 𝓛 (raw (Call.pre asked)) (id⊢ 𝓤 _) $
        calls_at ! (fm_of 𝓤 H 𝓛.laws 𝓣) Call called asked (and_then ! (get ! refl) (no_more !)) (λ u.
        use1 𝓛 (later (some (λ (pair : Ptr × E.al.row.Denot). (tokens ⊛ ‵ ((Tuple (RawPtr ∷ P E ∷ [])).own_val pair (u ∷ []))) ⊛ some (λ (_ : (Unit {0} × (Unit {0} × Unit {0})) × Unit {0}). ‵ (fsep (fsep ftrue (fsep ftrue ftrue)) ftrue) ⊛ (raw (fact 𝓤 (pair.1 ≡ handle)) ⊛ ‵ (box_owns (token E.al handle) (R E) pair.0 box.value)))))) (id⊢ 𝓤 _) $
        -- its result: a pointer into a block, and the same allocator
        await ! tt $ pick ! (λ pair. split ! $ move ! (1 ∷ []) $ pick ! (λ _. split3 ! $ drop ! $ heard ! (pair.1 ≡ handle) (λ same_handle.
        in_a_block ! pair.0 (λ p. box_owns (token E.al handle) (R E) p box.value) (fst∗ 𝓤 (never 𝓤) (sem 𝓛 (token E.al handle (bare (τ E)) null_ptr))) (λ block' offset' points.
        move ! (1 ∷ []) $ split ! $ move ! (1 ∷ []) $ fpick ! (λ halves. fsplit ! $ feq_l ! (λ is_pair. fsplit ! $ feq_l ! (λ is_pointer. fsplit ! $
        rewrite ! 0 (λ (a : E.al.row.Denot). ‵ (E.al.row.own_val a halves.1.0)) same_handle refl $ handle_tells E.al ! handle halves.1.0 (λ h' is_handle fits'.
        let parts : D E = record { ptr = block_ptr block' offset'; alloc = handle; value = box.value } in
        let made : Made.Denot = record { ptr = block_ptr block' offset'; alloc = handle; value = box.value } in
        lands_as ! (ap only (is_pair ∙ (λ j. vstruct (of_list ((is_pointer ∙ ap (λ (p : Ptr). ptr_val p ∷ []) points) j ++ (is_handle j ++ []))) ∷ []))) refl (box_typed E h' block' offset' fits') $
        -- the two fields of the pair, which make the parts
        sets ! (of_opd ! (get_in ! (fld ! refl (stop !)) (sub ! 0 refl (whole !)))) refl (tt, tt) $
        sets ! (of_opd ! (get_in ! (fld ! refl (stop !)) (sub ! 1 refl (whole !)))) refl fits' $ sets ! (of_opd ! (get ! refl)) refl fits' $
        sets ! (agg ! (and_then ! (get ! refl) (and_then ! (get ! refl) (no_more !)))) refl (box_typed E h' block' offset' fits') $
        returns ! (look_at ! 0 refl) $ free_all ! refl $
        move ! (3 ∷ []) $ fsplit ! $ box_in E ! parts block' offset' box.value refl refl $ use1 𝓛 (‵ (Made.own_val made (word E h' block' offset' ∷ []))) (id⊢ 𝓤 _) $ move ! (1 ∷ []) $ drop ! $
        suffices ! _ (ends_at 𝓛 ended stayed clauses z (word E h' block' offset') made ((tt, (tt, tt)), tt) (tt, tt)) $ says ! refl $
        nothing ! $ nothing ! $ fjoin ! $ join ! $ move ! (1 ∷ 0 ∷ []) $ join ! $ done !)))))))))))))

pub of_spec : {M : Type 1} → stated.statement M
unfolding tables_of
of_spec 𝓤 𝓛 𝓜 𝓡 wired X Z LX LZ g d dd drops allocator handle_glue glue =
    let E : Bx = record { row = X; laws = LX; al = record { row = Z; laws = LZ; g = g; d = d; drops = dd } } in
    let 𝓣 : Tables 𝓤 𝓛.H = tables_of 𝓤 𝓛.H 𝓜 (tables 𝓤 𝓛.H 𝓜 𝓡 𝓡.env) in
    entered 𝓤 𝓛.H (triple_of 𝓛 (ended E drops).signature (F.spec X Z g d dd drops 𝓛 𝓜.mem 𝓡.returns)) 𝓣.C 𝓣.Λ (#self (args E drops)) (body E drops) (code.unfolded 𝓤 𝓛.H 𝓜 𝓡 wired (X, (Z, tt)) d dd drops)
    (walk_Meets 𝓛 (ended E drops) (stayed E drops) (Goes-blank 𝓛 2 (plain (λ _. B E)) no (λ κs x f. tt), tt) (clauses E drops 𝓛 𝓜.mem 𝓡.returns 𝓣) (WpFn 𝓤 𝓛.H 𝓣.C 𝓣.Λ (body E drops)) (WpFn-mono 𝓤 𝓛.H 𝓛.laws 𝓣 (body E drops))
    (walk E drops 𝓛 𝓜.mem 𝓡.returns 𝓣 (known.met 𝓤 𝓛 𝓜 𝓡 (code.calls-std_alloc::boxed::Box::into_raw_with_allocator 𝓡.env wired) X Z LX LZ g d dd drops allocator handle_glue glue)))
