-- Parts become the box again: the pointer and the allocator, with what they own, are what `from_raw` asks for.
use mathlib.Core.Path.{◌≡◌, refl, sym, subst, ap}
use mathlib.Core.List.{List, [], ◌∷◌, ◌++◌}
use lib.Dec.{T}
use seplogic.Ra.Ura.{Ura}
use mir.Syntax.{Fn, place, copy, assign, rv_opd, seq, return}
use mir.MapTy.{inst_fn}
use mir.Val.{Val, vptr, has_ty, WT}
use base.Logic.{SProp, ent, id⊢}
use base.Fml.{ftrue, fsep, flft}
use contract.BorrowLft.{◌⊑◌}
use prog.Memory.{Memory}
use prog.Routine.{Routine}
use prog.Wp.{WpFn, Tables}
use types.Logic.{Logic}
use contract.Monad.{Fun, fact}
use contract.Running.{tables, tables_of}
use sound.WpLaws.{fm_of, WpFn-mono}
use types.Kit.{Item, at_ret, ‵, raw, ◌⊛◌, some, later, ◌$◌, ◌∵◌, !, qed, by, move, drop, use1, join, split, split3, pick, rewrite, fsplit, fjoin, feq_i, suffices, await, done}
use types.Part.{whole, sub}
use types.Run.{stop, fld, no_more, and_then, of_opd, returns, enter, first, blocks, exec}
use types.ByLocal.{alloc_all, pass_all, free_all, look_at, get, get_in, sets, lands_last, env}
use denote.RattleType.{RattleType}
use denote.Exit.{no}
use denote.RawPtr.{block_ptr}
use denote.Signature.{plain}
use denote.Steps.{heard, nothing, only}
use denote.Triple.Call.{calls_at_last}
use denote.Triple.Clauses.{Ended, Clauses}
use denote.Triple.Spec.{triple_of}
use denote.Triple.Statement.{Triple, Contract}
use denote.Triple.Table.{entered}
use denote.Triple.Walked.{says, Stays, stay_dropped, walk_of, ends_at, walk_Meets}
use Rattle.std.proofs.alloc.Calls.{token, Goes-blank}
use Rattle.std.specs.Box.Ownership.{box_owns}
use Rattle.std.proofs.BoxSteps.Form.{Bx, D, R, P, B, args, box_ty, word, box_typed}
use Rattle.std.proofs.BoxSteps.Steps.{box_out, box_in}
use Rattle.std.specs.contracts.boxed.Box.from_raw as FromRaw
use Rattle.std.proofs.boxed.Box.from_raw.Symbol as symbol
use Rattle.std.proofs.boxed.Box.from_raw.Met as known
use Rattle.fancy_regex_c.specs.contracts.handle.parts.Parts as Parts
use Rattle.fancy_regex_c.specs.contracts.handle.parts.Parts.into_box as F
use Rattle.fancy_regex_c.specs.contracts.handle.parts.Parts.into_box.Key.{name as #self}
use Rattle.fancy_regex_c.proofs.handle.parts.Parts.into_box.Statement as stated
use Rattle.fancy_regex_c.proofs.handle.parts.Parts.into_box.Code as code

module _ (E : Bx) where
  abbrev body : Fn
  body = inst_fn (args E) code.function

  abbrev ended : Ended
  ended = F.ended E.row E.al.row E.al.g E.al.d E.al.drops

  abbrev Given : RattleType
  Given = Parts.the_row (R E) (P E) E.al.g

  abbrev stayed : Stays ended.signature.params ended.kept
  stayed = (stay_dropped (plain (λ _. Given)) no, tt)

  module _ {M : Type 1} {𝓤 : Ura M} (𝓛 : Logic 𝓤) (at_mem : Memory → SProp 𝓤) (run : Routine → Fun 𝓤) (𝓣 : Tables 𝓤 𝓛.H) where
    open 𝓛 use {H}

    abbrev clauses : Clauses 𝓤 ended
    clauses = F.clauses E.row E.al.row E.al.g E.al.d E.al.drops 𝓛 at_mem run

    -- what `from_raw` asks and gives
    abbrev Call : Contract 𝓤
    Call = triple_of 𝓛 (FromRaw.signature E.row E.al.row E.al.g E.al.d E.al.drops) (FromRaw.spec E.row E.al.row E.al.g E.al.d E.al.drops 𝓛 at_mem run)

    walk : Triple 𝓤 (𝓣.C (symbol.name (args E))) Call → (z : (walk_of 𝓛 ended stayed clauses).Ghost)
        → ent 𝓤 ((walk_of 𝓛 ended stayed clauses).pre z) (WpFn 𝓤 H 𝓣.C 𝓣.Λ body (z.0.4.0 ++ []) ((walk_of 𝓛 ended stayed clauses).post z))
    walk called z =
        let End = (walk_of 𝓛 ended stayed clauses).post z in
        let lifetimes = z.0.0 in let shares = z.0.1 in
        let handle = z.0.3.0.alloc in let inside = z.0.3.0.value in
        let box : D E = record { ptr = z.0.3.0.ptr; alloc = handle; value = inside } in
        let tokens : Item 𝓤 = ‵ (flft lifetimes.0 shares.0) ⊛ ‵ (flft lifetimes.1.0 shares.1.0) ⊛ ‵ ftrue in
        let alive : Item 𝓤 = raw (fact 𝓤 (lifetimes.0 ⊑ E.row.lives)) ⊛ raw (fact 𝓤 (lifetimes.1.0 ⊑ E.al.row.lives)) ⊛ ‵ ftrue in
        qed 𝓛 ((tokens ⊛ ‵ (fsep ((B E).own_val box z.0.4.0) ftrue)) ∷ alive ∷ []) ∵ split ! $ move ! (1 ∷ []) $ fsplit ! $
        box_out E ! box z.0.4.0 (λ block offset h same words fits. fjoin ! $
        let given = word E h block offset in
        let asked : Call.Ghost = ((lifetimes, shares, tt, (handle, (block_ptr block offset, tt)), (h ∷ [], (vptr block offset ∷ [], tt))), inside) in
        let have : List (Item 𝓤) = ‵ (box_owns (token E.al handle) (R E) (block_ptr block offset) inside) ∷ ‵ ((P E).own_val handle (h ∷ [])) ∷ ‵ ftrue ∷ tokens ∷ alive ∷ [] in
        by ! (subst (λ (vs : List Val). ent 𝓤 (types.Kit.⋆ 𝓛 have) (WpFn 𝓤 H 𝓣.C 𝓣.Λ body (vs ++ []) End)) (sym words)
        -- the locals, and the two fields out of the parts
        (qed 𝓛 have ∵ enter ! 𝓣.C 𝓣.Λ body (given ∷ []) _ $ alloc_all ! (λ ls. pass_all ! refl (box_typed E h block offset fits, tt) $
        sets ! (of_opd ! (get_in ! (fld ! refl (stop !)) (sub ! 0 refl (whole !)))) refl (tt, tt) $
        sets ! (of_opd ! (get_in ! (fld ! refl (stop !)) (sub ! 1 refl (whole !)))) refl fits $
        first ! $ blocks ! $ sets ! (of_opd ! (get ! refl)) refl fits $
        -- the call: the handle and the pointer with what it owns
        move ! (4 ∷ []) $ split3 ! $ move ! (2 ∷ []) $ drop ! $ move ! (1 ∷ 2 ∷ []) $ join ! $ move ! (1 ∷ 0 ∷ []) $ join ! $
        move ! (2 ∷ []) $ feq_i ! (List Val) (vptr block offset ∷ []) (vptr block offset ∷ []) refl $ fjoin ! $ move ! (2 ∷ 0 ∷ []) $ fjoin ! $
        move ! (2 ∷ 0 ∷ []) $ join ! $ join ! $ use1 𝓛 (raw (Call.pre asked)) (id⊢ 𝓤 _) $
        calls_at_last ! (fm_of 𝓤 H 𝓛.laws 𝓣) Call called asked (and_then ! (get ! refl) (and_then ! (get ! refl) (no_more !))) (λ u.
        use1 𝓛 (later (some (λ (made : D E). (tokens ⊛ ‵ ((B E).own_val made (u ∷ []))) ⊛ some (λ (_ : Unit {0} × (Unit {0} × Unit {0})). ‵ (fsep ftrue (fsep ftrue ftrue)) ⊛ (raw (fact 𝓤 (made.value ≡ inside)) ⊛ raw (fact 𝓤 (made.alloc ≡ handle))))))) (id⊢ 𝓤 _) $
        -- its result, which is what the function returns
        await ! tt $ pick ! (λ made. split ! $ move ! (1 ∷ []) $ pick ! (λ _. split3 ! $ drop ! $ heard ! (made.value ≡ inside) (λ kept. drop ! $ split ! $ move ! (1 ∷ []) $
        box_out E ! made (u ∷ []) (λ block' offset' h' same' words' fits'. box_in E ! made block' offset' made.value same' refl $
        rewrite ! 0 (λ (vs : List Val). ‵ ((B E).own_val made vs)) (sym words') refl $
        let typed : T (has_ty (box_ty E) u) × WT u = subst (λ (v : Val). T (has_ty (box_ty E) v) × WT v) (sym (ap only words')) (box_typed E h' block' offset' fits') in
        lands_last ! refl typed $
        exec ! 𝓣.C 𝓣.Λ (env body.locals ls) (seq (assign (place 0 []) (rv_opd (copy (place 4 [])))) return) (at_ret (env body.locals ls) End) $
        sets ! (of_opd ! (get ! refl)) refl typed $ returns ! (look_at ! 0 refl) $ free_all ! refl $
        suffices ! _ (ends_at 𝓛 ended stayed clauses z u made ((tt, (tt, tt)), tt) (tt, tt)) $ says ! kept $
        nothing ! $ nothing ! $ fjoin ! $ join ! $ move ! (1 ∷ 0 ∷ []) $ join ! $ done !)))))))))

pub into_box_spec : {M : Type 1} → stated.statement M
unfolding tables_of
into_box_spec 𝓤 𝓛 𝓜 𝓡 wired X Z LX LZ g d dd allocator glue =
    let E : Bx = record { row = X; laws = LX; al = record { row = Z; laws = LZ; g = g; d = d; drops = dd } } in
    let 𝓣 : Tables 𝓤 𝓛.H = tables_of 𝓤 𝓛.H 𝓜 (tables 𝓤 𝓛.H 𝓜 𝓡 𝓡.env) in
    entered 𝓤 𝓛.H (triple_of 𝓛 (ended E).signature (F.spec X Z g d dd 𝓛 𝓜.mem 𝓡.returns)) 𝓣.C 𝓣.Λ (#self (args E)) (body E) (code.unfolded 𝓤 𝓛.H 𝓜 𝓡 wired (X, (Z, tt)) d dd)
    (walk_Meets 𝓛 (ended E) (stayed E) (Goes-blank 𝓛 2 (plain (λ _. Given E)) no (λ κs x f. tt), tt) (clauses E 𝓛 𝓜.mem 𝓡.returns 𝓣) (WpFn 𝓤 𝓛.H 𝓣.C 𝓣.Λ (body E)) (WpFn-mono 𝓤 𝓛.H 𝓛.laws 𝓣 (body E))
    (walk E 𝓛 𝓜.mem 𝓡.returns 𝓣 (known.met 𝓤 𝓛 𝓜 𝓡 (code.calls-std_alloc::boxed::Box::from_raw 𝓡.env wired) X Z LX LZ g d dd allocator glue)))
