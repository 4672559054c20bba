-- One step of the machine.
use Rattle.std.proofs.Common.{◌≡◌, ℕ, ◌+◌, ◌≤◌, ◌<◌, Bool, true, false, List, [], ◌∷◌, length, Option, Some, None, refl, sym, ap, ◌∙◌, subst, inl, inr, arith}
use Rattle.std.specs.Prelude.{nat_le, ◌==◌, if◌then◌else◌}
use Rattle.std.proofs.lemmas.Bool.{le-leb, lt-leb}
use Rattle.fancy_code.specs.Instructions.{Instruction}
use Rattle.fancy_code.specs.declared.step.Next.{Next}
use Rattle.fancy_code.specs.declared.step.Next.TheVariants.{On, Dead, Found}
use Rattle.fancy_meaning.specs.Context.{Context, moved_to, units_back, option_to}
use Rattle.fancy_meaning.specs.Backreference.{past_backreference}
use Rattle.fancy_code.specs.Run.{Raw, Note, Stop, choice_opened, fetched, Go, before, instr_at, act, run, onward, rejoin}
use Rattle.fancy_code.proofs.RunMore.{known_act}
use Rattle.fancy_trail.specs.Frames.{Spot, Frame, Atom, LookAround, Denial, Condition, Saved, Within, saved}
use Rattle.fancy_trail.specs.Left.{after, finish, left, IsStep}
use Rattle.fancy_machine.specs.Machine.{Crowded, MovedTo, RecalledTo, WentIf}
use Rattle.fancy_trail.specs.Ways.{at_instr, at_place, opened_at, closed_at, kept_at, within_at}
use Rattle.fancy_trail.proofs.Closing.{before_some, finish_note, finish_known}
use Rattle.fancy_code.specs.Instructions as i

module _ (cx : Context) (code : List Instruction) (deep : ℕ) (x : Spot) (fs : List Frame) (w : List Raw) (known : left (λ l. run cx l code deep) x fs ≡ Some w) where
  abbrev go : ℕ → Go
  go l = run cx l code deep

  abbrev does : Instruction → Option (List Raw)
  does j = act cx x.limit x.at j (go x.limit) (go (length cx.haystack)) x.state x.starts

  -- the instruction says what is left
  pub acts : (j : Instruction) → instr_at code x.at ≡ j → (u : List Raw) × (finish go fs (does j) ≡ Some u) × (w ≡ Note fetched ∷ u)
  acts j e =
      let k = finish_known go fs (after go x) w known in
      let run_is = known_act cx x.limit code deep x.at x.state x.starts k.0 k.1 ∙ ap (λ (y : Instruction). before (Note fetched) (does y)) e in
      before_some (Note fetched) _ w (sym (ap (finish go fs) run_is ∙ finish_note go fs fetched (does j)) ∙ known)

  on : (j : Instruction) → instr_at code x.at ≡ j → (y : Spot) (gs : List Frame) → finish go fs (does j) ≡ left go y gs → saved gs ≤ saved fs → IsStep go On w x fs y gs
  on j e y gs same le = let a = acts j e in (a.0, sym same ∙ a.1, inl (a.2, le))

  on_mark : (j : Instruction) → instr_at code x.at ≡ j → (y : Spot) (gs : List Frame) → finish go fs (does j) ≡ before (Note choice_opened) (left go y gs) → saved gs ≤ saved fs + 1
      → IsStep go On w x fs y gs
  on_mark j e y gs same le =
      let a = acts j e in
      let b = before_some (Note choice_opened) _ a.0 (sym same ∙ a.1) in
      (b.0, b.1, inr (a.2 ∙ ap (λ (l : List Raw). Note fetched ∷ l) b.2, le))

  dead : (j : Instruction) → instr_at code x.at ≡ j → (y : Spot) → does j ≡ Some [] → IsStep go Dead w x fs y fs
  dead j e y none = let a = acts j e in (a.0, sym (ap (finish go fs) none) ∙ a.1, a.2, omega arith)

  crowded : (most : ℕ) (j : Instruction) (o : Option (List Raw)) → instr_at code x.at ≡ j → does j ≡ before (Note choice_opened) o → most ≤ saved fs → Crowded most w fs
  crowded most j o e same many =
      let a = acts j e in
      let b = before_some (Note choice_opened) _ a.0 (sym (finish_note go fs choice_opened o) ∙ sym (ap (finish go fs) same) ∙ a.1) in
      (many, b.0, a.2 ∙ ap (λ (l : List Raw). Note fetched ∷ l) b.2)

  pub stopped : (j : Instruction) (q : ℕ) → instr_at code x.at ≡ j → does j ≡ Some (Stop q x.state x.starts ∷ [])
      → (u : List Raw) × (finish go fs (Some (Stop q x.state x.starts ∷ [])) ≡ Some u) × (w ≡ Note fetched ∷ u)
  stopped j q e same = let a = acts j e in (a.0, sym (ap (finish go fs) same) ∙ a.1, a.2)

  pub failed : (y : Spot) → instr_at code x.at ≡ i.Fail → IsStep go Dead w x fs y fs
  failed y e = dead i.Fail e y refl

  -- an item was read, or not
  pub moved : (j : Instruction) (next : ℕ) (o : Option ℕ) → instr_at code x.at ≡ j → does j ≡ onward x.limit (go x.limit) next x.state x.starts o
      → (p : ℕ) → o ≡ Some p → p ≤ x.limit → IsStep go On w x fs (at_place next p x) fs
  moved j next o e same p some le =
      on j e (at_place next p x) fs
      (ap (finish go fs) (same ∙ ap (onward x.limit (go x.limit) next x.state x.starts) some)
      ∙ ap (λ (b : Bool). finish go fs (if b then (go x.limit next (moved_to x.state p) x.starts) else (Some []))) (le-leb p x.limit le)) (omega arith)

  pub stuck : (j : Instruction) (next : ℕ) (o : Option ℕ) (y : Spot) → instr_at code x.at ≡ j → does j ≡ onward x.limit (go x.limit) next x.state x.starts o
      → o ≡ None → IsStep go Dead w x fs y fs
  stuck j next o y e same none = dead j e y (same ∙ ap (onward x.limit (go x.limit) next x.state x.starts) none)

  pub too_far : (j : Instruction) (next : ℕ) (o : Option ℕ) (y : Spot) → instr_at code x.at ≡ j → does j ≡ onward x.limit (go x.limit) next x.state x.starts o
      → (p : ℕ) → o ≡ Some p → x.limit < p → IsStep go Dead w x fs y fs
  too_far j next o y e same p some lt =
      dead j e y (same ∙ ap (onward x.limit (go x.limit) next x.state x.starts) some
      ∙ ap (λ (b : Bool). if b then (go x.limit next (moved_to x.state p) x.starts) else (Some [])) (lt-leb p x.limit lt))

  -- what moving on did
  pub moved_by : (next : Next) (j : Instruction) (q : ℕ) (o : Option ℕ) (y : Spot) (gs : List Frame) → instr_at code x.at ≡ j → does j ≡ onward x.limit (go x.limit) q x.state x.starts o
      → MovedTo next q o x y → gs ≡ fs → IsStep go next w x fs y gs
  moved_by On j q None y gs e same m f = absurd m
  moved_by On j q (Some p) y gs e same m f =
      subst (λ (z : Spot). IsStep go On w x fs z gs) (sym m.1) (subst (λ (l : List Frame). IsStep go On w x fs (at_place q p x) l) (sym f) (moved j q (Some p) e same p refl m.0))
  moved_by Dead j q None y gs e same m f = subst (λ (l : List Frame). IsStep go Dead w x fs y l) (sym f) (stuck j q None y e same refl)
  moved_by Dead j q (Some p) y gs e same m f = subst (λ (l : List Frame). IsStep go Dead w x fs y l) (sym f) (too_far j q (Some p) y e same p refl m)
  moved_by Found j q o y gs e same m f = absurd m

  -- the same, where an item was looked for
  pub read_by : (next : Next) (j : Instruction) (q : ℕ) (o p : Option ℕ) (y : Spot) (gs : List Frame) → instr_at code x.at ≡ j → does j ≡ onward x.limit (go x.limit) q x.state x.starts p
      → o ≡ p → MovedTo next q o x y → gs ≡ fs → IsStep go next w x fs y gs
  read_by next j q o p y gs e same is m f = moved_by next j q p y gs e same (subst (λ (t : Option ℕ). MovedTo next q t x y) is m) f

  -- a test
  pub held : (j : Instruction) (next : ℕ) (c : Bool) → instr_at code x.at ≡ j → does j ≡ (if c then (go x.limit next x.state x.starts) else (Some [])) → c ≡ true
      → IsStep go On w x fs (at_instr next x) fs
  held j next c e same good =
      on j e (at_instr next x) fs (ap (finish go fs) (same ∙ ap (λ (b : Bool). if b then (go x.limit next x.state x.starts) else (Some [])) good)) (omega arith)

  pub refuted : (j : Instruction) (next : ℕ) (c : Bool) (y : Spot) → instr_at code x.at ≡ j → does j ≡ (if c then (go x.limit next x.state x.starts) else (Some [])) → c ≡ false
      → IsStep go Dead w x fs y fs
  refuted j next c y e same bad = dead j e y (same ∙ ap (λ (b : Bool). if b then (go x.limit next x.state x.starts) else (Some [])) bad)

  -- what going on under a test did
  pub went_by : (next : Next) (j : Instruction) (q : ℕ) (b c : Bool) (y : Spot) (gs : List Frame) → instr_at code x.at ≡ j → does j ≡ (if c then (go x.limit q x.state x.starts) else (Some []))
      → b ≡ c → WentIf next b q x y → gs ≡ fs → IsStep go next w x fs y gs
  went_by On j q b c y gs e same is m f =
      subst (λ (z : Spot). IsStep go On w x fs z gs) (sym m.1) (subst (λ (l : List Frame). IsStep go On w x fs (at_instr q x) l) (sym f) (held j q c e same (sym is ∙ m.0)))
  went_by Dead j q b c y gs e same is m f = subst (λ (l : List Frame). IsStep go Dead w x fs y l) (sym f) (refuted j q c y e same (sym is ∙ m))
  went_by Found j q b c y gs e same is m f = absurd m

  pub parted : (a b : ℕ) → instr_at code x.at ≡ i.Split a b → IsStep go On w x fs (at_instr a x) (Saved (at_instr b x) ∷ fs)
  parted a b e = on_mark (i.Split a b) e (at_instr a x) (Saved (at_instr b x) ∷ fs) (finish_note go fs choice_opened _) (omega arith)

  pub parted_crowded : (most a b : ℕ) → instr_at code x.at ≡ i.Split a b → most ≤ saved fs → Crowded most w fs
  parted_crowded most a b e many = crowded most (i.Split a b) _ e refl many

  pub opened : (g next : ℕ) → instr_at code x.at ≡ i.Open g next → IsStep go On w x fs (opened_at g next x) fs
  opened g next e = on (i.Open g next) e (opened_at g next x) fs refl (omega arith)

  pub closed : (g next : ℕ) → instr_at code x.at ≡ i.Close g next → IsStep go On w x fs (closed_at g next x) fs
  closed g next e = on (i.Close g next) e (closed_at g next x) fs refl (omega arith)

  pub kept : (next : ℕ) → instr_at code x.at ≡ i.Keep next → IsStep go On w x fs (kept_at next x) fs
  kept next e = on (i.Keep next) e (kept_at next x) fs refl (omega arith)

  pub entered : (body : ℕ) → instr_at code x.at ≡ i.Enter body → IsStep go On w x fs (at_instr body x) (Within (Atom x.limit) ∷ fs)
  entered body e = on (i.Enter body) e (at_instr body x) (Within (Atom x.limit) ∷ fs) refl (omega arith)

  pub looked : (behind : Bool) (body next : ℕ) → instr_at code x.at ≡ i.Look behind body next
      → IsStep go On w x fs (within_at body (length cx.haystack) x) (Within (LookAround behind next x.state.place x.limit) ∷ fs)
  looked behind body next e = on (i.Look behind body next) e (within_at body (length cx.haystack) x) (Within (LookAround behind next x.state.place x.limit) ∷ fs) refl (omega arith)

  pub denied : (behind : Bool) (body next : ℕ) → instr_at code x.at ≡ i.Deny behind body next
      → IsStep go On w x fs (within_at body (length cx.haystack) x) (Within (Denial behind (at_instr next x)) ∷ fs)
  denied behind body next e =
      on_mark (i.Deny behind body next) e (within_at body (length cx.haystack) x) (Within (Denial behind (at_instr next x)) ∷ fs) (finish_note go fs choice_opened _) (omega arith)

  pub denied_crowded : (most : ℕ) (behind : Bool) (body next : ℕ) → instr_at code x.at ≡ i.Deny behind body next → most ≤ saved fs → Crowded most w fs
  denied_crowded most behind body next e many = crowded most (i.Deny behind body next) _ e refl many

  pub tested : (body other : ℕ) → instr_at code x.at ≡ i.Test body other → IsStep go On w x fs (at_instr body x) (Within (Condition (at_instr other x)) ∷ fs)
  tested body other e = on_mark (i.Test body other) e (at_instr body x) (Within (Condition (at_instr other x)) ∷ fs) (finish_note go fs choice_opened _) (omega arith)

  pub tested_crowded : (most body other : ℕ) → instr_at code x.at ≡ i.Test body other → most ≤ saved fs → Crowded most w fs
  tested_crowded most body other e many = crowded most (i.Test body other) _ e refl many

  pub no_units : (n next : ℕ) (y : Spot) → instr_at code x.at ≡ i.Back n next → units_back cx n x.state.place ≡ None → IsStep go Dead w x fs y fs
  no_units n next y e none = dead (i.Back n next) e y (ap (λ (o : Option ℕ). option_to o (Some []) (λ p. go x.limit next (moved_to x.state p) x.starts)) none)

  pub went_back : (n next p : ℕ) → instr_at code x.at ≡ i.Back n next → units_back cx n x.state.place ≡ Some p → IsStep go On w x fs (at_place next p x) fs
  went_back n next p e some =
      on (i.Back n next) e (at_place next p x) fs
      (ap (λ (o : Option ℕ). finish go fs (option_to o (Some []) (λ p. go x.limit next (moved_to x.state p) x.starts))) some) (omega arith)

  forgotten : (d : Bool) (g a b : ℕ) (y : Spot) → instr_at code x.at ≡ i.Recall d g a b → past_backreference cx d g x.state ≡ None → IsStep go Dead w x fs y fs
  forgotten d g a b y e none = dead (i.Recall d g a b) e y (ap (rejoin x.limit (go x.limit) a b x.state x.starts) none)

  recalls : (d : Bool) (g a b p : ℕ) → past_backreference cx d g x.state ≡ Some p → (c : Bool) → nat_le p x.limit ≡ c → (e : Bool) → (p == x.state.place) ≡ e
      → does (i.Recall d g a b) ≡ (if c then (if e then (go x.limit b (moved_to x.state p) x.starts) else (go x.limit a (moved_to x.state p) x.starts)) else (Some []))
  recalls d g a b p some c ec e ee =
      ap (rejoin x.limit (go x.limit) a b x.state x.starts) some
      ∙ ap (λ (t : Bool). if t then (if p == x.state.place then (go x.limit b (moved_to x.state p) x.starts) else (go x.limit a (moved_to x.state p) x.starts)) else (Some [])) ec
      ∙ ap (λ (t : Bool). if c then (if t then (go x.limit b (moved_to x.state p) x.starts) else (go x.limit a (moved_to x.state p) x.starts)) else (Some [])) ee

  beyond : (d : Bool) (g a b p : ℕ) (y : Spot) → instr_at code x.at ≡ i.Recall d g a b → past_backreference cx d g x.state ≡ Some p → x.limit < p → IsStep go Dead w x fs y fs
  beyond d g a b p y e some lt = dead (i.Recall d g a b) e y (recalls d g a b p some false (lt-leb p x.limit lt) (p == x.state.place) refl)

  recalled : (d : Bool) (g a b p : ℕ) → instr_at code x.at ≡ i.Recall d g a b → past_backreference cx d g x.state ≡ Some p → p ≤ x.limit → (c : Bool) → (p == x.state.place) ≡ c
      → IsStep go On w x fs (at_place (if c then b else a) p x) fs
  recalled d g a b p e some le true same =
      on (i.Recall d g a b) e (at_place b p x) fs (ap (finish go fs) (recalls d g a b p some true (le-leb p x.limit le) true same)) (omega arith)
  recalled d g a b p e some le false same =
      on (i.Recall d g a b) e (at_place a p x) fs (ap (finish go fs) (recalls d g a b p some true (le-leb p x.limit le) false same)) (omega arith)

  -- what moving on after a text did
  pub recalled_by : (next : Next) (d : Bool) (g a b : ℕ) (o : Option ℕ) (y : Spot) (gs : List Frame) → instr_at code x.at ≡ i.Recall d g a b → past_backreference cx d g x.state ≡ o
      → RecalledTo next a b o x y → gs ≡ fs → IsStep go next w x fs y gs
  recalled_by On d g a b None y gs e is m f = absurd m
  recalled_by On d g a b (Some p) y gs e is m f =
      let next = if p == x.state.place then b else a in
      subst (λ (z : Spot). IsStep go On w x fs z gs) (sym m.1)
      (subst (λ (l : List Frame). IsStep go On w x fs (at_place next p x) l) (sym f) (recalled d g a b p e is m.0 (p == x.state.place) refl))
  recalled_by Dead d g a b None y gs e is m f = subst (λ (l : List Frame). IsStep go Dead w x fs y l) (sym f) (forgotten d g a b y e is)
  recalled_by Dead d g a b (Some p) y gs e is m f = subst (λ (l : List Frame). IsStep go Dead w x fs y l) (sym f) (beyond d g a b p y e is m)
  recalled_by Found d g a b o y gs e is m f = absurd m
