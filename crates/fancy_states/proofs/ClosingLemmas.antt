-- Following the ways at one place: what may be dropped, and what may be put in a way's place.
use Rattle.std.proofs.Common.{◌≡◌, ℕ, ◌+◌, ◌<◌, ◌⊎◌, Bool, true, false, List, [], ◌∷◌, ◌++◌, Option, Some, None, refl, sym, ap, ap₂, ◌∙◌, subst, inl, inr, arith, set, zero, suc, replicate, reverse, length}
use Rattle.std.proofs.lemmas.List.{reverse-append}
use Rattle.std.specs.Prelude.{is_some, slice_index_or, ◌==◌}
use Rattle.std.specs.Option.{option_or}
use Rattle.std.proofs.lemmas.Bool.{true≢false}
use Rattle.fancy_code.proofs.MarkingLemmas.{member-set}
use Rattle.fancy_states.specs.declared.way.Way.{Way}
use Rattle.fancy_alphabet.specs.declared.effect.Effect.TheVariants as does
use Rattle.fancy_code.specs.Instructions.{Instruction, Match, Fail, Character, Member, RawByte, Assert, Split, Open, Close, Enter, Commit, Look, Deny, Test, Back, Recall, Keep, Continue, Taken}
use Rattle.fancy_meaning.specs.Context.{Unit_at}
use Rattle.fancy_tree.specs.Sets.{has}
use Rattle.fancy_alphabet.specs.Sides.{holds_between}
use Rattle.fancy_states.specs.Ways.{Ends, tagged, way_end, first_end, AllKnown, HasEnd, Below, Covers, Closing}
use Rattle.fancy_alphabet.specs.Effects.{Seen, effect_of, moves_if, reads_where}

or_none : (o : Option (ℕ × ℕ)) → option_or o None ≡ o
or_none None = refl
or_none (Some x) = refl

or_assoc : (a b c : Option (ℕ × ℕ)) → option_or (option_or a b) c ≡ option_or a (option_or b c)
or_assoc None b c = refl
or_assoc (Some x) b c = refl

or_left_none : (a b : Option (ℕ × ℕ)) → option_or a b ≡ None → a ≡ None
or_left_none None b e = refl
or_left_none (Some x) b e = e

or_right_none : (a b : Option (ℕ × ℕ)) → option_or a b ≡ None → b ≡ None
or_right_none None b e = e
or_right_none (Some x) b e = cc

map_or : (f : ℕ) (a b : Option ℕ) → tagged f (option_or a b) ≡ option_or (tagged f a) (tagged f b)
map_or f None b = refl
map_or f (Some x) b = refl

some_or_cases : (a b : Option ℕ) → is_some (option_or a b) ≡ true → (is_some a ≡ true) ⊎ (is_some b ≡ true)
some_or_cases None b e = inr e
some_or_cases (Some x) b e = inl refl

none_of_map : (f : ℕ) (o : Option ℕ) → tagged f o ≡ None → is_some o ≡ true → ⊥
none_of_map f None e h = true≢false (sym h)
none_of_map f (Some x) e h = cc

-- an end or none
decide : (o : Option ℕ) → (is_some o ≡ true) ⊎ (o ≡ None)
decide None = inr refl
decide (Some x) = inl refl

decide_pair : (o : Option (ℕ × ℕ)) → ((x : ℕ × ℕ) × (o ≡ Some x)) ⊎ (o ≡ None)
decide_pair None = inr refl
decide_pair (Some x) = inl (x, refl)

pub first_append : (ends : Ends) (a b : List Way) → first_end ends (a ++ b) ≡ option_or (first_end ends a) (first_end ends b)
first_append ends [] b = refl
first_append ends (l ∷ a) b =
    ap (option_or (way_end ends l)) (first_append ends a b) ∙ sym (or_assoc (way_end ends l) (first_end ends a) (first_end ends b))

first_one : (ends : Ends) (a : List Way) (l : Way) → first_end ends (a ++ l ∷ []) ≡ option_or (first_end ends a) (way_end ends l)
first_one ends a l = first_append ends a (l ∷ []) ∙ ap (option_or (first_end ends a)) (or_none (way_end ends l))

all_append : (known : ℕ → Bool) (a b : List Way) → AllKnown known a → AllKnown known b → AllKnown known (a ++ b)
all_append known [] b f g = g
all_append known (l ∷ a) b f g = (f.0, all_append known a b f.1 g)

module _ (ends later : Ends) (known beyond : ℕ → Bool) (rank : ℕ → ℕ) where
  -- one more instruction is marked
  abbrev pub Adds : List Bool → List Bool → ℕ → Type 0
  Adds marks more q = (p : ℕ) → slice_index_or more p false ≡ true → (slice_index_or marks p false ≡ true) ⊎ (p ≡ q)

  pub adds_none : (marks : List Bool) (q : ℕ) → Adds marks marks q
  adds_none marks q p h = inl h

  pub adds_mark : (marks more : List Bool) (q : ℕ) → more ≡ set marks q true → Adds marks more q
  adds_mark marks more q e p h = member-set marks p q (subst (λ (x : List Bool). slice_index_or x p false ≡ true) e h)

  -- what is marked stays covered
  covers_next : (marks more : List Bool) (l : Way) (ls next : List Way) → Adds marks more l.at
      → Covers ends later known beyond rank marks (l ∷ ls)
      → ((r : ℕ) → rank l.at < r + 1 → HasEnd ends later known beyond rank l.at → Below ends later known beyond rank r next)
      → ((r : ℕ) → rank l.at < r → Below ends later known beyond rank r ls → Below ends later known beyond rank r next)
      → Covers ends later known beyond rank more next
  covers_next marks more l ls next adds covers top under q seen hit =
      elim (adds q seen) [
        | inl old ↦
            let h = covers q old hit in
            elim h.1 [
              | inl here ↦ let lt : rank l.at < rank q = h.0 in top (rank q) (omega arith) here
              | inr rest ↦ under (rank q) h.0 rest
            ]
        | inr same ↦
            let e : rank q ≡ rank l.at = ap rank same in
            top (rank q) (omega arith) (subst (λ x. HasEnd ends later known beyond rank x) same hit)
      ]

  module _ (goal : Option (ℕ × ℕ)) where
    -- a way without an end is dropped
    pub close_dead : (marks more : List Bool) (next ls : List Way) (l : Way) → Closing ends later known beyond rank goal marks next (l ∷ ls)
        → Adds marks more l.at → ends l.at ≡ None → Closing ends later known beyond rank goal more next ls
    close_dead marks more next ls l c adds none =
        let never : HasEnd ends later known beyond rank l.at → ⊥ = λ h. true≢false (sym (sym (ap (λ (o : Option ℕ). is_some o) none) ∙ h)) in
        record {
          all = c.all.1;
          reached = c.reached;
          answer = sym (ap (λ (o : Option ℕ). option_or (first_end later next) (option_or (tagged l.from o) (first_end ends ls))) none) ∙ c.answer;
          covers = λ out. covers_next marks more l ls ls adds (c.covers out) (λ r lt h. absurd (never h)) (λ r lt h. h);
        }

    -- where something reached has an end, what is still to be followed does not count
    drop_hidden : (next ls : List Way) (l : Way) (x : ℕ × ℕ) → first_end later next ≡ Some x
        → option_or (first_end later next) (first_end ends (l ∷ ls)) ≡ option_or (first_end later next) (first_end ends ls)
    drop_hidden next ls l x e =
        ap (λ (o : Option (ℕ × ℕ)). option_or o (first_end ends (l ∷ ls))) e ∙ sym (ap (λ (o : Option (ℕ × ℕ)). option_or o (first_end ends ls)) e)

    -- a way that was met before is dropped
    pub close_seen : (marks : List Bool) (next ls : List Way) (l : Way) → Closing ends later known beyond rank goal marks next (l ∷ ls)
        → slice_index_or marks l.at false ≡ true → Closing ends later known beyond rank goal marks next ls
    close_seen marks next ls l c seen =
        elim (decide_pair (first_end later next)) [
          | inl some ↦ record {
            all = c.all.1;
            reached = c.reached;
            answer = sym (drop_hidden next ls l some.0 some.1) ∙ c.answer;
            covers = λ out. absurd (let e : Some some.0 ≡ None = sym some.1 ∙ out in cc);
          }
          | inr none ↦
              elim (decide (ends l.at)) [
                | inl hit ↦ let h = c.covers none l.at seen hit in let lt : rank l.at < rank l.at = h.0 in absurd (omega arith)
                | inr dead ↦ close_dead marks marks next ls l c (adds_none marks l.at) dead
              ]
        ]

    -- a way that reads goes on after the item
    pub close_reads : (marks more : List Bool) (next ls : List Way) (l m : Way) → Closing ends later known beyond rank goal marks next (l ∷ ls)
        → Adds marks more l.at → m.from ≡ l.from → beyond m.at ≡ true → ends l.at ≡ later m.at → Closing ends later known beyond rank goal more (next ++ m ∷ []) ls
    close_reads marks more next ls l m c adds from there e =
        let same : way_end later m ≡ way_end ends l = ap₂ tagged from (sym e) in
        let one : first_end later (next ++ m ∷ []) ≡ option_or (first_end later next) (way_end ends l) = first_one later next m ∙ ap (option_or (first_end later next)) same in
        record {
          all = c.all.1;
          reached = all_append beyond next (m ∷ []) c.reached (there, tt);
          answer = ap (λ (o : Option (ℕ × ℕ)). option_or o (first_end ends ls)) one
              ∙ or_assoc (first_end later next) (way_end ends l) (first_end ends ls) ∙ c.answer;
          covers = λ out.
              (let both = sym one ∙ out in
              let never : HasEnd ends later known beyond rank l.at → ⊥ = none_of_map l.from (ends l.at) (or_right_none (first_end later next) (way_end ends l) both) in
              covers_next marks more l ls ls adds (c.covers (or_left_none (first_end later next) (way_end ends l) both)) (λ r lt h. absurd (never h)) (λ r lt h. h));
        }

    -- a way that goes on at the same place
    pub close_moves : (marks more : List Bool) (next ls : List Way) (l m : Way) → Closing ends later known beyond rank goal marks next (l ∷ ls)
        → Adds marks more l.at → m.from ≡ l.from → known m.at ≡ true → ends l.at ≡ ends m.at → rank m.at < rank l.at
        → Closing ends later known beyond rank goal more next (m ∷ ls)
    close_moves marks more next ls l m c adds from there e lower =
        let same : way_end ends l ≡ way_end ends m = ap₂ tagged (sym from) e in
        record {
          all = (there, c.all.1);
          reached = c.reached;
          answer = sym (ap (λ (o : Option (ℕ × ℕ)). option_or (first_end later next) (option_or o (first_end ends ls))) same) ∙ c.answer;
          covers = λ out. covers_next marks more l ls (m ∷ ls) adds (c.covers out)
              (λ r lt h. (omega (arith, lower, lt), inl (sym (ap (λ (o : Option ℕ). is_some o) e) ∙ h)))
              (λ r lt h. (omega (arith, lower, lt), inr h));
        }

    -- a way that ends with an outcome hides those after it
    pub close_ended : (marks : List Bool) (next ls : List Way) (l : Way) (here : ℕ) → Closing ends later known beyond rank goal marks next (l ∷ ls)
        → ends l.at ≡ Some here → AllKnown beyond next × (option_or (first_end later next) (Some (l.from, here)) ≡ goal)
    close_ended marks next ls l here c e = (
      c.reached,
      sym (ap (λ (o : Option ℕ). option_or (first_end later next) (option_or (tagged l.from o) (first_end ends ls))) e) ∙ c.answer,
    )

    -- a way that parts
    pub close_both : (marks more : List Bool) (next ls : List Way) (l a b : Way) → Closing ends later known beyond rank goal marks next (l ∷ ls)
        → Adds marks more l.at → a.from ≡ l.from → b.from ≡ l.from → known a.at ≡ true → known b.at ≡ true
        → ends l.at ≡ option_or (ends a.at) (ends b.at) → rank a.at < rank l.at → rank b.at < rank l.at
        → Closing ends later known beyond rank goal more next (a ∷ b ∷ ls)
    close_both marks more next ls l a b c adds fa fb ka kb e la lb =
        let rest = first_end ends ls in
        let parts : way_end ends l ≡ option_or (way_end ends a) (way_end ends b) =
        ap (tagged l.from) e ∙ map_or l.from (ends a.at) (ends b.at)
        ∙ ap₂ (λ (f g : ℕ). option_or (tagged f (ends a.at)) (tagged g (ends b.at))) (sym fa) (sym fb) in
        let hit : HasEnd ends later known beyond rank l.at → HasEnd ends later known beyond rank a.at ⊎ HasEnd ends later known beyond rank b.at = λ h.
        some_or_cases (ends a.at) (ends b.at) (sym (ap (λ (o : Option ℕ). is_some o) e) ∙ h) in
        record {
          all = (ka, (kb, c.all.1));
          reached = c.reached;
          answer = sym (ap (option_or (first_end later next)) (ap (λ (o : Option (ℕ × ℕ)). option_or o rest) parts ∙ or_assoc (way_end ends a) (way_end ends b) rest)) ∙ c.answer;
          covers = λ out. covers_next marks more l ls (a ∷ b ∷ ls) adds (c.covers out)
              (λ r lt h. (omega (arith, la), elim (hit h) [ inl x ↦ inl x | inr x ↦ inr (omega (arith, lb), inl x) ]))
              (λ r lt h. (omega (arith, la), inr (omega (arith, lb), inr h)));
        }

-- before anything was followed
pub close_first : (ends later : Ends) (known beyond : ℕ → Bool) (rank : ℕ → ℕ) (n : ℕ) (marks : List Bool) (next stack : List Way)
    → marks ≡ replicate n false → next ≡ [] → AllKnown known stack → Closing ends later known beyond rank (first_end ends stack) marks next stack
close_first ends later known beyond rank n marks next stack clear fresh all = record {
  all = all;
  reached = subst (AllKnown beyond) (sym fresh) tt;
  answer = ap (λ (ls : List Way). option_or (first_end later ls) (first_end ends stack)) fresh;
  covers = λ out q seen hit. absurd (unmarked n q (subst (λ (x : List Bool). slice_index_or x q false ≡ true) clear seen));
} where
  unmarked : (n q : ℕ) → slice_index_or (replicate n false) q false ≡ true → ⊥
  unmarked zero q h = true≢false (sym h)
  unmarked (suc n) zero h = true≢false (sym h)
  unmarked (suc n) (suc q) h = unmarked n q h

no_ways : (ls : List Way) → length ls ≡ 0 → ls ≡ []
no_ways [] e = refl
no_ways (l ∷ ls) e = absurd (omega arith)

-- nothing is left to follow
pub close_over : (ends later : Ends) (known beyond : ℕ → Bool) (rank : ℕ → ℕ) (goal : Option (ℕ × ℕ)) (marks : List Bool) (next items : List Way)
    → length items ≡ 0 → Closing ends later known beyond rank goal marks next (reverse items) → AllKnown beyond next × (option_or (first_end later next) None ≡ goal)
close_over ends later known beyond rank goal marks next items e c =
    let none : Closing ends later known beyond rank goal marks next [] = subst (Closing ends later known beyond rank goal marks next) (ap (λ (x : List Way). reverse x) (no_ways items e)) c in
    (none.reached, none.answer)

-- the way on top of the stack
pub closing_popped : (ends later : Ends) (known beyond : ℕ → Bool) (rank : ℕ → ℕ) (goal : Option (ℕ × ℕ)) (marks : List Bool) (next items rest : List Way) (l : Way)
    → items ≡ rest ++ l ∷ [] → Closing ends later known beyond rank goal marks next (reverse items) → Closing ends later known beyond rank goal marks next (l ∷ reverse rest)
closing_popped ends later known beyond rank goal marks next items rest l e c =
    subst (Closing ends later known beyond rank goal marks next) (ap (λ (x : List Way). reverse x) e ∙ reverse-append rest (l ∷ [])) c

-- where nothing is read, no way reads
pub never_reads : (u : Seen) (j : Instruction) (n : ℕ) → u.unit ≡ None → effect_of u j ≡ does.Reads n → ⊥
never_reads u j n none h = reads j h where
  nothing : (test : ℕ → Bool) (next : ℕ) → reads_where u.unit test next ≡ does.Reads n → ⊥
  nothing test next h = (let e : does.Fails ≡ does.Reads n = sym (ap (λ (o : Option Unit_at). reads_where o test next) none) ∙ h in cc)

  moves : (b : Bool) (next : ℕ) → moves_if b next ≡ does.Reads n → ⊥
  moves true next h = cc
  moves false next h = cc

  reads : (j : Instruction) → effect_of u j ≡ does.Reads n → ⊥
  reads Match h = cc
  reads Fail h = cc
  reads (Character c next) h = nothing (λ d. d == c) next h
  reads (Member edges next) h = nothing (has edges) next h
  reads (RawByte byte next) h = cc
  reads (Assert a next) h = moves (holds_between u.before u.after a) next h
  reads (Split a b) h = cc
  reads (Open group next) h = cc
  reads (Close group next) h = cc
  reads (Enter body) h = cc
  reads (Commit next) h = cc
  reads (Look behind body next) h = cc
  reads (Deny behind body next) h = cc
  reads (Test body other) h = cc
  reads (Back n next) h = cc
  reads (Recall folded number moved still) h = cc
  reads (Keep next) h = cc
  reads (Continue next) h = cc
  reads (Taken number next) h = cc
