-- Loops of one item: what their choice and their item do.
use Rattle.std.proofs.Common.{◌≡◌, ◌⊎◌, ℕ, ◌+◌, ◌<◌, ◌≤◌, ◌==◌, Bool, true, length, Some, None, is_some, if◌then◌else◌, inl, inr, refl, sym, ap, ◌∙◌, arith, slice_index, true≢false}
use Rattle.std.proofs.lemmas.Bool.{cases_lt}
use Rattle.std.proofs.lemmas.Option.{slice_get-get_or}
use Rattle.std.proofs.lemmas.Bool.Decides.{eqb_tells}
use Rattle.fancy_bytes.specs.Sets.{member}
use Rattle.fancy_prefilter.specs.declared.choice.ItemLoop.{ItemLoop}
use Rattle.fancy_code.specs.declared.attempt.Attempt.{Attempt}
use Rattle.fancy_code.specs.Attempt.{context_in, instrs_in}
use Rattle.fancy_code.specs.Choices.{GoesRound, way_beside}
use Rattle.fancy_code.specs.Code.{cost_of, due_of}
use Rattle.fancy_code.specs.Instructions.{Instruction, Match, Fail, Character, Member, RawByte, Assert, Split, Open, Close, Enter, Commit, Look, Deny, Test, Back, Recall, Keep, Continue, Taken}
use Rattle.fancy_code.specs.Items.{reads_to}
use Rattle.fancy_code.specs.Run.{instr_at}
use Rattle.fancy_code.specs.Thread.{starts_of, state_of}
use Rattle.fancy_code.proofs.ItemLemmas.{item_of}
use Rattle.fancy_code.proofs.RunMore.{past_end}
use Rattle.fancy_runner.specs.Runs.{GoesOn}
use Rattle.fancy_runner.specs.Threads.{thread_of}
use Rattle.fancy_runner.proofs.ChoiceLemmas.{first_alone, second_alone}
use Rattle.fancy_runner.proofs.RunnerSteps.{read_byte}

-- the way beside one of a choice
record Beside (i : Instruction) (q : ℕ) : Type 0 where
  other : ℕ
  beside : way_beside i q ≡ Some other
  ways : (i ≡ Split q other) ⊎ (i ≡ Split other q)

beside_of : (i : Instruction) (q : ℕ) → is_some (way_beside i q) ≡ true → Beside i q
beside_of (Split a b) q some =
    elim (eqb_tells a q) [
      | inl first ↦ record { other = b; beside = ap (λ (t : Bool). if t then (Some b) else (if b == q then (Some a) else None)) first.0; ways = inl (ap (λ (k : ℕ). Split k b) first.1) }
      | inr apart ↦
          let rest : way_beside (Split a b) q ≡ (if b == q then (Some a) else None) = ap (λ (t : Bool). if t then (Some b) else (if b == q then (Some a) else None)) apart.0 in
          elim (eqb_tells b q) [
            | inl second ↦ record { other = a; beside = rest ∙ ap (λ (t : Bool). if t then (Some a) else None) second.0; ways = inr (ap (Split a) second.1) }
            | inr neither ↦ absurd (true≢false (sym some ∙ ap is_some (rest ∙ ap (λ (t : Bool). if t then (Some a) else None) neither.0)))
          ]
    ]
beside_of Match q some = absurd (true≢false (sym some))
beside_of Fail q some = absurd (true≢false (sym some))
beside_of (Assert a n) q some = absurd (true≢false (sym some))
beside_of (Open g n) q some = absurd (true≢false (sym some))
beside_of (Close g n) q some = absurd (true≢false (sym some))
beside_of (Enter b) q some = absurd (true≢false (sym some))
beside_of (Commit n) q some = absurd (true≢false (sym some))
beside_of (Look l b n) q some = absurd (true≢false (sym some))
beside_of (Deny l b n) q some = absurd (true≢false (sym some))
beside_of (Test b o) q some = absurd (true≢false (sym some))
beside_of (Back k n) q some = absurd (true≢false (sym some))
beside_of (Recall f g m s) q some = absurd (true≢false (sym some))
beside_of (Keep n) q some = absurd (true≢false (sym some))
beside_of (Continue n) q some = absurd (true≢false (sym some))
beside_of (Taken g n) q some = absurd (true≢false (sym some))
beside_of (Character c n) q some = absurd (true≢false (sym some))
beside_of (Member e n) q some = absurd (true≢false (sym some))
beside_of (RawByte b n) q some = absurd (true≢false (sym some))

-- what leads on from an item is due
reads_cost : (a : Attempt) (i : Instruction) (q : ℕ) → reads_to i q ≡ true → due_of a.code.now q ≤ cost_of a.code.now i
reads_cost a i q to =
    elim (item_of i q to) [
      | inl e ↦ omega (arith, ap (cost_of a.code.now) e.1)
      | inr (inl e) ↦ omega (arith, ap (cost_of a.code.now) e.1)
      | inr (inr e) ↦ omega (arith, ap (cost_of a.code.now) e.1)
    ]

module _ (a : Attempt) (l : ItemLoop) (q : ℕ) (round : GoesRound (instrs_in a) a.code.now.meaning l q) where
  pub choice_inside : q < length (instrs_in a)
  choice_inside =
      elim (cases_lt q (length (instrs_in a))) [
        | inl lt ↦ lt
        | inr past ↦ absurd (true≢false (sym round.ways ∙ ap (λ (i : Instruction). is_some (way_beside i l.item)) (past_end (instrs_in a) q past)))
      ]

  pub item_inside : l.item < length (instrs_in a)
  item_inside =
      elim (cases_lt l.item (length (instrs_in a))) [
        | inl lt ↦ lt
        | inr past ↦ absurd (true≢false (sym round.item ∙ ap (λ (i : Instruction). reads_to i q) (past_end (instrs_in a) l.item past)))
      ]

  module _ (place : ℕ) (bytes : (k : ℕ) → slice_index a.haystack.now k < 256) (stands : member l.bytes (slice_index a.haystack.now place) ≡ true) where
    -- the choice leads to the item alone
    pub choice_goes : place ≤ a.last → GoesOn a (record { at = q; place = place }) (record { at = l.item; place = place })
    choice_goes le =
        let b = beside_of (instr_at (instrs_in a) q) l.item round.ways in
        record {
          went = λ kept deep slots known.
              (let t = thread_of (record { at = q; place = place }) slots in
              let none = round.outside b.other b.beside (context_in a) a.last deep (state_of kept t) (starts_of t) refl bytes stands in
              elim b.ways [
                | inl first ↦ first_alone (context_in a) a.last (instrs_in a) deep kept t known l.item b.other first none
                | inr second ↦ second_alone (context_in a) a.last (instrs_in a) deep kept t known b.other l.item second none
              ]);
          forth = omega arith;
          near = omega arith;
          high = le;
          paid = elim b.ways [
            | inl first ↦ omega (arith, ap (cost_of a.code.now) first)
            | inr second ↦ omega (arith, ap (cost_of a.code.now) second)
          ];
        }

    -- the item leads back
    pub item_goes : place < length a.haystack.now → place < a.last → GoesOn a (record { at = l.item; place = place }) (record { at = q; place = place + 1 })
    item_goes inside lt = record {
      went = λ kept deep slots known.
          read_byte (context_in a) a.last (instrs_in a) deep kept (thread_of (record { at = l.item; place = place }) slots) known (slice_index a.haystack.now place) q
          (round.reads (slice_index a.haystack.now place) (bytes place) stands) (slice_get-get_or a.haystack.now place 0 inside) lt;
      forth = omega arith;
      near = omega arith;
      high = omega (arith, lt);
      paid = reads_cost a (instr_at (instrs_in a) l.item) q round.item;
    }
