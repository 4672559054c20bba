use Rattle.std.proofs.Common.{List, ℕ, length, sym, ap, subst, ◌+◌, ◌<◌, ◌∙◌, refl, arith, inl, inr, eqb-true, eq-eqb, true≢false}
use Rattle.fancy_tree.specs.Members.{edges_of}
use Rattle.fancy_tree.specs.Sets.{has}
use Rattle.fancy_bytes.specs.Sets.{ByteFlags}
use Rattle.fancy_code.specs.Code.{instrs_of, instr_in}
use Rattle.fancy_bytes.specs.Items.{encoding}
use Rattle.fancy_bytes.specs.Rows.{Wider}
use Rattle.fancy_bytes.proofs.ItemBytesLemmas.{wider_encoding, wider_on}
use Rattle.fancy_code.specs.Foretold.{ForetoldPast}
use Rattle.fancy_code.proofs.InstructionLemmas.{length-instrs_of}
use Rattle.fancy_code.proofs.ForetoldLemmas.{told_past, told_nowhere, told_character, told_member, told_assert, told_open, told_close, told_split, past_row, past_none, past_items, past_character, past_joined, wider_past, wider_told, wider_cut, cut_length, encoding_short}
use Rattle.fancy_code.proofs.prefilter.+collect.Goals as goal
use Rattle.fancy_code.proofs.prefilter.+collect.Goals.{collect-then-spot-len-via-then-spot-len, collect-then-spot-len-via-else-spot-len+then-spot-len-2, collect_sizes-then-spot-len-via-then-spot-len, collect_sizes-then-spot-len-via-else-spot-len+then-not-has_size, collect_sizes-then-spot, collect_sizes-else-spot}

pub collect-returns-then-spot-len-clause-told : goal.collect-returns-then-spot-len-clause-told
collect-returns-then-spot-len-clause-told t c =
    elim c.then-spot-len.branch [
      | collect-then-spot-len-via-then-spot-len w ↦
          told_past c.args.code.now.meaning (instrs_of c.args.code.now) c.args.sets.now.items c.args.spot.from c.args.spot.at c.args.spot.exact (omega (arith, w.if-spot-len.true, c.len.ensures))
      | collect-then-spot-len-via-else-spot-len+then-spot-len-2 w ↦
          told_nowhere c.args.code.now.meaning (instrs_of c.args.code.now) c.args.sets.now.items c.args.spot.from c.args.spot.at c.args.spot.exact
          (omega (arith, w.if-spot-len-2.true, w.len-else-spot-len.ensures, length-instrs_of c.args.code.now))
    ]

pub collect-returns-then-spot-eq0-clause-told : goal.collect-returns-then-spot-eq0-clause-told
collect-returns-then-spot-eq0-clause-told t c =
    told_past c.args.code.now.meaning (instrs_of c.args.code.now) c.truncate.new.self.items c.args.spot.from c.args.spot.at c.args.spot.exact
    (omega (arith, ap length c.truncate.ensures.items, cut_length c.args.sets.now.items c.args.spot.from (omega (arith, c.if-spot-len.false, c.len.ensures))))

pub collect_instruction-returns-in-Character-clause-told : goal.collect_instruction-returns-in-Character-clause-told
collect_instruction-returns-in-Character-clause-told t c =
    told_character c.args.code.now.meaning (instrs_of c.args.code.now) c.collect_character.new.sets.items c.args.spot.from c.args.spot.at c.in-Character.next c.args.spot.exact
    c.in-Character.character (sym c.instr.ensures.instr ∙ ap (instr_in c.args.code.now) c.in-Character.is) c.collect_character.ensures.told

pub collect_instruction-returns-in-Member-clause-told : goal.collect_instruction-returns-in-Member-clause-told
collect_instruction-returns-in-Member-clause-told t c =
    told_member c.args.code.now.meaning (instrs_of c.args.code.now) c.collect_members.new.sets.items c.args.spot.from c.args.spot.at c.in-Member.next c.args.spot.exact
    _ (sym c.instr.ensures.instr ∙ ap (instr_in c.args.code.now) c.in-Member.is)
    (subst (λ (es : List ℕ). ForetoldPast (instrs_of c.args.code.now) c.args.code.now.meaning c.collect_members.new.sets.items c.args.spot.from c.args.spot.exact (has es) 1 5 c.in-Member.next)
    c.set.ensures c.collect_members.ensures.told)

pub collect_instruction-returns-in-Split-clause-told : goal.collect_instruction-returns-in-Split-clause-told
collect_instruction-returns-in-Split-clause-told t c =
    told_split c.args.code.now.meaning (instrs_of c.args.code.now) c.collect-in-Split.new.sets.items c.args.spot.from c.args.spot.at c.args.spot.exact c.in-Split.first c.in-Split.second
    (sym c.instr.ensures.instr ∙ ap (instr_in c.args.code.now) c.in-Split.is)
    (wider_told c.args.code.now.meaning (instrs_of c.args.code.now) c.args.spot.from c.in-Split.first c.args.spot.exact c.collect.new.sets.items c.collect-in-Split.new.sets.items
    c.collect-in-Split.ensures.wider c.collect.ensures.told)
    c.collect-in-Split.ensures.told

pub collect_instruction-returns-in_default : goal.collect_instruction-returns-in_default
collect_instruction-returns-in_default t c =
    let lt : c.args.spot.from < length c.args.sets.now.items = c.requires.inside in
    record {
      wider = subst (λ (l : List ByteFlags). Wider c.args.sets.now.items l) (sym c.truncate.ensures.items) (wider_cut c.args.sets.now.items c.args.spot.from lt);
      told = told_past c.args.code.now.meaning (instrs_of c.args.code.now) c.truncate.new.self.items c.args.spot.from c.args.spot.at c.args.spot.exact
          (omega (arith, ap length c.truncate.ensures.items, cut_length c.args.sets.now.items c.args.spot.from lt));
    }

pub collect_instruction-returns-in-Assert-clause-told : goal.collect_instruction-returns-in-Assert-clause-told
collect_instruction-returns-in-Assert-clause-told t c =
    elim c.in-Assert.is [
      | inl a ↦ told_assert c.args.code.now.meaning (instrs_of c.args.code.now) c.collect-in-Assert.new.sets.items c.args.spot.from c.args.spot.at c.args.spot.exact a.0 c.in-Assert.next
          (sym c.instr.ensures.instr ∙ ap (instr_in c.args.code.now) a.1) c.collect-in-Assert.ensures.told
      | inr others ↦ elim others [
        | inl o ↦ told_open c.args.code.now.meaning (instrs_of c.args.code.now) c.collect-in-Assert.new.sets.items c.args.spot.from c.args.spot.at c.args.spot.exact o.0 c.in-Assert.next
            (sym c.instr.ensures.instr ∙ ap (instr_in c.args.code.now) o.1) c.collect-in-Assert.ensures.told
        | inr o ↦ told_close c.args.code.now.meaning (instrs_of c.args.code.now) c.collect-in-Assert.new.sets.items c.args.spot.from c.args.spot.at c.args.spot.exact o.0 c.in-Assert.next
            (sym c.instr.ensures.instr ∙ ap (instr_in c.args.code.now) o.1) c.collect-in-Assert.ensures.told
      ]
    ]

pub collect_character-returns-clause-told : goal.collect_character-returns-clause-told
collect_character-returns-clause-told t c =
    let sets = c.args.sets.now in
    past_character c.args.code.now.meaning (instrs_of c.args.code.now) c.collect.new.sets.items c.args.spot.from c.args.spot.at c.saturating_add.result c.args.spot.exact c.args.c
    (wider_encoding c.add_character.new.sets.items c.collect.new.sets.items c.collect.ensures.wider c.args.spot.from c.args.spot.exact (encoding c.args.code.now.meaning c.args.c) c.add_character.ensures.has)
    (omega (arith, c.saturating_add.ensures, c.size_of.ensures, encoding_short c.args.code.now.meaning c.args.c, c.requires.inside, sets.ok.0, sets.ok.1, sets.small))
    c.collect.ensures.told

pub collect_members-loop-size-preserved : goal.collect_members-loop-size-preserved
collect_members-loop-size-preserved t c =
    let was = c.loop-size.sets.items in
    let now = c.collect_sizes-in-loop-size.new.sets.items in
    let m = c.args.code.now.meaning in
    let code = instrs_of c.args.code.now in
    let from = c.args.spot.from in
    let exact = c.args.spot.exact in
    let test = has (edges_of c.args.set.now.set) in
    record {
      wider = wider_on c.args.sets.now.items was now c.loop-size.invariant.wider c.collect_sizes-in-loop-size.ensures.wider;
      told = past_joined m code now from c.args.spot.at exact test 1 c.loop-size.size (c.loop-size.size + 1)
          (wider_past m code from c.args.spot.at exact test 1 c.loop-size.size was now c.collect_sizes-in-loop-size.ensures.wider c.loop-size.invariant.told)
          c.collect_sizes-in-loop-size.ensures.told;
    }

pub collect_members-returns-clause-told : goal.collect_members-returns-clause-told
collect_members-returns-clause-told t c =
    subst (λ (bound : ℕ). ForetoldPast (instrs_of c.args.code.now) c.args.code.now.meaning c.loop-size.sets.items c.args.spot.from c.args.spot.exact (has (edges_of c.args.set.now.set)) 1 bound c.args.spot.at)
    (omega (arith, c.loop-size-test.false, c.loop-size.auto.size-end (omega arith)))
    c.loop-size.invariant.told

pub collect_sizes-returns-then-spot-len-clause-told : goal.collect_sizes-returns-then-spot-len-clause-told
collect_sizes-returns-then-spot-len-clause-told t c =
    elim c.then-spot-len.branch [
      | collect_sizes-then-spot-len-via-then-spot-len w ↦
          past_row c.args.code.now.meaning (instrs_of c.args.code.now) c.args.sets.now.items c.args.spot.from c.args.spot.exact (has (edges_of c.args.set.now.set))
          c.args.sizes.least (c.args.sizes.most + 1) c.args.spot.at (omega (arith, w.if-spot-len.true, c.len.ensures))
      | collect_sizes-then-spot-len-via-else-spot-len+then-not-has_size w ↦
          past_none c.args.code.now.meaning (instrs_of c.args.code.now) c.args.sets.now.items c.args.spot.from c.args.spot.exact (has (edges_of c.args.set.now.set))
          c.args.sizes.least c.args.sizes.most c.args.spot.at (w.if-not-has_size.ensures refl)
    ]

pub collect_sizes-returns-clause-told : goal.collect_sizes-returns-clause-told
collect_sizes-returns-clause-told t c =
    let sets = c.args.sets.now in
    let sizes = c.args.sizes in
    let m = c.args.code.now.meaning in
    let test = has (edges_of c.args.set.now.set) in
    past_items m (instrs_of c.args.code.now) c.collect.new.sets.items c.args.spot.from c.args.spot.exact test sizes.least sizes.most c.args.spot.at c.saturating_add.result c.if-spot.after
    (λ d passes item more less.
    wider_encoding c.add_members.new.sets.items c.collect.new.sets.items c.collect.ensures.wider c.args.spot.from c.args.spot.exact (encoding m d)
    (c.add_members.ensures.has d passes item more less))
    (omega (arith, c.saturating_add.ensures, c.requires.short, c.if-spot-len.false, c.len.ensures, sets.ok.0, sets.ok.1, sets.small))
    (λ e.
    elim c.if-spot.branch [
      | collect_sizes-then-spot w ↦ (w.if-spot.true, eqb-true sizes.least sizes.most (sym w.after-is ∙ e))
      | collect_sizes-else-spot w ↦ absurd (true≢false (sym e ∙ w.after-is ∙ w.if-spot.false))
    ])
    (λ e same.
    elim c.if-spot.branch [
      | collect_sizes-then-spot w ↦ w.after-is ∙ eq-eqb sizes.least sizes.most same
      | collect_sizes-else-spot w ↦ w.after-is ∙ e
    ])
    c.collect.ensures.told
