use Rattle.std.proofs.Common.{◌≡◌, ◌∙◌, ◌<◌, ◌≤◌, ◌==◌, ℕ, Option, Some, None, true, false, refl, sym, arith, true≢false}
use Rattle.std.specs.Prelude.{MatchOption}
use Rattle.std.specs.Option.{is_some}
use Rattle.std.proofs.lemmas.Bool.{eq-eqb, eqb-true}
use Rattle.fancy_bytes.specs.Sets.{ByteFlags, IsSetOf, member}
use Rattle.fancy_prefilter.proofs.scan.only_member.Goals as goal

-- what the members below a number tell
abbrev Told : ByteFlags → ℕ → Option ℕ → Type 0
Told set code only = MatchOption only ((b : ℕ) → b < code → member set b ≡ false) (λ (byte : ℕ). (byte < code) × ((b : ℕ) → b < code → member set b ≡ (b == byte)))

-- two members are not one byte
are_two : (set : ByteFlags) (code : ℕ) (only : Option ℕ) → Told set code only → is_some only ≡ true → member set code ≡ true → code < 256 → (byte : ℕ) → ¬ IsSetOf (λ b. b == byte) set
are_two set code None told is here lt byte alone = true≢false (sym is)
are_two set code (Some o) told is here lt byte alone =
    let last : code ≡ byte = eqb-true code byte (sym (alone code lt) ∙ here) in
    let first : o ≡ byte = eqb-true o byte (sym (alone o (omega (arith, lt, told.0))) ∙ told.1 o told.0 ∙ eq-eqb o o refl) in
    absurd (omega (arith, last, first, told.0))

-- all bytes were looked at
all_told : (set : ByteFlags) (code : ℕ) (only : Option ℕ) → 256 ≤ code → Told set code only → MatchOption only ((byte : ℕ) → byte < 256 → ¬ IsSetOf (λ b. b == byte) set) (λ byte. IsSetOf (λ b. b == byte) set)
all_told set code None all told = λ byte lt alone. true≢false (sym (eq-eqb byte byte refl) ∙ sym (alone byte lt) ∙ told byte (omega (arith, all, lt)))
all_told set code (Some o) all told = λ b lt. told.1 b (omega (arith, all, lt))

pub returns-then-is_some : goal.returns-then-is_some
returns-then-is_some c byte lt alone =
    are_two c.args.set.now c.loop-code.code c.loop-code.only c.loop-code.invariant (sym c.is_some.ensures ∙ c.if-is_some.true) (sym c.contains.ensures ∙ c.if-contains.true) (omega (arith, c.loop-code-test.true)) byte alone

pub returns : goal.returns
returns c = all_told c.args.set.now c.loop-code.code c.loop-code.only c.loop-code-test.false c.loop-code.invariant
