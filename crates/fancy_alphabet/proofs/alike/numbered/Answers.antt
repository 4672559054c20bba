use Rattle.std.proofs.Common.{◌≡◌, ◌∙◌, ◌<◌, ℕ, subst, arith, get_or, length}
use Rattle.std.proofs.lemmas.Option.{get_or_from_slice_get, slice_get_within}
use Rattle.fancy_alphabet.proofs.ClassLemmas.{member_low, member_past}
use Rattle.fancy_alphabet.proofs.alike.numbered.Goals as goal

pub invariant_of-result-clause-known : goal.invariant_of-result-clause-known
invariant_of-result-clause-known c byte class there =
    let members = c.loop-byte.members.items in
    let columns = c.loop-byte.columns.items in
    let within = slice_get_within columns byte class there in
    let is : get_or columns byte 0 ≡ class = get_or_from_slice_get columns byte class 0 there in
    subst (λ (k : ℕ). k < length members) is
    (c.loop-byte.invariant.1.each byte (omega (arith, within, c.loop-byte.invariant.1.size))).0

pub returns-clause-low : goal.returns-clause-low
returns-clause-low c byte low =
    member_low c.loop-byte.columns.items c.loop-byte.members.items byte (omega (arith, low, c.loop-byte.invariant.1.size, c.loop-byte-test.false))
    ∙ (c.loop-byte.invariant.1.each byte (omega (arith, low, c.loop-byte-test.false))).1

pub returns-clause-past : goal.returns-clause-past
returns-clause-past c byte past =
    member_past c.loop-byte.columns.items c.loop-byte.members.items byte
    (omega (arith, past, c.loop-byte.invariant.1.size, c.loop-byte.auto.byte-end))
