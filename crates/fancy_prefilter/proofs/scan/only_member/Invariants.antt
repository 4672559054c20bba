use Rattle.std.proofs.Common.{◌≡◌, ◌<◌, ◌==◌, ℕ, false}
use Rattle.std.specs.Prelude.{MatchOption}
use Rattle.fancy_bytes.specs.Sets.{member}
use Rattle.fancy_prefilter.proofs.scan.only_member.Given as goal

-- so far no byte is a member, or one alone is
abbrev pub invariant-loop-code : goal.invariant-loop-code
invariant-loop-code l =
    MatchOption l.only ((b : ℕ) → b < l.code → member l.set b ≡ false)
    (λ (byte : ℕ). (byte < l.code) × ((b : ℕ) → b < l.code → member l.set b ≡ (b == byte)))
