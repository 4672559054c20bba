use Rattle.std.proofs.Common.{◌≡◌, refl}
use Rattle.std.proofs.Math.Logic.{∥∥₁_elim, ∥∥₁_prop}
use Rattle.fancy_code.specs.Compile.{IsCodeOf}
use Rattle.fancy_search.specs.Programs.{program_pattern}
use Rattle.fancy_search.proofs.program.Program.backtrack_at.Goals as goal

pub attempt_at-requires : goal.attempt_at-requires
attempt_at-requires g c =
    let of : g.p ≡ program_pattern c.args.self.now = c.requires.1.0 in
    let coded : ∥ IsCodeOf (program_pattern c.args.self.now) c.args.self.now.code ∥₁ = ∥∥₁_elim c.args.self.now.compiled ∥∥₁_prop (λ compiled. ∣ compiled.coded ∣₁) in (
      record { query = refl; code = rw of coded; inside = c.args.asked.now.inside; prices = c.args.self.now.priced },
      (c.requires.0.from, (c.requires.0.to, rw c.args.self.now.handed c.requires.1.1.1.1.1)),
    )

pub returns-in-Ok-clause-answer : goal.returns-in-Ok-clause-answer
returns-in-Ok-clause-answer g c =
    let of : g.p ≡ program_pattern c.args.self.now = c.requires.1.0 in
    rw (c.args.self.now.meant, c.args.self.now.handed, of) at c.in-Ok.ensures.answer
