use Rattle.std.proofs.Common.{◌≡◌, ◌+◌, ◌<◌, ◌≤◌, ℕ, Err, refl, sym, ap, subst, arith, ◌∙◌}
use Rattle.std.proofs.Math.Logic.{∥∥₁_elim, ∥∥₁_prop}
use Rattle.fancy_code.specs.Compile.{IsCodeOf}
use Rattle.fancy_meaning.specs.Search.{returns, choices}
use Rattle.fancy_input.specs.Work.{returns_of}
use Rattle.fancy_search.specs.Programs.{query_in, program_pattern, program_limit, program_stack_limit}
use Rattle.fancy_search.proofs.RefusalLemmas.{refuses_hard, stopped_by}
use Rattle.fancy_search.proofs.SearchedLemmas.{tried_all}
use Rattle.fancy_search.proofs.program.Program.backtrack.Goals as goal

pub search-requires : goal.search-requires
search-requires g c =
    let of : g.p ≡ program_pattern c.args.self.now = c.requires.0 in
    let coded : ∥ IsCodeOf (program_pattern c.args.self.now) c.args.self.now.code ∥₁ = ∥∥₁_elim c.args.self.now.compiled ∥∥₁_prop (λ compiled. ∣ compiled.coded ∣₁) in (
      record { query = refl; code = rw of coded; inside = c.args.asked.now.inside; prices = c.args.self.now.priced },
      (rw c.args.self.now.handed c.requires.1.1.1.0.1, c.requires.1.1.1.1),
    )

pub returns-in-Ok-clause-answer : goal.returns-in-Ok-clause-answer
returns-in-Ok-clause-answer g c =
    let of : g.p ≡ program_pattern c.args.self.now = c.requires.0 in
    rw (c.args.self.now.meant, c.args.self.now.handed, of) at c.in-Ok.ensures.answers.answer

pub returns-in-Ok-clause-returned : goal.returns-in-Ok-clause-returned
returns-in-Ok-clause-returned g c =
    let of : g.p ≡ program_pattern c.args.self.now = c.requires.0 in
    let q = query_in c.args.self.now c.args.asked.now in
    let count = rw (c.args.self.now.meant, c.args.self.now.handed, of) at c.in-Ok.ensures.answers.count in
    let most = rw (c.args.self.now.meant, c.args.self.now.handed, of) at c.search.ensures.answers.bounded in
    let all = ap (returns q) (sym (tried_all c.args.self.now q c.requires.1.1.0)) in
    record {
      counted = count ∙ ap (λ (n : ℕ). returns_of c.args.work.now + n) all;
      stopped = λ e. cc;
      fits = rw c.args.self.now.handed at c.search.ensures.answers.limits.fits;
      most = subst (λ (n : ℕ). returns_of c.search.new.work ≤ returns_of c.args.work.now + n) all most;
    }

pub returns-in-Err-clause-returned : goal.returns-in-Err-clause-returned
returns-in-Err-clause-returned g c =
    let of : g.p ≡ program_pattern c.args.self.now = c.requires.0 in
    let q = query_in c.args.self.now c.args.asked.now in
    let most = rw (c.args.self.now.meant, c.args.self.now.handed, of) at c.search.ensures.answers.bounded in
    let all = ap (returns q) (sym (tried_all c.args.self.now q c.requires.1.1.0)) in
    record {
      counted = tt;
      stopped = λ e. (rw c.args.self.now.handed at c.in-Err.ensures.answers.limits.stopped) (ap Err (stopped_by c.in-Err.refusal (rw c.error_of.ensures at e)));
      fits = rw c.args.self.now.handed at c.search.ensures.answers.limits.fits;
      most = subst (λ (n : ℕ). returns_of c.search.new.work ≤ returns_of c.args.work.now + n) all most;
    }

pub returns-in-Err-clause-refused : goal.returns-in-Err-clause-refused
returns-in-Err-clause-refused g c =
    let of : g.p ≡ program_pattern c.args.self.now = c.requires.0 in
    let q = query_in c.args.self.now c.args.asked.now in
    let all = sym (tried_all c.args.self.now q c.requires.1.1.0) in
    let refused = rw (c.args.self.now.meant, c.args.self.now.handed, of) at c.in-Err.ensures.answers.refused in
    let crowded = rw (c.args.self.now.meant, c.args.self.now.handed, of) at c.in-Err.ensures.answers.crowded in
    let limited = rw c.args.self.now.handed at c.in-Err.ensures.answers.limits.limited in
    rw c.error_of.ensures
    (refuses_hard c.args.self.now q c.search.new.work c.in-Err.refusal c.requires.1.0
    (λ e. subst (λ n. program_limit c.args.self.now < n) (ap (returns q) all) (omega (arith, refused (ap Err e))))
    (λ e. subst (λ n. program_stack_limit c.args.self.now < n) (ap (choices q) all) (crowded (ap Err e)))
    (λ e. limited (ap Err e)))
