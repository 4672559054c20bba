use Rattle.std.proofs.Common.{◌≡◌, ◌-◌, ◌∙◌, ◌++◌, [], ℕ, List, ap, ap₂, arith, length, replicate, take, false, vec_len}
use Rattle.fancy_states.proofs.TurnLemmas.{turned, turned_first, none_taken}
use Rattle.fancy_states.specs.Marks.{marks_of}
use Rattle.fancy_states.proofs.marks.Marks.reset.Goals as goal

pub returns-then-self-lt4294967295 : goal.returns-then-self-lt4294967295
returns-then-self-lt4294967295 c =
    let stamps = c.self.inside.stamps.items in
    let size : length stamps ≡ c.args.count = omega arith in
    turned c.self.inside.turn _ stamps (omega arith) c.self.invariant ∙ ap (λ n. replicate n false) size

pub returns : goal.returns
returns c =
    let size : c.args.count - vec_len c.clear.new.self ≡ c.args.count = omega (arith, c.clear.ensures.len) in
    let taken : take c.args.count c.clear.new.self.items ≡ [] = none_taken c.args.count c.clear.new.self.items c.clear.ensures.items in
    let items = c.in_ok-resize.ensures.items ∙ ap₂ (λ (a : List ℕ) (n : ℕ). a ++ replicate n 0) taken size in
    ap (marks_of 1) items ∙ turned_first c.args.count
