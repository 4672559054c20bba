use Rattle.std.proofs.Common.{◌+◌, [], ◌∷◌, drop, arith}
use Rattle.fancy_required.specs.Told.{TellsBoth, nothing_told, no_gap}
use Rattle.fancy_required.proofs.ToldLemmas.{all_told, both_end, both_on, ends_told, on}
use Rattle.fancy_required.proofs.told.tell_common.Goals as goal

pub returns-in_default : goal.returns-in_default
returns-in_default c =
    ends_told (TellsBoth (drop c.loop-i.i c.args.first.now) (drop c.loop-i.i c.args.second.now)) (TellsBoth c.args.first.now c.args.second.now)
    c.args.told.now.items c.loop-i.told.items c.push.new.self.items
    (record { one = nothing_told no_gap; other = nothing_told no_gap }) c.in_ok-push.ensures.items c.loop-i.invariant

pub loop-i-preserved : goal.loop-i-preserved
loop-i-preserved c =
    let first = c.args.first.now in
    let second = c.args.second.now in
    let i = c.loop-i.i in
    on (TellsBoth (drop i first) (drop i second)) (TellsBoth (drop (i + 1) first) (drop (i + 1) second)) (TellsBoth first second)
    c.args.told.now.items c.loop-i.told.items c.push-in-loop-i.new.self.items (c.in-Some.both ∷ [])
    (λ more h. both_on first second i c.index-first-i.result c.index-second-i.result c.in-Some.both more (omega arith) (omega arith) c.index-first-i.is c.index-second-i.is
    c.in-Some.ensures.0 c.in-Some.ensures.1 h)
    c.in_ok-push-2.ensures.items c.loop-i.invariant

pub returns-in_ok-push-3 : goal.returns-in_ok-push-3
returns-in_ok-push-3 c =
    ends_told (TellsBoth (drop c.loop-i.i c.args.first.now) (drop c.loop-i.i c.args.second.now)) (TellsBoth c.args.first.now c.args.second.now)
    c.args.told.now.items c.loop-i.told.items c.push-then-first-second.new.self.items
    (record { one = nothing_told no_gap; other = nothing_told no_gap }) c.in_ok-push-3.ensures.items c.loop-i.invariant

pub returns-else-first-second : goal.returns-else-first-second
returns-else-first-second c =
    all_told (TellsBoth (drop c.loop-i.i c.args.first.now) (drop c.loop-i.i c.args.second.now)) (TellsBoth c.args.first.now c.args.second.now)
    c.args.told.now.items c.loop-i.told.items
    (both_end c.args.first.now c.args.second.now c.loop-i.i (omega arith) (omega arith)) c.loop-i.invariant
