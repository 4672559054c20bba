use Rattle.std.proofs.Common.{◌≡◌, ◌+◌, ◌^◌, ◌<◌, ◌≤◌, ℕ, None, inl, inr, refl, sym, ap, ◌∙◌, subst, arith, rules}
use Rattle.std.proofs.lemmas.Bool.{cases_eq}
use Rattle.fancy_code.specs.Code.{instrs_of}
use Rattle.fancy_code.specs.Instructions.{Member, edges_in}
use Rattle.fancy_code.specs.Run.{instr_at}
use Rattle.fancy_splits.specs.Splits.{IsNoted}
use Rattle.fancy_machine.specs.Atoms.{IsWhole, LacksMember, ReadsItems, ReadsNone}
use Rattle.fancy_machine.specs.Attempt.{attempt_context}
use Rattle.fancy_machine.specs.Runs.{IsStuck}
use Rattle.fancy_machine.proofs.ItemsLemmas.{items_le, items_then, no_members, reads_bytes, reads_members, reads_no_member, stuck_reads}
use Rattle.fancy_machine.proofs.atoms.read_whole.Goals as goal

pub returns-then-not-may_stand-clause-read : goal.returns-then-not-may_stand-clause-read
returns-then-not-may_stand-clause-read c =
    let a = c.args.attempt.now in
    let x = attempt_context a in
    let code = instrs_of a.code.now in
    let l = c.in-Some.split.now in
    let y = c.args.trail.now.now in
    let n = c.in_ok-count.count in
    let noted : IsNoted a.splits.now y.at l = subst (λ (q : ℕ). IsNoted a.splits.now q l) c.at.ensures c.in-Some.ensures in
    let told = a.told _ _ _ noted.1 noted.2 in
    let alone : l.group ≡ None = search rules in
    let stuck : IsStuck l a.haystack.now y.limit (c.place.result + n) = subst (λ (e : ℕ). IsStuck l a.haystack.now e (c.place.result + n)) c.limit.ensures (c.may_stand.ensures c.if-not-may_stand.true) in
    let items : ReadsItems x code l.first y.at n y.state.place (c.place.result + n) = rw c.place.ensures (reads_bytes x code y.at l told n y.state.place alone c.in_ok-count.ensures.items) in (
      l,
      noted,
      record {
        items = items;
        inside = λ some. omega (arith, c.place.ensures, c.in_ok-count.ensures.inside, some);
        short = c.in_ok-count.ensures.short;
        none = stuck_reads x code y.at l told y.limit (c.place.result + n) stuck;
        stop = c.in-Some-stop.is;
      },
    )

pub overflow_add-result : goal.overflow_add-result
overflow_add-result c =
    let x = attempt_context c.args.attempt.now in
    let code = instrs_of c.args.attempt.now.code.now in
    let l = c.in-Some.split.now in
    let k = c.members_from-more.result.count in
    let m = c.place.result + c.in_ok-count.count in
    let q = c.members_from-more.result.past in
    let items = reads_members x code l.first c.at-3.result (edges_in c.in-Some-set_at.set.now) c.in-Some-set_at.ensures k m q c.members_from-more.ensures.members in
    elim (cases_eq k 0) [
      | inl none ↦ omega (arith, c.in_ok-count.ensures.short, none)
      | inr more ↦ omega (arith, (c.members_from-more.ensures.inside (omega (arith, more))).1, items_le x code l.first c.at-3.result k m q items)
    ]

pub returns-clause-read : goal.returns-clause-read
returns-clause-read c =
    let a = c.args.attempt.now in
    let x = attempt_context a in
    let code = instrs_of a.code.now in
    let l = c.in-Some.split.now in
    let y = c.args.trail.now.now in
    let n = c.in_ok-count.count in
    let k = c.members_from-more.result.count in
    let m = c.place.result + n in
    let q = c.members_from-more.result.past in
    let edges = edges_in c.in-Some-set_at.set.now in
    let noted : IsNoted a.splits.now y.at l = subst (λ (q : ℕ). IsNoted a.splits.now q l) c.at.ensures c.in-Some.ensures in
    let told = a.told _ _ _ noted.1 noted.2 in
    let alone : l.group ≡ None = search rules in
    let is : instr_at code l.first ≡ Member edges y.at = c.in-Some-set_at.ensures ∙ ap (Member edges) c.at-3.ensures in
    let items : ReadsItems x code l.first y.at n y.state.place m = rw c.place.ensures (reads_bytes x code y.at l told n y.state.place alone c.in_ok-count.ensures.items) in
    let all = items_then x code l.first y.at n k (n + k) y.state.place m q refl items (reads_members x code l.first y.at edges is k m q c.members_from-more.ensures.members) in
    let last : LacksMember x edges y.limit q = subst (λ (e : ℕ). LacksMember x edges e q) c.limit-2.ensures c.members_from-more.ensures.all in
    let le = items_le x code l.first y.at (n + k) y.state.place q all in (
      l,
      noted,
      record {
        items = all;
        inside = λ some. elim (cases_eq k 0) [
          | inl none ↦ omega (arith, no_members x edges k m q none c.members_from-more.ensures.members, c.place.ensures, c.in_ok-count.ensures.inside, some, none)
          | inr more ↦ omega (arith, (c.members_from-more.ensures.inside (omega (arith, more))).0, c.limit-2.ensures)
        ];
        short = elim (cases_eq k 0) [
          | inl none ↦ omega (arith, c.in_ok-count.ensures.short, none)
          | inr more ↦ omega (arith, (c.members_from-more.ensures.inside (omega (arith, more))).1, le)
        ];
        none = reads_no_member x code l.first y.at edges is y.limit q last;
        stop = c.in-Some-stop.is;
      },
    )
