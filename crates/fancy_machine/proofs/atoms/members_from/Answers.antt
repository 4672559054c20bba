use Rattle.std.proofs.Common.{◌≡◌, ◌+◌, ◌<◌, ℕ, Bool, true, false, sym, ◌∙◌, refl, arith}
use Rattle.std.proofs.lemmas.Option.{none-some, same_Some}
use Rattle.fancy_tree.specs.Sets.{has}
use Rattle.fancy_code.specs.Instructions.{edges_in}
use Rattle.fancy_meaning.specs.Context.{past_item}
use Rattle.fancy_meaning.specs.Reading.{search_context}
use Rattle.fancy_meaning.proofs.Past.{item_beyond}
use Rattle.fancy_meaning.proofs.ReadingLemmas.{no_item, an_item, other_item}
use Rattle.fancy_machine.specs.Attempt.{attempt_context}
use Rattle.fancy_machine.proofs.ContinuesLemmas.{item_seen, suppressed_of}
use Rattle.fancy_machine.proofs.ItemsLemmas.{members_more}
use Rattle.fancy_machine.proofs.atoms.members_from.Goals as goal
use Rattle.fancy_machine.proofs.atoms.members_from.Goals.{then-past-limit-via-then-past-limit, then-past-limit-via-else-past-limit+then-not-contains}

pub returns-in_default-clause-all : goal.returns-in_default-clause-all
returns-in_default-clause-all c q is =
    let h = c.args.attempt.now.haystack.now in
    let m = c.args.attempt.now.code.now.meaning in
    let x = attempt_context c.args.attempt.now in
    let test = has (edges_in c.args.set.now) in
    absurd (none-some q (no_item h m (suppressed_of x) 0 test c.items.items.past c.read_any_at.result c.read_any_at.ensures.reading c.in_default.is ∙ item_seen h m x (suppressed_of x) 0 c.items.items.past test ∙ is))

pub returns-then-past-limit-clause-all : goal.returns-then-past-limit-clause-all
returns-then-past-limit-clause-all c q is =
    elim c.then-past-limit.branch [
      | then-past-limit-via-then-past-limit w ↦ by (test c.in-Some.reading.code) refl w.if-past-limit.true
      | then-past-limit-via-else-past-limit+then-not-contains w ↦ none (sym w.contains.ensures ∙ w.if-not-contains.true)
    ]
  where
    test : ℕ → Bool
    test = has (edges_in c.args.set.now)

    seen : past_item (search_context c.args.attempt.now.haystack.now c.args.attempt.now.code.now.meaning (suppressed_of (attempt_context c.args.attempt.now)) 0) test c.items.items.past ≡ past_item (attempt_context c.args.attempt.now) test c.items.items.past
    seen = item_seen c.args.attempt.now.haystack.now c.args.attempt.now.code.now.meaning (attempt_context c.args.attempt.now) (suppressed_of (attempt_context c.args.attempt.now)) 0 c.items.items.past test

    none : {A : Type 0} → test c.in-Some.reading.code ≡ false → A
    none fails =
        absurd (none-some q (other_item c.args.attempt.now.haystack.now c.args.attempt.now.code.now.meaning (suppressed_of (attempt_context c.args.attempt.now)) 0 test c.items.items.past c.read_any_at.result c.read_any_at.ensures.reading c.in-Some.reading c.in-Some.is fails ∙ seen ∙ is))

    by : (b : Bool) → test c.in-Some.reading.code ≡ b → c.args.limit < c.items.items.past + c.in-Some.reading.width → c.args.limit < q
    by false fails far = none fails
    by true passes far =
        let same = same_Some _ _ (an_item c.args.attempt.now.haystack.now c.args.attempt.now.code.now.meaning (suppressed_of (attempt_context c.args.attempt.now)) 0 test c.items.items.past c.read_any_at.result c.read_any_at.ensures.reading c.in-Some.reading c.in-Some.is passes ∙ seen ∙ is) in
        omega (arith, same, far)

pub items-preserved : goal.items-preserved
items-preserved c =
    let h = c.args.attempt.now.haystack.now in
    let m = c.args.attempt.now.code.now.meaning in
    let x = attempt_context c.args.attempt.now in
    let test = has (edges_in c.args.set.now) in
    let is = sym (an_item h m (suppressed_of x) 0 test c.items.items.past c.read_any_at.result c.read_any_at.ensures.reading c.in-Some.reading c.in-Some.is (sym c.contains.ensures ∙ c.if-not-contains.false) ∙ item_seen h m x (suppressed_of x) 0 c.items.items.past test) in
    let past = c.items.items.past + c.in-Some.reading.width in
    let forth = item_beyond x test c.items.items.past past is in (
      members_more x (edges_in c.args.set.now) c.items.items.count c.args.from c.items.items.past past c.items.invariant.0 is,
      omega (arith, c.items.invariant.1, forth),
      λ some. (c.if-past-limit.false, c.in-Some.ensures.fits),
    )
