use Rattle.std.proofs.Common.{◌≡◌, ◌∙◌, ◌<◌, ◌+◌, ℕ, List, Some, slice_get, vec_items, sym, ap, subst, arith, inl, inr}
use Rattle.std.proofs.lemmas.Option.{slice_get-get_or}
use Rattle.fancy_regex_c.specs.declared.plain.Member.{Member}
use Rattle.fancy_regex_c.specs.NextTokens.{MovesTokenList}
use Rattle.fancy_regex_c.proofs.TokenListLemmas.{moves_token, ends_tokens, keeps_tokens, kept_token}
use Rattle.fancy_regex_c.proofs.under_way.TokenList.next.Goals as goal

pub returns-then-answer-ne-DONE : goal.returns-then-answer-ne-DONE
returns-then-answer-ne-DONE c = λ set bytes r is.
    let e = c.make_ready-answer.ensures in
    let four : c.make_ready-answer.result ≡ 4 = elim e.answer [ inl done ↦ absurd (c.if-answer-ne-DONE.true done) | inr four ↦ four ] in
    subst (λ (n : ℕ). MovesTokenList set bytes r c.args.self.now c.make_ready-answer.new.self c.args.token.now c.args.token.now n) (sym four)
    (keeps_tokens set bytes r c.args.self.now c.make_ready-answer.new.self c.args.token.now is (e.wants four) (e.same four))

pub returns-in-Some-get : goal.returns-in-Some-get
returns-in-Some-get c = λ set bytes r is.
    let l = c.args.self.now in
    let d = c.make_ready-answer.new.self in
    let readies = c.make_ready-answer.ensures.ready c.if-answer-ne-DONE.false in
    let taken = c.in-Some.ensures.taken in
    let same = c.in-Some.ensures.same in
    let here = taken.0 in
    let inside = taken.1 in
    let some : d.progress.given < d.progress.ready = omega (arith, here, inside) in
    let given : c.take.new.self.given ≡ d.progress.given + 1 = taken.2 ∙ ap (λ (n : ℕ). n + 1) here in
    let found = c.in-Some-get.found.now in
    let lookup = c.in-Some-get.ensures.lookup in
    let there : slice_get c.deref.result.now c.in-Some.index ≡ Some found = slice_get-get_or c.deref.result.now c.in-Some.index found lookup.3.0 ∙ ap Some (sym lookup.1) in
    moves_token set bytes r l d is readies c.take.new.self c.args.token.now found same.0 same.1 some given same.2
    (subst (λ (k : ℕ). slice_get (vec_items d.tokens) k ≡ Some found) here (subst (λ (xs : List Member). slice_get xs c.in-Some.index ≡ Some found) c.deref.ensures.value there))

pub returns-else-answer-eq-UNMATCHED : goal.returns-else-answer-eq-UNMATCHED
returns-else-answer-eq-UNMATCHED c = λ set bytes r is.
    let l = c.args.self.now in
    let d = c.make_ready-answer.new.self in
    let p = c.end-answer.new.self in
    let readies = c.make_ready-answer.ensures.ready c.if-answer-ne-DONE.false in
    let taken = c.in_default.ensures.taken in
    let same = c.in_default.ensures.same in
    let ended = c.end-answer.ensures in
    let answer : c.end-answer.result ≡ d.progress.last = ended.told ∙ same.2 in
    subst (λ (n : ℕ). MovesTokenList set bytes r l (record d { progress = p }) c.args.token.now c.args.token.now n) (sym answer)
    (ends_tokens set bytes r l d is readies p c.args.token.now c.args.token.now (ended.same.0 ∙ same.0) (ended.same.2 ∙ same.1) taken.0 (ended.same.1 ∙ taken.1) ended.ended
    (kept_token d c.args.token.now d.progress.last (λ twelve. c.if-answer-eq-UNMATCHED.false (answer ∙ twelve))))
