use Rattle.std.proofs.Common.{List, refl, sym, ap, subst, arith, length}
use Rattle.std.proofs.lemmas.List.{with_items_is}
use Rattle.std.specs.Vec.{with_items}
use Rattle.fancy_regex_c.specs.declared.under_way.TokenList.{TokenList}
use Rattle.fancy_regex_c.specs.declared.plain.Member.{Member}
use Rattle.fancy_regex_c.specs.Asked.{asked_of_set, IsPlaceInSet}
use Rattle.fancy_regex_c.specs.TokenGiving.{TellsTokensIn}
use Rattle.fancy_regex_c.specs.Handed.{handed_bytes, is_handed_text}
use Rattle.fancy_regex_c.specs.UnderWay.{owned_bytes, is_owned_text}
use Rattle.fancy_regex_c.proofs.TokenListLemmas.{same_tokens, finds_tokens}
use Rattle.fancy_regex_c.proofs.under_way.TokenList.find_more.Goals as goal

pub returns-clause-found : goal.returns-clause-found
returns-clause-found c done =
    let l = c.args.self.now in
    let m : TokenList = record {
      set = l.set;
      haystack = l.haystack;
      request = c.tokens_in-last.new.request;
      tokens = with_items c.resize.new.self c.tokens_in-last.new.tokens;
      progress = c.found.new.self;
    } in
    let h = c.lend-haystack.result in
    let lent = c.lend-haystack.ensures in
    let tells = same_tokens l.set.value (is_handed_text h) (is_owned_text l.haystack) (handed_bytes h) (owned_bytes l.haystack) l.request c.tokens_in-last.new.request c.deref_mut.result.now c.tokens_in-last.new.tokens
    c.tokens_in-last.new.written c.tokens_in-last.result lent.text lent.bytes (rw c.deref.ensures at c.tokens_in-last.ensures) in
    let same = ap length c.deref_mut.ensures.value in
    let long = c.in-Ok.ensures.len in
    let kept = c.tokens_in-last.auto.tokens in
    let full = c.resize.new.self.ok.0 in
    let put = with_items_is c.resize.new.self c.tokens_in-last.new.tokens (omega (arith, kept, same, full)) in
    finds_tokens l m refl c.deref_mut.result.now c.tokens_in-last.new.written c.tokens_in-last.result (λ some. omega (arith, some, same, long)) c.found.ensures.given c.found.ensures.room c.found.ensures.ready
    c.found.ensures.last c.if-last-eq-NO_MEMORY.false
    (subst (λ (z : List Member). TellsTokensIn (asked_of_set l.set.value (owned_bytes l.haystack) l.request) (IsPlaceInSet l.set.value (is_owned_text l.haystack) (owned_bytes l.haystack) l.request) l.request c.tokens_in-last.new.request c.deref_mut.result.now z
    c.tokens_in-last.new.written c.tokens_in-last.result) (sym put) tells)
