-- A search that answers with none has no position with an accepted outcome.
use Rattle.std.proofs.Common.{◌≡◌, ◌↔◌, Option, Some, None, option_map, refl, sym, ap, ◌∙◌}
use Rattle.fancy_input.specs.declared.span.Span.{Span}
use Rattle.fancy_meaning.specs.Search.{Query, search, span_of}
use Rattle.fancy_meaning.specs.Answers.{HasNone}
use Rattle.fancy_meaning.proofs.SearchLemmas.{none-is_none}

none_of : {A B : Type 0} (f : A → B) (m : Option A) → option_map f m ≡ None → m ≡ None
none_of f None e = refl
none_of f (Some x) e = cc

-- the match is none exactly where the answer is
pub none_found : {A : Type 0} (span : A → Span) (m : Option A) (q : Query) → option_map span m ≡ option_map span_of (search q) →
    (m ≡ None) ↔ HasNone q
none_found span m q e = (
  λ none. (none-is_none q).0 (none_of span_of (search q) (sym e ∙ ap (option_map span) none)),
  λ nothing. none_of span m (e ∙ ap (option_map span_of) ((none-is_none q).1 nothing)),
)
