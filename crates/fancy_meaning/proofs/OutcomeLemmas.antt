-- The outcomes of sequences and choices.
use Rattle.std.proofs.Common.{◌≡◌, ℕ, List, [], ◌∷◌, ◌++◌, refl, sym, ◌∙◌, append-nil}
use Rattle.fancy_tree.specs.Pattern.{Pattern, in_sequence}
use Rattle.fancy_meaning.specs.Context.{Context, State}
use Rattle.fancy_meaning.specs.Events.{bind}
use Rattle.fancy_meaning.specs.Trace.{trace}
use Rattle.fancy_meaning.proofs.EventLemmas.{bind-bind, bind_same, bind-stay}

-- a sequence of two sequences is the one and then the other
pub trace-in_sequence_append : (x : Context) (limit : ℕ) (ps qs : List Pattern) (s : State) →
    trace x limit (in_sequence (ps ++ qs)) s ≡ bind (trace x limit (in_sequence ps) s) (trace x limit (in_sequence qs))
unfolding trace
trace-in_sequence_append x limit [] qs s = sym (append-nil _)
trace-in_sequence_append x limit (p ∷ []) [] s = sym (bind-stay (trace x limit p s))
trace-in_sequence_append x limit (p ∷ []) (q ∷ qs) s = refl
trace-in_sequence_append x limit (p ∷ r ∷ ps) qs s =
    bind_same (trace x limit p s) _ _ (trace-in_sequence_append x limit (r ∷ ps) qs)
    ∙ sym (bind-bind (trace x limit p s) (trace x limit (in_sequence (r ∷ ps))) (trace x limit (in_sequence qs)))
