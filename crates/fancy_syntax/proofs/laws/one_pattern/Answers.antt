use Rattle.fancy_syntax.proofs.UniqueLemmas.{one_pattern, one_end}
use Rattle.fancy_syntax.proofs.UnnamedLemmas.{one_end_under}
use Rattle.fancy_syntax.proofs.ParseLemmas.{one_accepted}
use Rattle.fancy_syntax.proofs.laws.one_pattern.Goals as goal

pub returns : goal.returns
returns c = record {
  spelled = one_pattern;
  ends = one_end;
  under_options = λ o text p q x y. one_accepted x y;
  ends_under_options = λ o text p q x y. one_end_under x.spelled y.spelled;
}
