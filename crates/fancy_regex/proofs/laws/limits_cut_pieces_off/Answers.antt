use Rattle.fancy_core.proofs.PieceLemmas.{length-first_pieces, first_pieces_all, first_pieces_before}
use Rattle.fancy_regex.proofs.laws.limits_cut_pieces_off.Goals as goal

pub returns-clause-count : goal.returns-clause-count
returns-clause-count c = λ n t spans. length-first_pieces n t 0 spans

pub returns-clause-all : goal.returns-clause-all
returns-clause-all c = λ n t spans few. first_pieces_all n t 0 spans few

pub returns-clause-before : goal.returns-clause-before
returns-clause-before c = λ n t spans. first_pieces_before n t 0 spans
