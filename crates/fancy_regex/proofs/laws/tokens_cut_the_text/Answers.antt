use Rattle.fancy_regex.proofs.TokenLemmas.{cuts_into_tokens}
use Rattle.fancy_regex.proofs.laws.tokens_cut_the_text.Goals as goal

pub returns : goal.returns
returns c = cuts_into_tokens
