use Rattle.std.proofs.Common.{inl, inr}
use Rattle.fancy_code.proofs.EndLemmas.{text_end, line_end, line_end_crlf, last_line, last_line_crlf}
use Rattle.fancy_code.proofs.choosing.is_end.Goals as goal

pub returns-in-TextEnd : goal.returns-in-TextEnd
returns-in-TextEnd c is =
    elim c.in-TextEnd.is [
      | inl e ↦ rw e text_end
      | inr (inl e) ↦ rw e line_end
      | inr (inr (inl e)) ↦ rw e line_end_crlf
      | inr (inr (inr (inl e))) ↦ rw e last_line
      | inr (inr (inr (inr e))) ↦ rw e last_line_crlf
    ]
