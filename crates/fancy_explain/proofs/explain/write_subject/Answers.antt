use Rattle.fancy_explain.proofs.WritingLemmas.{ok_then}
use Rattle.fancy_explain.proofs.explain.write_subject.Goals as goal

pub returns-in_ok-write_text-in-CompileError-InvalidGroupNameBackref-clause-ok : goal.returns-in_ok-write_text-in-CompileError-InvalidGroupNameBackref-clause-ok
returns-in_ok-write_text-in-CompileError-InvalidGroupNameBackref-clause-ok g c =
    ok_then g.W.Writer.contents _ _ _ c.write_text-in-CompileError-InvalidGroupNameBackref.result c.in_ok-write_text-in-CompileError-InvalidGroupNameBackref.ensures.ok
    c.write_text-in-CompileError-InvalidGroupNameBackref.ensures.ok

pub returns-in_ok-write_text-in-CompileError-InvalidBackref-clause-ok : goal.returns-in_ok-write_text-in-CompileError-InvalidBackref-clause-ok
returns-in_ok-write_text-in-CompileError-InvalidBackref-clause-ok g c =
    ok_then g.W.Writer.contents _ _ _ c.write_number.result c.in_ok-write_text-in-CompileError-InvalidBackref.ensures.ok c.write_number.ensures.ok
