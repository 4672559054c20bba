use Rattle.fancy_code.specs.Code.{instrs_of}
use Rattle.fancy_code.proofs.TextLemmas.{text_begins, text_ends}
use Rattle.fancy_code.proofs.text.text_with.Goals as goal

pub returns : goal.returns
returns c head to =
    record {
      begins = text_begins (instrs_of c.args.code.now) c.args.code.now.meaning c.args.bytes.items head c.args.at to;
      ends = λ e. text_ends (instrs_of c.args.code.now) c.args.code.now.meaning c.args.bytes.items head c.args.at to (c.stops_at-is_all.ensures e);
    }
