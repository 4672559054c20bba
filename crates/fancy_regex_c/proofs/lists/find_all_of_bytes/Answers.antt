use Rattle.fancy_regex_c.proofs.ListLemmas.{tells_spans}
use Rattle.fancy_regex_c.proofs.lists.find_all_of_bytes.Goals as goal

pub returns : goal.returns
returns c =
    let given = c.find_all_in-answer in
    let e = c.end_after.ensures in
    tells_spans c.args.regex.now c.args.haystack.now c.args.request.now given.new.request c.end_after.new.request c.args.spans.now given.new.spans given.new.written given.result
    c.in-Ok.ensures.said given.ensures.short e.left e.moved e.past (rw (c.in-Ok.ensures.bytes, c.in-Ok.ensures.text) at given.ensures.told)
