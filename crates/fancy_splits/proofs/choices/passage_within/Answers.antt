use Rattle.std.proofs.Common.{◌≡◌, [], subst}
use Rattle.fancy_code.specs.Code.{instrs_of}
use Rattle.fancy_splits.specs.declared.choices.Onward.TheVariants.{Ends, Goes, Reads}
use Rattle.fancy_splits.specs.declared.splits.ToldPart.{ToldPart}
use Rattle.fancy_splits.specs.declared.splits.ToldPart.TheVariants.{Choice}
use Rattle.fancy_splits.specs.Splits.{IsTold}
use Rattle.fancy_splits.proofs.PassageLemmas.{leads_as, leads_here, leads_nowhere, leads_read}
use Rattle.fancy_splits.proofs.choices.passage_within.Goals as goal

pub returns-in-Some-Choice : goal.returns-in-Some-Choice
returns-in-Some-Choice c =
    let told = c.requires _ _ _ c.in-Some-Choice.ensures.1 c.in-Some-Choice.ensures.2 in
    let is = c.in-Some-Choice.field-0-is in
    let same : c.in-Some-Choice.field-0.now ≡ Choice c.in-Some-Choice.choice = cc in
    c.passage_or_own.ensures _ _ _ (subst (λ (part : ToldPart). IsTold (instrs_of c.args.code.now) c.args.code.now.meaning c.args.at part) same told)

pub returns-in-Some : goal.returns-in-Some
returns-in-Some c =
    let code = instrs_of c.args.code.now in
    let meaning = c.args.code.now.meaning in
    leads_as code meaning c.args.here c.alone.result c.in-Some.price [] Ends c.args.at c.alone.ensures.0 c.alone.ensures.1 c.alone.ensures.2
    (leads_nowhere code meaning c.args.here c.in-Some.price c.args.at c.in-Some.ensures)

pub returns-in-Some-past_byte : goal.returns-in-Some-past_byte
returns-in-Some-past_byte c =
    let code = instrs_of c.args.code.now in
    let meaning = c.args.code.now.meaning in
    let led = c.alone-in-Some-past_byte in
    leads_as code meaning c.args.here led.result c.nothing.result [] (Reads c.in-Some-past_byte.next) c.args.at led.ensures.0 led.ensures.1 led.ensures.2
    (leads_read code meaning c.args.here c.nothing.result c.args.at c.in-Some-past_byte.next c.nothing.ensures c.in-Some-past_byte.ensures)

pub returns-in-None : goal.returns-in-None
returns-in-None c =
    let code = instrs_of c.args.code.now in
    let meaning = c.args.code.now.meaning in
    let led = c.alone-in-None in
    leads_as code meaning c.args.here led.result c.nothing-in-None.result [] (Goes c.args.at) c.args.at led.ensures.0 led.ensures.1 led.ensures.2
    (leads_here code meaning c.args.here c.nothing-in-None.result c.args.at c.nothing-in-None.ensures)
