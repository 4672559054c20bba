use Rattle.std.proofs.Common.{◌≡◌, [], sym, ap, subst, ◌∙◌, ◌+◌}
use Rattle.fancy_code.specs.Code.{instrs_of, instr_in}
use Rattle.fancy_splits.specs.declared.choices.Onward.{Onward}
use Rattle.fancy_splits.specs.declared.choices.Onward.TheVariants.{Goes, Reads}
use Rattle.fancy_code.specs.Items.{ReadsByte}
use Rattle.fancy_splits.specs.Splits.{Leads, ways_of}
use Rattle.fancy_splits.proofs.PassageLemmas.{leads_as, leads_out}
use Rattle.fancy_splits.proofs.choices.past_atom.Goals as goal

pub returns-in_ok-next-in-Goes : goal.returns-in_ok-next-in-Goes
returns-in_ok-next-in-Goes c =
    let code = instrs_of c.args.code.now in
    let meaning = c.args.code.now.meaning in
    let inner = c.passage_within-inner.result in
    let price = c.in_ok-price.price in
    let is = sym c.instr.ensures.instr ∙ ap (instr_in c.args.code.now) c.in-Enter.is in
    let led = subst (λ (o : Onward). Leads code meaning c.args.here inner.price.marks inner.price.returns (ways_of inner) o c.in-Enter.body) c.in-Goes.is c.passage_within-inner.ensures in
    let out = leads_out code meaning c.args.here c.args.at c.in-Enter.body is (λ from next. from ≡ next) inner.price price (ways_of inner) c.in-Goes.last c.in_ok-next-in-Goes.next c.in_ok-next-in-Goes.ensures
    (c.in_ok-price.ensures.0 ∙ ap (λ n. inner.price.marks + n) c.count.ensures) c.in_ok-price.ensures.1 led in
    leads_as code meaning c.args.here c.alone.result price [] (Goes c.in_ok-next-in-Goes.next) c.args.at c.alone.ensures.0 c.alone.ensures.1 c.alone.ensures.2 out

pub returns-in_ok-next-in-Reads : goal.returns-in_ok-next-in-Reads
returns-in_ok-next-in-Reads c =
    let code = instrs_of c.args.code.now in
    let meaning = c.args.code.now.meaning in
    let inner = c.passage_within-inner.result in
    let price = c.in_ok-price.price in
    let is = sym c.instr.ensures.instr ∙ ap (instr_in c.args.code.now) c.in-Enter.is in
    let led = subst (λ (o : Onward). Leads code meaning c.args.here inner.price.marks inner.price.returns (ways_of inner) o c.in-Enter.body) c.in-Reads.is c.passage_within-inner.ensures in
    let out = leads_out code meaning c.args.here c.args.at c.in-Enter.body is (ReadsByte code meaning c.args.here) inner.price price (ways_of inner) c.in-Reads.last c.in_ok-next-in-Reads.next c.in_ok-next-in-Reads.ensures
    (c.in_ok-price.ensures.0 ∙ ap (λ n. inner.price.marks + n) c.count.ensures) c.in_ok-price.ensures.1 led in
    leads_as code meaning c.args.here c.alone-in-Reads.result price [] (Reads c.in_ok-next-in-Reads.next) c.args.at c.alone-in-Reads.ensures.0 c.alone-in-Reads.ensures.1 c.alone-in-Reads.ensures.2 out
