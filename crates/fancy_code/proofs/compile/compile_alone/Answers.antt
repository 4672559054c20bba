use Rattle.std.proofs.Common.{rules, arith, List, length, ◌+◌, ◌≡◌, refl, sym, ap, ◌∙◌}
use Rattle.std.proofs.lemmas.List.{length-map}
use Rattle.fancy_code.specs.Compile.{are_easy}
use Rattle.fancy_code.specs.Instructions.{Instruction, with_set}
use Rattle.fancy_code.specs.Instructions as i
use Rattle.fancy_code.proofs.compile.compile_alone.Goals as goal

pub returns : goal.returns
returns c = record {
  code = record {
    entry = c.in_ok-entry.entry;
    means = search rules;
    begins = sym c.in_ok-code.ensures.start;
    matching =
        let start : c.in_ok-put.field-0 ≡ 0 = c.in_ok-put.ensures.puts.at ∙ ap length c.new-code.ensures in
        rw c.in_ok-code.ensures.instrs
        (c.in_ok-entry.ensures.grows.0 0 i.Match (omega arith) (c.in_ok-put-2.ensures.puts.kept 0 i.Match (omega arith) (rw start at c.in_ok-put.ensures.puts.stands)));
    failing =
        let second : c.in_ok-put-2.field-0 ≡ 1 = c.in_ok-put-2.ensures.puts.at ∙ c.in_ok-put.ensures.puts.length ∙ ap (λ (is : List Instruction). length is + 1) c.new-code.ensures in
        rw c.in_ok-code.ensures.instrs
        (c.in_ok-entry.ensures.grows.0 1 i.Fail (omega arith) (rw second at c.in_ok-put-2.ensures.puts.stands));
    numbered = search rules;
    starts = rw (c.in_ok-code.ensures.meaning, c.in_ok-code.ensures.prefilter) c.in_ok-prefilter.ensures.starts;
    opens = rw (c.in_ok-code.ensures.meaning, c.in_ok-code.ensures.prefilter) c.in_ok-prefilter.ensures.text;
    foretold = rw (c.in_ok-code.ensures.prefilter, c.in_ok-prefilter.ensures.window) tt;
    branched = rw (c.in_ok-code.ensures.prefilter, c.in_ok-prefilter.ensures.branches) tt;
    required = rw (c.in_ok-code.ensures.meaning, c.in_ok-code.ensures.prefilter) c.in_ok-prefilter.ensures.region;
    anchored = rw (c.in_ok-code.ensures.prefilter, c.in_ok-prefilter.ensures.anchor) tt;
  };
  easy = λ is. rw c.in_ok-code.ensures.instrs (c.in_ok-entry.ensures.easy is (c.in_ok-put-2.ensures.puts.easy refl (c.in_ok-put.ensures.puts.easy refl (ap are_easy c.new-code.ensures))));
  short = omega (
    arith,
    ap length c.in_ok-code.ensures.instrs,
    length-map c.in_ok-code.code.instrs.items (with_set c.in_ok-code.code.sets.items),
    ap length c.new-code.ensures,
    c.in_ok-put.ensures.puts.length,
    c.in_ok-put-2.ensures.puts.length,
    c.in_ok-entry.ensures.grows.2,
  );
  groups = c.in_ok-code.ensures.groups;
  meaning = c.in_ok-code.ensures.meaning;
}
