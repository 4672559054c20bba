use Rattle.std.proofs.Common.{◌≡◌, true, All, IsTrue, ◌+◌, ◌*◌, ◌<◌, length, map, drop, sum_by}
use Rattle.fancy_tree.specs.Pattern.{pattern_of, in_sequence, in_choice}
use Rattle.fancy_tree.specs.Sizes.{nodes}
use Rattle.fancy_code.specs.Compile.{StaysEasy, Emitted, BehindEmitted, CopiesEmitted, OptionalsEmitted}
use Rattle.fancy_meaning.specs.Easy.{is_easy}
use Rattle.fancy_code.specs.Emitted.{Emits, emitted, len_of, Appends}
use Rattle.fancy_code.proofs.compile.+emit.Given as goal

abbrev pub invariant-emit_choice-loop-i : goal.invariant-emit_choice-loop-i
invariant-emit_choice-loop-i l = record {
  emits : Emits l.meaning (in_choice (map pattern_of (drop l.i l.branches))) l.fn.code l.code l.next l.entry;
  within : l.i < length l.branches;
}

abbrev pub invariant-emit_copies-loop-copy : goal.invariant-emit_copies-loop-copy
invariant-emit_copies-loop-copy l = record {
  easy : is_easy (pattern_of l.body) ≡ true → StaysEasy (emitted l.fn.code) (emitted l.code);
  means : CopiesEmitted l.meaning l.copy (pattern_of l.body) (len_of l.fn.code) (emitted l.code) l.fn.next l.entry;
  grows : Appends (4 * (l.copy * nodes (pattern_of l.body))) l.fn.code l.code;
}

abbrev pub invariant-emit_optionals-loop-copy : goal.invariant-emit_optionals-loop-copy
invariant-emit_optionals-loop-copy l = record {
  easy : is_easy (pattern_of l.body) ≡ true → StaysEasy (emitted l.fn.code) (emitted l.code);
  means : OptionalsEmitted l.meaning l.greedy l.copy (pattern_of l.body) (len_of l.fn.code) (emitted l.code) l.next l.entry;
  grows : Appends (4 * (l.copy * (nodes (pattern_of l.body) + 1))) l.fn.code l.code;
}

abbrev pub invariant-emit_sequence-loop-i : goal.invariant-emit_sequence-loop-i
invariant-emit_sequence-loop-i l = record {
  easy : All (λ p. IsTrue (is_easy p)) (map pattern_of l.parts) → StaysEasy (emitted l.fn.code) (emitted l.code);
  means : Emitted l.meaning (in_sequence (map pattern_of (drop l.i l.parts))) (len_of l.fn.code) (emitted l.code) l.fn.next l.entry;
  grows : Appends (4 * sum_by nodes (map pattern_of (drop l.i l.parts))) l.fn.code l.code;
}

abbrev pub invariant-emit_backward_choice-loop-i : goal.invariant-emit_backward_choice-loop-i
invariant-emit_backward_choice-loop-i l = record {
  means : BehindEmitted l.meaning (in_choice (map pattern_of (drop l.i l.branches))) (len_of l.fn.code) (emitted l.code) l.start;
  grows : Appends (4 * nodes (in_choice (map pattern_of (drop l.i l.branches)))) l.fn.code l.code;
  within : l.i < length l.branches;
}
