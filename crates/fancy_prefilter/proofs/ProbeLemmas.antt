-- Probes and the windows that they let begin.
use Rattle.std.proofs.Common.{◌≡◌, ℕ, ◌+◌, ◌<◌, List, slice_index, subst, arith, bit_and}
use Rattle.fancy_bytes.specs.Sets.{ByteFlags}
use Rattle.fancy_prefilter.specs.HalfTables.{LetsThrough, AreMarks}
use Rattle.fancy_bytes.specs.Rows.{StandsFrom}
use Rattle.fancy_prefilter.specs.Probes.{IsProbeOf, AreProbesOf, LetsBegin, LetBegin}
use Rattle.fancy_prefilter.specs.declared.probes.Probe.{Probe}
use Rattle.fancy_prefilter.specs.declared.probes.Probes.{Probes}
use Rattle.fancy_prefilter.proofs.MarkLemmas.{marks_of_both}

module _ (sets : List ByteFlags) (haystack : List ℕ) (end p : ℕ) (bytes : (k : ℕ) → slice_index haystack k < 256) (stands : StandsFrom sets haystack end 0 p) where
  lets_begin : (probe : Probe) → IsProbeOf sets probe → LetsBegin probe haystack p
  lets_begin probe is = is.members (slice_index haystack (p + probe.place)) (bytes (p + probe.place)) (stands probe.place (omega arith) is.within).1

  -- where a byte of each set stands, the probes let the window begin
  pub let_begin : (probes : Probes) → AreProbesOf sets probes → LetBegin probes haystack p
  let_begin probes are = (lets_begin probes.first are.first, lets_begin probes.second are.second, lets_begin probes.third are.third)

module _ (haystack : List ℕ) (from : ℕ) where
  -- marks of the places of a probe are marks of the windows
  pub marks_moved : (probe : Probe) (marks : ℕ) → AreMarks (λ p. LetsThrough probe.tables.low probe.tables.high (slice_index haystack p)) (from + probe.place) marks
      → AreMarks (LetsBegin probe haystack) from marks
  marks_moved probe marks told = record {
    each = λ k lt begins.
        let there : from + k + probe.place ≡ from + probe.place + k = omega arith in
        told.each k lt (subst (λ (i : ℕ). LetsThrough probe.tables.low probe.tables.high (slice_index haystack i)) there begins);
    few = told.few;
  }

  pub marks_of_all : (probes : Probes) (first second third : ℕ) → AreMarks (LetsBegin probes.first haystack) from first → AreMarks (LetsBegin probes.second haystack) from second
      → AreMarks (LetsBegin probes.third haystack) from third → AreMarks (LetBegin probes haystack) from (bit_and (bit_and first second) third)
  marks_of_all probes first second third one two three =
      let both = marks_of_both (LetsBegin probes.first haystack) (LetsBegin probes.second haystack) from first second one two in
      let all = marks_of_both (λ p. LetsBegin probes.first haystack p × LetsBegin probes.second haystack p) (LetsBegin probes.third haystack) from (bit_and first second) third both three in
      record { each = λ k lt begin. all.each k lt ((begin.0, begin.1), begin.2); few = all.few }
