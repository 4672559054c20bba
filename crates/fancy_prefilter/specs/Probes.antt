-- Places of a window that tell, by the tables of their sets, where no byte of each set can stand.
use Rattle.std.specs.Prelude.{ℕ, ◌+◌, ◌<◌, List, length, slice_index}
use Rattle.fancy_bytes.specs.Sets.{ByteFlags}
use Rattle.fancy_prefilter.specs.HalfTables.{LetsThrough, LetMembersThrough}
use Rattle.fancy_bytes.specs.Rows.{set_at}
use Rattle.fancy_prefilter.specs.declared.probes.Probe.{Probe}
use Rattle.fancy_prefilter.specs.declared.probes.Probes.{Probes}

-- the probe is for a set of the row, and lets its members through
pub record IsProbeOf (sets : List ByteFlags) (probe : Probe) : Type 0 where
  pub within : probe.place < length sets
  pub members : LetMembersThrough probe.tables.low probe.tables.high (set_at sets probe.place)

pub record AreProbesOf (sets : List ByteFlags) (probes : Probes) : Type 0 where
  pub first : IsProbeOf sets probes.first
  pub second : IsProbeOf sets probes.second
  pub third : IsProbeOf sets probes.third

-- of the window that begins at p, the probe lets the byte at its place through
abbrev pub LetsBegin : Probe → List ℕ → ℕ → Type 0
LetsBegin probe haystack p = LetsThrough probe.tables.low probe.tables.high (slice_index haystack (p + probe.place))

abbrev pub LetBegin : Probes → List ℕ → ℕ → Type 0
LetBegin probes haystack p = LetsBegin probes.first haystack p × LetsBegin probes.second haystack p × LetsBegin probes.third haystack p
