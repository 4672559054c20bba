-- What each match opens with, and where it starts.
use Rattle.std.specs.Prelude.{ℕ, Bool, List, Option, Some, None, false, true}
use Rattle.fancy_bytes.specs.Sets.{ByteFlags}
use Rattle.fancy_prefilter.specs.declared.branches.Branches.{Branches}
use Rattle.fancy_prefilter.specs.declared.prefilter.Anchor.{Anchor}
use Rattle.fancy_prefilter.specs.declared.prefilter.Anchor.TheVariants.{Anywhere, AtStart, AtLines, AtWords}
use Rattle.fancy_prefilter.specs.declared.prefilter.Opening.{Opening}
use Rattle.fancy_prefilter.specs.declared.prefilter.Opening.TheVariants.{Untold, Text, Window, Sets, Words}

-- the text that each match opens with, if that is told
abbrev pub text_in : Opening → Option (List ℕ)
text_in Untold = None
text_in (Text text) = Some text
text_in (Window sets) = None
text_in (Sets sets) = None
text_in (Words b) = None

-- the sets of the bytes that stand at the first places of each match, if these are told
abbrev pub window_in : Opening → Option (List ByteFlags)
window_in Untold = None
window_in (Text text) = None
window_in (Window sets) = Some sets
window_in (Sets sets) = Some sets.items
window_in (Words b) = None

-- the alternatives one of which each match opens with, if these are told
abbrev pub branches_in : Opening → Option Branches
branches_in Untold = None
branches_in (Text text) = None
branches_in (Window sets) = None
branches_in (Sets sets) = None
branches_in (Words b) = Some b

-- whether each match starts at the text's start or at the start of a line
abbrev pub is_at_starts : Anchor → Bool
is_at_starts Anywhere = false
is_at_starts AtStart = true
is_at_starts (AtLines feeds) = true
is_at_starts (AtWords others) = false
