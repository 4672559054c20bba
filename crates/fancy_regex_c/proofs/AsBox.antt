-- A full handle and the parts of a box own what a box at the same types owns.
use mir.Syntax.{impl, tnil, dnil}
use mathlib.Core.List.{[]}
use denote.Signature.{Slot, plain}
use Rattle.std.proofs.BoxSteps.Form.{Bx}
use Rattle.std.specs.contracts.alloc.Global as Heap
use Rattle.std.specs.contracts.impls.GlobalAllocator.TheImpl.{ghosts, dict}
use Rattle.std.proofs.alloc.Global.TheLaws as heap
use Rattle.fancy_regex_c.specs.contracts.handle.Kept as Kept
use Rattle.fancy_regex_c.proofs.handle.Kept.TheLaws as kept
use Rattle.fancy_regex_c.specs.contracts.handle.parts.Parts as Parts
use Rattle.fancy_regex_c.specs.contracts.handle.Raw as Raw

abbrev pub E : Bx
E = record { row = Kept.the_row; laws = kept.the_row_laws; al = record { row = Heap.the_row; laws = heap.the_row_laws; g = ghosts; d = dict; drops = impl [] tnil dnil } }

abbrev pub FromParts : Slot 0
FromParts = plain (λ _. Parts.the_row Kept.the_row Heap.the_row ghosts)

abbrev pub FromRaw : Slot 0
FromRaw = plain (λ _. Raw.the_row)
