use Rattle.std.proofs.Common.{◌≡◌, refl, slice_get}
use Rattle.std.specs.Prelude.{option_map}
use Rattle.std.proofs.lemmas.Iterator.Consumers.{nth_from_yields_List, YieldsList-from_first}
use Rattle.fancy_regex.specs.CaptureNames.{names_left, read_name}
use Rattle.fancy_regex_c.proofs.regexes.name_at.Goals as goal

pub returns-in-Some : goal.returns-in-Some
returns-in-Some c =
    let e : option_map read_name c.nth.result ≡ slice_get (names_left c.args.names) c.args.number =
    nth_from_yields_List c.nth.result c.nth.new.self c.args.number c.nth.ensures.ran (YieldsList-from_first read_name names_left (names_left c.args.names) refl) in
    rw (← e, c.in-Some.is) refl

pub returns : goal.returns
returns c =
    let e : option_map read_name c.nth.result ≡ slice_get (names_left c.args.names) c.args.number =
    nth_from_yields_List c.nth.result c.nth.new.self c.args.number c.nth.ensures.ran (YieldsList-from_first read_name names_left (names_left c.args.names) refl) in
    rw (← e, c.in-None.is) refl
