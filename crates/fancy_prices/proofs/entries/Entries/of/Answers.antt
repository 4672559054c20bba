use Rattle.std.proofs.Common.{◌≡◌, ◌<◌, ℕ, false, Some, sym, subst, slice_get}
use Rattle.std.specs.Prelude.{vec_len}
use Rattle.std.specs.Option.{ForSome}
use Rattle.fancy_bytes.specs.Sets.{ByteFlags, member}
use Rattle.fancy_prices.specs.declared.entries.Told.{Told}
use Rattle.fancy_prices.specs.Around.{IsAround, costly_in}
use Rattle.fancy_prices.specs.Entries.{AreEntries, is_told}
use Rattle.fancy_prices.proofs.AroundLemmas.{never_costly}
use Rattle.fancy_prices.proofs.EntryLemmas.{entries_of}
use Rattle.fancy_prices.proofs.entries.Entries.of.Goals as goal

pub invariant_of-told : goal.invariant_of-told
invariant_of-told c =
    let rows = c.in_ok-rows.rows in
    record {
      told = never_costly rows c.new.result
          (subst (λ (s : ByteFlags). (b : ℕ) → b < 256 → member s b ≡ false → (k : ℕ) → k < vec_len rows.rows → costly_in (slice_get rows.rows.items k) b ≡ false) (sym c.new.ensures) c.costly_bytes-bytes.ensures);
      tells = subst (λ (s : ByteFlags). ForSome c.in_ok-around.around (IsAround rows c.prices_behind-behind.result s)) (sym c.new.ensures) c.in_ok-around.ensures;
    }

pub returns : goal.returns
returns c =
    subst (λ (t : Told). AreEntries (is_told (Some t)) c.args.code.now) (sym c.in_ok-new.ensures.ok)
    (entries_of c.in_ok-rows.rows c.args.code.now c.in_ok-rows.ensures c.prices_behind-behind.result c.prices_behind-behind.ensures)

pub returns-then-not-tell_some : goal.returns-then-not-tell_some
returns-then-not-tell_some c = c.all.ensures c.args.code.now
