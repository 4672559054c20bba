-- Where groups were asked for, those of an item are held.
use Rattle.std.proofs.Common.{◌≡◌, true, List, [], Option, None, refl, ap, true≢false, sym}
use Rattle.fancy_input.specs.declared.span.Span.{Span}
use Rattle.fancy_runner.specs.Groups.{groups_in}
use Rattle.fancy_machine.specs.Asked.{groups_held}
use Rattle.fancy_search.specs.Cached.{cached_groups, found_with, groups_by, groups_or, holds_groups}
use Rattle.fancy_search.specs.FoundItems.{item_groups, item_in}
use Rattle.fancy_search.specs.MatchList.{MatchItem}
use Rattle.fancy_search.specs.declared.cache.Cache.{Cache}
use Rattle.fancy_search.specs.declared.cache.Engine.{Engine}
use Rattle.fancy_search.specs.declared.cache.Engine.TheVariants.{Runner, Machine, WithoutGroups, Unasked}
use Rattle.fancy_search.specs.declared.searcher.FoundItem.{FoundItem}

held_by : (served : Engine) (runner machine others : List (Option Span)) → holds_groups served ≡ true → groups_by served runner machine others ≡ groups_by served runner machine []
held_by Runner runner machine others held = refl
held_by Machine runner machine others held = refl
held_by (WithoutGroups groups) runner machine others held = refl
held_by Unasked runner machine others held = absurd (true≢false (sym held))

pub held_groups : (cache : Cache) (others : List (Option Span)) → holds_groups cache.served ≡ true → groups_or cache others ≡ cached_groups cache
held_groups cache others held = held_by cache.served (groups_in cache.runner) (groups_held cache.machine) others held

pub held_item : (cache : Cache) (item : Option MatchItem) (l : FoundItem) → holds_groups cache.served ≡ true → item_in cache item l ≡ item_in cache None l
held_item cache item l held =
    ap (λ (groups : List (Option Span)). record { found = found_with l.found groups; from = l.from; continues = l.continues }) (held_groups cache (item_groups item) held)
