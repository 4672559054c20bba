-- What an iterator over the members of a set has left.
use Rattle.std.specs.Prelude.{ℕ, ◌-◌, List}
use Rattle.fancy_bytes.specs.Sets.{members_from}
use Rattle.fancy_bytes.specs.declared.members.Members.{Members}

-- the members that have not come yet
abbrev pub members_left : Members → List ℕ
members_left it = members_from it.set.now (256 - it.next) it.next
