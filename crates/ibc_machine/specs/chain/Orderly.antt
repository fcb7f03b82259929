-- A core whose maps are in the order of their keys, and in which nothing stands under a name or a sequence that wasn't given
-- yet (ICS 4, "Channel paths"; ICS 24, "Identifiers").
use Rattle.std.specs.Prelude.{◌≡◌, ◌≤◌, ℕ, IsTrue, Some, None}
use Rattle.std.specs.FinMap.{is_sorted}
use Rattle.std.specs.Ordering.{nat_cmp}
use Rattle.ibc_ids.specs.Texts.{Text, pair_cmp}
use Rattle.ibc_ids.specs.Maps.{at}
use Rattle.ibc_ids.specs.Paths.{nth_channel}
use Rattle.ibc_machine.specs.chain.Records.{Core, Channel, channel_at}

-- an end committed to no packet from its next sequence on
pub record IsOrderlyEnd (mine : Channel) : Type 0 where
  pub sorted : IsTrue (is_sorted nat_cmp mine.commitments)
  pub unsent : (n : ℕ) → mine.next_send ≤ n → at nat_cmp n mine.commitments ≡ None

pub record IsOrderly (core : Core) : Type 0 where
  pub sorted : IsTrue (is_sorted pair_cmp core.channels)
  pub free : (port : Text) → channel_at core port (nth_channel core.next_channel) ≡ None
  pub ends : (port id : Text) (mine : Channel) → channel_at core port id ≡ Some mine → IsOrderlyEnd mine
