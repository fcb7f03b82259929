-- An end that follows its peer (ICS 4, "chanOpenConfirm" and "chanCloseConfirm").
use Rattle.std.specs.Prelude.{◌||◌, ℕ, Bool, Some, Ok, ⊤}
use Rattle.ibc_ids.specs.Texts.{Text}
use Rattle.ibc_ids.specs.declared.refusal.Refusal.TheVariants.{UnknownChannel, WrongState, BadMessage}
use Rattle.ibc_wire.specs.declared.records.ChannelState.{ChannelState}
use Rattle.ibc_wire.specs.declared.records.ChannelState.TheVariants.{Init, TryOpen, Open, Closed}
use Rattle.ibc_wire.specs.declared.records.ChannelEnd.{ChannelEnd}
use Rattle.ibc_machine.specs.declared.reply.Effect.TheVariants as effect
use Rattle.ibc_machine.specs.chain.Records.{channel_at, with_channel}
use Rattle.ibc_machine.specs.ics24.Values.{same_channel_state}
use Rattle.ibc_machine.specs.chain.Checks.{Checked, require, expect, ◌>>=◌, ◌>>◌}
use Rattle.ibc_machine.specs.ics24.Evidence.{CoreHandler, require_known, require_proof}
use Rattle.ibc_machine.specs.ics04.Channels.{client_of, peer_channel_of, counterpart, has_channel, in_state}

-- from TRYOPEN an end follows its peer, and from OPEN where the peer is closed
abbrev pub is_followed_from : ChannelState → ChannelState → Bool
is_followed_from Closed from = same_channel_state from TryOpen || same_channel_state from Open
is_followed_from Init from = same_channel_state from TryOpen
is_followed_from TryOpen from = same_channel_state from TryOpen
is_followed_from Open from = same_channel_state from TryOpen

abbrev pub require_follows : ChannelState → ChannelEnd → Checked ⊤
require_follows to mine = require (is_followed_from to mine.state) WrongState

-- the end goes into the state in which the proof shows its peer
unfoldable pub follow_peer : ChannelState → Text → Text → ℕ → Text → CoreHandler
follow_peer to port channel height proof evidence host core = do
  require (evidence.is_proof proof) BadMessage
  mine ← expect (channel_at core port channel) UnknownChannel
  let client = client_of core mine.end.connection
  let theirs = counterpart core mine.end port (Some channel) to
  require_follows to mine.end
  require_known core client height
  require_proof evidence client height (has_channel mine.end (peer_channel_of mine.end) theirs) proof
  Ok (effect.None, with_channel port channel (in_state to mine) core)
