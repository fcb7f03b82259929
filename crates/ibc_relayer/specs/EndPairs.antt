-- What the code finds for an end of b: its peer on a, or that nothing is planned for it.
use Rattle.std.specs.Prelude.{◌≡◌, ◌==◌, ℕ, Bool, true, false, [], Option, Some, None}
use Rattle.std.specs.Option.{option_map_or}
use Rattle.ibc_ids.specs.Texts.{Text}
use Rattle.ibc_machine.specs.chain.Records.{Channel, Client, channel_at}
use Rattle.ibc_machine.specs.ics04.Channels.{client_of}
use Rattle.ibc_machine.specs.ics18.Relay.{View, tracks, theirs_of, pending_at}
use Rattle.ibc_relayer.specs.declared.ends.Ends.{Ends}

-- there is a client, and it tracks the chain
abbrev pub tracks_chain : ℕ → Option Client → Bool
tracks_chain chain client = option_map_or (λ (c : Client). c.state.chain == chain) client false

-- the end and its peer are these
pub record IsEndPair (a b : View) (port channel : Text) (mine : Channel) (ends : Ends) : Type 0 where
  pub a_is : ends.a.now ≡ a
  pub b_is : ends.b.now ≡ b
  pub port_is : ends.port.now ≡ port
  pub channel_is : ends.channel.now ≡ channel
  pub mine_is : ends.mine.now ≡ mine
  pub peer_is : mine.end.peer_channel ≡ Some ends.peer.now
  pub client_is : client_of b.core mine.end.connection ≡ ends.client.now
  pub tracked : tracks a b mine ≡ true
  pub theirs_is : theirs_of a (port, channel) mine ≡ Some ends.theirs.now

-- the end stands at b with its peer at a, and its client tracks the chain of a
abbrev pub IsPaired : Ends → Type 0
IsPaired ends = IsEndPair ends.a.now ends.b.now ends.port.now ends.channel.now ends.mine.now ends

-- the end stands on its chain under its port and its name
abbrev pub StandsInView : Ends → Type 0
StandsInView ends = channel_at ends.b.now.core ends.port.now ends.channel.now ≡ Some ends.mine.now

abbrev pub IsFoundEndPair : View → View → Text → Text → Channel → Option Ends → Type 0
IsFoundEndPair a b port channel mine (Some ends) = IsEndPair a b port channel mine ends
IsFoundEndPair a b port channel mine None = pending_at a b ((port, channel), mine) ≡ []
