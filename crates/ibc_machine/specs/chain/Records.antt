-- What a chain keeps, in plain.
use Rattle.std.specs.Prelude.{ℕ, Bool, false, ◌==◌, List, Option}
use Rattle.std.specs.List.{list_any}
use Rattle.std.specs.Option.{option_map_or}
use Rattle.std.specs.BTreeSet.{insert_key}
use Rattle.std.specs.Ordering.{nat_cmp}
use Rattle.ibc_ids.specs.Texts.{Text, text_cmp, pair_cmp}
use Rattle.ibc_ids.specs.Maps.{Map, at, with}
use Rattle.ibc_wire.specs.declared.records.ClientState.{ClientState}
use Rattle.ibc_wire.specs.declared.records.ConnectionEnd.{ConnectionEnd}
use Rattle.ibc_wire.specs.declared.records.ChannelEnd.{ChannelEnd}
use Rattle.ibc_wire.specs.declared.packet.Packet.{Packet}

-- a client: its state, and the heights that it knows (ICS 2, "Client state" and "Consensus state")
pub record Client : Type 0 where
  pub state : ClientState
  pub known : List ℕ

-- what is committed of a packet that was sent (ICS 4, "Packet commitment")
pub record Commitment : Type 0 where
  pub payload : Text
  pub timeout_height : ℕ
  pub timeout_time : ℕ

-- an end of a channel, with its three counters, the packets that it sent and that aren't acknowledged or
-- timed out, the sequences that it received where they come in any order, and the acknowledgements that it
-- wrote (ICS 4, "Channel paths")
pub record Channel : Type 0 where
  pub end : ChannelEnd
  pub next_send : ℕ
  pub next_recv : ℕ
  pub next_ack : ℕ
  pub commitments : Map ℕ Commitment
  pub receipts : List ℕ
  pub acks : Map ℕ Text

-- what a chain proves to others (ICS 24, "Provable store"), and what its clients know; channels by their
-- port and name
pub record Core : Type 0 where
  pub clients : Map Text Client
  pub connections : Map Text ConnectionEnd
  pub channels : Map (Text × Text) Channel
  pub next_client : ℕ
  pub next_connection : ℕ
  pub next_channel : ℕ

-- what the applications keep (ICS 24, "Private store"): balances by the account's text and the denomination,
-- amounts of 0 left out, and notes by the channel that they came over
pub record Apps : Type 0 where
  pub balances : Map (Text × Text) ℕ
  pub notes : Map Text (List Text)

pub record Records : Type 0 where
  pub core : Core
  pub apps : Apps

-- the records at the end of a height, and its time
pub record Block : Type 0 where
  pub records : Records
  pub time : ℕ

-- a chain: the records now, the time of its working block, and its committed blocks from height 1 on
pub record MachineChain : Type 0 where
  pub records : Records
  pub time : ℕ
  pub committed : List Block

-- is one of these numbers
abbrev pub is_one_of : List ℕ → ℕ → Bool
is_one_of numbers n = list_any (λ m. m == n) numbers

-- a number added to a set of numbers in their order
abbrev pub with_number : ℕ → List ℕ → List ℕ
with_number n numbers = insert_key nat_cmp numbers n

abbrev pub client_at : Core → Text → Option Client
client_at core id = at text_cmp id core.clients

abbrev pub connection_at : Core → Text → Option ConnectionEnd
connection_at core id = at text_cmp id core.connections

abbrev pub channel_at : Core → Text → Text → Option Channel
channel_at core port channel = at pair_cmp (port, channel) core.channels

abbrev pub with_client : Text → Client → Core → Core
with_client id client core = record core { clients = with text_cmp id client core.clients }

abbrev pub with_connection : Text → ConnectionEnd → Core → Core
with_connection id connection core = record core { connections = with text_cmp id connection core.connections }

abbrev pub with_channel : Text → Text → Channel → Core → Core
with_channel port channel value core =
    record core { channels = with pair_cmp (port, channel) value core.channels }

-- the client knows the height
abbrev pub is_known_height : Core → Text → ℕ → Bool
is_known_height core client height = option_map_or (λ found. is_one_of found.known height) (client_at core client) false

-- what is committed of a packet
abbrev pub commitment_of : Packet → Commitment
commitment_of p =
    record { payload = p.payload; timeout_height = p.timeout_height; timeout_time = p.timeout_time }
