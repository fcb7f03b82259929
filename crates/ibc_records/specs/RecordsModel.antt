-- The records of a chain as a ledger holds them: in plain, and as a store of paths.
use Rattle.std.specs.Prelude.{◌≡◌, ◌+◌, ◌<◌, ℕ, [], map, IsTrue, Option, Some, Result, IfOk}
use Rattle.std.specs.FinMap.{is_sorted}
use Rattle.std.specs.Option.{option_and_then}
use Rattle.std.specs.Ordering.{nat_cmp}
use Rattle.ibc_ids.specs.Texts.{Text, text_cmp, pair_cmp}
use Rattle.ibc_ids.specs.Maps.{Map, at, with}
use Rattle.ibc_ids.specs.Paths.{nth_channel}
use Rattle.ibc_wire.specs.declared.records.ConnectionEnd.{ConnectionEnd}
use Rattle.ibc_wire.specs.declared.records.ChannelEnd.{ChannelEnd}
use Rattle.ibc_machine.specs.chain.Records.{Core, Client, Channel, with_client, with_connection, with_channel}
use Rattle.ibc_machine.specs.ics03.Connections.{with_new_connection}
use Rattle.ibc_machine.specs.ics04.Channels.{new_channel, with_new_channel}
use Rattle.ibc_machine.specs.chain.Genesis.{empty_core}
use Rattle.ibc_machine.specs.ics24.Image.{image, IsKeyed}
use Rattle.ibc_machine.specs.ics02.Clients.{new_client, with_known_height}
use Rattle.ibc_path_store.specs.StoreModel.{StoreModel, Hashed, store_after_commit}
use Rattle.ibc_machine.specs.chain.Orderly.{IsOrderlyEnd}
use Rattle.ibc_records.specs.declared.client.ConsensusState.{ConsensusState}
use Rattle.ibc_records.specs.declared.records.NextNumbers.{NextNumbers}
use Rattle.ibc_records.specs.ClientModels.{ClientModel, abstract_client, new_client_model, with_height}

-- what the chain proved at its last committed height, with the time of that height
pub record LastBlock : Type 0 where
  pub core : Core
  pub time : ℕ

-- no height is committed
abbrev pub no_block : LastBlock
no_block = record { core = empty_core; time = 0 }

-- the working records with their store, and what was committed last
pub record RecordsModel : Type 0 where
  pub clients : Map Text ClientModel
  pub connections : Map Text ConnectionEnd
  pub channels : Map (Text × Text) Channel
  pub next_client : ℕ
  pub next_connection : ℕ
  pub next_channel : ℕ
  pub store : StoreModel
  pub last : LastBlock

abbrev pub abstract_client_entry : Text × ClientModel → Text × Client
abstract_client_entry entry = (entry.0, abstract_client entry.1)

-- what the chain proves, in plain
abbrev pub core_of : RecordsModel → Core
core_of held = record {
  clients = map abstract_client_entry held.clients;
  connections = held.connections;
  channels = held.channels;
  next_client = held.next_client;
  next_connection = held.next_connection;
  next_channel = held.next_channel;
}

-- what a client knows of a height
abbrev pub consensus_in : RecordsModel → Text → ℕ → Option ConsensusState
consensus_in held client height =
    option_and_then (λ (c : ClientModel). at nat_cmp height c.known) (at text_cmp client held.clients)

-- each channel's name was given by a number below this one
abbrev pub AreNumberedBelow : ℕ → Map (Text × Text) Channel → Type 0
AreNumberedBelow next channels =
    (port id : Text) (channel : Channel) → at pair_cmp (port, id) channels ≡ Some channel → (n : ℕ) × (n < next) × (id ≡ nth_channel n)

-- channels in the order of their names, none of which is given yet from this number on, and each end in order
pub record AreOrderly (next : ℕ) (channels : Map (Text × Text) Channel) : Type 0 where
  pub sorted : IsTrue (is_sorted pair_cmp channels)
  pub numbered : AreNumberedBelow next channels
  pub ends : (port id : Text) (mine : Channel) → at pair_cmp (port, id) channels ≡ Some mine → IsOrderlyEnd mine

-- the store is the image of the core, every key of which has names for its names, and the channels are in order
pub record IsSoundRecords (held : RecordsModel) : Type 0 where
  pub keyed : IsKeyed (core_of held)
  pub stored : held.store.pairs ≡ image (core_of held)
  pub orderly : AreOrderly held.next_channel held.channels

-- the core of a chain in the beginning, but that the next ones have these numbers
abbrev pub core_from : NextNumbers → Core
core_from next =
    record empty_core { next_client = next.client; next_connection = next.connection; next_channel = next.channel }

-- where it is Ok, it is the core of these clients, connections and channels, and of the numbers of the next ones
abbrev pub IsCoreOf : {E : Type 0} → NextNumbers → Map Text ClientModel → Map Text ConnectionEnd → Map (Text × Text) Channel → Result Core E → Type 0
IsCoreOf next clients connections channels result =
    IfOk result (λ plain. plain ≡ record (core_from next) { clients = map abstract_client_entry clients; connections = connections; channels = channels })

-- the numbers of the next client, connection and channel
abbrev pub next_numbers_of : RecordsModel → NextNumbers
next_numbers_of held = record { client = held.next_client; connection = held.next_connection; channel = held.next_channel }

-- records as of a chain in the beginning, whose working block has this time, but that the next ones have these numbers
pub record IsCountingFrom (window time : ℕ) (next : NextNumbers) (held : RecordsModel) : Type 0 where
  pub clients : held.clients ≡ []
  pub connections : held.connections ≡ []
  pub channels : held.channels ≡ []
  pub core : core_of held ≡ core_from next
  pub store : held.store ≡ record { pairs = image (core_from next); room = held.store.room; time = time; window = window; gone = 0; kept = []; hashed = record { last = []; digests = 0 } }
  pub last : held.last ≡ no_block

-- the records of a chain in the beginning, whose working block has this time
abbrev pub IsNew : ℕ → ℕ → RecordsModel → Type 0
IsNew window time = IsCountingFrom window time (record { client = 0; connection = 0; channel = 0 })

-- the working block, as it is committed
abbrev pub as_committed : RecordsModel → LastBlock
as_committed held = record { core = core_of held; time = held.store.time }

-- the records after a commit, whose working block has this time, where this was hashed
abbrev pub after_commit : RecordsModel → ℕ → Hashed → RecordsModel
after_commit held next_time hashed =
    record held { store = record (store_after_commit held.store next_time) { hashed = hashed }; last = as_committed held }

-- nothing changed but how much room there is
abbrev pub IsUnchanged : RecordsModel → RecordsModel → Type 0
IsUnchanged old new = new ≡ record old { store = record old.store { room = new.store.room } }

-- only the working records changed, and the store is their image
pub record IsStored (old new : RecordsModel) : Type 0 where
  pub store : new.store ≡ record old.store { pairs = new.store.pairs; room = new.store.room }
  pub image_of : new.store.pairs ≡ image (core_of new)
  pub last : new.last ≡ old.last

-- a client of a chain was added, and the next is counted
pub record AddsClient (old : RecordsModel) (id : Text) (chain : ℕ) (new : RecordsModel) : Type 0 where
  pub records : new ≡ record old {
    clients = with text_cmp id (new_client_model chain) old.clients;
    next_client = old.next_client + 1;
    store = new.store;
  }
  pub stored : IsStored old new
  pub core : core_of new ≡ record (with_client id (new_client chain) (core_of old)) { next_client = old.next_client + 1 }

-- a client knows a height more
pub record UpdatesClient (old : RecordsModel) (id : Text) (height : ℕ) (known : ConsensusState) (new : RecordsModel) : Type 0 where
  pub client : ClientModel
  pub stood : at text_cmp id old.clients ≡ Some client
  pub records : new ≡ record old {
    clients = with text_cmp id (with_height height known client) old.clients;
    store = new.store;
  }
  pub stored : IsStored old new
  pub core : core_of new ≡ with_client id (with_known_height height (abstract_client client)) (core_of old)

-- an end of a connection was added, and the next is counted
pub record AddsConnection (old : RecordsModel) (id : Text) (end : ConnectionEnd) (new : RecordsModel) : Type 0 where
  pub records : new ≡ record old {
    connections = with text_cmp id end old.connections;
    next_connection = old.next_connection + 1;
    store = new.store;
  }
  pub stored : IsStored old new
  pub core : core_of new ≡ with_new_connection id end (core_of old)

-- a connection has this end
pub record SetsConnection (old : RecordsModel) (id : Text) (end : ConnectionEnd) (new : RecordsModel) : Type 0 where
  pub records : new ≡ record old { connections = with text_cmp id end old.connections; store = new.store }
  pub stored : IsStored old new
  pub core : core_of new ≡ with_connection id end (core_of old)

-- a channel with this end was added, its counters at 1, and the next is counted
pub record AddsChannel (old : RecordsModel) (port id : Text) (end : ChannelEnd) (new : RecordsModel) : Type 0 where
  pub records : new ≡ record old {
    channels = with pair_cmp (port, id) (new_channel end) old.channels;
    next_channel = old.next_channel + 1;
    store = new.store;
  }
  pub stored : IsStored old new
  pub core : core_of new ≡ with_new_channel port id end (core_of old)

-- a channel has this end, and its counters as before
pub record SetsChannelEnd (old : RecordsModel) (port id : Text) (end : ChannelEnd) (new : RecordsModel) : Type 0 where
  pub channel : Channel
  pub stood : at pair_cmp (port, id) old.channels ≡ Some channel
  pub records : new ≡ record old {
    channels = with pair_cmp (port, id) (record channel { end = end }) old.channels;
    store = new.store;
  }
  pub stored : IsStored old new
  pub core : core_of new ≡ with_channel port id (record channel { end = end }) (core_of old)
