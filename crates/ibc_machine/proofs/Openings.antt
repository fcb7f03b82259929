-- The messages that open and close connections and channels, the twenty steps of an opening, and the worlds
-- after one.
use Rattle.std.specs.Prelude.{ℕ, ◌+◌, List, [], ◌∷◌}
use Rattle.ibc_wire.specs.declared.messages.Message.TheVariants as message
use Rattle.ibc_machine.specs.declared.event.Event.{Event}
use Rattle.ibc_machine.specs.declared.event.Event.TheVariants as event
use Rattle.ibc_machine.specs.declared.reply.Reply.{Reply}
use Rattle.ibc_machine.specs.chain.Genesis.{start}
use Rattle.ibc_machine.specs.chain.Machine.{World}
use Rattle.ibc_machine.proofs.Scripts.{Side, Use, a, b, a_and_b, for_tokens, for_notes, world_after, create, update, block, done, blocked, new_client, new_connection, new_channel}

-- ---- connections between x, whose chain gets the message, and y

abbrev pub begin_connection : Side → Side → Event
begin_connection x y =
    event.Message x.number (message.ConnOpenInit (record { client = x.client; peer_client = y.client }))

-- y's client is claimed to track this chain up to this latest height; proofs are of y's height h
abbrev pub try_connection : Side → Side → Side → ℕ → ℕ → Event
try_connection x y claimed latest h =
    event.Message x.number (message.ConnOpenTry (record {
      client = x.client;
      peer_client = y.client;
      peer_connection = y.connection;
      claim = record { chain = claimed.number; latest = latest };
      height = h;
      proof_end = [];
      proof_client = [];
    }))

abbrev pub ack_connection : Side → Side → Side → ℕ → ℕ → Event
ack_connection x y claimed latest h =
    event.Message x.number (message.ConnOpenAck (record {
      connection = x.connection;
      peer_connection = y.connection;
      claim = record { chain = claimed.number; latest = latest };
      height = h;
      proof_end = [];
      proof_client = [];
    }))

abbrev pub confirm_connection : Side → ℕ → Event
confirm_connection x h =
    event.Message x.number (message.ConnOpenConfirm (record { connection = x.connection; height = h; proof = [] }))

-- ---- channels

abbrev pub begin_channel : Side → Use → Event
begin_channel x it =
    event.Message x.number (message.ChanOpenInit (record {
      port = it.port;
      order = it.order;
      connection = x.connection;
      peer_port = it.port;
      version = it.version;
    }))

abbrev pub try_channel : Side → Side → Use → ℕ → Event
try_channel x y it h =
    event.Message x.number (message.ChanOpenTry (record {
      port = it.port;
      order = it.order;
      connection = x.connection;
      peer_port = it.port;
      peer_channel = y.channel;
      version = it.version;
      height = h;
      proof = [];
    }))

abbrev pub ack_channel : Side → Side → Use → ℕ → Event
ack_channel x y it h =
    event.Message x.number (message.ChanOpenAck (record {
      port = it.port;
      channel = x.channel;
      peer_channel = y.channel;
      height = h;
      proof = [];
    }))

abbrev pub confirm_channel : Side → Use → ℕ → Event
confirm_channel x it h =
    event.Message x.number (message.ChanOpenConfirm (record {
      port = it.port;
      channel = x.channel;
      height = h;
      proof = [];
    }))

abbrev pub close_channel : Side → Use → Event
close_channel x it =
    event.Message x.number (message.ChanCloseInit (record { port = it.port; channel = x.channel }))

abbrev pub confirm_close : Side → Use → ℕ → Event
confirm_close x it h =
    event.Message x.number (message.ChanCloseConfirm (record {
      port = it.port;
      channel = x.channel;
      height = h;
      proof = [];
    }))

-- ---- an opening

-- the twenty steps that open a channel between x and y over new clients and a new connection, where x has
-- committed h heights and y k
abbrev pub opening : Side → Side → Use → ℕ → ℕ → List Event
opening x y it h k =
    create x y ∷ create y x ∷ begin_connection x y ∷ block x
    ∷ update y x (h + 1) ∷ try_connection y x y 0 (h + 1) ∷ block y
    ∷ update x y (k + 1) ∷ ack_connection x y x (h + 1) (k + 1) ∷ begin_channel x it ∷ block x
    ∷ update y x (h + 2) ∷ confirm_connection y (h + 2) ∷ try_channel y x it (h + 2) ∷ block y
    ∷ update x y (k + 2) ∷ ack_channel x y it (k + 2) ∷ block x
    ∷ update y x (h + 3) ∷ confirm_channel y it (h + 3) ∷ []

-- what the twenty steps answer
abbrev pub opened : Side → Side → ℕ → ℕ → List Reply
opened x y h k =
    new_client x.client ∷ new_client y.client ∷ new_connection x.connection ∷ blocked (h + 1)
    ∷ done ∷ new_connection y.connection ∷ blocked (k + 1)
    ∷ done ∷ done ∷ new_channel x.channel ∷ blocked (h + 2)
    ∷ done ∷ done ∷ new_channel y.channel ∷ blocked (k + 2)
    ∷ done ∷ done ∷ blocked (h + 3)
    ∷ done ∷ done ∷ []

-- a and b with a channel between them
abbrev pub joined_for : Use → World
joined_for it = world_after a_and_b (start a_and_b) (opening a b it 0 0)

abbrev pub with_tokens : World
with_tokens = joined_for for_tokens

abbrev pub with_notes : World
with_notes = joined_for for_notes
