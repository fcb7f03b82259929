-- Words for short runs of the machine: events by their names, and what they give. Messages carry true roots and
-- written proofs, of which only the marks are looked at, so that nothing is hashed.
use Rattle.std.specs.Prelude.{ℕ, true, codes, List, [], ◌∷◌, map}
use Rattle.ibc_ids.specs.Texts.{Text}
use Rattle.ibc_ids.specs.Maps.{Map}
use Rattle.ibc_ids.specs.declared.refusal.Refusal.{Refusal}
use Rattle.ibc_wire.specs.declared.records.Order.{Order}
use Rattle.ibc_wire.specs.declared.records.Order.TheVariants.{Unordered, Ordered}
use Rattle.ibc_wire.specs.declared.messages.Message.TheVariants as message
use Rattle.ibc_machine.specs.declared.event.Event.{Event}
use Rattle.ibc_machine.specs.declared.event.Event.TheVariants as event
use Rattle.ibc_machine.specs.declared.reply.Effect.TheVariants as effect
use Rattle.ibc_machine.specs.declared.reply.Reply.{Reply}
use Rattle.ibc_machine.specs.declared.reply.Reply.TheVariants as reply
use Rattle.ibc_machine.specs.chain.Records.{MachineChain}
use Rattle.ibc_machine.specs.ics20.Bank.{Balances}
use Rattle.ibc_machine.specs.chain.Genesis.{GenesisState, ChainState, Holding}
use Rattle.ibc_machine.specs.chain.Machine.{World, Marks, answer}

-- every root is true, and every proof is the written one
abbrev pub honest : Marks
honest = record { is_root = λ _ _. true; is_proof = λ _. true; is_written = λ _ _ _. true }

-- a reply without the root of a block
abbrev pub shown : Reply → Reply
shown (reply.Ok (effect.Block h root)) = reply.Ok (effect.Block h [])
shown given = given

-- the replies to events in turn; the oldest row of a window is there, as it is where one thread runs all chains
abbrev pub replies_by : Marks → GenesisState → World → List Event → List Reply
replies_by marks genesis world [] = []
replies_by marks genesis world (e ∷ es) =
    let (given, after) = answer marks genesis true world e in shown given ∷ replies_by marks genesis after es

abbrev pub replies : GenesisState → World → List Event → List Reply
replies = replies_by honest

-- the world after events
abbrev pub world_after : GenesisState → World → List Event → World
world_after genesis world [] = world
world_after genesis world (e ∷ es) = world_after genesis (answer honest genesis true world e).1 es

abbrev pub balances : World → List Balances
balances world = map (λ (chain : MachineChain). chain.records.apps.balances) world

abbrev pub notes : World → List (Map Text (List Text))
notes world = map (λ (chain : MachineChain). chain.records.apps.notes) world

-- ---- people and denominations

abbrev pub alice : Text
alice = codes "alice"

abbrev pub bob : Text
bob = codes "bob"

abbrev pub carol : Text
carol = codes "carol"

abbrev pub atom : Text
atom = codes "atom"

abbrev pub gold : Text
gold = codes "gold"

-- what came over first channels from a to b, and from there to c
abbrev pub atom_from_a : Text
atom_from_a = codes "transfer/channel-0/atom"

abbrev pub atom_over_b : Text
atom_over_b = codes "transfer/channel-0/transfer/channel-0/atom"

abbrev pub gold_from_a : Text
gold_from_a = codes "transfer/channel-0/gold"

abbrev pub escrow_0 : Text
escrow_0 = codes "escrow/transfer/channel-0"

abbrev pub escrow_1 : Text
escrow_1 = codes "escrow/transfer/channel-1"

-- one line of balances
abbrev pub holds : Text → ℕ → Text → (Text × Text) × ℕ
holds holder amount denom = ((holder, denom), amount)

-- ---- chains

abbrev pub chain_with : List Holding → ChainState
chain_with holdings = record { time = 100; balances = holdings }

-- two chains, a and b, of which alice holds 1000 atom on a
abbrev pub a_and_b : GenesisState
a_and_b = record {
  capacity = 64;
  window = 64;
  chains = chain_with ((alice, atom, 1000) ∷ []) ∷ chain_with [] ∷ [];
}

-- what it begins with
abbrev pub alice_has_all : List Balances
alice_has_all = (holds alice 1000 atom ∷ []) ∷ [] ∷ []

-- three chains, a, b and c, of which alice holds 1000 atom on a
abbrev pub a_b_and_c : GenesisState
a_b_and_c = record a_and_b { chains = chain_with ((alice, atom, 1000) ∷ []) ∷ chain_with [] ∷ chain_with [] ∷ [] }

-- a chain, with the names that it gave to its client, connection and channel
pub record Side : Type 0 where
  pub number : ℕ
  pub client : Text
  pub connection : Text
  pub channel : Text

-- the chain with the first names, and with the second ones
abbrev pub first : ℕ → Side
first k =
    record { number = k; client = codes "inprocess-0"; connection = codes "connection-0"; channel = codes "channel-0" }

abbrev pub second : ℕ → Side
second k =
    record { number = k; client = codes "inprocess-1"; connection = codes "connection-1"; channel = codes "channel-1" }

abbrev pub a : Side
a = first 0

abbrev pub b : Side
b = first 1

abbrev pub c : Side
c = first 2

-- what a channel is for
pub record Use : Type 0 where
  pub port : Text
  pub order : Order
  pub version : Text

-- tokens of one denomination a packet
abbrev pub for_tokens : Use
for_tokens = record { port = codes "transfer"; order = Unordered; version = codes "ics20-1" }

-- several denominations a packet
abbrev pub for_several : Use
for_several = record { port = codes "transfer"; order = Unordered; version = codes "ics20-own-2" }

abbrev pub for_notes : Use
for_notes = record { port = codes "note"; order = Ordered; version = codes "note-1" }

-- ---- replies

abbrev pub done : Reply
done = reply.Ok effect.None

abbrev pub no : Refusal → Reply
no = reply.No

abbrev pub blocked : ℕ → Reply
blocked h = reply.Ok (effect.Block h [])

abbrev pub new_client : Text → Reply
new_client id = reply.Ok (effect.Client id)

abbrev pub new_connection : Text → Reply
new_connection id = reply.Ok (effect.Connection id)

abbrev pub new_channel : Text → Reply
new_channel id = reply.Ok (effect.Channel id)

abbrev pub sent : ℕ → Reply
sent n = reply.Ok (effect.Sent n)

abbrev pub acked : Text → Reply
acked ack = reply.Ok (effect.Ack ack)

-- ---- clients and blocks

-- a client of y on x
abbrev pub create : Side → Side → Event
create x y = event.Message x.number (message.CreateClient (record { chain = y.number }))

-- x's client is told of a height of y, which had this time
abbrev pub update_at : ℕ → Side → Side → ℕ → Event
update_at time x y h =
    event.Message x.number (message.UpdateClient (record {
      client = x.client;
      header = record { chain = y.number; height = h; time = time; root = [] };
    }))

abbrev pub update : Side → Side → ℕ → Event
update = update_at 100

-- x's block is ended; the next begins at this time
abbrev pub block_at : ℕ → Side → Event
block_at time x = event.Block x.number time

abbrev pub block : Side → Event
block = block_at 100
