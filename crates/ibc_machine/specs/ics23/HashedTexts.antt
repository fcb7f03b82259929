-- The finite list of texts of which no two may clash: all that are hashed in a world, and the packets of acknowledgements and
-- timeouts, which are compared in plain.
use Rattle.std.specs.Prelude.{List, [], ◌∷◌, ◌++◌}
use Rattle.std.specs.List.{flat_map}
use Rattle.std.specs.Option.{option_map_or}
use Rattle.std.specs.Map.{values_of}
use Rattle.ibc_ids.specs.Texts.{Text}
use Rattle.ibc_merkle.specs.Tree.{tree}
use Rattle.ibc_merkle.specs.Clashes.{tree_texts, proof_texts, NoClash}
use Rattle.ibc_wire.specs.Reading.{proof_of}
use Rattle.ibc_wire.specs.declared.messages.Message.{Message}
use Rattle.ibc_wire.specs.declared.messages.Message.TheVariants as message
use Rattle.ibc_wire.specs.declared.packet.Packet.{Packet}
use Rattle.ibc_machine.specs.declared.event.Event.{Event}
use Rattle.ibc_machine.specs.declared.event.Event.TheVariants as event
use Rattle.ibc_machine.specs.chain.Records.{Core, Channel, Commitment, Block, commitment_of}
use Rattle.ibc_machine.specs.ics24.Values.{commitment_text}
use Rattle.ibc_machine.specs.ics24.Image.{image}
use Rattle.ibc_machine.specs.ledger.Replay.{LedgerState, StampedEntry}
use Rattle.ibc_machine.specs.ledger.Ledgers.{Ledger, met_by, state_of}

abbrev pub commitment_texts : Commitment → List Text
commitment_texts c = c.payload ∷ commitment_text c ∷ []

abbrev pub channel_texts : (Text × Text) × Channel → List Text
channel_texts entry = flat_map commitment_texts (values_of entry.1.commitments) ++ values_of entry.1.acks

-- the commitments and the acknowledgements that stand
abbrev pub core_texts : Core → List Text
core_texts core = flat_map channel_texts core.channels

abbrev pub state_texts : LedgerState → List Text
state_texts state = core_texts state.chain.records.core

-- the tree of a committed block
abbrev pub block_texts : Block → List Text
block_texts block = tree_texts (tree (image block.records.core))

-- the check of a proof that is delivered
abbrev pub delivered_proof_texts : Text → List Text
delivered_proof_texts bytes = option_map_or proof_texts (proof_of bytes) []

abbrev pub packet_texts : Packet → List Text
packet_texts p = commitment_texts (commitment_of p)

abbrev pub message_texts : Message → List Text
message_texts (message.ConnOpenTry m) = delivered_proof_texts m.proof_end ++ delivered_proof_texts m.proof_client
message_texts (message.ConnOpenAck m) = delivered_proof_texts m.proof_end ++ delivered_proof_texts m.proof_client
message_texts (message.ConnOpenConfirm m) = delivered_proof_texts m.proof
message_texts (message.ChanOpenTry m) = delivered_proof_texts m.proof
message_texts (message.ChanOpenAck m) = delivered_proof_texts m.proof
message_texts (message.ChanOpenConfirm m) = delivered_proof_texts m.proof
message_texts (message.ChanCloseConfirm m) = delivered_proof_texts m.proof
message_texts (message.RecvPacket m) = packet_texts m.packet ++ delivered_proof_texts m.proof
message_texts (message.AckPacket m) = packet_texts m.packet ++ m.ack ∷ delivered_proof_texts m.proof
message_texts (message.Timeout m) = packet_texts m.packet ++ delivered_proof_texts m.proof
message_texts (message.TimeoutOnClose m) = packet_texts m.packet ++ delivered_proof_texts m.proof ++ delivered_proof_texts m.proof_close
message_texts (message.CreateClient m) = []
message_texts (message.UpdateClient m) = []
message_texts (message.ConnOpenInit m) = []
message_texts (message.ChanOpenInit m) = []
message_texts (message.ChanCloseInit m) = []
message_texts (message.Transfer m) = []
message_texts (message.TransferMany m) = []
message_texts (message.SendNote m) = []

abbrev pub event_texts : Event → List Text
event_texts (event.Message k m) = message_texts m
event_texts (event.Block k next_time) = []

-- what a ledger hashes, or gets as a packet: the commitments and acknowledgements that ever stood, the trees of its blocks, and
-- what was delivered to it
unfoldable pub ledger_texts : Ledger → List Text
ledger_texts ledger =
    flat_map (λ (at : LedgerState × StampedEntry). state_texts at.0) (met_by ledger)
    ++ state_texts (state_of ledger)
    ++ flat_map block_texts (state_of ledger).chain.committed
    ++ flat_map (λ (e : StampedEntry). event_texts e.entry.event) ledger.history

-- no two texts of the world's ledgers clash
abbrev pub HasNoClash : List Ledger → Type 0
HasNoClash ledgers = NoClash (flat_map ledger_texts ledgers)
