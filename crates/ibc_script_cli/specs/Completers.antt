-- What a completer finds on its chains, and what it makes of that.
use Rattle.std.specs.Prelude.{ℕ, Option}
use Rattle.ibc_ids.specs.Texts.{Text}
use Rattle.ibc_machine.specs.ics04.Proving.{ack_key, commitment_key, destination_key}
use Rattle.ibc_wire.specs.declared.messages.Message.{Message}
use Rattle.ibc_wire.specs.declared.packet.Packet.{Packet}
use Rattle.ibc_script.specs.declared.draft.ClientDraft.TheVariants as client
use Rattle.ibc_script.specs.declared.draft.ConnectionDraft.{ConnectionDraft}
use Rattle.ibc_script.specs.declared.draft.ConnectionDraft.TheVariants as connection
use Rattle.ibc_script.specs.declared.draft.ProofSource.{ProofSource}
use Rattle.ibc_script.specs.declared.draft.SentPacket.{SentPacket}
use Rattle.ibc_script_cli.specs.Completing.{AreBothProofs, AreConnectionProofs, IsAnswerProof, IsProofBytesAt, IsUnreceivedAt, MakesClientMessage, MakesFromSentPacket, MakesPacketAction}
use Rattle.ibc_script_cli.specs.ScriptChains.{ChainAnswers, ScriptChains}
use Rattle.ibc_script_cli.specs.declared.completing.Completer.{Completer}
use Rattle.ibc_script_cli.specs.declared.completing.connections.Shown.{Shown}
use Rattle.ibc_script_cli.specs.declared.completing.packets.PacketAction.{PacketAction}
use Rattle.ibc_script_cli.specs.declared.completing.packets.Unreceived.{Unreceived}

-- what the chains of a completer answer
abbrev pub findings : {C : Type 0} → ScriptChains C → Completer C → ChainAnswers
findings known completer = known.answers completer.chains.now

-- ---- clients

-- the message that updates a client to a height
abbrev pub MakesUpdate : {C : Type 0} → ScriptChains C → Completer C → ℕ → Text → ℕ → Message → Type 0
MakesUpdate known completer on id height = MakesClientMessage (findings known completer) on (client.Update id height)

-- ---- connections

-- the proof of the peer's connection, and what is claimed of its client
abbrev pub ShowsBoth : {C : Type 0} → ScriptChains C → Completer C → ProofSource → Text → Text → Shown → Type 0
ShowsBoth known completer from peer_connection peer_client =
    λ shown. AreBothProofs (findings known completer) from peer_connection peer_client shown.end shown.claim

-- what a step for connections needs
abbrev pub ShowsConnection : {C : Type 0} → ScriptChains C → Completer C → ℕ → ConnectionDraft → Shown → Type 0
ShowsConnection known completer on d = λ shown. AreConnectionProofs (findings known completer) on d shown.end shown.claim

-- what an answer needs (ICS 3, connOpenAck)
abbrev pub ShowsAck : {C : Type 0} → ScriptChains C → Completer C → ℕ → Text → Text → ProofSource → Shown → Type 0
ShowsAck known completer on id peer_connection from =
    ShowsConnection known completer on (connection.OpenAck id peer_connection from)

-- what the end of a handshake needs (ICS 3, connOpenConfirm)
abbrev pub ShowsConfirm : {C : Type 0} → ScriptChains C → Completer C → ℕ → Text → ProofSource → Shown → Type 0
ShowsConfirm known completer on id from = ShowsConnection known completer on (connection.OpenConfirm id from)

-- ---- channels

-- the proof of the end that a message names as the peer's
abbrev pub FindsEnd : {C : Type 0} → ScriptChains C → Completer C → ℕ → Text → Text → Text → ProofSource → Option Text → Type 0
FindsEnd known completer on port id peer_channel from =
    IsAnswerProof (findings known completer) on port id peer_channel from

-- ---- packets

-- the packet that a step names
abbrev pub IsSentPacket : {C : Type 0} → ScriptChains C → Completer C → SentPacket → Option Packet → Type 0
IsSentPacket known completer sent =
    (findings known completer).packet sent.chain sent.port sent.channel sent.sequence

-- the acknowledgement that a chain wrote for a packet
abbrev pub IsAckOf : {C : Type 0} → ScriptChains C → Completer C → ℕ → Packet → Option Text → Type 0
IsAckOf known completer chain p =
    (findings known completer).ack chain p.destination_port p.destination_channel p.sequence

-- the proof of a packet's commitment
abbrev pub IsCommitmentProof : {C : Type 0} → ScriptChains C → Completer C → ProofSource → Packet → Option Text → Type 0
IsCommitmentProof known completer from p = IsProofBytesAt (findings known completer) from (commitment_key p)

-- the proof of a packet's acknowledgement
abbrev pub IsAckProof : {C : Type 0} → ScriptChains C → Completer C → ProofSource → Packet → Option Text → Type 0
IsAckProof known completer from p = IsProofBytesAt (findings known completer) from (ack_key p)

-- the proof of the channel end that a packet is sent to
abbrev pub IsEndProof : {C : Type 0} → ScriptChains C → Completer C → ProofSource → Packet → Option Text → Type 0
IsEndProof known completer from p = IsProofBytesAt (findings known completer) from (destination_key p)

-- what shows that a packet was missed: that it wasn't received
abbrev pub IsMissed : {C : Type 0} → ScriptChains C → Completer C → ℕ → ProofSource → Packet → Option Unreceived → Type 0
IsMissed known completer on from p = IsUnreceivedAt (findings known completer) on from p

-- the message that handles the packet that a step names
abbrev pub MakesIfSent : {C : Type 0} → ScriptChains C → Completer C → SentPacket → ℕ → PacketAction → ProofSource → Option Message → Type 0
MakesIfSent known completer sent on handling from =
    MakesFromSentPacket (findings known completer) sent (MakesPacketAction (findings known completer) on handling from)
