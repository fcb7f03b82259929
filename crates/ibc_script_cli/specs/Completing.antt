-- The messages that a script's steps become: the steps' own fields, and what the chains answer.
use Rattle.std.specs.Prelude.{◌≡◌, ◌⊎◌, ℕ, false, ◌==◌, if◌then◌else◌, List, length, Option, None, Some, option_map, option_and_then, replicate}
use Rattle.std.specs.Int.{w64, from_be_bytes}
use Rattle.ibc_ids.specs.Texts.{Text}
use Rattle.ibc_ids.specs.declared.key.Key.{Key}
use Rattle.ibc_ids.specs.declared.key.Key.TheVariants as key
use Rattle.ibc_machine.specs.ics04.Proving.{commitment_key, ack_key, receipt_key, next_recv_key, destination_key, recv_message, ack_message, timeout_message, timeout_on_close_message}
use Rattle.ibc_merkle.specs.declared.proof.Proof.{Proof}
use Rattle.ibc_merkle.specs.declared.proof.Proof.TheVariants.{Present, Absent}
use Rattle.ibc_wire.specs.Fields.{Field, Spells, have_form}
use Rattle.ibc_wire.specs.Spelling.{client_state_fields, connection_end_fields, channel_end_fields, proof_fields, proof_bytes}
use Rattle.ibc_wire.specs.declared.header.Header.{Header}
use Rattle.ibc_wire.specs.declared.messages.Message.{Message}
use Rattle.ibc_wire.specs.declared.messages.Message.TheVariants as message
use Rattle.ibc_wire.specs.declared.packet.Packet.{Packet}
use Rattle.ibc_wire.specs.declared.records.ClientState.{ClientState}
use Rattle.ibc_wire.specs.declared.records.ConnectionEnd.{ConnectionEnd}
use Rattle.ibc_wire.specs.declared.records.ChannelEnd.{ChannelEnd}
use Rattle.ibc_wire.specs.declared.records.Order.{Order}
use Rattle.ibc_wire.specs.declared.records.Order.TheVariants.{Unordered, Ordered}
use Rattle.ibc_script_cli.specs.ScriptChains.{ChainAnswers}
use Rattle.ibc_script_cli.specs.declared.chains.CommittedBlock.{CommittedBlock}
use Rattle.ibc_script_cli.specs.declared.completing.ClientClaim.{ClientClaim}
use Rattle.ibc_script_cli.specs.declared.completing.packets.PacketAction.{PacketAction}
use Rattle.ibc_script_cli.specs.declared.completing.packets.PacketAction.TheVariants as handling
use Rattle.ibc_script_cli.specs.declared.completing.packets.Unreceived.{Unreceived}
use Rattle.ibc_script.specs.declared.draft.ClientDraft.{ClientDraft}
use Rattle.ibc_script.specs.declared.draft.ClientDraft.TheVariants as client
use Rattle.ibc_script.specs.declared.draft.ConnectionDraft.{ConnectionDraft}
use Rattle.ibc_script.specs.declared.draft.ConnectionDraft.TheVariants as connection
use Rattle.ibc_script.specs.declared.draft.ChannelDraft.{ChannelDraft}
use Rattle.ibc_script.specs.declared.draft.ChannelDraft.TheVariants as channel
use Rattle.ibc_script.specs.declared.draft.PacketDraft.{PacketDraft}
use Rattle.ibc_script.specs.declared.draft.PacketDraft.TheVariants as packet
use Rattle.ibc_script.specs.declared.draft.SentPacket.{SentPacket}
use Rattle.ibc_script.specs.declared.draft.Draft.{Draft}
use Rattle.ibc_script.specs.declared.draft.Draft.TheVariants as draft
use Rattle.ibc_script.specs.declared.draft.ProofSource.{ProofSource}

-- ---- what stands

-- the record that bytes spell, none where there are none
abbrev pub IsRecord : {T : Type 0} → (T → List Field) → Option Text → Option T → Type 0
IsRecord fields None found = found ≡ None
IsRecord fields (Some bytes) None = ⊥
IsRecord fields (Some bytes) (Some found) = Spells (fields found) bytes

-- the record that a chain has at a key as it stands
abbrev pub Stands : {T : Type 0} → ChainAnswers → (T → List Field) → ℕ → Key → Option T → Type 0
Stands told fields on k found = (bytes : Option Text) × told.value on k bytes × IsRecord fields bytes found

abbrev pub IsClientOf : ChainAnswers → ℕ → Text → Option ClientState → Type 0
IsClientOf told on id = Stands told client_state_fields on (key.ClientState id)

abbrev pub IsConnectionOf : ChainAnswers → ℕ → Text → Option ConnectionEnd → Type 0
IsConnectionOf told on id = Stands told connection_end_fields on (key.Connection id)

abbrev pub IsChannelOf : ChainAnswers → ℕ → Text → Text → Option ChannelEnd → Type 0
IsChannelOf told on port id = Stands told channel_end_fields on (key.ChannelEnd port id)

-- ---- what is proved

-- the encoding of a proof that was found
abbrev pub IsEncoding : Option Proof → Option Text → Type 0
IsEncoding None bytes = bytes ≡ None
IsEncoding (Some proof) None = have_form (proof_fields proof) ≡ false
IsEncoding (Some proof) (Some bytes) = bytes ≡ proof_bytes proof

-- the encoding of the proof of a key
abbrev pub IsProofBytesAt : ChainAnswers → ProofSource → Key → Option Text → Type 0
IsProofBytesAt told from key bytes =
    (found : Option Proof) × told.proof from.chain from.height key found × IsEncoding found bytes

-- the same, none where there is no key
abbrev pub IsProofBytesOf : ChainAnswers → ProofSource → Option Key → Option Text → Type 0
IsProofBytesOf told from None bytes = bytes ≡ None
IsProofBytesOf told from (Some key) bytes = IsProofBytesAt told from key bytes

-- what a proof that was found shows of a client: its state, and the proof's encoding
abbrev pub IsClaim : Option Proof → Option ClientClaim → Type 0
IsClaim None claim = claim ≡ None
IsClaim (Some (Absent absence)) claim = claim ≡ None
IsClaim (Some (Present presence)) None =
    (have_form (proof_fields (Present presence)) ≡ false)
    ⊎ ((state : ClientState) → ¬ Spells (client_state_fields state) presence.value)
IsClaim (Some (Present presence)) (Some claim) =
    Spells (client_state_fields claim.state) presence.value × (claim.proof ≡ proof_bytes (Present presence))

-- what the proof of a client's state shows
abbrev pub IsClaimAt : ChainAnswers → ProofSource → Text → Option ClientClaim → Type 0
IsClaimAt told from id claim =
    (found : Option Proof) × told.proof from.chain from.height (key.ClientState id) found × IsClaim found claim

-- ---- messages for clients

-- the true header of a committed height, or one with time 0 and a zero root
abbrev pub header_from : ℕ → ℕ → Option CommittedBlock → Header
header_from chain height None = record { chain = chain; height = height; time = 0; root = replicate 32 0 }
header_from chain height (Some block) =
    record { chain = chain; height = height; time = block.time; root = block.root }

-- the header of an update: of the chain that the client tracks; where there is no client, an empty one of the own chain
abbrev pub IsHeader : ChainAnswers → ℕ → ℕ → Option ClientState → Header → Type 0
IsHeader told on height None header = header ≡ header_from on height None
IsHeader told on height (Some state) header =
    (found : Option CommittedBlock) × told.block state.chain height found × (header ≡ header_from state.chain height found)

abbrev pub MakesClientMessage : ChainAnswers → ℕ → ClientDraft → Message → Type 0
MakesClientMessage told on (client.Create of) made = made ≡ message.CreateClient (record { chain = of })
MakesClientMessage told on (client.Update id height) made =
    (state : Option ClientState) × (header : Header) × IsClientOf told on id state × IsHeader told on height state header
    × (made ≡ message.UpdateClient (record { client = id; header = header }))

-- ---- messages for connections

-- with the proof of the peer's end, and what is claimed of the peer's client; none where one that it needs isn't there
abbrev pub connection_message : ConnectionDraft → Option Text → Option ClientClaim → Option Message
connection_message (connection.OpenInit id peer_client) _ _ =
    Some (message.ConnOpenInit (record { client = id; peer_client = peer_client }))
connection_message (connection.OpenTry id peer_client peer_connection from) (Some proof_end) (Some claim) =
    Some (message.ConnOpenTry (record {
      client = id;
      peer_client = peer_client;
      peer_connection = peer_connection;
      claim = claim.state;
      height = from.height;
      proof_end = proof_end;
      proof_client = claim.proof;
    }))
connection_message (connection.OpenAck id peer_connection from) (Some proof_end) (Some claim) =
    Some (message.ConnOpenAck (record {
      connection = id;
      peer_connection = peer_connection;
      claim = claim.state;
      height = from.height;
      proof_end = proof_end;
      proof_client = claim.proof;
    }))
connection_message (connection.OpenConfirm id from) (Some proof) _ =
    Some (message.ConnOpenConfirm (record { connection = id; height = from.height; proof = proof }))
connection_message _ _ _ = None

-- the proof of the peer's connection, and what is claimed of its client
abbrev pub AreBothProofs : ChainAnswers → ProofSource → Text → Text → Option Text → Option ClientClaim → Type 0
AreBothProofs told from peer_connection peer_client proof_end claim =
    IsProofBytesAt told from (key.Connection peer_connection) proof_end × IsClaimAt told from peer_client claim

-- the same of the client that the own end names, none where there is no such end
abbrev pub AreProofsFor : ChainAnswers → ProofSource → Text → Option ConnectionEnd → Option Text → Option ClientClaim → Type 0
AreProofsFor told from peer_connection None proof_end claim = (proof_end ≡ None) × (claim ≡ None)
AreProofsFor told from peer_connection (Some own) proof_end claim =
    AreBothProofs told from peer_connection own.peer_client proof_end claim

-- the key of the connection that an own end names as the peer's
abbrev pub peer_connection_key : ConnectionEnd → Option Key
peer_connection_key own = option_map key.Connection own.peer_connection

-- what a step needs: an answer proves the connection and the client that it names, what opens a connection proves the
-- client that the own end names, and in the end the connection that the own end names
abbrev pub AreConnectionProofs : ChainAnswers → ℕ → ConnectionDraft → Option Text → Option ClientClaim → Type 0
AreConnectionProofs told on (connection.OpenInit id peer_client) proof_end claim = (proof_end ≡ None) × (claim ≡ None)
AreConnectionProofs told on (connection.OpenTry id peer_client peer_connection from) proof_end claim =
    AreBothProofs told from peer_connection peer_client proof_end claim
AreConnectionProofs told on (connection.OpenAck id peer_connection from) proof_end claim =
    (own : Option ConnectionEnd) × IsConnectionOf told on id own × AreProofsFor told from peer_connection own proof_end claim
AreConnectionProofs told on (connection.OpenConfirm id from) proof claim =
    (own : Option ConnectionEnd) × IsConnectionOf told on id own
    × IsProofBytesOf told from (option_and_then peer_connection_key own) proof × (claim ≡ None)

-- the message that a step becomes, none where something that it needs isn't there
abbrev pub MakesConnectionMessage : ChainAnswers → ℕ → ConnectionDraft → Option Message → Type 0
MakesConnectionMessage told on d made =
    (proof_end : Option Text) × (claim : Option ClientClaim) × AreConnectionProofs told on d proof_end claim
    × (made ≡ connection_message d proof_end claim)

-- ---- messages for channels

-- with the proof of the peer's end; none where one that it needs isn't there
abbrev pub channel_message : ChannelDraft → Option Text → Option Message
channel_message (channel.OpenInit m) _ = Some (message.ChanOpenInit m)
channel_message (channel.CloseInit m) _ = Some (message.ChanCloseInit m)
channel_message (channel.OpenTry d) (Some proof) =
    Some (message.ChanOpenTry (record {
      port = d.port;
      order = d.order;
      connection = d.connection;
      peer_port = d.peer_port;
      peer_channel = d.peer_channel;
      version = d.version;
      height = d.from.height;
      proof = proof;
    }))
channel_message (channel.OpenAck port id peer_channel from) (Some proof) =
    Some (message.ChanOpenAck (record {
      port = port;
      channel = id;
      peer_channel = peer_channel;
      height = from.height;
      proof = proof;
    }))
channel_message (channel.OpenConfirm port id from) (Some proof) =
    Some (message.ChanOpenConfirm (record { port = port; channel = id; height = from.height; proof = proof }))
channel_message (channel.CloseConfirm port id from) (Some proof) =
    Some (message.ChanCloseConfirm (record { port = port; channel = id; height = from.height; proof = proof }))
channel_message _ _ = None

-- the key of the end that an own end names as the peer's, none in state INIT
abbrev pub peer_key : ChannelEnd → Option Key
peer_key end = option_map (key.ChannelEnd end.peer_port) end.peer_channel

-- the key of the end of a channel that a message names, on the port that the own end names
abbrev pub answer_key : Text → ChannelEnd → Key
answer_key peer_channel end = key.ChannelEnd end.peer_port peer_channel

-- the proof of the end that the own end names as the peer's
abbrev pub IsPeerProof : ChainAnswers → ℕ → Text → Text → ProofSource → Option Text → Type 0
IsPeerProof told on port id from proof =
    (own : Option ChannelEnd) × IsChannelOf told on port id own × IsProofBytesOf told from (option_and_then peer_key own) proof

-- the proof of the end that a message names as the peer's
abbrev pub IsAnswerProof : ChainAnswers → ℕ → Text → Text → Text → ProofSource → Option Text → Type 0
IsAnswerProof told on port id peer_channel from proof =
    (own : Option ChannelEnd) × IsChannelOf told on port id own
    × IsProofBytesOf told from (option_map (answer_key peer_channel) own) proof

-- what a step needs
abbrev pub IsChannelProof : ChainAnswers → ℕ → ChannelDraft → Option Text → Type 0
IsChannelProof told on (channel.OpenInit m) proof = proof ≡ None
IsChannelProof told on (channel.OpenTry d) proof =
    IsProofBytesAt told d.from (key.ChannelEnd d.peer_port d.peer_channel) proof
IsChannelProof told on (channel.OpenAck port id peer_channel from) proof =
    IsAnswerProof told on port id peer_channel from proof
IsChannelProof told on (channel.OpenConfirm port id from) proof = IsPeerProof told on port id from proof
IsChannelProof told on (channel.CloseInit m) proof = proof ≡ None
IsChannelProof told on (channel.CloseConfirm port id from) proof = IsPeerProof told on port id from proof

-- the message that a step becomes, none where something that it needs isn't there
abbrev pub MakesChannelMessage : ChainAnswers → ℕ → ChannelDraft → Option Message → Type 0
MakesChannelMessage told on d made =
    (proof : Option Text) × IsChannelProof told on d proof × (made ≡ channel_message d proof)

-- ---- messages for packets

-- the number that 8 bytes are, big-endian
abbrev pub number_in : Text → Option ℕ
number_in bytes = if length bytes == 8 then Some (from_be_bytes w64 bytes) else None

-- what shows that a packet wasn't received: the sequence that is received next, and a proof's encoding
abbrev pub unreceived_proof : Option ℕ → Option Text → Option Unreceived
unreceived_proof (Some next_recv) (Some proof) = Some (record { next_recv = next_recv; proof = proof })
unreceived_proof _ _ = None

-- the sequence that a proof that was found shows, and the proof's encoding
abbrev pub IsNextRecv : Option Proof → Option Unreceived → Type 0
IsNextRecv None shown = shown ≡ None
IsNextRecv (Some (Absent absence)) shown = shown ≡ None
IsNextRecv (Some (Present presence)) shown =
    (proof : Option Text) × IsEncoding (Some (Present presence)) proof
    × (shown ≡ unreceived_proof (number_in presence.value) proof)

-- by the order of the own end: the sequence that is received next, or that there is no receipt
abbrev pub IsUnreceived : ChainAnswers → ProofSource → Packet → Order → Option Unreceived → Type 0
IsUnreceived told from p Ordered shown =
    (found : Option Proof) × told.proof from.chain from.height (next_recv_key p) found × IsNextRecv found shown
IsUnreceived told from p Unordered shown =
    (proof : Option Text) × IsProofBytesAt told from (receipt_key p) proof × (shown ≡ unreceived_proof (Some 0) proof)

-- the same, none where there is no own end
abbrev pub IsUnreceivedBy : ChainAnswers → ProofSource → Packet → Option ChannelEnd → Option Unreceived → Type 0
IsUnreceivedBy told from p None shown = shown ≡ None
IsUnreceivedBy told from p (Some own) shown = IsUnreceived told from p own.order shown

-- the own end is that of the packet's source, on the chain that is told
abbrev pub IsUnreceivedAt : ChainAnswers → ℕ → ProofSource → Packet → Option Unreceived → Type 0
IsUnreceivedAt told on from p shown =
    (own : Option ChannelEnd) × IsChannelOf told on p.source_port p.source_channel own × IsUnreceivedBy told from p own shown

-- the packet was committed
abbrev pub MakesRecv : ChainAnswers → ProofSource → Packet → Option Message → Type 0
MakesRecv told from p made =
    (proof : Option Text) × IsProofBytesAt told from (commitment_key p) proof
    × (made ≡ option_map (recv_message p from.height) proof)

abbrev pub acknowledged_message : Packet → ℕ → Option Text → Option Text → Option Message
acknowledged_message p height (Some ack) (Some proof) = Some (ack_message p height ack proof)
acknowledged_message p height _ _ = None

-- the acknowledgement is the one that was written, at whatever height
abbrev pub MakesAck : ChainAnswers → ProofSource → Packet → Option Message → Type 0
MakesAck told from p made =
    (ack : Option Text) × (proof : Option Text)
    × told.ack from.chain p.destination_port p.destination_channel p.sequence ack × IsProofBytesAt told from (ack_key p) proof
    × (made ≡ acknowledged_message p from.height ack proof)

abbrev pub MakesTimeout : ChainAnswers → ℕ → ProofSource → Packet → Option Message → Type 0
MakesTimeout told on from p made =
    (shown : Option Unreceived) × IsUnreceivedAt told on from p shown
    × (made ≡ option_map (λ (s : Unreceived). timeout_message p from.height s.next_recv s.proof) shown)

abbrev pub closed_message : Packet → ℕ → Option Unreceived → Option Text → Option Message
closed_message p height (Some shown) (Some proof_close) =
    Some (timeout_on_close_message p height shown.next_recv shown.proof proof_close)
closed_message p height _ _ = None

-- and the peer's end is proved, which is to be closed
abbrev pub MakesTimeoutOnClose : ChainAnswers → ℕ → ProofSource → Packet → Option Message → Type 0
MakesTimeoutOnClose told on from p made =
    (shown : Option Unreceived) × (proof_close : Option Text) × IsUnreceivedAt told on from p shown
    × IsProofBytesAt told from (destination_key p) proof_close × (made ≡ closed_message p from.height shown proof_close)

-- by what the message does with the packet
abbrev pub MakesPacketAction : ChainAnswers → ℕ → PacketAction → ProofSource → Packet → Option Message → Type 0
MakesPacketAction told on handling.Recv from = MakesRecv told from
MakesPacketAction told on handling.Ack from = MakesAck told from
MakesPacketAction told on handling.Timeout from = MakesTimeout told on from
MakesPacketAction told on handling.TimeoutOnClose from = MakesTimeoutOnClose told on from

-- where there is a packet
abbrev pub MakesIfFound : (Packet → Option Message → Type 0) → Option Packet → Option Message → Type 0
MakesIfFound makes None made = made ≡ None
MakesIfFound makes (Some p) made = makes p made

-- the packet is the one that the step names
abbrev pub MakesFromSentPacket : ChainAnswers → SentPacket → (Packet → Option Message → Type 0) → Option Message → Type 0
MakesFromSentPacket told sent makes made =
    (found : Option Packet) × told.packet sent.chain sent.port sent.channel sent.sequence found
    × MakesIfFound makes found made

-- the message that a step becomes, none where something that it needs isn't there; a packet is received with a proof
-- of the chain that sent it
abbrev pub MakesPacketMessage : ChainAnswers → ℕ → PacketDraft → Option Message → Type 0
MakesPacketMessage told on (packet.Transfer m) made = made ≡ Some (message.Transfer m)
MakesPacketMessage told on (packet.TransferMany m) made = made ≡ Some (message.TransferMany m)
MakesPacketMessage told on (packet.SendNote m) made = made ≡ Some (message.SendNote m)
MakesPacketMessage told on (packet.Recv sent height) made =
    MakesFromSentPacket told sent (MakesPacketAction told on handling.Recv (record { chain = sent.chain; height = height })) made
MakesPacketMessage told on (packet.Ack sent from) made = MakesFromSentPacket told sent (MakesPacketAction told on handling.Ack from) made
MakesPacketMessage told on (packet.Timeout sent from) made =
    MakesFromSentPacket told sent (MakesPacketAction told on handling.Timeout from) made
MakesPacketMessage told on (packet.TimeoutOnClose sent from) made =
    MakesFromSentPacket told sent (MakesPacketAction told on handling.TimeoutOnClose from) made

-- ---- all messages

-- the message that a step becomes, none where something that it needs isn't there
abbrev pub MakesMessage : ChainAnswers → ℕ → Draft → Option Message → Type 0
MakesMessage told on (draft.Client d) made = (sent : Message) × (made ≡ Some sent) × MakesClientMessage told on d sent
MakesMessage told on (draft.Connection d) made = MakesConnectionMessage told on d made
MakesMessage told on (draft.Channel d) made = MakesChannelMessage told on d made
MakesMessage told on (draft.Packet d) made = MakesPacketMessage told on d made
