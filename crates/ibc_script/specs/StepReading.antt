-- What a reader of steps finds in its step's object.
use Rattle.std.specs.Prelude.{ℕ, Bool, Option, Some, codes, List, [], ◌∷◌}
use Rattle.serde_json.specs.Data.{Data}
use Rattle.serde_json.specs.Find.{get}
use Rattle.serde_json.specs.View.{view}
use Rattle.serde_json.specs.declared.value.Value.{Value}
use Rattle.ibc_ids.specs.Names.{is_version}
use Rattle.ibc_ids.specs.Texts.{Text}
use Rattle.ibc_wire.specs.declared.messages.ChanOpenInit.{ChanOpenInit}
use Rattle.ibc_wire.specs.declared.records.Order.{Order}
use Rattle.ibc_script.specs.ScriptValues.{AreChains, AreFields, HasBeside, IsChain, IsDraft, IsName, IsPacket, IsStepObject, IsText, JsonField, application_name, opening_fields, order_name, sending_fields, sent_fields, source_fields, timeout_fields}
use Rattle.ibc_script.specs.declared.application.Application.{Application}
use Rattle.ibc_script.specs.declared.draft.ChannelDraft.{ChannelDraft}
use Rattle.ibc_script.specs.declared.draft.ClientDraft.{ClientDraft}
use Rattle.ibc_script.specs.declared.draft.ConnectionDraft.{ConnectionDraft}
use Rattle.ibc_script.specs.declared.draft.Draft.{Draft}
use Rattle.ibc_script.specs.declared.draft.Draft.TheVariants as draft
use Rattle.ibc_script.specs.declared.draft.PacketDraft.{PacketDraft}
use Rattle.ibc_script.specs.declared.draft.ProofSource.{ProofSource}
use Rattle.ibc_script.specs.declared.draft.SentPacket.{SentPacket}
use Rattle.ibc_script.specs.declared.reading.step_reader.StepReader.{StepReader}
use Rattle.ibc_script.specs.declared.reading.transfers.Sending.{Sending}
use Rattle.ibc_script.specs.declared.script.Step.{Step}
use Rattle.ibc_script.specs.declared.script.Step.TheVariants as step

-- what the object has under a name
abbrev pub member_at : StepReader → Text → Option Data
member_at reader name = get name (view reader.object.now)

-- the chain that the object names there
abbrev pub IsChainAt : StepReader → Text → ℕ → Type 0
IsChainAt reader name = λ chain. IsChain reader.names.now chain (member_at reader name)

-- the chain that an item of a list names
abbrev pub IsItemChain : StepReader → Value → ℕ → Type 0
IsItemChain reader item = λ chain. IsChain reader.names.now chain (Some (view item))

-- the two chains that the object names there
abbrev pub AreChainsAt : StepReader → Text → ℕ × ℕ → Type 0
AreChainsAt reader name = λ chains. AreChains reader.names.now chains.0 chains.1 (member_at reader name)

-- the order of a channel that the object names there
abbrev pub IsOrderAt : StepReader → Text → Order → Type 0
IsOrderAt reader name = λ order. IsText (order_name order) (member_at reader name)

-- the application that the object names there
abbrev pub IsApplicationAt : StepReader → Text → Application → Type 0
IsApplicationAt reader name = λ app. IsText (application_name app) (member_at reader name)

-- the object has a text of this form there
abbrev pub HasName : StepReader → Text → (Text → Bool) → Text → Type 0
HasName reader name form text = IsName form text (member_at reader name)

-- the packet that the object names
abbrev pub IsPacketIn : StepReader → SentPacket → Type 0
IsPacketIn reader = λ sent. IsPacket reader.names.now sent (member_at reader (codes "packet"))

-- the object has these members
abbrev pub HasFields : StepReader → List JsonField → Type 0
HasFields reader fields = AreFields fields (view reader.object.now)

-- the height from which the object's proofs are taken
abbrev pub IsSourceIn : StepReader → ProofSource → Type 0
IsSourceIn reader = λ from. HasFields reader (source_fields reader.names.now from)

-- the object names a packet and the height that proves it, and has no other members
abbrev pub IsProvedPacket : StepReader → SentPacket × ProofSource → Type 0
IsProvedPacket reader = λ r. HasBeside (sent_fields reader.names.now r.0 r.1) (view reader.object.now)

-- the timeouts that the object gives
abbrev pub HasTimeouts : StepReader → ℕ → ℕ → Type 0
HasTimeouts reader height time = HasFields reader (timeout_fields height time)

-- what transfers of one token and of several have in common
abbrev pub HasSending : StepReader → Sending → Type 0
HasSending reader =
    λ s. HasFields reader (sending_fields s.channel s.user s.receiver s.memo s.timeout_height s.timeout_time)

-- what the first two steps of a channel's handshake have in common
abbrev pub HasOpening : StepReader → ChanOpenInit → Type 0
HasOpening reader = λ m. HasFields reader (opening_fields m.port m.order m.connection m.peer_port)

-- the version that the object gives
abbrev pub HasVersion : StepReader → ChanOpenInit → Type 0
HasVersion reader = λ m. IsName is_version m.version (member_at reader (codes "version"))

-- the step that the object is
abbrev pub IsReadStep : StepReader → Step → Type 0
IsReadStep reader = λ s. IsStepObject reader.names.now s (Some (view reader.object.now))

-- the object is no step that sends a message
abbrev pub IsNoMessage : StepReader → Type 0
IsNoMessage reader = (on : ℕ) (d : Draft) → ¬ IsReadStep reader (step.Message on d)

-- the message of this name that the object is
abbrev pub IsDraftIn : StepReader → Text → Draft → Type 0
IsDraftIn reader name = IsDraft name reader.names.now (view reader.object.now)

-- the message for clients of this name that the object is
abbrev pub IsClientDraft : StepReader → Text → ClientDraft → Type 0
IsClientDraft reader name = λ d. IsDraft name reader.names.now (view reader.object.now) (draft.Client d)

-- the message for connections of this name that the object is
abbrev pub IsConnectionDraft : StepReader → Text → ConnectionDraft → Type 0
IsConnectionDraft reader name = λ d. IsDraft name reader.names.now (view reader.object.now) (draft.Connection d)

-- the message for channels of this name that the object is
abbrev pub IsChannelDraft : StepReader → Text → ChannelDraft → Type 0
IsChannelDraft reader name = λ d. IsDraft name reader.names.now (view reader.object.now) (draft.Channel d)

-- the message for packets of this name that the object is
abbrev pub IsPacketDraft : StepReader → Text → PacketDraft → Type 0
IsPacketDraft reader name = λ d. IsDraft name reader.names.now (view reader.object.now) (draft.Packet d)

-- the members of a step that handles a packet with a proof of its acknowledgement, or of its timeout
abbrev pub proved_packet_names : List Text
proved_packet_names = codes "do" ∷ codes "on" ∷ codes "packet" ∷ codes "from" ∷ codes "height" ∷ []
