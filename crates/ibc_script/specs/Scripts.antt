-- What a script's steps say of its chains, and where its values stand in JSON.
use Rattle.std.specs.Prelude.{◌≢◌, ℕ, ◌<◌, ◌≤◌, ⊤, Option}
use Rattle.std.specs.Option.{option_and_then}
use Rattle.std.proofs.Props.{props}
use Rattle.serde_json.specs.Data.{Data}
use Rattle.serde_json.specs.Find.{get, as_number, as_u64}
use Rattle.ibc_ids.specs.Texts.{Text}
use Rattle.ibc_script.specs.declared.draft.ClientDraft.{ClientDraft}
use Rattle.ibc_script.specs.declared.draft.ClientDraft.TheVariants as client
use Rattle.ibc_script.specs.declared.draft.ConnectionDraft.{ConnectionDraft}
use Rattle.ibc_script.specs.declared.draft.ConnectionDraft.TheVariants as connection
use Rattle.ibc_script.specs.declared.draft.ChannelDraft.{ChannelDraft}
use Rattle.ibc_script.specs.declared.draft.ChannelDraft.TheVariants as channel
use Rattle.ibc_script.specs.declared.draft.PacketDraft.{PacketDraft}
use Rattle.ibc_script.specs.declared.draft.PacketDraft.TheVariants as packet
use Rattle.ibc_script.specs.declared.draft.Draft.{Draft}
use Rattle.ibc_script.specs.declared.draft.Draft.TheVariants as draft
use Rattle.ibc_script.specs.declared.script.Step.{Step}
use Rattle.ibc_script.specs.declared.script.Step.TheVariants as step

-- the chains that a message of a step names are among so many
abbrev pub IsClientAmong : ℕ → ClientDraft → Type 0
IsClientAmong chains (client.Create of) = of < chains
IsClientAmong chains (client.Update id height) = ⊤

abbrev pub IsConnectionAmong : ℕ → ConnectionDraft → Type 0
IsConnectionAmong chains (connection.OpenInit id peer_client) = ⊤
IsConnectionAmong chains (connection.OpenTry id peer_client peer_connection from) = from.chain < chains
IsConnectionAmong chains (connection.OpenAck id peer_connection from) = from.chain < chains
IsConnectionAmong chains (connection.OpenConfirm id from) = from.chain < chains

abbrev pub IsChannelAmong : ℕ → ChannelDraft → Type 0
IsChannelAmong chains (channel.OpenInit m) = ⊤
IsChannelAmong chains (channel.OpenTry d) = d.from.chain < chains
IsChannelAmong chains (channel.OpenAck port id peer_channel from) = from.chain < chains
IsChannelAmong chains (channel.OpenConfirm port id from) = from.chain < chains
IsChannelAmong chains (channel.CloseInit m) = ⊤
IsChannelAmong chains (channel.CloseConfirm port id from) = from.chain < chains

abbrev pub IsPacketAmong : ℕ → PacketDraft → Type 0
IsPacketAmong chains (packet.Transfer m) = ⊤
IsPacketAmong chains (packet.TransferMany t) = ⊤
IsPacketAmong chains (packet.SendNote m) = ⊤
IsPacketAmong chains (packet.Recv sent height) = sent.chain < chains
IsPacketAmong chains (packet.Ack sent from) = (sent.chain < chains) × (from.chain < chains)
IsPacketAmong chains (packet.Timeout sent from) = (sent.chain < chains) × (from.chain < chains)
IsPacketAmong chains (packet.TimeoutOnClose sent from) = (sent.chain < chains) × (from.chain < chains)

abbrev pub IsDraftAmong : ℕ → Draft → Type 0
IsDraftAmong chains (draft.Client d) = IsClientAmong chains d
IsDraftAmong chains (draft.Connection d) = IsConnectionAmong chains d
IsDraftAmong chains (draft.Channel d) = IsChannelAmong chains d
IsDraftAmong chains (draft.Packet d) = IsPacketAmong chains d

-- the chains that a step names are among so many, and where it names two they differ; it relays for 1 to 1,000 turns
abbrev pub IsAmong : ℕ → Step → Type 0
IsAmong chains (step.Message on d) = (on < chains) × IsDraftAmong chains d
IsAmong chains (step.Block on time) = on < chains
IsAmong chains (step.Root on height) = on < chains
IsAmong chains (step.Prove on height key) = on < chains
IsAmong chains (step.Totals on id denom) = on < chains
IsAmong chains (step.Open first second app) = (first < chains) × (second < chains) × (first ≢ second)
IsAmong chains (step.Relay first second turns) =
    (first < chains) × (second < chains) × (first ≢ second) × (0 < turns) × (turns ≤ 1000)

pub IsProp-IsClientAmong : (chains : ℕ) (d : ClientDraft) → IsProp (IsClientAmong chains d)
IsProp-IsClientAmong chains (client.Create of) = hlevel props
IsProp-IsClientAmong chains (client.Update id height) = hlevel props

pub IsProp-IsConnectionAmong : (chains : ℕ) (d : ConnectionDraft) → IsProp (IsConnectionAmong chains d)
IsProp-IsConnectionAmong chains (connection.OpenInit id peer_client) = hlevel props
IsProp-IsConnectionAmong chains (connection.OpenTry id peer_client peer_connection from) = hlevel props
IsProp-IsConnectionAmong chains (connection.OpenAck id peer_connection from) = hlevel props
IsProp-IsConnectionAmong chains (connection.OpenConfirm id from) = hlevel props

pub IsProp-IsChannelAmong : (chains : ℕ) (d : ChannelDraft) → IsProp (IsChannelAmong chains d)
IsProp-IsChannelAmong chains (channel.OpenInit m) = hlevel props
IsProp-IsChannelAmong chains (channel.OpenTry d) = hlevel props
IsProp-IsChannelAmong chains (channel.OpenAck port id peer_channel from) = hlevel props
IsProp-IsChannelAmong chains (channel.OpenConfirm port id from) = hlevel props
IsProp-IsChannelAmong chains (channel.CloseInit m) = hlevel props
IsProp-IsChannelAmong chains (channel.CloseConfirm port id from) = hlevel props

pub IsProp-IsPacketAmong : (chains : ℕ) (d : PacketDraft) → IsProp (IsPacketAmong chains d)
IsProp-IsPacketAmong chains (packet.Transfer m) = hlevel props
IsProp-IsPacketAmong chains (packet.TransferMany t) = hlevel props
IsProp-IsPacketAmong chains (packet.SendNote m) = hlevel props
IsProp-IsPacketAmong chains (packet.Recv sent height) = hlevel props
IsProp-IsPacketAmong chains (packet.Ack sent from) = hlevel props
IsProp-IsPacketAmong chains (packet.Timeout sent from) = hlevel props
IsProp-IsPacketAmong chains (packet.TimeoutOnClose sent from) = hlevel props

pub IsProp-IsDraftAmong : (chains : ℕ) (d : Draft) → IsProp (IsDraftAmong chains d)
IsProp-IsDraftAmong chains (draft.Client d) = IsProp-IsClientAmong chains d
IsProp-IsDraftAmong chains (draft.Connection d) = IsProp-IsConnectionAmong chains d
IsProp-IsDraftAmong chains (draft.Channel d) = IsProp-IsChannelAmong chains d
IsProp-IsDraftAmong chains (draft.Packet d) = IsProp-IsPacketAmong chains d

pub IsProp-IsAmong : (chains : ℕ) (s : Step) → IsProp (IsAmong chains s)
IsProp-IsAmong chains (step.Message on d) = hlevel (props, IsProp-IsDraftAmong)
IsProp-IsAmong chains (step.Block on time) = hlevel props
IsProp-IsAmong chains (step.Root on height) = hlevel props
IsProp-IsAmong chains (step.Prove on height key) = hlevel props
IsProp-IsAmong chains (step.Totals on id denom) = hlevel props
IsProp-IsAmong chains (step.Open first second app) = hlevel props
IsProp-IsAmong chains (step.Relay first second turns) = hlevel props

-- the number below 2^64 that a member is
abbrev pub number_at : Text → Data → Option ℕ
number_at name value = option_and_then as_u64 (option_and_then as_number (get name value))
