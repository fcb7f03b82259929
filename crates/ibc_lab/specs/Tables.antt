-- What the objects of a script have to have, as tables: each member, and what it has to be.
use Rattle.std.specs.Prelude.{true, false, List, [], ◌∷◌}
use Rattle.ibc_lab.specs.declared.leaf.Leaf.TheVariants as leaf
use Rattle.ibc_lab.specs.declared.member.Member.{Member}
use Rattle.ibc_lab.specs.declared.member.Member.TheVariants as member
use Rattle.ibc_lab.specs.declared.owed.MemberForm.{MemberForm}
use Rattle.ibc_lab.specs.declared.owed.MemberForm.TheVariants as form
use Rattle.ibc_lab.specs.declared.owed.Owed.{Owed}
use Rattle.ibc_lab.specs.declared.step_kind.StepKind.{StepKind}
use Rattle.ibc_lab.specs.declared.step_kind.StepKind.TheVariants as kind
use Rattle.ibc_lab.specs.declared.text_form.TextForm.TheVariants as text

-- a member that has to be there, and one that may be left out
abbrev pub must : Member → MemberForm → Owed
must name has = record { member = name; form = has; optional = false }

abbrev pub may : Member → MemberForm → Owed
may name has = record { member = name; form = has; optional = true }

abbrev pub amount_owed : Owed
amount_owed = must member.Amount (form.Leaf (leaf.Text text.Amount))

abbrev pub app_owed : Owed
app_owed = must member.App (form.Leaf (leaf.Text text.Application))

abbrev pub balances_owed : Owed
balances_owed = must member.Balances form.Balances

abbrev pub block_time_owed : Owed
block_time_owed = may member.Time (form.Leaf (leaf.Number 0 18446744073709551615))

abbrev pub capacity_owed : Owed
capacity_owed = must member.Capacity (form.Leaf (leaf.Number 1 1000000))

abbrev pub chains_owed : Owed
chains_owed = must member.Chains (form.Leaf (leaf.List 2 8))

abbrev pub channel_owed : Owed
channel_owed = must member.Channel (form.Leaf (leaf.Text text.Channel))

abbrev pub client_owed : Owed
client_owed = must member.Client (form.Leaf (leaf.Text text.Client))

abbrev pub connection_owed : Owed
connection_owed = must member.Connection (form.Leaf (leaf.Text text.Connection))

abbrev pub data_owed : Owed
data_owed = must member.Data (form.Leaf leaf.Base64)

abbrev pub denom_owed : Owed
denom_owed = must member.Denom (form.Leaf (leaf.Text text.Denom))

abbrev pub kind_owed : Owed
kind_owed = must member.Do (form.Leaf (leaf.Text text.Kind))

abbrev pub from_owed : Owed
from_owed = must member.From (form.Leaf leaf.Known)

abbrev pub height_owed : Owed
height_owed = must member.Height (form.Leaf (leaf.Number 0 18446744073709551615))

abbrev pub memo_owed : Owed
memo_owed = may member.Memo (form.Leaf (leaf.Text text.Memo))

abbrev pub name_owed : Owed
name_owed = must member.Name (form.Leaf (leaf.Text text.Chain))

abbrev pub of_owed : Owed
of_owed = must member.Of (form.Leaf leaf.Known)

abbrev pub on_owed : Owed
on_owed = must member.On (form.Leaf leaf.Known)

abbrev pub order_owed : Owed
order_owed = must member.Order (form.Leaf (leaf.Text text.Order))

abbrev pub packet_owed : Owed
packet_owed = must member.Packet form.Packet

abbrev pub pair_owed : Owed
pair_owed = must member.Chains form.Pair

abbrev pub path_owed : Owed
path_owed = must member.Path (form.Leaf (leaf.Text text.Path))

abbrev pub peer_channel_owed : Owed
peer_channel_owed = must member.PeerChannel (form.Leaf (leaf.Text text.Channel))

abbrev pub peer_client_owed : Owed
peer_client_owed = must member.PeerClient (form.Leaf (leaf.Text text.Client))

abbrev pub peer_connection_owed : Owed
peer_connection_owed = must member.PeerConnection (form.Leaf (leaf.Text text.Connection))

abbrev pub peer_port_owed : Owed
peer_port_owed = must member.PeerPort (form.Leaf (leaf.Text text.Port))

abbrev pub port_owed : Owed
port_owed = must member.Port (form.Leaf (leaf.Text text.Port))

abbrev pub receiver_owed : Owed
receiver_owed = must member.Receiver (form.Leaf (leaf.Text text.Receiver))

abbrev pub steps_owed : Owed
steps_owed = must member.Steps (form.Leaf (leaf.List 0 10000))

abbrev pub time_owed : Owed
time_owed = must member.Time (form.Leaf (leaf.Number 0 18446744073709551615))

abbrev pub timeout_height_owed : Owed
timeout_height_owed = must member.TimeoutHeight (form.Leaf (leaf.Number 0 18446744073709551615))

abbrev pub timeout_time_owed : Owed
timeout_time_owed = must member.TimeoutTime (form.Leaf (leaf.Number 0 18446744073709551615))

abbrev pub tokens_owed : Owed
tokens_owed = must member.Tokens form.Tokens

abbrev pub turns_owed : Owed
turns_owed = must member.Turns (form.Leaf (leaf.Number 1 1000))

abbrev pub user_owed : Owed
user_owed = must member.User (form.Leaf (leaf.Text text.User))

abbrev pub version_owed : Owed
version_owed = must member.Version (form.Leaf (leaf.Text text.Version))

abbrev pub window_owed : Owed
window_owed = may member.Window (form.Leaf (leaf.Number 1 4096))

-- what a script has
abbrev pub script_owes : List Owed
script_owes = capacity_owed ∷ window_owed ∷ chains_owed ∷ steps_owed ∷ []

-- what a chain of a script has
abbrev pub chain_owes : List Owed
chain_owes = name_owed ∷ time_owed ∷ balances_owed ∷ []

-- what a step of a kind has
abbrev pub step_owes : StepKind → List Owed
step_owes kind.AckPacket = kind_owed ∷ on_owed ∷ packet_owed ∷ from_owed ∷ height_owed ∷ []
step_owes kind.Block = kind_owed ∷ on_owed ∷ block_time_owed ∷ []
step_owes kind.ChanCloseConfirm = kind_owed ∷ on_owed ∷ port_owed ∷ channel_owed ∷ from_owed ∷ height_owed ∷ []
step_owes kind.ChanCloseInit = kind_owed ∷ on_owed ∷ port_owed ∷ channel_owed ∷ []
step_owes kind.ChanOpenAck = kind_owed ∷ on_owed ∷ port_owed ∷ channel_owed ∷ peer_channel_owed ∷ from_owed ∷ height_owed ∷ []
step_owes kind.ChanOpenConfirm = kind_owed ∷ on_owed ∷ port_owed ∷ channel_owed ∷ from_owed ∷ height_owed ∷ []
step_owes kind.ChanOpenInit = kind_owed ∷ on_owed ∷ port_owed ∷ order_owed ∷ connection_owed ∷ peer_port_owed ∷ version_owed ∷ []
step_owes kind.ChanOpenTry = kind_owed ∷ on_owed ∷ port_owed ∷ order_owed ∷ connection_owed ∷ peer_port_owed ∷ peer_channel_owed ∷ version_owed ∷ from_owed ∷ height_owed ∷ []
step_owes kind.ConnOpenAck = kind_owed ∷ on_owed ∷ connection_owed ∷ peer_connection_owed ∷ from_owed ∷ height_owed ∷ []
step_owes kind.ConnOpenConfirm = kind_owed ∷ on_owed ∷ connection_owed ∷ from_owed ∷ height_owed ∷ []
step_owes kind.ConnOpenInit = kind_owed ∷ on_owed ∷ client_owed ∷ peer_client_owed ∷ []
step_owes kind.ConnOpenTry = kind_owed ∷ on_owed ∷ client_owed ∷ peer_client_owed ∷ peer_connection_owed ∷ from_owed ∷ height_owed ∷ []
step_owes kind.CreateClient = kind_owed ∷ on_owed ∷ of_owed ∷ []
step_owes kind.Open = kind_owed ∷ pair_owed ∷ app_owed ∷ []
step_owes kind.Prove = kind_owed ∷ on_owed ∷ height_owed ∷ path_owed ∷ []
step_owes kind.RecvPacket = kind_owed ∷ on_owed ∷ packet_owed ∷ height_owed ∷ []
step_owes kind.Relay = kind_owed ∷ pair_owed ∷ turns_owed ∷ []
step_owes kind.Root = kind_owed ∷ on_owed ∷ height_owed ∷ []
step_owes kind.SendNote = kind_owed ∷ on_owed ∷ channel_owed ∷ data_owed ∷ timeout_height_owed ∷ timeout_time_owed ∷ []
step_owes kind.Timeout = kind_owed ∷ on_owed ∷ packet_owed ∷ from_owed ∷ height_owed ∷ []
step_owes kind.TimeoutOnClose = kind_owed ∷ on_owed ∷ packet_owed ∷ from_owed ∷ height_owed ∷ []
step_owes kind.Totals = kind_owed ∷ on_owed ∷ channel_owed ∷ denom_owed ∷ []
step_owes kind.Transfer = kind_owed ∷ on_owed ∷ channel_owed ∷ user_owed ∷ denom_owed ∷ amount_owed ∷ receiver_owed ∷ memo_owed ∷ timeout_height_owed ∷ timeout_time_owed ∷ []
step_owes kind.TransferMany = kind_owed ∷ on_owed ∷ channel_owed ∷ user_owed ∷ tokens_owed ∷ receiver_owed ∷ memo_owed ∷ timeout_height_owed ∷ timeout_time_owed ∷ []
step_owes kind.UpdateClient = kind_owed ∷ on_owed ∷ client_owed ∷ height_owed ∷ []
