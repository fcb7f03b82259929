-- What a script calls the members of its objects and the kinds of its steps.
use Rattle.std.specs.Prelude.{codes, List, [], ◌∷◌, Option, Some, None, if◌then◌else◌}
use Rattle.std.specs.Str.{bytes_eq}
use Rattle.ibc_ids.specs.Texts.{Text}
use Rattle.ibc_lab.specs.declared.member.Member.{Member}
use Rattle.ibc_lab.specs.declared.member.Member.TheVariants as member
use Rattle.ibc_lab.specs.declared.step_kind.StepKind.{StepKind}
use Rattle.ibc_lab.specs.declared.step_kind.StepKind.TheVariants as kind

abbrev pub member_name : Member → Text
member_name member.Amount = codes "amount"
member_name member.App = codes "app"
member_name member.Balances = codes "balances"
member_name member.Capacity = codes "capacity"
member_name member.Chains = codes "chains"
member_name member.Channel = codes "channel"
member_name member.Client = codes "client"
member_name member.Connection = codes "connection"
member_name member.Data = codes "data"
member_name member.Denom = codes "denom"
member_name member.Do = codes "do"
member_name member.From = codes "from"
member_name member.Height = codes "height"
member_name member.Memo = codes "memo"
member_name member.Name = codes "name"
member_name member.Of = codes "of"
member_name member.On = codes "on"
member_name member.Order = codes "order"
member_name member.Packet = codes "packet"
member_name member.Path = codes "path"
member_name member.PeerChannel = codes "peer_channel"
member_name member.PeerClient = codes "peer_client"
member_name member.PeerConnection = codes "peer_connection"
member_name member.PeerPort = codes "peer_port"
member_name member.Port = codes "port"
member_name member.Receiver = codes "receiver"
member_name member.Steps = codes "steps"
member_name member.Time = codes "time"
member_name member.TimeoutHeight = codes "timeout_height"
member_name member.TimeoutTime = codes "timeout_time"
member_name member.Tokens = codes "tokens"
member_name member.Turns = codes "turns"
member_name member.User = codes "user"
member_name member.Version = codes "version"
member_name member.Window = codes "window"

abbrev pub kind_name : StepKind → Text
kind_name kind.AckPacket = codes "AckPacket"
kind_name kind.Block = codes "Block"
kind_name kind.ChanCloseConfirm = codes "ChanCloseConfirm"
kind_name kind.ChanCloseInit = codes "ChanCloseInit"
kind_name kind.ChanOpenAck = codes "ChanOpenAck"
kind_name kind.ChanOpenConfirm = codes "ChanOpenConfirm"
kind_name kind.ChanOpenInit = codes "ChanOpenInit"
kind_name kind.ChanOpenTry = codes "ChanOpenTry"
kind_name kind.ConnOpenAck = codes "ConnOpenAck"
kind_name kind.ConnOpenConfirm = codes "ConnOpenConfirm"
kind_name kind.ConnOpenInit = codes "ConnOpenInit"
kind_name kind.ConnOpenTry = codes "ConnOpenTry"
kind_name kind.CreateClient = codes "CreateClient"
kind_name kind.Open = codes "open"
kind_name kind.Prove = codes "prove"
kind_name kind.RecvPacket = codes "RecvPacket"
kind_name kind.Relay = codes "relay"
kind_name kind.Root = codes "root"
kind_name kind.SendNote = codes "SendNote"
kind_name kind.Timeout = codes "Timeout"
kind_name kind.TimeoutOnClose = codes "TimeoutOnClose"
kind_name kind.Totals = codes "totals"
kind_name kind.Transfer = codes "Transfer"
kind_name kind.TransferMany = codes "TransferMany"
kind_name kind.UpdateClient = codes "UpdateClient"

abbrev pub all_kinds : List StepKind
all_kinds =
    kind.CreateClient ∷ kind.UpdateClient ∷ kind.ConnOpenInit ∷ kind.ConnOpenTry ∷ kind.ConnOpenAck ∷ kind.ConnOpenConfirm
    ∷ kind.ChanOpenInit ∷ kind.ChanOpenTry ∷ kind.ChanOpenAck ∷ kind.ChanOpenConfirm ∷ kind.ChanCloseInit ∷ kind.ChanCloseConfirm
    ∷ kind.Transfer ∷ kind.TransferMany ∷ kind.SendNote ∷ kind.RecvPacket ∷ kind.AckPacket ∷ kind.Timeout ∷ kind.TimeoutOnClose
    ∷ kind.Block ∷ kind.Open ∷ kind.Relay ∷ kind.Root ∷ kind.Totals ∷ kind.Prove ∷ []

-- the first of the kinds that has the name
abbrev pub first_named : Text → List StepKind → Option StepKind
first_named name [] = None
first_named name (k ∷ ks) = if bytes_eq (kind_name k) name then Some k else first_named name ks

-- the kind of steps that a text names
abbrev pub kind_of : Text → Option StepKind
kind_of name = first_named name all_kinds
