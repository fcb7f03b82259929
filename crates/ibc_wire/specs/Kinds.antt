-- The kinds of messages: their tags, and the names by which printed lines call them.
use Rattle.std.specs.Prelude.{ℕ, zero, suc, codes, List, [], ◌∷◌, slice_get, Option, None}
use Rattle.ibc_ids.specs.Texts.{Text}
use Rattle.ibc_wire.specs.declared.messages.Message.{Message}
use Rattle.ibc_wire.specs.declared.messages.Message.TheVariants as message
use Rattle.ibc_wire.specs.declared.messages.MessageKind.{MessageKind}
use Rattle.ibc_wire.specs.declared.messages.MessageKind.TheVariants as kind

abbrev pub kind_of : Message → MessageKind
kind_of (message.CreateClient m) = kind.CreateClient
kind_of (message.UpdateClient m) = kind.UpdateClient
kind_of (message.ConnOpenInit m) = kind.ConnOpenInit
kind_of (message.ConnOpenTry m) = kind.ConnOpenTry
kind_of (message.ConnOpenAck m) = kind.ConnOpenAck
kind_of (message.ConnOpenConfirm m) = kind.ConnOpenConfirm
kind_of (message.ChanOpenInit m) = kind.ChanOpenInit
kind_of (message.ChanOpenTry m) = kind.ChanOpenTry
kind_of (message.ChanOpenAck m) = kind.ChanOpenAck
kind_of (message.ChanOpenConfirm m) = kind.ChanOpenConfirm
kind_of (message.ChanCloseInit m) = kind.ChanCloseInit
kind_of (message.ChanCloseConfirm m) = kind.ChanCloseConfirm
kind_of (message.Transfer m) = kind.Transfer
kind_of (message.SendNote m) = kind.SendNote
kind_of (message.RecvPacket m) = kind.RecvPacket
kind_of (message.AckPacket m) = kind.AckPacket
kind_of (message.Timeout m) = kind.Timeout
kind_of (message.TimeoutOnClose m) = kind.TimeoutOnClose
kind_of (message.TransferMany m) = kind.TransferMany

-- the kinds in the order of their tags
abbrev pub kinds : List MessageKind
kinds = kind.CreateClient ∷ kind.UpdateClient ∷ kind.ConnOpenInit ∷ kind.ConnOpenTry ∷ kind.ConnOpenAck ∷ kind.ConnOpenConfirm ∷ kind.ChanOpenInit ∷ kind.ChanOpenTry ∷ kind.ChanOpenAck ∷ kind.ChanOpenConfirm ∷ kind.ChanCloseInit ∷ kind.ChanCloseConfirm ∷ kind.Transfer ∷ kind.SendNote ∷ kind.RecvPacket ∷ kind.AckPacket ∷ kind.Timeout ∷ kind.TimeoutOnClose ∷ kind.TransferMany ∷ []

-- the tag with which a spelling begins
abbrev pub tag_of : MessageKind → ℕ
tag_of kind.CreateClient = 1
tag_of kind.UpdateClient = 2
tag_of kind.ConnOpenInit = 3
tag_of kind.ConnOpenTry = 4
tag_of kind.ConnOpenAck = 5
tag_of kind.ConnOpenConfirm = 6
tag_of kind.ChanOpenInit = 7
tag_of kind.ChanOpenTry = 8
tag_of kind.ChanOpenAck = 9
tag_of kind.ChanOpenConfirm = 10
tag_of kind.ChanCloseInit = 11
tag_of kind.ChanCloseConfirm = 12
tag_of kind.Transfer = 13
tag_of kind.SendNote = 14
tag_of kind.RecvPacket = 15
tag_of kind.AckPacket = 16
tag_of kind.Timeout = 17
tag_of kind.TimeoutOnClose = 18
tag_of kind.TransferMany = 19

abbrev pub kind_of_tag : ℕ → Option MessageKind
kind_of_tag zero = None
kind_of_tag (suc n) = slice_get kinds n

abbrev pub name_of : MessageKind → Text
name_of kind.CreateClient = codes "CreateClient"
name_of kind.UpdateClient = codes "UpdateClient"
name_of kind.ConnOpenInit = codes "ConnOpenInit"
name_of kind.ConnOpenTry = codes "ConnOpenTry"
name_of kind.ConnOpenAck = codes "ConnOpenAck"
name_of kind.ConnOpenConfirm = codes "ConnOpenConfirm"
name_of kind.ChanOpenInit = codes "ChanOpenInit"
name_of kind.ChanOpenTry = codes "ChanOpenTry"
name_of kind.ChanOpenAck = codes "ChanOpenAck"
name_of kind.ChanOpenConfirm = codes "ChanOpenConfirm"
name_of kind.ChanCloseInit = codes "ChanCloseInit"
name_of kind.ChanCloseConfirm = codes "ChanCloseConfirm"
name_of kind.Transfer = codes "Transfer"
name_of kind.SendNote = codes "SendNote"
name_of kind.RecvPacket = codes "RecvPacket"
name_of kind.AckPacket = codes "AckPacket"
name_of kind.Timeout = codes "Timeout"
name_of kind.TimeoutOnClose = codes "TimeoutOnClose"
name_of kind.TransferMany = codes "TransferMany"
