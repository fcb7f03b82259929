-- Which messages are of the core: what applications keep has no part in them.
use Rattle.std.specs.Prelude.{⊤}
use Rattle.ibc_wire.specs.declared.messages.Message.{Message}
use Rattle.ibc_wire.specs.declared.messages.Message.TheVariants as message

-- not one of the messages in which tokens are sent or an application takes a packet
abbrev pub IsOfCore : Message → Type 0
IsOfCore (message.Transfer m) = ⊥
IsOfCore (message.TransferMany m) = ⊥
IsOfCore (message.RecvPacket m) = ⊥
IsOfCore (message.AckPacket m) = ⊥
IsOfCore (message.Timeout m) = ⊥
IsOfCore (message.TimeoutOnClose m) = ⊥
IsOfCore m = ⊤
