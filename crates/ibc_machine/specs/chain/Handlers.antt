-- What a chain does with a message, and at the end of a block (ICS 24, "Host environment").
use Rattle.std.specs.Prelude.{ℕ, ◌+◌, nat_lt, nat_le, [], ◌∷◌, ◌++◌, length, ⊤, Ok, Err}
use Rattle.ibc_ids.specs.declared.refusal.Refusal.TheVariants.{TimeBack, TableFull}
use Rattle.ibc_wire.specs.declared.messages.Message.{Message}
use Rattle.ibc_wire.specs.declared.messages.Message.TheVariants as message
use Rattle.ibc_machine.specs.declared.reply.Effect.{Effect}
use Rattle.ibc_machine.specs.declared.reply.Effect.TheVariants as effect
use Rattle.ibc_machine.specs.declared.reply.Reply.{Reply}
use Rattle.ibc_machine.specs.declared.reply.Reply.TheVariants as reply
use Rattle.ibc_machine.specs.chain.Records.{Core, Apps, MachineChain}
use Rattle.ibc_machine.specs.ics24.Image.{core_root}
use Rattle.ibc_machine.specs.chain.Checks.{Checked, require, ◌>>=◌, ◌>>◌}
use Rattle.ibc_machine.specs.ics24.Evidence.{Host, Evidence, Handler, core_handler}
use Rattle.ibc_machine.specs.ics02.Clients.{create_client, update_client}
use Rattle.ibc_machine.specs.ics03.Connections.{conn_open_init, conn_open_try, conn_open_ack, conn_open_confirm}
use Rattle.ibc_machine.specs.ics04.Channels.{chan_open_init, chan_open_try, chan_open_ack, chan_open_confirm, chan_close_init, chan_close_confirm}
use Rattle.ibc_machine.specs.ics04.Packets.{recv_packet, ack_packet, timeout, timeout_on_close}
use Rattle.ibc_machine.specs.ics20.Transfers.{transfer, transfer_many}
use Rattle.ibc_machine.specs.chain.Notes.{send_note}
use Rattle.ibc_machine.specs.ics20.Bank.{Balances}
use Rattle.ibc_machine.specs.chain.Applications.{require_application, on_open, on_close, with_balances, on_recv, on_ack, on_timeout}

-- ---- messages

-- a handler of balances leaves what else applications keep
abbrev pub on_balances : Handler Balances → Handler Apps
on_balances handler evidence host core apps =
    handler evidence host core apps.balances
    >>= λ ((effect, after, balances) : Effect × Core × Balances). Ok (effect, after, with_balances apps balances)

-- the effect of a message with the records after it, or the first refusal
unfoldable pub handle : Message → Handler Apps
handle (message.CreateClient m) = core_handler (create_client m)
handle (message.UpdateClient m) = core_handler (update_client m)
handle (message.ConnOpenInit m) = core_handler (conn_open_init m)
handle (message.ConnOpenTry m) = core_handler (conn_open_try m)
handle (message.ConnOpenAck m) = core_handler (conn_open_ack m)
handle (message.ConnOpenConfirm m) = core_handler (conn_open_confirm m)
handle (message.ChanOpenInit m) = core_handler (chan_open_init (require_application m.port) (on_open m.port) m)
handle (message.ChanOpenTry m) = core_handler (chan_open_try (require_application m.port) (on_open m.port) m)
handle (message.ChanOpenAck m) = core_handler (chan_open_ack m)
handle (message.ChanOpenConfirm m) = core_handler (chan_open_confirm m)
handle (message.ChanCloseInit m) = core_handler (chan_close_init (on_close m.port) m)
handle (message.ChanCloseConfirm m) = core_handler (chan_close_confirm m)
handle (message.Transfer m) = on_balances (transfer m)
handle (message.TransferMany m) = on_balances (transfer_many m)
handle (message.SendNote m) = core_handler (send_note m)
handle (message.RecvPacket m) = λ evidence host core.
    recv_packet (on_recv core m.packet.destination_port) m evidence host core
handle (message.AckPacket m) = ack_packet (on_ack m.packet.source_port) m
handle (message.Timeout m) = timeout (on_timeout m.packet.source_port) m
handle (message.TimeoutOnClose m) = timeout_on_close (on_timeout m.packet.source_port) m

-- the height of the working block
abbrev pub working_height : MachineChain → ℕ
working_height chain = length chain.committed + 1

-- chain number k of so many
abbrev pub host_of : ℕ → ℕ → MachineChain → Host
host_of chains k chain =
    record { chain = k; chains = chains; height = working_height chain; time = chain.time }

-- the reply, and the chain after it: a refusal leaves all as it was
abbrev pub after_message : MachineChain → Checked (Effect × Core × Apps) → Reply × MachineChain
after_message chain (Ok (effect, core, apps)) =
    (reply.Ok effect, record chain { records = record { core = core; apps = apps } })
after_message chain (Err refusal) = (reply.No refusal, chain)

-- chain number k of so many is sent a message
abbrev pub message_answer : Evidence → ℕ → ℕ → MachineChain → Message → Reply × MachineChain
message_answer evidence chains k chain m =
    after_message chain (handle m evidence (host_of chains k chain) chain.records.core chain.records.apps)

-- ---- blocks

-- the working block joins the committed ones, and the next begins
abbrev pub chain_after_commit : MachineChain → ℕ → Reply × MachineChain
chain_after_commit chain next_time = (
  reply.Ok (effect.Block (working_height chain) (core_root chain.records.core)),
  record {
    records = chain.records;
    time = next_time;
    committed = chain.committed ++ record { records = chain.records; time = chain.time } ∷ [];
  },
)

-- the time doesn't go back, and the chain may publish one more height
abbrev pub may_commit : ℕ → MachineChain → ℕ → Checked ⊤
may_commit capacity chain next_time = do
  require (nat_le chain.time next_time) TimeBack
  require (nat_lt (length chain.committed) capacity) TableFull
  Ok tt

abbrev pub after_block : MachineChain → ℕ → Checked ⊤ → Reply × MachineChain
after_block chain next_time (Ok allowed) = chain_after_commit chain next_time
after_block chain next_time (Err refusal) = (reply.No refusal, chain)

-- the working block of a chain is ended
abbrev pub block_answer : ℕ → MachineChain → ℕ → Reply × MachineChain
block_answer capacity chain next_time = after_block chain next_time (may_commit capacity chain next_time)
