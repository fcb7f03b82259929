-- A ledger may go to another thread. The check shows it of a type by its fields' types, but not where a `Snapshot` is among
-- them, as in a ledger and its entries: so it is shown here, from the ledger's entries up to what a handle holds.
use denote.RattleType.{RattleType}
use denote.Param.Send.{IsSend, view_send, sendable}
use denote.Param.SendFields.{declared_send, variants_send}
use Rattle.std.proofs.Crossing.{crosses}
use Rattle.ibc_ids.proofs.name.Name.TheSendSync as name
use Rattle.ibc_ids.specs.contracts.kinds.ChannelKind as ChannelKind
use Rattle.ibc_ids.specs.contracts.kinds.ChannelKindNameKind.TheImpl as channel
use Rattle.ibc_ids.specs.contracts.kinds.DenomKind as DenomKind
use Rattle.ibc_ids.specs.contracts.kinds.DenomKindNameKind.TheImpl as denom
use Rattle.ibc_ids.specs.contracts.name.Name as Name
use Rattle.ibc_machine.proofs.entry.Entry.TheSendSync as entry
use Rattle.ibc_root_table.proofs.table.RootTable.TheSendSync as root_table
use Rattle.ibc_root_table.proofs.table.Pass.TheSendSync as pass
use Rattle.ibc_ledger.proofs.host_state.HostState.TheSendSync as node
use Rattle.ibc_ledger.specs.contracts.entry.StampedEntry as StampedEntry
use Rattle.ibc_ledger.specs.contracts.ledger.Ledger as Ledger
use Rattle.ibc_ledger.specs.contracts.ledger.Ledger.TheInside as InLedger
use Rattle.ibc_ledger.proofs.places.SentPackets.TheSendSync as sent
use Rattle.ibc_ledger.proofs.view.View.TheSendSync as view
use Rattle.ibc_machine.proofs.genesis.Genesis.TheSendSync as genesis
use Rattle.ibc_wire.proofs.messages.Message.TheSendSync as message
use Rattle.ibc_ids.proofs.account.Account.TheSendSync as account
use Rattle.ibc_ids.proofs.bytes.Bytes.TheSendSync as bytes
use Rattle.ibc_handle.specs.contracts.handle_value.WorldLedger as WorldLedger
use Rattle.ibc_handle.specs.contracts.handle_value.HandleValue as Held
use Rattle.ibc_handle.specs.contracts.ledgers.WorldLedgers as Ledgers
use Rattle.ibc_handle.specs.contracts.ledgers.WorldLedgers.TheInside as InLedgers
use Rattle.ibc_world_core.specs.contracts.holdings.Audit as Audit

entry_send : IsSend StampedEntry.the_row
entry_send = declared_send StampedEntry.the_type (entry.the_send, (search (sendable, crosses) depth 20, tt))

abbrev Channel : RattleType
Channel = Name.the_row ChannelKind.the_row channel.ghosts

channel_send : IsSend Channel
channel_send = name.the_send ChannelKind.the_row channel.ghosts

ledger_send : IsSend Ledger.the_row
ledger_send =
    let inside : IsSend InLedger.the_row = declared_send InLedger.the_type (search (sendable, crosses), (node.the_send, (search sendable, (search (sendable, crosses, root_table.the_send, root_table.the_sync) depth 20, (pass.the_send, (search (sendable, crosses, entry_send) depth 20, (sent.the_send, tt))))))) in
    view_send _ _ _ _ _ inside

abbrev Denom : RattleType
Denom = Name.the_row DenomKind.the_row denom.ghosts

member_send : IsSend WorldLedger.the_row
member_send = declared_send WorldLedger.the_type (search sendable, (ledger_send, tt))

denom_send : IsSend Denom
denom_send = name.the_send DenomKind.the_row denom.ghosts

ledgers_send : IsSend Ledgers.the_row
ledgers_send =
    let inside : IsSend InLedgers.the_row = declared_send InLedgers.the_type (search sendable, (search (sendable, crosses, ledger_send) depth 20, tt)) in
    view_send _ _ _ _ _ inside

audit_send : IsSend Audit.the_row
audit_send = declared_send Audit.the_type (search (sendable, crosses, account.the_send, denom_send) depth 20, (search (sendable, crosses, bytes.the_send, channel_send) depth 20, tt))

pub held_send : IsSend Held.the_row
held_send = variants_send Held.enum (
  (genesis.the_send, tt),
  (
    (ledgers_send, tt),
    (
      (member_send, tt),
      (
        (search (sendable, crosses, view.the_send, view.the_sync) depth 20, tt),
        (
          (search (sendable, crosses, message.the_send) depth 20, tt),
          (
            (search (sendable, crosses, account.the_send, denom_send) depth 20, tt),
            ((search (sendable, crosses, bytes.the_send, channel_send) depth 20, tt), ((audit_send, tt), ((search (sendable, crosses, entry.the_send) depth 20, tt), tt))),
          ),
        ),
      ),
    ),
  ),
)
