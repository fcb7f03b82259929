-- A chain may be shared by threads. The check shows it of a type by its fields' types, but not where a `Snapshot` is among
-- them, as in a ledger and its entries: so it is shown here, from the ledger's entries up.
use denote.RattleType.{RattleType}
use denote.Param.Send.{IsSend, IsSync, view_send, sendable}
use denote.Param.SendFields.{declared_send}
use Rattle.std.proofs.Crossing.{crosses}
use Rattle.ibc_machine.proofs.entry.Entry.TheSendSync as entry
use Rattle.ibc_root_table.proofs.table.RootTable.TheSendSync as root_table
use Rattle.ibc_root_table.proofs.table.Pass.TheSendSync as pass
use Rattle.ibc_ledger.proofs.host_state.HostState.TheSendSync as node
use Rattle.ibc_ledger.specs.contracts.entry.StampedEntry as StampedEntry
use Rattle.ibc_ledger.specs.contracts.ledger.Ledger as Ledger
use Rattle.ibc_ledger.specs.contracts.ledger.Ledger.TheInside as InLedger
use Rattle.ibc_ledger.proofs.places.SentPackets.TheSendSync as sent
use Rattle.ibc_ledger_lock.proofs.board.Board.TheSendSync as board
use Rattle.ibc_ledger_lock.specs.declared.world.WorldBrand.{Ghosts}
use Rattle.ibc_ledger_lock.proofs.book.Keeper.TheSendSync as keeper
use Rattle.ibc_ledger_lock.proofs.posted_view.PostedView.TheSendSync as posted
use Rattle.ibc_ledger_lock.specs.contracts.locked_ledger.LockedLedger as Desk
use Rattle.ibc_ledger_lock.specs.contracts.locked_ledger.LockedLedger.TheInside as InDesk
use Rattle.ibc_ledger_lock.specs.contracts.chain.Chain as Chain

entry_send : IsSend StampedEntry.the_row
entry_send = declared_send StampedEntry.the_type (entry.the_send, (search (sendable, crosses) depth 20, tt))

ledger_send : IsSend Ledger.the_row
ledger_send =
    let inside : IsSend InLedger.the_row = declared_send InLedger.the_type (search (sendable, crosses), (node.the_send, (search sendable, (search (sendable, crosses, root_table.the_send, root_table.the_sync) depth 20, (pass.the_send, (search (sendable, crosses, entry_send) depth 20, (sent.the_send, tt))))))) in
    view_send _ _ _ _ _ inside

desk_send : (W : RattleType) (g : Ghosts W.Denot) → IsSend W → IsSend (Desk.the_row W g)
desk_send W g s =
    let inside : IsSend (InDesk.the_row W g) = declared_send (InDesk.the_type W g) (ledger_send, (keeper.the_send, (search sendable, tt))) in
    view_send _ _ _ _ _ inside

pub chain_sync : (W : RattleType) (g : Ghosts W.Denot) → IsSend W → IsSync W → IsSync (Chain.the_row W g)
chain_sync W g s y = search (sendable, crosses, desk_send, board.the_send, board.the_sync, posted.the_sync) depth 30
