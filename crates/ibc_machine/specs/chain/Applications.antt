-- What the applications answer to their channels and packets, by port (ICS 20 for port `transfer`; port
-- `note` is this project's profile).
use Rattle.std.specs.Prelude.{◌||◌, Ok, ⊤, if◌then◌else◌}
use Rattle.ibc_ids.specs.Texts.{Text, same_text}
use Rattle.ibc_ids.specs.declared.refusal.Refusal.TheVariants.{UnknownPort}
use Rattle.ibc_wire.specs.declared.records.Order.{Order}
use Rattle.ibc_wire.specs.declared.packet.Packet.{Packet}
use Rattle.ibc_machine.specs.chain.Records.{Core, Apps}
use Rattle.ibc_machine.specs.chain.Checks.{Checked, require, ◌>>=◌}
use Rattle.ibc_machine.specs.ics20.Bank.{Balances}
use Rattle.ibc_machine.specs.ics20.Transfers.{transfer_port, opens_for_transfers, closes_for_transfers, burnt_amount, receive_transfer, refund_transfer, acknowledge_transfer}
use Rattle.ibc_machine.specs.chain.Notes.{note_port, opens_for_notes, closes_for_notes, receive_note}

-- the port has an application
abbrev pub require_application : Text → Checked ⊤
require_application port = require (same_text port transfer_port || same_text port note_port) UnknownPort

abbrev pub on_open : Text → Order → Text → Checked ⊤
on_open port order version =
    if same_text port transfer_port then opens_for_transfers order version else opens_for_notes order version

abbrev pub on_close : Text → Checked ⊤
on_close port = if same_text port transfer_port then closes_for_transfers else closes_for_notes

abbrev pub with_balances : Apps → Balances → Apps
with_balances apps balances = record apps { balances = balances }

-- the acknowledgement of a packet that was received on the port over a channel of the version
abbrev pub on_recv : Core → Text → Apps → Text → Packet → Text × Apps
on_recv core port apps version p =
    if same_text port transfer_port
    then (let (ack, balances) = receive_transfer (burnt_amount core) apps.balances version p in
    (ack, with_balances apps balances))
    else (let (ack, notes) = receive_note apps.notes p in (ack, record apps { notes = notes }))

-- the peer acknowledged a packet that was sent from the port
abbrev pub on_ack : Text → Apps → Text → Packet → Text → Checked Apps
on_ack port apps version p ack =
    if same_text port transfer_port
    then (acknowledge_transfer apps.balances version p ack >>= λ balances. Ok (with_balances apps balances))
    else Ok apps

-- the peer will not receive a packet that was sent from the port
abbrev pub on_timeout : Text → Apps → Text → Packet → Checked Apps
on_timeout port apps version p =
    if same_text port transfer_port
    then (refund_transfer apps.balances version p >>= λ balances. Ok (with_balances apps balances))
    else Ok apps
