-- What a ledger answered where it had seen these publications, it answers where more are seen.
use Rattle.std.proofs.Common.{◌≡◌, ℕ, zero, suc, ◌+◌, ◌≤◌, Bool, true, false, ◌&&◌, eqb, nat_le, nat_lt, List, ◌++◌, length, take, drop, filter, refl, sym, ap, ◌∙◌, Some, None, Option, option_and_then, slice_get, arith, leb-true, subst, length-append, take-append-drop}
use Rattle.std.specs.Prelude.{⊤, IfSome}
use Rattle.std.specs.Option.{option_map_or}
use Rattle.std.proofs.lemmas.Bool.{and_parts}
use Rattle.std.proofs.lemmas.List.Elements.{filter-append}
use Rattle.ibc_ids.specs.Publications.{height_of, height_among, row_at}
use Rattle.ibc_ids.specs.declared.publication.Publication.{Publication}
use Rattle.ibc_wire.specs.declared.header.Header.{Header}
use Rattle.ibc_wire.specs.declared.messages.Message.{Message}
use Rattle.ibc_wire.specs.declared.messages.Message.TheVariants as message
use Rattle.ibc_machine.specs.declared.event.Event.TheVariants as event
use Rattle.ibc_machine.specs.declared.entry.Reading.{Reading}
use Rattle.ibc_machine.specs.chain.Genesis.{GenesisState}
use Rattle.ibc_machine.specs.chain.Handlers.{handle, message_answer}
use Rattle.ibc_machine.specs.chain.Machine.{row_if}
use Rattle.ibc_machine.specs.ics02.Clients.{create_client, update_client}
use Rattle.ibc_machine.specs.ics03.Connections.{conn_open_init, conn_open_try, conn_open_ack, conn_open_confirm}
use Rattle.ibc_machine.specs.ics04.Channels.{chan_open_init, chan_open_try, chan_open_ack, chan_open_confirm, chan_close_init, chan_close_confirm}
use Rattle.ibc_machine.specs.ics04.Packets.{require_timeouts, recv_checked, recv_packet, ack_checked, ack_packet, timeout_checked, timeout, timeout_on_close_checked, timeout_on_close}
use Rattle.ibc_machine.specs.ics20.Transfers.{send_tokens, transfer, transfer_many}
use Rattle.ibc_machine.specs.chain.Notes.{send_note}
use Rattle.ibc_machine.specs.ledger.Replay.{LedgerState, StampedEntry, is_published_as, row_read, proof_evidence, after_answer, ledger_answer, entry_answer}
use Rattle.ibc_machine.specs.ledger.Ledgers.{IsReading, header_in, fits, reading_fits}
use Rattle.ibc_machine.proofs.Members.{get_left}

-- ---- rows

row_stays : (seen more : List Publication) (chain h : ℕ) → h ≤ height_of chain seen → row_at (seen ++ more) chain h ≡ row_at seen chain h
row_stays seen more chain zero within = refl
row_stays seen more chain (suc h) within =
    let test = λ (p : Publication). eqb p.chain chain in
    ap (λ xs. slice_get xs h) (filter-append test seen more) ∙ get_left (filter test seen) (filter test more) h (omega arith)

pub height_grows : (chain n : ℕ) (seen : List Publication) → height_among chain n seen ≤ height_of chain seen
height_grows chain n seen =
    let test = λ (p : Publication). eqb p.chain chain in
    let parts : length (filter test seen) ≡ length (filter test (take n seen)) + length (filter test (drop n seen)) =
    ap (λ xs. length (filter test xs)) (sym (take-append-drop n seen)) ∙ ap length (filter-append test (take n seen) (drop n seen)) ∙ length-append (filter test (take n seen)) (filter test (drop n seen))
    in
    omega (arith, parts)

-- a row that was there was published among what is seen
abbrev ReadsSeen : List Publication → Option Bool → Header → Type 0
ReadsSeen seen (Some true) header = header.height ≤ height_of header.chain seen
ReadsSeen seen o header = ⊤

row_read_stays : (seen more : List Publication) (o : Option Bool) (header : Header) → ReadsSeen seen o header → row_read (seen ++ more) o header ≡ row_read seen o header
row_read_stays seen more (Some true) header low = ap (λ o. row_if (option_map_or (is_published_as header) o false)) (row_stays seen more header.chain header.height low)
row_read_stays seen more (Some false) header low = refl
row_read_stays seen more None header low = refl

abbrev row_of : Option Reading → Option Bool
row_of o = option_and_then (λ (r : Reading). r.row_was_there) o

abbrev ReadsFor : List Publication → Option Reading → Message → Type 0
ReadsFor seen reading (message.UpdateClient m) = ReadsSeen seen (row_of reading) m.header
ReadsFor seen reading m = ⊤

-- ---- answers

module _ (genesis : GenesisState) (k : ℕ) (seen more : List Publication) (reading : Option Reading) (state : LedgerState) (chain : ℕ) where
  -- only an update of a client asks for a row
  message_stays : (m : Message) → ReadsFor seen reading m
      → ledger_answer genesis k (seen ++ more) reading state (event.Message chain m) ≡ ledger_answer genesis k seen reading state (event.Message chain m)
  unfolding ledger_answer handle create_client update_client conn_open_init conn_open_try conn_open_ack conn_open_confirm chan_open_init chan_open_try chan_open_ack chan_open_confirm chan_close_init chan_close_confirm require_timeouts recv_checked recv_packet ack_checked ack_packet timeout_checked timeout timeout_on_close_checked timeout_on_close send_tokens transfer transfer_many send_note
  message_stays (message.UpdateClient m) reads =
      ap (λ r. after_answer (message.UpdateClient m) state (message_answer (record (proof_evidence seen reading state) { row = λ _. r }) (length genesis.chains) k state.chain (message.UpdateClient m)))
      (row_read_stays seen more (row_of reading) m.header reads)
  message_stays m reads = refl

  block_stays : (next_time : ℕ) → ledger_answer genesis k (seen ++ more) reading state (event.Block chain next_time) ≡ ledger_answer genesis k seen reading state (event.Block chain next_time)
  unfolding ledger_answer
  block_stays next_time = refl

-- ---- entries

of_fit : (window : ℕ) (seen : List Publication) (header : Header) (n read : ℕ) (o : Option Bool) → fits window (height_among header.chain n seen) header.height read o ≡ true → ReadsSeen seen o header
of_fit window seen header n read (Some true) fit =
    let p = and_parts (nat_le header.height read) (nat_le read (height_among header.chain n seen)) (and_parts (nat_le header.height read && nat_le read (height_among header.chain n seen)) (nat_lt (height_among header.chain n seen) (header.height + window)) fit).0 in
    let low = leb-true header.height read p.0 in
    let high = leb-true read (height_among header.chain n seen) p.1 in
    let grows = height_grows header.chain n seen in
    omega arith
of_fit window seen header n read (Some false) fit = tt
of_fit window seen header n read None fit = tt

reads_for : (window : ℕ) (seen : List Publication) (e : StampedEntry) (chain : ℕ) (m : Message) → e.entry.event ≡ event.Message chain m → IsReading window seen e → ReadsFor seen e.entry.reading m
reads_for window seen e chain (message.UpdateClient m) is reading = by_reading e.entry.reading reading
  where
    by_reading : (o : Option Reading) → IfSome o (λ r. (header : Header) × (n : ℕ) × (header_in e.entry.event ≡ Some header) × (e.stamp ≡ Some n) × (n ≤ length seen)
        × (reading_fits window (height_among header.chain n seen) header.height r ≡ true)) → ReadsSeen seen (row_of o) m.header
    by_reading None r = tt
    by_reading (Some read) r =
        let headers : Some r.0 ≡ Some m.header = sym r.2 ∙ ap header_in is in
        let same : r.0 ≡ m.header = cc in
        subst (ReadsSeen seen read.row_was_there) same (of_fit window seen r.0 r.1 read.published read.row_was_there r.5)
reads_for window seen e chain m is reading = tt

pub entry_stays : (genesis : GenesisState) (k : ℕ) (seen more : List Publication) (state : LedgerState) (e : StampedEntry) → IsReading genesis.window seen e
    → entry_answer genesis k (seen ++ more) state e ≡ entry_answer genesis k seen state e
entry_stays genesis k seen more state e reading =
    elim (e.entry.event) as (λ ev. e.entry.event ≡ ev → ledger_answer genesis k (seen ++ more) e.entry.reading state ev ≡ ledger_answer genesis k seen e.entry.reading state ev) [
      | event.Message chain m ↦ λ is. message_stays genesis k seen more e.entry.reading state chain m (reads_for genesis.window seen e chain m is reading)
      | event.Block chain next_time ↦ λ is. block_stays genesis k seen more e.entry.reading state chain next_time
    ] refl
