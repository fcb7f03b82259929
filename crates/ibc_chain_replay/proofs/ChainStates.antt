-- Ledgers of one chain that keep the same entries are in the same state, whatever their passes have seen.
use Rattle.std.proofs.Common.{◌≡◌, ℕ, Bool, true, false, nat_le, List, [], ◌∷◌, map, refl, sym, ap, ◌∙◌, subst, Option, Some, None, option_and_then}
use Rattle.std.specs.Prelude.{Ok}
use Rattle.std.specs.List.{AllByRecursion}
use Rattle.ibc_ids.specs.declared.publication.Publication.{Publication}
use Rattle.ibc_ids.specs.declared.refusal.Refusal.TheVariants.{UnknownClient, NotPublished, WrongHeader}
use Rattle.ibc_wire.specs.declared.messages.Message.{Message}
use Rattle.ibc_wire.specs.declared.messages.Message.TheVariants as message
use Rattle.ibc_wire.specs.declared.messages.UpdateClient.{UpdateClient}
use Rattle.ibc_machine.specs.declared.event.Event.TheVariants as event
use Rattle.ibc_machine.specs.declared.entry.Entry.{Entry}
use Rattle.ibc_machine.specs.declared.entry.Reading.{Reading}
use Rattle.ibc_machine.specs.declared.reply.Effect.{Effect}
use Rattle.ibc_machine.specs.declared.reply.Effect.TheVariants as effect
use Rattle.ibc_machine.specs.declared.reply.Reply.{Reply}
use Rattle.ibc_machine.specs.chain.Records.{Core, Client, client_at, with_client}
use Rattle.ibc_machine.specs.chain.Checks.{Checked, require, expect, go_on, and_then, ◌>>=◌, ◌>>◌}
use Rattle.ibc_machine.specs.chain.Genesis.{GenesisState}
use Rattle.ibc_machine.specs.chain.Handlers.{handle, after_message}
use Rattle.ibc_machine.specs.ics24.Evidence.{PublishedRow, Same, Different, Gone, require_row}
use Rattle.ibc_machine.specs.ics02.Clients.{create_client, update_client, with_known_height, is_of_client}
use Rattle.ibc_machine.specs.ics03.Connections.{conn_open_init, conn_open_try, conn_open_ack, conn_open_confirm}
use Rattle.ibc_machine.specs.ics04.Channels.{chan_open_init, chan_open_try, chan_open_ack, chan_open_confirm, chan_close_init, chan_close_confirm}
use Rattle.ibc_machine.specs.ics04.Packets.{require_timeouts, recv_checked, recv_packet, ack_checked, ack_packet, timeout_checked, timeout, timeout_on_close_checked, timeout_on_close}
use Rattle.ibc_machine.specs.ics20.Transfers.{send_tokens, transfer, transfer_many}
use Rattle.ibc_machine.specs.chain.Notes.{send_note}
use Rattle.ibc_machine.specs.ledger.Replay.{LedgerState, StampedEntry, row_read, proof_evidence, after_answer, ledger_answer, entry_answer, replay, met_states, starting_state}
use Rattle.ibc_machine.specs.ledger.Ledgers.{Ledger, IsLedger, IsOwnEntry, state_of}
use Rattle.ibc_machine.specs.promises.Worlds.{entries}

-- ---- an update, by its reply

-- what becomes of an update, by the client, by whether the height is published, and by what stands there
abbrev pub update_checked : UpdateClient → Core → Option Client → Bool → PublishedRow → Checked (Effect × Core)
update_checked m core client published row =
    expect client UnknownClient
    >>= λ (c : Client). (require (is_of_client c m.header) WrongHeader >> (require published NotPublished >> (require_row row >> Ok (effect.None, with_client m.client (with_known_height m.header.height c) core))))

abbrev pub updated : UpdateClient → LedgerState → Checked (Effect × Core) → Reply × LedgerState
updated m state checked =
    after_answer (message.UpdateClient m) state (after_message state.chain (checked >>= λ ((effect, after) : Effect × Core). Ok (effect, after, state.chain.records.apps)))

module _ (m : UpdateClient) (state : LedgerState) where
  abbrev pub answer : Option Client → Bool → PublishedRow → Reply × LedgerState
  answer client published row = updated m state (update_checked m state.chain.records.core client published row)

  -- what is behind the check of the client
  abbrev pub of_client : Client → Bool → Bool → PublishedRow → Reply × LedgerState
  of_client c ours published row =
      updated m state (require ours WrongHeader >> (require published NotPublished >> (require_row row >> Ok (effect.None, with_client m.client (with_known_height m.header.height c) state.chain.records.core))))

  same_client : (c : Client) (ours published : Bool) (one other : PublishedRow) → (of_client c ours published one).0 ≡ (of_client c ours published other).0
      → of_client c ours published one ≡ of_client c ours published other
  unfolding go_on and_then
  same_client c false published one other e = refl
  same_client c true false one other e = refl
  same_client c true true Same Same e = refl
  same_client c true true Same Different e = absurd (cc)
  same_client c true true Same Gone e = absurd (cc)
  same_client c true true Different Same e = absurd (cc)
  same_client c true true Different Different e = refl
  same_client c true true Different Gone e = absurd (cc)
  same_client c true true Gone Same e = absurd (cc)
  same_client c true true Gone Different e = absurd (cc)
  same_client c true true Gone Gone e = refl

  -- the reply tells as much of what stands there as the state shows
  same_update : (client : Option Client) (published : Bool) (one other : PublishedRow) → (answer client published one).0 ≡ (answer client published other).0
      → answer client published one ≡ answer client published other
  unfolding go_on
  same_update None published one other e = refl
  same_update (Some c) published one other e = same_client c (is_of_client c m.header) published one other e

-- ---- an event, by its reply

abbrev row_of : Option Reading → Option Bool
row_of o = option_and_then (λ (r : Reading). r.row_was_there) o

module _ (genesis : GenesisState) (k : ℕ) (one other : List Publication) (reading : Option Reading) (state : LedgerState) (chain : ℕ) where
  update_is : (seen : List Publication) (m : UpdateClient) → ledger_answer genesis k seen reading state (event.Message chain (message.UpdateClient m))
      ≡ answer m state (client_at state.chain.records.core m.client) (nat_le m.header.height ((proof_evidence seen reading state).published m.header.chain)) (row_read seen (row_of reading) m.header)
  unfolding ledger_answer handle update_client
  update_is seen m = refl

  other_message : (m : Message) → (ledger_answer genesis k one reading state (event.Message chain m)).0 ≡ (ledger_answer genesis k other reading state (event.Message chain m)).0
      → ledger_answer genesis k one reading state (event.Message chain m) ≡ ledger_answer genesis k other reading state (event.Message chain m)
  unfolding ledger_answer handle create_client update_client conn_open_init conn_open_try conn_open_ack conn_open_confirm chan_open_init chan_open_try chan_open_ack chan_open_confirm chan_close_init chan_close_confirm require_timeouts recv_checked recv_packet ack_checked ack_packet timeout_checked timeout timeout_on_close_checked timeout_on_close send_tokens transfer transfer_many send_note
  other_message (message.UpdateClient m) e =
      same_update m state (client_at state.chain.records.core m.client) (nat_le m.header.height ((proof_evidence one reading state).published m.header.chain)) (row_read one (row_of reading) m.header) (row_read other (row_of reading) m.header) e
  other_message m e = refl

  same_block : (next_time : ℕ) → ledger_answer genesis k one reading state (event.Block chain next_time) ≡ ledger_answer genesis k other reading state (event.Block chain next_time)
  unfolding ledger_answer
  same_block next_time = refl

pub same_answer : (genesis : GenesisState) (k : ℕ) (one other : List Publication) (state : LedgerState) (e : Entry)
    → (ledger_answer genesis k one e.reading state e.event).0 ≡ (ledger_answer genesis k other e.reading state e.event).0
    → ledger_answer genesis k one e.reading state e.event ≡ ledger_answer genesis k other e.reading state e.event
same_answer genesis k one other state e =
    elim (e.event) as (λ ev. (ledger_answer genesis k one e.reading state ev).0 ≡ (ledger_answer genesis k other e.reading state ev).0 → ledger_answer genesis k one e.reading state ev ≡ ledger_answer genesis k other e.reading state ev) [
      | event.Message chain m ↦ λ same. other_message genesis k one other e.reading state chain m same
      | event.Block chain next_time ↦ λ same. same_block genesis k one other e.reading state chain next_time
    ]

-- ---- whole histories

module _ (l m : Ledger) (genesis : l.genesis ≡ m.genesis) (chain : l.chain ≡ m.chain) where
  -- the same entry leaves the same state
  pub same_after : (state : LedgerState) (e f : StampedEntry) → e.entry ≡ f.entry → e.entry.reply ≡ (entry_answer l.genesis l.chain l.seen state e).0
      → f.entry.reply ≡ (entry_answer m.genesis m.chain m.seen state f).0 → (entry_answer l.genesis l.chain l.seen state e).1 ≡ (entry_answer m.genesis m.chain m.seen state f).1
  same_after state e f first own others =
      let moved : ledger_answer m.genesis m.chain m.seen f.entry.reading state f.entry.event ≡ ledger_answer l.genesis l.chain m.seen e.entry.reading state e.entry.event =
      λ i. ledger_answer (sym genesis i) (sym chain i) m.seen (sym first i).reading state (sym first i).event
      in
      let reply : (ledger_answer l.genesis l.chain l.seen e.entry.reading state e.entry.event).0 ≡ (ledger_answer l.genesis l.chain m.seen e.entry.reading state e.entry.event).0 =
      sym own ∙ ap (λ (x : Entry). x.reply) first ∙ others ∙ ap (λ (a : Reply × LedgerState). a.0) moved
      in
      ap (λ (a : Reply × LedgerState). a.1) (same_answer l.genesis l.chain l.seen m.seen state e.entry reply ∙ sym moved)

  same_replay : (state : LedgerState) (one other : List StampedEntry) → map (λ (e : StampedEntry). e.entry) one ≡ map (λ (e : StampedEntry). e.entry) other
      → AllByRecursion (IsOwnEntry l) (met_states l.genesis l.chain l.seen state one) → AllByRecursion (IsOwnEntry m) (met_states m.genesis m.chain m.seen state other)
      → replay l.genesis l.chain l.seen state one ≡ replay m.genesis m.chain m.seen state other
  same_replay state [] [] same own others = refl
  same_replay state [] (f ∷ other) same own others = absurd (cc)
  same_replay state (e ∷ one) [] same own others = absurd (cc)
  same_replay state (e ∷ one) (f ∷ other) same own others =
      let first : e.entry ≡ f.entry = cc in
      let rest : map (λ (x : StampedEntry). x.entry) one ≡ map (λ (x : StampedEntry). x.entry) other = cc in
      let after = same_after state e f first own.0.reply others.0.reply in
      let owned : AllByRecursion (IsOwnEntry l) (met_states l.genesis l.chain l.seen (entry_answer m.genesis m.chain m.seen state f).1 one) =
      subst (λ s. AllByRecursion (IsOwnEntry l) (met_states l.genesis l.chain l.seen s one)) after own.1
      in
      ap (λ s. replay l.genesis l.chain l.seen s one) after ∙ same_replay (entry_answer m.genesis m.chain m.seen state f).1 one other rest owned others.1

pub same_state : (l m : Ledger) → l.genesis ≡ m.genesis → l.chain ≡ m.chain → IsLedger l → IsLedger m → entries l ≡ entries m → state_of l ≡ state_of m
same_state l m genesis chain is_l is_m same =
    let start : starting_state l.genesis l.chain ≡ starting_state m.genesis m.chain = λ i. starting_state (genesis i) (chain i) in
    let owned = subst (λ s. AllByRecursion (IsOwnEntry l) (met_states l.genesis l.chain l.seen s l.history)) start is_l.entries in
    ap (λ s. replay l.genesis l.chain l.seen s l.history) start ∙ same_replay l m genesis chain (starting_state m.genesis m.chain) l.history m.history same owned is_m.entries
