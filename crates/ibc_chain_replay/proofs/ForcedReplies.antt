-- Two ledgers of one chain with the same entries answer the next event alike, where they read the same of what was published.
use Rattle.std.proofs.Common.{◌≡◌, ◌≢◌, ℕ, Bool, true, false, nat_le, List, [], ◌∷◌, ◌++◌, map, refl, sym, ap, ◌∙◌, subst, Option, Some, None}
use Rattle.std.specs.Prelude.{◌↔◌}
use Rattle.std.specs.List.{All, AllByRecursion}
use Rattle.std.proofs.lemmas.List.Elements.{All-pop}
use Rattle.ibc_ids.specs.declared.publication.Publication.{Publication}
use Rattle.ibc_wire.specs.declared.messages.Message.{Message}
use Rattle.ibc_wire.specs.declared.messages.Message.TheVariants as message
use Rattle.ibc_wire.specs.declared.messages.UpdateClient.{UpdateClient}
use Rattle.ibc_machine.specs.declared.event.Event.{Event}
use Rattle.ibc_machine.specs.declared.event.Event.TheVariants as event
use Rattle.ibc_machine.specs.declared.entry.Entry.{Entry}
use Rattle.ibc_machine.specs.declared.entry.Reading.{Reading}
use Rattle.ibc_machine.specs.declared.reply.Reply.{Reply}
use Rattle.ibc_machine.specs.chain.Records.{Client, client_at}
use Rattle.ibc_machine.specs.chain.Checks.{go_on, and_then}
use Rattle.ibc_machine.specs.chain.Genesis.{GenesisState}
use Rattle.ibc_machine.specs.chain.Handlers.{handle}
use Rattle.ibc_machine.specs.chain.Machine.{row_if}
use Rattle.ibc_machine.specs.ics02.Clients.{create_client, update_client, is_of_client}
use Rattle.ibc_machine.specs.ics03.Connections.{conn_open_init, conn_open_try, conn_open_ack, conn_open_confirm}
use Rattle.ibc_machine.specs.ics04.Channels.{chan_open_init, chan_open_try, chan_open_ack, chan_open_confirm, chan_close_init, chan_close_confirm}
use Rattle.ibc_machine.specs.ics04.Packets.{require_timeouts, recv_checked, recv_packet, ack_checked, ack_packet, timeout_checked, timeout, timeout_on_close_checked, timeout_on_close}
use Rattle.ibc_machine.specs.ics20.Transfers.{send_tokens, transfer, transfer_many}
use Rattle.ibc_machine.specs.chain.Notes.{send_note}
use Rattle.ibc_machine.specs.ledger.Replay.{LedgerState, StampedEntry, is_published_as, ledger_answer, entry_answer, met_states, starting_state}
use Rattle.ibc_machine.specs.ledger.Ledgers.{Ledger, IsLedger, IsOwnEntry}
use Rattle.ibc_machine.specs.promises.Worlds.{entries}
use Rattle.ibc_ids.specs.Publications.{row_at}
use Rattle.std.specs.Option.{option_map_or}
use Rattle.ibc_replay.specs.declared.replaying.Answered.{Answered}
use Rattle.ibc_replay.specs.Replays.{entry_of}
use Rattle.ibc_chain_replay.specs.ChainReplays.{Heights, IsAccepted, ReadsPublished, HasHistory, IsForced}
use Rattle.ibc_chain_replay.proofs.ChainStates.{answer, of_client, same_after}

-- ---- an update whose row was there

module _ (m : UpdateClient) (state : LedgerState) where
  same_client : (c : Client) (ours published one other : Bool) → (IsAccepted (of_client m state c ours published (row_if one)).0 ↔ IsAccepted (of_client m state c ours published (row_if other)).0)
      → (of_client m state c ours published (row_if one)).0 ≡ (of_client m state c ours published (row_if other)).0
  unfolding go_on and_then
  same_client c false published one other alike = refl
  same_client c true false one other alike = refl
  same_client c true true true true alike = refl
  same_client c true true true false alike = absurd (alike.0 tt)
  same_client c true true false true alike = absurd (alike.1 tt)
  same_client c true true false false alike = refl

  -- it is accepted or refused, and the reply is the same where that is
  same_update : (client : Option Client) (published one other : Bool) → (IsAccepted (answer m state client published (row_if one)).0 ↔ IsAccepted (answer m state client published (row_if other)).0)
      → (answer m state client published (row_if one)).0 ≡ (answer m state client published (row_if other)).0
  unfolding go_on
  same_update None published one other alike = refl
  same_update (Some c) published one other alike = same_client c (is_of_client c m.header) published one other alike

-- ---- an event

module _ (genesis : GenesisState) (k : ℕ) (one other : List Publication) (state : LedgerState) (chain : ℕ) where
  unread : (m : Message) → ledger_answer genesis k one None state (event.Message chain m) ≡ ledger_answer genesis k other None state (event.Message chain m)
  unfolding ledger_answer handle create_client update_client conn_open_init conn_open_try conn_open_ack conn_open_confirm chan_open_init chan_open_try chan_open_ack chan_open_confirm chan_close_init chan_close_confirm require_timeouts recv_checked recv_packet ack_checked ack_packet timeout_checked timeout timeout_on_close_checked timeout_on_close send_tokens transfer transfer_many send_note
  unread m = refl

  without_row : (n : ℕ) (m : Message) → ledger_answer genesis k one (Some (record { published = n; row_was_there = None })) state (event.Message chain m)
      ≡ ledger_answer genesis k other (Some (record { published = n; row_was_there = None })) state (event.Message chain m)
  unfolding ledger_answer handle create_client update_client conn_open_init conn_open_try conn_open_ack conn_open_confirm chan_open_init chan_open_try chan_open_ack chan_open_confirm chan_close_init chan_close_confirm require_timeouts recv_checked recv_packet ack_checked ack_packet timeout_checked timeout timeout_on_close_checked timeout_on_close send_tokens transfer transfer_many send_note
  without_row n m = refl

  row_gone : (n : ℕ) (m : Message) → ledger_answer genesis k one (Some (record { published = n; row_was_there = Some false })) state (event.Message chain m)
      ≡ ledger_answer genesis k other (Some (record { published = n; row_was_there = Some false })) state (event.Message chain m)
  unfolding ledger_answer handle create_client update_client conn_open_init conn_open_try conn_open_ack conn_open_confirm chan_open_init chan_open_try chan_open_ack chan_open_confirm chan_close_init chan_close_confirm require_timeouts recv_checked recv_packet ack_checked ack_packet timeout_checked timeout timeout_on_close_checked timeout_on_close send_tokens transfer transfer_many send_note
  row_gone n m = refl

  no_update : (n : ℕ) (m : Message) → ((u : UpdateClient) → m ≡ message.UpdateClient u → ⊥) → ledger_answer genesis k one (Some (record { published = n; row_was_there = Some true })) state (event.Message chain m)
      ≡ ledger_answer genesis k other (Some (record { published = n; row_was_there = Some true })) state (event.Message chain m)
  unfolding ledger_answer handle create_client update_client conn_open_init conn_open_try conn_open_ack conn_open_confirm chan_open_init chan_open_try chan_open_ack chan_open_confirm chan_close_init chan_close_confirm require_timeouts recv_checked recv_packet ack_checked ack_packet timeout_checked timeout timeout_on_close_checked timeout_on_close send_tokens transfer transfer_many send_note
  no_update n (message.UpdateClient u) none = absurd (none u refl)
  no_update n m none = refl

  row_found : (n : ℕ) (u : UpdateClient)
      → (IsAccepted (ledger_answer genesis k one (Some (record { published = n; row_was_there = Some true })) state (event.Message chain (message.UpdateClient u))).0
      ↔ IsAccepted (ledger_answer genesis k other (Some (record { published = n; row_was_there = Some true })) state (event.Message chain (message.UpdateClient u))).0)
      → (ledger_answer genesis k one (Some (record { published = n; row_was_there = Some true })) state (event.Message chain (message.UpdateClient u))).0
      ≡ (ledger_answer genesis k other (Some (record { published = n; row_was_there = Some true })) state (event.Message chain (message.UpdateClient u))).0
  unfolding ledger_answer handle update_client
  row_found n u alike =
      same_update u state (client_at state.chain.records.core u.client) (nat_le u.header.height n) (option_map_or (is_published_as u.header) (row_at one u.header.chain u.header.height) false)
      (option_map_or (is_published_as u.header) (row_at other u.header.chain u.header.height) false) alike

-- ---- the last entries of two histories

-- an event, what was read, and the reply
abbrev told_entry : Event → Option Reading → Reply → Entry
told_entry ev o a = record { event = ev; reply = a; reading = o }

-- what an update read whose row was there
abbrev row_there : ℕ → Option Reading
row_there n = Some (record { published = n; row_was_there = Some true })

module _ (published : Heights) (genesis : GenesisState) (k : ℕ) (one other : List Publication) (state : LedgerState) where
  -- an answer that is the ledger's
  abbrev given_by : List Publication → Option Reading → Event → Reply
  given_by seen o ev = (ledger_answer genesis k seen o state ev).0

  found : (chain n : ℕ) (m : Message) (a b : Reply) → ReadsPublished published (told_entry (event.Message chain m) (Some (record { published = n; row_was_there = Some true })) a)
      → ReadsPublished published (told_entry (event.Message chain m) (Some (record { published = n; row_was_there = Some true })) b)
      → a ≡ given_by one (Some (record { published = n; row_was_there = Some true })) (event.Message chain m)
      → b ≡ given_by other (Some (record { published = n; row_was_there = Some true })) (event.Message chain m) → a ≡ b
  found chain n (message.UpdateClient u) a b reads others is are =
      let there : IsAccepted (given_by one (row_there n) (event.Message chain (message.UpdateClient u))) → IsAccepted (given_by other (row_there n) (event.Message chain (message.UpdateClient u))) =
      λ w. subst IsAccepted are ((others.row refl).1 ((reads.row refl).0 (subst IsAccepted (sym is) w)))
      in
      let back : IsAccepted (given_by other (row_there n) (event.Message chain (message.UpdateClient u))) → IsAccepted (given_by one (row_there n) (event.Message chain (message.UpdateClient u))) =
      λ w. subst IsAccepted is ((reads.row refl).1 ((others.row refl).0 (subst IsAccepted (sym are) w)))
      in
      is ∙ row_found genesis k one other state chain n u (there, back) ∙ sym are
  found chain n m a b reads others is are = is ∙ ap (λ (x : Reply × LedgerState). x.0) (no_update genesis k one other state chain n m (λ u same. absurd (cc))) ∙ sym are

  message_alike : (chain : ℕ) (m : Message) (o : Option Reading) (a b : Reply) → ReadsPublished published (told_entry (event.Message chain m) o a) → ReadsPublished published (told_entry (event.Message chain m) o b)
      → a ≡ given_by one o (event.Message chain m) → b ≡ given_by other o (event.Message chain m) → a ≡ b
  message_alike chain m None a b reads others is are = is ∙ ap (λ (x : Reply × LedgerState). x.0) (unread genesis k one other state chain m) ∙ sym are
  message_alike chain m (Some r) a b reads others is are = by_row r.published r.row_was_there reads others is are
    where
      by_row : (n : ℕ) (w : Option Bool) → ReadsPublished published (told_entry (event.Message chain m) (Some (record { published = n; row_was_there = w })) a)
          → ReadsPublished published (told_entry (event.Message chain m) (Some (record { published = n; row_was_there = w })) b)
          → a ≡ given_by one (Some (record { published = n; row_was_there = w })) (event.Message chain m) → b ≡ given_by other (Some (record { published = n; row_was_there = w })) (event.Message chain m) → a ≡ b
      by_row n None reads others is are = is ∙ ap (λ (x : Reply × LedgerState). x.0) (without_row genesis k one other state chain n m) ∙ sym are
      by_row n (Some false) reads others is are = is ∙ ap (λ (x : Reply × LedgerState). x.0) (row_gone genesis k one other state chain n m) ∙ sym are
      by_row n (Some true) reads others is are = found chain n m a b reads others is are

  block_same : (o : Option Reading) (chain next_time : ℕ) → given_by one o (event.Block chain next_time) ≡ given_by other o (event.Block chain next_time)
  unfolding ledger_answer
  block_same o chain next_time = refl

  alike : (ev : Event) (o : Option Reading) (a b : Reply) → ReadsPublished published (told_entry ev o a) → ReadsPublished published (told_entry ev o b) → a ≡ given_by one o ev → b ≡ given_by other o ev → a ≡ b
  alike (event.Message chain m) o a b reads others is are = message_alike chain m o a b reads others is are
  alike (event.Block chain next_time) o a b reads others is are = is ∙ block_same o chain next_time ∙ sym are

module _ (published : Heights) (l m : Ledger) (genesis : l.genesis ≡ m.genesis) (chain : l.chain ≡ m.chain) (ev : Event) (o : Option Reading) (a b : Reply)
    (reads : ReadsPublished published (told_entry ev o a)) (others : ReadsPublished published (told_entry ev o b)) where
  last_alike : (state : LedgerState) (front : List Entry) (one other : List StampedEntry) → map (λ (x : StampedEntry). x.entry) one ≡ front ++ told_entry ev o a ∷ []
      → map (λ (x : StampedEntry). x.entry) other ≡ front ++ told_entry ev o b ∷ []
      → AllByRecursion (IsOwnEntry l) (met_states l.genesis l.chain l.seen state one) → AllByRecursion (IsOwnEntry m) (met_states m.genesis m.chain m.seen state other) → a ≡ b
  last_alike state [] [] other is are own owned = absurd (cc)
  last_alike state [] (e ∷ one) [] is are own owned = absurd (cc)
  last_alike state [] (e ∷ one) (f ∷ other) is are own owned =
      let first : e.entry ≡ told_entry ev o a = cc in
      let second : f.entry ≡ told_entry ev o b = cc in
      let mine : a ≡ (ledger_answer l.genesis l.chain l.seen o state ev).0 = subst (λ (x : Entry). x.reply ≡ (ledger_answer l.genesis l.chain l.seen x.reading state x.event).0) first own.0.reply in
      let theirs : b ≡ (ledger_answer m.genesis m.chain m.seen o state ev).0 = subst (λ (x : Entry). x.reply ≡ (ledger_answer m.genesis m.chain m.seen x.reading state x.event).0) second owned.0.reply in
      let moved : b ≡ (ledger_answer l.genesis l.chain m.seen o state ev).0 = theirs ∙ (λ i. (ledger_answer (sym genesis i) (sym chain i) m.seen o state ev).0) in
      alike published l.genesis l.chain l.seen m.seen state ev o a b reads others mine moved
  last_alike state (g ∷ front) [] other is are own owned = absurd (cc)
  last_alike state (g ∷ front) (e ∷ one) [] is are own owned = absurd (cc)
  last_alike state (g ∷ front) (e ∷ one) (f ∷ other) is are own owned =
      let first : e.entry ≡ g = cc in
      let second : f.entry ≡ g = cc in
      let rest : map (λ (x : StampedEntry). x.entry) one ≡ front ++ told_entry ev o a ∷ [] = cc in
      let more : map (λ (x : StampedEntry). x.entry) other ≡ front ++ told_entry ev o b ∷ [] = cc in
      let after = same_after l m genesis chain state e f (first ∙ sym second) own.0.reply owned.0.reply in
      let mine = subst (λ s. AllByRecursion (IsOwnEntry l) (met_states l.genesis l.chain l.seen s one)) after own.1 in
      last_alike (entry_answer m.genesis m.chain m.seen state f).1 front one other rest more mine owned.1

pub same_reply : (published : Heights) (l m : Ledger) → l.genesis ≡ m.genesis → l.chain ≡ m.chain → IsLedger l → IsLedger m → (front : List Entry) (ev : Event) (o : Option Reading) (a b : Reply)
    → entries l ≡ front ++ told_entry ev o a ∷ [] → entries m ≡ front ++ told_entry ev o b ∷ []
    → ReadsPublished published (told_entry ev o a) → ReadsPublished published (told_entry ev o b) → a ≡ b
same_reply published l m genesis chain is_l is_m front ev o a b one other reads others =
    let start : starting_state l.genesis l.chain ≡ starting_state m.genesis m.chain = λ i. starting_state (genesis i) (chain i) in
    let owned = subst (λ s. AllByRecursion (IsOwnEntry l) (met_states l.genesis l.chain l.seen s l.history)) start is_l.entries in
    last_alike published l m genesis chain ev o a b reads others (starting_state m.genesis m.chain) front l.history m.history one other owned is_m.entries

-- ---- what is due

pub forced : (genesis : GenesisState) (chain : ℕ) (published : Heights) (front : List Entry) (event : Event) (due stored : Answered) (new : Ledger)
    → HasHistory genesis chain published (front ++ entry_of event due ∷ []) new → due ≢ stored → IsForced genesis chain published front event due stored
forced genesis chain published front event due stored new is apart ledger others same =
    let reads : ReadsPublished published (entry_of event due) = (All-pop (ReadsPublished published) (front ++ entry_of event due ∷ []) front (Some (entry_of event due)) refl is.read).1 in
    let told : ReadsPublished published (entry_of event stored) = (All-pop (ReadsPublished published) (front ++ entry_of event stored ∷ []) front (Some (entry_of event stored)) refl others.read).1 in
    let as_due : entries ledger ≡ front ++ told_entry event due.reading stored.reply ∷ [] =
    others.kept ∙ ap (λ (o : Option Reading). front ++ told_entry event o stored.reply ∷ []) (sym same)
    in
    let read_as_due : ReadsPublished published (told_entry event due.reading stored.reply) =
    subst (λ (o : Option Reading). ReadsPublished published (told_entry event o stored.reply)) (sym same) told
    in
    let reply = same_reply published new ledger (is.of ∙ sym others.of) (is.number ∙ sym others.number) is.is others.is front event due.reading due.reply stored.reply is.kept as_due reads read_as_due in
    apart (λ i. record { reply = reply i; reading = same i })
