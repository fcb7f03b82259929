-- What is pending at an end are the messages that are made as its packets are found, and they go over its client.
use Rattle.std.proofs.Common.{◌≡◌, ℕ, Bool, true, false, ◌&&◌, ◌||◌, List, [], ◌∷◌, ◌++◌, refl, sym, ap, ◌∙◌, subst, Option, Some, None, option_map, option_and_then, if◌then◌else◌}
use Rattle.std.specs.Prelude.{IsTrue}
use Rattle.std.specs.List.{AllByRecursion, filter_map, cons_option}
use Rattle.std.specs.Option.{option_map_or, unwrap_or}
use Rattle.std.specs.FinMap.{is_sorted}
use Rattle.std.specs.Ordering.{nat_cmp}
use Rattle.std.proofs.lemmas.Bool.{and_parts}
use Rattle.std.proofs.lemmas.List.Elements.{filter_map-append}
use Rattle.ibc_ids.specs.Texts.{Text, same_text}
use Rattle.ibc_ids.specs.Maps.{at}
use Rattle.ibc_ids.proofs.Texts.{text_same}
use Rattle.ibc_ids.specs.declared.key.Key.TheVariants as key
use Rattle.ibc_wire.specs.declared.messages.Message.{Message}
use Rattle.ibc_wire.specs.declared.records.ChannelState.TheVariants.{Open, Closed}
use Rattle.ibc_machine.specs.chain.Records.{Channel, Commitment, channel_at}
use Rattle.ibc_machine.specs.ics24.Values.{same_optional}
use Rattle.ibc_machine.specs.ics04.Channels.{is_in_state, client_of, peer_channel_of}
use Rattle.ibc_machine.specs.ics04.Packets.{has_peer, has_received, is_timed_out}
use Rattle.ibc_machine.specs.promises.Histories.{packet_from}
use Rattle.ibc_machine.specs.ics04.Proving.{recv_message, ack_message}
use Rattle.ibc_machine.specs.ics18.Relay.{View, PendingKind, Receive, Acknowledge, TimeOut, TimeOutClosed, Pending, pending_of, is_to_receive, to_receive, is_acknowledged, to_acknowledge, timeout_kind, to_time_out, tracks, pending_if, end_pending, if_names, theirs_of, pending_at, proof_at, end_of, message_of, packet_of, ack_of, message_for, pending_message, client_used}
use Rattle.ibc_relayer.specs.EndPackets.{packet_between, peer_of, message_if, receive_message_at, ack_message_at, timeout_message_at, messages_if, end_messages}
use Rattle.ibc_relayer.specs.UsedClients.{is_over_client, has_any}
use Rattle.ibc_relayer.proofs.Lists.{filter_map_on, kept_if, map_filter, all_filter_map, all_append, each_at}

-- the end that names another back has its port and its name
pub names_back : (theirs : Channel) (port channel : Text) → has_peer theirs port channel ≡ true → (theirs.end.peer_port ≡ port) × (peer_channel_of theirs.end ≡ channel)
names_back theirs port channel named =
    let parts = and_parts (same_text port theirs.end.peer_port) (same_optional theirs.end.peer_channel (Some channel)) named in
    (sym (text_same port theirs.end.peer_port parts.0), peer theirs.end.peer_channel parts.1)
  where
    peer : (o : Option Text) → same_optional o (Some channel) ≡ true → unwrap_or o [] ≡ channel
    peer None e = absurd (cc)
    peer (Some name) e = text_same name channel e

all_weaker : {X : Type 0} {P Q : X → Type 0} → ((x : X) → P x → Q x) → (xs : List X) → AllByRecursion P xs → AllByRecursion Q xs
all_weaker h [] all = tt
all_weaker h (x ∷ xs) all = (h x all.0, all_weaker h xs all.1)

module _ (a b : View) (port channel : Text) (mine theirs : Channel) (mine_at : channel_at b.core port channel ≡ Some mine) (theirs_at : theirs_of a (port, channel) mine ≡ Some theirs) where
  abbrev pend : PendingKind → ℕ → Pending
  pend kind n = pending_of (port, channel) kind n

  -- the message that is pending, from both ends
  found : (kind : PendingKind) (n : ℕ) → pending_message a b (pend kind n) ≡ message_for a b (pend kind n) mine theirs
  found kind n =
      ap (λ (o : Option Channel). option_and_then (λ m. option_and_then (message_for a b (pend kind n) m) (theirs_of a (port, channel) m)) o) mine_at
      ∙ ap (λ (o : Option Channel). option_and_then (message_for a b (pend kind n) mine) o) theirs_at

  peer_names : (theirs.end.peer_port ≡ port) × (peer_channel_of theirs.end ≡ channel)
  peer_names = named (channel_at a.core mine.end.peer_port (peer_channel_of mine.end)) theirs_at
    where
      here : (x : Channel) (named : Bool) → has_peer x port channel ≡ named → (if named then Some x else None) ≡ Some theirs → (theirs.end.peer_port ≡ port) × (peer_channel_of theirs.end ≡ channel)
      here x false is e = absurd (cc)
      here x true is e = let same : x ≡ theirs = cc in names_back theirs port channel (subst (λ (y : Channel). has_peer y port channel ≡ true) same is)

      named : (o : Option Channel) → option_and_then (if_names (port, channel)) o ≡ Some theirs → (theirs.end.peer_port ≡ port) × (peer_channel_of theirs.end ≡ channel)
      named None e = absurd (cc)
      named (Some x) e = here x (has_peer x port channel) refl e

  -- ---- packets to be received

  receive_item : (entry : ℕ × Commitment) → at nat_cmp entry.0 theirs.commitments ≡ Some entry.1
      → pending_message a b (pend Receive entry.0) ≡ Some (recv_message (packet_between (peer_of mine) (port, channel) entry.0 entry.1) a.height (proof_at a (key.Commitment mine.end.peer_port (peer_channel_of mine.end) entry.0)))
  receive_item entry there =
      found Receive entry.0
      ∙ ap (λ o. option_map (λ p. message_of a mine theirs Receive p (ack_of (pend Receive entry.0) theirs)) (option_map (packet_from (end_of a mine.end.peer_port (peer_channel_of mine.end)) theirs entry.0) o)) there
      ∙ λ i. Some (recv_message (packet_between (peer_of mine) (peer_names.0 i, peer_names.1 i) entry.0 entry.1) a.height (proof_at a (key.Commitment mine.end.peer_port (peer_channel_of mine.end) entry.0)))

  received_if : (entry : ℕ × Commitment) → at nat_cmp entry.0 theirs.commitments ≡ Some entry.1 → option_and_then (pending_message a b) (kept_if (is_to_receive b mine entry) (pend Receive entry.0)) ≡ receive_message_at a b (port, channel) mine entry
  received_if entry there =
      elim (is_to_receive b mine entry) as (λ due. option_and_then (pending_message a b) (kept_if due (pend Receive entry.0))
      ≡ message_if due (recv_message (packet_between (peer_of mine) (port, channel) entry.0 entry.1) a.height (proof_at a (key.Commitment mine.end.peer_port (peer_channel_of mine.end) entry.0)))) [
        | true ↦ receive_item entry there
        | false ↦ refl
      ]

  -- ---- packets of the end

  sent_item : (kind : PendingKind) (entry : ℕ × Commitment) → at nat_cmp entry.0 mine.commitments ≡ Some entry.1 → packet_of a b (pend kind entry.0) mine theirs ≡ option_map (packet_from (end_of b port channel) mine entry.0) (at nat_cmp entry.0 mine.commitments)
      → pending_message a b (pend kind entry.0) ≡ Some (message_of a mine theirs kind (packet_between (port, channel) (peer_of mine) entry.0 entry.1) (unwrap_or (at nat_cmp entry.0 theirs.acks) []))
  sent_item kind entry there packet =
      found kind entry.0
      ∙ ap (option_map (λ p. message_of a mine theirs kind p (ack_of (pend kind entry.0) theirs))) (packet ∙ ap (option_map (packet_from (end_of b port channel) mine entry.0)) there)

  acked_if : (entry : ℕ × Commitment) → at nat_cmp entry.0 mine.commitments ≡ Some entry.1 → option_and_then (pending_message a b) (kept_if (is_acknowledged theirs entry) (pend Acknowledge entry.0)) ≡ ack_message_at a (port, channel) mine theirs entry
  acked_if entry there = by_ack (at nat_cmp entry.0 theirs.acks) refl
    where
      by_ack : (o : Option Text) → at nat_cmp entry.0 theirs.acks ≡ o
          → option_and_then (pending_message a b) (kept_if (option_map_or (λ ack. true) o false) (pend Acknowledge entry.0))
          ≡ option_map (λ ack. ack_message (packet_between (port, channel) (peer_of mine) entry.0 entry.1) a.height ack (proof_at a (key.Acknowledgement mine.end.peer_port (peer_channel_of mine.end) entry.0))) o
      by_ack None is = refl
      by_ack (Some ack) is =
          sent_item Acknowledge entry there refl
          ∙ ap (λ o. Some (message_of a mine theirs Acknowledge (packet_between (port, channel) (peer_of mine) entry.0 entry.1) (unwrap_or o []))) is

  late_if : (entry : ℕ × Commitment) → at nat_cmp entry.0 mine.commitments ≡ Some entry.1
      → option_and_then (pending_message a b) (option_map (λ kind. pend kind entry.0) (timeout_kind a theirs entry)) ≡ timeout_message_at a (port, channel) mine theirs entry
  late_if entry there =
      elim (has_received theirs entry.0) as (λ got. option_and_then (pending_message a b) (option_map (λ kind. pend kind entry.0) (if got then None else if is_timed_out entry.1 a.height a.time then Some TimeOut else if is_in_state Closed theirs then Some TimeOutClosed else None))
      ≡ option_map made (if got then None else if is_timed_out entry.1 a.height a.time then Some TimeOut else if is_in_state Closed theirs then Some TimeOutClosed else None)) [
        | true ↦ refl
        | false ↦ elim (is_timed_out entry.1 a.height a.time) as (λ late. option_and_then (pending_message a b) (option_map (λ kind. pend kind entry.0) (if late then Some TimeOut else if is_in_state Closed theirs then Some TimeOutClosed else None))
            ≡ option_map made (if late then Some TimeOut else if is_in_state Closed theirs then Some TimeOutClosed else None)) [
              | true ↦ sent_item TimeOut entry there refl
              | false ↦ elim (is_in_state Closed theirs) as (λ shut. option_and_then (pending_message a b) (option_map (λ kind. pend kind entry.0) (if shut then Some TimeOutClosed else None)) ≡ option_map made (if shut then Some TimeOutClosed else None)) [
                | true ↦ sent_item TimeOutClosed entry there refl
                | false ↦ refl
              ]
            ]
      ]
    where
      made : PendingKind → Message
      made kind = message_of a mine theirs kind (packet_between (port, channel) (peer_of mine) entry.0 entry.1) []

  -- ---- the whole end

  module _ (mine_sorted : IsTrue (is_sorted nat_cmp mine.commitments)) (theirs_sorted : IsTrue (is_sorted nat_cmp theirs.commitments)) where
    abbrev g : Pending → Option Message
    g = pending_message a b

    received_all : filter_map g (to_receive b (port, channel) mine theirs) ≡ filter_map (receive_message_at a b (port, channel) mine) theirs.commitments
    received_all =
        ap (filter_map g) (map_filter (is_to_receive b mine) (λ (entry : ℕ × Commitment). pend Receive entry.0) theirs.commitments)
        ∙ filter_map_on (λ (entry : ℕ × Commitment). kept_if (is_to_receive b mine entry) (pend Receive entry.0)) g (receive_message_at a b (port, channel) mine) theirs.commitments
        (all_weaker received_if theirs.commitments (each_at theirs.commitments theirs_sorted))

    acked_all : filter_map g (to_acknowledge (port, channel) mine theirs) ≡ filter_map (ack_message_at a (port, channel) mine theirs) mine.commitments
    acked_all =
        ap (filter_map g) (map_filter (is_acknowledged theirs) (λ (entry : ℕ × Commitment). pend Acknowledge entry.0) mine.commitments)
        ∙ filter_map_on (λ (entry : ℕ × Commitment). kept_if (is_acknowledged theirs entry) (pend Acknowledge entry.0)) g (ack_message_at a (port, channel) mine theirs) mine.commitments
        (all_weaker acked_if mine.commitments (each_at mine.commitments mine_sorted))

    late_all : filter_map g (to_time_out a (port, channel) mine theirs) ≡ filter_map (timeout_message_at a (port, channel) mine theirs) mine.commitments
    late_all =
        filter_map_on (λ (entry : ℕ × Commitment). option_map (λ kind. pend kind entry.0) (timeout_kind a theirs entry)) g (timeout_message_at a (port, channel) mine theirs) mine.commitments
        (all_weaker late_if mine.commitments (each_at mine.commitments mine_sorted))

    when_is : (c : Bool) (ps : List Pending) (ms : List Message) → filter_map g ps ≡ ms → filter_map g (pending_if c ps) ≡ messages_if c ms
    when_is true ps ms is = is
    when_is false ps ms is = refl

    end_is : filter_map g (end_pending a b (port, channel) mine theirs) ≡ end_messages a b (port, channel) mine theirs
    end_is =
        let open_ = is_in_state Open mine in
        let first = to_receive b (port, channel) mine theirs in
        let second = to_acknowledge (port, channel) mine theirs in
        let third = to_time_out a (port, channel) mine theirs in
        let both = open_ || is_in_state Closed mine in
        filter_map-append g (pending_if open_ first ++ pending_if open_ second) (pending_if both third)
        ∙ ap (λ (ms : List Message). ms ++ filter_map g (pending_if both third)) (filter_map-append g (pending_if open_ first) (pending_if open_ second))
        ∙ λ i. when_is open_ first _ received_all i ++ when_is open_ second _ acked_all i ++ when_is both third _ late_all i

    module _ (tracked : tracks a b mine ≡ true) where
      pending_is : pending_at a b ((port, channel), mine) ≡ end_pending a b (port, channel) mine theirs
      pending_is = λ i. pending_if (tracked i) (option_map_or (end_pending a b (port, channel) mine) (theirs_at i) [])

      -- the pending messages of the end
      pub messages_are : filter_map g (pending_at a b ((port, channel), mine)) ≡ end_messages a b (port, channel) mine theirs
      messages_are = ap (filter_map g) pending_is ∙ end_is

      -- ---- the client under the end

      abbrev client : Text
      client = client_of b.core mine.end.connection

      -- it has a message, which goes over the client
      record IsOver (p : Pending) : Type 0 where
        pub message : Message
        pub is : g p ≡ Some message
        pub over : client_used b p ≡ client

      over : (kind : PendingKind) (n : ℕ) (m : Message) → g (pend kind n) ≡ Some m → IsOver (pend kind n)
      over kind n m is = record { message = m; is = is; over = ap (λ (o : Option Channel). option_map_or (λ (c : Channel). client_of b.core c.end.connection) o []) mine_at }

      kept_over : (c : Bool) (p y : Pending) → IsOver p → kept_if c p ≡ Some y → IsOver y
      kept_over false p y is e = absurd (cc)
      kept_over true p y is e = let same : p ≡ y = cc in subst IsOver same is

      received_over : (entry : ℕ × Commitment) → at nat_cmp entry.0 theirs.commitments ≡ Some entry.1 → (y : Pending) → kept_if (is_to_receive b mine entry) (pend Receive entry.0) ≡ Some y → IsOver y
      received_over entry there y e = kept_over (is_to_receive b mine entry) (pend Receive entry.0) y (over Receive entry.0 _ (receive_item entry there)) e

      acked_over : (entry : ℕ × Commitment) → at nat_cmp entry.0 mine.commitments ≡ Some entry.1 → (y : Pending) → kept_if (is_acknowledged theirs entry) (pend Acknowledge entry.0) ≡ Some y → IsOver y
      acked_over entry there y e = kept_over (is_acknowledged theirs entry) (pend Acknowledge entry.0) y (over Acknowledge entry.0 _ (sent_item Acknowledge entry there refl)) e

      late_over : (entry : ℕ × Commitment) → at nat_cmp entry.0 mine.commitments ≡ Some entry.1 → (y : Pending) → option_map (λ kind. pend kind entry.0) (timeout_kind a theirs entry) ≡ Some y → IsOver y
      late_over entry there y e =
          by_kind (has_received theirs entry.0) (is_timed_out entry.1 a.height a.time) (is_in_state Closed theirs) e
        where
          the : (kind : PendingKind) → IsOver (pend kind entry.0) → option_map (λ kind. pend kind entry.0) (Some kind) ≡ Some y → IsOver y
          the kind is e = let same : pend kind entry.0 ≡ y = cc in subst IsOver same is

          by_kind : (got late shut : Bool) → option_map (λ kind. pend kind entry.0) (if got then None else if late then Some TimeOut else if shut then Some TimeOutClosed else None) ≡ Some y → IsOver y
          by_kind true late shut e = absurd (cc)
          by_kind false true shut e = the TimeOut (over TimeOut entry.0 _ (sent_item TimeOut entry there refl)) e
          by_kind false false true e = the TimeOutClosed (over TimeOutClosed entry.0 _ (sent_item TimeOutClosed entry there refl)) e
          by_kind false false false e = absurd (cc)

      when_over : (c : Bool) (ps : List Pending) → AllByRecursion IsOver ps → AllByRecursion IsOver (pending_if c ps)
      when_over true ps all = all
      when_over false ps all = tt

      end_over : AllByRecursion IsOver (end_pending a b (port, channel) mine theirs)
      end_over =
          let open_ = is_in_state Open mine in
          let both = open_ || is_in_state Closed mine in
          let first = subst (AllByRecursion IsOver) (sym (map_filter (is_to_receive b mine) (λ (entry : ℕ × Commitment). pend Receive entry.0) theirs.commitments))
          (all_filter_map IsOver (λ (entry : ℕ × Commitment). kept_if (is_to_receive b mine entry) (pend Receive entry.0)) theirs.commitments (all_weaker received_over theirs.commitments (each_at theirs.commitments theirs_sorted))) in
          let second = subst (AllByRecursion IsOver) (sym (map_filter (is_acknowledged theirs) (λ (entry : ℕ × Commitment). pend Acknowledge entry.0) mine.commitments))
          (all_filter_map IsOver (λ (entry : ℕ × Commitment). kept_if (is_acknowledged theirs entry) (pend Acknowledge entry.0)) mine.commitments (all_weaker acked_over mine.commitments (each_at mine.commitments mine_sorted))) in
          let third = all_filter_map IsOver (λ (entry : ℕ × Commitment). option_map (λ kind. pend kind entry.0) (timeout_kind a theirs entry)) mine.commitments (all_weaker late_over mine.commitments (each_at mine.commitments mine_sorted)) in
          all_append IsOver (pending_if open_ (to_receive b (port, channel) mine theirs) ++ pending_if open_ (to_acknowledge (port, channel) mine theirs)) _
          (all_append IsOver (pending_if open_ (to_receive b (port, channel) mine theirs)) _ (when_over open_ _ first) (when_over open_ _ second)) (when_over both _ third)

      over_all : (ps : List Pending) → AllByRecursion IsOver ps → (id : Text) → is_over_client b id ps ≡ (has_any (filter_map g ps) && same_text client id)
      over_all [] all id = refl
      over_all (p ∷ ps) all id =
          (λ i. same_text (all.0.over i) id || over_all ps all.1 id i)
          ∙ once (has_any (filter_map g ps)) (same_text client id)
          ∙ sym (ap (λ (o : Option Message). has_any (cons_option o (filter_map g ps)) && same_text client id) all.0.is)
        where
          once : (some same : Bool) → (same || (some && same)) ≡ same
          once some true = refl
          once true false = refl
          once false false = refl

      -- the messages of the end, if there are any, go over its client
      pub goes_over_client : (id : Text) → is_over_client b id (pending_at a b ((port, channel), mine)) ≡ (has_any (end_messages a b (port, channel) mine theirs) && same_text client id)
      goes_over_client id =
          ap (is_over_client b id) pending_is ∙ over_all (end_pending a b (port, channel) mine theirs) end_over id
          ∙ ap (λ (ms : List Message). has_any ms && same_text client id) end_is
