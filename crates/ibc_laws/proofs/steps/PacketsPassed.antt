-- What an accepted message on a packet of a peer, or on an own one that was sent, did.
use Rattle.std.proofs.Common.{◌≡◌, ℕ, ◌≤◌, Bool, true, false, refl, ap, sym, ◌∙◌, subst, Option, Some, Ok, ◌&&◌, not, nat_lt, inl, inr, arith, if◌then◌else◌}
use Rattle.std.specs.Option.{option_map_or, option_and_then}
use Rattle.ibc_ids.specs.declared.key.Key.TheVariants as key
use Rattle.ibc_ids.specs.Texts.{Text}
use Rattle.ibc_wire.specs.Fields.{are_typed}
use Rattle.ibc_wire.specs.Messages.{message_fields}
use Rattle.ibc_wire.specs.declared.packet.Packet.{Packet}
use Rattle.ibc_wire.specs.declared.records.ChannelState.TheVariants as chan
use Rattle.ibc_wire.specs.declared.records.ChannelState.{ChannelState}
use Rattle.ibc_wire.specs.declared.messages.Message.TheVariants as message
use Rattle.ibc_wire.specs.declared.messages.RecvPacket.{RecvPacket}
use Rattle.ibc_wire.specs.declared.messages.AckPacket.{AckPacket}
use Rattle.ibc_wire.specs.declared.messages.Timeout.{Timeout}
use Rattle.ibc_wire.specs.declared.messages.TimeoutOnClose.{TimeoutOnClose}
use Rattle.ibc_machine.specs.chain.Records.{Core, Apps, Records, Block, Client, Channel, Commitment, channel_at, with_channel, is_one_of, commitment_of}
use Rattle.ibc_machine.specs.ics24.Values.{NumberIs, present_claim, absent_claim}
use Rattle.ibc_machine.specs.ics24.Evidence.{Host, Evidence}
use Rattle.ibc_machine.specs.ics04.Channels.{is_in_state, is_established, client_of}
use Rattle.ibc_machine.specs.ics04.Packets.{recv_checked, recv_packet, ack_checked, ack_packet, timeout_checked, timeout, timeout_on_close_checked, timeout_on_close, is_ordered, is_timed_out, after_ack, not_received, waits_for}
use Rattle.ibc_machine.specs.chain.Applications.{on_recv, on_ack, on_timeout}
use Rattle.ibc_machine.specs.chain.Machine.{World, block_at}
use Rattle.ibc_laws.proofs.basics.ListPlaces.{some_is}
use Rattle.ibc_machine.proofs.PacketChecks.{IsUnsettled, recv_passed, ack_passed, timeout_passed, timeout_on_close_passed}
use Rattle.ibc_machine.proofs.PassedRows.{Gives, gives_ok, gives_bind}
use Rattle.ibc_machine.proofs.SameValues.{same_channel_state_is}
use Rattle.ibc_laws.proofs.basics.PassedTests.{either, no_longer}
use Rattle.ibc_laws.proofs.steps.Seen.{Sees, Sees-map, Sees-both, seeing, shown_channel, shown_next_recv, shown_commitment, shown_ack, shown_no_receipt}
use Rattle.ibc_laws.proofs.steps.Told.{Acknowledged}
use Rattle.ibc_laws.proofs.steps.CoreSteps.{rank, their_end, HadNotReceived, Receives, Settles, Acks, TimesOut, CoreStep, changes_channel, receives, acknowledges, times_out}
use Rattle.ibc_laws.proofs.steps.AppSteps.{AppsOf, GoodOf, DidBoth}

open_rank : (s : ChannelState) → s ≡ chan.Open → 1 ≤ rank s
open_rank s e = let z : rank s ≡ 1 = ap rank e in omega arith

pub established_rank : (mine : Channel) → is_established mine ≡ true → 1 ≤ rank mine.end.state
established_rank mine e = elim (either (is_in_state chan.Open mine) _ e) [
  | inl s ↦ open_rank mine.end.state (same_channel_state_is mine.end.state chan.Open s)
  | inr s ↦ (let z : rank mine.end.state ≡ 2 = ap rank (same_channel_state_is mine.end.state chan.Closed s) in omega arith)
]

module _ (window : ℕ) (oldest : Bool) (w : World) (core : Core) (client : Text) (height : ℕ) where
  not_received_shown : (mine : Channel) (p : Packet) (n : ℕ) (proof : Text) → waits_for mine n p.sequence ≡ true
      → (seeing window oldest w core).shows client height (not_received mine p n) proof ≡ true
      → Sees w core client height (HadNotReceived mine p)
  not_received_shown mine p n proof waits e = go (is_ordered mine) refl waits e
    where
      go : (b : Bool) → is_ordered mine ≡ b → not (b && nat_lt p.sequence n) ≡ true
          → (seeing window oldest w core).shows client height (if b then present_claim (key.NextSequenceRecv p.destination_port p.destination_channel) (NumberIs n)
          else absent_claim (key.Receipt p.destination_port p.destination_channel p.sequence)) proof ≡ true
          → Sees w core client height (HadNotReceived mine p)
      go true is waits e = Sees-map
          (λ (b : Block) had c there same.
          let found : had.0 ≡ c = some_is had.1 there in
          let next : c.next_recv ≡ n = ap (λ (x : Channel). x.next_recv) (sym found) ∙ had.2 in
          subst (λ (x : Bool). (if x then nat_lt p.sequence c.next_recv else is_one_of c.receipts p.sequence) ≡ false) (sym (same ∙ is))
          (subst (λ k. nat_lt p.sequence k ≡ false) (sym next) (no_longer _ waits)))
          (shown_next_recv window oldest w core client height p.destination_port p.destination_channel n proof e)
      go false is waits e = Sees-map
          (λ (b : Block) had c there same.
          subst (λ (x : Bool). (if x then nat_lt p.sequence c.next_recv else is_one_of c.receipts p.sequence) ≡ false) (sym (same ∙ is))
          (had c there))
          (shown_no_receipt window oldest w core client height p.destination_port p.destination_channel p.sequence proof e)

  -- the time at a height that was seen
  time_seen : {P : Block → Type 0} (s : Sees w core client height P)
      → (seeing window oldest w core).time_at client height ≡ s.block.time
  time_seen s =
      ap (λ (o : Option Client). option_map_or (λ (b : Block). b.time) (option_and_then (λ (c : Client). block_at w c.state.chain height) o) 0) s.there
      ∙ ap (λ (o : Option Block). option_map_or (λ (b : Block). b.time) o 0) s.stood

  with_time : {P : Block → Type 0} (c : Commitment) → Sees w core client height P
      → is_timed_out c height ((seeing window oldest w core).time_at client height) ≡ true
      → Sees w core client height (λ b. P b × (is_timed_out c height b.time ≡ true))
  with_time c s e = record {
    tracked = s.tracked;
    there = s.there;
    block = s.block;
    stood = s.stood;
    had = (s.had, subst (λ t. is_timed_out c height t ≡ true) (time_seen s) e);
  }

-- ---- what the checks have passed

-- a packet that the end sent and that isn't settled yet
settles : (core : Core) (p : Packet) (mine : Channel) → IsUnsettled core p mine → 1 ≤ rank mine.end.state → Settles p.source_port p.source_channel mine p
settles core p mine stands opened = record {
  from_port = refl;
  from_channel = refl;
  settled = opened;
  peer = stands.peer;
  committed = stands.committed;
}

module _ (window : ℕ) (oldest : Bool) (w : World) (host : Host) (core : Core) where
  receiving : (m : RecvPacket) (mine : Channel) → recv_checked m (seeing window oldest w core) host core ≡ Ok mine
      → (channel_at core m.packet.destination_port m.packet.destination_channel ≡ Some mine)
      × Receives w host core m.packet.destination_port m.packet.destination_channel mine m.packet
  receiving m mine e =
      let p : Packet = m.packet in
      let passed = recv_passed (seeing window oldest w core) host core m mine e in (
        passed.there,
        record {
          to_port = refl;
          to_channel = refl;
          state = same_channel_state_is mine.end.state chan.Open passed.may.state;
          peer = passed.may.peer;
          in_time = no_longer _ passed.may.in_time;
          fresh = no_longer _ passed.may.fresh;
          in_order = no_longer _ passed.may.in_order;
          height = m.height;
          sees = shown_commitment window oldest w core (client_of core mine.end.connection) m.height p.source_port p.source_channel p.sequence (commitment_of p) m.proof passed.sent;
        },
      )

  pub acking : (m : AckPacket) (mine : Channel) → ack_checked m (seeing window oldest w core) host core ≡ Ok mine
      → (channel_at core m.packet.source_port m.packet.source_channel ≡ Some mine)
      × (s : Acks w core m.packet.source_port m.packet.source_channel mine m.packet) × (s.ack ≡ m.ack)
  acking m mine e =
      let p : Packet = m.packet in
      let passed = ack_passed (seeing window oldest w core) host core m mine e in (
        passed.unsettled.there,
        record {
          settles = settles core p mine passed.unsettled (open_rank mine.end.state (same_channel_state_is mine.end.state chan.Open passed.state));
          state = same_channel_state_is mine.end.state chan.Open passed.state;
          in_order = no_longer _ passed.in_order;
          ack = m.ack;
          height = m.height;
          sees = shown_ack window oldest w core (client_of core mine.end.connection) m.height p.destination_port p.destination_channel p.sequence m.ack m.proof passed.acknowledged;
        },
        refl,
      )

  pub timing_out : (m : Timeout) (mine : Channel) → timeout_checked m (seeing window oldest w core) host core ≡ Ok mine
      → (channel_at core m.packet.source_port m.packet.source_channel ≡ Some mine)
      × TimesOut w core m.packet.source_port m.packet.source_channel mine m.packet
  timing_out m mine e =
      let p : Packet = m.packet in
      let client : Text = client_of core mine.end.connection in
      let passed = timeout_passed (seeing window oldest w core) host core m mine e in (
        passed.unsettled.there,
        record {
          settles = settles core p mine passed.unsettled (established_rank mine passed.state);
          height = m.height;
          sees = Sees-map (λ b had. (had.0, inl had.1)) (with_time window oldest w core client m.height (commitment_of p)
              (not_received_shown window oldest w core client m.height mine p m.next_recv m.proof passed.waits passed.missing) passed.over);
        },
      )

  pub timing_out_on_close : (m : TimeoutOnClose) (mine : Channel)
      → timeout_on_close_checked m (seeing window oldest w core) host core ≡ Ok mine
      → (channel_at core m.packet.source_port m.packet.source_channel ≡ Some mine)
      × TimesOut w core m.packet.source_port m.packet.source_channel mine m.packet
  timing_out_on_close m mine e =
      let p : Packet = m.packet in
      let client : Text = client_of core mine.end.connection in
      let passed = timeout_on_close_passed (seeing window oldest w core) host core m mine e in (
        passed.unsettled.there,
        record {
          settles = settles core p mine passed.unsettled (established_rank mine passed.state);
          height = m.height;
          sees = Sees-both
              (not_received_shown window oldest w core client m.height mine p m.next_recv m.proof passed.waits passed.missing)
              (Sees-map (λ b had. inr had) (shown_channel window oldest w core client m.height mine.end.peer_port p.destination_channel
              (their_end core mine p.source_port p.source_channel chan.Closed) m.proof_close passed.closed));
        },
      )

-- ---- the four messages

module _ (window : ℕ) (oldest : Bool) (w : World) (host : Host) (records : Records) where
  -- what its clients see of other chains
  abbrev evidence : Evidence
  evidence = seeing window oldest w records.core

  pub recv_packet_did : (m : RecvPacket) → Gives (DidBoth w host records (message.RecvPacket m))
      (recv_packet (on_recv records.core m.packet.destination_port) m evidence host records.core records.apps)
  unfolding recv_packet
  recv_packet_did m =
      gives_bind _ _ λ (mine : Channel) checked.
      let p : Packet = m.packet in
      let passed = receiving window oldest w host records.core m mine checked in
      let did : Text × Apps = on_recv records.core p.destination_port records.apps mine.end.version p in
      gives_ok (DidBoth w host records (message.RecvPacket m)) _
      (changes_channel _ p.destination_port p.destination_channel mine _ passed.0 (receives p did.0 passed.1), refl, λ typed. tt)

  pub ack_packet_did : (m : AckPacket) → Gives (DidBoth w host records (message.AckPacket m))
      (ack_packet (on_ack m.packet.source_port) m evidence host records.core records.apps)
  unfolding ack_packet
  ack_packet_did m =
      gives_bind _ _ λ (mine : Channel) checked. gives_bind _ _ λ (left : Apps) answered.
      let p : Packet = m.packet in
      let passed = acking window oldest w host records.core m mine checked in
      let after : Core = with_channel p.source_port p.source_channel (after_ack p.sequence mine) records.core in
      gives_ok (DidBoth w host records (message.AckPacket m)) _
      (subst (λ ack. (did : CoreStep w host records.core (Acknowledged p ack) after)
      × (apps : AppsOf w host records left (Acknowledged p ack) after did)
      × (are_typed (message_fields (message.AckPacket m)) ≡ true → GoodOf w host records left (Acknowledged p ack) after did apps)) passed.2 (
        changes_channel _ p.source_port p.source_channel mine _ passed.0 (acknowledges p passed.1),
        subst (λ ack. on_ack p.source_port records.apps mine.end.version p ack ≡ Ok left) (sym passed.2) answered,
        λ typed. tt,
      ))

  pub timeout_did : (m : Timeout) → Gives (DidBoth w host records (message.Timeout m))
      (timeout (on_timeout m.packet.source_port) m evidence host records.core records.apps)
  unfolding timeout
  timeout_did m =
      gives_bind _ _ λ (mine : Channel) checked. gives_bind _ _ λ (left : Apps) answered.
      let p : Packet = m.packet in
      let passed = timing_out window oldest w host records.core m mine checked in
      gives_ok (DidBoth w host records (message.Timeout m)) _
      (changes_channel _ p.source_port p.source_channel mine _ passed.0 (times_out p passed.1), answered, λ typed. tt)

  pub timeout_on_close_did : (m : TimeoutOnClose) → Gives (DidBoth w host records (message.TimeoutOnClose m))
      (timeout_on_close (on_timeout m.packet.source_port) m evidence host records.core records.apps)
  unfolding timeout_on_close
  timeout_on_close_did m =
      gives_bind _ _ λ (mine : Channel) checked. gives_bind _ _ λ (left : Apps) answered.
      let p : Packet = m.packet in
      let passed = timing_out_on_close window oldest w host records.core m mine checked in
      gives_ok (DidBoth w host records (message.TimeoutOnClose m)) _
      (changes_channel _ p.source_port p.source_channel mine _ passed.0 (times_out p passed.1), answered, λ typed. tt)
