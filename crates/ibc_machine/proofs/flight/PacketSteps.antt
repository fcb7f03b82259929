-- Packets that are received, acknowledged or timed out. To receive one changes nothing that is burnt in flight. Of one that
-- is settled the tokens that go back aren't in flight any more.
use Rattle.std.proofs.Common.{◌≡◌, ◌+◌, true, false, sym, ap, ◌∙◌, Some, Ok, arith, nat_cmp}
use Rattle.ibc_ids.specs.Texts.{Text, same_text, pair_cmp}
use Rattle.ibc_ids.specs.Maps.{with, without}
use Rattle.ibc_wire.specs.declared.packet.Packet.{Packet}
use Rattle.ibc_wire.specs.declared.messages.RecvPacket.{RecvPacket}
use Rattle.ibc_wire.specs.declared.messages.AckPacket.{AckPacket}
use Rattle.ibc_wire.specs.declared.messages.Timeout.{Timeout}
use Rattle.ibc_wire.specs.declared.messages.TimeoutOnClose.{TimeoutOnClose}
use Rattle.ibc_machine.specs.declared.reply.Effect.{Effect}
use Rattle.ibc_machine.specs.chain.Records.{Core, Channel, channel_at, commitment_of}
use Rattle.ibc_machine.specs.chain.Checks.{Checked, ◌>>=◌}
use Rattle.ibc_machine.specs.ics24.Evidence.{Host, Evidence}
use Rattle.ibc_machine.specs.ics04.Packets.{recv_packet, ack_packet, timeout, timeout_on_close, after_receive, after_ack, after_timeout, with_timed_out}
use Rattle.ibc_machine.specs.ics20.TokenData.{tokens_of}
use Rattle.ibc_machine.specs.ics20.Transfers.{transfer_port, burnt_amount}
use Rattle.ibc_machine.specs.chain.Orderly.{IsOrderly}
use Rattle.ibc_machine.specs.ics20.ReturningTokens.{SameBurnt, returned_amount}
use Rattle.ibc_machine.proofs.PacketChecks.{IsUnsettled, recv_passed, ack_passed, timeout_passed, timeout_on_close_passed}
use Rattle.ibc_machine.proofs.PassedRows.{bind_passed, ok_same}
use Rattle.ibc_machine.proofs.flight.BurntSteps.{burnt_by, burnt_by-other, burnt_by-transfer, same_commitments, one_settled}
use Rattle.ibc_machine.proofs.flight.EndsKept.{Keeps, after_receive_keeps, after_ack_keeps, after_timeout_keeps}

-- ---- receiving

pub recv_packet_burnt : {A : Type 0} (on_recv : A → Text → Packet → Text × A) (evidence : Evidence) (host : Host) (core : Core) (m : RecvPacket) (app : A)
    {effect : Effect} {after : Core} {left : A}
    → IsOrderly core → recv_packet on_recv m evidence host core app ≡ Ok (effect, after, left) → SameBurnt core after
unfolding recv_packet
recv_packet_burnt {A} on_recv evidence host core m app {effect} {after} {left} orderly e =
    let p : Packet = m.packet in
    let checked = bind_passed _ _ e in
    let mine : Channel = checked.0 in
    let told : Text × A = on_recv app mine.end.version p in
    let now : Channel = after_receive p.sequence told.0 mine in
    let keeps : Keeps mine now mine.commitments = after_receive_keeps p.sequence told.0 mine in
    same_commitments core after p.destination_port p.destination_channel now orderly
    (ap (λ (y : Effect × Core × A). y.1.channels) (sym (ok_same checked.2)))
    mine (recv_passed evidence host core m mine checked.1).there keeps.version keeps.commitments

-- ---- settling: of any port's packet, what it had burnt isn't in flight any more

-- the packet of the end is settled between the cores, and its application gave this
record Settled {A : Type 0} (core after : Core) (p : Packet) (answer : Text → Checked A) (app : A) : Type 0 where
  mine : Channel
  there : channel_at core p.source_port p.source_channel ≡ Some mine
  answered : answer mine.end.version ≡ Ok app
  less : (denom : Text) → burnt_amount after denom + burnt_by p.source_port p.source_channel (tokens_of mine.end.version (commitment_of p)) denom ≡ burnt_amount core denom

settled : {A : Type 0} (core after : Core) (p : Packet) (answer : Text → Checked A) (app : A) (mine now : Channel) → IsOrderly core → IsUnsettled core p mine
    → answer mine.end.version ≡ Ok app → Keeps mine now (without nat_cmp p.sequence mine.commitments)
    → after.channels ≡ with pair_cmp (p.source_port, p.source_channel) now core.channels → Settled core after p answer app
settled core after p answer app mine now orderly stands answered keeps is = record {
  mine = mine;
  there = stands.there;
  answered = answered;
  less = one_settled core after p.source_port p.source_channel now orderly is mine stands.there keeps.version p.sequence (commitment_of p)
      stands.committed keeps.commitments;
}

-- of another port's packet nothing was burnt
settled_elsewhere : {A : Type 0} (core after : Core) (p : Packet) (answer : Text → Checked A) (app : A) → same_text p.source_port transfer_port ≡ false
    → Settled core after p answer app → SameBurnt core after
settled_elsewhere core after p answer app other s denom =
    let less = s.less denom in
    let none = burnt_by-other p.source_port p.source_channel (tokens_of s.mine.end.version (commitment_of p)) denom other in
    omega arith

-- the end that sent tokens, what the application gave, and how much less is burnt in flight
abbrev pub Settles : {A : Type 0} → Core → Core → Packet → (Text → Checked A) → A → Type 0
Settles core after p answer app =
    (mine : Channel) × (channel_at core p.source_port p.source_channel ≡ Some mine) × (answer mine.end.version ≡ Ok app)
    × ((denom : Text) → burnt_amount after denom + returned_amount p.source_channel (tokens_of mine.end.version (commitment_of p)) denom ≡ burnt_amount core denom)

settled_here : {A : Type 0} (core after : Core) (p : Packet) (answer : Text → Checked A) (app : A) → same_text p.source_port transfer_port ≡ true
    → Settled core after p answer app → Settles core after p answer app
settled_here core after p answer app ours s = (
  s.mine,
  s.there,
  s.answered,
  λ denom.
      let less = s.less denom in
      let same = burnt_by-transfer p.source_port p.source_channel (tokens_of s.mine.end.version (commitment_of p)) denom ours in
      omega arith,
)

-- ---- acknowledgements

module _ {A : Type 0} (on_ack : A → Text → Packet → Text → Checked A) (evidence : Evidence) (host : Host) (core : Core) (m : AckPacket) (app : A)
    {effect : Effect} {after : Core} {left : A} (orderly : IsOrderly core) where
  ack_packet_any_port : ack_packet on_ack m evidence host core app ≡ Ok (effect, after, left)
      → Settled core after m.packet (λ version. on_ack app version m.packet m.ack) left
  unfolding ack_packet
  ack_packet_any_port e =
      let p : Packet = m.packet in
      let checked = bind_passed _ _ e in
      let mine : Channel = checked.0 in
      let given = bind_passed (on_ack app mine.end.version p m.ack) _ checked.2 in
      settled core after p (λ version. on_ack app version p m.ack) left mine (after_ack p.sequence mine) orderly
      (ack_passed evidence host core m mine checked.1).unsettled
      (given.1 ∙ ap (λ (y : Effect × Core × A). Ok y.2) (ok_same given.2)) (after_ack_keeps p.sequence mine)
      (ap (λ (y : Effect × Core × A). y.1.channels) (sym (ok_same given.2)))

  -- on another port
  pub ack_packet_burnt : same_text m.packet.source_port transfer_port ≡ false → ack_packet on_ack m evidence host core app ≡ Ok (effect, after, left)
      → SameBurnt core after
  ack_packet_burnt other e = settled_elsewhere core after m.packet (λ version. on_ack app version m.packet m.ack) left other (ack_packet_any_port e)

  -- on port `transfer`
  pub ack_packet_settles : same_text m.packet.source_port transfer_port ≡ true → ack_packet on_ack m evidence host core app ≡ Ok (effect, after, left)
      → Settles core after m.packet (λ version. on_ack app version m.packet m.ack) left
  ack_packet_settles ours e = settled_here core after m.packet (λ version. on_ack app version m.packet m.ack) left ours (ack_packet_any_port e)

-- ---- timeouts

-- what the application answers to a packet that wasn't received, by the channel's version
abbrev answers : {A : Type 0} → (A → Text → Packet → Checked A) → A → Packet → Text → Checked A
answers on_timeout app p version = on_timeout app version p

module _ {A : Type 0} (on_timeout : A → Text → Packet → Checked A) (evidence : Evidence) (host : Host) (core : Core) (app : A)
    {effect : Effect} {after : Core} {left : A} (orderly : IsOrderly core) where
  -- what both messages do once their checks are passed
  timed_out : (p : Packet) (mine : Channel) → IsUnsettled core p mine
      → (answers on_timeout app p mine.end.version >>= λ app. Ok (with_timed_out p mine core app)) ≡ Ok (effect, after, left) → Settled core after p (answers on_timeout app p) left
  timed_out p mine stands e =
      let given = bind_passed (answers on_timeout app p mine.end.version) _ e in
      settled core after p (answers on_timeout app p) left mine (after_timeout p.sequence mine) orderly stands
      (given.1 ∙ ap (λ (y : Effect × Core × A). Ok y.2) (ok_same given.2)) (after_timeout_keeps p.sequence mine)
      (ap (λ (y : Effect × Core × A). y.1.channels) (sym (ok_same given.2)))

  timeout_any_port : (m : Timeout) → timeout on_timeout m evidence host core app ≡ Ok (effect, after, left) → Settled core after m.packet (answers on_timeout app m.packet) left
  unfolding timeout
  timeout_any_port m e =
      let checked = bind_passed _ _ e in
      timed_out m.packet checked.0 (timeout_passed evidence host core m checked.0 checked.1).unsettled checked.2

  timeout_on_close_any_port : (m : TimeoutOnClose) → timeout_on_close on_timeout m evidence host core app ≡ Ok (effect, after, left)
      → Settled core after m.packet (answers on_timeout app m.packet) left
  unfolding timeout_on_close
  timeout_on_close_any_port m e =
      let checked = bind_passed _ _ e in
      timed_out m.packet checked.0 (timeout_on_close_passed evidence host core m checked.0 checked.1).unsettled checked.2

  -- on another port
  pub timeout_burnt : (m : Timeout) → same_text m.packet.source_port transfer_port ≡ false
      → timeout on_timeout m evidence host core app ≡ Ok (effect, after, left) → SameBurnt core after
  timeout_burnt m other e = settled_elsewhere core after m.packet (answers on_timeout app m.packet) left other (timeout_any_port m e)

  pub timeout_on_close_burnt : (m : TimeoutOnClose) → same_text m.packet.source_port transfer_port ≡ false
      → timeout_on_close on_timeout m evidence host core app ≡ Ok (effect, after, left) → SameBurnt core after
  timeout_on_close_burnt m other e = settled_elsewhere core after m.packet (answers on_timeout app m.packet) left other (timeout_on_close_any_port m e)

  -- on port `transfer`
  pub timeout_settles : (m : Timeout) → same_text m.packet.source_port transfer_port ≡ true
      → timeout on_timeout m evidence host core app ≡ Ok (effect, after, left) → Settles core after m.packet (λ version. on_timeout app version m.packet) left
  timeout_settles m ours e = settled_here core after m.packet (answers on_timeout app m.packet) left ours (timeout_any_port m e)

  pub timeout_on_close_settles : (m : TimeoutOnClose) → same_text m.packet.source_port transfer_port ≡ true
      → timeout_on_close on_timeout m evidence host core app ≡ Ok (effect, after, left)
      → Settles core after m.packet (λ version. on_timeout app version m.packet) left
  timeout_on_close_settles m ours e = settled_here core after m.packet (answers on_timeout app m.packet) left ours (timeout_on_close_any_port m e)
