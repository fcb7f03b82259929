-- The acknowledgement is kept, and the counter or the receipts.
use Rattle.std.proofs.Common.{◌≡◌, ℕ, List, sym, ap, ◌∙◌, nat_cmp}
use Rattle.std.specs.Prelude.{⊤}
use Rattle.std.specs.Map.{keys_of}
use Rattle.ibc_ids.specs.Maps.{with}
use Rattle.ibc_ids.proofs.Maps.{keys_of-with}
use Rattle.ibc_machine.specs.chain.Records.{Channel, with_number}
use Rattle.ibc_machine.specs.ics04.Packets.{is_ordered}
use Rattle.ibc_records.proofs.ReceivedPackets.{where_ok, received_in_order, received_in_any}
use Rattle.ibc_records.proofs.channel.Channel.receive.Goals.{then-in_order, else-in_order}
use Rattle.ibc_records.proofs.channel.Channel.receive.Goals as goal

pub returns-clause-ok : goal.returns-clause-ok
returns-clause-ok g c =
    let inside = c.self.inside in
    let mine : Channel = record {
      end = inside.end;
      next_send = inside.next_send;
      next_recv = inside.next_recv;
      next_ack = inside.next_ack;
      commitments = inside.commitments.pairs;
      receipts = keys_of inside.receipts.pairs;
      acks = inside.acks.pairs;
    } in
    let n = c.args.packet.now.sequence in
    let ack = c.in_ok-ack.ack in
    let acks = c.set.new.self.pairs in
    let is_acks : acks ≡ with nat_cmp n ack mine.acks = where_ok c.set.result _ (c.set.ensures.reserved c.in_ok-reserve.ensures.ok) c.set.ensures.ok ∙ ap (with nat_cmp n ack) c.in_ok-reserve.ensures.pairs in
    let is_reply : c.fill-copies.result.reply ≡ ack = c.fill-copies.ensures.reply ∙ c.as_slice.ensures in
    let order : is_ordered mine ≡ c.is_ordered-in_order.result = ap is_ordered c.self.view_is ∙ sym c.is_ordered-in_order.ensures in
    elim c.if-in_order.branch [
      | then-in_order w ↦ received_in_order mine c.args.self.now c.self.view_is n ack c.fill-copies.result.reply (keys_of c.reserve-2.new.self.pairs) acks c.if-in_order.self is_acks is_reply
          (order ∙ w.if-in_order.true) (ap keys_of c.in_ok-reserve-2.ensures.pairs) w.self-is
      | else-in_order w ↦ received_in_any mine c.args.self.now c.self.view_is n ack c.fill-copies.result.reply (keys_of w.set-else-in_order.new.self.pairs) acks c.if-in_order.self is_acks is_reply
          (order ∙ w.if-in_order.false)
          (ap keys_of (where_ok w.set-else-in_order.result _ (w.set-else-in_order.ensures.reserved c.in_ok-reserve-2.ensures.ok) w.set-else-in_order.ensures.ok)
          ∙ keys_of-with nat_cmp n tt c.reserve-2.new.self.pairs ∙ ap (λ (receipts : List (ℕ × ⊤)). with_number n (keys_of receipts)) c.in_ok-reserve-2.ensures.pairs) w.self-is
    ]
