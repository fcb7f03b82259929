-- A channel after it received a packet, in order or in any.
use Rattle.std.proofs.Common.{◌≡◌, ℕ, ◌+◌, Bool, true, false, sym, ap, ◌∙◌, List, Result, Ok, Err, nat_cmp}
use Rattle.std.specs.Prelude.{OnOk, IsOk, if◌then◌else◌}
use Rattle.ibc_ids.specs.Texts.{Text}
use Rattle.ibc_ids.specs.Maps.{Map, with}
use Rattle.ibc_machine.specs.chain.Records.{Channel, with_number}
use Rattle.ibc_machine.specs.ics04.Packets.{is_ordered, after_receive}

-- what a call says where it isn't refused
pub where_ok : {T E : Type 0} (r : Result T E) (P : Type 0) → IsOk r → OnOk r P → P
where_ok (Ok x) P is p = p
where_ok (Err e) P is p = absurd (cc)

module _ (mine now : Channel) (same : mine ≡ now) (n : ℕ) (ack reply : Text) (receipts : List ℕ) (acks : Map ℕ Text) (self : Channel) (is_acks : acks ≡ with nat_cmp n ack mine.acks) (is_reply : reply ≡ ack) where
  acked : Channel
  acked = record mine { acks = with nat_cmp n ack mine.acks }

  by_order : (b : Bool) → is_ordered mine ≡ b
      → (if b then record mine { acks = with nat_cmp n ack mine.acks; next_recv = mine.next_recv + 1 } else record mine { acks = with nat_cmp n ack mine.acks; receipts = with_number n mine.receipts })
      ≡ after_receive n reply now
  by_order b is =
      sym (ap (λ (x : Bool). if x then record mine { acks = with nat_cmp n ack mine.acks; next_recv = mine.next_recv + 1 } else record mine { acks = with nat_cmp n ack mine.acks; receipts = with_number n mine.receipts }) is)
      ∙ (λ i. after_receive n (sym is_reply i) (same i))

  pub received_in_order : is_ordered mine ≡ true → receipts ≡ mine.receipts
      → self ≡ record mine { next_recv = mine.next_recv + 1; receipts = receipts; acks = acks } → self ≡ after_receive n reply now
  received_in_order is is_receipts e =
      e ∙ (λ i. record mine { next_recv = mine.next_recv + 1; receipts = is_receipts i; acks = is_acks i }) ∙ by_order true is

  pub received_in_any : is_ordered mine ≡ false → receipts ≡ with_number n mine.receipts → self ≡ record mine { receipts = receipts; acks = acks }
      → self ≡ after_receive n reply now
  received_in_any is is_receipts e = e ∙ (λ i. record mine { receipts = is_receipts i; acks = is_acks i }) ∙ by_order false is
