-- What an end keeps of itself where a packet is received or settled: its version, and what it is committed to but for that
-- packet, whether it is ordered or not.
use Rattle.std.proofs.Common.{◌≡◌, ℕ, ◌+◌, Bool, true, false, refl, nat_cmp, if◌then◌else◌}
use Rattle.ibc_ids.specs.Texts.{Text}
use Rattle.ibc_ids.specs.Maps.{Map, with, without}
use Rattle.ibc_wire.specs.declared.records.ChannelState.TheVariants as chan
use Rattle.ibc_machine.specs.chain.Records.{Channel, Commitment, with_number}
use Rattle.ibc_machine.specs.ics04.Channels.{in_state}
use Rattle.ibc_machine.specs.ics04.Packets.{is_ordered, after_receive, without_commitment, after_ack, after_timeout}

same_either_way : {B : Type 0} (f : Channel → B) (x y : Channel) (z : B) → f x ≡ z → f y ≡ z → (b : Bool) → f (if b then x else y) ≡ z
same_either_way f x y z e g true = e
same_either_way f x y z e g false = g

-- the same version, and these commitments
pub record Keeps (old now : Channel) (m : Map ℕ Commitment) : Type 0 where
  pub version : now.end.version ≡ old.end.version
  pub commitments : now.commitments ≡ m

keeps_either_way : (old x y : Channel) (m : Map ℕ Commitment) → Keeps old x m → Keeps old y m → (b : Bool) → Keeps old (if b then x else y) m
keeps_either_way old x y m e g b = record {
  version = same_either_way (λ c. c.end.version) x y old.end.version e.version g.version b;
  commitments = same_either_way (λ c. c.commitments) x y m e.commitments g.commitments b;
}

plainly : (old now : Channel) (m : Map ℕ Commitment) → now.end.version ≡ old.end.version → now.commitments ≡ m → Keeps old now m
plainly old now m v c = record { version = v; commitments = c }

pub after_receive_keeps : (n : ℕ) (ack : Text) (mine : Channel) → Keeps mine (after_receive n ack mine) mine.commitments
after_receive_keeps n ack mine =
    let acked : Channel = record mine { acks = with nat_cmp n ack mine.acks } in
    let next : Channel = record acked { next_recv = mine.next_recv + 1 } in
    let receipt : Channel = record acked { receipts = with_number n mine.receipts } in
    keeps_either_way mine next receipt mine.commitments (plainly mine next _ refl refl) (plainly mine receipt _ refl refl) (is_ordered mine)

pub after_ack_keeps : (n : ℕ) (mine : Channel) → Keeps mine (after_ack n mine) (without nat_cmp n mine.commitments)
after_ack_keeps n mine =
    let settled : Channel = without_commitment n mine in
    let next : Channel = record settled { next_ack = mine.next_ack + 1 } in
    keeps_either_way mine next settled (without nat_cmp n mine.commitments) (plainly mine next _ refl refl) (plainly mine settled _ refl refl) (is_ordered mine)

pub after_timeout_keeps : (n : ℕ) (mine : Channel) → Keeps mine (after_timeout n mine) (without nat_cmp n mine.commitments)
after_timeout_keeps n mine =
    let settled : Channel = without_commitment n mine in
    let closed : Channel = in_state chan.Closed settled in
    keeps_either_way mine closed settled (without nat_cmp n mine.commitments) (plainly mine closed _ refl refl) (plainly mine settled _ refl refl) (is_ordered mine)
