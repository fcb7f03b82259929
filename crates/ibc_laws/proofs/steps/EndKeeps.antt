-- What a labelled step of an end leaves as it was: all that was received, unless it receives; all that was sent
-- and still stands, unless it sends.
use Rattle.std.proofs.Common.{◌≡◌, ℕ, Bool, true, false, refl, ap, sym, ◌∙◌, subst, Some, None, inl, inr, ◌⊎◌, nat_cmp, ◌<◌, arith}
use Rattle.ibc_ids.specs.Texts.{Text}
use Rattle.ibc_ids.specs.Maps.{at}
use Rattle.ibc_wire.specs.declared.packet.Packet.{Packet}
use Rattle.ibc_wire.specs.declared.records.ChannelEnd.{ChannelEnd}
use Rattle.ibc_machine.specs.chain.Records.{Core, Channel, Commitment}
use Rattle.ibc_machine.specs.ics24.Evidence.{Host}
use Rattle.ibc_machine.specs.ics04.Channels.{new_channel}
use Rattle.ibc_machine.specs.ics04.Packets.{is_ordered, without_commitment, after_send, after_ack, after_timeout}
use Rattle.ibc_machine.specs.chain.Machine.{World}
use Rattle.ibc_machine.specs.promises.Histories.{End}
use Rattle.std.specs.Cmp.{nat_cmp_total}
use Rattle.ibc_laws.proofs.basics.ListPlaces.{same_or_not}
use Rattle.ibc_machine.proofs.FiniteMaps.{by_number, at-with_split}
use Rattle.ibc_machine.proofs.SortedMaps.{at-without_other}
use Rattle.ibc_laws.proofs.steps.Told.{Told, Sent, Received}
use Rattle.ibc_laws.proofs.steps.CoreSteps.{ChannelStep, answers, follows, closes, sends, receives, acknowledges, times_out}
use Rattle.ibc_laws.proofs.steps.EndSteps.{IsShaped, gone, taken, acked, over}
use Rattle.ibc_laws.proofs.peers.Peers.{Stands}

-- nothing was received in between
pub record SameReceiving (m n : Channel) : Type 0 where
  pub order : n.end.order ≡ m.end.order
  pub next : n.next_recv ≡ m.next_recv
  pub acks : n.acks ≡ m.acks

-- nothing was sent in between, and each commitment stood before
pub record SameSending (m n : Channel) : Type 0 where
  pub next : n.next_send ≡ m.next_send
  pub stood : (k : ℕ) (c : Commitment) → at nat_cmp k n.commitments ≡ Some c → at nat_cmp k m.commitments ≡ Some c

-- nothing was settled in between: a number that is used and not committed to was so before
pub record SameGone (m n : Channel) : Type 0 where
  pub was_gone : (k : ℕ) → k < n.next_send → at nat_cmp k n.commitments ≡ None
      → (k < m.next_send) × (at nat_cmp k m.commitments ≡ None)

-- an end that stands now stood before so, or it is new
pub data StoodBefore (w : World) (e : End) (P : Channel → Channel → Type 0) (n : Channel) : Type 0 where
  was_there : (m : Channel) → Stands w e m → P m n → StoodBefore w e P n
  is_new : ((m : Channel) → Stands w e m → ⊥) → (end : ChannelEnd) → new_channel end ≡ n → StoodBefore w e P n

sending-same : (m n : Channel) → n.next_send ≡ m.next_send → n.commitments ≡ m.commitments → SameSending m n
sending-same m n next same = record { next = next; stood = λ k c e. ap (λ x. at nat_cmp k x) (sym same) ∙ e }

receiving-acked : (n : ℕ) (m : Channel) (b : Bool) → SameReceiving m (acked n m b)
receiving-acked n m true = record { order = refl; next = refl; acks = refl }
receiving-acked n m false = record { order = refl; next = refl; acks = refl }

receiving-over : (n : ℕ) (m : Channel) (b : Bool) → SameReceiving m (over n m b)
receiving-over n m true = record { order = refl; next = refl; acks = refl }
receiving-over n m false = record { order = refl; next = refl; acks = refl }

sending-settled : (n : ℕ) (m k : Channel) → IsShaped m → k.next_send ≡ m.next_send → k.commitments ≡ (acked n m true).commitments
    → SameSending m k
sending-settled n m k shaped next same = record {
  next = next;
  stood = λ j c e.
      let found = ap (λ x. at nat_cmp j x) (sym same) ∙ e in
      elim (gone n m shaped j) [
        | inl as_was ↦ sym as_was ∙ found
        | inr none ↦ absurd (cc (none, found))
      ];
}

sending-acked : (n : ℕ) (m : Channel) → IsShaped m → (b : Bool) → SameSending m (acked n m b)
sending-acked n m shaped true = sending-settled n m (acked n m true) shaped refl refl
sending-acked n m shaped false = sending-settled n m (acked n m false) shaped refl refl

sending-over : (n : ℕ) (m : Channel) → IsShaped m → (b : Bool) → SameSending m (over n m b)
sending-over n m shaped true = sending-settled n m (over n m true) shaped refl refl
sending-over n m shaped false = sending-settled n m (over n m false) shaped refl refl

sending-taken : (n : ℕ) (ack : Text) (m : Channel) (b : Bool) → SameSending m (taken b n ack m)
sending-taken n ack m true = sending-same m (taken true n ack m) refl refl
sending-taken n ack m false = sending-same m (taken false n ack m) refl refl

module _ (w : World) (host : Host) (core : Core) (port id : Text) (m : Channel) where
  pub keeps_receiving : (told : Told) (n : Channel) → ChannelStep w host core port id m told n
      → ((p : Packet) (ack : Text) → told ≡ Received p (Some ack) → ⊥) → SameReceiving m n
  keeps_receiving told n (answers peer s) other = record { order = refl; next = refl; acks = refl }
  keeps_receiving told n (follows state s) other = record { order = refl; next = refl; acks = refl }
  keeps_receiving told n (closes s may) other = record { order = refl; next = refl; acks = refl }
  keeps_receiving told n (sends c s) other = record { order = refl; next = refl; acks = refl }
  keeps_receiving told n (receives p ack s) other = absurd (other p ack refl)
  keeps_receiving told n (acknowledges p s) other = receiving-acked p.sequence m (is_ordered m)
  keeps_receiving told n (times_out p s) other = receiving-over p.sequence m (is_ordered m)

  pub keeps_sending : IsShaped m → (told : Told) (n : Channel) → ChannelStep w host core port id m told n
      → ((port channel : Text) (k : ℕ) (c : Commitment) → told ≡ Sent port channel k c → ⊥) → SameSending m n
  keeps_sending shaped told n (answers peer s) other = sending-same m n refl refl
  keeps_sending shaped told n (follows state s) other = sending-same m n refl refl
  keeps_sending shaped told n (closes s may) other = sending-same m n refl refl
  keeps_sending shaped told n (sends c s) other = absurd (other port id m.next_send c refl)
  keeps_sending shaped told n (receives p ack s) other = sending-taken p.sequence ack m (is_ordered m)
  keeps_sending shaped told n (acknowledges p s) other = sending-acked p.sequence m shaped (is_ordered m)
  keeps_sending shaped told n (times_out p s) other = sending-over p.sequence m shaped (is_ordered m)

-- a step that settles nothing
pub gone-same : (m n : Channel) → n.next_send ≡ m.next_send → n.commitments ≡ m.commitments → SameGone m n
gone-same m n next same = record { was_gone = λ k lt e. (subst (λ x. k < x) next lt, ap (λ x. at nat_cmp k x) (sym same) ∙ e) }

pub gone-sent : (c : Commitment) (m : Channel) → SameGone m (after_send c m)
gone-sent c m = record {
  was_gone = λ k lt e. elim (at-with_split by_number m.next_send k c m.commitments) [
    | inl here ↦ absurd (cc (here.1, e))
    | inr there ↦ (let other : k ≡ m.next_send → ⊥ = there.0 in (omega arith, sym there.1 ∙ e))
  ];
}

pub gone-taken : (n : ℕ) (ack : Text) (m : Channel) (b : Bool) → SameGone m (taken b n ack m)
gone-taken n ack m true = gone-same m (taken true n ack m) refl refl
gone-taken n ack m false = gone-same m (taken false n ack m) refl refl

-- where a commitment is taken away, any other number that is gone was gone before
pub gone-settled : (n : ℕ) (m j : Channel) → j.next_send ≡ m.next_send → j.commitments ≡ (without_commitment n m).commitments
    → (k : ℕ) → k < j.next_send → at nat_cmp k j.commitments ≡ None → (k ≡ n) ⊎ ((k < m.next_send) × (at nat_cmp k m.commitments ≡ None))
gone-settled n m j next same k lt e = elim (same_or_not k n) [
  | inl is ↦ inl is
  | inr other ↦ inr (
    subst (λ x. k < x) next lt,
    sym (at-without_other nat_cmp_total by_number n k m.commitments other) ∙ ap (λ x. at nat_cmp k x) (sym same) ∙ e,
  )
]

pub gone-acked : (n : ℕ) (m : Channel) (k : ℕ) → k < (after_ack n m).next_send → at nat_cmp k (after_ack n m).commitments ≡ None
    → (k ≡ n) ⊎ ((k < m.next_send) × (at nat_cmp k m.commitments ≡ None))
gone-acked n m k lt e = go (is_ordered m) lt e
  where
    go : (b : Bool) → k < (acked n m b).next_send → at nat_cmp k (acked n m b).commitments ≡ None
        → (k ≡ n) ⊎ ((k < m.next_send) × (at nat_cmp k m.commitments ≡ None))
    go true lt e = gone-settled n m (acked n m true) refl refl k lt e
    go false lt e = gone-settled n m (acked n m false) refl refl k lt e

pub gone-over : (n : ℕ) (m : Channel) (k : ℕ) → k < (after_timeout n m).next_send → at nat_cmp k (after_timeout n m).commitments ≡ None
    → (k ≡ n) ⊎ ((k < m.next_send) × (at nat_cmp k m.commitments ≡ None))
gone-over n m k lt e = go (is_ordered m) lt e
  where
    go : (b : Bool) → k < (over n m b).next_send → at nat_cmp k (over n m b).commitments ≡ None
        → (k ≡ n) ⊎ ((k < m.next_send) × (at nat_cmp k m.commitments ≡ None))
    go true lt e = gone-settled n m (over n m true) refl refl k lt e
    go false lt e = gone-settled n m (over n m false) refl refl k lt e

pub same_sending : (m : Channel) → SameSending m m
same_sending m = sending-same m m refl refl

pub same_receiving : (m : Channel) → SameReceiving m m
same_receiving m = record { order = refl; next = refl; acks = refl }
