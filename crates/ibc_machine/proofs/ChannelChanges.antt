-- The steps that change a channel of a core: a new channel, on which no packets stand, and another end.
use Rattle.std.proofs.Common.{◌≡◌, ℕ, List, [], ◌∷◌, refl, sym, ap, ◌∙◌, ◌&&◌, Option, Some, None, option_map, option_and_then}
use Rattle.std.specs.Prelude.{IsTrue}
use Rattle.std.specs.Ordering.{nat_cmp}
use Rattle.ibc_ids.specs.Texts.{Text}
use Rattle.ibc_ids.specs.Maps.{at}
use Rattle.ibc_ids.specs.Names.{is_port, is_channel}
use Rattle.ibc_ids.specs.Paths.{path, is_key}
use Rattle.ibc_ids.specs.declared.key.Key.{Key}
use Rattle.ibc_ids.specs.declared.key.Key.TheVariants as key
use Rattle.ibc_wire.specs.declared.records.ChannelEnd.{ChannelEnd}
use Rattle.ibc_machine.specs.chain.Records.{Core, Channel, channel_at, with_channel, is_one_of}
use Rattle.ibc_machine.specs.ics04.Channels.{new_channel}
use Rattle.ibc_machine.specs.ics24.Values.{Value, ChannelIs, NumberIs, CommitmentIs, AckIs, value_at, receipt_if}
use Rattle.ibc_machine.proofs.FiniteMaps.{by_pair, at-with_same, at-with_other, named-with, told-with}
use Rattle.ibc_machine.specs.ics24.Image.{IsKeyed}
use Rattle.ibc_machine.proofs.ImageChanges.{Change, ChangesAt, ChangesIn, IsApart}

-- what a channel tells, by the kind of the key
abbrev pub end_of : Option Channel → Option Value
end_of = option_map (λ (c : Channel). ChannelIs c.end)

abbrev pub send_of : Option Channel → Option Value
send_of = option_map (λ (c : Channel). NumberIs c.next_send)

abbrev pub recv_of : Option Channel → Option Value
recv_of = option_map (λ (c : Channel). NumberIs c.next_recv)

abbrev pub ack_of : Option Channel → Option Value
ack_of = option_map (λ (c : Channel). NumberIs c.next_ack)

abbrev pub commitment_at : ℕ → Option Channel → Option Value
commitment_at n = option_and_then (λ (c : Channel). option_map CommitmentIs (at nat_cmp n c.commitments))

abbrev pub receipt_at : ℕ → Option Channel → Option Value
receipt_at n = option_and_then (λ (c : Channel). receipt_if (is_one_of c.receipts n))

abbrev pub acknowledgement_at : ℕ → Option Channel → Option Value
acknowledgement_at n = option_and_then (λ (c : Channel). option_map AckIs (at nat_cmp n c.acks))

-- ---- another end of a channel that is there

module _ (core : Core) (port id : Text) (channel : Channel) (end : ChannelEnd) (stood : channel_at core port id ≡ Some channel) where
  abbrev after : Channel
  after = record channel { end = end }

  told : (f : Option Channel → Option Value) (q r : Text) → f (Some after) ≡ f (Some channel)
      → f (channel_at (with_channel port id after core) q r) ≡ f (channel_at core q r)
  told f q r same = told-with by_pair f (port, id) (q, r) after core.channels (same ∙ ap f (sym stood))

  pub changes-with_channel_end : ChangesAt core (with_channel port id after core) (key.ChannelEnd port id) (ChannelIs end)
  changes-with_channel_end = record { here = ap end_of (at-with_same by_pair (port, id) after core.channels); others = others }
    where
      others : (l : Key) → (path l ≡ path (key.ChannelEnd port id) → ⊥) → value_at (with_channel port id after core) l ≡ value_at core l
      others (key.ChannelEnd q r) apart =
          ap end_of (at-with_other by_pair (port, id) (q, r) after core.channels (λ same. apart (ap (λ (n : Text × Text). path (key.ChannelEnd n.0 n.1)) same)))
      others (key.NextSequenceSend q r) apart = told send_of q r refl
      others (key.NextSequenceRecv q r) apart = told recv_of q r refl
      others (key.NextSequenceAck q r) apart = told ack_of q r refl
      others (key.Commitment q r n) apart = told (commitment_at n) q r refl
      others (key.Receipt q r n) apart = told (receipt_at n) q r refl
      others (key.Acknowledgement q r n) apart = told (acknowledgement_at n) q r refl
      others l apart = refl

  pub keyed-with_channel_end : IsKeyed core → IsTrue (is_port port && is_channel id) → IsKeyed (with_channel port id after core)
  keyed-with_channel_end before named = record { keyed = keyed }
    where
      still : (f : Option Channel → Option Value) (q r : Text) (v : Value) → f (Some after) ≡ f (Some channel)
          → f (channel_at (with_channel port id after core) q r) ≡ Some v → f (channel_at core q r) ≡ Some v
      still f q r v same e = sym (told f q r same) ∙ e

      keyed : (k : Key) (v : Value) → value_at (with_channel port id after core) k ≡ Some v → IsTrue (is_key k)
      keyed (key.ChannelEnd q r) v e =
          named-with by_pair end_of (λ (n : Text × Text). IsTrue (is_port n.0 && is_channel n.1)) (port, id) (q, r) after core.channels (Some v)
          (λ _. named) (before.keyed (key.ChannelEnd q r) v) e
      keyed (key.NextSequenceSend q r) v e = before.keyed (key.NextSequenceSend q r) v (still send_of q r v refl e)
      keyed (key.NextSequenceRecv q r) v e = before.keyed (key.NextSequenceRecv q r) v (still recv_of q r v refl e)
      keyed (key.NextSequenceAck q r) v e = before.keyed (key.NextSequenceAck q r) v (still ack_of q r v refl e)
      keyed (key.Commitment q r n) v e = before.keyed (key.Commitment q r n) v (still (commitment_at n) q r v refl e)
      keyed (key.Receipt q r n) v e = before.keyed (key.Receipt q r n) v (still (receipt_at n) q r v refl e)
      keyed (key.Acknowledgement q r n) v e = before.keyed (key.Acknowledgement q r n) v (still (acknowledgement_at n) q r v refl e)
      keyed k v e = before.keyed k v e

-- ---- a new channel

-- no packets stand on a channel
pub record HasNoPackets (channel : Channel) : Type 0 where
  pub commitments : channel.commitments ≡ []
  pub receipts : channel.receipts ≡ []
  pub acks : channel.acks ≡ []

-- the end and the three counters of a new channel
abbrev pub new_channel_at : Text → Text → ChannelEnd → List Change
new_channel_at port id end =
    (key.ChannelEnd port id, Some (ChannelIs end)) ∷ (key.NextSequenceSend port id, Some (NumberIs 1))
    ∷ (key.NextSequenceRecv port id, Some (NumberIs 1)) ∷ (key.NextSequenceAck port id, Some (NumberIs 1)) ∷ []

module _ (core : Core) (port id : Text) (end : ChannelEnd) (quiet : (channel : Channel) → channel_at core port id ≡ Some channel → HasNoPackets channel) where
  abbrev new : Core
  new = with_channel port id (new_channel end) core

  -- a packet's record that a channel without packets doesn't have
  unsent : (f : Option Channel → Option Value) → f None ≡ None → ((c : Channel) → HasNoPackets c → f (Some c) ≡ None) → (q r : Text)
      → f (Some (new_channel end)) ≡ None → f (channel_at new q r) ≡ f (channel_at core q r)
  unsent f none empty q r first =
      told-with by_pair f (port, id) (q, r) (new_channel end) core.channels (first ∙ sym (go (channel_at core port id) refl))
    where
      go : (o : Option Channel) → channel_at core port id ≡ o → f o ≡ None
      go None is = none
      go (Some c) is = empty c (quiet c is)

  no_commitment : (n : ℕ) (q r : Text) → value_at new (key.Commitment q r n) ≡ value_at core (key.Commitment q r n)
  no_commitment n q r =
      unsent (commitment_at n) refl (λ c none. ap (λ commitments. option_map CommitmentIs (at nat_cmp n commitments)) none.commitments) q r refl

  no_receipt : (n : ℕ) (q r : Text) → value_at new (key.Receipt q r n) ≡ value_at core (key.Receipt q r n)
  no_receipt n q r = unsent (receipt_at n) refl (λ c none. ap (λ receipts. receipt_if (is_one_of receipts n)) none.receipts) q r refl

  no_acknowledgement : (n : ℕ) (q r : Text) → value_at new (key.Acknowledgement q r n) ≡ value_at core (key.Acknowledgement q r n)
  no_acknowledgement n q r =
      unsent (acknowledgement_at n) refl (λ c none. ap (λ acks. option_map AckIs (at nat_cmp n acks)) none.acks) q r refl

  other : (f : Option Channel → Option Value) (k : Text × Text → Key) (q r : Text) → (path (k (q, r)) ≡ path (k (port, id)) → ⊥)
      → f (channel_at new q r) ≡ f (channel_at core q r)
  other f k q r apart =
      ap f (at-with_other by_pair (port, id) (q, r) (new_channel end) core.channels (λ same. apart (ap (λ n. path (k n)) same)))

  pub changes-with_new_channel : IsTrue (is_port port && is_channel id) → ChangesIn core new (new_channel_at port id end)
  changes-with_new_channel named =
      let there = at-with_same by_pair (port, id) (new_channel end) core.channels in
      record {
        here = ((named, ap end_of there), ((named, ap send_of there), ((named, ap recv_of there), ((named, ap ack_of there), tt))));
        others = others;
      }
    where
      others : (l : Key) → IsApart (path l) (new_channel_at port id end) → value_at new l ≡ value_at core l
      others (key.ChannelEnd q r) apart = other end_of (λ n. key.ChannelEnd n.0 n.1) q r apart.0
      others (key.NextSequenceSend q r) apart = other send_of (λ n. key.NextSequenceSend n.0 n.1) q r apart.1.0
      others (key.NextSequenceRecv q r) apart = other recv_of (λ n. key.NextSequenceRecv n.0 n.1) q r apart.1.1.0
      others (key.NextSequenceAck q r) apart = other ack_of (λ n. key.NextSequenceAck n.0 n.1) q r apart.1.1.1.0
      others (key.Commitment q r n) apart = no_commitment n q r
      others (key.Receipt q r n) apart = no_receipt n q r
      others (key.Acknowledgement q r n) apart = no_acknowledgement n q r
      others l apart = refl

  pub keyed-with_new_channel : IsKeyed core → IsTrue (is_port port && is_channel id) → IsKeyed new
  keyed-with_new_channel before named = record { keyed = keyed }
    where
      by_name : (f : Option Channel → Option Value) (q r : Text) (v : Value) → (f (channel_at core q r) ≡ Some v → IsTrue (is_port q && is_channel r))
          → f (channel_at new q r) ≡ Some v → IsTrue (is_port q && is_channel r)
      by_name f q r v was e =
          named-with by_pair f (λ (n : Text × Text). IsTrue (is_port n.0 && is_channel n.1)) (port, id) (q, r) (new_channel end) core.channels (Some v)
          (λ _. named) was e

      keyed : (k : Key) (v : Value) → value_at new k ≡ Some v → IsTrue (is_key k)
      keyed (key.ChannelEnd q r) v e = by_name end_of q r v (before.keyed (key.ChannelEnd q r) v) e
      keyed (key.NextSequenceSend q r) v e = by_name send_of q r v (before.keyed (key.NextSequenceSend q r) v) e
      keyed (key.NextSequenceRecv q r) v e = by_name recv_of q r v (before.keyed (key.NextSequenceRecv q r) v) e
      keyed (key.NextSequenceAck q r) v e = by_name ack_of q r v (before.keyed (key.NextSequenceAck q r) v) e
      keyed (key.Commitment q r n) v e = before.keyed (key.Commitment q r n) v (sym (no_commitment n q r) ∙ e)
      keyed (key.Receipt q r n) v e = before.keyed (key.Receipt q r n) v (sym (no_receipt n q r) ∙ e)
      keyed (key.Acknowledgement q r n) v e = before.keyed (key.Acknowledgement q r n) v (sym (no_acknowledgement n q r) ∙ e)
      keyed k v e = before.keyed k v e
