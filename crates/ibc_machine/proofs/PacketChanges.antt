-- The steps of packets change a channel that is there, each at some of the channel's keys.
use Rattle.std.proofs.Common.{◌≡◌, ℕ, ◌+◌, ◌&&◌, ◌||◌, ◌<◌, ◌^◌, ◌==◌, nat_lt, lt-ltb, eqb-true, Bool, true, false, List, [], ◌∷◌, map, refl, sym, ap, subst, ◌∙◌, Option, Some, None, option_map, nat_cmp, ◌⊎◌, inl, inr}
use Rattle.std.specs.Prelude.{IsTrue, if◌then◌else◌}
use Rattle.std.specs.List.{AllByRecursion}
use Rattle.std.specs.Cmp.{nat_cmp_total}
use Rattle.std.proofs.lemmas.Bool.{and_from, false≢true, eq-eqb}
use Rattle.ibc_ids.specs.Texts.{Text}
use Rattle.ibc_ids.specs.Maps.{with}
use Rattle.ibc_ids.specs.Names.{is_port, is_channel}
use Rattle.ibc_ids.specs.Paths.{path, is_key}
use Rattle.ibc_ids.specs.declared.key.Key.{Key}
use Rattle.ibc_ids.specs.declared.key.Key.TheVariants as key
use Rattle.ibc_wire.specs.declared.records.ChannelState.TheVariants.{Closed}
use Rattle.ibc_machine.specs.chain.Records.{Core, Channel, Commitment, channel_at, with_channel, is_one_of, with_number}
use Rattle.ibc_machine.specs.ics04.Channels.{in_state}
use Rattle.ibc_machine.specs.ics04.Packets.{is_ordered, after_send, after_receive, without_commitment, after_ack, after_timeout}
use Rattle.ibc_machine.specs.ics04.Parts.{Part, End, NextSend, NextRecv, NextAck, CommitmentOf, ReceiptOf, AckOf, key_of, part_after_receive, part_after_ack, part_after_timeout}
use Rattle.ibc_machine.specs.ics24.Values.{Value, ChannelIs, NumberIs, CommitmentIs, ReceiptIs, AckIs, value_at, receipt_if}
use Rattle.ibc_machine.proofs.FiniteMaps.{by_number, by_pair, at-with_same, at-with_split, named-with}
use Rattle.ibc_machine.proofs.SortedMaps.{Sorted, at-without_same, at-without_other, is_one_of-added, added_there}
use Rattle.ibc_machine.specs.ics24.Image.{IsKeyed}
use Rattle.ibc_machine.proofs.ImageChanges.{Change, ChangesIn, IsApart}
use Rattle.ibc_machine.proofs.ChannelChanges.{end_of, send_of, recv_of, ack_of, commitment_at, receipt_at, acknowledgement_at}

-- what stands at a part of a channel, or of none
abbrev pub part_of : Part → Option Channel → Option Value
part_of End = end_of
part_of NextSend = send_of
part_of NextRecv = recv_of
part_of NextAck = ack_of
part_of (CommitmentOf n) = commitment_at n
part_of (ReceiptOf n) = receipt_at n
part_of (AckOf n) = acknowledgement_at n

-- a part with its new value, or with none
abbrev pub Edit : Type 0
Edit = Part × Option Value

abbrev pub change_of : Text → Text → Edit → Change
change_of port id edit = (key_of port id edit.0, edit.1)

abbrev pub IsListed : Part → List Edit → Type 0
IsListed p [] = ⊥
IsListed p (edit ∷ edits) = (p ≡ edit.0) ⊎ IsListed p edits

-- a channel became another by these edits
pub record EditsOf (port id : Text) (mine after : Channel) (edits : List Edit) : Type 0 where
  pub here : AllByRecursion (λ (edit : Edit). IsTrue (is_key (key_of port id edit.0)) × (part_of edit.0 (Some after) ≡ edit.1)) edits
  pub others : (p : Part) → (part_of p (Some after) ≡ part_of p (Some mine)) ⊎ IsListed p edits

module _ (core : Core) (port id : Text) (mine after : Channel) (edits : List Edit) (stood : channel_at core port id ≡ Some mine) (is : EditsOf port id mine after edits) where
  abbrev new : Core
  new = with_channel port id after core

  look_at : (c : Core) (q r : Text) (p : Part) → value_at c (key_of q r p) ≡ part_of p (channel_at c q r)
  look_at c q r End = refl
  look_at c q r NextSend = refl
  look_at c q r NextRecv = refl
  look_at c q r NextAck = refl
  look_at c q r (CommitmentOf n) = refl
  look_at c q r (ReceiptOf n) = refl
  look_at c q r (AckOf n) = refl

  there : (p : Part) → value_at new (key_of port id p) ≡ part_of p (Some after)
  there p = look_at new port id p ∙ ap (part_of p) (at-with_same by_pair (port, id) after core.channels)

  before : (p : Part) → value_at core (key_of port id p) ≡ part_of p (Some mine)
  before p = look_at core port id p ∙ ap (part_of p) stood

  named : (es : List Edit) → AllByRecursion (λ (e : Edit). IsTrue (is_key (key_of port id e.0)) × (part_of e.0 (Some after) ≡ e.1)) es
      → AllByRecursion (λ (c : Change). IsTrue (is_key c.0) × (value_at new c.0 ≡ c.1)) (map (change_of port id) es)
  named [] here = tt
  named (e ∷ es) here = ((here.0.0, there e.0 ∙ here.0.1), named es here.1)

  listed_key : (p : Part) (es : List Edit) → AllByRecursion (λ (e : Edit). IsTrue (is_key (key_of port id e.0)) × (part_of e.0 (Some after) ≡ e.1)) es
      → IsListed p es → IsTrue (is_key (key_of port id p))
  listed_key p [] here none = absurd none
  listed_key p (e ∷ es) here (inl same) = subst (λ x. IsTrue (is_key (key_of port id x))) (sym same) here.0.0
  listed_key p (e ∷ es) here (inr more) = listed_key p es here.1 more

  clash : (p : Part) (es : List Edit) → IsListed p es → IsApart (path (key_of port id p)) (map (change_of port id) es) → ⊥
  clash p [] none apart = none
  clash p (e ∷ es) (inl same) apart = apart.0 (ap (λ x. path (key_of port id x)) same)
  clash p (e ∷ es) (inr more) apart = clash p es more apart.1

  unlisted : (p : Part) → IsApart (path (key_of port id p)) (map (change_of port id) edits) → part_of p (Some after) ≡ part_of p (Some mine)
  unlisted p apart = elim (is.others p) [
    | inl same ↦ same
    | inr listed ↦ absurd (clash p edits listed apart)
  ]

  part_stays : (q r : Text) (p : Part) → IsApart (path (key_of q r p)) (map (change_of port id) edits) → value_at new (key_of q r p) ≡ value_at core (key_of q r p)
  part_stays q r p apart = elim (at-with_split by_pair (port, id) (q, r) after core.channels) [
    | inl h ↦ subst (λ (n : Text × Text). value_at new (key_of n.0 n.1 p) ≡ value_at core (key_of n.0 n.1 p)) (sym h.0)
        (there p ∙ unlisted p (subst (λ (n : Text × Text). IsApart (path (key_of n.0 n.1 p)) (map (change_of port id) edits)) h.0 apart) ∙ sym (before p))
    | inr h ↦ look_at new q r p ∙ ap (part_of p) h.1 ∙ sym (look_at core q r p)
  ]

  pub changes-with_edits : ChangesIn core new (map (change_of port id) edits)
  changes-with_edits = record { here = named edits is.here; others = others }
    where
      others : (l : Key) → IsApart (path l) (map (change_of port id) edits) → value_at new l ≡ value_at core l
      others (key.ChannelEnd q r) apart = part_stays q r End apart
      others (key.NextSequenceSend q r) apart = part_stays q r NextSend apart
      others (key.NextSequenceRecv q r) apart = part_stays q r NextRecv apart
      others (key.NextSequenceAck q r) apart = part_stays q r NextAck apart
      others (key.Commitment q r n) apart = part_stays q r (CommitmentOf n) apart
      others (key.Receipt q r n) apart = part_stays q r (ReceiptOf n) apart
      others (key.Acknowledgement q r n) apart = part_stays q r (AckOf n) apart
      others l apart = refl

  pub keyed-with_edits : IsKeyed core → IsKeyed new
  keyed-with_edits was = record { keyed = keyed }
    where
      after_key : (p : Part) (v : Value) → part_of p (Some after) ≡ Some v → IsTrue (is_key (key_of port id p))
      after_key p v e = elim (is.others p) [
        | inl same ↦ was.keyed (key_of port id p) v (before p ∙ sym same ∙ e)
        | inr listed ↦ listed_key p edits is.here listed
      ]

      of_part : (q r : Text) (p : Part) (v : Value) → value_at new (key_of q r p) ≡ Some v → IsTrue (is_key (key_of q r p))
      of_part q r p v e =
          named-with by_pair (part_of p) (λ (n : Text × Text). IsTrue (is_key (key_of n.0 n.1 p))) (port, id) (q, r) after core.channels (Some v)
          (after_key p v) (λ f. was.keyed (key_of q r p) v (look_at core q r p ∙ f)) (sym (look_at new q r p) ∙ e)

      keyed : (k : Key) (v : Value) → value_at new k ≡ Some v → IsTrue (is_key k)
      keyed (key.ChannelEnd q r) v e = of_part q r End v e
      keyed (key.NextSequenceSend q r) v e = of_part q r NextSend v e
      keyed (key.NextSequenceRecv q r) v e = of_part q r NextRecv v e
      keyed (key.NextSequenceAck q r) v e = of_part q r NextAck v e
      keyed (key.Commitment q r n) v e = of_part q r (CommitmentOf n) v e
      keyed (key.Receipt q r n) v e = of_part q r (ReceiptOf n) v e
      keyed (key.Acknowledgement q r n) v e = of_part q r (AckOf n) v e
      keyed k v e = was.keyed k v e

-- ---- the edits of each step

-- a part with its new value
abbrev pub set_part : Part × Value → Edit
set_part entry = (entry.0, Some entry.1)

abbrev pub edits_of_send : Commitment → Channel → List Edit
edits_of_send c mine =
    (CommitmentOf mine.next_send, Some (CommitmentIs c)) ∷ (NextSend, Some (NumberIs (mine.next_send + 1))) ∷ []

abbrev pub edits_of_receive : ℕ → Text → Channel → List Edit
edits_of_receive n ack mine = (AckOf n, Some (AckIs ack)) ∷ set_part (part_after_receive n mine) ∷ []

abbrev pub edits_of_settling : ℕ → Option (Part × Value) → List Edit
edits_of_settling n None = (CommitmentOf n, None) ∷ []
edits_of_settling n (Some entry) = (CommitmentOf n, None) ∷ set_part entry ∷ []

module _ (port id : Text) (mine : Channel) (named : IsTrue (is_port port && is_channel id)) where
  of_packet : (n : ℕ) → n < 2 ^ 64 → IsTrue (is_port port && is_channel id && nat_lt n (2 ^ 64))
  of_packet n fits = and_from (is_port port && is_channel id) (nat_lt n (2 ^ 64)) named (lt-ltb n (2 ^ 64) fits)

  pub edits-after_send : (c : Commitment) → mine.next_send < 2 ^ 64 → EditsOf port id mine (after_send c mine) (edits_of_send c mine)
  edits-after_send c fits = record {
    here = ((of_packet mine.next_send fits, ap (option_map CommitmentIs) (at-with_same by_number mine.next_send c mine.commitments)), ((named, refl), tt));
    others = others;
  }
    where
      others : (p : Part) → (part_of p (Some (after_send c mine)) ≡ part_of p (Some mine)) ⊎ IsListed p (edits_of_send c mine)
      others End = inl refl
      others NextSend = inr (inr (inl refl))
      others NextRecv = inl refl
      others NextAck = inl refl
      others (CommitmentOf m) = elim (at-with_split by_number mine.next_send m c mine.commitments) [
        | inl h ↦ inr (inl (ap CommitmentOf h.0))
        | inr h ↦ inl (ap (option_map CommitmentIs) h.1)
      ]
      others (ReceiptOf m) = inl refl
      others (AckOf m) = inl refl

  -- ---- receiving

  abbrev acked : ℕ → Text → Channel
  acked n ack = record mine { acks = with nat_cmp n ack mine.acks }

  ack_at : (n m : ℕ) (ack : Text) → (part_of (AckOf m) (Some (acked n ack)) ≡ part_of (AckOf m) (Some mine)) ⊎ (AckOf m ≡ AckOf n)
  ack_at n m ack = elim (at-with_split by_number n m ack mine.acks) [
    | inl h ↦ inr (ap AckOf h.0)
    | inr h ↦ inl (ap (option_map AckIs) h.1)
  ]

  receipt_among : (n m : ℕ) (b : Bool) → (n == m) ≡ b
      → (receipt_if (is_one_of (with_number n mine.receipts) m) ≡ receipt_if (is_one_of mine.receipts m)) ⊎ (ReceiptOf m ≡ ReceiptOf n)
  receipt_among n m true is = inr (ap ReceiptOf (sym (eqb-true n m is)))
  receipt_among n m false is = inl (ap receipt_if (is_one_of-added n m mine.receipts ∙ ap (λ b. b || is_one_of mine.receipts m) is))

  pub edits-after_receive : (n : ℕ) (ack : Text) → n < 2 ^ 64 → EditsOf port id mine (after_receive n ack mine) (edits_of_receive n ack mine)
  edits-after_receive n ack fits = by_order (is_ordered mine)
    where
      after_by : Bool → Channel
      after_by b = if b then record (acked n ack) { next_recv = mine.next_recv + 1 } else record (acked n ack) { receipts = with_number n mine.receipts }

      edits_by : Bool → List Edit
      edits_by b = (AckOf n, Some (AckIs ack)) ∷ set_part (if b then (NextRecv, NumberIs (mine.next_recv + 1)) else (ReceiptOf n, ReceiptIs)) ∷ []

      here_ack : part_of (AckOf n) (Some (acked n ack)) ≡ Some (AckIs ack)
      here_ack = ap (option_map AckIs) (at-with_same by_number n ack mine.acks)

      in_order : (p : Part) → (part_of p (Some (after_by true)) ≡ part_of p (Some mine)) ⊎ IsListed p (edits_by true)
      in_order End = inl refl
      in_order NextSend = inl refl
      in_order NextRecv = inr (inr (inl refl))
      in_order NextAck = inl refl
      in_order (CommitmentOf m) = inl refl
      in_order (ReceiptOf m) = inl refl
      in_order (AckOf m) = elim (ack_at n m ack) [ inl same ↦ inl same | inr is ↦ inr (inl is) ]

      in_any : (p : Part) → (part_of p (Some (after_by false)) ≡ part_of p (Some mine)) ⊎ IsListed p (edits_by false)
      in_any End = inl refl
      in_any NextSend = inl refl
      in_any NextRecv = inl refl
      in_any NextAck = inl refl
      in_any (CommitmentOf m) = inl refl
      in_any (ReceiptOf m) = elim (receipt_among n m (n == m) refl) [ inl same ↦ inl same | inr is ↦ inr (inr (inl is)) ]
      in_any (AckOf m) = elim (ack_at n m ack) [ inl same ↦ inl same | inr is ↦ inr (inl is) ]

      by_order : (b : Bool) → EditsOf port id mine (after_by b) (edits_by b)
      by_order true = record { here = ((of_packet n fits, here_ack), ((named, refl), tt)); others = in_order }
      by_order false = record {
        here = ((of_packet n fits, here_ack), ((of_packet n fits, ap receipt_if (added_there n mine.receipts)), tt));
        others = in_any;
      }

  -- ---- settling

  module _ (n : ℕ) (fits : n < 2 ^ 64) (sorted : Sorted nat_cmp mine.commitments) where
    abbrev settled : Channel
    settled = without_commitment n mine

    gone : part_of (CommitmentOf n) (Some settled) ≡ None
    gone = ap (option_map CommitmentIs) (at-without_same nat_cmp_total by_number n mine.commitments sorted)

    among : (m : ℕ) (b : Bool) → (m == n) ≡ b
        → (part_of (CommitmentOf m) (Some settled) ≡ part_of (CommitmentOf m) (Some mine)) ⊎ (CommitmentOf m ≡ CommitmentOf n)
    among m true is = inr (ap CommitmentOf (eqb-true m n is))
    among m false is = inl (ap (option_map CommitmentIs) (at-without_other nat_cmp_total by_number n m mine.commitments (λ same. false≢true (sym is ∙ eq-eqb m n same))))

    only_settled : EditsOf port id mine settled (edits_of_settling n None)
    only_settled = record { here = ((of_packet n fits, gone), tt); others = others }
      where
        others : (p : Part) → (part_of p (Some settled) ≡ part_of p (Some mine)) ⊎ IsListed p (edits_of_settling n None)
        others End = inl refl
        others NextSend = inl refl
        others NextRecv = inl refl
        others NextAck = inl refl
        others (CommitmentOf m) = elim (among m (m == n) refl) [ inl same ↦ inl same | inr is ↦ inr (inl is) ]
        others (ReceiptOf m) = inl refl
        others (AckOf m) = inl refl

    pub edits-after_ack : EditsOf port id mine (after_ack n mine) (edits_of_settling n (part_after_ack mine))
    edits-after_ack = by_order (is_ordered mine)
      where
        after_by : Bool → Channel
        after_by b = if b then record settled { next_ack = mine.next_ack + 1 } else settled

        edits_by : Bool → List Edit
        edits_by b = edits_of_settling n (if b then Some (NextAck, NumberIs (mine.next_ack + 1)) else None)

        in_order : (p : Part) → (part_of p (Some (after_by true)) ≡ part_of p (Some mine)) ⊎ IsListed p (edits_by true)
        in_order End = inl refl
        in_order NextSend = inl refl
        in_order NextRecv = inl refl
        in_order NextAck = inr (inr (inl refl))
        in_order (CommitmentOf m) = elim (among m (m == n) refl) [ inl same ↦ inl same | inr is ↦ inr (inl is) ]
        in_order (ReceiptOf m) = inl refl
        in_order (AckOf m) = inl refl

        by_order : (b : Bool) → EditsOf port id mine (after_by b) (edits_by b)
        by_order true = record { here = ((of_packet n fits, gone), ((named, refl), tt)); others = in_order }
        by_order false = only_settled

    pub edits-after_timeout : EditsOf port id mine (after_timeout n mine) (edits_of_settling n (part_after_timeout mine))
    edits-after_timeout = by_order (is_ordered mine)
      where
        after_by : Bool → Channel
        after_by b = if b then in_state Closed settled else settled

        edits_by : Bool → List Edit
        edits_by b = edits_of_settling n (if b then Some (End, ChannelIs (record mine.end { state = Closed })) else None)

        in_order : (p : Part) → (part_of p (Some (after_by true)) ≡ part_of p (Some mine)) ⊎ IsListed p (edits_by true)
        in_order End = inr (inr (inl refl))
        in_order NextSend = inl refl
        in_order NextRecv = inl refl
        in_order NextAck = inl refl
        in_order (CommitmentOf m) = elim (among m (m == n) refl) [ inl same ↦ inl same | inr is ↦ inr (inl is) ]
        in_order (ReceiptOf m) = inl refl
        in_order (AckOf m) = inl refl

        by_order : (b : Bool) → EditsOf port id mine (after_by b) (edits_by b)
        by_order true = record { here = ((of_packet n fits, gone), ((named, refl), tt)); others = in_order }
        by_order false = only_settled
