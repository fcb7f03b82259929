-- Channels stay in the order of their names, and their ends in order, as channels come and packets pass.
use Rattle.std.proofs.Common.{◌≡◌, ℕ, ◌+◌, ◌<◌, ◌≤◌, ◌^◌, ◌==◌, eqb-true, arith, Bool, true, false, List, Option, Some, None, refl, sym, ap, subst, ◌∙◌, inl, inr}
use Rattle.std.specs.Prelude.{if◌then◌else◌}
use Rattle.std.specs.Cmp.{nat_cmp_total}
use Rattle.std.specs.FinMap.{is_sorted}
use Rattle.std.specs.Ordering.{nat_cmp}
use Rattle.std.proofs.lemmas.Bool.{false≢true, eq-eqb}
use Rattle.ibc_ids.specs.Texts.{Text, pair_cmp}
use Rattle.ibc_ids.specs.Maps.{at, with, without}
use Rattle.ibc_ids.specs.Paths.{nth_channel}
use Rattle.ibc_wire.specs.declared.records.ChannelEnd.{ChannelEnd}
use Rattle.ibc_wire.specs.declared.records.ChannelState.TheVariants.{Closed}
use Rattle.ibc_machine.specs.chain.Records.{Channel, Commitment, with_number}
use Rattle.ibc_machine.specs.ics04.Channels.{new_channel, in_state}
use Rattle.ibc_machine.specs.ics04.Packets.{is_ordered, after_send, after_receive, without_commitment, after_ack, after_timeout}
use Rattle.ibc_machine.proofs.FiniteMaps.{by_number, by_pair, pair_cmp_total, at-with_other, found_in_with}
use Rattle.ibc_machine.proofs.SortedMaps.{Sorted-from, Sorted-to, Sorted-with, Sorted-without, at-without_same, at-without_other}
use Rattle.ibc_machine.proofs.Identifiers.{nth_channel_same}
use Rattle.ibc_machine.specs.chain.Orderly.{IsOrderly, IsOrderlyEnd}
use Rattle.ibc_records.specs.RecordsModel.{RecordsModel, IsSoundRecords, AreNumberedBelow, AreOrderly, core_of}

-- ---- an end, step by step

pub orderly_new : (end : ChannelEnd) → IsOrderlyEnd (new_channel end)
orderly_new end = record { sorted = refl; unsent = λ n above. refl }

-- what else the end has doesn't matter
pub orderly_alike : (mine other : Channel) → other.commitments ≡ mine.commitments → other.next_send ≡ mine.next_send → IsOrderlyEnd mine → IsOrderlyEnd other
orderly_alike mine other commitments next was = record {
  sorted = ap (is_sorted nat_cmp) commitments ∙ was.sorted;
  unsent = λ n above. ap (at nat_cmp n) commitments ∙ was.unsent n (subst (λ m. m ≤ n) next above);
}

module _ (mine : Channel) (was : IsOrderlyEnd mine) where
  pub orderly_sent : (c : Commitment) → IsOrderlyEnd (after_send c mine)
  orderly_sent c = record {
    sorted = Sorted-to nat_cmp (with nat_cmp mine.next_send c mine.commitments) (Sorted-with nat_cmp_total by_number mine.next_send c mine.commitments (Sorted-from nat_cmp mine.commitments was.sorted));
    unsent = unsent;
  }
    where
      unsent : (n : ℕ) → mine.next_send + 1 ≤ n → at nat_cmp n (with nat_cmp mine.next_send c mine.commitments) ≡ None
      unsent n above =
          let sent : mine.next_send ≤ n = omega (arith, above) in
          at-with_other by_number mine.next_send n c mine.commitments (λ same. omega (arith, above, same)) ∙ was.unsent n sent

  pub orderly_received : (n : ℕ) (ack : Text) → IsOrderlyEnd (after_receive n ack mine)
  orderly_received n ack = by_order (is_ordered mine)
    where
      acked : Channel
      acked = record mine { acks = with nat_cmp n ack mine.acks }

      by_order : (b : Bool) → IsOrderlyEnd (if b then record acked { next_recv = mine.next_recv + 1 } else record acked { receipts = with_number n mine.receipts })
      by_order true = orderly_alike mine (record acked { next_recv = mine.next_recv + 1 }) refl refl was
      by_order false = orderly_alike mine (record acked { receipts = with_number n mine.receipts }) refl refl was

  -- a packet is settled
  module _ (n : ℕ) where
    abbrev settled : Channel
    settled = without_commitment n mine

    orderly_settled : IsOrderlyEnd settled
    orderly_settled = record {
      sorted = Sorted-to nat_cmp (without nat_cmp n mine.commitments) (Sorted-without nat_cmp_total by_number n mine.commitments (Sorted-from nat_cmp mine.commitments was.sorted));
      unsent = λ m above. gone m (m == n) refl (was.unsent m above);
    }
      where
        gone : (m : ℕ) (b : Bool) → (m == n) ≡ b → at nat_cmp m mine.commitments ≡ None → at nat_cmp m (without nat_cmp n mine.commitments) ≡ None
        gone m true is none =
            subst (λ x. at nat_cmp x (without nat_cmp n mine.commitments) ≡ None) (sym (eqb-true m n is))
            (at-without_same nat_cmp_total by_number n mine.commitments (Sorted-from nat_cmp mine.commitments was.sorted))
        gone m false is none = at-without_other nat_cmp_total by_number n m mine.commitments (λ same. false≢true (sym is ∙ eq-eqb m n same)) ∙ none

    pub orderly_acknowledged : IsOrderlyEnd (after_ack n mine)
    orderly_acknowledged = by_order (is_ordered mine)
      where
        by_order : (b : Bool) → IsOrderlyEnd (if b then record settled { next_ack = mine.next_ack + 1 } else settled)
        by_order true = orderly_alike settled (record settled { next_ack = mine.next_ack + 1 }) refl refl orderly_settled
        by_order false = orderly_settled

    pub orderly_timed_out : IsOrderlyEnd (after_timeout n mine)
    orderly_timed_out = by_order (is_ordered mine)
      where
        by_order : (b : Bool) → IsOrderlyEnd (if b then in_state Closed settled else settled)
        by_order true = orderly_alike settled (in_state Closed settled) refl refl orderly_settled
        by_order false = orderly_settled

-- ---- the channels

abbrev pub Channels : Type 0
Channels = List ((Text × Text) × Channel)

-- one channel, new or changed
pub still_orderly : (next : ℕ) (channels : Channels) (name : Text × Text) (channel : Channel) → AreOrderly next channels
    → (n : ℕ) × (n < next) × (name.1 ≡ nth_channel n) → IsOrderlyEnd channel → AreOrderly next (with pair_cmp name channel channels)
still_orderly next channels name channel was new end = record {
  sorted = Sorted-to pair_cmp (with pair_cmp name channel channels) (Sorted-with pair_cmp_total by_pair name channel channels (Sorted-from pair_cmp channels was.sorted));
  numbered = λ port id c found. elim (found_in_with by_pair name (port, id) channel c channels found) [
    | inl h ↦ (new.0, new.1, ap (λ (x : Text × Text). x.1) h.0 ∙ new.2)
    | inr h ↦ was.numbered port id c h
  ];
  ends = λ port id c found. elim (found_in_with by_pair name (port, id) channel c channels found) [
    | inl h ↦ subst IsOrderlyEnd h.1 end
    | inr h ↦ was.ends port id c h
  ];
}

-- a channel that is there again
pub still_there : (old : RecordsModel) (port id : Text) (mine channel : Channel) → IsSoundRecords old → at pair_cmp (port, id) old.channels ≡ Some mine → IsOrderlyEnd channel
    → AreOrderly old.next_channel (with pair_cmp (port, id) channel old.channels)
still_there old port id mine channel held stood =
    still_orderly old.next_channel old.channels (port, id) channel held.orderly (held.orderly.numbered port id mine stood)

-- one number more
pub counted : (next : ℕ) (channels : Channels) → AreOrderly next channels → AreOrderly (next + 1) channels
counted next channels was = record { sorted = was.sorted; numbered = numbered; ends = was.ends }
  where
    numbered : AreNumberedBelow (next + 1) channels
    numbered port id c found =
        let given = was.numbered port id c found in
        let less : given.0 < next + 1 = omega (arith, given.1) in
        (given.0, less, given.2)

-- the next name is free
pub is_free : (next : ℕ) (channels : Channels) → AreOrderly next channels → next < 2 ^ 64 → (port id : Text) → id ≡ nth_channel next → (c : Channel)
    → at pair_cmp (port, id) channels ≡ Some c → ⊥
is_free next channels was fits port id is c found =
    let given = was.numbered port id c found in
    let given_fits : given.0 < 2 ^ 64 = omega (arith, fits, given.1) in
    let same : next ≡ given.0 = nth_channel_same next given.0 fits given_fits (sym is ∙ given.2) in
    omega (arith, same, given.1)

-- so records are in order
pub orderly_core : (held : RecordsModel) → IsSoundRecords held → held.next_channel < 2 ^ 64 → IsOrderly (core_of held)
orderly_core held is fits = record { sorted = is.orderly.sorted; free = free; ends = is.orderly.ends }
  where
    free : (port : Text) → at pair_cmp (port, nth_channel held.next_channel) held.channels ≡ None
    free port = by_entry (at pair_cmp (port, nth_channel held.next_channel) held.channels) refl
      where
        by_entry : (found : Option Channel) → at pair_cmp (port, nth_channel held.next_channel) held.channels ≡ found → found ≡ None
        by_entry None is_found = refl
        by_entry (Some c) is_found = absurd (is_free held.next_channel held.channels is.orderly fits port (nth_channel held.next_channel) refl c is_found)
