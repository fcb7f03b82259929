-- What the code finds of the own end, beside the definitions' words for it.
use Rattle.std.proofs.Common.{◌≡◌, ◌&&◌, ◌||◌, ◌≤◌, ℕ, Bool, true, false, nat_lt, eqb, ltb-false, Some, sym, ap, ◌∙◌, if◌then◌else◌}
use Rattle.std.specs.Str.{bytes_eq}
use Rattle.ibc_ids.specs.Texts.{Text, same_text}
use Rattle.ibc_ids.specs.declared.key.Key.TheVariants as key
use Rattle.ibc_wire.specs.declared.packet.Packet.{Packet}
use Rattle.ibc_wire.specs.declared.records.ChannelEnd.{ChannelEnd}
use Rattle.ibc_machine.specs.chain.Records.{Channel, Commitment}
use Rattle.ibc_machine.specs.ics24.Values.{NumberIs, present_claim, absent_claim, same_optional, same_commitment}
use Rattle.ibc_machine.specs.ics04.Packets.{has_peer, is_ordered, not_received}
use Rattle.ibc_records.proofs.FoundRows.{bytes_eq-same}

pub peer_named : (mine : Channel) (port channel : Text) (end : ChannelEnd) (peer : Text) → end ≡ mine.end → end.peer_channel ≡ Some peer
    → (bytes_eq port end.peer_port && bytes_eq peer channel) ≡ has_peer mine port channel
peer_named mine port channel end peer same named =
    (λ i. bytes_eq-same port end.peer_port i && bytes_eq-same peer channel i)
    ∙ (λ i. same_text port end.peer_port && same_optional (sym named i) (Some channel))
    ∙ ap (λ (e : ChannelEnd). same_text port e.peer_port && same_optional e.peer_channel (Some channel)) same

pub same_payload : (a b : Commitment) → (bytes_eq a.payload b.payload && eqb a.timeout_height b.timeout_height && eqb a.timeout_time b.timeout_time) ≡ same_commitment a b
same_payload a b = ap (λ t. t && eqb a.timeout_height b.timeout_height && eqb a.timeout_time b.timeout_time) (bytes_eq-same a.payload b.payload)

-- an ordered end hasn't gone past a sequence that is no repeat
pub not_gone_past : (receipt ordered : Bool) (n next : ℕ) → false ≡ (receipt || (ordered && nat_lt n next)) → ordered ≡ true → next ≤ n
not_gone_past true ordered n next fresh is = absurd (cc fresh)
not_gone_past false false n next fresh is = absurd (cc is)
not_gone_past false true n next fresh is = ltb-false n next (sym fresh)

-- what the peer must show, by the order of the end
module _ (mine : Channel) (p : Packet) (next_recv : ℕ) where
  pub not_received_in_order : true ≡ is_ordered mine → present_claim (key.NextSequenceRecv p.destination_port p.destination_channel) (NumberIs next_recv) ≡ not_received mine p next_recv
  not_received_in_order ordered = λ i.
      if ordered i then present_claim (key.NextSequenceRecv p.destination_port p.destination_channel) (NumberIs next_recv)
      else absent_claim (key.Receipt p.destination_port p.destination_channel p.sequence)

  pub not_received_in_any_order : false ≡ is_ordered mine → absent_claim (key.Receipt p.destination_port p.destination_channel p.sequence) ≡ not_received mine p next_recv
  not_received_in_any_order unordered = λ i.
      if unordered i then present_claim (key.NextSequenceRecv p.destination_port p.destination_channel) (NumberIs next_recv)
      else absent_claim (key.Receipt p.destination_port p.destination_channel p.sequence)
