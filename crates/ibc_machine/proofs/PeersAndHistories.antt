-- Which ends are peers, and what happened between them, in the words of the laws.
use Rattle.std.proofs.Common.{◌≡◌, ℕ, true, false, codes, ◌∷◌, ◌++◌, List, [], refl, map, Some, None, Option, take}
use Rattle.std.specs.List.{zip}
use Rattle.ibc_ids.specs.Texts.{Text}
use Rattle.ibc_wire.specs.declared.packet.Packet.{Packet}
use Rattle.ibc_machine.specs.declared.event.Event.{Event}
use Rattle.ibc_machine.specs.chain.Records.{Channel}
use Rattle.ibc_machine.specs.chain.Genesis.{start}
use Rattle.ibc_machine.specs.chain.Machine.{World}
use Rattle.ibc_machine.specs.ics20.TokenData.{success}
use Rattle.ibc_machine.specs.promises.Peers.{are_peers, end_at}
use Rattle.ibc_machine.specs.promises.Histories as history
use Rattle.ibc_machine.specs.promises.Histories.{End, Happened, received_packets, acknowledged_packets, timed_out_packets, sequences}
use Rattle.ibc_machine.proofs.Computing.{computing}
use Rattle.ibc_machine.proofs.Scripts.{Side, Use, a, b, c, second, a_and_b, for_tokens, for_notes, replies, world_after, update, block}
use Rattle.ibc_machine.proofs.Openings.{opening, with_tokens, with_notes}
use Rattle.ibc_machine.proofs.PacketScripts.{note, note_until, noted, noted_until, recv, ack, time_out}

abbrev end_of : Side → Use → End
end_of x it = record { chain = x.number; port = it.port; channel = x.channel }

-- ---- peers

peers_name_each_other :
    are_peers with_tokens (end_of a for_tokens) (end_of b for_tokens)
    ∷ are_peers with_tokens (end_of b for_tokens) (end_of a for_tokens) ∷ []
    ≡ true ∷ true ∷ []
unfolding computing
peers_name_each_other = refl

no_end_is_its_own_peer :
    are_peers with_tokens (end_of a for_tokens) (end_of a for_tokens)
    ∷ are_peers with_tokens (end_of a for_tokens) (end_of b for_notes)
    ∷ are_peers with_tokens (end_of a for_tokens) (end_of (second 1) for_tokens)
    ∷ are_peers with_tokens (end_of a for_tokens) (end_of c for_tokens) ∷ []
    ≡ false ∷ false ∷ false ∷ false ∷ []
unfolding computing
no_end_is_its_own_peer = refl

-- while a channel opens, its ends are peers as soon as the one that began is open
abbrev after_steps : ℕ → World
after_steps n = world_after a_and_b (start a_and_b) (take n (opening a b for_tokens 0 0))

peers_from_the_acknowledgement_on : map (λ n. are_peers (after_steps n) (end_of a for_tokens) (end_of b for_tokens))
    (14 ∷ 16 ∷ 17 ∷ 20 ∷ []) ≡ false ∷ false ∷ true ∷ true ∷ []
unfolding computing
peers_from_the_acknowledgement_on = refl

-- ---- three notes, of which two are received, one is acknowledged and the last times out

abbrev n1 : Text
n1 = codes "n1"

abbrev n2 : Text
n2 = codes "n2"

abbrev n3 : Text
n3 = codes "n3"

abbrev three : List Event
three =
    note a n1 ∷ note_until 9 0 a n2 ∷ note_until 5 0 a n3 ∷ block a ∷ update b a 4
    ∷ recv b (noted_until 9 0 2 n2) 4 ∷ recv b (noted 1 n1) 4 ∷ recv b (noted_until 9 0 2 n2) 4 ∷ recv b (noted 1 n1) 4
    ∷ block b ∷ update a b 3 ∷ ack a (noted 1 n1) success 3 ∷ ack a (noted 1 n1) success 3 ∷ block b ∷ block b
    ∷ update a b 5 ∷ time_out a (noted_until 5 0 3 n3) 3 5 ∷ time_out a (noted_until 5 0 3 n3) 3 5 ∷ []

abbrev happened : List Happened
happened = zip three (replies a_and_b with_notes three)

-- only what was accepted happened, in the order in which it did
two_received : received_packets (end_of b for_notes) happened ≡ noted 1 n1 ∷ noted_until 9 0 2 n2 ∷ []
unfolding computing
two_received = refl

one_acknowledged : acknowledged_packets (end_of a for_notes) happened ≡ noted 1 n1 ∷ []
unfolding computing
one_acknowledged = refl

one_timed_out : timed_out_packets (end_of a for_notes) happened ≡ noted_until 5 0 3 n3 ∷ []
unfolding computing
one_timed_out = refl

-- what was sent is sent as the peer receives it; the peer's name stands in a's own end
abbrev sent_from : Option Channel → List Packet
sent_from (Some mine) = history.sent_packets (end_of a for_notes) mine happened
sent_from None = []

three_sent : sent_from (end_at with_notes (end_of a for_notes))
    ≡ noted 1 n1 ∷ noted_until 9 0 2 n2 ∷ noted_until 5 0 3 n3 ∷ []
unfolding computing
three_sent = refl

nothing_the_other_way :
    sequences (received_packets (end_of a for_notes) happened) ++ sequences (acknowledged_packets (end_of b for_notes) happened)
    ++ sequences (timed_out_packets (end_of b for_notes) happened) ++ sequences (received_packets (end_of b for_tokens) happened)
    ≡ []
unfolding computing
nothing_the_other_way = refl
