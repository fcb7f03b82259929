-- What is refused to one who sends tokens, and what is refused of a packet that is not the one that was sent.
use Rattle.std.proofs.Common.{◌≡◌, codes, ◌∷◌, List, [], refl, map}
use Rattle.ibc_ids.specs.declared.refusal.Refusal.TheVariants.{UnknownChannel, WrongPeer, NoConsensus, BadProof, WrongOrder, WrongVersion, NoTimeout, TimeoutPassed, AlreadyReceived, TooLarge, Poor, CloseRefused, TimeBack}
use Rattle.ibc_wire.specs.declared.records.Order.TheVariants.{Ordered}
use Rattle.ibc_wire.specs.declared.packet.Packet.{Packet}
use Rattle.ibc_machine.specs.declared.event.Event.{Event}
use Rattle.ibc_machine.specs.declared.reply.Reply.{Reply}
use Rattle.ibc_machine.specs.chain.Machine.{World}
use Rattle.ibc_machine.specs.ics20.TokenData.{success}
use Rattle.ibc_machine.proofs.Computing.{computing}
use Rattle.ibc_machine.proofs.Scripts.{a, b, second, alice, bob, atom, a_and_b, for_tokens, replies, world_after, update, block, block_at, blocked, done, no, sent, acked}
use Rattle.ibc_machine.proofs.Openings.{with_tokens, begin_channel, close_channel}
use Rattle.ibc_machine.proofs.PacketScripts.{send, send_until, tokens, tokens_until, there, recv}

refused_by_name : replies a_and_b with_tokens
    (send a alice 1001 atom bob ∷ send a alice 0 atom bob ∷ send_until 0 0 a alice 1 atom bob
    ∷ send_until 2 0 a alice 1 atom bob
    ∷ close_channel a for_tokens ∷ begin_channel a (record for_tokens { order = Ordered })
    ∷ begin_channel a (record for_tokens { version = codes "note-1" })
    ∷ send a alice 1 atom bob ∷ block a ∷ recv b (tokens a b 1 alice 1 atom bob) 4 ∷ block_at 99 a ∷ [])
    ≡ no Poor ∷ no TooLarge ∷ no NoTimeout ∷ no TimeoutPassed
    ∷ no CloseRefused ∷ no WrongOrder ∷ no WrongVersion
    ∷ sent 1 ∷ blocked 4 ∷ no NoConsensus ∷ no TimeBack ∷ []
unfolding computing
refused_by_name = refl

-- ---- two packets are sent, and b is told of it

abbrev two_sent : World
two_sent =
    world_after a_and_b with_tokens
    (send a alice 100 atom bob ∷ send a alice 5 atom bob ∷ block a ∷ [])

abbrev five : Packet
five = tokens a b 2 alice 5 atom bob

-- not before the height that shows it, not at one that isn't known, and not with other data, another number or
-- another timeout, nor at another channel or port
not_the_one_that_was_sent : replies a_and_b (world_after a_and_b two_sent (update b a 4 ∷ []))
    (recv b there 3 ∷ recv b there 5 ∷ recv b (tokens a b 1 alice 101 atom bob) 4
    ∷ recv b (tokens a b 3 alice 100 atom bob) 4
    ∷ recv b (tokens_until 1001 0 a b 1 alice 100 atom bob) 4
    ∷ recv b (tokens_until 1000 1000 a b 1 alice 100 atom bob) 4
    ∷ recv b (tokens a (second 1) 1 alice 100 atom bob) 4 ∷ recv b (tokens (second 0) b 1 alice 100 atom bob) 4
    ∷ recv b there 4 ∷ recv b five 4 ∷ [])
    ≡ no BadProof ∷ no NoConsensus ∷ no BadProof ∷ no BadProof
    ∷ no BadProof ∷ no BadProof ∷ no UnknownChannel ∷ no WrongPeer
    ∷ acked success ∷ acked success ∷ []
unfolding computing
not_the_one_that_was_sent = refl

-- ---- the order of messages: none before the update, and each packet once

abbrev told : Event
told = update b a 4

abbrev one : Event
one = recv b there 4

abbrev two : Event
two = recv b five 4

abbrev early : Reply
early = no NoConsensus

abbrev late : Reply
late = no AlreadyReceived

abbrev taken : Reply
taken = acked success

abbrev in_each_order : World → List (List Event) → List (List Reply)
in_each_order world orders = map (replies a_and_b world) orders

in_any_order : in_each_order two_sent
    ((told ∷ one ∷ two ∷ one ∷ []) ∷ (told ∷ two ∷ one ∷ one ∷ []) ∷ (told ∷ one ∷ one ∷ two ∷ [])
    ∷ (one ∷ told ∷ two ∷ one ∷ []) ∷ (one ∷ told ∷ one ∷ two ∷ []) ∷ (two ∷ told ∷ one ∷ one ∷ [])
    ∷ (one ∷ two ∷ told ∷ one ∷ []) ∷ (two ∷ one ∷ told ∷ one ∷ []) ∷ (one ∷ one ∷ told ∷ two ∷ [])
    ∷ (one ∷ two ∷ one ∷ told ∷ []) ∷ (two ∷ one ∷ one ∷ told ∷ []) ∷ (one ∷ one ∷ two ∷ told ∷ []) ∷ [])
    ≡ (done ∷ taken ∷ taken ∷ late ∷ []) ∷ (done ∷ taken ∷ taken ∷ late ∷ []) ∷ (done ∷ taken ∷ late ∷ taken ∷ [])
    ∷ (early ∷ done ∷ taken ∷ taken ∷ []) ∷ (early ∷ done ∷ taken ∷ taken ∷ []) ∷ (early ∷ done ∷ taken ∷ late ∷ [])
    ∷ (early ∷ early ∷ done ∷ taken ∷ []) ∷ (early ∷ early ∷ done ∷ taken ∷ []) ∷ (early ∷ early ∷ done ∷ taken ∷ [])
    ∷ (early ∷ early ∷ early ∷ done ∷ []) ∷ (early ∷ early ∷ early ∷ done ∷ []) ∷ (early ∷ early ∷ early ∷ done ∷ [])
    ∷ []
unfolding computing
in_any_order = refl
