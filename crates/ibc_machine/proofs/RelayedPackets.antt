-- What a relayer plans from the views of two chains, and that it is accepted with its true roots and written proofs.
use Rattle.std.proofs.Common.{◌≡◌, ℕ, List, [], ◌∷◌, ◌++◌, map, refl, unwrap_or, slice_get}
use Rattle.ibc_ids.specs.Texts.{Text}
use Rattle.ibc_ids.specs.declared.key.Key.TheVariants as key
use Rattle.ibc_ids.specs.declared.refusal.Refusal.TheVariants.{BadProof, BadMessage}
use Rattle.ibc_wire.specs.declared.packet.Packet.{Packet}
use Rattle.ibc_wire.specs.declared.messages.Message.TheVariants as message
use Rattle.ibc_machine.specs.declared.event.Event.{Event}
use Rattle.ibc_machine.specs.declared.event.Event.TheVariants as event
use Rattle.ibc_machine.specs.chain.Machine.{World, true_marks}
use Rattle.ibc_machine.specs.ledger.Replay.{empty_chain}
use Rattle.ibc_machine.specs.ics18.Relay.{View, Receive, Acknowledge, TimeOut, TimeOutClosed, PendingKind, Pending, view_of, pending, plan, proof_at}
use Rattle.ibc_machine.specs.ics20.TokenData.{success}
use Rattle.ibc_machine.proofs.Computing.{computing, hashing}
use Rattle.ibc_machine.proofs.Scripts.{Side, Use, a, b, alice, bob, atom, a_and_b, for_tokens, for_notes, replies_by, world_after, update, block, done, no, acked}
use Rattle.ibc_machine.proofs.Openings.{with_tokens, with_notes, close_channel}
use Rattle.ibc_machine.proofs.PacketScripts.{send, there, note, note_until, recv, tokens}

abbrev view : World → Side → View
view world x = view_of x.number (unwrap_or (slice_get world x.number) empty_chain)

-- the plan from x for y
abbrev planned : World → Side → Side → List Event
planned world x y = map (event.Message y.number) (plan (view world x) (view world y))

abbrev is_pending : Use → PendingKind → ℕ → Pending
is_pending it kind n = record { port = it.port; channel = a.channel; kind = kind; sequence = n }

-- ---- a transfer is committed, with a block on either side

abbrev committed : World
committed = world_after a_and_b with_tokens (send a alice 100 atom bob ∷ block a ∷ block b ∷ [])

one_to_receive : pending (view committed a) (view committed b) ≡ is_pending for_tokens Receive 1 ∷ []
unfolding computing
one_to_receive = refl

-- an update of the client, and the packet
it_is_received : replies_by true_marks a_and_b committed (planned committed a b) ≡ done ∷ acked success ∷ []
unfolding computing hashing
it_is_received = refl

-- nothing goes the other way yet
nothing_back : planned committed b a ≡ []
unfolding computing
nothing_back = refl

-- ---- it was received

abbrev received : World
received = world_after a_and_b committed (update b a 4 ∷ recv b there 4 ∷ block b ∷ [])

one_to_acknowledge : pending (view received b) (view received a) ≡ is_pending for_tokens Acknowledge 1 ∷ []
unfolding computing
one_to_acknowledge = refl

it_is_acknowledged : replies_by true_marks a_and_b received (planned received b a) ≡ done ∷ done ∷ []
unfolding computing hashing
it_is_acknowledged = refl

nothing_twice : planned received a b ≡ []
unfolding computing
nothing_twice = refl

-- ---- proofs that don't fit: of another packet, with a byte more, none, or for other data

abbrev two_sent : World
two_sent = world_after a_and_b with_tokens
    (send a alice 100 atom bob ∷ send a alice 5 atom bob ∷ block a ∷ update b a 4 ∷ [])

abbrev with_proof : Packet → Text → Event
with_proof p proof = event.Message 1 (message.RecvPacket (record { packet = p; height = 4; proof = proof }))

abbrev of_sequence : ℕ → Text
of_sequence n = proof_at (view two_sent a) (key.Commitment for_tokens.port a.channel n)

not_with_the_proof_of_another : replies_by true_marks a_and_b two_sent
    (with_proof there (of_sequence 2) ∷ with_proof there (of_sequence 1 ++ 0 ∷ []) ∷ with_proof there [] ∷ [])
    ≡ no BadProof ∷ no BadMessage ∷ no BadMessage ∷ []
unfolding computing hashing
not_with_the_proof_of_another = refl

with_its_own_proof : replies_by true_marks a_and_b two_sent
    (with_proof (tokens a b 1 alice 101 atom bob) (of_sequence 1) ∷ with_proof there (of_sequence 1) ∷ [])
    ≡ no BadProof ∷ acked success ∷ []
unfolding computing hashing
with_its_own_proof = refl

-- ---- notes: what b's working block has not reached is received, what b reached is timed out, and what a closed end
-- had not received too

abbrev two_notes : World
two_notes = world_after a_and_b with_notes (note_until 4 0 a (97 ∷ []) ∷ note a (98 ∷ []) ∷ block a ∷ block b ∷ [])

the_later_is_received : pending (view two_notes a) (view two_notes b) ∷ pending (view two_notes b)
    (view two_notes a) ∷ []
    ≡ (is_pending for_notes Receive 2 ∷ []) ∷ [] ∷ []
unfolding computing
the_later_is_received = refl

abbrev two_blocks_on : World
two_blocks_on = world_after a_and_b two_notes (block b ∷ [])

abbrev closed : World
closed = world_after a_and_b two_notes (close_channel b for_notes ∷ block b ∷ [])

the_first_times_out : pending (view two_blocks_on b) (view two_blocks_on a) ≡ is_pending for_notes TimeOut 1 ∷ []
unfolding computing
the_first_times_out = refl

both_are_timed_out_on_close : pending (view closed b) (view closed a)
    ≡ is_pending for_notes TimeOut 1 ∷ is_pending for_notes TimeOutClosed 2 ∷ []
unfolding computing
both_are_timed_out_on_close = refl
