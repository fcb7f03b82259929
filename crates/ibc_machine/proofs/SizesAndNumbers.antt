-- What has no good size or number is refused before all else: data and acknowledgements have 1 to 1,024 bytes,
-- sequences go from 1 to 2^64 - 2, and amounts from 1 to 2^128 - 1.
use Rattle.std.proofs.Common.{◌≡◌, ℕ, codes, ◌^◌, ◌-◌, ◌∷◌, ◌++◌, List, [], refl, map, replicate}
use Rattle.ibc_ids.specs.Texts.{Text}
use Rattle.ibc_ids.specs.Names.{hop}
use Rattle.ibc_ids.specs.declared.refusal.Refusal.TheVariants.{NoConsensus, BadProof, NoCommitment, TooLarge, BadMessage}
use Rattle.ibc_wire.specs.declared.packet.Packet.{Packet}
use Rattle.ibc_machine.specs.declared.event.Event.{Event}
use Rattle.ibc_machine.specs.chain.Genesis.{GenesisState, start}
use Rattle.ibc_machine.specs.ics20.Transfers.{receive_transfer}
use Rattle.ibc_machine.specs.ics20.TokenData.{success, error}
use Rattle.ibc_machine.proofs.Computing.{computing}
use Rattle.ibc_machine.proofs.Scripts.{a, b, second, alice, bob, atom, atom_from_a, escrow_0, holds, a_and_b, chain_with, for_tokens, replies, balances, world_after, update, block, blocked, done, no, sent, acked}
use Rattle.ibc_machine.proofs.Openings.{opening, with_tokens, with_notes}
use Rattle.ibc_machine.proofs.PacketScripts.{back, send, tokens, there, note, noted, recv, ack, time_out, time_out_closed}

abbrev bytes : ℕ → Text
bytes n = replicate n 7

notes_to_send : replies a_and_b with_notes
    (note a (bytes 0) ∷ note a (bytes 1) ∷ note a (bytes 1024) ∷ note a (bytes 1025) ∷ [])
    ≡ no TooLarge ∷ sent 1 ∷ sent 2 ∷ no TooLarge ∷ []
unfolding computing
notes_to_send = refl

-- the longest is received
notes_to_receive : replies a_and_b with_notes
    (note a (bytes 1024) ∷ block a ∷ update b a 4 ∷ recv b (noted 1 (bytes 1024)) 4 ∷ [])
    ≡ sent 1 ∷ blocked 4 ∷ done ∷ acked success ∷ []
unfolding computing
notes_to_receive = refl

-- ---- forms; also where nothing else is there

abbrev of_size : ℕ → Packet
of_size n = record there { payload = bytes n }

sizes_received : replies a_and_b with_tokens
    (recv b (of_size 0) 4 ∷ recv b (of_size 1) 4 ∷ recv b (of_size 1024) 4 ∷ recv b (of_size 1025) 4
    ∷ recv (second 1) (record (of_size 1025) { destination_channel = (second 1).channel }) 4 ∷ [])
    ≡ no BadMessage ∷ no NoConsensus ∷ no NoConsensus ∷ no BadMessage ∷ no BadMessage ∷ []
unfolding computing
sizes_received = refl

sizes_acknowledged : replies a_and_b (world_after a_and_b with_tokens (send a alice 100 atom bob ∷ []))
    (ack a there (bytes 0) 2 ∷ ack a there (bytes 1) 2 ∷ ack a there (bytes 1024) 2 ∷ ack a there (bytes 1025) 2
    ∷ ack a (of_size 1025) success 2 ∷ time_out a (of_size 1025) 0 2 ∷ time_out_closed a (of_size 0) 0 2 ∷ [])
    ≡ no BadMessage ∷ no BadProof ∷ no BadProof ∷ no BadMessage ∷ no BadMessage ∷ no BadMessage ∷ no BadMessage ∷ []
unfolding computing
sizes_acknowledged = refl

abbrev numbered : ℕ → Packet
numbered n = record there { sequence = n }

good_sequences : replies a_and_b with_tokens
    (recv b (numbered 0) 3 ∷ recv b (numbered 1) 3 ∷ recv b (numbered (2 ^ 64 - 2)) 3 ∷ recv b (numbered (2 ^ 64 - 1)) 3
    ∷ ack a (numbered 0) success 2 ∷ ack a (numbered (2 ^ 64 - 2)) success 2 ∷ ack a (numbered (2 ^ 64 - 1)) success 2
    ∷ time_out a (numbered 0) 0 2 ∷ time_out a (numbered (2 ^ 64 - 2)) 0 2 ∷ time_out a (numbered (2 ^ 64 - 1)) 0 2
    ∷ time_out_closed a (numbered (2 ^ 64 - 1)) 0 2 ∷ [])
    ≡ no BadMessage ∷ no BadProof ∷ no BadProof ∷ no BadMessage
    ∷ no BadMessage ∷ no NoCommitment ∷ no BadMessage
    ∷ no BadMessage ∷ no NoCommitment ∷ no BadMessage ∷ no BadMessage ∷ []
unfolding computing
good_sequences = refl

-- ---- amounts

abbrev most : ℕ
most = 2 ^ 128 - 1

abbrev richest : GenesisState
richest = record a_and_b { chains = chain_with ((alice, atom, most) ∷ []) ∷ chain_with [] ∷ [] }

abbrev all_of_it : List Event
all_of_it =
    send a alice 0 atom bob ∷ send a alice most atom bob ∷ block a ∷ update b a 4
    ∷ recv b (tokens a b 1 alice most atom bob) 4 ∷ []

bob_gets_all_there_is : replies richest (world_after richest (start richest) (opening a b for_tokens 0 0)) all_of_it
    ≡ no TooLarge ∷ sent 1 ∷ blocked 4 ∷ done ∷ acked success ∷ []
unfolding computing
bob_gets_all_there_is = refl

bob_has_all_there_is : balances (world_after richest (start richest) (opening a b for_tokens 0 0 ++ all_of_it))
    ≡ (holds escrow_0 340282366920938463463374607431768211455 atom ∷ [])
    ∷ (holds bob 340282366920938463463374607431768211455 atom_from_a ∷ []) ∷ []
unfolding computing
bob_has_all_there_is = refl

-- ---- a denomination has 256 bytes at most with the hop that a receive puts before it, which has 19 here

-- two names of the greatest lengths as a hop, and a base of so many bytes: 194 and the base
abbrev long : ℕ → Text
long base = hop (replicate 128 97) (replicate 64 97) ++ replicate base 97

abbrev one_of : Text → Packet
one_of denom = tokens a b 1 alice 1 denom bob

abbrev nothing_burnt : Text → ℕ
nothing_burnt denom = 0

traces : map (λ base. receive_transfer nothing_burnt [] for_tokens.version (one_of (long base))) (43 ∷ 44 ∷ [])
    ≡ (success, holds bob 1 (hop (codes "transfer") (codes "channel-0") ++ long 43) ∷ [])
    ∷ (error (codes "over limit"), []) ∷ []
unfolding computing
traces = refl

-- ---- what is present and what is burnt in flight fit 128 bits together

abbrev burnt_in_flight : ℕ → Text → ℕ
burnt_in_flight n denom = n

held_and_in_flight : map (λ n. (receive_transfer (burnt_in_flight n) (holds alice 5 atom_from_a
    ∷ []) for_tokens.version (one_of atom)).0) (0 ∷ (most - 6) ∷ (most - 5) ∷ [])
    ≡ success ∷ success ∷ error (codes "over limit") ∷ []
unfolding computing
held_and_in_flight = refl

-- ---- an escrow pays no more than it holds
an_escrow_pays_what_it_holds : map
    (λ n. receive_transfer nothing_burnt (holds escrow_0 n atom ∷ []) for_tokens.version back) (99 ∷ 100 ∷ [])
    ≡ (error (codes "over limit"), holds escrow_0 99 atom ∷ []) ∷ (success, holds alice 100 atom ∷ []) ∷ []
unfolding computing
an_escrow_pays_what_it_holds = refl
