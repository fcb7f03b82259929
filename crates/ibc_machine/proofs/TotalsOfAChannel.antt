-- What the totals of a channel show at each step of tokens that go to the other chain and come home: the escrow is
-- always what is present there and what is under way.
use Rattle.std.proofs.Common.{◌≡◌, ℕ, codes, ◌∷◌, [], refl, Ok, Err}
use Rattle.ibc_ids.specs.declared.refusal.Refusal.TheVariants.{UnknownChain, UnknownChannel, WrongState, BadMessage}
use Rattle.ibc_wire.specs.declared.packet.Packet.{Packet}
use Rattle.ibc_machine.specs.chain.Checks.{Checked}
use Rattle.ibc_machine.specs.chain.Machine.{World}
use Rattle.ibc_machine.specs.ics20.TokenData.{success, error}
use Rattle.ibc_machine.specs.promises.Totals.{Totals, totals}
use Rattle.ibc_machine.proofs.Computing.{computing}
use Rattle.ibc_machine.proofs.Scripts.{a, b, second, alice, bob, atom, atom_from_a, escrow_0, a_and_b, for_tokens, world_after, update, block}
use Rattle.ibc_machine.proofs.Openings.{with_tokens, begin_channel}
use Rattle.ibc_machine.proofs.PacketScripts.{send, tokens, there, back, recv, ack}

-- the escrow, the vouchers at the peer, and what is under way there and back
abbrev are : ℕ → ℕ → ℕ → ℕ → Checked Totals
are escrow vouchers out back = Ok (record { escrow = escrow; vouchers = vouchers; out = out; back = back })

abbrev of_a : World → Checked Totals
of_a world = totals world 0 a.channel atom

-- ---- the five steps, and blocks between them

abbrev sent_by_alice : World
sent_by_alice = world_after a_and_b with_tokens (send a alice 100 atom bob ∷ [])

abbrev received_by_bob : World
received_by_bob = world_after a_and_b sent_by_alice (block a ∷ update b a 4 ∷ recv b there 4 ∷ [])

abbrev acknowledged_by_b : World
acknowledged_by_b = world_after a_and_b received_by_bob (block b ∷ update a b 3 ∷ ack a there success 3 ∷ [])

abbrev sent_by_bob : World
sent_by_bob = world_after a_and_b acknowledged_by_b (send b bob 100 atom_from_a alice ∷ [])

abbrev received_by_alice : World
received_by_alice = world_after a_and_b sent_by_bob (block b ∷ update a b 4 ∷ recv a back 4 ∷ [])

before_all : of_a with_tokens ≡ are 0 0 0 0
unfolding computing
before_all = refl

under_way : of_a sent_by_alice ≡ are 100 0 100 0
unfolding computing
under_way = refl

present : of_a received_by_bob ≡ are 100 100 0 0
unfolding computing
present = refl

still_present : of_a acknowledged_by_b ≡ are 100 100 0 0
unfolding computing
still_present = refl

on_the_way_back : of_a sent_by_bob ≡ are 100 0 0 100
unfolding computing
on_the_way_back = refl

home : of_a received_by_alice ≡ are 0 0 0 0
unfolding computing
home = refl

-- ---- what has no totals

-- a denomination that came over this channel, other channels and other chains
not_of_vouchers : totals acknowledged_by_b 1 b.channel atom_from_a ≡ Err BadMessage
unfolding computing
not_of_vouchers = refl

not_of_others : totals with_tokens 0 (second 0).channel atom ∷ totals with_tokens 2 a.channel atom ∷ []
    ≡ Err UnknownChannel ∷ Err UnknownChain ∷ []
unfolding computing
not_of_others = refl

-- a channel that only began
not_before_it_opens : totals (world_after a_and_b with_tokens (begin_channel a for_tokens ∷ [])) 0
    (second 0).channel atom ≡ Err WrongState
unfolding computing
not_before_it_opens = refl

-- ---- a packet that is refused stays under way until its tokens are given back

abbrev nowhere : Packet
nowhere = tokens a b 1 alice 100 atom escrow_0

abbrev refused : World
refused = world_after a_and_b with_tokens
    (send a alice 100 atom escrow_0 ∷ block a ∷ update b a 4 ∷ recv b nowhere 4 ∷ block b ∷ update a b 3 ∷ [])

under_way_until_refunded : of_a refused ∷ of_a
    (world_after a_and_b refused (ack a nowhere (error (codes "bad receiver")) 3 ∷ [])) ∷ []
    ≡ are 100 0 100 0 ∷ are 0 0 0 0 ∷ []
unfolding computing
under_way_until_refunded = refl
