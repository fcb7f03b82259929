-- Tokens go from a to b and on to c, with one hop more in their names each time, and come all the way home.
use Rattle.std.proofs.Common.{◌≡◌, ◌∷◌, ◌++◌, List, [], refl}
use Rattle.ibc_machine.specs.declared.event.Event.{Event}
use Rattle.ibc_machine.specs.chain.Genesis.{start}
use Rattle.ibc_machine.specs.chain.Machine.{World}
use Rattle.ibc_machine.proofs.Computing.{computing}
use Rattle.ibc_machine.proofs.Scripts.{Side, a, b, c, second, alice, bob, carol, atom, atom_from_a, atom_over_b, escrow_0, escrow_1, holds, a_b_and_c, for_tokens, replies, balances, world_after, sent}
use Rattle.ibc_machine.proofs.Openings.{opening, opened}
use Rattle.ibc_machine.proofs.PacketScripts.{send, tokens, there, back, relayed, arrived}

-- b's names towards c
abbrev b_to_c : Side
b_to_c = second 1

abbrev joined : World
joined = world_after a_b_and_c (start a_b_and_c) (opening a b for_tokens 0 0 ++ opening b_to_c c for_tokens 2 0)

b_joins_c_too : replies a_b_and_c (world_after a_b_and_c (start a_b_and_c) (opening a b for_tokens 0 0))
    (opening b_to_c c for_tokens 2 0)
    ≡ opened b_to_c c 2 0
unfolding computing
b_joins_c_too = refl

-- ---- there: alice to bob, bob to carol

abbrev to_carol : List Event
to_carol =
    send a alice 100 atom bob ∷ relayed a b there 4 6
    ++ send b_to_c bob 100 atom_from_a carol ∷ relayed b_to_c c (tokens b_to_c c 1 bob 100 atom_from_a carol) 7 3

they_go_to_carol : replies a_b_and_c joined to_carol ≡ sent 1 ∷ arrived 4 6 ++ sent 1 ∷ arrived 7 3
unfolding computing
they_go_to_carol = refl

abbrev carol_has_them : World
carol_has_them = world_after a_b_and_c joined to_carol

-- each channel has an escrow of its own
two_escrows_keep_them : balances carol_has_them
    ≡ (holds alice 900 atom ∷ holds escrow_0 100 atom ∷ [])
    ∷ (holds escrow_1 100 atom_from_a ∷ []) ∷ (holds carol 100 atom_over_b ∷ []) ∷ []
unfolding computing
two_escrows_keep_them = refl

-- ---- back: carol to bob, bob to alice

abbrev to_alice : List Event
to_alice =
    send c carol 100 atom_over_b bob ∷ relayed c b_to_c (tokens c b_to_c 1 carol 100 atom_over_b bob) 4 8
    ++ send b bob 100 atom_from_a alice ∷ relayed b a back 9 5

they_come_home : replies a_b_and_c carol_has_them to_alice ≡ sent 1 ∷ arrived 4 8 ++ sent 1 ∷ arrived 9 5
unfolding computing
they_come_home = refl

alice_has_them_again : balances (world_after a_b_and_c carol_has_them to_alice)
    ≡ (holds alice 1000 atom ∷ []) ∷ [] ∷ [] ∷ []
unfolding computing
alice_has_them_again = refl

-- ---- a voucher is burnt on the channel that it came over, and on any other it is escrowed as a token of its own
not_home_by_another_way : balances (world_after a_b_and_c joined
    (send a alice 100 atom bob ∷ relayed a b there 4 6 ++ send b_to_c bob 40 atom_from_a carol ∷ []))
    ≡ (holds alice 900 atom ∷ holds escrow_0 100 atom ∷ [])
    ∷ (holds bob 60 atom_from_a ∷ holds escrow_1 40 atom_from_a ∷ []) ∷ [] ∷ []
unfolding computing
not_home_by_another_way = refl
