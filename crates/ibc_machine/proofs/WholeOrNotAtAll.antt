-- Where one token of several is not taken, none is: here the gold, of which as much as 128 bits hold is still under
-- way home, while the atom would be fine.
use Rattle.std.proofs.Common.{◌≡◌, ℕ, ◌^◌, ◌-◌, codes, ◌∷◌, ◌++◌, List, [], refl}
use Rattle.ibc_ids.specs.Texts.{Text}
use Rattle.ibc_wire.specs.declared.packet.Packet.{Packet}
use Rattle.ibc_wire.specs.declared.token.Token.{Token}
use Rattle.ibc_machine.specs.declared.event.Event.{Event}
use Rattle.ibc_machine.specs.chain.Genesis.{GenesisState, start}
use Rattle.ibc_machine.specs.chain.Machine.{World}
use Rattle.ibc_machine.specs.ics20.TokenData.{success, error}
use Rattle.ibc_machine.proofs.Computing.{computing}
use Rattle.ibc_machine.proofs.Scripts.{a, b, alice, bob, atom, gold, gold_from_a, escrow_0, holds, a_and_b, chain_with, for_several, replies, balances, world_after, update, block, blocked, done, sent, acked}
use Rattle.ibc_machine.proofs.Openings.{opening}
use Rattle.ibc_machine.proofs.PacketScripts.{send_many, many_tokens, recv, ack, relayed}

abbrev token : ℕ → Text → Token
token amount denom = record { denom = denom; amount = amount }

abbrev most : ℕ
most = 2 ^ 128 - 1

-- alice holds 1000 atom and as much gold as there can be
abbrev very_rich : GenesisState
very_rich = record a_and_b { chains = chain_with ((alice, atom, 1000) ∷ (alice, gold, most) ∷ []) ∷ chain_with [] ∷ [] }

abbrev all_gold : List Token
all_gold = token most gold ∷ []

abbrev all_vouchers : List Token
all_vouchers = token most gold_from_a ∷ []

-- all the gold went to bob, and home again; b isn't told yet that it arrived
abbrev gold_is_home : World
gold_is_home =
    world_after very_rich (start very_rich)
    (opening a b for_several 0 0 ++ send_many a alice all_gold bob
    ∷ relayed a b (many_tokens a b 1 alice all_gold bob) 4 3
    ++ send_many b bob all_vouchers alice ∷ block b ∷ update a b 4 ∷ recv a (many_tokens b a 1 bob all_vouchers alice) 4
    ∷ [])

abbrev alice_has_it : List (List ((Text × Text) × ℕ))
alice_has_it = (holds alice 1000 atom ∷ holds alice most gold ∷ []) ∷ [] ∷ []

it_is_home : balances gold_is_home ≡ alice_has_it
unfolding computing
it_is_home = refl

-- ---- alice sends an atom and a piece of gold

abbrev ones : List Token
ones = token 1 atom ∷ token 1 gold ∷ []

abbrev both : Packet
both = many_tokens a b 2 alice ones bob

abbrev over_limit : Text
over_limit = error (codes "over limit")

abbrev too_much : List Event
too_much = send_many a alice ones bob ∷ block a ∷ update b a 5 ∷ recv b both 5 ∷ []

neither_is_taken : replies very_rich gold_is_home too_much ≡ sent 2 ∷ blocked 5 ∷ done ∷ acked over_limit ∷ []
unfolding computing
neither_is_taken = refl

-- bob gets no atom
bob_gets_nothing : balances (world_after very_rich gold_is_home too_much)
    ≡ (holds alice 999 atom ∷ holds alice (most - 1) gold ∷ holds escrow_0 1 atom ∷ holds escrow_0 1 gold ∷ []) ∷ []
    ∷ []
unfolding computing
bob_gets_nothing = refl

both_come_back : balances (world_after very_rich gold_is_home
    (too_much ++ block b ∷ update a b 5 ∷ ack a both over_limit 5 ∷ ack a both over_limit 5 ∷ []))
    ≡ alice_has_it
unfolding computing
both_come_back = refl

-- once b is told that the gold arrived, both are taken
then_both_are_taken : replies very_rich gold_is_home
    (block a ∷ update b a 5 ∷ ack b (many_tokens b a 1 bob all_vouchers alice) success 5
    ∷ send_many a alice ones bob ∷ block a ∷ update b a 6 ∷ recv b both 6 ∷ [])
    ≡ blocked 5 ∷ done ∷ done ∷ sent 2 ∷ blocked 6 ∷ done ∷ acked success ∷ []
unfolding computing
then_both_are_taken = refl
