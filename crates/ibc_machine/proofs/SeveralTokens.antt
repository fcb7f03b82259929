-- Several tokens travel in one packet, and are taken whole or not at all.
use Rattle.std.proofs.Common.{◌≡◌, ℕ, codes, ◌∷◌, List, [], refl}
use Rattle.ibc_ids.specs.Texts.{Text}
use Rattle.ibc_ids.specs.declared.refusal.Refusal.TheVariants.{WrongVersion, Poor}
use Rattle.ibc_wire.specs.declared.packet.Packet.{Packet}
use Rattle.ibc_wire.specs.declared.token.Token.{Token}
use Rattle.ibc_machine.specs.declared.event.Event.{Event}
use Rattle.ibc_machine.specs.chain.Genesis.{GenesisState, start}
use Rattle.ibc_machine.specs.chain.Machine.{World}
use Rattle.ibc_machine.specs.ics20.TokenData.{error}
use Rattle.ibc_machine.proofs.Computing.{computing}
use Rattle.ibc_machine.proofs.Scripts.{a, b, second, alice, bob, atom, gold, atom_from_a, gold_from_a, escrow_0, escrow_1, holds, a_and_b, chain_with, for_tokens, for_several, replies, balances, world_after, update, block, blocked, done, no, sent, acked}
use Rattle.ibc_machine.proofs.Openings.{opening, opened}
use Rattle.ibc_machine.proofs.PacketScripts.{send, send_many, many_tokens, recv, ack, relayed, arrived}

abbrev token : ℕ → Text → Token
token amount denom = record { denom = denom; amount = amount }

-- alice holds 1000 atom and so much gold
abbrev with_gold : ℕ → GenesisState
with_gold amount = record a_and_b {
  chains = chain_with ((alice, atom, 1000) ∷ (alice, gold, amount) ∷ [])
      ∷ chain_with [] ∷ [];
}

abbrev rich : GenesisState
rich = with_gold 50

abbrev joined : World
joined = world_after rich (start rich) (opening a b for_several 0 0)

-- ---- to bob

abbrev two : List Token
two = token 100 atom ∷ token 7 gold ∷ []

abbrev to_bob : List Event
to_bob = send_many a alice two bob ∷ relayed a b (many_tokens a b 1 alice two bob) 4 3

both_arrive : replies rich joined to_bob ≡ sent 1 ∷ arrived 4 3
unfolding computing
both_arrive = refl

abbrev bob_has_both : World
bob_has_both = world_after rich joined to_bob

both_are_kept_and_minted : balances bob_has_both
    ≡ (holds alice 900 atom ∷ holds alice 43 gold ∷ holds escrow_0 100 atom ∷ holds escrow_0 7 gold ∷ [])
    ∷ (holds bob 100 atom_from_a ∷ holds bob 7 gold_from_a ∷ []) ∷ []
unfolding computing
both_are_kept_and_minted = refl

-- ---- to a receiver that is no user: both are given back

abbrev ones : List Token
ones = token 1 atom ∷ token 1 gold ∷ []

abbrev nowhere : Packet
nowhere = many_tokens a b 2 alice ones (codes "escrow/x")

abbrev bad_receiver : Text
bad_receiver = error (codes "bad receiver")

abbrev to_nowhere : List Event
to_nowhere =
    send_many a alice (token 1 atom ∷ token 44 gold ∷ []) bob ∷ send a alice 1 atom bob
    ∷ send_many a alice ones (codes "escrow/x") ∷ block a ∷ update b a 5 ∷ recv b nowhere 5 ∷ block b ∷ update a b 4
    ∷ ack a nowhere bad_receiver 4 ∷ []

both_come_back : replies rich bob_has_both to_nowhere
    ≡ no Poor ∷ no WrongVersion ∷ sent 2 ∷ blocked 5 ∷ done ∷ acked bad_receiver ∷ blocked 4 ∷ done ∷ done ∷ []
unfolding computing
both_come_back = refl

abbrev again : World
again = world_after rich bob_has_both to_nowhere

both_are_there_again : balances again ≡ balances bob_has_both
unfolding computing
both_are_there_again = refl

-- ---- a second channel, for tokens of one denomination, beside the first

abbrev beside : World
beside = world_after rich again (opening (second 0) (second 1) for_tokens 5 4)

it_opens_beside : replies rich again (opening (second 0) (second 1) for_tokens 5 4) ≡ opened (second 0) (second 1) 5 4
unfolding computing
it_opens_beside = refl

one_token_there : replies rich beside (send_many (second 0) alice ones bob ∷ send (second 0) alice 5 atom bob ∷ [])
    ≡ no WrongVersion ∷ sent 1 ∷ []
unfolding computing
one_token_there = refl

in_its_own_escrow : balances (world_after rich beside (send (second 0) alice 5 atom bob ∷ []))
    ≡ (holds alice 895 atom ∷ holds alice 43 gold ∷ holds escrow_0 100 atom ∷ holds escrow_0 7 gold
    ∷ holds escrow_1 5 atom ∷ [])
    ∷ (holds bob 100 atom_from_a ∷ holds bob 7 gold_from_a ∷ []) ∷ []
unfolding computing
in_its_own_escrow = refl
