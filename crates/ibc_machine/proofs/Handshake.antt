-- Clients, connections and channels are opened between two chains.
use Rattle.std.proofs.Common.{◌≡◌, ◌∷◌, [], refl}
use Rattle.ibc_ids.specs.declared.refusal.Refusal.TheVariants.{WrongState}
use Rattle.ibc_machine.specs.chain.Genesis.{start}
use Rattle.ibc_machine.proofs.Computing.{computing}
use Rattle.ibc_machine.proofs.Scripts.{a, b, a_and_b, for_tokens, for_several, for_notes, replies, no}
use Rattle.ibc_machine.proofs.Openings.{opening, opened, with_tokens, ack_connection, confirm_connection, ack_channel, confirm_channel}

opens_for_tokens : replies a_and_b (start a_and_b) (opening a b for_tokens 0 0) ≡ opened a b 0 0
unfolding computing
opens_for_tokens = refl

opens_for_several_tokens : replies a_and_b (start a_and_b) (opening a b for_several 0 0) ≡ opened a b 0 0
unfolding computing
opens_for_several_tokens = refl

opens_for_notes : replies a_and_b (start a_and_b) (opening a b for_notes 0 0) ≡ opened a b 0 0
unfolding computing
opens_for_notes = refl

-- what is open can't be opened again
not_twice : replies a_and_b with_tokens
    (ack_connection a b a 1 1 ∷ confirm_connection b 2 ∷ ack_channel a b for_tokens 2 ∷ confirm_channel b for_tokens 3
    ∷ [])
    ≡ no WrongState ∷ no WrongState ∷ no WrongState ∷ no WrongState ∷ []
unfolding computing
not_twice = refl
