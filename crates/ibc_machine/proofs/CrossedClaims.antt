-- Each side of a connection proves what its client tracks, so that no connection joins two chains that don't
-- track each other (ICS 3, "validateSelfClient").
use Rattle.std.proofs.Common.{◌≡◌, ◌∷◌, [], refl}
use Rattle.ibc_ids.specs.declared.refusal.Refusal.TheVariants.{BadProof, WrongSelfClient}
use Rattle.ibc_machine.specs.chain.Genesis.{start}
use Rattle.ibc_machine.specs.chain.Machine.{World}
use Rattle.ibc_machine.proofs.Computing.{computing}
use Rattle.ibc_machine.proofs.Scripts.{a, b, c, a_b_and_c, replies, world_after, create, update, block, done, no}
use Rattle.ibc_machine.proofs.Openings.{begin_connection, try_connection, ack_connection}

-- ---- a's client tracks c, and a begins a connection to b

abbrev to_b : World
to_b =
    world_after a_b_and_c (start a_b_and_c)
    (create a c ∷ create b a ∷ begin_connection a b ∷ block a ∷ update b a 1 ∷ [])

-- b is told the truth, that a's client tracks c; or a lie, that it tracks b
no_answer_to_one_that_looks_elsewhere : replies a_b_and_c to_b
    (try_connection b a c 0 1 ∷ try_connection b a b 0 1 ∷ [])
    ≡ no WrongSelfClient ∷ no BadProof ∷ []
unfolding computing
no_answer_to_one_that_looks_elsewhere = refl

-- ---- a and c both begin a connection to b, and b answers a

abbrev answered : World
answered =
    world_after a_b_and_c (start a_b_and_c)
    (create a b ∷ create c b ∷ create b a ∷ begin_connection a b ∷ begin_connection c b ∷ block a ∷ update b a 1
    ∷ try_connection b a b 0 1 ∷ block b ∷ update a b 1 ∷ update c b 1 ∷ block c ∷ [])

-- c can't take the answer: b's client tracks a, and not c, whatever is claimed
not_the_one_who_was_answered : replies a_b_and_c answered (ack_connection c b a 1 1 ∷ ack_connection c b c 1 1 ∷ [])
    ≡ no WrongSelfClient ∷ no BadProof ∷ []
unfolding computing
not_the_one_who_was_answered = refl

-- a takes it, with the latest height that b's client knew, which is one that a has committed
the_one_who_was_answered : replies a_b_and_c answered
    (ack_connection a b a 0 1 ∷ ack_connection a b a 2 1 ∷ ack_connection a b a 1 1 ∷ [])
    ≡ no BadProof ∷ no WrongSelfClient ∷ done ∷ []
unfolding computing
the_one_who_was_answered = refl
