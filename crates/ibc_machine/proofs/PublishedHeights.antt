-- A client is told of heights that its chain published, as they were: with their time. A chain publishes no more
-- heights than the capacity, and goes on otherwise.
use Rattle.std.proofs.Common.{◌≡◌, ◌∷◌, [], refl}
use Rattle.ibc_ids.specs.declared.refusal.Refusal.TheVariants.{UnknownChain, OwnChain, UnknownClient, NotPublished, WrongHeader, TimeBack, TableFull}
use Rattle.ibc_machine.specs.chain.Genesis.{start}
use Rattle.ibc_machine.proofs.Computing.{computing}
use Rattle.ibc_machine.proofs.Scripts.{a, b, c, second, a_and_b, a_b_and_c, replies, create, update, update_at, block, block_at, new_client, blocked, done, no}

a_published_height_is_seen : replies a_and_b (start a_and_b) (create a b ∷ update a b 1 ∷ block b ∷ update a b 1 ∷ [])
    ≡ new_client a.client ∷ no NotPublished ∷ blocked 1 ∷ done ∷ []
unfolding computing
a_published_height_is_seen = refl

-- the header must have the time of the height, and it may be told again
with_its_time : replies a_and_b (start a_and_b)
    (create a b ∷ block b ∷ update_at 101 a b 1 ∷ update_at 100 a b 1 ∷ update a b 1 ∷ [])
    ≡ new_client a.client ∷ blocked 1 ∷ no WrongHeader ∷ done ∷ done ∷ []
unfolding computing
with_its_time = refl

-- a block has the time that was fixed when it began
of_its_beginning : replies a_and_b (start a_and_b)
    (create a b ∷ block_at 200 b ∷ update_at 200 a b 1 ∷ update_at 100 a b 1 ∷ block_at 200 b ∷ update_at 200 a b 2
    ∷ [])
    ≡ new_client a.client ∷ blocked 1 ∷ no WrongHeader ∷ done ∷ blocked 2 ∷ done ∷ []
unfolding computing
of_its_beginning = refl

-- a client sees heights of its own chain alone, and no height is 0
of_its_chain : replies a_b_and_c (start a_b_and_c)
    (create a b ∷ block b ∷ block c ∷ update a c 1 ∷ update a b 0 ∷ update a b 1 ∷ update (second 0) b 1 ∷ [])
    ≡ new_client a.client ∷ blocked 1 ∷ blocked 1 ∷ no WrongHeader ∷ no WrongHeader ∷ done ∷ no UnknownClient ∷ []
unfolding computing
of_its_chain = refl

-- a client is of another chain that is there
of_another_chain : replies a_and_b (start a_and_b) (create a a ∷ create a c ∷ create a b ∷ create c a ∷ block c ∷ [])
    ≡ no OwnChain ∷ no UnknownChain ∷ new_client a.client ∷ no UnknownChain ∷ no UnknownChain ∷ []
unfolding computing
of_another_chain = refl

-- times don't fall, and may be equal
times_do_not_fall : replies a_and_b (start a_and_b)
    (block_at 99 a ∷ block_at 100 a ∷ block_at 100 a ∷ block_at 101 a ∷ block_at 100 a ∷ [])
    ≡ no TimeBack ∷ blocked 1 ∷ blocked 2 ∷ blocked 3 ∷ no TimeBack ∷ []
unfolding computing
times_do_not_fall = refl

-- two heights, and no more; messages are answered as before
a_full_table : replies (record a_and_b { capacity = 2; window = 2 }) (start a_and_b)
    (block a ∷ block a ∷ create a b ∷ block a ∷ create a b ∷ [])
    ≡ blocked 1 ∷ blocked 2 ∷ new_client a.client ∷ no TableFull ∷ new_client (second 0).client ∷ []
unfolding computing
a_full_table = refl
