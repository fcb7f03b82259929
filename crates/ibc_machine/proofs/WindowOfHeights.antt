-- A chain keeps the last heights that it published, as many as the window. A client can't be told of one that is
-- gone, also where it was told of it before.
use Rattle.std.proofs.Common.{◌≡◌, ℕ, true, false, ◌∷◌, [], refl, map}
use Rattle.ibc_ids.specs.declared.refusal.Refusal.TheVariants.{NotPublished, Pruned}
use Rattle.ibc_machine.specs.declared.reply.Reply.{Reply}
use Rattle.ibc_machine.specs.chain.Genesis.{GenesisState, start}
use Rattle.ibc_machine.specs.chain.Machine.{answer, is_gone}
use Rattle.ibc_machine.proofs.Computing.{computing}
use Rattle.ibc_machine.proofs.Scripts.{a, b, a_and_b, honest, shown, replies, world_after, create, update, block, new_client, blocked, done, no}

abbrev keeps : ℕ → GenesisState
keeps window = record a_and_b { capacity = 8; window = window }

of_three_two_are_left : replies (keeps 2) (start a_and_b)
    (create a b ∷ block b ∷ block b ∷ block b ∷ update a b 1 ∷ update a b 2 ∷ update a b 3 ∷ update a b 4 ∷ block b
    ∷ update a b 2 ∷ [])
    ≡ new_client a.client ∷ blocked 1 ∷ blocked 2 ∷ blocked 3 ∷ no Pruned ∷ done ∷ done ∷ no NotPublished ∷ blocked 4
    ∷ no Pruned ∷ []
unfolding computing
of_three_two_are_left = refl

a_known_height_is_gone : replies (keeps 1) (start a_and_b)
    (create a b ∷ block b ∷ update a b 1 ∷ block b ∷ update a b 1 ∷ [])
    ≡ new_client a.client ∷ blocked 1 ∷ done ∷ blocked 2 ∷ no Pruned ∷ []
unfolding computing
a_known_height_is_gone = refl

-- Where a chain publishes just now, the oldest row of its window may be gone already, and no other: of three
-- heights with a window of 2, height 2 may be gone, height 1 is, and height 3 isn't.
abbrev told_meanwhile : ℕ → Reply
told_meanwhile h =
    shown (answer honest (keeps 2) false
    (world_after (keeps 2) (start a_and_b) (create a b ∷ block b ∷ block b ∷ block b ∷ [])) (update a b h)).0

the_oldest_may_be_gone : map told_meanwhile (1 ∷ 2 ∷ 3 ∷ 4 ∷ []) ≡ no Pruned ∷ no Pruned ∷ done ∷ no NotPublished ∷ []
unfolding computing
the_oldest_may_be_gone = refl

-- of one published height none is gone, and of two the first may be
nothing_is_gone_early : map (is_gone 2 1 false) (1 ∷ 2 ∷ []) ≡ false ∷ false ∷ []
nothing_is_gone_early = refl

the_first_may_be_gone : map (is_gone 2 2 false) (1 ∷ 2 ∷ []) ≡ true ∷ false ∷ []
the_first_may_be_gone = refl
