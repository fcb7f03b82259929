-- Handshakes that go wrong: each end must be what its peer's end says it is.
use Rattle.std.proofs.Common.{take, ◌≡◌, codes, ◌∷◌, [], refl}
use Rattle.ibc_ids.specs.declared.refusal.Refusal.TheVariants.{UnknownClient, UnknownConnection, WrongState, NoConsensus, BadProof, UnknownPort, UnknownChannel, WrongOrder, WrongVersion, CloseRefused, UnknownChain}
use Rattle.ibc_wire.specs.declared.records.Order.TheVariants.{Unordered, Ordered}
use Rattle.ibc_machine.specs.chain.Genesis.{start}
use Rattle.ibc_machine.specs.chain.Machine.{World}
use Rattle.ibc_machine.proofs.Computing.{computing}
use Rattle.ibc_machine.proofs.Scripts.{a, b, c, first, second, a_and_b, for_tokens, for_several, for_notes, replies, world_after, create, update, block, new_client, new_connection, new_channel, blocked, done, no}
use Rattle.ibc_machine.proofs.Openings.{opening, begin_connection, try_connection, ack_connection, confirm_connection, begin_channel, try_channel, ack_channel, confirm_channel, close_channel, confirm_close, with_notes, with_tokens}

-- a began a connection, and b is told of it
abbrev begun : World
begun = world_after a_and_b (start a_and_b)
    (create a b ∷ create b a ∷ begin_connection a b ∷ block a ∷ update b a 1 ∷ [])

-- b answers twice, and a takes the second answer: the first is never confirmed
one_is_confirmed : replies a_and_b begun
    (try_connection b a b 0 1 ∷ try_connection b a b 0 1 ∷ block b ∷ update a b 1 ∷ ack_connection a (second 1) a 1 1
    ∷ block a ∷ update b a 2 ∷ confirm_connection b 2 ∷ confirm_connection (second 1) 2 ∷ [])
    ≡ new_connection b.connection ∷ new_connection (second 1).connection ∷ blocked 1 ∷ done ∷ done
    ∷ blocked 2 ∷ done ∷ no BadProof ∷ done ∷ []
unfolding computing
one_is_confirmed = refl

-- a channel may begin over a connection that only began, and is answered over an open one alone
over_an_open_connection : replies a_and_b (start a_and_b)
    (create a b ∷ create b a ∷ begin_connection a b ∷ begin_channel a for_tokens ∷ block a ∷ update b a 1
    ∷ try_connection b a b 0 1 ∷ try_channel b a for_tokens 1 ∷ [])
    ≡ new_client a.client ∷ new_client b.client ∷ new_connection a.connection ∷ new_channel a.channel ∷ blocked 1 ∷ done
    ∷ new_connection b.connection ∷ no WrongState ∷ []
unfolding computing
over_an_open_connection = refl

-- what isn't there isn't opened, a height that the client doesn't know shows nothing, and nothing comes of an
-- end that the peer doesn't have
nothing_comes_of_nothing : replies a_and_b begun
    (begin_connection (second 0) b ∷ try_connection (second 1) a b 0 1 ∷ try_connection b a b 0 2
    ∷ try_connection b (second 0) b 0 1
    ∷ ack_connection (second 0) b a 1 1 ∷ confirm_connection (second 1) 1 ∷ begin_channel (second 0) for_tokens
    ∷ try_channel b a for_tokens 1 ∷ ack_channel a b for_tokens 1 ∷ confirm_channel b for_tokens 1 ∷ [])
    ≡ no UnknownClient ∷ no UnknownClient ∷ no NoConsensus ∷ no BadProof
    ∷ no UnknownConnection ∷ no UnknownConnection ∷ no UnknownConnection
    ∷ no UnknownConnection ∷ no UnknownChannel ∷ no UnknownChannel ∷ []
unfolding computing
nothing_comes_of_nothing = refl

-- a has begun a channel for tokens, and b's connection is open: b's answer has the same order, version and ports, and
-- names a's end; and then the peer takes no other
abbrev a_channel_begun : World
a_channel_begun = world_after a_and_b (start a_and_b) (take 13 (opening a b for_tokens 0 0))

an_answer_fits : replies a_and_b a_channel_begun
    (try_channel b a for_several 2 ∷ try_channel b a for_notes 2 ∷ try_channel b (second 0) for_tokens 2
    ∷ try_channel b a for_tokens 1
    ∷ try_channel b a for_tokens 2 ∷ try_channel b a for_tokens 2 ∷ block b ∷ update a b 2
    ∷ ack_channel a (first 1) for_tokens 1
    ∷ ack_channel a (second 1) for_tokens 2 ∷ block a ∷ update b a 3 ∷ confirm_channel b for_tokens 3
    ∷ confirm_channel (second 1) for_tokens 3 ∷ [])
    ≡ no BadProof ∷ no BadProof ∷ no BadProof ∷ no BadProof
    ∷ new_channel b.channel ∷ new_channel (second 1).channel ∷ blocked 2 ∷ done ∷ no BadProof
    ∷ done ∷ blocked 3 ∷ done ∷ no BadProof ∷ done ∷ []
unfolding computing
an_answer_fits = refl

-- ---- what an application takes

-- notes come in order, over one version; their channels can be closed, and the peer's end then too
notes_are_opened_and_closed : replies a_and_b with_notes
    (ack_connection a b a 1 1 ∷ begin_channel a (record for_notes { port = codes "other" })
    ∷ begin_channel a (record for_notes { order = Unordered })
    ∷ begin_channel a (record for_notes { version = codes "ics20-1" })
    ∷ close_channel a for_notes ∷ close_channel a for_notes ∷ block a ∷ update b a 4 ∷ confirm_close b for_notes 3
    ∷ confirm_close b for_notes 4 ∷ confirm_close b for_notes 4 ∷ [])
    ≡ no WrongState ∷ no UnknownPort ∷ no WrongOrder ∷ no WrongVersion
    ∷ done ∷ no WrongState ∷ blocked 4 ∷ done ∷ no BadProof ∷ done ∷ no WrongState ∷ []
unfolding computing
notes_are_opened_and_closed = refl

-- tokens come in any order, over two versions; their channels aren't closed
tokens_are_opened_and_stay : replies a_and_b with_tokens
    (begin_channel a (record for_tokens { order = Ordered })
    ∷ begin_channel a (record for_tokens { version = codes "note-1" })
    ∷ begin_channel a for_several ∷ close_channel a for_tokens ∷ close_channel (second 0) for_tokens
    ∷ close_channel c for_tokens ∷ [])
    ≡ no WrongOrder ∷ no WrongVersion ∷ new_channel (second 0).channel ∷ no CloseRefused ∷ no WrongState
    ∷ no UnknownChain ∷ []
unfolding computing
tokens_are_opened_and_stay = refl
