-- Where a counter has reached the last number of 64 bits, nothing more is numbered; the one before is still given.
use Rattle.std.proofs.Common.{◌≡◌, ℕ, ◌^◌, ◌-◌, codes, ◌∷◌, [], refl, map}
use Rattle.ibc_ids.specs.Texts.{Text}
use Rattle.ibc_ids.specs.declared.refusal.Refusal.TheVariants.{Poor, NumberFull}
use Rattle.ibc_machine.specs.chain.Records.{MachineChain, Core, Channel}
use Rattle.ibc_machine.specs.chain.Machine.{World}
use Rattle.ibc_machine.proofs.Computing.{computing}
use Rattle.ibc_machine.proofs.Scripts.{a, b, alice, bob, atom, alice_has_all, a_and_b, for_tokens, replies, balances, world_after, create, no, sent}
use Rattle.ibc_machine.proofs.Openings.{with_tokens, with_notes, begin_channel}
use Rattle.ibc_machine.proofs.PacketScripts.{send, note}
use Rattle.ibc_machine.proofs.Openings.{begin_connection, try_connection, try_channel}
use Rattle.ibc_machine.proofs.Scripts.{new_client, new_connection, new_channel}

abbrev last : ℕ
last = 2 ^ 64 - 1

-- the world with another core at a, or at every chain
abbrev changed : (Core → Core) → World → World
changed f world =
    map (λ (chain : MachineChain). record chain { records = record chain.records { core = f chain.records.core } }) world

-- ---- clients, connections and channels

abbrev counted_to : ℕ → World
counted_to n = changed (λ core. record core { next_client = n; next_connection = n; next_channel = n }) with_tokens

no_more_names : replies a_and_b (counted_to last)
    (create a b ∷ begin_connection a b ∷ begin_channel a for_tokens ∷ try_connection b a b 0 3
    ∷ try_channel b a for_tokens 3 ∷ [])
    ≡ no NumberFull ∷ no NumberFull ∷ no NumberFull ∷ no NumberFull ∷ no NumberFull ∷ []
unfolding computing
no_more_names = refl

the_last_names : replies a_and_b (counted_to (last - 1))
    (create a b ∷ begin_connection a b ∷ begin_channel a for_tokens ∷ create a b ∷ begin_connection a b
    ∷ begin_channel a for_tokens ∷ [])
    ≡ new_client (codes "inprocess-18446744073709551614") ∷ new_connection (codes "connection-18446744073709551614")
    ∷ new_channel (codes "channel-18446744073709551614") ∷ no NumberFull ∷ no NumberFull ∷ no NumberFull ∷ []
unfolding computing
the_last_names = refl

-- ---- packets

abbrev sent_up_to : ℕ → World → World
sent_up_to n world =
    changed (λ core. record core { channels = map (λ (entry : (Text × Text) × Channel). (entry.0, record entry.1 { next_send = n })) core.channels }) world

tokens_no_more : replies a_and_b (sent_up_to (last - 1) with_tokens)
    (send a alice 1 atom bob ∷ send a alice 1 atom bob ∷ [])
    ≡ sent 18446744073709551614 ∷ no NumberFull ∷ []
unfolding computing
tokens_no_more = refl

-- and none leave the sender
tokens_stay : balances (world_after a_and_b (sent_up_to last with_tokens) (send a alice 1 atom bob ∷ []))
    ≡ alice_has_all
unfolding computing
tokens_stay = refl

notes_no_more : replies a_and_b (sent_up_to (last - 1) with_notes) (note a (codes "n") ∷ note a (codes "n") ∷ [])
    ≡ sent 18446744073709551614 ∷ no NumberFull ∷ []
unfolding computing
notes_no_more = refl

-- who holds too little hears that first
poor_first : replies a_and_b (sent_up_to last with_tokens) (send a alice 1001 atom bob ∷ []) ≡ no Poor ∷ []
unfolding computing
poor_first = refl
