-- What is read of a ledger: what stands in its working block, and the committed blocks of which it gives proofs (ICS 24).
use Rattle.std.specs.Prelude.{◌≡◌, ℕ, List, Option, Some, None, option_map, MatchOption}
use Rattle.std.specs.Option.{IsSomeAnd}
use Rattle.std.specs.Borrow.{Bor}
use Rattle.ibc_ids.specs.Texts.{Text, text_cmp}
use Rattle.ibc_ids.specs.Maps.{Map, at}
use Rattle.ibc_ids.specs.Paths.{path}
use Rattle.ibc_ids.specs.declared.key.Key.{Key}
use Rattle.ibc_merkle.specs.Written.{written_proof}
use Rattle.ibc_merkle.specs.declared.proof.Proof.{Proof}
use Rattle.ibc_wire.specs.declared.records.ChannelEnd.{ChannelEnd}
use Rattle.ibc_machine.specs.chain.Records.{Core, Block, Channel, client_at, channel_at}
use Rattle.ibc_machine.specs.ics04.Channels.{client_of, peer_channel_of}
use Rattle.ibc_machine.specs.ics18.Relay.{View, view_of}
use Rattle.ibc_machine.specs.ics20.Bank.{Balances}
use Rattle.ibc_machine.specs.ics24.Image.{image}
use Rattle.ibc_machine.specs.ledger.Ledgers.{Ledger, state_of}
use Rattle.ibc_ledger.specs.ReplayedState.{provable_block}

-- what a ledger proves to others in its working block (ICS 24, "Provable store")
abbrev pub core_on : Ledger → Core
core_on ledger = (state_of ledger).chain.records.core

-- the value of a key in the working block, where the key is there
abbrev pub value_on : Ledger → Key → Option Text
value_on ledger key = at text_cmp (path key) (image (state_of ledger).chain.records.core)

-- who holds how much of what in the working block (ICS 20)
abbrev pub all_balances_on : Ledger → Balances
all_balances_on ledger = (state_of ledger).chain.records.apps.balances

-- the notes that came over each channel, in the working block
abbrev pub all_notes_on : Ledger → Map Text (List Text)
all_notes_on ledger = (state_of ledger).chain.records.apps.notes

-- the committed block of a height, where the ledger still gives proofs of it
abbrev pub provable_on : Ledger → ℕ → Option Block
provable_on ledger height = provable_block ledger.genesis.window (state_of ledger).chain.committed height

-- the proof of what a committed height has at a key, which the ledger still gives (ICS 23, "CommitmentProof")
abbrev pub IsProofOn : Ledger → ℕ → Key → Proof → Type 0
IsProofOn ledger height key proof =
    IsSomeAnd (provable_block ledger.genesis.window (state_of ledger).chain.committed height)
    (λ block. proof ≡ written_proof (image block.records.core) (path key))

-- what the ledger's chain proves as it stands at its last committed height (ICS 18)
abbrev pub view_on : Ledger → View
view_on ledger = view_of ledger.chain (state_of ledger).chain

-- the end that an end names as its peer, with its name, or none where no such end is there (ICS 4)
abbrev pub IsNamedEnd : Core → ChannelEnd → Option (Bor Text × Bor Channel) → Type 0
IsNamedEnd core end found =
    MatchOption found (channel_at core end.peer_port (peer_channel_of end) ≡ None)
    (λ named. (end.peer_channel ≡ Some named.0.now) × (channel_at core end.peer_port named.0.now ≡ Some named.1.now))

-- the number of the chain that the client under a connection tracks, where there is such a client (ICS 2)
abbrev pub chain_tracked_over : Core → Text → Option ℕ
chain_tracked_over core connection = option_map (λ client. client.state.chain) (client_at core (client_of core connection))
