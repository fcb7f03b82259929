-- The first half of a handshake with true roots and written proofs: the machine, which looks, and a ledger, which
-- checks proofs under roots, give the same replies.
use Rattle.std.proofs.Common.{◌≡◌, ℕ, true, codes, List, [], ◌∷◌, ◌++◌, map, refl, Some, None, Option, unwrap_or, slice_get, take}
use Rattle.ibc_ids.specs.Texts.{Text}
use Rattle.ibc_ids.specs.Paths.{path}
use Rattle.ibc_ids.specs.declared.key.Key.{Key}
use Rattle.ibc_ids.specs.declared.key.Key.TheVariants as key
use Rattle.ibc_ids.specs.declared.publication.Publication.{Publication}
use Rattle.ibc_ids.specs.declared.refusal.Refusal.TheVariants.{WrongHeader, BadProof, BadMessage}
use Rattle.ibc_merkle.specs.Written.{written_proof}
use Rattle.ibc_wire.specs.Spelling.{proof_bytes}
use Rattle.ibc_wire.specs.declared.messages.Message.TheVariants as message
use Rattle.ibc_machine.specs.declared.entry.Reading.{Reading}
use Rattle.ibc_machine.specs.declared.event.Event.{Event}
use Rattle.ibc_machine.specs.declared.event.Event.TheVariants as event
use Rattle.ibc_machine.specs.declared.reply.Reply.{Reply}
use Rattle.ibc_machine.specs.chain.Records.{Core}
use Rattle.ibc_machine.specs.ics24.Image.{image, core_root}
use Rattle.ibc_machine.specs.chain.Genesis.{start}
use Rattle.ibc_machine.specs.chain.Machine.{World, true_marks}
use Rattle.ibc_machine.specs.ledger.Replay.{StampedEntry, LedgerState, empty_chain, starting_state, entry_answer, met_states}
use Rattle.ibc_machine.proofs.Computing.{computing, hashing}
use Rattle.ibc_machine.proofs.Scripts.{a, b, a_and_b, replies_by, world_after, create, block, shown, new_client, new_connection, done, no}
use Rattle.ibc_machine.proofs.Openings.{begin_connection}

-- ---- a begins a connection, and commits it in its height 1

abbrev begun : World
begun = world_after a_and_b (start a_and_b) (create a b ∷ begin_connection a b ∷ block a ∷ create b a ∷ [])

abbrev committed : Core
committed = (unwrap_or (slice_get begun 0) empty_chain).records.core

abbrev true_root : Text
true_root = core_root committed

-- the written proof of a key of a at height 1
abbrev proof : Key → Text
proof key = proof_bytes (written_proof (image committed) (path key))

abbrev of_connection : Text
of_connection = proof (key.Connection a.connection)

abbrev of_client : Text
of_client = proof (key.ClientState a.client)

-- ---- b is told of that height, and tries

abbrev told : ℕ → Text → Event
told time root =
    event.Message 1 (message.UpdateClient (record {
      client = b.client;
      header = record { chain = 0; height = 1; time = time; root = root };
    }))

abbrev tries : Text → Text → Event
tries proof_end proof_client = event.Message 1 (message.ConnOpenTry (record {
  client = b.client;
  peer_client = a.client;
  peer_connection = a.connection;
  claim = record { chain = 1; latest = 0 };
  height = 1;
  proof_end = proof_end;
  proof_client = proof_client;
}))

-- another time, another root; no proof, a byte more, a byte less, the proof of another key
abbrev events : List Event
events =
    told 101 true_root ∷ told 100 (codes "no root") ∷ told 100 true_root
    ∷ tries of_connection (codes "no proof") ∷ tries [] of_client ∷ tries (of_connection ++ 0 ∷ []) of_client
    ∷ tries (take 100 of_connection) of_client ∷ tries of_connection of_connection ∷ tries of_client of_client
    ∷ tries of_connection of_client ∷ []

abbrev expected : List Reply
expected =
    no WrongHeader ∷ no WrongHeader ∷ done
    ∷ no BadMessage ∷ no BadMessage ∷ no BadMessage ∷ no BadMessage ∷ no BadProof ∷ no BadProof
    ∷ new_connection b.connection ∷ []

the_machine_takes_what_is_true : replies_by true_marks a_and_b begun events ≡ expected
unfolding computing hashing
the_machine_takes_what_is_true = refl

-- ---- the ledger of b, which sees no more of a than one publication

abbrev seen : List Publication
seen = record { chain = 0; root = true_root; time = 100 } ∷ []

abbrev read_by : Event → Option Reading
read_by (event.Message k (message.UpdateClient m)) = Some (record { published = 1; row_was_there = Some true })
read_by _ = None

-- the replies that stand in the entries aren't looked at here
abbrev entered : Event → StampedEntry
entered e = record { entry = record { event = e; reply = done; reading = read_by e }; stamp = None }

abbrev ledger_replies : List Reply
ledger_replies =
    map (λ (met : LedgerState × StampedEntry). shown (entry_answer a_and_b 1 seen met.0 met.1).0)
    (met_states a_and_b 1 seen (starting_state a_and_b 1) (map entered (create b a ∷ events)))

the_ledger_takes_what_is_proved : ledger_replies ≡ new_client b.client ∷ expected
unfolding computing hashing
the_ledger_takes_what_is_proved = refl
