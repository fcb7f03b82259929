-- The provable store of a chain: path texts with value texts (ICS 24, "Provable store").
use Rattle.std.specs.Prelude.{◌≡◌, map, List, [], ◌∷◌, ◌++◌, Option, Some, IsTrue}
use Rattle.std.specs.List.{flat_map, filter_map, fold}
use Rattle.std.specs.Option.{option_map}
use Rattle.std.specs.Map.{keys_of}
use Rattle.ibc_ids.specs.Texts.{Text, text_cmp}
use Rattle.ibc_ids.specs.Maps.{with}
use Rattle.ibc_ids.specs.Paths.{path, is_key}
use Rattle.ibc_ids.specs.declared.key.Key.{Key}
use Rattle.ibc_ids.specs.declared.key.Key.TheVariants as key
use Rattle.ibc_merkle.specs.Tree.{Pairs, tree_root}
use Rattle.ibc_machine.specs.chain.Records.{Core, Channel}
use Rattle.ibc_machine.specs.ics24.Values.{Value, value_at, value_bytes}

-- the keys of a channel: its end, its counters, and those of its packets
abbrev pub channel_keys : (Text × Text) × Channel → List Key
channel_keys entry =
    let port = entry.0.0 in
    let channel = entry.0.1 in
    key.ChannelEnd port channel ∷ key.NextSequenceSend port channel ∷ key.NextSequenceRecv port channel
    ∷ key.NextSequenceAck port channel
    ∷ map (key.Commitment port channel) (keys_of entry.1.commitments)
    ++ map (key.Receipt port channel) entry.1.receipts
    ++ map (key.Acknowledgement port channel) (keys_of entry.1.acks)

-- the keys that have a value
abbrev pub keys : Core → List Key
keys core =
    key.NextClientSequence ∷ key.NextConnectionSequence ∷ key.NextChannelSequence
    ∷ map key.ClientState (keys_of core.clients)
    ++ map key.Connection (keys_of core.connections)
    ++ flat_map channel_keys core.channels

-- a key's path with its value's bytes
abbrev pub pair_at : Core → Key → Option (Text × Text)
pair_at core key = option_map (λ value. (path key, value_bytes value)) (value_at core key)

-- the map from paths to values, in the order of the paths
unfoldable pub image : Core → Pairs
image core =
    fold (λ pairs pair. with text_cmp pair.0 pair.1 pairs) [] (filter_map (pair_at core) (keys core))

-- the root of what the chain proves (ICS 23, "CommitmentRoot")
abbrev pub core_root : Core → Text
core_root core = tree_root (image core)

-- every key that has a value has names for its names
pub record IsKeyed (core : Core) : Type 0 where
  pub keyed : (k : Key) (v : Value) → value_at core k ≡ Some v → IsTrue (is_key k)
