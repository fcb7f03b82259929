-- The steps that change a core at one key: a client's state, an end of a connection, and the numbers of the next ones.
use Rattle.std.proofs.Common.{◌≡◌, ℕ, refl, ap, Some, option_map}
use Rattle.std.specs.Prelude.{IsTrue}
use Rattle.ibc_ids.specs.Texts.{Text}
use Rattle.ibc_ids.specs.Names.{is_client, is_connection}
use Rattle.ibc_ids.specs.Paths.{path, is_key}
use Rattle.ibc_ids.specs.declared.key.Key.{Key}
use Rattle.ibc_ids.specs.declared.key.Key.TheVariants as key
use Rattle.ibc_wire.specs.declared.records.ConnectionEnd.{ConnectionEnd}
use Rattle.ibc_machine.specs.chain.Records.{Core, Client, with_client, with_connection}
use Rattle.ibc_machine.specs.ics24.Values.{Value, ClientIs, ConnectionIs, NumberIs, value_at}
use Rattle.ibc_machine.proofs.FiniteMaps.{by_text, at-with_same, at-with_other, named-with}
use Rattle.ibc_machine.specs.ics24.Image.{IsKeyed}
use Rattle.ibc_machine.proofs.ImageChanges.{ChangesAt}

-- ---- a client

pub changes-with_client : (core : Core) (id : Text) (c : Client) → ChangesAt core (with_client id c core) (key.ClientState id) (ClientIs c.state)
changes-with_client core id c = record {
  here = ap (option_map (λ (found : Client). ClientIs found.state)) (at-with_same by_text id c core.clients);
  others = others;
}
  where
    others : (l : Key) → (path l ≡ path (key.ClientState id) → ⊥) → value_at (with_client id c core) l ≡ value_at core l
    others (key.ClientState q) apart =
        ap (option_map (λ (found : Client). ClientIs found.state)) (at-with_other by_text id q c core.clients (λ same. apart (ap (λ n. path (key.ClientState n)) same)))
    others l apart = refl

pub keyed-with_client : (core : Core) (id : Text) (c : Client) → IsKeyed core → IsTrue (is_client id) → IsKeyed (with_client id c core)
keyed-with_client core id c before named = record { keyed = keyed }
  where
    keyed : (k : Key) (v : Value) → value_at (with_client id c core) k ≡ Some v → IsTrue (is_key k)
    keyed (key.ClientState q) v e =
        named-with by_text (option_map (λ (found : Client). ClientIs found.state)) (λ n. IsTrue (is_client n)) id q c core.clients (Some v) (λ _. named) (before.keyed (key.ClientState q) v) e
    keyed k v e = before.keyed k v e

-- ---- an end of a connection

pub changes-with_connection : (core : Core) (id : Text) (end : ConnectionEnd) → ChangesAt core (with_connection id end core) (key.Connection id) (ConnectionIs end)
changes-with_connection core id end = record {
  here = ap (option_map ConnectionIs) (at-with_same by_text id end core.connections);
  others = others;
}
  where
    others : (l : Key) → (path l ≡ path (key.Connection id) → ⊥) → value_at (with_connection id end core) l ≡ value_at core l
    others (key.Connection q) apart =
        ap (option_map ConnectionIs) (at-with_other by_text id q end core.connections (λ same. apart (ap (λ n. path (key.Connection n)) same)))
    others l apart = refl

pub keyed-with_connection : (core : Core) (id : Text) (end : ConnectionEnd) → IsKeyed core → IsTrue (is_connection id) → IsKeyed (with_connection id end core)
keyed-with_connection core id end before named = record { keyed = keyed }
  where
    keyed : (k : Key) (v : Value) → value_at (with_connection id end core) k ≡ Some v → IsTrue (is_key k)
    keyed (key.Connection q) v e =
        named-with by_text (option_map ConnectionIs) (λ n. IsTrue (is_connection n)) id q end core.connections (Some v) (λ _. named) (before.keyed (key.Connection q) v) e
    keyed k v e = before.keyed k v e

-- ---- the numbers of the next ones

pub changes-next_client : (core : Core) (n : ℕ) → ChangesAt core (record core { next_client = n }) key.NextClientSequence (NumberIs n)
changes-next_client core n = record { here = refl; others = others }
  where
    others : (l : Key) → (path l ≡ path key.NextClientSequence → ⊥) → value_at (record core { next_client = n }) l ≡ value_at core l
    others key.NextClientSequence apart = absurd (apart refl)
    others l apart = refl

pub keyed-next_client : (core : Core) (n : ℕ) → IsKeyed core → IsKeyed (record core { next_client = n })
keyed-next_client core n before = record { keyed = keyed }
  where
    keyed : (k : Key) (v : Value) → value_at (record core { next_client = n }) k ≡ Some v → IsTrue (is_key k)
    keyed key.NextClientSequence v e = refl
    keyed k v e = before.keyed k v e

pub changes-next_connection : (core : Core) (n : ℕ) → ChangesAt core (record core { next_connection = n }) key.NextConnectionSequence (NumberIs n)
changes-next_connection core n = record { here = refl; others = others }
  where
    others : (l : Key) → (path l ≡ path key.NextConnectionSequence → ⊥) → value_at (record core { next_connection = n }) l ≡ value_at core l
    others key.NextConnectionSequence apart = absurd (apart refl)
    others l apart = refl

pub keyed-next_connection : (core : Core) (n : ℕ) → IsKeyed core → IsKeyed (record core { next_connection = n })
keyed-next_connection core n before = record { keyed = keyed }
  where
    keyed : (k : Key) (v : Value) → value_at (record core { next_connection = n }) k ≡ Some v → IsTrue (is_key k)
    keyed key.NextConnectionSequence v e = refl
    keyed k v e = before.keyed k v e

pub changes-next_channel : (core : Core) (n : ℕ) → ChangesAt core (record core { next_channel = n }) key.NextChannelSequence (NumberIs n)
changes-next_channel core n = record { here = refl; others = others }
  where
    others : (l : Key) → (path l ≡ path key.NextChannelSequence → ⊥) → value_at (record core { next_channel = n }) l ≡ value_at core l
    others key.NextChannelSequence apart = absurd (apart refl)
    others l apart = refl

pub keyed-next_channel : (core : Core) (n : ℕ) → IsKeyed core → IsKeyed (record core { next_channel = n })
keyed-next_channel core n before = record { keyed = keyed }
  where
    keyed : (k : Key) (v : Value) → value_at (record core { next_channel = n }) k ≡ Some v → IsTrue (is_key k)
    keyed key.NextChannelSequence v e = refl
    keyed k v e = before.keyed k v e
