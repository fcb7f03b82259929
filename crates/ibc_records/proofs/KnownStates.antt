-- A ledger's state that says all that clients know.
use Rattle.std.proofs.Common.{◌≡◌, ℕ, false, cond, is_eq, Ordering, Less, Equal, Greater, [], ◌∷◌, ◌++◌, map, refl, ap, ◌∙◌, Some, option_and_then, option_map}
use Rattle.std.specs.Ordering.{nat_cmp}
use Rattle.ibc_ids.specs.Texts.{Text, text_cmp}
use Rattle.ibc_ids.specs.Maps.{Map, at}
use Rattle.ibc_machine.specs.ledger.Replay.{LedgerState, Consensus, consensus_cmp, empty_chain}
use Rattle.ibc_records.specs.declared.client.ConsensusState.{ConsensusState}
use Rattle.ibc_records.specs.ClientModels.{ClientModel}
use Rattle.ibc_records.specs.RecordsModel.{RecordsModel}
use Rattle.ibc_records.specs.Knowledge.{Knows, abstract_consensus}

-- what a client knows, under its name
abbrev known_of : Text → Map ℕ ConsensusState → Map (Text × ℕ) Consensus
known_of id known = map (λ (k : ℕ × ConsensusState). ((id, k.0), abstract_consensus k.1)) known

all_known : Map Text ClientModel → Map (Text × ℕ) Consensus
all_known [] = []
all_known (c ∷ clients) = known_of c.0 c.1.known ++ all_known clients

module _ (client : Text) (height : ℕ) (id : Text) (rest : Map (Text × ℕ) Consensus) where
  -- another client knows nothing of this one's heights
  past : (o : Ordering) → text_cmp client id ≡ o → is_eq o ≡ false → (known : Map ℕ ConsensusState)
      → at consensus_cmp (client, height) (known_of id known ++ rest) ≡ at consensus_cmp (client, height) rest
  past o is other [] = refl
  past Less is other (k ∷ known) = rw is (past Less is other known)
  past Greater is other (k ∷ known) = rw is (past Greater is other known)
  past Equal is other (k ∷ known) = absurd (cc)

  by_height : (value : ConsensusState) (k : ℕ × ConsensusState) (known : Map ℕ ConsensusState) (o : Ordering) → cond (is_eq o) (Some k.1) (at nat_cmp height known) ≡ Some value
      → (at nat_cmp height known ≡ Some value → at consensus_cmp (client, height) (known_of id known ++ rest) ≡ Some (abstract_consensus value))
      → cond (is_eq o) (Some (abstract_consensus k.1)) (at consensus_cmp (client, height) (known_of id known ++ rest)) ≡ Some (abstract_consensus value)
  by_height value k known Equal e later = ap (option_map abstract_consensus) e
  by_height value k known Less e later = later e
  by_height value k known Greater e later = later e

  here : (value : ConsensusState) → text_cmp client id ≡ Equal → (known : Map ℕ ConsensusState) → at nat_cmp height known ≡ Some value
      → at consensus_cmp (client, height) (known_of id known ++ rest) ≡ Some (abstract_consensus value)
  here value is [] found = absurd (cc)
  here value is (k ∷ known) found = rw is (by_height value k known (nat_cmp height k.0) found (λ e. here value is known e))

-- what is said of a client at the front, and of those behind it
by_client : (c : Text × ClientModel) (clients : Map Text ClientModel) (client : Text) (height : ℕ) (value : ConsensusState) (o : Ordering) → text_cmp client c.0 ≡ o
    → option_and_then (λ (c : ClientModel). at nat_cmp height c.known) (cond (is_eq o) (Some c.1) (at text_cmp client clients)) ≡ Some value
    → (option_and_then (λ (c : ClientModel). at nat_cmp height c.known) (at text_cmp client clients) ≡ Some value → at consensus_cmp (client, height) (all_known clients) ≡ Some (abstract_consensus value))
    → at consensus_cmp (client, height) (known_of c.0 c.1.known ++ all_known clients) ≡ Some (abstract_consensus value)
by_client c clients client height value Equal is e later = here client height c.0 (all_known clients) value is c.1.known e
by_client c clients client height value Less is e later = past client height c.0 (all_known clients) Less is refl c.1.known ∙ later e
by_client c clients client height value Greater is e later = past client height c.0 (all_known clients) Greater is refl c.1.known ∙ later e

all_said : (clients : Map Text ClientModel) (client : Text) (height : ℕ) (value : ConsensusState)
    → option_and_then (λ (c : ClientModel). at nat_cmp height c.known) (at text_cmp client clients) ≡ Some value
    → at consensus_cmp (client, height) (all_known clients) ≡ Some (abstract_consensus value)
unfolding all_known
all_said [] client height value found = absurd (cc)
all_said (c ∷ clients) client height value found = by_client c clients client height value (text_cmp client c.0) refl found (λ e. all_said clients client height value e)

-- a ledger's state that says what clients know, whatever they know
pub knowing : (held : RecordsModel) → (state : LedgerState) × Knows held state
knowing held = (record { chain = empty_chain; consensus = all_known held.clients }, λ client height known found. all_said held.clients client height known found)
