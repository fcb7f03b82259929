-- A client with what it knows, as a ledger holds it.
use Rattle.std.specs.Prelude.{◌≡◌, ℕ, max, [], IfSome}
use Rattle.std.specs.Map.{keys_of}
use Rattle.std.specs.Ordering.{nat_cmp}
use Rattle.ibc_ids.specs.Texts.{Text, text_cmp}
use Rattle.ibc_ids.specs.Maps.{Map, at, with}
use Rattle.ibc_wire.specs.declared.records.ClientState.{ClientState}
use Rattle.ibc_machine.specs.chain.Records.{Client}
use Rattle.ibc_records.specs.declared.client.ConsensusState.{ConsensusState}

-- the client's state, and the consensus states by height
pub record ClientModel : Type 0 where
  pub state : ClientState
  pub known : Map ℕ ConsensusState

-- the client as the definitions see it
abbrev pub abstract_client : ClientModel → Client
abstract_client client = record { state = client.state; known = keys_of client.known }

abbrev pub new_client_model : ℕ → ClientModel
new_client_model chain = record { state = record { chain = chain; latest = 0 }; known = [] }

-- with one more height
abbrev pub with_height : ℕ → ConsensusState → ClientModel → ClientModel
with_height height state client =
    record {
      state = record { chain = client.state.chain; latest = max client.state.latest height };
      known = with nat_cmp height state client.known;
    }

-- a client that is there knows one more height, and no other client changes
abbrev pub LearnsHeight : Text → ℕ → ConsensusState → Map Text ClientModel → Map Text ClientModel → Type 0
LearnsHeight id height known old new =
    IfSome (at text_cmp id old) (λ client. new ≡ with text_cmp id (with_height height known client) old)
