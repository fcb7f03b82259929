-- How a world begins (ICS 24, "Host environment"; ICS 20 for the first balances).
use Rattle.std.specs.Prelude.{ℕ, Bool, ◌&&◌, ◌==◌, ◌^◌, nat_lt, nat_le, List, [], length, map, if◌then◌else◌}
use Rattle.std.specs.List.{list_all, count_by, sum_by, fold}
use Rattle.ibc_ids.specs.Texts.{Text, same_text}
use Rattle.ibc_ids.specs.Names.{is_user, is_base_denom}
use Rattle.ibc_machine.specs.declared.genesis.Genesis.{Genesis}
use Rattle.ibc_machine.specs.declared.genesis.ChainStart.{ChainStart}
use Rattle.ibc_machine.specs.chain.Records.{Core, MachineChain}
use Rattle.ibc_machine.specs.ics20.Bank.{Balances, with_balance}

-- who holds how much of which denomination: user, denomination, amount
abbrev pub Holding : Type 0
Holding = Text × Text × ℕ

-- a genesis as lists, apart from where it lies in memory
pub record ChainState : Type 0 where
  pub time : ℕ
  pub balances : List Holding

pub record GenesisState : Type 0 where
  pub capacity : ℕ
  pub window : ℕ
  pub chains : List ChainState

abbrev pub chain_state : ChainStart → ChainState
chain_state start = record { time = start.time; balances = start.balances.items }

abbrev pub genesis_state : Genesis → GenesisState
genesis_state genesis =
    record { capacity = genesis.capacity; window = genesis.window; chains = map chain_state genesis.chains.items }

-- ---- which genesis is allowed

abbrev pub is_same_holding : Holding → Holding → Bool
is_same_holding a b = same_text a.0 b.0 && same_text a.1 b.1

abbrev pub total_of : Text → List Holding → ℕ
total_of denom holdings = sum_by (λ (h : Holding). if same_text h.1 denom then h.2 else 0) holdings

-- a user holds a base denomination once, and all amounts of it fit 128 bits together
abbrev pub is_fair : List Holding → Holding → Bool
is_fair holdings holding =
    is_user holding.0 && is_base_denom holding.1 && (count_by (is_same_holding holding) holdings == 1)
    && nat_lt (total_of holding.1 holdings) (2 ^ 128)

abbrev pub has_limits : GenesisState → Bool
has_limits genesis =
    nat_le 1 genesis.capacity && nat_le genesis.capacity 1000000 && nat_le 1 genesis.window
    && nat_le genesis.window 4096 && nat_le genesis.window genesis.capacity

-- 2 to 8 chains, within the limits, each with fair balances
unfoldable pub is_allowed : GenesisState → Bool
is_allowed genesis =
    nat_le 2 (length genesis.chains) && nat_le (length genesis.chains) 8 && has_limits genesis
    && list_all (λ (chain : ChainState). list_all (is_fair chain.balances) chain.balances) genesis.chains

-- ---- the chains in the beginning

abbrev pub starting_balances : List Holding → Balances
starting_balances holdings =
    fold (λ balances (holding : Holding). with_balance holding.0 holding.1 holding.2 balances) [] holdings

-- no clients, connections and channels; the counters stand at 0
abbrev pub empty_core : Core
empty_core = record {
  clients = [];
  connections = [];
  channels = [];
  next_client = 0;
  next_connection = 0;
  next_channel = 0;
}

abbrev pub starting_chain : ChainState → MachineChain
starting_chain start = record {
  records = record {
    core = empty_core;
    apps = record { balances = starting_balances start.balances; notes = [] };
  };
  time = start.time;
  committed = [];
}

abbrev pub start : GenesisState → List MachineChain
start genesis = map starting_chain genesis.chains
