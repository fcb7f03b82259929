-- A ledger in the beginning is one.
use Rattle.ibc_ledger.proofs.Common.{◌≡◌, ◌∙◌, ◌<◌, List, [], length, map, refl, sym, ap, subst, Some, option_map, IsTrue, length-map, slice_get-map, published_by, Genesis, ChainStart, Core, genesis_state, chain_state, is_allowed}
use Rattle.ibc_ledger.proofs.Common.{StampedEntry, core_of, IsNew, IsInFlight, Inside, IsReplayedState, Applications, abstract_apps, starting_apps, abstract_entry, shape_of, KeptEntry, happened_of, Places, AreFirst, genesis_of, ledger_of, IsSoundLedger}
use Rattle.ibc_ledger.proofs.Common.{slice_get}
use Rattle.ibc_ledger.proofs.Ending.{stands_new}

-- what a new ledger is made of
pub record IsFresh (l : Inside) (genesis : Genesis) : Type 0 where
  pub start : ChainStart
  pub allowed : IsTrue (is_allowed (genesis_state genesis))
  pub inside : l.node.number < length genesis.chains.items
  pub there : slice_get genesis.chains.items l.node.number ≡ Some start
  pub chains : l.node.chains ≡ length genesis.chains.items
  pub capacity : l.capacity ≡ genesis.capacity
  pub shape : l.table.value.shape ≡ shape_of (genesis_state genesis)
  pub table : l.pass.table ≡ l.table.value
  pub own : l.pass.own ≡ Some l.node.number
  pub unpublished : published_by l.node.number l.pass.seen ≡ []
  pub records : IsNew genesis.window start.time l.node.records
  pub applications : l.node.applications ≡ starting_apps start.balances.items
  pub history : l.history.items ≡ []
  pub sent : l.sent.pairs ≡ []

module _ (l : Inside) (fresh : IsFresh l l.genesis.value) where
  as_many : length (genesis_of l).chains ≡ length l.genesis.value.chains.items
  as_many = length-map l.genesis.value.chains.items chain_state

  stands : IsReplayedState (ledger_of l) l.node.records (abstract_apps l.node.applications)
  stands =
      let history : [] ≡ map abstract_entry l.history.items = ap (map abstract_entry) (sym fresh.history) in
      let there = slice_get-map chain_state l.genesis.value.chains.items l.node.number ∙ ap (option_map chain_state) fresh.there in
      subst (λ (w : List StampedEntry × Applications). IsReplayedState (record { genesis = genesis_of l; chain = l.node.number; history = w.0; seen = l.pass.seen }) l.node.records (abstract_apps w.1))
      (λ i. (history i, (sym fresh.applications) i))
      (stands_new (genesis_of l) l.node.number (chain_state fresh.start) there (subst (λ n. l.node.number < n) (sym as_many) fresh.inside) l.pass.seen fresh.unpublished l.node.records fresh.records)

  -- nothing is burnt yet, and there is no channel
  flight : IsInFlight l.node.applications.transfers (core_of l.node.records)
  flight =
      subst (λ (w : Applications × Core). IsInFlight w.0.transfers w.1) (λ i. (sym fresh.applications i, sym fresh.records.core i))
      (record { sorted = refl; counted = λ denom. refl })

  pub fresh_held : IsSoundLedger l
  fresh_held = record {
    stands = stands;
    flight = flight;
    allowed = fresh.allowed;
    table = fresh.table;
    own = fresh.own;
    shape = fresh.shape;
    chains = fresh.chains ∙ sym as_many;
    capacity = fresh.capacity;
    sent = subst (λ (w : Places × List KeptEntry). AreFirst w.0 (map happened_of (map abstract_entry w.1))) (λ i. (sym fresh.sent i, sym fresh.history i)) (λ name. refl);
  }
