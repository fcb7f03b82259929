-- The ledgers of a genesis that have no entries are a world.
use Rattle.std.proofs.Common.{◌≡◌, ℕ, ◌<◌, List, [], length, map, refl, sym, ap, ◌∙◌, subst, Some, None, Option, option_map, unwrap_or, slice_get, arith}
use Rattle.std.proofs.lemmas.Option.{slice_get-map, none-some}
use Rattle.ibc_machine.specs.declared.entry.Entry.{Entry}
use Rattle.ibc_machine.specs.chain.Records.{Block}
use Rattle.ibc_machine.specs.chain.Genesis.{GenesisState, start, starting_chain}
use Rattle.ibc_machine.specs.ledger.Replay.{starting_state, empty_chain}
use Rattle.ibc_machine.specs.ledger.Ledgers.{Ledger, IsLedger, published_as}
use Rattle.ibc_machine.specs.ics24.Image.{image}
use Rattle.std.specs.Prelude.{◌^◌}
use Rattle.std.specs.List.{AllByRecursion}
use Rattle.ibc_machine.specs.promises.Worlds.{entries}
use Rattle.ibc_refinement.proofs.ChangedPlaces.{get_there, get_within}
use Rattle.ibc_refinement.specs.World.{new_ledger, AreNew, NewIsWorld}

-- a chain begins with no block
begins_empty : (genesis : GenesisState) (k : ℕ) → k < length genesis.chains → (starting_state genesis k).chain.committed ≡ []
begins_empty genesis k low =
    let c = get_there genesis.chains k low in
    let first : slice_get (start genesis) k ≡ Some (starting_chain c.0) = slice_get-map starting_chain genesis.chains k ∙ ap (option_map starting_chain) c.1 in
    ap (λ o. (unwrap_or o empty_chain).committed) first

pub new_is_ledger : (genesis : GenesisState) (k : ℕ) → k < length genesis.chains → IsLedger (new_ledger genesis k)
new_is_ledger genesis k low =
    let none = begins_empty genesis k low in
    record {
      number = low;
      entries = tt;
      published = ap (map (published_as k)) (sym none);
      stamps = tt;
      small = subst (AllByRecursion (λ (block : Block). length (image block.records.core) < 2 ^ 64)) (sym none) tt;
    }

module _ (genesis : GenesisState) (ledgers : List Ledger) (new : AreNew genesis ledgers) where
  number : (k : ℕ) (ledger : Ledger) → slice_get ledgers k ≡ Some ledger → k < length genesis.chains
  number k ledger there = let low = get_within ledgers k ledger there in let all = new.all in omega arith

  -- no history has an entry
  no_entries : (k : ℕ) (history : List Entry) → slice_get (map entries ledgers) k ≡ Some history → [] ≡ history
  no_entries k history there = by_ledger (slice_get ledgers k) refl
    where
      by_ledger : (o : Option Ledger) → slice_get ledgers k ≡ o → [] ≡ history
      by_ledger None is = absurd (none-some history (sym (slice_get-map entries ledgers k ∙ ap (option_map entries) is) ∙ there))
      by_ledger (Some ledger) is =
          let none : entries ledger ≡ [] = ap entries (new.each k ledger is) in
          let both : Some (entries ledger) ≡ Some history = sym (slice_get-map entries ledgers k ∙ ap (option_map entries) is) ∙ there in
          let same : entries ledger ≡ history = cc in
          sym none ∙ same

pub new_is_world : NewIsWorld
new_is_world genesis ledgers allowed new = record {
  allowed = allowed;
  of = record {
    each = λ k ledger there.
        let same = new.each k ledger there in
        (ap (λ (l : Ledger). l.genesis) same, ap (λ (l : Ledger). l.chain) same, subst IsLedger (sym same) (new_is_ledger genesis k (number genesis ledgers new k ledger there)));
    all = new.all;
  };
  publications = [];
  seen = λ k ledger there. ap (λ (l : Ledger). l.seen) (new.each k ledger there);
  within = λ c some. absurd (omega arith);
  names = record {
    each = λ k ledger there. sym (ap (λ (l : Ledger). length l.history) (new.each k ledger there));
    no_others = refl;
  };
  turns = refl;
  merges = record {
    each = no_entries genesis ledgers new;
    no_others = refl;
    blocks = refl;
    readings = tt;
  };
}
