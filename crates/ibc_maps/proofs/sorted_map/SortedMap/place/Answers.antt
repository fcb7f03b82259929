-- The closure compares an entry's key to the key, and the sorted pairs can be searched by it.
use Rattle.std.proofs.Common.{rules, ◌≡◌, ap, sym, ◌∙◌, ℕ, Ordering, Result, Ok, Err, Less, Equal, Greater, IfOk, IfErr, true}
use Rattle.std.specs.Cmp.{IsTotalOrder}
use Rattle.std.specs.List.{HoldsAt}
use Rattle.std.specs.List.Sorted.{IsBinarySearchResult, IsPartitionPoint}
use Rattle.std.specs.FinMap.{is_sorted}
use Rattle.std.proofs.lemmas.Fn.{always_returns_same}
use Rattle.ibc_ids.specs.Maps.{Map}
use Rattle.ibc_maps.proofs.SearchedKeys.{searchable}
use Rattle.ibc_maps.proofs.sorted_map.SortedMap.place.Given.{Over}
use Rattle.ibc_maps.proofs.sorted_map.SortedMap.place.Goals as goal

module _ {K V : Type 0} {order : K → K → Ordering} (total : IsTotalOrder order) where
  here : (es : Map K V) (key : K) (r : Result ℕ ℕ) → IsBinarySearchResult (λ (e : K × V). order e.0 key) es r
      → IfOk r (HoldsAt (λ (e : K × V). order e.0 key ≡ Equal) es)
  here es key (Ok i) h = h
  here es key (Err i) h = tt

  gap : (es : Map K V) (key : K) (r : Result ℕ ℕ) → is_sorted order es ≡ true → IsBinarySearchResult (λ (e : K × V). order e.0 key) es r
      → IfErr r (IsPartitionPoint (λ (e : K × V). order e.0 key ≡ Less) (λ (e : K × V). order e.0 key ≡ Greater) es)
  gap es key (Ok i) sorted h = tt
  gap es key (Err i) sorted h = h (searchable total es key sorted)

same : (g : Over) (c : goal.After-binary_search_by g) → c.self.inside.entries.items ≡ c.args.self.now.pairs
same g c = ap (λ map. map.pairs) c.self.view_is

found : (g : Over) (c : goal.After-binary_search_by g)
    → IsBinarySearchResult (λ (e : g.row.K.Denot × g.row.V.Denot). g.K.Ord.cmp e.0 c.args.key.now) c.args.self.now.pairs c.binary_search_by.result
found g c =
    rw (← same g c, ← c.as_slice.ensures.value) (c.binary_search_by.ensures.position (λ e. g.K.Ord.cmp e.0 c.args.key.now) (always_returns_same _ _ _ (λ a r f' q. search rules)))

pub returns-clause-here : goal.returns-clause-here
returns-clause-here g c = here g.met.K.Ord.total c.args.self.now.pairs c.args.key.now c.binary_search_by.result (found g c)

pub returns-clause-gap : goal.returns-clause-gap
returns-clause-gap g c =
    gap g.met.K.Ord.total c.args.self.now.pairs c.args.key.now c.binary_search_by.result (ap (is_sorted g.K.Ord.cmp) (sym (same g c)) ∙ c.self.invariant) (found g c)
