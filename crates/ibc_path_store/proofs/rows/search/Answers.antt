-- The closure compares a pair's key to the path, and the sorted pairs can be searched by it.
use Rattle.std.proofs.Common.{rules, ◌≡◌, Result, Ok, Err, ℕ, Less, Equal, Greater, IfOk, IfErr, true}
use Rattle.std.specs.List.{HoldsAt}
use Rattle.std.specs.List.Sorted.{IsBinarySearchResult, IsPartitionPoint}
use Rattle.std.specs.FinMap.{is_sorted}
use Rattle.std.proofs.lemmas.Fn.{always_returns_same}
use Rattle.ibc_ids.specs.Texts.{Text, text_cmp}
use Rattle.ibc_merkle.specs.Tree.{Pairs}
use Rattle.ibc_merkle.proofs.SearchedPairs.{searchable}
use Rattle.ibc_path_store.proofs.rows.search.Goals as goal

here : (es : Pairs) (key : Text) (r : Result ℕ ℕ) → IsBinarySearchResult (λ (e : Text × Text). text_cmp e.0 key) es r
    → IfOk r (HoldsAt (λ (e : Text × Text). text_cmp e.0 key ≡ Equal) es)
here es key (Ok i) h = h
here es key (Err i) h = tt

gap : (es : Pairs) (key : Text) (r : Result ℕ ℕ) → is_sorted text_cmp es ≡ true → IsBinarySearchResult (λ (e : Text × Text). text_cmp e.0 key) es r
    → IfErr r (IsPartitionPoint (λ (e : Text × Text). text_cmp e.0 key ≡ Less) (λ (e : Text × Text). text_cmp e.0 key ≡ Greater) es)
gap es key (Ok i) sorted h = tt
gap es key (Err i) sorted h = h (searchable es key sorted)

found : (c : goal.After-binary_search_by) → IsBinarySearchResult (λ (e : Text × Text). text_cmp e.0 c.args.path.now) c.args.entries.now c.binary_search_by.result
found c =
    c.binary_search_by.ensures.position (λ (e : Text × Text). text_cmp e.0 c.args.path.now) (always_returns_same _ _ _ (λ a r f' q. search rules))

pub returns-clause-here : goal.returns-clause-here
returns-clause-here c = here c.args.entries.now c.args.path.now c.binary_search_by.result (found c)

pub returns-clause-gap : goal.returns-clause-gap
returns-clause-gap c = gap c.args.entries.now c.args.path.now c.binary_search_by.result c.requires (found c)
