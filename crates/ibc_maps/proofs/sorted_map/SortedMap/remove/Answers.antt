-- The pairs without the one at the place of the key.
use Rattle.std.proofs.Common.{◌≡◌, true, get_or, ap, ◌∙◌, sym}
use Rattle.std.specs.List.{remove}
use Rattle.std.specs.FinMap.{is_sorted}
use Rattle.ibc_maps.proofs.SearchedKeys.{found-at, found-without, gap-at, gap-without, remove_is_sorted}
use Rattle.ibc_maps.proofs.sorted_map.SortedMap.remove.Given.{Over}
use Rattle.ibc_maps.proofs.sorted_map.SortedMap.remove.Goals as goal

module _ (g : Over) (c : goal.After-drop-remove g) where
  same : c.self.inside.entries.items ≡ c.args.self.now.pairs
  same = ap (λ map. map.pairs) c.self.view_is

  stands : c.remove.result ≡ get_or c.args.self.now.pairs c.in-Ok.index c.remove.result
  stands = c.remove.ensures.value ∙ ap (λ es. get_or es c.in-Ok.index c.remove.result) same

  sorted : is_sorted g.K.Ord.cmp c.args.self.now.pairs ≡ true
  sorted = ap (is_sorted g.K.Ord.cmp) (sym same) ∙ c.self.invariant

  items : c.remove.new.self.items ≡ remove c.args.self.now.pairs c.in-Ok.index
  items = c.remove.ensures.items ∙ ap (λ es. remove es c.in-Ok.index) same

pub invariant_of-self : goal.invariant_of-self
invariant_of-self g c =
    ap (is_sorted g.K.Ord.cmp) (items g c)
    ∙ remove_is_sorted g.met.K.Ord.total c.args.self.now.pairs c.in-Ok.index c.remove.result (sorted g c) c.in-Ok.ensures.found (stands g c)

pub returns-in-Ok-clause-value : goal.returns-in-Ok-clause-value
returns-in-Ok-clause-value g c =
    found-at g.met.K.Ord.total c.args.self.now.pairs c.args.key.now c.in-Ok.index c.remove.result (sorted g c) c.in-Ok.ensures.found (stands g c) (c.in-Ok.ensures.here c.remove.result)

pub returns-in-Ok-clause-pairs : goal.returns-in-Ok-clause-pairs
returns-in-Ok-clause-pairs g c =
    items g c
    ∙ found-without g.met.K.Ord.total c.args.self.now.pairs c.args.key.now c.in-Ok.index c.remove.result (sorted g c) c.in-Ok.ensures.found (stands g c) (c.in-Ok.ensures.here c.remove.result)

pub returns-in-Err-clause-value : goal.returns-in-Err-clause-value
returns-in-Err-clause-value g c = gap-at g.met.K.Ord.total c.args.self.now.pairs c.args.key.now c.in-Err.field-0 c.in-Err.ensures.within c.in-Err.ensures.gap

pub returns-in-Err-clause-pairs : goal.returns-in-Err-clause-pairs
returns-in-Err-clause-pairs g c = gap-without g.met.K.Ord.total c.args.self.now.pairs c.args.key.now c.in-Err.field-0 c.in-Err.ensures.within c.in-Err.ensures.gap
