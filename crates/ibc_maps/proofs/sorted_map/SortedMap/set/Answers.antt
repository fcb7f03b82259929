-- The pairs with the value at the place of the key.
use Rattle.std.proofs.Common.{◌≡◌, true, get_or, set, ap, ◌∙◌, sym, OnErr, Result, Ok, Err}
use Rattle.std.specs.List.{insert}
use Rattle.std.specs.FinMap.{is_sorted}
use Rattle.ibc_maps.proofs.SearchedKeys.{found-with, gap-at, gap-with, set_is_sorted, insert_is_sorted}
use Rattle.ibc_maps.proofs.sorted_map.SortedMap.set.Given.{Over}
use Rattle.ibc_maps.proofs.sorted_map.SortedMap.set.Goals as goal

-- ---- a key that is there

module _ (g : Over) (c : goal.After-drop-key g) where
  there_same : c.self.inside.entries.items ≡ c.args.self.now.pairs
  there_same = ap (λ map. map.pairs) c.self.view_is

  stands : c.index_mut.result.now ≡ get_or c.args.self.now.pairs c.in-Ok.index c.index_mut.result.now
  stands = c.index_mut.ensures.value ∙ ap (λ es. get_or es c.in-Ok.index c.index_mut.result.now) there_same

  there_sorted : is_sorted g.K.Ord.cmp c.args.self.now.pairs ≡ true
  there_sorted = ap (is_sorted g.K.Ord.cmp) (sym there_same) ∙ c.self.invariant

  there_items : set c.self.inside.entries.items c.in-Ok.index (c.index_mut.result.now.0, c.args.value) ≡ set c.args.self.now.pairs c.in-Ok.index (c.index_mut.result.now.0, c.args.value)
  there_items = ap (λ es. set es c.in-Ok.index (c.index_mut.result.now.0, c.args.value)) there_same

pub invariant_of-self : goal.invariant_of-self
invariant_of-self g c =
    ap (is_sorted g.K.Ord.cmp) (there_items g c)
    ∙ set_is_sorted g.met.K.Ord.total c.args.self.now.pairs c.in-Ok.index c.index_mut.result.now c.args.value (there_sorted g c) c.in-Ok.ensures.found (stands g c)

pub returns-in-Ok-clause-ok : goal.returns-in-Ok-clause-ok
returns-in-Ok-clause-ok g c =
    there_items g c
    ∙ found-with g.met.K.Ord.total c.args.self.now.pairs c.args.key c.in-Ok.index c.index_mut.result.now c.args.value (there_sorted g c) c.in-Ok.ensures.found (stands g c) (c.in-Ok.ensures.here c.index_mut.result.now)

-- ---- a new key

module _ (g : Over) (c : goal.In_ok-insert-in-Err g) where
  new_same : c.self.inside.entries.items ≡ c.args.self.now.pairs
  new_same = ap (λ map. map.pairs) c.self.view_is

  new_items : c.insert.new.self.items ≡ insert c.args.self.now.pairs c.in-Err.index (c.args.key, c.args.value)
  new_items = c.in_ok-insert-in-Err.ensures.items ∙ ap (λ es. insert es c.in-Err.index (c.args.key, c.args.value)) new_same

pub invariant_of-self-in-Err : goal.invariant_of-self-in-Err
invariant_of-self-in-Err g c =
    ap (is_sorted g.K.Ord.cmp) (new_items g c)
    ∙ insert_is_sorted g.met.K.Ord.total c.args.self.now.pairs c.args.key c.args.value c.in-Err.index (ap (is_sorted g.K.Ord.cmp) (sym (new_same g c)) ∙ c.self.invariant) c.in-Err.ensures.within c.in-Err.ensures.gap

pub returns-in_ok-insert-in-Err-clause-ok : goal.returns-in_ok-insert-in-Err-clause-ok
returns-in_ok-insert-in-Err-clause-ok g c =
    new_items g c ∙ gap-with g.met.K.Ord.total c.args.self.now.pairs c.args.key c.args.value c.in-Err.index c.in-Err.ensures.within c.in-Err.ensures.gap

on_err : {T E : Type 0} (r : Result T E) {P : Type 0} → P → OnErr r P
on_err (Ok x) p = tt
on_err (Err e) p = p

pub returns-in_err-insert-in-Err-clause-absent : goal.returns-in_err-insert-in-Err-clause-absent
returns-in_err-insert-in-Err-clause-absent g c =
    on_err c.from_residual.result (sym (gap-at g.met.K.Ord.total c.args.self.now.pairs c.args.key c.in-Err.index c.in-Err.ensures.within c.in-Err.ensures.gap))
