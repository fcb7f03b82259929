-- What stands at the place of the key, and what the map becomes by what is written there.
use Rattle.std.proofs.Common.{◌≡◌, ◌-◌, ◌⊎◌, refl, ap, inl, set, vec_len, vec_capacity}
use Rattle.ibc_maps.proofs.SearchedKeys.{found-at, found-with, gap-at, set_is_sorted}
use Rattle.ibc_maps.proofs.sorted_map.SortedMap.get_mut.Goals as goal

pub invariant_of-self-lent : goal.invariant_of-self-lent
invariant_of-self-lent g c =
    λ w. set_is_sorted g.met.K.Ord.total c.self.inside.entries.items c.in-Ok.index c.index_mut-entry.result.now w c.self.invariant c.in-Ok.ensures.found c.index_mut-entry.ensures.value

-- under one name, the same is written back
same_end : {N A M : Type 0} {name : N} {f h : A → M} → f ≡ h → ◌≡◌ {A = (N × (A → M)) ⊎ M} (inl (name, f)) (inl (name, h))
same_end {name = name} e = ap (λ end. inl (name, end)) e

pub returns-in-Ok : goal.returns-in-Ok
returns-in-Ok g c =
    let pairs = c.self.inside.entries.items in
    let entry = c.index_mut-entry.result.now in
    let total = g.met.K.Ord.total in
    let room = vec_capacity c.self.inside.entries - vec_len c.self.inside.entries in
    let here = c.in-Ok.ensures.here entry in
    let written = λ (w : g.row.V.Denot). found-with total pairs c.args.key.now c.in-Ok.index entry w c.self.invariant c.in-Ok.ensures.found c.index_mut-entry.ensures.value here in
    rw (← c.self.view_is) (
      same_end {f = λ w. record { pairs = set pairs c.in-Ok.index (entry.0, w); room = room }} (λ i w. record { pairs = written w i; room = room }),
      record { writes_back = tt; value = found-at total pairs c.args.key.now c.in-Ok.index entry c.self.invariant c.in-Ok.ensures.found c.index_mut-entry.ensures.value here },
    )

pub returns-in-Err : goal.returns-in-Err
returns-in-Err g c =
    rw (← c.self.view_is) (
      refl,
      record { writes_back = tt; value = gap-at g.met.K.Ord.total c.self.inside.entries.items c.args.key.now c.in-Err.field-0 c.in-Err.ensures.within c.in-Err.ensures.gap },
    )
