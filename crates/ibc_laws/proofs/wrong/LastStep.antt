-- The last step of a run is one of its steps.
use Rattle.std.proofs.Common.{suc, refl, List, [], ◌∷◌, ◌++◌, arith, Contains}
use Rattle.ibc_machine.specs.declared.event.Event.{Event}
use Rattle.ibc_machine.specs.chain.Machine.{World}
use Rattle.ibc_laws.specs.Runs.{Machine, WorldStep, steps_by, world_by}

abbrev pub last_step : Machine → World → List Event → Event → WorldStep
last_step machine w earlier last =
    (world_by machine w earlier, (last, (machine (world_by machine w earlier) last).0), (machine (world_by machine w earlier) last).1)

pub lemma_last_step : (machine : Machine) (w : World) (earlier : List Event) (last : Event)
    → Contains (steps_by machine w (earlier ++ last ∷ [])) (last_step machine w earlier last)
lemma_last_step machine w [] last = (0, omega arith, refl)
lemma_last_step machine w (e ∷ earlier) last =
    let h = lemma_last_step machine (machine w e).1 earlier last in (suc h.0, (let lt = h.1 in omega arith), h.2)
