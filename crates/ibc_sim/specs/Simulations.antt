-- Many random scripts, one after another.
use Rattle.std.specs.Prelude.{ℕ, ◌+◌, ◌%◌, ◌^◌}
use Rattle.ibc_sim.specs.declared.simulation.Simulation.{Simulation}

-- the seed of the next script: seeds count up from the one that was asked for, and 0 comes behind 2^64 - 1
abbrev pub next_seed : Simulation → ℕ
next_seed simulation = (simulation.request.seed + simulation.scripts) % 2 ^ 64
