-- Acts that are done while a script is run.
use Rattle.std.specs.Prelude.{List, [], Some, length, map}
use Rattle.ibc_ids.specs.Texts.{Text}
use Rattle.ibc_script.specs.declared.script.Step.{Step}
use Rattle.ibc_script_cli.specs.Runs.{Act, Reached, acts_of}
use Rattle.ibc_script_cli.specs.Runs.Act.{Take}
use Rattle.ibc_script_worlds.specs.WorldChains.{world_chains}
use Rattle.ibc_explain.specs.declared.running.Running.{Running}

-- all acts were done, on chains of these names, and what they print stands behind what was printed before
abbrev pub HasTaken : List Text → List Act → Running → Running → Type 0
HasTaken names acts old new =
    Reached world_chains names acts old.chains (Some old.text.items) [] new.chains (Some new.text.items)

-- these steps were taken in turn
abbrev pub HasTakenEach : List Text → List Step → Running → Running → Type 0
HasTakenEach names steps old new = HasTaken names (map Take steps) old new

-- all was done that these steps make a run do
abbrev pub HasTakenAll : List Text → List Step → Running → Running → Type 0
HasTakenAll names steps old new = HasTaken names (acts_of steps (length names)) old new
