-- A run of a script, with the world at its end.
use Rattle.std.specs.Prelude.{[], Some}
use Rattle.ibc_ids.specs.Texts.{Text}
use Rattle.ibc_machine.specs.chain.Genesis.{genesis_state}
use Rattle.ibc_refinement.specs.World.{WorldState}
use Rattle.ibc_script.specs.declared.script.Script.{Script}
use Rattle.ibc_script_cli.specs.Program.{acts_for}
use Rattle.ibc_script_cli.specs.Runs.{Reached}
use Rattle.ibc_script_worlds.specs.WorldChains.{IsNewWorld, world_chains}

-- all acts of the script were done from a world of its genesis, and this is the world at the end and the text
abbrev pub IsRunOf : Script → WorldState → Text → Type 0
IsRunOf script end text =
    (start : WorldState) × IsNewWorld (genesis_state script.genesis) start
    × Reached world_chains script.names.items (acts_for script) start (Some []) [] end (Some text)
