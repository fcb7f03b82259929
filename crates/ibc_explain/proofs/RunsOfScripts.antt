-- What was run is a run of the script.
use Rattle.std.proofs.Common.{◌≡◌, [], ◌++◌, List, Some, length, map, subst, sym}
use Rattle.std.specs.List.{range_with_len}
use Rattle.ibc_ids.specs.Texts.{Text}
use Rattle.ibc_machine.specs.chain.Genesis.{genesis_state}
use Rattle.ibc_refinement.specs.World.{WorldState}
use Rattle.ibc_script.specs.declared.script.Script.{Script}
use Rattle.ibc_script.specs.declared.script.Step.{Step}
use Rattle.ibc_script_cli.proofs.Reaching.{and_then, begins, goes_on}
use Rattle.ibc_script_cli.specs.Runs.{Act, Reached, acts_of}
use Rattle.ibc_script_cli.specs.Runs.Act.{Take, TellBalances, TellNotes}
use Rattle.ibc_script_worlds.specs.WorldChains.{IsNewWorld, world_chains}
use Rattle.ibc_explain.specs.RunsOf.{IsRunOf}

-- steps that were taken from a new world, with nothing printed before
pub is_run : (script : Script) (given start mid end : WorldState) (names : List Text) (before after text : Text)
    → IsNewWorld (genesis_state script.genesis) given → start ≡ given → names ≡ script.names.items → before ≡ []
    → Reached world_chains names (acts_of script.steps.items (length names)) start (Some before) [] mid (Some after)
    → end ≡ mid → text ≡ after → IsRunOf script end text
is_run script given start mid end names before after text new same named none reached ended told = (
  given,
  new,
  let acts = acts_of script.steps.items (length script.names.items) in
      subst (λ (t : Text). Reached world_chains script.names.items acts given (Some []) [] end (Some t)) (sym told)
      (subst (λ (w : WorldState). Reached world_chains script.names.items acts given (Some []) [] w (Some after)) (sym ended)
      (subst (λ (b : Text). Reached world_chains script.names.items acts given (Some b) [] mid (Some after)) none
      (subst (λ (w : WorldState). Reached world_chains script.names.items acts w (Some before) [] mid (Some after)) same
      (subst (λ (n : List Text). Reached world_chains n (acts_of script.steps.items (length n)) start (Some before) [] mid (Some after)) named reached)))),
)

-- what is told behind the steps
abbrev told_behind : List Text → List Act
told_behind names = map TellBalances (range_with_len 0 (length names)) ++ map TellNotes (range_with_len 0 (length names))

-- steps were taken, and then all is told, by a runner of these names
pub all_done : (names given : List Text) (steps none : List Step) (old mid new : WorldState) (before between after : Text) → given ≡ names → none ≡ []
    → Reached world_chains given (map Take steps) old (Some before) [] mid (Some between)
    → Reached world_chains given (acts_of none (length given)) mid (Some between) [] new (Some after)
    → Reached world_chains names (acts_of steps (length names)) old (Some before) [] new (Some after)
all_done names given steps none old mid new before between after named nothing taken told =
    subst (λ (n : List Text). Reached world_chains n (acts_of steps (length n)) old (Some before) [] new (Some after)) named
    (and_then world_chains given
    (goes_on world_chains given (map Take steps) (told_behind given) (begins world_chains given) taken)
    (subst (λ (l : List Step). Reached world_chains given (acts_of l (length given)) mid (Some between) [] new (Some after)) nothing told))
