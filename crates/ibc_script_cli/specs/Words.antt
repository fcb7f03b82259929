-- What the words after the program's name may ask for.
use Rattle.std.specs.Prelude.{◌≡◌, ⊤, ℕ, ◌-◌, ◌≤◌, Bool, true, false, ◌&&◌, nat_le, if◌then◌else◌, codes, List, [], ◌∷◌, map, Option, Some, None, is_some, option_map, option_and_then}
use Rattle.std.specs.Borrow.{Bor}
use Rattle.std.specs.Str.{bytes_eq}
use Rattle.clap.specs.declared.builder.action.ArgAction.TheVariants.{Set}
use Rattle.clap.specs.Words.{App, Row, Rule, Text, first_of, new_app, new_rule, subcommand_of, with_rule, with_subcommand}
use Rattle.clap.specs.Faults.{fault_of}
use Rattle.clap.specs.Kinds.{Kinds}
use Rattle.ibc_script_cli.specs.declared.words.Command.{Command}
use Rattle.ibc_script_cli.specs.declared.words.Command.TheVariants.{Race, Run}

-- a command whose words all are its own, none of them the program's name, and which a subcommand must follow
abbrev pub needs_subcommand : App → App
needs_subcommand app = record app { top = record app.top { no_binary_name = true; subcommand_required = true } }

-- the argument `--relayers TEXT`, which must be there
abbrev pub relayers_rule : Rule
relayers_rule = record (new_rule (codes "relayers")) { long = Some (codes "relayers"); required = true; action = Some Set }

-- `ibcworld`, with its two subcommands `run` and `race --relayers TEXT`
unfoldable pub ibcworld : App
ibcworld =
    with_subcommand (with_subcommand (needs_subcommand (new_app (codes "ibcworld"))) (new_app (codes "run")).top)
    (with_rule (new_app (codes "race")) relayers_rule).top

abbrev pub is_none : Kinds → Bool
is_none [] = true
is_none (kind ∷ kinds) = false

-- how many relayers a text asks for: one digit from 1 to 8
abbrev pub relayers_of : Text → Option ℕ
relayers_of (digit ∷ []) = if nat_le 49 digit && nat_le digit 56 then Some (digit - 48) else None
relayers_of _ = None

-- what a subcommand asks for, with the value of `--relayers`
abbrev pub command_by : Text → Option Text → Option Command
command_by name relayers =
    if bytes_eq name (codes "run") then Some Run else option_map (λ n. Race n) (option_and_then relayers_of relayers)

-- what a subcommand asks for, by what its arguments were given
abbrev pub command_in : Text × List Row → Option Command
command_in p = command_by p.0 (first_of (codes "relayers") p.1)

-- what the words ask for, where the program does it
unfoldable pub command_of : List Text → Option Command
command_of words = if is_none (fault_of ibcworld words) then option_and_then command_in (subcommand_of ibcworld words) else None

-- the words ask for what the program does
abbrev pub are_words : List Text → Bool
are_words words = is_some (command_of words)

-- the words as the program is given them
abbrev pub given_words : List (Bor Text) → List Text
given_words words = map (λ word. word.now) words

-- the words ask for this
abbrev pub AskFor : List (Bor Text) → Command → Type 0
AskFor words = λ command. command_of (given_words words) ≡ Some command

-- the words ask for what the program does
abbrev pub AskForSomething : List (Bor Text) → Type 0
AskForSomething words = are_words (given_words words) ≡ true

-- the words ask for nothing that the program does
abbrev pub AskForNothing : List (Bor Text) → Type 0
AskForNothing words = are_words (given_words words) ≡ false

-- a race has 1 to 8 relayers
abbrev pub IsPossible : Command → Type 0
IsPossible Run = ⊤
IsPossible (Race relayers) = (1 ≤ relayers) × (relayers ≤ 8)
