use Rattle.std.proofs.Common.{◌∙◌, List, ap, sym}
use Rattle.clap.specs.Words.{Row, Text}
use Rattle.std.specs.Prelude.{option_and_then, option_map}
use Rattle.ibc_script_cli.specs.Words.{command_in}
use Rattle.ibc_script_cli.proofs.AskedWords.{asks_by, name_in, rows_in, subcommand_is}
use Rattle.ibc_script_cli.proofs.words.command_of.Goals as goal

pub returns-in-Some : goal.returns-in-Some
returns-in-Some c =
    let rows = subcommand_is c.args.found.now c.subcommand.result c.subcommand.ensures.name c.subcommand.ensures.rows in
    asks_by c.args.found.now c.subcommand.result (c.in-Some.name, c.in-Some.inner) (option_map (λ text. text.now) c.get_str.result)
    c.command_by.result rows c.in-Some.is c.get_str.ensures c.command_by.ensures

pub returns-in-None : goal.returns-in-None
returns-in-None c =
    let rows = subcommand_is c.args.found.now c.subcommand.result c.subcommand.ensures.name c.subcommand.ensures.rows in
    sym (ap (option_and_then command_in) (rows ∙ ap (option_map {U = Text × List Row} (λ x. (name_in x, rows_in x))) c.in-None.is))
