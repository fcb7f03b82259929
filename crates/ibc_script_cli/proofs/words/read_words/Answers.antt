use Rattle.std.proofs.Common.{◌≡◌, ◌∙◌, ap, map, sym}
use Rattle.std.specs.Prelude.{is_some}
use Rattle.clap.specs.Words.{app_of, subcommand_rows_of}
use Rattle.ibc_script.specs.declared.fault.Fault.TheVariants.{BadArguments}
use Rattle.ibc_script_cli.proofs.AskedWords.{answered, asked, not_asked, possible, unanswered}
use Rattle.ibc_script_cli.proofs.words.read_words.Goals as goal

pub returns-in-Ok-clause-asked : goal.returns-in-Ok-clause-asked
returns-in-Ok-clause-asked c =
    let words = map (λ word. word.now) c.args.words.now in
    let is = asked (app_of c.in_ok-parser.parser) words c.try_get_matches_from.result c.in-Ok.found
    c.in_ok-parser.ensures.app c.try_get_matches_from.ensures.kinds c.in-Ok.ensures.matches c.in-Ok.is in
    answered words c.command_of-command.result c.ok_or.result (is ∙ sym c.command_of-command.ensures) c.ok_or.ensures.ok_part

pub returns-in-Ok-clause-relayers : goal.returns-in-Ok-clause-relayers
returns-in-Ok-clause-relayers c =
    possible (subcommand_rows_of c.in-Ok.found) c.command_of-command.result c.ok_or.result c.command_of-command.ensures c.ok_or.ensures.ok_part

pub returns-in-Ok-clause-bad : goal.returns-in-Ok-clause-bad
returns-in-Ok-clause-bad c bad =
    let words = map (λ word. word.now) c.args.words.now in
    let is = asked (app_of c.in_ok-parser.parser) words c.try_get_matches_from.result c.in-Ok.found
    c.in_ok-parser.ensures.app c.try_get_matches_from.ensures.kinds c.in-Ok.ensures.matches c.in-Ok.is in
    unanswered words c.command_of-command.result c.ok_or.result BadArguments (is ∙ sym c.command_of-command.ensures) c.ok_or.ensures.ok_part bad

pub returns-in-Err-clause-bad : goal.returns-in-Err-clause-bad
returns-in-Err-clause-bad c is =
    let bad : c.fault_of.result ≡ BadArguments = cc in
    ap is_some (not_asked (app_of c.in_ok-parser.parser) (map (λ word. word.now) c.args.words.now) c.try_get_matches_from.result c.in-Err.error
    c.in_ok-parser.ensures.app c.try_get_matches_from.ensures.kinds c.in-Err.is (c.fault_of.ensures.bad.0 bad))
