use Rattle.std.proofs.Common.{◌≡◌, ◌∙◌, ap, ap₂, codes, rules}
use Rattle.clap.specs.Words.{App, app_of, new_app, with_rule, with_subcommand}
use Rattle.ibc_script_cli.specs.Words.{ibcworld, needs_subcommand, relayers_rule}
use Rattle.ibc_script_cli.proofs.words.parser.Goals as goal

pub returns-clause-app : goal.returns-clause-app
unfolding ibcworld
returns-clause-app c =
    let race_is : app_of c.in_ok-race.race ≡ with_rule (new_app (codes "race")) relayers_rule =
    c.in_ok-race.ensures.shape c.relayers.ensures.local ∙ ap₂ with_rule c.new.ensures.app c.relayers.ensures.rule in
    let top_is : app_of c.no_binary_name-parser.result ≡ needs_subcommand (new_app (codes "ibcworld")) = search rules in
    let with_run = c.in_ok-subcommand.ensures.shape (search rules) ∙ ap₂ with_subcommand top_is (ap (λ (a : App). a.top) c.new-run.ensures.app) in
    c.in_ok-subcommand-2.ensures.shape (search rules) ∙ ap₂ with_subcommand with_run (ap (λ (a : App). a.top) race_is)
