use Rattle.ibc_script_cli.proofs.runner.Runner.open.Goals as goal

pub returns-clause-ran : goal.returns-clause-ran
returns-clause-ran g c =
    c.take_turns-opened.ensures.ran
