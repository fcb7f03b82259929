use Rattle.ibc_script_races.proofs.racing.take_and_audit.Goals as goal

pub returns-clause-raced : goal.returns-clause-raced
returns-clause-raced g c = c.audited.ensures.raced c.args.steps.items c.in_ok-chains.ensures.taken
