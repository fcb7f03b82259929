use Rattle.ibc_race_counts.proofs.racing.take_and_count.Goals as goal

pub returns-clause-counted : goal.returns-clause-counted
returns-clause-counted g c = c.counted.ensures.counted c.args.steps.items c.in_ok-taken.ensures.taken
