use Rattle.ibc_machine.specs.chain.Genesis.{genesis_state}
use Rattle.ibc_replay.proofs.StoredSteps.{is_allowed_then}
use Rattle.ibc_node.proofs.Reasons.{of_genesis}
use Rattle.ibc_node.proofs.opening.new_world.Goals as goal

pub returns-in-Ok-clause-begins : goal.returns-in-Ok-clause-begins
returns-in-Ok-clause-begins c = record { of = c.in-Ok.ensures.genesis; ledgers = c.in-Ok.ensures.ledgers; order = c.in-Ok.ensures.order }

pub returns-in-Ok-clause-allowed : goal.returns-in-Ok-clause-allowed
returns-in-Ok-clause-allowed c = is_allowed_then (genesis_state c.args.genesis.now) (λ denied. let e = c.in-Ok.ensures.bad.1 denied in cc)

pub returns-in-Err-clause-faults : goal.returns-in-Err-clause-faults
returns-in-Err-clause-faults c = of_genesis c.in-Err.refusal c.of_refusal.result c.of_refusal.ensures c.in-Err.ensures.err
