-- The world of the genesis begins with no entries.
use Rattle.std.specs.Prelude.{IsTrue}
use Rattle.ibc_machine.specs.chain.Genesis.{genesis_state, is_allowed}
use Rattle.ibc_replay.specs.Replays.{IsBeginning}
use Rattle.ibc_replay.proofs.StoredSteps.{replayed_if_ok, different_if_err, genesis_if_err, is_allowed_then}
use Rattle.ibc_replay.proofs.replaying.replay.Goals as goal

module _ (c : goal.After-replay_from) where
  allowed : IsTrue (is_allowed (genesis_state c.args.genesis.now))
  allowed = is_allowed_then (genesis_state c.args.genesis.now) (λ denied. let e = c.in-Ok.ensures.bad.1 denied in cc)

  begins : IsBeginning (genesis_state c.args.genesis.now) c.in-Ok.world
  begins = record { of = c.in-Ok.ensures.genesis; ledgers = c.in-Ok.ensures.ledgers; order = c.in-Ok.ensures.order }

pub returns-in-Ok-clause-replayed : goal.returns-in-Ok-clause-replayed
returns-in-Ok-clause-replayed c =
    replayed_if_ok (genesis_state c.args.genesis.now) c.args.entries.items c.in-Ok.world c.replay_from.result (allowed c) (begins c) c.replay_from.ensures.replayed c.replay_from.ensures.lawful

pub returns-in-Ok-clause-different : goal.returns-in-Ok-clause-different
returns-in-Ok-clause-different c =
    different_if_err (genesis_state c.args.genesis.now) c.args.entries.items c.in-Ok.world c.replay_from.result (begins c) c.replay_from.ensures.different

pub returns-in-Ok-clause-genesis : goal.returns-in-Ok-clause-genesis
returns-in-Ok-clause-genesis c =
    genesis_if_err (genesis_state c.args.genesis.now) c.args.entries.items c.in-Ok.world c.replay_from.result (allowed c) c.replay_from.ensures.different
