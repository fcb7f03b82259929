use denote.Exit.{yes}
use denote.Param.Send.{arg_sync, param_sync}
use Rattle.ibc_script_races.proofs.Crossing.{chain_sync}
use Rattle.ibc_thread_tests.proofs.trial.is_done_by_receipts.Goals as goal

pub is_done-done-requires-sync-G : goal.is_done-done-requires-sync-G
is_done-done-requires-sync-G g c κs within = param_sync 1 _ (arg_sync _ yes _ (chain_sync _ _ c.type_bounds.send-W c.type_bounds.sync-W))
