use denote.Exit.{yes}
use denote.Param.Send.{arg_sync, param_sync}
use Rattle.ibc_script_races.proofs.Crossing.{chain_sync}
use Rattle.ibc_race_counts.proofs.racing.relay_on.Goals as goal

pub relay_all_noting-requires-sync-X : goal.relay_all_noting-requires-sync-X
relay_all_noting-requires-sync-X g c κs within = param_sync 2 _ (arg_sync _ yes _ (chain_sync _ _ c.type_bounds.send-W c.type_bounds.sync-W))

pub relay_all_noting-requires-sync-Y : goal.relay_all_noting-requires-sync-Y
relay_all_noting-requires-sync-Y g c κs within = param_sync 3 _ (arg_sync _ yes _ (chain_sync _ _ c.type_bounds.send-W c.type_bounds.sync-W))
