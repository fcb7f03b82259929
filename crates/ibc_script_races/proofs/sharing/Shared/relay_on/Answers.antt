use denote.Exit.{yes}
use denote.Param.Send.{arg_sync, param_sync}
use Rattle.ibc_script_races.proofs.Crossing.{chain_sync}
use Rattle.ibc_script_races.proofs.sharing.Shared.relay_on.Goals as goal

-- src/sharing.rt:69:9
pub relay_all-requires-sync-X : goal.relay_all-requires-sync-X
relay_all-requires-sync-X g c κs within = param_sync 1 _ (arg_sync _ yes _ (chain_sync _ _ c.type_bounds.send-W c.type_bounds.sync-W))

-- src/sharing.rt:69:9
pub relay_all-requires-sync-Y : goal.relay_all-requires-sync-Y
relay_all-requires-sync-Y g c κs within = param_sync 2 _ (arg_sync _ yes _ (chain_sync _ _ c.type_bounds.send-W c.type_bounds.sync-W))
