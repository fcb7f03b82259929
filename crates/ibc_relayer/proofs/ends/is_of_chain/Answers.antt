-- The clients that are held are those of the view.
use Rattle.std.proofs.Common.{◌∙◌, ap, nat_eq, Some, None}
use Rattle.ibc_machine.specs.chain.Records.{Core}
use Rattle.ibc_wire.specs.declared.records.ClientState.{ClientState}
use Rattle.ibc_relayer.proofs.Tracking.{tracked_there}
use Rattle.ibc_relayer.proofs.ends.is_of_chain.Goals as goal

pub returns-in-Some : goal.returns-in-Some
returns-in-Some c =
    ap (λ (s : ClientState). nat_eq s.chain c.args.chain) c.state.ensures
    ∙ tracked_there c.args.b.now c.clients.result.now.pairs c.args.client.now c.args.chain (Some c.in-Some.client.now) (c.clients.ensures ∙ ap (λ (core : Core). core.clients) c.plain.ensures) c.in-Some.ensures

pub returns-in-None : goal.returns-in-None
returns-in-None c =
    tracked_there c.args.b.now c.clients.result.now.pairs c.args.client.now c.args.chain None (c.clients.ensures ∙ ap (λ (core : Core). core.clients) c.plain.ensures) c.in-None.ensures
