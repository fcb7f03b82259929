use Rattle.std.proofs.lemmas.Result.{err_from_is_err_and}
use Rattle.std.proofs.Common.{ap, ◌∙◌}
use Rattle.ibc_ids.specs.Paths.{path}
use Rattle.ibc_ids.specs.declared.key.Key.TheVariants as key
use Rattle.ibc_machine.specs.ics24.Values.{ClientIs}
use Rattle.ibc_records.proofs.Judging.{unchecked}
use Rattle.ibc_records.proofs.Shown.{is_shown}
use Rattle.ibc_connection.proofs.claims.check_client_state.Goals as goal

pub returns-in_err-value : goal.returns-in_err-value
returns-in_err-value c =
    let p = err_from_is_err_and c.from_residual.result c.from_residual.ensures.1 in
    λ seen state text knows reads. unchecked c.from_residual.result p.1 (p.2 ∙ c.in_err-value.ensures.err)

pub returns-in_err-clone : goal.returns-in_err-clone
returns-in_err-clone c =
    let p = err_from_is_err_and c.from_residual-in_err-clone.result c.from_residual-in_err-clone.ensures.1 in
    λ seen state text knows reads. unchecked c.from_residual-in_err-clone.result p.1 p.2

pub returns : goal.returns
returns c =
    is_shown c.args.records.now c.args.client.now c.args.height c.requires (key.ClientState c.args.id.now) (ClientIs c.args.state) c.args.proof.now c.check_present_with.result
    (ap (λ id. path (key.ClientState id)) c.in_ok-clone.ensures.cases) (c.as_slice.ensures ∙ c.in_ok-value.ensures.ok) c.check_present_with.ensures
