use Rattle.std.proofs.Common.{codes}
use Rattle.std.proofs.lemmas.Result.{err_from_is_err_and}
use Rattle.ibc_ids.specs.Names.{is_connection}
use Rattle.ibc_ids.proofs.KeyParts.{name_refusal, refused_connection, this_text}
use Rattle.ibc_ids.proofs.path.connection.Goals as goal

pub returns-in_err-parse : goal.returns-in_err-parse
returns-in_err-parse c =
    let id = c.args.id.now in
    let e = c.in_err-parse.field-0.0 in
    let p = err_from_is_err_and c.from_residual.result c.from_residual.ensures.1 in
    rw (p.1, p.2) (refused_connection c.args.kind.now id e (this_text c.args.kind.now (codes "connections") c.if-ne.ensures) (name_refusal (is_connection id) e c.in_err-parse.ensures.bad c.in_err-parse.ensures.memory))
