use Rattle.std.proofs.Common.{[], ◌∷◌, subst}
use Rattle.std.proofs.lemmas.Result.{err_from_is_err_and}
use Rattle.std.specs.Io.KnownBytes.{Appends}
use Rattle.ibc_ids.specs.Texts.{Text}
use Rattle.ibc_script_cli.specs.Runs.{IsCut}
use Rattle.ibc_script_cli.proofs.Writing.{both_written, front_cut}
use Rattle.ibc_script_cli.proofs.streams.write_line.Goals as goal

pub returns-in_err-write_bytes-clause-written : goal.returns-in_err-write_bytes-clause-written
returns-in_err-write_bytes-clause-written g c =
    let before = g.W.Write.contents c.args.output.now in
    let after = g.W.Write.contents c.write_bytes.new.output in
    let p = err_from_is_err_and c.from_residual.result c.from_residual.ensures.1 in
    rw p.1 (front_cut before after c.args.line.now (10 ∷ []) (subst (λ (t : Text). IsCut before after t) c.as_bytes.ensures.value c.in_err-write_bytes.ensures.written))

pub returns-clause-written : goal.returns-clause-written
returns-clause-written g c =
    let before = g.W.Write.contents c.args.output.now in
    let mid = g.W.Write.contents c.write_bytes.new.output in
    both_written c.write_bytes-2.result before mid (g.W.Write.contents c.write_bytes-2.new.output) c.args.line.now (10 ∷ [])
    (subst (λ (t : Text). Appends before mid t) c.as_bytes.ensures.value c.in_ok-write_bytes.ensures.written) c.write_bytes-2.ensures.written
