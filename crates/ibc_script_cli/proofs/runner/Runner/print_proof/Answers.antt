use Rattle.std.proofs.Common.{Some, None, subst}
use Rattle.ibc_script_cli.proofs.Looks.{proof_told}
use Rattle.ibc_script_cli.proofs.Reaching.{not_begun}
use Rattle.std.proofs.lemmas.Result.{err_from_is_err_and}
use Rattle.ibc_script_cli.proofs.Writing.{nothing_more}
use Rattle.ibc_script_cli.specs.Completing.{IsProofBytesAt}
use Rattle.ibc_script_cli.proofs.runner.Runner.print_proof.Goals as goal

pub returns-in_err-proof-clause-ran : goal.returns-in_err-proof-clause-ran
returns-in_err-proof-clause-ran g c =
    let p = err_from_is_err_and c.from_residual.result c.from_residual.ensures.1 in rw p.1 (not_begun g.C.Chains.known c.args.self.now.names.now (nothing_more (g.W.Write.contents c.args.output.now)))

pub returns-in-Some-clause-ran : goal.returns-in-Some-clause-ran
returns-in-Some-clause-ran g c =
    proof_told g.C.Chains.known c.args.self.now.names.now c.print_proof_of-printed.result c.args.chains.now (g.W.Write.contents c.args.output.now) (g.W.Write.contents c.print_proof_of-printed.new.output) c.args.from.chain c.name-chain.result.now c.name-chain.ensures c.args.from.height c.args.key (Some c.in-Some.proof)
    (subst (IsProofBytesAt (g.C.Chains.known.answers c.args.chains.now) c.args.from c.args.key) c.in-Some.is c.in_ok-proof.ensures.is) c.print_proof_of-printed.ensures.written

pub returns-in-None-clause-ran : goal.returns-in-None-clause-ran
returns-in-None-clause-ran g c =
    proof_told g.C.Chains.known c.args.self.now.names.now c.print_proof_of.result c.args.chains.now (g.W.Write.contents c.args.output.now) (g.W.Write.contents c.print_proof_of.new.output) c.args.from.chain c.name-chain.result.now c.name-chain.ensures c.args.from.height c.args.key None
    (subst (IsProofBytesAt (g.C.Chains.known.answers c.args.chains.now) c.args.from c.args.key) c.in-None.is c.in_ok-proof.ensures.is) c.print_proof_of.ensures.written
