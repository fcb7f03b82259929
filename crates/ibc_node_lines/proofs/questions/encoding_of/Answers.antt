-- Where there is no proof, there is no encoding.
use Rattle.std.proofs.Common.{IfOk, None, refl, sym, subst}
use Rattle.ibc_script_cli.specs.Completing.{IsEncoding}
use Rattle.ibc_node_lines.proofs.questions.encoding_of.Goals as goal

pub returns-in-Some : goal.returns-in-Some
returns-in-Some c = subst (λ found. IfOk c.encoding_in.result (IsEncoding found)) (sym c.in-Some.is) c.encoding_in.ensures

pub returns-in-None : goal.returns-in-None
returns-in-None c = subst (λ found. IsEncoding found None) (sym c.in-None.is) refl
