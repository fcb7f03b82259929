-- A text is told as it is, and a mistake by its line's number.
use Rattle.std.proofs.Common.{◌≡◌, IfOk, refl, sym, subst}
use Rattle.std.specs.Prelude.{MatchResult}
use Rattle.std.proofs.lemmas.Result.{IfOk-weaker}
use Rattle.ibc_node_lines.specs.declared.lines.NodeLine.TheVariants as line
use Rattle.ibc_node_lines.specs.OtherLines.{IsMistakenLine}
use Rattle.ibc_node_lines.proofs.Served.{mistaken_tells_nothing}
use Rattle.ibc_node_lines.proofs.serving.Server.other.Goals as goal

pub returns-in-Ok-clause-text : goal.returns-in-Ok-clause-text
returns-in-Ok-clause-text g c =
    let told = line.Other c.in-Ok.text in
    subst (λ text. MatchResult text (λ it. told ≡ line.Other it) (λ why. IsMistakenLine c.args.self.now.number why told)) (sym c.in-Ok.is) refl

pub returns-in-Err-clause-none : goal.returns-in-Err-clause-none
returns-in-Err-clause-none g c = IfOk-weaker c.mistake.result _ _ (λ told is. mistaken_tells_nothing c.args.self.now.number c.in-Err.why told is) c.mistake.ensures

pub returns-in-Err-clause-text : goal.returns-in-Err-clause-text
returns-in-Err-clause-text g c =
    subst (λ text. IfOk c.mistake.result (λ told. MatchResult text (λ it. told ≡ line.Other it) (λ why. IsMistakenLine c.args.self.now.number why told))) (sym c.in-Err.is) c.mistake.ensures
