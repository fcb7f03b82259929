use Rattle.std.proofs.Common.{◌≡◌, ◌∙◌, List, length, subst}
use Rattle.ibc_ids.specs.Texts.{Text}
use Rattle.ibc_script_cli.specs.Runs.{Runs, acts_of}
use Rattle.ibc_script_cli.proofs.Ended.{has_begun, has_run}
use Rattle.ibc_script_cli.proofs.program.run_on.Goals as goal

pub returns-clause-ran : goal.returns-clause-ran
returns-clause-ran g c =
    let before = g.W.Write.contents c.args.output.now in
    let mid = g.W.Write.contents c.run-ran.new.output in
    let same : c.new.result.names.now ≡ c.args.script.names.items = c.new.ensures ∙ c.as_slice.ensures.value in
    has_run g.S.Worlds.begins g.S.Worlds.keeps g.S.Chains.Chains.known c.args.script c.args.chains c.run-ran.new.chains before mid (g.W.Write.contents c.flush_after.new.output) c.requires c.flush_after.ensures.same c.run-ran.result
    c.flush_after.result
    (subst (λ (n : List Text). Runs g.S.Chains.Chains.known n (acts_of c.args.script.steps.items (length n)) c.run-ran.result c.args.chains before c.run-ran.new.chains mid) same
    c.run-ran.ensures.ran)
    c.lemma_keeps.ensures c.flush_after.ensures.ran

pub returns-clause-stopped : goal.returns-clause-stopped
returns-clause-stopped g c =
    let before = g.W.Write.contents c.args.output.now in
    let mid = g.W.Write.contents c.run-ran.new.output in
    let same : c.new.result.names.now ≡ c.args.script.names.items = c.new.ensures ∙ c.as_slice.ensures.value in
    has_begun g.S.Worlds.begins g.S.Worlds.keeps g.S.Chains.Chains.known c.args.script c.args.chains c.run-ran.new.chains before mid (g.W.Write.contents c.flush_after.new.output) c.requires c.flush_after.ensures.same c.run-ran.result
    c.flush_after.result
    (subst (λ (n : List Text). Runs g.S.Chains.Chains.known n (acts_of c.args.script.steps.items (length n)) c.run-ran.result c.args.chains before c.run-ran.new.chains mid) same
    c.run-ran.ensures.ran)
