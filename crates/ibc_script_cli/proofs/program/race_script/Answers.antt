use Rattle.std.proofs.Common.{◌≡◌, ◌∙◌, List, inl, subst}
use Rattle.std.proofs.lemmas.Result.{err_from_is_err_and}
use Rattle.ibc_ids.specs.Texts.{Text}
use Rattle.ibc_machine.specs.chain.Genesis.{genesis_state}
use Rattle.ibc_script.specs.declared.script.Script.{Script}
use Rattle.ibc_script_cli.specs.Program.{audit_text}
use Rattle.ibc_script_cli.specs.Runs.{WritesText}
use Rattle.ibc_script_cli.proofs.Ended.{has_raced, has_raced_in_part, or_in_part}
use Rattle.ibc_script_cli.proofs.Writing.{keeps_same}
use Rattle.ibc_script_cli.proofs.program.race_script.Goals as goal

pub returns-in_err-audited-clause-stopped : goal.returns-in_err-audited-clause-stopped
returns-in_err-audited-clause-stopped g c =
    let p = err_from_is_err_and c.from_residual.result c.from_residual.ensures.1 in rw p.1 (inl (keeps_same (g.W.Write.contents c.args.output.now)))

pub returns-clause-raced : goal.returns-clause-raced
returns-clause-raced g c =
    let before = g.W.Write.contents c.args.output.now in
    let after = g.W.Write.contents c.print_race.new.output in
    let audit = c.in_ok-audited.audited in
    let same : c.as_slice.result.now ≡ c.args.script.names.items = c.as_slice.ensures.value ∙ c.in_ok-names.ensures in
    let told = subst (λ (s : Script). g.Q.Races.raced (genesis_state s.genesis) s.steps.items audit) c.new-race.ensures c.in_ok-audited.ensures.told in
    has_raced g.Q.Races.raced c.args.script audit told before after c.print_race.result
    (subst (λ (n : List Text). WritesText c.print_race.result before after (audit_text n audit)) same c.print_race.ensures.written)

pub returns-clause-stopped : goal.returns-clause-stopped
returns-clause-stopped g c =
    let before = g.W.Write.contents c.args.output.now in
    let after = g.W.Write.contents c.print_race.new.output in
    let audit = c.in_ok-audited.audited in
    let same : c.as_slice.result.now ≡ c.args.script.names.items = c.as_slice.ensures.value ∙ c.in_ok-names.ensures in
    let told = subst (λ (s : Script). g.Q.Races.raced (genesis_state s.genesis) s.steps.items audit) c.new-race.ensures c.in_ok-audited.ensures.told in
    or_in_part c.print_race.result _ _ (has_raced_in_part g.Q.Races.raced c.args.script audit told before after c.print_race.result
    (subst (λ (n : List Text). WritesText c.print_race.result before after (audit_text n audit)) same c.print_race.ensures.written))
