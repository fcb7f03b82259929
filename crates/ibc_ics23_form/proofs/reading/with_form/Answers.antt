use Rattle.std.proofs.Common.{rules, ◌≡◌, arith}
use Rattle.std.proofs.lemmas.Grind.{common_steps}
use Rattle.ibc_ics23_form.specs.Forms.{form_of}
use Rattle.ibc_ics23_form.proofs.SameForms.{the_one}
use Rattle.ibc_ics23_form.proofs.reading.with_form.Goals as goal

pub returns-then-eq-clause-ok : goal.returns-then-eq-clause-ok
returns-then-eq-clause-ok c =
    let form : form_of c.args.proof ≡ c.args.form.now = first_of (search rules, grind (arith, common_steps)) in
    the_one c.args.form.now c.args.proof form
