use Rattle.std.proofs.Common.{◌≡◌, ℕ, Err, Option, Some, ap, arith, subst, sym}
use Rattle.std.proofs.lemmas.Result.{err_from_is_err_and}
use Rattle.serde_json.specs.Data.{Data}
use Rattle.serde_json.specs.Find.{get}
use Rattle.serde_json.specs.View.{view}
use Rattle.ibc_script.specs.ScriptValues.{IsChain}
use Rattle.ibc_script.specs.declared.fault.Fault.TheVariants.{BadScript}
use Rattle.ibc_script.proofs.Values.{chains_of, one_place, two_long}
use Rattle.ibc_script.proofs.reading.step_reader.StepReader.two_chains.Goals as goal

pub returns-in_err-list-clause-bad : goal.returns-in_err-list-clause-bad
returns-in_err-list-clause-bad c bad chains are =
    let p = err_from_is_err_and c.from_residual.result c.from_residual.ensures.1 in
    let fault : c.in_err-list.field-0.0 ≡ BadScript = (let a = p.1 in let b = p.2 in cc) in
    c.in_err-list.ensures.bad (ap Err fault) are.0.0 are.0.1

pub returns-in_default-clause-bad : goal.returns-in_default-clause-bad
returns-in_default-clause-bad c bad chains are =
    let names = c.args.self.now.names.now in
    let found = get c.args.member.now (view c.args.self.now.object.now) in
    let list = c.in_ok-list.field-0.now in
    let two = two_long names chains.0 chains.1 list found c.in_ok-list.ensures.items are in
    absurd (omega (arith, two))

pub returns-in_default-2-clause-bad : goal.returns-in_default-2-clause-bad
returns-in_default-2-clause-bad c bad chains are =
    let names = c.args.self.now.names.now in
    let found = get c.args.member.now (view c.args.self.now.object.now) in
    let list = c.in_ok-list.field-0.now in
    let two = two_long names chains.0 chains.1 list found c.in_ok-list.ensures.items are in
    absurd (omega (arith, two))

pub returns-in_err-first-clause-bad : goal.returns-in_err-first-clause-bad
returns-in_err-first-clause-bad c bad chains are =
    let p = err_from_is_err_and c.from_residual-in_err-first.result c.from_residual-in_err-first.ensures.1 in
    let fault : c.in_err-first.field-0.0 ≡ BadScript = (let a = p.1 in let b = p.2 in cc) in
    let names = c.args.self.now.names.now in
    let found = get c.args.member.now (view c.args.self.now.object.now) in
    let list = c.in_ok-list.field-0.now in
    let own = chains_of names chains.0 chains.1 list c.first-item.result c.second-item.result found c.in_ok-list.ensures.items c.first-item.is c.second-item.is are in
    c.in_err-first.ensures.bad (ap Err fault) chains.0 own.0

pub returns-in_err-second-clause-bad : goal.returns-in_err-second-clause-bad
returns-in_err-second-clause-bad c bad chains are =
    let p = err_from_is_err_and c.from_residual-in_err-second.result c.from_residual-in_err-second.ensures.1 in
    let fault : c.in_err-second.field-0.0 ≡ BadScript = (let a = p.1 in let b = p.2 in cc) in
    let names = c.args.self.now.names.now in
    let found = get c.args.member.now (view c.args.self.now.object.now) in
    let list = c.in_ok-list.field-0.now in
    let own = chains_of names chains.0 chains.1 list c.first-item.result c.second-item.result found c.in_ok-list.ensures.items c.first-item.is c.second-item.is are in
    c.in_err-second.ensures.bad (ap Err fault) chains.1 own.1

pub returns-then-first-second-clause-bad : goal.returns-then-first-second-clause-bad
returns-then-first-second-clause-bad c bad chains are =
    let names = c.args.self.now.names.now in
    let found = get c.args.member.now (view c.args.self.now.object.now) in
    let list = c.in_ok-list.field-0.now in
    let own = chains_of names chains.0 chains.1 list c.first-item.result c.second-item.result found c.in_ok-list.ensures.items c.first-item.is c.second-item.is are in
    let first : Option Data = Some (view c.first-item.result) in
    let second : Option Data = Some (view c.second-item.result) in
    let there : IsChain names c.in_ok-first.first second =
    subst (λ (n : ℕ). IsChain names n second) (sym c.if-first-second.true) c.in_ok-second.ensures.chain in
    are.1 (one_place names c.in_ok-first.first chains.0 chains.1 first second c.args.self.now.different c.in_ok-first.ensures.chain there own.0 own.1)
