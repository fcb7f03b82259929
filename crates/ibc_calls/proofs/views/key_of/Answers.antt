use Rattle.std.proofs.Common.{inl, refl}
use Rattle.ibc_calls.proofs.KeyPaths.{none_has}
use Rattle.ibc_calls.proofs.views.key_of.Goals as goal

pub returns-in-Err-clause-err : goal.returns-in-Err-clause-err
returns-in-Err-clause-err c = inl (refl, λ k h. none_has c.args.bytes.now c.in-Err.ensures.cases.0 k h)
