use Rattle.std.proofs.Common.{refl}
use Rattle.std.proofs.lemmas.Str.{IsUtf8-from_ascii}
use Rattle.ibc_ids.proofs.name.Name.from_bytes.Goals as goal

-- a name is ASCII, and so UTF-8
pub returns-in-Err-clause-bad : goal.returns-in-Err-clause-bad
returns-in-Err-clause-bad g c =
    let bytes = c.args.bytes.now in
    (λ e form. c.in-Err.ensures.cases.0 (IsUtf8-from_ascii bytes (c.lemma_short_and_ascii.ensures bytes form).0), λ no. refl)

pub returns-in-Err-clause-memory : goal.returns-in-Err-clause-memory
returns-in-Err-clause-memory g c =
    let bytes = c.args.bytes.now in
    λ form. absurd (c.in-Err.ensures.cases.0 (IsUtf8-from_ascii bytes (c.lemma_short_and_ascii.ensures bytes form).0))
