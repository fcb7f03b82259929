-- What is found first stays.
use Rattle.std.proofs.Common.{◌≡◌, Option, Some, None, IsSome, Result, Ok, Err, OnOk}
use Rattle.std.specs.Option.{option_or}
use Rattle.ibc_law_checks.specs.declared.finding.Finding.{Finding}

pub first_stays : (before told after : Option Finding) → after ≡ option_or before told → IsSome before → after ≡ before
first_stays (Some first) told after is some = is
first_stays None told after is some = absurd (cc some)

-- what holds anyway
pub on_ok : {T E : Type 0} (P : Type 0) (r : Result T E) → P → OnOk r P
on_ok P (Ok x) holds = holds
on_ok P (Err e) holds = tt
