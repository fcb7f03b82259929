-- Of an end that isn't known, nothing is.
use Rattle.std.proofs.Common.{false, Option, sym, ap}
use Rattle.std.specs.Option.{option_map_or}
use Rattle.ibc_run_notes.specs.declared.known.KnownEnd.{KnownEnd}
use Rattle.ibc_run_notes.proofs.FoundItems.{item_there, no_item_there}
use Rattle.ibc_run_notes.proofs.known.has_several_at.Goals as goal

pub returns-in-Some : goal.returns-in-Some
returns-in-Some c =
    sym (ap (λ (found : Option KnownEnd). option_map_or (λ (known : KnownEnd). known.takes_several) found false)
    (item_there c.args.ends.now c.args.end c.get.result c.in-Some.known c.in-Some.is c.get.ensures.lookup))

pub returns-in-None : goal.returns-in-None
returns-in-None c =
    sym (ap (λ (found : Option KnownEnd). option_map_or (λ (known : KnownEnd). known.takes_several) found false)
    (no_item_there c.args.ends.now c.args.end c.get.result c.in-None.is c.get.ensures.lookup))
