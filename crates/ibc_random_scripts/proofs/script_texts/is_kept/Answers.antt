-- A step that isn't there isn't kept.
use Rattle.std.proofs.Common.{Bool, false, Option, unwrap_or, sym, ap}
use Rattle.ibc_run_notes.proofs.FoundItems.{item_there, no_item_there}
use Rattle.ibc_random_scripts.proofs.script_texts.is_kept.Goals as goal

pub returns-in-Some : goal.returns-in-Some
returns-in-Some c =
    sym (ap (λ (keeps : Option Bool). unwrap_or keeps false) (item_there c.args.kept.now c.args.place c.get.result c.in-Some.is_kept c.in-Some.is c.get.ensures.lookup))

pub returns-in-None : goal.returns-in-None
returns-in-None c =
    sym (ap (λ (keeps : Option Bool). unwrap_or keeps false) (no_item_there c.args.kept.now c.args.place c.get.result c.in-None.is c.get.ensures.lookup))
