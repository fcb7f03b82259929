use Rattle.ibc_ids.proofs.Splits.{cut_once}
use Rattle.ibc_lab.proofs.texts.split_at_slash.Goals as goal

pub returns : goal.returns
returns c = cut_once c.args.text.now c.split_once.result c.split_once.ensures.cases
