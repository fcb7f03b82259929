use Rattle.std.proofs.Common.{◌∙◌, arith}
use Rattle.ibc_lanes.proofs.Ends.{block_before, block_within}
use Rattle.ibc_lanes.proofs.texts.block_of.Goals as goal

pub returns-then-index-whole : goal.returns-then-index-whole
returns-then-index-whole c =
    c.copy_from_slice.ensures.after ∙ block_before c.args.text.now c.args.index _ (omega arith) (omega arith)

pub returns-else-index-whole : goal.returns-else-index-whole
returns-else-index-whole c =
    c.copy_from_slice-else-index-whole.ensures.after
    ∙ block_within c.args.text.now c.args.end.now c.args.index _ (omega arith) c.requires.index (omega arith) c.requires.end
