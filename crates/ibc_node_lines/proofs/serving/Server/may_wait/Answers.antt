-- Lines may wait where there is room for more.
use Rattle.std.proofs.Common.{◌∙◌, length, ltb-true, sym}
use Rattle.std.proofs.lemmas.Bool.{false≢true}
use Rattle.ibc_node_lines.proofs.serving.Server.may_wait.Goals as goal

pub returns-then-has_room : goal.returns-then-has_room
returns-then-has_room g c waits = ltb-true (length c.args.self.now.told.items) c.args.batch (sym c.has_room.ensures ∙ c.if-has_room.true)

pub returns : goal.returns
returns g c waits = absurd (false≢true waits)
