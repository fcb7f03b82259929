-- Going down changes no ticks.
use Rattle.std.proofs.Common.{ap, ◌∙◌}
use Rattle.ibc_drawing.specs.declared.canvas.Canvas.{Canvas}
use Rattle.ibc_drawing.proofs.canvas.Canvas.tick.Goals as goal

pub returns-clause-ticks : goal.returns-clause-ticks
returns-clause-ticks c = ap (λ (canvas : Canvas). canvas.ticks.items) c.down.ensures ∙ c.in_ok-push.ensures.items

pub returns-clause-y : goal.returns-clause-y
returns-clause-y c = ap (λ (canvas : Canvas). canvas.y) c.down.ensures
