-- The tick that was found, if there is one.
use Rattle.std.proofs.Common.{Option, option_map, unwrap_or, sym, ap, ◌∙◌}
use Rattle.ibc_drawing.specs.declared.canvas.Tick.{Tick}
use Rattle.ibc_drawing.proofs.canvas.y_of_tick.Goals as goal

pub returns-in-Some : goal.returns-in-Some
returns-in-Some c =
    sym (ap (λ (found : Option Tick). unwrap_or (option_map (λ (tick : Tick). tick.y) found) c.args.otherwise) (sym c.last_tick.ensures ∙ c.in-Some.is))

pub returns-in-None : goal.returns-in-None
returns-in-None c =
    sym (ap (λ (found : Option Tick). unwrap_or (option_map (λ (tick : Tick). tick.y) found) c.args.otherwise) (sym c.last_tick.ensures ∙ c.in-None.is))
