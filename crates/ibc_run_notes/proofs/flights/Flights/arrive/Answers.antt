-- What was on the way has come behind what was received before.
use Rattle.std.proofs.Common.{◌++◌, Option, sym, ap, ◌∙◌, append-nil}
use Rattle.std.specs.Prelude.{option_to_list}
use Rattle.ibc_run_notes.specs.declared.flights.Flight.{Flight}
use Rattle.ibc_run_notes.proofs.flights.Flights.arrive.Goals as goal

pub returns-in_ok-push-in-Some-clause-received : goal.returns-in_ok-push-in-Some-clause-received
returns-in_ok-push-in-Some-clause-received c =
    c.in_ok-push-in-Some.ensures.items
    ∙ ap (λ (flight : Option Flight). c.args.self.now.received.items ++ option_to_list flight) (sym c.in-Some.is ∙ c.taken_out.ensures.taken)

pub returns-in-None-clause-received : goal.returns-in-None-clause-received
returns-in-None-clause-received c =
    sym (append-nil c.args.self.now.received.items)
    ∙ ap (λ (flight : Option Flight). c.args.self.now.received.items ++ option_to_list flight) (sym c.in-None.is ∙ c.taken_out.ensures.taken)
