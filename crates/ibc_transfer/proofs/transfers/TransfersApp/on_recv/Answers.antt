-- The moves of the packet's tokens are made, or none.
use Rattle.std.proofs.Common.{◌≡◌, List, sym, ap, subst, ◌∙◌}
use Rattle.std.specs.Prelude.{IfOk}
use Rattle.ibc_ids.specs.Texts.{Text}
use Rattle.ibc_bank.specs.Moves.{BankState, after_moves}
use Rattle.ibc_bank.specs.declared.moves.Move.{Move}
use Rattle.ibc_transfer.specs.TokenArrival.{arrival_result, after_arrival}
use Rattle.ibc_transfer.specs.AbstractMoves.{abstract_arrival}
use Rattle.ibc_transfer.proofs.Receiving.{received_by_moves}
use Rattle.ibc_transfer.proofs.transfers.TransfersApp.on_recv.Goals as goal

pub returns-in-Ok-clause-ok : goal.returns-in-Ok-clause-ok
returns-in-Ok-clause-ok c =
    let old = c.args.self.now in
    let taken = received_by_moves old c.args.version.now c.args.packet.now
    ∙ ap (after_arrival old) (sym c.in_ok-moves.ensures.ok ∙ ap abstract_arrival c.in-Ok.is)
    ∙ ap (λ (moves : List Move). arrival_result old (after_moves moves old)) (sym c.as_slice.ensures.value) in
    subst (λ (answer : Text × BankState). IfOk c.take.result (λ ack. (ack, c.take.new.self) ≡ answer)) (sym taken) c.take.ensures.ok

pub returns-in_ok-ack-in-Err-clause-ok : goal.returns-in_ok-ack-in-Err-clause-ok
returns-in_ok-ack-in-Err-clause-ok c =
    let old = c.args.self.now in
    let refused = received_by_moves old c.args.version.now c.args.packet.now
    ∙ ap (after_arrival old) (sym c.in_ok-moves.ensures.ok ∙ ap abstract_arrival c.in-Err.is) in
    ap (λ (ack : Text). (ack, old)) c.in_ok-ack-in-Err.ensures ∙ sym refused
