-- What the application of a port is asked, where the port is that of transfers and where it isn't.
use Rattle.ibc_ledger.proofs.Common.{ℕ, Result, subst, ◌≡◌, Bool, ◌||◌, ap, ◌∙◌, if◌then◌else◌, ⊤, Refusal, Text, same_text, UnknownPort, Effect, require, transfer_port, opens_for_transfers, closes_for_transfers, note_port, opens_for_notes}
use Rattle.ibc_ledger.proofs.Common.{closes_for_notes, require_application, on_open, on_close, CoreHandler, chan_close_init, Checked, RecordsModel, IsHandled}
use Rattle.ibc_wire.specs.declared.records.Order.{Order}
use Rattle.ibc_wire.specs.declared.messages.ChanCloseInit.{ChanCloseInit}

module _ (port : Text) (on_transfers : Bool) (is : on_transfers ≡ same_text port transfer_port) where
  port_is_known : (known : Bool) → known ≡ (on_transfers || same_text port note_port) → require known UnknownPort ≡ require_application port
  port_is_known known knows = ap (λ b. require b UnknownPort) knows ∙ ap (λ b. require (b || same_text port note_port) UnknownPort) is

  opens_on_port : (λ order version. if on_transfers then opens_for_transfers order version else opens_for_notes order version) ≡ on_open port
  opens_on_port i = λ order version. if is i then opens_for_transfers order version else opens_for_notes order version

-- what a channel's message is answered by the application of its port
pub opened_by_port : {X : Type 0} (effect_of : X → Effect) (old new : RecordsModel) (result : Result X Refusal) (port : Text) (opening : Checked ⊤ → (Order → Text → Checked ⊤) → CoreHandler)
    (on_transfers : Bool) → on_transfers ≡ same_text port transfer_port → (known : Bool) → known ≡ (on_transfers || same_text port note_port)
    → ((chain chains : ℕ) → IsHandled effect_of (opening (require known UnknownPort) (λ order version. if on_transfers then opens_for_transfers order version else opens_for_notes order version)) chain chains old result new)
    → (chain chains : ℕ) → IsHandled effect_of (opening (require_application port) (on_open port)) chain chains old result new
opened_by_port effect_of old new result port opening on_transfers is known knows =
    subst (λ (h : CoreHandler). (chain chains : ℕ) → IsHandled effect_of h chain chains old result new) (λ i. opening (port_is_known port on_transfers is known knows i) (opens_on_port port on_transfers is i))

pub closed_by_port : {X : Type 0} (effect_of : X → Effect) (old new : RecordsModel) (result : Result X Refusal) (m : ChanCloseInit) (on_transfers : Bool) → on_transfers ≡ same_text m.port transfer_port
    → ((chain chains : ℕ) → IsHandled effect_of (chan_close_init (if on_transfers then closes_for_transfers else closes_for_notes) m) chain chains old result new)
    → (chain chains : ℕ) → IsHandled effect_of (chan_close_init (on_close m.port) m) chain chains old result new
closed_by_port effect_of old new result m on_transfers is =
    subst (λ (h : CoreHandler). (chain chains : ℕ) → IsHandled effect_of h chain chains old result new) (λ i. chan_close_init (if is i then closes_for_transfers else closes_for_notes) m)
