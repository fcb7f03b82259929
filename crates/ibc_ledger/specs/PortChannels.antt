-- What becomes of messages of channels where the application of the port takes part (ICS 4), on each chain.
use Rattle.std.specs.Prelude.{ℕ, Result, ⊤}
use Rattle.ibc_ids.specs.Texts.{Text}
use Rattle.ibc_ids.specs.declared.refusal.Refusal.{Refusal}
use Rattle.ibc_wire.specs.declared.messages.ChanCloseInit.{ChanCloseInit}
use Rattle.ibc_wire.specs.declared.messages.ChanOpenInit.{ChanOpenInit}
use Rattle.ibc_wire.specs.declared.messages.ChanOpenTry.{ChanOpenTry}
use Rattle.ibc_machine.specs.declared.reply.Effect.TheVariants as effect
use Rattle.ibc_machine.specs.chain.Applications.{require_application, on_open, on_close}
use Rattle.ibc_machine.specs.ics04.Channels.{chan_open_init, chan_open_try, chan_close_init}
use Rattle.ibc_records.specs.RecordsModel.{RecordsModel}
use Rattle.ibc_records.specs.HandlerContract.{IsHandled}

-- the answer to chanOpenInit, where the application of the port opens the channel
abbrev pub IsOpenInitOnPort : ChanOpenInit → RecordsModel → Result Text Refusal → RecordsModel → Type 0
IsOpenInitOnPort m old result new = (chain chains : ℕ)
    → IsHandled effect.Channel (chan_open_init (require_application m.port) (on_open m.port) m) chain chains old result new

-- the answer to chanOpenTry, where the application of the port opens the channel
abbrev pub IsOpenTryOnPort : ChanOpenTry → RecordsModel → Result Text Refusal → RecordsModel → Type 0
IsOpenTryOnPort m old result new = (chain chains : ℕ)
    → IsHandled effect.Channel (chan_open_try (require_application m.port) (on_open m.port) m) chain chains old result new

-- the answer to chanCloseInit, where the application of the port lets the channel be closed
abbrev pub IsCloseInitOnPort : ChanCloseInit → RecordsModel → Result ⊤ Refusal → RecordsModel → Type 0
IsCloseInitOnPort m old result new = (chain chains : ℕ)
    → IsHandled (λ _. effect.None) (chan_close_init (on_close m.port) m) chain chains old result new
