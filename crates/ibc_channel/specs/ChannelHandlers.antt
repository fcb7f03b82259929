-- What becomes of the messages of channels, and how their checks judge them, on whichever chain (ICS 4, "Channel lifecycle management").
use Rattle.std.specs.Prelude.{◌≡◌, ℕ, ⊤, Option, Some, Result, is_some}
use Rattle.ibc_ids.specs.Texts.{Text}
use Rattle.ibc_ids.specs.declared.refusal.Refusal.{Refusal}
use Rattle.ibc_ids.specs.declared.refusal.Refusal.TheVariants.{UnknownPort}
use Rattle.ibc_merkle.specs.declared.proof.Proof.{Proof}
use Rattle.ibc_wire.specs.Reading.{proof_of}
use Rattle.ibc_wire.specs.declared.records.ChannelState.{ChannelState}
use Rattle.ibc_wire.specs.declared.records.ChannelEnd.{ChannelEnd}
use Rattle.ibc_wire.specs.declared.records.Order.{Order}
use Rattle.ibc_wire.specs.declared.messages.ChanOpenInit.{ChanOpenInit}
use Rattle.ibc_wire.specs.declared.messages.ChanOpenTry.{ChanOpenTry}
use Rattle.ibc_wire.specs.declared.messages.ChanOpenAck.{ChanOpenAck}
use Rattle.ibc_wire.specs.declared.messages.ChanOpenConfirm.{ChanOpenConfirm}
use Rattle.ibc_wire.specs.declared.messages.ChanCloseInit.{ChanCloseInit}
use Rattle.ibc_wire.specs.declared.messages.ChanCloseConfirm.{ChanCloseConfirm}
use Rattle.ibc_machine.specs.declared.reply.Effect.TheVariants as effect
use Rattle.ibc_machine.specs.chain.Checks.{Checked, require}
use Rattle.ibc_machine.specs.ics04.Channels.{chan_open_init, chan_open_try, chan_open_ack, chan_open_confirm, chan_close_init, chan_close_confirm}
use Rattle.ibc_records.specs.RecordsModel.{RecordsModel, core_of}
use Rattle.ibc_records.specs.HandlerContract.{IsHandled}
use Rattle.ibc_records.specs.ProofVerdicts.{IsJudged}
use Rattle.ibc_channel.specs.ChannelHandshake.{new_end, init_end, with_set_end}
use Rattle.ibc_channel.specs.FollowedPeers.{follow_peer}

-- ---- what becomes of a message

-- ICS 4, "chanOpenInit", where the port may have an application
abbrev pub HandlesChanOpenInit : {A : Type 0} → Option A → (Order → Text → Checked ⊤) → ChanOpenInit → RecordsModel → Result Text Refusal → RecordsModel → Type 0
HandlesChanOpenInit app opens m old result new =
    (chain chains : ℕ) → IsHandled effect.Channel (chan_open_init (require (is_some app) UnknownPort) opens m) chain chains old result new

-- ICS 4, "chanOpenTry", where the port may have an application
abbrev pub HandlesChanOpenTry : {A : Type 0} → Option A → (Order → Text → Checked ⊤) → ChanOpenTry → RecordsModel → Result Text Refusal → RecordsModel → Type 0
HandlesChanOpenTry app opens m old result new =
    (chain chains : ℕ) → IsHandled effect.Channel (chan_open_try (require (is_some app) UnknownPort) opens m) chain chains old result new

-- ICS 4, "chanOpenAck"
abbrev pub HandlesChanOpenAck : ChanOpenAck → RecordsModel → Result ⊤ Refusal → RecordsModel → Type 0
HandlesChanOpenAck m old result new = (chain chains : ℕ) → IsHandled (λ _. effect.None) (chan_open_ack m) chain chains old result new

-- ICS 4, "chanOpenConfirm"
abbrev pub HandlesChanOpenConfirm : ChanOpenConfirm → RecordsModel → Result ⊤ Refusal → RecordsModel → Type 0
HandlesChanOpenConfirm m old result new = (chain chains : ℕ) → IsHandled (λ _. effect.None) (chan_open_confirm m) chain chains old result new

-- ICS 4, "chanCloseInit"
abbrev pub HandlesChanCloseInit : Checked ⊤ → ChanCloseInit → RecordsModel → Result ⊤ Refusal → RecordsModel → Type 0
HandlesChanCloseInit closes m old result new = (chain chains : ℕ) → IsHandled (λ _. effect.None) (chan_close_init closes m) chain chains old result new

-- ICS 4, "chanCloseConfirm"
abbrev pub HandlesChanCloseConfirm : ChanCloseConfirm → RecordsModel → Result ⊤ Refusal → RecordsModel → Type 0
HandlesChanCloseConfirm m old result new = (chain chains : ℕ) → IsHandled (λ _. effect.None) (chan_close_confirm m) chain chains old result new

-- an end follows its peer into the state, or the message is refused
abbrev pub HandlesFollowing : ChannelState → Text → Text → ℕ → Text → RecordsModel → Result ⊤ Refusal → RecordsModel → Type 0
HandlesFollowing to port channel height proof old result new =
    (chain chains : ℕ) → IsHandled (λ _. effect.None) (follow_peer to port channel height proof) chain chains old result new

-- ---- what the checks say, with the end as it will stand

-- of "chanOpenInit": that an end in INIT may be added
abbrev pub JudgesChanOpenInit : {A : Type 0} → Option A → (Order → Text → Checked ⊤) → ChanOpenInit → RecordsModel → Result ⊤ Refusal → Type 0
JudgesChanOpenInit app opens m held result =
    (chain chains : ℕ) → IsJudged (chan_open_init (require (is_some app) UnknownPort) opens m) chain chains held (λ _. new_end m.port (init_end m) (core_of held)) result

-- of "chanOpenTry": that this end may be added
abbrev pub JudgesChanOpenTry : {A : Type 0} → Option A → (Order → Text → Checked ⊤) → ChanOpenTry → RecordsModel → Result ChannelEnd Refusal → Type 0
JudgesChanOpenTry app opens m held result =
    (chain chains : ℕ) → IsJudged (chan_open_try (require (is_some app) UnknownPort) opens m) chain chains held (λ end. new_end m.port end (core_of held)) result

-- of "chanOpenAck": that this end may be set
abbrev pub JudgesChanOpenAck : ChanOpenAck → RecordsModel → Result ChannelEnd Refusal → Type 0
JudgesChanOpenAck m held result =
    (chain chains : ℕ) → IsJudged (chan_open_ack m) chain chains held (with_set_end m.port m.channel (core_of held)) result

-- of "chanCloseInit": that this end may be set
abbrev pub JudgesChanCloseInit : Checked ⊤ → ChanCloseInit → RecordsModel → Result ChannelEnd Refusal → Type 0
JudgesChanCloseInit closes m held result =
    (chain chains : ℕ) → IsJudged (chan_close_init closes m) chain chains held (with_set_end m.port m.channel (core_of held)) result

-- of an end that follows its peer: that this end may be set, whichever bytes spell the proof
abbrev pub JudgesFollowing : ChannelState → Text → Text → ℕ → Proof → RecordsModel → Result ChannelEnd Refusal → Type 0
JudgesFollowing to port channel height proof held result =
    (chain chains : ℕ) (bytes : Text) → proof_of bytes ≡ Some proof
    → IsJudged (follow_peer to port channel height bytes) chain chains held (with_set_end port channel (core_of held)) result
