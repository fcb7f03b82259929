-- Channels: handlers answer alike under two ways to judge that agree on what they ask.
use Rattle.std.proofs.Common.{◌≡◌, true, ◌||◌, refl, Some, None}
use Rattle.std.specs.Prelude.{⊤}
use Rattle.ibc_ids.specs.Texts.{Text}
use Rattle.ibc_ids.specs.declared.refusal.Refusal.TheVariants as refusal
use Rattle.ibc_wire.specs.declared.messages.ChanOpenTry.{ChanOpenTry}
use Rattle.ibc_wire.specs.declared.messages.ChanOpenAck.{ChanOpenAck}
use Rattle.ibc_wire.specs.declared.messages.ChanOpenConfirm.{ChanOpenConfirm}
use Rattle.ibc_wire.specs.declared.messages.ChanCloseConfirm.{ChanCloseConfirm}
use Rattle.ibc_wire.specs.declared.records.ConnectionEnd.{ConnectionEnd}
use Rattle.ibc_wire.specs.declared.records.Order.{Order}
use Rattle.ibc_wire.specs.declared.records.ChannelState.TheVariants.{Init, TryOpen, Open, Closed}
use Rattle.ibc_machine.specs.chain.Records.{Core, Channel, channel_at}
use Rattle.ibc_machine.specs.chain.Checks.{Checked}
use Rattle.ibc_machine.specs.ics24.Evidence.{Host, Evidence}
use Rattle.ibc_machine.specs.ics04.Channels.{is_in_state, client_of, counterpart, has_channel, peer_channel_of, channel_end, chan_open_try, chan_open_ack, chan_open_confirm, chan_close_confirm}
use Rattle.ibc_machine.proofs.PassedRows.{require_holds, expect_passed}
use Rattle.ibc_refinement.proofs.Checked.{then_same, bind_same}
use Rattle.ibc_refinement.proofs.Agreeing.{Asked, Agree, proof_same, shows_same}

module _ (asked : Asked) (one other : Evidence) (host : Host) (core : Core) (agree : Agree asked one other core) where
  pub chan_open_try_same : (has_port : Checked ⊤) (opens : Order → Text → Checked ⊤) (m : ChanOpenTry)
      → (let mine = channel_end TryOpen m.order m.peer_port (Some m.peer_channel) m.connection m.version in
      asked (has_channel mine m.peer_channel (counterpart core mine m.port None Init)) m.proof)
      → chan_open_try has_port opens m one host core ≡ chan_open_try has_port opens m other host core
  unfolding chan_open_try
  chan_open_try_same has_port opens m a =
      then_same _ _ _ _ (proof_same asked one other core agree m.proof) λ _. then_same _ _ _ _ refl λ _. bind_same _ _ _ λ (connection : ConnectionEnd) is. then_same _ _ _ _ refl λ _. then_same _ _ _ _ refl λ _.
      then_same _ _ _ _ refl λ _. then_same _ _ _ _ refl λ known. then_same _ _ _ _ (shows_same asked one other core agree connection.client m.height _ m.proof (require_holds _ _ known) a) λ _. refl

  pub chan_open_ack_same : (m : ChanOpenAck)
      → ((mine : Channel) → channel_at core m.port m.channel ≡ Some mine
      → asked (has_channel mine.end m.peer_channel (counterpart core mine.end m.port (Some m.channel) TryOpen)) m.proof)
      → chan_open_ack m one host core ≡ chan_open_ack m other host core
  unfolding chan_open_ack
  chan_open_ack_same m a =
      then_same _ _ _ _ (proof_same asked one other core agree m.proof) λ _. bind_same _ _ _ λ (mine : Channel) is. then_same _ _ _ _ refl λ _. then_same _ _ _ _ refl λ _.
      let there = expect_passed (channel_at core m.port m.channel) refusal.UnknownChannel is in
      then_same _ _ _ _ refl λ known. then_same _ _ _ _ (shows_same asked one other core agree (client_of core mine.end.connection) m.height _ m.proof (require_holds _ _ known) (a mine there)) λ _. refl

  pub chan_open_confirm_same : (m : ChanOpenConfirm)
      → ((mine : Channel) → channel_at core m.port m.channel ≡ Some mine → is_in_state TryOpen mine ≡ true
      → asked (has_channel mine.end (peer_channel_of mine.end) (counterpart core mine.end m.port (Some m.channel) Open)) m.proof)
      → chan_open_confirm m one host core ≡ chan_open_confirm m other host core
  unfolding chan_open_confirm
  chan_open_confirm_same m a =
      then_same _ _ _ _ (proof_same asked one other core agree m.proof) λ _. bind_same _ _ _ λ (mine : Channel) is. then_same _ _ _ _ refl λ state.
      let there = expect_passed (channel_at core m.port m.channel) refusal.UnknownChannel is in
      then_same _ _ _ _ refl λ known.
      then_same _ _ _ _ (shows_same asked one other core agree (client_of core mine.end.connection) m.height _ m.proof (require_holds _ _ known) (a mine there (require_holds _ _ state))) λ _. refl

  pub chan_close_confirm_same : (m : ChanCloseConfirm)
      → ((mine : Channel) → channel_at core m.port m.channel ≡ Some mine → (is_in_state TryOpen mine || is_in_state Open mine) ≡ true
      → asked (has_channel mine.end (peer_channel_of mine.end) (counterpart core mine.end m.port (Some m.channel) Closed)) m.proof)
      → chan_close_confirm m one host core ≡ chan_close_confirm m other host core
  unfolding chan_close_confirm
  chan_close_confirm_same m a =
      then_same _ _ _ _ (proof_same asked one other core agree m.proof) λ _. bind_same _ _ _ λ (mine : Channel) is. then_same _ _ _ _ refl λ state.
      let there = expect_passed (channel_at core m.port m.channel) refusal.UnknownChannel is in
      then_same _ _ _ _ refl λ known.
      then_same _ _ _ _ (shows_same asked one other core agree (client_of core mine.end.connection) m.height _ m.proof (require_holds _ _ known) (a mine there (require_holds _ _ state))) λ _. refl
