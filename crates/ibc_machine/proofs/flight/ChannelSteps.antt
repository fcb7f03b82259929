-- Messages that open and close a channel: a new end has sent nothing, and an old one keeps its version and what it is
-- committed to.
use Rattle.std.proofs.Common.{◌≡◌, refl, Some, Ok}
use Rattle.std.specs.Prelude.{⊤}
use Rattle.ibc_ids.specs.Texts.{Text}
use Rattle.ibc_ids.specs.Paths.{nth_channel}
use Rattle.ibc_wire.specs.declared.records.Order.{Order}
use Rattle.ibc_wire.specs.declared.records.ConnectionEnd.{ConnectionEnd}
use Rattle.ibc_wire.specs.declared.records.ChannelEnd.{ChannelEnd}
use Rattle.ibc_wire.specs.declared.records.ChannelState.TheVariants as chan
use Rattle.ibc_wire.specs.declared.messages.ChanOpenInit.{ChanOpenInit}
use Rattle.ibc_wire.specs.declared.messages.ChanOpenTry.{ChanOpenTry}
use Rattle.ibc_wire.specs.declared.messages.ChanOpenAck.{ChanOpenAck}
use Rattle.ibc_wire.specs.declared.messages.ChanOpenConfirm.{ChanOpenConfirm}
use Rattle.ibc_wire.specs.declared.messages.ChanCloseInit.{ChanCloseInit}
use Rattle.ibc_wire.specs.declared.messages.ChanCloseConfirm.{ChanCloseConfirm}
use Rattle.ibc_machine.specs.declared.reply.Effect.{Effect}
use Rattle.ibc_machine.specs.chain.Records.{Core, Channel, channel_at, with_channel}
use Rattle.ibc_machine.specs.chain.Checks.{Checked}
use Rattle.ibc_machine.specs.ics24.Evidence.{Host, Evidence}
use Rattle.ibc_machine.specs.ics04.Channels.{chan_open_init, chan_open_try, chan_open_ack, chan_open_confirm, chan_close_init, chan_close_confirm, with_new_channel, new_channel, in_state}
use Rattle.ibc_machine.specs.chain.Orderly.{IsOrderly}
use Rattle.ibc_machine.proofs.PassedRows.{Gives, gives_ok, gives_then, gives_bind, gives_expect}
use Rattle.ibc_machine.proofs.flight.BurntSteps.{new_end, same_commitments}
use Rattle.ibc_machine.proofs.flight.UnchangedChannels.{LeavesBurnt}

module _ (evidence : Evidence) (host : Host) (core : Core) (orderly : IsOrderly core) where
  -- a new end
  opened : (port : Text) (end : ChannelEnd) (shown : Effect) → Gives (LeavesBurnt core) (Ok (shown, with_new_channel port (nth_channel core.next_channel) end core))
  opened port end shown =
      let id = nth_channel core.next_channel in
      gives_ok (LeavesBurnt core) _ (new_end core (with_new_channel port id end core) port id (new_channel end) orderly refl (orderly.free port) refl)

  -- an end with another state
  turned : (port id : Text) (old now : Channel) (shown : Effect) → channel_at core port id ≡ Some old → now.end.version ≡ old.end.version
      → now.commitments ≡ old.commitments → Gives (LeavesBurnt core) (Ok (shown, with_channel port id now core))
  turned port id old now shown there version commitments =
      gives_ok (LeavesBurnt core) _ (same_commitments core (with_channel port id now core) port id now orderly refl old there version commitments)

  module _ (has_port : Checked ⊤) (opens : Order → Text → Checked ⊤) where
    pub chan_open_init_burnt : (m : ChanOpenInit) → Gives (LeavesBurnt core) (chan_open_init has_port opens m evidence host core)
    unfolding chan_open_init
    chan_open_init_burnt m =
        gives_then _ _ λ _. gives_bind _ _ λ (connection : ConnectionEnd) _. gives_then _ _ λ _. gives_then _ _ λ _. opened m.port _ _

    pub chan_open_try_burnt : (m : ChanOpenTry) → Gives (LeavesBurnt core) (chan_open_try has_port opens m evidence host core)
    unfolding chan_open_try
    chan_open_try_burnt m =
        gives_then _ _ λ _. gives_then _ _ λ _. gives_bind _ _ λ (connection : ConnectionEnd) _. gives_then _ _ λ _. gives_then _ _ λ _.
        gives_then _ _ λ _. gives_then _ _ λ _. gives_then _ _ λ _. opened m.port _ _

  pub chan_open_ack_burnt : (m : ChanOpenAck) → Gives (LeavesBurnt core) (chan_open_ack m evidence host core)
  unfolding chan_open_ack
  chan_open_ack_burnt m =
      gives_then _ _ λ _. gives_expect _ _ _ λ (mine : Channel) there. gives_then _ _ λ _. gives_then _ _ λ _. gives_then _ _ λ _. gives_then _ _ λ _.
      turned m.port m.channel mine (record mine { end = record mine.end { state = chan.Open; peer_channel = Some m.peer_channel } }) _ there refl refl

  pub chan_open_confirm_burnt : (m : ChanOpenConfirm) → Gives (LeavesBurnt core) (chan_open_confirm m evidence host core)
  unfolding chan_open_confirm
  chan_open_confirm_burnt m =
      gives_then _ _ λ _. gives_expect _ _ _ λ (mine : Channel) there. gives_then _ _ λ _. gives_then _ _ λ _. gives_then _ _ λ _.
      turned m.port m.channel mine (in_state chan.Open mine) _ there refl refl

  pub chan_close_init_burnt : (closes : Checked ⊤) (m : ChanCloseInit) → Gives (LeavesBurnt core) (chan_close_init closes m evidence host core)
  unfolding chan_close_init
  chan_close_init_burnt closes m =
      gives_expect _ _ _ λ (mine : Channel) there. gives_then _ _ λ _. gives_then _ _ λ _. turned m.port m.channel mine (in_state chan.Closed mine) _ there refl refl

  pub chan_close_confirm_burnt : (m : ChanCloseConfirm) → Gives (LeavesBurnt core) (chan_close_confirm m evidence host core)
  unfolding chan_close_confirm
  chan_close_confirm_burnt m =
      gives_then _ _ λ _. gives_expect _ _ _ λ (mine : Channel) there. gives_then _ _ λ _. gives_then _ _ λ _. gives_then _ _ λ _.
      turned m.port m.channel mine (in_state chan.Closed mine) _ there refl refl
