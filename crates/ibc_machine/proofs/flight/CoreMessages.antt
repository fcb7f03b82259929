-- A message of the core, in which applications keep what they have, burns nothing that goes back.
use Rattle.std.proofs.Common.{◌≡◌, refl, Ok}
use Rattle.ibc_wire.specs.declared.messages.Message.{Message}
use Rattle.ibc_wire.specs.declared.messages.Message.TheVariants as message
use Rattle.ibc_machine.specs.declared.reply.Effect.{Effect}
use Rattle.ibc_machine.specs.chain.Records.{Core, Apps}
use Rattle.ibc_machine.specs.chain.Checks.{Checked, ◌>>=◌}
use Rattle.ibc_machine.specs.ics24.Evidence.{Host, Evidence}
use Rattle.ibc_machine.specs.chain.Handlers.{handle}
use Rattle.ibc_machine.specs.chain.CoreFlight.{IsOfCore}
use Rattle.ibc_machine.specs.chain.Orderly.{IsOrderly}
use Rattle.ibc_machine.specs.ics20.ReturningTokens.{SameBurnt}
use Rattle.ibc_machine.proofs.PassedRows.{Gives}
use Rattle.ibc_machine.proofs.PassedHandlers.{gives_on_core}
use Rattle.ibc_machine.proofs.flight.UnchangedChannels.{LeavesBurnt, create_client_burnt, update_client_burnt, conn_open_init_burnt, conn_open_try_burnt, conn_open_ack_burnt, conn_open_confirm_burnt}
use Rattle.ibc_machine.proofs.flight.ChannelSteps.{chan_open_init_burnt, chan_open_try_burnt, chan_open_ack_burnt, chan_open_confirm_burnt, chan_close_init_burnt, chan_close_confirm_burnt}
use Rattle.ibc_machine.proofs.flight.SendSteps.{send_note_burnt}

module _ (evidence : Evidence) (host : Host) (core : Core) (orderly : IsOrderly core) (apps : Apps) where
  -- as much is burnt in flight as before, and applications keep the same
  abbrev pub BurnsNothing : Effect × Core × Apps → Type 0
  BurnsNothing w = SameBurnt core w.1 × (w.2 ≡ apps)

  of_core : {given : Checked (Effect × Core)} → Gives (LeavesBurnt core) given → Gives BurnsNothing (given >>= λ ((effect, after) : Effect × Core). Ok (effect, after, apps))
  of_core {given} h = gives_on_core BurnsNothing given apps (record { gives = λ w is. (h.gives w is, refl) })

  pub core_message_burns_nothing : (m : Message) → IsOfCore m → Gives BurnsNothing (handle m evidence host core apps)
  unfolding handle
  core_message_burns_nothing (message.CreateClient m) _ = of_core (create_client_burnt evidence host core m)
  core_message_burns_nothing (message.UpdateClient m) _ = of_core (update_client_burnt evidence host core m)
  core_message_burns_nothing (message.ConnOpenInit m) _ = of_core (conn_open_init_burnt evidence host core m)
  core_message_burns_nothing (message.ConnOpenTry m) _ = of_core (conn_open_try_burnt evidence host core m)
  core_message_burns_nothing (message.ConnOpenAck m) _ = of_core (conn_open_ack_burnt evidence host core m)
  core_message_burns_nothing (message.ConnOpenConfirm m) _ = of_core (conn_open_confirm_burnt evidence host core m)
  core_message_burns_nothing (message.ChanOpenInit m) _ = of_core (chan_open_init_burnt evidence host core orderly _ _ m)
  core_message_burns_nothing (message.ChanOpenTry m) _ = of_core (chan_open_try_burnt evidence host core orderly _ _ m)
  core_message_burns_nothing (message.ChanOpenAck m) _ = of_core (chan_open_ack_burnt evidence host core orderly m)
  core_message_burns_nothing (message.ChanOpenConfirm m) _ = of_core (chan_open_confirm_burnt evidence host core orderly m)
  core_message_burns_nothing (message.ChanCloseInit m) _ = of_core (chan_close_init_burnt evidence host core orderly _ m)
  core_message_burns_nothing (message.ChanCloseConfirm m) _ = of_core (chan_close_confirm_burnt evidence host core orderly m)
  core_message_burns_nothing (message.SendNote m) _ = of_core (send_note_burnt evidence host core orderly m)
  core_message_burns_nothing m other = absurd other
