-- Each accepted message did a labelled step to its chain.
use Rattle.std.proofs.Common.{◌≡◌, ℕ, Bool, refl, Ok}
use Rattle.ibc_wire.specs.declared.messages.Message.{Message}
use Rattle.ibc_wire.specs.declared.messages.Message.TheVariants as message
use Rattle.ibc_machine.specs.declared.reply.Effect.{Effect}
use Rattle.ibc_machine.specs.chain.Records.{Core, Records}
use Rattle.ibc_machine.specs.chain.Checks.{Checked, ◌>>=◌}
use Rattle.ibc_machine.specs.ics24.Evidence.{Host, Evidence}
use Rattle.ibc_machine.specs.chain.Handlers.{handle}
use Rattle.ibc_machine.specs.chain.Machine.{World}
use Rattle.ibc_machine.proofs.PassedRows.{Gives}
use Rattle.ibc_machine.proofs.PassedHandlers.{gives_on_core, gives_on_balances}
use Rattle.ibc_laws.proofs.steps.Seen.{seeing}
use Rattle.ibc_laws.proofs.steps.Told.{Quiet, told_by}
use Rattle.ibc_laws.proofs.steps.CoreSteps.{Did}
use Rattle.ibc_laws.proofs.steps.AppSteps.{DidBoth, quiet_apps, quiet_good}
use Rattle.ibc_laws.proofs.steps.ConnectionsPassed.{create_client_did, update_client_did, conn_open_init_did, conn_open_try_did, conn_open_ack_did, conn_open_confirm_did}
use Rattle.ibc_laws.proofs.steps.ChannelsPassed.{chan_open_init_did, chan_open_try_did, chan_open_ack_did, chan_open_confirm_did, chan_close_init_did, chan_close_confirm_did}
use Rattle.ibc_laws.proofs.steps.SendsPassed.{transfer_did, transfer_many_did, send_note_did}
use Rattle.ibc_laws.proofs.steps.PacketsPassed.{recv_packet_did, ack_packet_did, timeout_did, timeout_on_close_did}

module _ (window : ℕ) (oldest : Bool) (w : World) (host : Host) (records : Records) where
  -- what its clients see of other chains
  abbrev evidence : Evidence
  evidence = seeing window oldest w records.core

  -- a message of the core that tells nothing
  quietly : (m : Message) → ((effect : Effect) → told_by m effect ≡ Quiet) → {given : Checked (Effect × Core)} → Gives (Did w host records.core m) given
      → Gives (DidBoth w host records m) (given >>= λ ((effect, after) : Effect × Core). Ok (effect, after, records.apps))
  quietly m quiet {given} h =
      gives_on_core (DidBoth w host records m) given records.apps (record {
        gives = λ y is.
            let did = h.gives y is in (
              did,
              quiet_apps w host records (told_by m y.0) y.1 did (quiet y.0),
              λ typed. quiet_good w host records (told_by m y.0) y.1 did (quiet y.0),
            );
      })

  pub message_did : (m : Message) → Gives (DidBoth w host records m) (handle m evidence host records.core records.apps)
  unfolding handle
  message_did (message.CreateClient m) = quietly (message.CreateClient m) (λ effect. refl) (create_client_did window oldest w host records.core m)
  message_did (message.UpdateClient m) = quietly (message.UpdateClient m) (λ effect. refl) (update_client_did window oldest w host records.core m)
  message_did (message.ConnOpenInit m) = quietly (message.ConnOpenInit m) (λ effect. refl) (conn_open_init_did window oldest w host records.core m)
  message_did (message.ConnOpenTry m) = quietly (message.ConnOpenTry m) (λ effect. refl) (conn_open_try_did window oldest w host records.core m)
  message_did (message.ConnOpenAck m) = quietly (message.ConnOpenAck m) (λ effect. refl) (conn_open_ack_did window oldest w host records.core m)
  message_did (message.ConnOpenConfirm m) = quietly (message.ConnOpenConfirm m) (λ effect. refl) (conn_open_confirm_did window oldest w host records.core m)
  message_did (message.ChanOpenInit m) = quietly (message.ChanOpenInit m) (λ effect. refl) (chan_open_init_did window oldest w host records.core m)
  message_did (message.ChanOpenTry m) = quietly (message.ChanOpenTry m) (λ effect. refl) (chan_open_try_did window oldest w host records.core m)
  message_did (message.ChanOpenAck m) = quietly (message.ChanOpenAck m) (λ effect. refl) (chan_open_ack_did window oldest w host records.core m)
  message_did (message.ChanOpenConfirm m) = quietly (message.ChanOpenConfirm m) (λ effect. refl) (chan_open_confirm_did window oldest w host records.core m)
  message_did (message.ChanCloseInit m) = quietly (message.ChanCloseInit m) (λ effect. refl) (chan_close_init_did window oldest w host records.core m)
  message_did (message.ChanCloseConfirm m) = quietly (message.ChanCloseConfirm m) (λ effect. refl) (chan_close_confirm_did window oldest w host records.core m)
  message_did (message.Transfer m) =
      gives_on_balances (DidBoth w host records (message.Transfer m)) _ records.apps (transfer_did window oldest w host records m)
  message_did (message.TransferMany m) =
      gives_on_balances (DidBoth w host records (message.TransferMany m)) _ records.apps (transfer_many_did window oldest w host records m)
  message_did (message.SendNote m) =
      gives_on_core (DidBoth w host records (message.SendNote m)) _ records.apps (send_note_did window oldest w host records m)
  message_did (message.RecvPacket m) = recv_packet_did window oldest w host records m
  message_did (message.AckPacket m) = ack_packet_did window oldest w host records m
  message_did (message.Timeout m) = timeout_did window oldest w host records m
  message_did (message.TimeoutOnClose m) = timeout_on_close_did window oldest w host records m
