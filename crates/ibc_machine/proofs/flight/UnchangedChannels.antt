-- Messages on clients and connections leave the channels, and so what is burnt in flight.
use Rattle.std.proofs.Common.{◌≡◌, refl, Ok}
use Rattle.ibc_ids.specs.Texts.{Text}
use Rattle.ibc_wire.specs.declared.records.ConnectionEnd.{ConnectionEnd}
use Rattle.ibc_wire.specs.declared.messages.CreateClient.{CreateClient}
use Rattle.ibc_wire.specs.declared.messages.UpdateClient.{UpdateClient}
use Rattle.ibc_wire.specs.declared.messages.ConnOpenInit.{ConnOpenInit}
use Rattle.ibc_wire.specs.declared.messages.ConnOpenTry.{ConnOpenTry}
use Rattle.ibc_wire.specs.declared.messages.ConnOpenAck.{ConnOpenAck}
use Rattle.ibc_wire.specs.declared.messages.ConnOpenConfirm.{ConnOpenConfirm}
use Rattle.ibc_machine.specs.declared.reply.Effect.{Effect}
use Rattle.ibc_machine.specs.chain.Records.{Core, Client}
use Rattle.ibc_machine.specs.ics24.Evidence.{Host, Evidence}
use Rattle.ibc_machine.specs.ics02.Clients.{create_client, update_client}
use Rattle.ibc_machine.specs.ics03.Connections.{conn_open_init, conn_open_try, conn_open_ack, conn_open_confirm}
use Rattle.ibc_machine.specs.ics20.ReturningTokens.{SameBurnt}
use Rattle.ibc_machine.proofs.PassedRows.{Gives, gives_ok, gives_then, gives_bind}
use Rattle.ibc_machine.proofs.flight.BurntSteps.{same_channels}

-- what a handler of a core gives leaves what is burnt in flight
abbrev pub LeavesBurnt : Core → Effect × Core → Type 0
LeavesBurnt core w = SameBurnt core w.1

module _ (evidence : Evidence) (host : Host) (core : Core) where
  unchanged : (w : Effect × Core) → w.1.channels ≡ core.channels → Gives (LeavesBurnt core) (Ok w)
  unchanged w is = gives_ok (LeavesBurnt core) w (same_channels core w.1 is)

  pub create_client_burnt : (m : CreateClient) → Gives (LeavesBurnt core) (create_client m evidence host core)
  unfolding create_client
  create_client_burnt m = gives_then _ _ λ _. gives_then _ _ λ _. gives_then _ _ λ _. unchanged _ refl

  pub update_client_burnt : (m : UpdateClient) → Gives (LeavesBurnt core) (update_client m evidence host core)
  unfolding update_client
  update_client_burnt m = gives_bind _ _ λ (client : Client) _. gives_then _ _ λ _. gives_then _ _ λ _. gives_then _ _ λ _. unchanged _ refl

  pub conn_open_init_burnt : (m : ConnOpenInit) → Gives (LeavesBurnt core) (conn_open_init m evidence host core)
  unfolding conn_open_init
  conn_open_init_burnt m = gives_bind _ _ λ (client : Client) _. gives_then _ _ λ _. unchanged _ refl

  pub conn_open_try_burnt : (m : ConnOpenTry) → Gives (LeavesBurnt core) (conn_open_try m evidence host core)
  unfolding conn_open_try
  conn_open_try_burnt m = gives_then _ _ λ _. gives_then _ _ λ _. gives_then _ _ λ _. gives_then _ _ λ _. unchanged _ refl

  pub conn_open_ack_burnt : (m : ConnOpenAck) → Gives (LeavesBurnt core) (conn_open_ack m evidence host core)
  unfolding conn_open_ack
  conn_open_ack_burnt m =
      gives_then _ _ λ _. gives_bind _ _ λ (mine : ConnectionEnd) _. gives_then _ _ λ _. gives_then _ _ λ _. gives_then _ _ λ _. unchanged _ refl

  pub conn_open_confirm_burnt : (m : ConnOpenConfirm) → Gives (LeavesBurnt core) (conn_open_confirm m evidence host core)
  unfolding conn_open_confirm
  conn_open_confirm_burnt m =
      gives_then _ _ λ _. gives_bind _ _ λ (mine : ConnectionEnd) _. gives_then _ _ λ _. gives_bind _ _ λ (peer : Text) _. gives_then _ _ λ _. gives_then _ _ λ _. unchanged _ refl
