-- Clients and connections: an accepted message keeps the records typed.
use Rattle.std.proofs.Common.{◌≡◌, ◌-◌, ◌^◌, ◌==◌, Bool, true, false, not, refl, Some, None, Option, Ok, arith}
use Rattle.ibc_ids.specs.Texts.{Text}
use Rattle.ibc_ids.specs.Names.{is_connection}
use Rattle.ibc_ids.specs.Paths.{nth_client, nth_connection}
use Rattle.ibc_wire.specs.declared.messages.CreateClient.{CreateClient}
use Rattle.ibc_wire.specs.declared.messages.UpdateClient.{UpdateClient}
use Rattle.ibc_wire.specs.declared.messages.ConnOpenInit.{ConnOpenInit}
use Rattle.ibc_wire.specs.declared.messages.ConnOpenTry.{ConnOpenTry}
use Rattle.ibc_wire.specs.declared.messages.ConnOpenAck.{ConnOpenAck}
use Rattle.ibc_wire.specs.declared.messages.ConnOpenConfirm.{ConnOpenConfirm}
use Rattle.ibc_wire.specs.declared.messages.Message.TheVariants as message
use Rattle.ibc_wire.specs.declared.records.ConnectionEnd.{ConnectionEnd}
use Rattle.ibc_wire.specs.declared.records.ConnectionState.TheVariants as conn
use Rattle.ibc_machine.specs.declared.reply.Effect.{Effect}
use Rattle.ibc_machine.specs.declared.reply.Effect.TheVariants as effect
use Rattle.ibc_machine.specs.declared.reply.Reply.TheVariants as reply
use Rattle.ibc_machine.specs.ledger.Ledgers.{is_block_reply}
use Rattle.ibc_machine.specs.chain.Records.{Core, Client, connection_at, with_client, with_connection}
use Rattle.ibc_machine.specs.ics24.Evidence.{Host, Evidence}
use Rattle.ibc_machine.specs.ics02.Clients.{create_client, update_client, new_client, with_known_height}
use Rattle.ibc_machine.specs.ics03.Connections.{connection_end, with_new_connection, conn_open_init, conn_open_try, conn_open_ack, conn_open_confirm}
use Rattle.ibc_machine.proofs.PassedRows.{Gives, gives_ok, gives_then, gives_require, gives_bind, gives_expect}
use Rattle.ibc_machine.proofs.ConnectionChecks.{conn_tryable}
use Rattle.ibc_refinement.proofs.Fitting.{nth_client_is, nth_connection_is}
use Rattle.ibc_refinement.proofs.Typed.{IsNamedPeer, IsTypedConnection, IsTyped}
use Rattle.ibc_refinement.proofs.TypedLook.{client_typed, connection_typed}
use Rattle.ibc_refinement.proofs.TypedMessages.{IsTypedMessage}
use Rattle.ibc_refinement.proofs.KeptTypes.{GivesSound, GivesKept, typed_with_client, typed_with_connection, typed_next_client, typed_next_connection, below_next}

-- a name that an end of a connection has is well-formed in any state
named : (o : Option Text) (peer : Text) (init : Bool) → o ≡ Some peer → IsNamedPeer is_connection init o → IsNamedPeer is_connection false o
named None peer init e h = absurd (cc)
named (Some id) peer true e h = absurd h
named (Some id) peer false e h = h

module _ (evidence : Evidence) (host : Host) (core : Core) (typed : IsTyped core) where
  pub create_client_sound : (m : CreateClient) → IsTypedMessage (message.CreateClient m) → Gives GivesSound (create_client m evidence host core)
  unfolding create_client
  create_client_sound m t =
      gives_then _ _ λ _. gives_then _ _ λ _. gives_require _ _ _ λ number. gives_ok GivesSound _ (record {
        typed = typed_next_client (with_client (nth_client core.next_client) (new_client m.chain) core) _
            (typed_with_client (nth_client core.next_client) (new_client m.chain) core typed (record { name = nth_client_is core.next_client typed.next_client; chain = t; latest = omega arith }))
            (below_next core.next_client typed.next_client number);
        effect = refl;
      })

  pub update_client_sound : (m : UpdateClient) → IsTypedMessage (message.UpdateClient m) → Gives GivesSound (update_client m evidence host core)
  unfolding update_client
  update_client_sound m t =
      gives_expect _ _ _ λ (client : Client) there. gives_then _ _ λ _. gives_then _ _ λ _. gives_then _ _ λ _. gives_ok GivesSound _
      (let c = client_typed core m.client client typed there in
      record {
        typed = typed_with_client m.client (with_known_height m.header.height client) core typed (record { name = c.name; chain = c.chain; latest = omega (arith, c.latest, t.1) });
        effect = refl;
      })

  new_connection : (c : ConnectionEnd) (shown : Effect) → IsTypedConnection c → not (core.next_connection == 2 ^ 64 - 1) ≡ true → is_block_reply (reply.Ok shown) ≡ false
      → Gives (GivesKept core) (Ok (shown, with_new_connection (nth_connection core.next_connection) c core))
  new_connection c shown h number plain = gives_ok (GivesKept core) _ (record {
    sound = record {
      typed = typed_next_connection _ _ (typed_with_connection (nth_connection core.next_connection) c core typed (nth_connection_is core.next_connection typed.next_connection, h))
          (below_next core.next_connection typed.next_connection number);
      effect = plain;
    };
    clients = refl;
  })

  changed : (id : Text) (mine after : ConnectionEnd) → connection_at core id ≡ Some mine → (IsTypedConnection mine → IsTypedConnection after)
      → Gives (GivesKept core) (Ok (effect.None, with_connection id after core))
  changed id mine after there h =
      let c = connection_typed core id mine typed there in
      gives_ok (GivesKept core) _ (record { sound = record { typed = typed_with_connection id after core typed (c.0, h c.1); effect = refl }; clients = refl })

  pub conn_open_init_kept : (m : ConnOpenInit) → IsTypedMessage (message.ConnOpenInit m) → Gives (GivesKept core) (conn_open_init m evidence host core)
  unfolding conn_open_init
  conn_open_init_kept m t =
      gives_bind _ _ λ (client : Client) _. gives_require _ _ _ λ number.
      new_connection (connection_end conn.Init m.client m.peer_client None) _ (record { client = t.0; peer_client = t.1; peer = tt }) number refl

  pub conn_open_try_kept : (m : ConnOpenTry) → IsTypedMessage (message.ConnOpenTry m) → Gives (GivesKept core) (conn_open_try m evidence host core)
  unfolding conn_open_try
  conn_open_try_kept m t =
      gives_then _ _ λ _. gives_then _ _ λ may. gives_then _ _ λ _. gives_then _ _ λ _.
      new_connection (connection_end conn.TryOpen m.client m.peer_client (Some m.peer_connection)) _ (record { client = t.0; peer_client = t.1; peer = t.2 })
      (conn_tryable host core m may).number refl

  pub conn_open_ack_kept : (m : ConnOpenAck) → IsTypedMessage (message.ConnOpenAck m) → Gives (GivesKept core) (conn_open_ack m evidence host core)
  unfolding conn_open_ack
  conn_open_ack_kept m t =
      gives_then _ _ λ _. gives_expect _ _ _ λ (mine : ConnectionEnd) there. gives_then _ _ λ _. gives_then _ _ λ _. gives_then _ _ λ _.
      changed m.connection mine (record mine { state = conn.Open; peer_connection = Some m.peer_connection }) there
      (λ c. record { client = c.client; peer_client = c.peer_client; peer = t.1 })

  pub conn_open_confirm_kept : (m : ConnOpenConfirm) → Gives (GivesKept core) (conn_open_confirm m evidence host core)
  unfolding conn_open_confirm
  conn_open_confirm_kept m =
      gives_then _ _ λ _. gives_expect _ _ _ λ (mine : ConnectionEnd) there. gives_then _ _ λ _. gives_expect _ _ _ λ (peer : Text) has. gives_then _ _ λ _. gives_then _ _ λ _.
      changed m.connection mine (record mine { state = conn.Open }) there
      (λ c. record { client = c.client; peer_client = c.peer_client; peer = named mine.peer_connection peer _ has c.peer })
