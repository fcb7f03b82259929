-- What an accepted message on clients and connections did.
use Rattle.std.proofs.Common.{◌≡◌, ℕ, Bool, true, refl, ap, Some, None, eqb-true, ◌==◌, ◌∙◌}
use Rattle.ibc_ids.specs.Texts.{Text}
use Rattle.ibc_wire.specs.declared.records.ClientState.{ClientState}
use Rattle.ibc_wire.specs.declared.records.ConnectionState.TheVariants as conn
use Rattle.ibc_wire.specs.declared.records.ConnectionEnd.{ConnectionEnd}
use Rattle.ibc_wire.specs.declared.messages.Message.TheVariants as message
use Rattle.ibc_wire.specs.declared.messages.CreateClient.{CreateClient}
use Rattle.ibc_wire.specs.declared.messages.UpdateClient.{UpdateClient}
use Rattle.ibc_wire.specs.declared.messages.ConnOpenInit.{ConnOpenInit}
use Rattle.ibc_wire.specs.declared.messages.ConnOpenTry.{ConnOpenTry}
use Rattle.ibc_wire.specs.declared.messages.ConnOpenAck.{ConnOpenAck}
use Rattle.ibc_wire.specs.declared.messages.ConnOpenConfirm.{ConnOpenConfirm}
use Rattle.ibc_machine.specs.chain.Records.{Core, Block, Client, client_at}
use Rattle.ibc_machine.specs.ics24.Evidence.{Host, Evidence}
use Rattle.ibc_machine.specs.ics02.Clients.{create_client, update_client}
use Rattle.ibc_machine.specs.ics03.Connections.{conn_open_init, conn_open_try, conn_open_ack, conn_open_confirm, names_host, connection_end}
use Rattle.ibc_machine.specs.chain.Machine.{World}
use Rattle.ibc_machine.proofs.PassedRows.{Gives, gives_ok, gives_then, gives_require, gives_expect}
use Rattle.ibc_machine.proofs.ConnectionChecks.{MayConnTry, MayConnAck, conn_tryable, conn_ackable}
use Rattle.ibc_machine.proofs.SameValues.{same_connection_state_is}
use Rattle.ibc_laws.proofs.basics.PassedTests.{both, no_longer}
use Rattle.ibc_laws.proofs.steps.Seen.{Sees-map, Sees-both, seeing, shown_client, shown_connection}
use Rattle.ibc_laws.proofs.steps.CoreSteps.{Did, HadClient, creates_client, updates_client, starts_connection, answers_connection, confirms_connection}

-- the state of the claimed client names this chain
had_client : (host : Host) (client : Text) (state : ClientState) → names_host host state ≡ true → (b : Block)
    → (c : Client) × (client_at b.records.core client ≡ Some c) × (c.state ≡ state) → HadClient host.chain client b
had_client host client state us b had =
    let same : state.chain ≡ host.chain = eqb-true state.chain host.chain (both (state.chain == host.chain) _ us).0 in
    (had.0, had.1, ap (λ (s : ClientState). s.chain) had.2 ∙ same)

module _ (window : ℕ) (oldest : Bool) (w : World) (host : Host) (core : Core) where
  -- what its clients see of other chains
  abbrev evidence : Evidence
  evidence = seeing window oldest w core

  pub create_client_did : (m : CreateClient) → Gives (Did w host core (message.CreateClient m)) (create_client m evidence host core)
  unfolding create_client
  create_client_did m =
      gives_then _ _ λ _. gives_require _ _ _ λ other. gives_require _ _ _ λ number.
      gives_ok (Did w host core (message.CreateClient m)) _ (creates_client m.chain (no_longer _ other) number)

  pub update_client_did : (m : UpdateClient) → Gives (Did w host core (message.UpdateClient m)) (update_client m evidence host core)
  unfolding update_client
  update_client_did m =
      gives_expect _ _ _ λ (client : Client) there. gives_then _ _ λ _. gives_then _ _ λ _. gives_then _ _ λ _.
      gives_ok (Did w host core (message.UpdateClient m)) _ (updates_client m.client client m.header.height there)

  pub conn_open_init_did : (m : ConnOpenInit) → Gives (Did w host core (message.ConnOpenInit m)) (conn_open_init m evidence host core)
  unfolding conn_open_init
  conn_open_init_did m =
      gives_expect _ _ _ λ (client : Client) there. gives_require _ _ _ λ number.
      gives_ok (Did w host core (message.ConnOpenInit m)) _
      (starts_connection (connection_end conn.Init m.client m.peer_client None) number (record {
        client = client;
        there = there;
        not_open = λ e. absurd (cc e);
        unnamed = λ e. refl;
        named = λ f. absurd (f refl);
        seen = λ p e. absurd (cc e);
      }))

  pub conn_open_try_did : (m : ConnOpenTry) → Gives (Did w host core (message.ConnOpenTry m)) (conn_open_try m evidence host core)
  unfolding conn_open_try
  conn_open_try_did m =
      gives_then _ _ λ _. gives_then _ _ λ may. gives_then _ _ λ _. gives_require _ _ _ λ shown.
      let passed : MayConnTry host core m = conn_tryable host core m may in
      gives_ok (Did w host core (message.ConnOpenTry m)) _
      (starts_connection (connection_end conn.TryOpen m.client m.peer_client (Some m.peer_connection)) passed.number (record {
        client = passed.client;
        there = passed.there;
        not_open = λ e. absurd (cc e);
        unnamed = λ e. absurd (cc e);
        named = λ f. (m.peer_connection, refl);
        seen = λ p e. (
          m.height,
          Sees-map (had_client host m.peer_client m.claim passed.us)
              (shown_client window oldest w core m.client m.height m.peer_client m.claim m.proof_client shown),
        );
      }))

  pub conn_open_ack_did : (m : ConnOpenAck) → Gives (Did w host core (message.ConnOpenAck m)) (conn_open_ack m evidence host core)
  unfolding conn_open_ack
  conn_open_ack_did m =
      gives_then _ _ λ _. gives_expect _ _ _ λ (mine : ConnectionEnd) there. gives_then _ _ λ may. gives_require _ _ _ λ end. gives_require _ _ _ λ client.
      let passed : MayConnAck host core m mine = conn_ackable host core m mine may in
      let theirs : ConnectionEnd = connection_end conn.TryOpen mine.peer_client mine.client (Some m.connection) in
      gives_ok (Did w host core (message.ConnOpenAck m)) _
      (answers_connection m.connection mine m.peer_connection (record {
        there = there;
        state = same_connection_state_is mine.state conn.Init passed.state;
        height = m.height;
        sees = Sees-both
            (Sees-map (λ b had. (theirs, had, refl, refl)) (shown_connection window oldest w core mine.client m.height m.peer_connection theirs m.proof_end end))
            (Sees-map (had_client host mine.peer_client m.claim passed.us) (shown_client window oldest w core mine.client m.height mine.peer_client m.claim m.proof_client client));
      }))

  pub conn_open_confirm_did : (m : ConnOpenConfirm) → Gives (Did w host core (message.ConnOpenConfirm m)) (conn_open_confirm m evidence host core)
  unfolding conn_open_confirm
  conn_open_confirm_did m =
      gives_then _ _ λ _. gives_expect _ _ _ λ (mine : ConnectionEnd) there. gives_require _ _ _ λ state. gives_expect _ _ _ λ (peer : Text) named. gives_then _ _ λ _. gives_require _ _ _ λ end.
      let theirs : ConnectionEnd = connection_end conn.Open mine.peer_client mine.client (Some m.connection) in
      gives_ok (Did w host core (message.ConnOpenConfirm m)) _
      (confirms_connection m.connection mine (record {
        there = there;
        state = same_connection_state_is mine.state conn.TryOpen state;
        peer = peer;
        named = named;
        height = m.height;
        sees = Sees-map (λ b had. (theirs, had, refl, refl)) (shown_connection window oldest w core mine.client m.height peer theirs m.proof end);
      }))
