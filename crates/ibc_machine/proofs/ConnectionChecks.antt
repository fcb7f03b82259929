-- What a message on a connection has passed of the checks that need no proof.
use Rattle.std.proofs.Common.{◌≡◌, ◌^◌, ◌-◌, ◌==◌, true, not, Some, Ok}
use Rattle.ibc_wire.specs.declared.records.ConnectionState.TheVariants.{Init}
use Rattle.ibc_wire.specs.declared.records.ConnectionEnd.{ConnectionEnd}
use Rattle.ibc_wire.specs.declared.messages.ConnOpenTry.{ConnOpenTry}
use Rattle.ibc_wire.specs.declared.messages.ConnOpenAck.{ConnOpenAck}
use Rattle.ibc_machine.specs.chain.Records.{Core, Client, client_at, is_known_height}
use Rattle.ibc_machine.specs.ics24.Values.{same_connection_state}
use Rattle.ibc_machine.specs.ics24.Evidence.{Host}
use Rattle.ibc_machine.specs.ics03.Connections.{names_host, may_conn_try, may_conn_ack}
use Rattle.ibc_machine.proofs.PassedRows.{require_passed, require_holds, bind_passed, expect_passed}

pub record MayConnTry (host : Host) (core : Core) (m : ConnOpenTry) : Type 0 where
  pub client : Client
  pub there : client_at core m.client ≡ Some client
  pub us : names_host host m.claim ≡ true
  pub number : not (core.next_connection == 2 ^ 64 - 1) ≡ true
  pub known : is_known_height core m.client m.height ≡ true

pub conn_tryable : (host : Host) (core : Core) (m : ConnOpenTry) → may_conn_try host core m ≡ Ok tt → MayConnTry host core m
conn_tryable host core m e =
    let there = bind_passed _ _ e in
    let us = require_passed _ _ _ there.2 in
    let number = require_passed _ _ _ us.1 in
    record {
      client = there.0;
      there = expect_passed (client_at core m.client) _ there.1;
      us = us.0;
      number = number.0;
      known = require_holds _ _ number.1;
    }

pub record MayConnAck (host : Host) (core : Core) (m : ConnOpenAck) (mine : ConnectionEnd) : Type 0 where
  pub state : same_connection_state mine.state Init ≡ true
  pub us : names_host host m.claim ≡ true
  pub known : is_known_height core mine.client m.height ≡ true

pub conn_ackable : (host : Host) (core : Core) (m : ConnOpenAck) (mine : ConnectionEnd) → may_conn_ack host core m mine ≡ Ok tt → MayConnAck host core m mine
conn_ackable host core m mine e =
    let state = require_passed _ _ _ e in
    let us = require_passed _ _ _ state.1 in
    record { state = state.0; us = us.0; known = require_holds _ _ us.1 }
