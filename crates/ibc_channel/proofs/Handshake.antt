-- The checks of the handshakes in a row, as the code makes them.
use Rattle.std.proofs.Common.{◌≡◌, ◌⊎◌, ℕ, List, Option, Some, None, Ok, Err, is_some, refl, sym, ap, subst, ◌∙◌}
use Rattle.std.specs.Prelude.{⊤, [], false, Result, IsErrAnd}
use Rattle.std.specs.Option.{option_map, option_map_or}
use Rattle.std.proofs.lemmas.Result.{err_from_is_err_and}
use Rattle.ibc_ids.specs.Texts.{Text}
use Rattle.ibc_ids.specs.declared.publication.Publication.{Publication}
use Rattle.ibc_ids.specs.declared.refusal.Refusal.{Refusal}
use Rattle.ibc_ids.specs.declared.refusal.Refusal.TheVariants.{UnknownPort, UnknownConnection, UnknownChannel, WrongState, BadMessage, NoMemory}
use Rattle.ibc_merkle.specs.declared.proof.Proof.{Proof}
use Rattle.ibc_wire.specs.Reading.{proof_of}
use Rattle.ibc_wire.specs.declared.records.ConnectionState.TheVariants as conn
use Rattle.ibc_wire.specs.declared.records.ConnectionEnd.{ConnectionEnd}
use Rattle.ibc_wire.specs.declared.records.ChannelState.{ChannelState}
use Rattle.ibc_wire.specs.declared.records.ChannelState.TheVariants.{Init, TryOpen, Open, Closed}
use Rattle.ibc_wire.specs.declared.records.ChannelEnd.{ChannelEnd}
use Rattle.ibc_wire.specs.declared.records.Order.{Order}
use Rattle.ibc_wire.specs.declared.messages.ChanOpenInit.{ChanOpenInit}
use Rattle.ibc_wire.specs.declared.messages.ChanOpenTry.{ChanOpenTry}
use Rattle.ibc_wire.specs.declared.messages.ChanOpenAck.{ChanOpenAck}
use Rattle.ibc_wire.specs.declared.messages.ChanCloseInit.{ChanCloseInit}
use Rattle.ibc_machine.specs.declared.reply.Effect.{Effect}
use Rattle.ibc_machine.specs.declared.reply.Effect.TheVariants as effect
use Rattle.ibc_machine.specs.chain.Records.{Core, Channel, connection_at, channel_at, with_channel}
use Rattle.ibc_machine.specs.ledger.Replay.{LedgerState, proof_evidence}
use Rattle.ibc_machine.specs.ics24.Values.{same_connection_state, same_channel_state}
use Rattle.ibc_machine.specs.chain.Checks.{Checked, require, expect, go_on, and_then, ◌>>=◌, ◌>>◌}
use Rattle.ibc_machine.specs.ics24.Evidence.{Host, Evidence, require_number, require_known, require_proof}
use Rattle.ibc_machine.specs.ics04.Channels.{channel_end, client_of, peer_channel_of, counterpart, has_channel, chan_open_init, chan_open_try, chan_open_ack, chan_close_init}
use Rattle.ibc_machine.proofs.PassedChecks.{pass, find, unused}
use Rattle.ibc_records.specs.RecordsModel.{RecordsModel, core_of}
use Rattle.ibc_records.specs.HandlerContract.{IsTakenMessage, host_with}
use Rattle.ibc_records.specs.ProofVerdicts.{IsPassed}
use Rattle.ibc_records.specs.Peers.{IsPeerShown}
use Rattle.ibc_records.proofs.Judging.{IsRefusedBy, refuses, unread, untaken}
use Rattle.ibc_channel.specs.ChannelHandshake.{end_at, with_end, new_end, init_end, try_end, after_ack, end_in_state, require_connection, require_open, expected_init_end, expected_try_end}
use Rattle.ibc_channel.specs.FollowedPeers.{require_follows, follow_peer}

-- ---- the exit of a check

-- the result of checks of which one refused
pub refused : {A B : Type 0} {checked : Checked B} (given : A → B) (result : Result A Refusal) {r : Refusal} → IsErrAnd result (λ e. e ≡ r) → IsRefusedBy checked r → IsPassed checked given result
refused {checked = checked} given result is why = let p = err_from_is_err_and result is in refuses checked given result p.1 p.2 why

-- the answer to a message that a check refused, which leaves the records
pub refused_message : {A : Type 0} (effect_of : A → Effect) {checked : Checked (Effect × Core)} (old : RecordsModel) (result : Result A Refusal) {r : Refusal} → IsErrAnd result (λ e. e ≡ r) → IsRefusedBy checked r
    → IsTakenMessage effect_of checked old result old
refused_message effect_of {checked = checked} old result is why = let p = err_from_is_err_and result is in untaken effect_of checked old result old p.1 p.2 why refl

-- bytes that are no proof, or want of memory
pub no_proof : {bytes text : Text} {r : Refusal} → bytes ≡ text → (r ≡ BadMessage → is_some (proof_of bytes) ≡ false) → (r ≡ BadMessage) ⊎ (r ≡ NoMemory)
    → IsRefusedBy (require (is_some (proof_of text)) BadMessage) r
no_proof {bytes} {text} {r} same bad err = subst (λ text. IsRefusedBy (require (is_some (proof_of text)) BadMessage) r) same (unread bad err)

-- ---- a new channel

module _ (evidence : Evidence) (host : Host) (core : Core) (has_port : Checked ⊤) (opens : Order → Text → Checked ⊤) where
  abbrev pub init_after : ChanOpenInit → Checked (Effect × Core)
  init_after m =
      require_connection core m.connection
      >> (opens m.order m.version
      >> (require_number core.next_channel
      >> Ok (new_end m.port (init_end m) core)))

  pub init_checks : (m : ChanOpenInit) → chan_open_init has_port opens m evidence host core ≡ (has_port >> init_after m)
  unfolding chan_open_init
  init_checks m = ap (λ rest. has_port >> rest) (unused (connection_at core m.connection) UnknownConnection _)

  -- what stands behind the checks of the connection, whose client is this one
  abbrev try_over : ChanOpenTry → Text → Checked (Effect × Core)
  try_over m client =
      opens m.order m.version
      >> (require_number core.next_channel
      >> (require_known core client m.height
      >> (require_proof evidence client m.height (has_channel (try_end m) m.peer_channel (expected_init_end core m (try_end m))) m.proof
      >> Ok (new_end m.port (try_end m) core))))

  -- a connection that is found and open, and the client under it
  over_connection : (o : Option ConnectionEnd) (rest : Text → Checked (Effect × Core))
      → (expect o UnknownConnection >>= λ (c : ConnectionEnd). (require (same_connection_state c.state conn.Open) WrongState >> rest c.client))
      ≡ ((expect o UnknownConnection >>= λ (c : ConnectionEnd). Ok tt)
      >> (require (option_map_or (λ (c : ConnectionEnd). same_connection_state c.state conn.Open) o false) WrongState
      >> rest (option_map_or (λ (c : ConnectionEnd). c.client) o [])))
  unfolding go_on and_then
  over_connection None rest = refl
  over_connection (Some c) rest = refl

  abbrev pub try_after : ChanOpenTry → Checked (Effect × Core)
  try_after m = require_connection core m.connection >> (require_open core m.connection >> try_over m (client_of core m.connection))

  pub try_checks : (m : ChanOpenTry)
      → chan_open_try has_port opens m evidence host core ≡ (require (evidence.is_proof m.proof) BadMessage >> (has_port >> try_after m))
  unfolding chan_open_try
  try_checks m =
      ap (λ rest. require (evidence.is_proof m.proof) BadMessage >> (has_port >> rest))
      (over_connection (connection_at core m.connection) (try_over m))

-- the port has an application, or none
pub port_there : {A : Type 0} {app : Option A} {a : A} → app ≡ Some a → require (is_some app) UnknownPort ≡ Ok tt
port_there is = ap (λ o. require (is_some o) UnknownPort) is

pub port_gone : {A : Type 0} {app : Option A} → app ≡ None → require (is_some app) UnknownPort ≡ Err UnknownPort
port_gone is = ap (λ o. require (is_some o) UnknownPort) is

-- the end that answers is made of the message, and its peer is shown
pub made_try : (m : ChanOpenTry) {peer : Text} {end : ChannelEnd} → end ≡ channel_end TryOpen m.order m.peer_port (Some peer) m.connection m.version → peer ≡ m.peer_channel → end ≡ try_end m
made_try m is same = is ∙ ap (λ (peer : Text). channel_end TryOpen m.order m.peer_port (Some peer) m.connection m.version) same

pub shown_try : (old : RecordsModel) (m : ChanOpenTry) (proof : Proof) (result : Result ⊤ Refusal) {end : ChannelEnd} → end ≡ try_end m
    → IsPeerShown old end m.height m.peer_channel (expected_init_end (core_of old) m end) proof result
    → IsPeerShown old (try_end m) m.height m.peer_channel (expected_init_end (core_of old) m (try_end m)) proof result
shown_try old m proof result made shown = subst (λ (end : ChannelEnd). IsPeerShown old end m.height m.peer_channel (expected_init_end (core_of old) m end) proof result) made shown

-- ---- a channel that is there

module _ (core : Core) (port channel : Text) where
  -- checks that look at the end alone, and set it
  of_end : (checks : ChannelEnd → Core → Checked (Effect × Core)) (after : ChannelEnd → ChannelEnd)
      → (expect (channel_at core port channel) UnknownChannel >>= λ (found : Channel). checks found.end (with_channel port channel (record found { end = after found.end }) core))
      ≡ (expect (end_at core port channel) UnknownChannel >>= λ (mine : ChannelEnd). checks mine (with_end port channel (after mine) core))
  unfolding go_on
  of_end checks after = go (channel_at core port channel) refl
    where
      go : (o : Option Channel) → channel_at core port channel ≡ o
          → (expect o UnknownChannel >>= λ (found : Channel). checks found.end (with_channel port channel (record found { end = after found.end }) core))
          ≡ (expect (option_map (λ (found : Channel). found.end) o) UnknownChannel >>= λ (mine : ChannelEnd). checks mine (with_end port channel (after mine) core))
      go None is = refl
      go (Some found) is =
          ap (checks found.end) (sym (ap (λ o. option_map_or (λ (c : Channel). with_channel port channel (record c { end = after found.end }) core) o core) is))

module _ (evidence : Evidence) (host : Host) (core : Core) where
  abbrev ack_sets : ChanOpenAck → ChannelEnd → Core → Checked (Effect × Core)
  ack_sets m mine set =
      require (same_channel_state mine.state Init) WrongState
      >> (require_open core mine.connection
      >> (require_known core (client_of core mine.connection) m.height
      >> (require_proof evidence (client_of core mine.connection) m.height (has_channel mine m.peer_channel (expected_try_end core m mine)) m.proof
      >> Ok (effect.None, set))))

  abbrev pub ack_after : ChanOpenAck → ChannelEnd → Checked (Effect × Core)
  ack_after m mine = ack_sets m mine (with_end m.port m.channel (after_ack m mine) core)

  pub ack_checks : (m : ChanOpenAck)
      → chan_open_ack m evidence host core
      ≡ (require (evidence.is_proof m.proof) BadMessage >> (expect (end_at core m.port m.channel) UnknownChannel >>= ack_after m))
  unfolding chan_open_ack
  ack_checks m =
      ap (λ rest. require (evidence.is_proof m.proof) BadMessage >> rest) (of_end core m.port m.channel (ack_sets m) (after_ack m))

  module _ (to : ChannelState) (port channel : Text) (height : ℕ) (proof : Text) where
    abbrev follow_sets : ChannelEnd → Core → Checked (Effect × Core)
    follow_sets mine set =
        require_follows to mine
        >> (require_known core (client_of core mine.connection) height
        >> (require_proof evidence (client_of core mine.connection) height (has_channel mine (peer_channel_of mine) (counterpart core mine port (Some channel) to)) proof
        >> Ok (effect.None, set)))

    abbrev pub follow_after : ChannelEnd → Checked (Effect × Core)
    follow_after mine = follow_sets mine (with_end port channel (end_in_state to mine) core)

    pub follow_checks : follow_peer to port channel height proof evidence host core
        ≡ (require (evidence.is_proof proof) BadMessage >> (expect (end_at core port channel) UnknownChannel >>= follow_after))
    unfolding follow_peer
    follow_checks = ap (λ rest. require (evidence.is_proof proof) BadMessage >> rest) (of_end core port channel follow_sets (end_in_state to))

  module _ (closes : Checked ⊤) (m : ChanCloseInit) where
    abbrev close_init_sets : ChannelEnd → Core → Checked (Effect × Core)
    close_init_sets mine set =
        require (same_channel_state mine.state Open) WrongState >> (closes >> Ok (effect.None, set))

    abbrev pub close_init_after : ChannelEnd → Checked (Effect × Core)
    close_init_after mine = close_init_sets mine (with_end m.port m.channel (end_in_state Closed mine) core)

    pub close_init_checks : chan_close_init closes m evidence host core ≡ (expect (end_at core m.port m.channel) UnknownChannel >>= close_init_after)
    unfolding chan_close_init
    close_init_checks = of_end core m.port m.channel close_init_sets (end_in_state Closed)

    pub close_init_found : (mine : ChannelEnd) → end_at core m.port m.channel ≡ Some mine → chan_close_init closes m evidence host core ≡ close_init_after mine
    close_init_found mine there = find close_init_after (ap (λ o. expect o UnknownChannel) there) close_init_checks

-- ---- behind the proof that was read, and behind the end that is there

module _ (held : RecordsModel) (chain chains : ℕ) (seen : List Publication) (state : LedgerState) where
  abbrev roots : Evidence
  roots = proof_evidence seen None state

  abbrev here : Host
  here = host_with chain chains held

  abbrev core : Core
  core = core_of held

  pub try_begun : (has_port : Checked ⊤) (opens : Order → Text → Checked ⊤) (m : ChanOpenTry) (proof : Proof) → proof_of m.proof ≡ Some proof
      → chan_open_try has_port opens m roots here core ≡ (has_port >> try_after roots here core has_port opens m)
  try_begun has_port opens m proof read = pass (λ i. require (is_some (read i)) BadMessage) (try_checks roots here core has_port opens m)

  module _ (m : ChanOpenAck) (proof : Proof) (read : proof_of m.proof ≡ Some proof) where
    pub ack_begun : chan_open_ack m roots here core ≡ (expect (end_at core m.port m.channel) UnknownChannel >>= ack_after roots here core m)
    ack_begun = pass (λ i. require (is_some (read i)) BadMessage) (ack_checks roots here core m)

    pub ack_found : (mine : ChannelEnd) → end_at core m.port m.channel ≡ Some mine → chan_open_ack m roots here core ≡ ack_after roots here core m mine
    ack_found mine there = find (ack_after roots here core m) (ap (λ o. expect o UnknownChannel) there) ack_begun

  module _ (to : ChannelState) (port channel : Text) (height : ℕ) (bytes : Text) (proof : Proof) (read : proof_of bytes ≡ Some proof) where
    pub follow_begun : follow_peer to port channel height bytes roots here core
        ≡ (expect (end_at core port channel) UnknownChannel >>= follow_after roots here core to port channel height bytes)
    follow_begun = pass (λ i. require (is_some (read i)) BadMessage) (follow_checks roots here core to port channel height bytes)

    pub follow_found : (mine : ChannelEnd) → end_at core port channel ≡ Some mine
        → follow_peer to port channel height bytes roots here core ≡ follow_after roots here core to port channel height bytes mine
    follow_found mine there = find (follow_after roots here core to port channel height bytes) (ap (λ o. expect o UnknownChannel) there) follow_begun
