-- What the code finds in the records, beside the definitions' words for it.
use Rattle.std.proofs.Common.{◌≡◌, ℕ, true, false, Option, Some, None, Ok, Err, refl, sym, ap, ◌∙◌}
use Rattle.std.specs.Prelude.{⊤, [], ◌∷◌, IsSome, Result}
use Rattle.std.specs.Option.{option_map, option_map_or}
use Rattle.ibc_ids.specs.Texts.{Text}
use Rattle.ibc_ids.specs.Names.{is_port, is_channel, is_connection, is_version}
use Rattle.ibc_ids.specs.Paths.{path}
use Rattle.ibc_ids.specs.declared.key.Key.TheVariants as key
use Rattle.ibc_ids.specs.declared.refusal.Refusal.{Refusal}
use Rattle.ibc_ids.specs.declared.refusal.Refusal.TheVariants.{UnknownConnection}
use Rattle.ibc_merkle.specs.Proofs.{accepts_present}
use Rattle.ibc_merkle.specs.declared.proof.Proof.{Proof}
use Rattle.ibc_wire.specs.Fields.{one_byte, name, bytes_of}
use Rattle.ibc_wire.specs.Spelling.{channel_state_number, order_number, peer, channel_end_bytes}
use Rattle.ibc_wire.specs.declared.records.ConnectionEnd.{ConnectionEnd}
use Rattle.ibc_wire.specs.declared.records.ChannelState.{ChannelState}
use Rattle.ibc_wire.specs.declared.records.ChannelState.TheVariants.{Init}
use Rattle.ibc_wire.specs.declared.records.Order.{Order}
use Rattle.ibc_wire.specs.declared.records.ChannelEnd.{ChannelEnd}
use Rattle.ibc_machine.specs.chain.Records.{Core, Channel, connection_at, channel_at, with_channel, is_known_height}
use Rattle.ibc_machine.specs.ics24.Values.{same_channel_state}
use Rattle.ibc_machine.specs.chain.Checks.{Checked, expect, go_on, ◌>>=◌}
use Rattle.ibc_machine.specs.ics04.Channels.{channel_end, peer_channel_of, counterpart}
use Rattle.ibc_records.specs.RecordsModel.{RecordsModel, core_of, SetsChannelEnd}
use Rattle.ibc_records.specs.HandlerContract.{AreWrittenRecords}
use Rattle.ibc_records.proofs.WrittenRecords.{sets_channel_end_written}
use Rattle.ibc_records.specs.Claims.{proof_checked}
use Rattle.ibc_records.specs.Peers.{IsPeerShown, end_bytes, text_of}
use Rattle.ibc_records.proofs.Claimed.{peer_shown}
use Rattle.ibc_channel.specs.ChannelHandshake.{end_at, with_end, require_connection}

-- ---- a connection

module _ (core : Core) (id : Text) where
  found : Option ConnectionEnd → Checked ⊤
  found o = expect o UnknownConnection >>= λ (c : ConnectionEnd). Ok tt

  pub connection_there : (end : ConnectionEnd) → Some end ≡ connection_at core id → Ok tt ≡ require_connection core id
  unfolding go_on found
  connection_there end some = ap found some

  pub connection_gone : None ≡ connection_at core id → Err UnknownConnection ≡ require_connection core id
  unfolding go_on found
  connection_gone none = ap found none

-- ---- an end of a channel

module _ (core : Core) (port channel : Text) where
  pub end_found : (o : Option Channel) → o ≡ channel_at core port channel → option_map (λ (c : Channel). c.end) o ≡ end_at core port channel
  end_found o is = ap (option_map (λ (c : Channel). c.end)) is

  -- where there is an end there is a channel
  pub channel_there : IsSome (end_at core port channel) → IsSome (channel_at core port channel)
  channel_there there = go (channel_at core port channel) there
    where
      go : (o : Option Channel) → IsSome (option_map (λ (c : Channel). c.end) o) → IsSome o
      go (Some c) is = refl
      go None is = absurd (cc)

pub end_written : (old : RecordsModel) (port channel : Text) (end : ChannelEnd) (new : RecordsModel) → SetsChannelEnd old port channel end new
    → AreWrittenRecords (with_end port channel end (core_of old)) old new
end_written old port channel end new sets =
    let written = sets_channel_end_written old port channel end new sets in
    record {
      core_is = written.core_is ∙ sym (ap (λ (o : Option Channel). option_map_or (λ (c : Channel). with_channel port channel (record c { end = end }) (core_of old)) o (core_of old)) sets.stood);
      stored = written.stored;
      knows = written.knows;
    }

-- an end that isn't in INIT is written with the peer's name
pub named_bytes : (state : ChannelState) (order : Order) (port channel connection version : Text) → same_channel_state state Init ≡ false
    → end_bytes state order port channel connection version ≡ channel_end_bytes (channel_end state order port (Some channel) connection version)
named_bytes state order port channel connection version apart =
    ap (λ b. bytes_of (one_byte (channel_state_number state) ∷ one_byte (order_number order) ∷ name is_port port ∷ peer is_channel b (Some channel) ∷ name is_connection connection ∷ name is_version version ∷ []))
    (sym apart)

-- the end of the peer that is followed is looked for where the claim says
pub followed_shown : (held : RecordsModel) (mine : ChannelEnd) (connection : ConnectionEnd) (height : ℕ) → connection_at (core_of held) mine.connection ≡ Some connection
    → is_known_height (core_of held) connection.client height ≡ true → (port channel : Text) (to : ChannelState) → same_channel_state to Init ≡ false
    → (proof : Proof) (result : Result ⊤ Refusal) {text bytes name spelled : Text} → text ≡ path (key.ChannelEnd mine.peer_port name) → name ≡ peer_channel_of mine
    → bytes ≡ end_bytes to mine.order port spelled (text_of connection.peer_connection) mine.version → spelled ≡ channel
    → result ≡ proof_checked held connection.client height (λ root. accepts_present proof root text bytes)
    → IsPeerShown held mine height (peer_channel_of mine) (counterpart (core_of held) mine port (Some channel) to) proof result
followed_shown held mine connection height there known port channel to apart proof result path_is named value_is spelled checked =
    let over = text_of connection.peer_connection in
    peer_shown held mine connection height there known (peer_channel_of mine) port (Some channel) to proof result
    (path_is ∙ ap (λ text. path (key.ChannelEnd mine.peer_port text)) named)
    (value_is ∙ ap (λ text. end_bytes to mine.order port text over mine.version) spelled ∙ named_bytes to mine.order port channel over mine.version apart)
    checked
