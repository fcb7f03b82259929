-- What a check of a claim says of the peer's end of a channel.
use Rattle.std.proofs.Common.{◌≡◌, ℕ, true, Option, Some, inr, sym, subst, option_and_then}
use Rattle.std.specs.Prelude.{⊤, [], Result}
use Rattle.std.specs.Option.{option_map_or, unwrap_or}
use Rattle.ibc_ids.specs.Texts.{Text}
use Rattle.ibc_ids.specs.Paths.{path}
use Rattle.ibc_ids.specs.declared.key.Key.TheVariants as key
use Rattle.ibc_ids.specs.declared.refusal.Refusal.{Refusal}
use Rattle.ibc_merkle.specs.Proofs.{accepts_present}
use Rattle.ibc_merkle.specs.declared.proof.Proof.{Proof}
use Rattle.ibc_wire.specs.Spelling.{channel_end_bytes}
use Rattle.ibc_wire.specs.declared.records.ConnectionEnd.{ConnectionEnd}
use Rattle.ibc_wire.specs.declared.records.ChannelState.{ChannelState}
use Rattle.ibc_wire.specs.declared.records.ChannelEnd.{ChannelEnd}
use Rattle.ibc_machine.specs.chain.Records.{connection_at, is_known_height}
use Rattle.ibc_machine.specs.ics24.Values.{ChannelIs}
use Rattle.ibc_machine.specs.ics04.Channels.{channel_end, counterpart, has_channel}
use Rattle.ibc_records.specs.RecordsModel.{RecordsModel, core_of}
use Rattle.ibc_records.specs.Claims.{proof_checked}
use Rattle.ibc_records.specs.ProofVerdicts.{IsShown}
use Rattle.ibc_records.proofs.Shown.{is_shown}
use Rattle.ibc_records.specs.Peers.{text_of, IsPeerShown}

module _ (held : RecordsModel) (mine : ChannelEnd) (connection : ConnectionEnd) (height : ℕ) (there : connection_at (core_of held) mine.connection ≡ Some connection) (knowing : is_known_height (core_of held) connection.client height ≡ true) where
  -- the end's bytes were looked for where the claim says
  pub peer_shown : (peer_channel port : Text) (channel : Option Text) (state : ChannelState) (proof : Proof) (result : Result ⊤ Refusal) {text bytes : Text}
      → text ≡ path (key.ChannelEnd mine.peer_port peer_channel)
      → bytes ≡ channel_end_bytes (channel_end state mine.order port channel (text_of connection.peer_connection) mine.version)
      → result ≡ proof_checked held connection.client height (λ root. accepts_present proof root text bytes)
      → IsPeerShown held mine height peer_channel (counterpart (core_of held) mine port channel state) proof result
  peer_shown peer_channel port channel state proof result named valued checked =
      subst (λ (o : Option ConnectionEnd). IsShown held (option_map_or (λ (c : ConnectionEnd). c.client) o []) height
      (has_channel mine peer_channel (channel_end state mine.order port channel (unwrap_or (option_and_then (λ (c : ConnectionEnd). c.peer_connection) o) []) mine.version)) proof result) (sym there)
      (is_shown held connection.client height knowing (key.ChannelEnd mine.peer_port peer_channel) (ChannelIs (channel_end state mine.order port channel (text_of connection.peer_connection) mine.version)) proof result named valued (inr checked))
