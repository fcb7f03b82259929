-- The peer's end of a channel, as a proof shows it and as its bytes (ICS 4, "ChannelEnd").
use Rattle.std.specs.Prelude.{◌≡◌, ℕ, ⊤, [], ◌∷◌, Option, Result, IfOk, string_bytes}
use Rattle.std.specs.Option.{unwrap_or}
use Rattle.ibc_ids.specs.Texts.{Text}
use Rattle.ibc_ids.specs.Paths.{path}
use Rattle.ibc_ids.specs.declared.key.Key.TheVariants as key
use Rattle.ibc_ids.specs.declared.refusal.Refusal.{Refusal}
use Rattle.ibc_wire.specs.Fields.{one_byte, str, bytes_of}
use Rattle.ibc_wire.specs.Spelling.{channel_state_number, order_number}
use Rattle.ibc_wire.specs.declared.records.ChannelState.{ChannelState}
use Rattle.ibc_wire.specs.declared.records.ConnectionEnd.{ConnectionEnd}
use Rattle.ibc_wire.specs.declared.records.ChannelEnd.{ChannelEnd}
use Rattle.ibc_wire.specs.declared.records.Order.{Order}
use Rattle.ibc_merkle.specs.Proofs.{accepts_present}
use Rattle.ibc_merkle.specs.declared.proof.Proof.{Proof}
use Rattle.ibc_machine.specs.ics04.Channels.{client_of, has_channel}
use Rattle.ibc_records.specs.declared.peers.PeerClaim.{PeerClaim}
use Rattle.ibc_records.specs.RecordsModel.{RecordsModel, core_of}
use Rattle.ibc_records.specs.Claims.{proof_checked}
use Rattle.ibc_records.specs.ProofVerdicts.{IsShown}

-- the proof shows that the peer of an own end is this end, at a height that the client under its connection knows
abbrev pub IsPeerShown : RecordsModel → ChannelEnd → ℕ → Text → ChannelEnd → Proof → Result ⊤ Refusal → Type 0
IsPeerShown held mine height peer_channel theirs proof result =
    IsShown held (client_of (core_of held) mine.connection) height (has_channel mine peer_channel theirs) proof result

-- a name's text, empty where there is none
abbrev pub text_of : Option Text → Text
text_of name = unwrap_or name []

-- the bytes of an end whose names are these texts, empty where there is none
abbrev pub end_bytes : ChannelState → Order → Text → Text → Text → Text → Text
end_bytes state order peer_port peer_channel connection version =
    bytes_of
    (one_byte (channel_state_number state) ∷ one_byte (order_number order) ∷ str peer_port ∷ str peer_channel ∷ str connection ∷ str version ∷ [])

-- the claim is of the path of the own end's peer, which has this name
abbrev pub ClaimsPath : ChannelEnd → Text → Result PeerClaim Refusal → Type 0
ClaimsPath mine peer result = IfOk result (λ claim. string_bytes claim.path ≡ path (key.ChannelEnd mine.peer_port peer))

-- the claim is that the own end's peer is in this state, and that its own peer is this port and channel
abbrev pub ClaimsEnd : ChannelEnd → ConnectionEnd → Text → Text → ChannelState → Result PeerClaim Refusal → Type 0
ClaimsEnd mine connection port channel state result =
    IfOk result (λ claim. claim.value ≡ end_bytes state mine.order port channel (text_of connection.peer_connection) mine.version)

-- the proof shows what is claimed
abbrev pub ShowsClaim : RecordsModel → Text → ℕ → PeerClaim → Proof → Result ⊤ Refusal → Type 0
ShowsClaim held client height claim proof result =
    result ≡ proof_checked held client height (λ root. accepts_present proof root (string_bytes claim.path) claim.value)
