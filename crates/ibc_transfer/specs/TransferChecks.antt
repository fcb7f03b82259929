-- What the two messages of port `transfer` send, and what they check from their channel on.
use Rattle.std.specs.Prelude.{◌==◌, ◌&&◌, ⊤, ℕ, not, Bool, List, Ok}
use Rattle.std.specs.List.{list_any}
use Rattle.ibc_ids.specs.Texts.{Text, same_text}
use Rattle.ibc_ids.specs.declared.refusal.Refusal.TheVariants.{WrongVersion, TooLarge}
use Rattle.ibc_wire.specs.declared.messages.Transfer.{Transfer}
use Rattle.ibc_wire.specs.declared.messages.TransferMany.{TransferMany}
use Rattle.ibc_machine.specs.chain.Records.{Core, Channel, Commitment}
use Rattle.ibc_machine.specs.chain.Checks.{Checked, require, ◌>>=◌, ◌>>◌}
use Rattle.ibc_machine.specs.ics24.Evidence.{Host, Evidence, Handler, require_number}
use Rattle.ibc_machine.specs.ics04.Packets.{has_size, sending_end, require_timeouts}
use Rattle.ibc_machine.specs.ics20.TokenData.{one_token, several_tokens}
use Rattle.ibc_machine.specs.ics20.Transfers.{transfer_port, transfer_commitment, transfer_data, transfer_many_data, is_zero}
use Rattle.ibc_bank.specs.Moves.{BankState, after_moves}
use Rattle.ibc_bank.specs.declared.moves.Move.{Move}
use Rattle.ibc_transfer.specs.BankTransfers.{send_moves, with_bank_sent}
use Rattle.ibc_transfer.specs.declared.outgoing.Outgoing.{Outgoing}

-- what a message sends: the version that its channel has to have, whether its amounts and its payload fit, its moves and
-- what is committed of its packet
pub record OutgoingModel : Type 0 where
  pub version : Text
  pub fits : Bool
  pub moves : List Move
  pub commitment : Commitment

abbrev pub abstract_outgoing : Outgoing → OutgoingModel
abstract_outgoing parcel = record {
  version = parcel.version;
  fits = parcel.fits;
  moves = parcel.moves.items;
  commitment = parcel.commitment;
}

abbrev pub one_outgoing : Transfer → OutgoingModel
one_outgoing m = record {
  version = one_token;
  fits = not (m.amount == 0);
  moves = send_moves m.channel (transfer_data m);
  commitment = transfer_commitment one_token (transfer_data m) m.timeout_height m.timeout_time;
}

abbrev pub many_outgoing : TransferMany → OutgoingModel
many_outgoing m =
    let c = transfer_commitment several_tokens (transfer_many_data m) m.timeout_height m.timeout_time in
    record {
      version = several_tokens;
      fits = not (list_any is_zero m.tokens) && has_size c.payload;
      moves = send_moves m.channel (transfer_many_data m);
      commitment = c;
    }

-- the checks from the channel on that come before the payment, and the end that sends
abbrev pub require_channel : Text → OutgoingModel → Evidence → Host → Core → Checked Channel
require_channel channel parcel evidence host core = do
  mine ← sending_end core transfer_port channel
  require (same_text mine.end.version parcel.version) WrongVersion
  require parcel.fits TooLarge
  require_timeouts evidence core mine parcel.commitment
  Ok mine

-- the checks that are left: the moves can be made, and there is a next sequence
abbrev pub require_moves : BankState → List Move → ℕ → Checked ⊤
require_moves bank moves next_send = after_moves moves bank >>= λ (after : BankState). require_number next_send

-- all checks, and the effect
abbrev pub send_handler : Text → OutgoingModel → Handler BankState
send_handler channel parcel evidence host core bank = do
  mine ← sending_end core transfer_port channel
  require (same_text mine.end.version parcel.version) WrongVersion
  require parcel.fits TooLarge
  require_timeouts evidence core mine parcel.commitment
  after ← after_moves parcel.moves bank
  require_number mine.next_send
  Ok (with_bank_sent channel mine parcel.commitment core after)
