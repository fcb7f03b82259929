-- Laws of the application of port `transfer`.
use Rattle.std.specs.Prelude.{ℕ, ◌≡◌, ◌⊎◌, if◌then◌else◌, IsTrue, IfErr, Bool, true, false, List, [], ◌∷◌, map, Option, Some, None, Ok, Err, refl}
use Rattle.std.specs.List.{list_any}
use Rattle.ibc_ids.specs.Texts.{Text, same_text}
use Rattle.ibc_ids.specs.Names.{is_user}
use Rattle.ibc_ids.specs.declared.refusal.Refusal.TheVariants.{WrongOrder, WrongVersion, Poor}
use Rattle.ibc_wire.specs.declared.records.Order.{Order}
use Rattle.ibc_wire.specs.declared.records.Order.TheVariants.{Unordered}
use Rattle.ibc_wire.specs.declared.packet.Packet.{Packet}
use Rattle.ibc_wire.specs.declared.token.Token.{Token}
use Rattle.ibc_machine.specs.ics24.Values.{same_order}
use Rattle.ibc_machine.specs.ics04.Packets.{has_size}
use Rattle.ibc_machine.specs.ics20.Bank.{Balances}
use Rattle.ibc_machine.specs.chain.Checks.{Checked, expect, go_on, ◌>>=◌}
use Rattle.ibc_machine.specs.ics20.TokenData.{Data, data_of, one_token, several_tokens, success}
use Rattle.ibc_machine.specs.ics20.Transfers.{transfer_port, came_over, opens_for_transfers, receive_result, each_token, receive_token, receive_data, receive_transfer}
use Rattle.ibc_records.specs.Openings.{order_or_version}
use Rattle.ibc_bank.specs.declared.moves.Move.{Move}
use Rattle.ibc_bank.specs.Moves.{BankState, burnt_of, after_move, after_moves}
use Rattle.ibc_transfer.specs.BankCallbacks.{bank_receives, refund_move, bank_refunds, bank_times_out, bank_acknowledged}

-- an opening is refused for the order or the version alone
pub transfers_open_or_refuse : (order : Order) (version : Text) → IfErr (opens_for_transfers order version) (λ refusal. (refusal ≡ WrongOrder) ⊎ (refusal ≡ WrongVersion))
transfers_open_or_refuse order version =
    order_or_version (same_order order Unordered) (list_any (same_text version) (one_token ∷ several_tokens ∷ []))

-- ---- each acknowledgement has 16 to 24 bytes

sized_choice : (b : Bool) (x y : Text × Balances) → IsTrue (has_size x.0) → IsTrue (has_size y.0) → IsTrue (has_size (if b then x else y).0)
sized_choice true x y one other = one
sized_choice false x y one other = other

sized_with : (before : Balances) (after : Option Balances) → IsTrue (has_size (receive_result before after).0)
sized_with before (Some after) = refl
sized_with before None = refl

sized_data : (in_flight : Text → ℕ) (p : Packet) (balances : Balances) (o : Option Data) → IsTrue (has_size (receive_data in_flight p balances o).0)
sized_data in_flight p balances None = refl
sized_data in_flight p balances (Some d) =
    sized_choice (is_user d.receiver) _ _ (sized_with balances (each_token (receive_token in_flight p d.receiver) d.tokens balances)) refl

pub transfers_write_sized_acks : (bank : BankState) (version : Text) (p : Packet) → IsTrue (has_size (bank_receives bank version p).0)
unfolding receive_transfer
transfers_write_sized_acks bank version p = sized_data (burnt_of bank) p bank.balances (data_of version p.payload)

-- ---- refunds are refused for too little on an account alone

abbrev IsPoor : Checked BankState → Type 0
IsPoor checked = IfErr checked (λ refusal. refusal ≡ Poor)

expected_or_poor : (o : Option BankState) → IsPoor (expect o Poor)
expected_or_poor (Some bank) = tt
expected_or_poor None = refl

then_or_poor : (first : Checked BankState) (rest : BankState → Checked BankState) → IsPoor first → ((bank : BankState) → IsPoor (rest bank)) → IsPoor (first >>= rest)
unfolding go_on
then_or_poor (Ok bank) rest one more = more bank
then_or_poor (Err refusal) rest one more = one

chosen_or_poor : (b : Bool) (x y : Move) (bank : BankState) → IsPoor (after_move x bank) → IsPoor (after_move y bank) → IsPoor (after_move (if b then x else y) bank)
chosen_or_poor true x y bank one other = one
chosen_or_poor false x y bank one other = other

refunded_or_poor : (channel user : Text) (tokens : List Token) (bank : BankState) → IsPoor (after_moves (map (refund_move channel user) tokens) bank)
refunded_or_poor channel user [] bank = tt
refunded_or_poor channel user (token ∷ tokens) bank =
    then_or_poor (after_move (refund_move channel user token) bank) (after_moves (map (refund_move channel user) tokens))
    (chosen_or_poor (came_over transfer_port channel token.denom) _ _ bank (expected_or_poor _) (expected_or_poor _))
    (refunded_or_poor channel user tokens)

data_or_poor : (bank : BankState) (p : Packet) (o : Option Data) → IsPoor (bank_refunds bank p o)
data_or_poor bank p None = tt
data_or_poor bank p (Some d) = refunded_or_poor p.source_channel d.sender d.tokens bank

pub transfers_time_out_or_poor : (bank : BankState) (version : Text) (p : Packet) → IfErr (bank_times_out bank version p) (λ refusal. refusal ≡ Poor)
unfolding bank_times_out
transfers_time_out_or_poor bank version p = data_or_poor bank p (data_of version p.payload)

either_or_poor : (b : Bool) (x y : Checked BankState) → IsPoor x → IsPoor y → IsPoor (if b then x else y)
either_or_poor true x y one other = one
either_or_poor false x y one other = other

pub transfers_are_acknowledged_or_poor : (bank : BankState) (version : Text) (p : Packet) (ack : Text) → IfErr (bank_acknowledged bank version p ack) (λ refusal. refusal ≡ Poor)
unfolding bank_acknowledged
transfers_are_acknowledged_or_poor bank version p ack =
    either_or_poor (same_text ack success) _ _ tt (transfers_time_out_or_poor bank version p)
