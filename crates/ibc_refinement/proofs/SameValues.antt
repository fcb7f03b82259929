-- Two plain values are the same just where the test says so.
use Rattle.std.proofs.Common.{◌≡◌, ℕ, true, eqb, refl, ap, Option, Some, None, eqb-true, eq-eqb}
use Rattle.std.proofs.lemmas.Bool.{and_from, false≢true}
use Rattle.ibc_ids.specs.Texts.{Text}
use Rattle.ibc_ids.proofs.Texts.{text_same, same_text_itself}
use Rattle.ibc_wire.specs.Spelling.{connection_state_number, channel_state_number, order_number}
use Rattle.ibc_machine.proofs.SameValues.{same_client_is, same_connection_is, same_channel_is, same_commitment_is}
use Rattle.ibc_machine.specs.ics24.Values.{Value, ClientIs, ConnectionIs, ChannelIs, NumberIs, CommitmentIs, ReceiptIs, AckIs, same_optional, same_value}

pub value_same : (a b : Option Value) → same_value a b ≡ true → a ≡ b
value_same (Some (ClientIs a)) (Some (ClientIs b)) e = ap (λ x. Some (ClientIs x)) (same_client_is a b e)
value_same (Some (ConnectionIs a)) (Some (ConnectionIs b)) e = ap (λ x. Some (ConnectionIs x)) (same_connection_is a b e)
value_same (Some (ChannelIs a)) (Some (ChannelIs b)) e = ap (λ x. Some (ChannelIs x)) (same_channel_is a b e)
value_same (Some (NumberIs a)) (Some (NumberIs b)) e = ap (λ x. Some (NumberIs x)) (eqb-true a b e)
value_same (Some (CommitmentIs a)) (Some (CommitmentIs b)) e = ap (λ x. Some (CommitmentIs x)) (same_commitment_is a b e)
value_same (Some ReceiptIs) (Some ReceiptIs) e = refl
value_same (Some (AckIs a)) (Some (AckIs b)) e = ap (λ x. Some (AckIs x)) (text_same a b e)
value_same None None e = refl
value_same a b e = absurd (false≢true e)

optional_itself : (a : Option Text) → same_optional a a ≡ true
optional_itself None = refl
optional_itself (Some x) = same_text_itself x

number_itself : (n : ℕ) → eqb n n ≡ true
number_itself n = eq-eqb n n refl

pub value_itself : (a : Option Value) → same_value a a ≡ true
value_itself None = refl
value_itself (Some (ClientIs a)) = and_from _ _ (number_itself a.chain) (number_itself a.latest)
value_itself (Some (ConnectionIs a)) =
    and_from _ _ (and_from _ _ (and_from _ _ (number_itself (connection_state_number a.state)) (same_text_itself a.client)) (same_text_itself a.peer_client)) (optional_itself a.peer_connection)
value_itself (Some (ChannelIs a)) =
    and_from _ _ (and_from _ _ (and_from _ _ (and_from _ _ (and_from _ _ (number_itself (channel_state_number a.state)) (number_itself (order_number a.order)))
    (same_text_itself a.peer_port)) (optional_itself a.peer_channel)) (same_text_itself a.connection)) (same_text_itself a.version)
value_itself (Some (NumberIs n)) = number_itself n
value_itself (Some (CommitmentIs a)) = and_from _ _ (and_from _ _ (same_text_itself a.payload) (number_itself a.timeout_height)) (number_itself a.timeout_time)
value_itself (Some ReceiptIs) = refl
value_itself (Some (AckIs a)) = same_text_itself a
