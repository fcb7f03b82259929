-- How a measure of the balances changes where the tokens of a packet are sent, refunded or received.
use Rattle.std.proofs.Common.{◌≡◌, ℕ, ◌+◌, Bool, true, false, refl, subst, List, ◌++◌, length, Some, None, if◌then◌else◌, nat_le}
use Rattle.std.specs.List.{sum_by}
use Rattle.std.specs.Option.{option_and_then}
use Rattle.ibc_ids.specs.Texts.{Text}
use Rattle.ibc_ids.specs.Names.{hop}
use Rattle.ibc_wire.specs.declared.packet.Packet.{Packet}
use Rattle.ibc_wire.specs.declared.token.Token.{Token}
use Rattle.ibc_machine.specs.ics20.Bank.{Balances, supply, escrow, give, pay, into_escrow, out_of_escrow, mint, is_bounded}
use Rattle.ibc_machine.specs.ics20.Transfers.{transfer_port, came_over, each_token, send_token, refund_token, receive_token, without_hop, with_hop}
use Rattle.ibc_laws.proofs.basics.ListPlaces.{some_is}
use Rattle.ibc_machine.proofs.Measures.{Test, weigh, IsSorted, Moved, given, paid, moved_between, moved_each}

-- the amount, unless the denomination came over the channel and was burnt there
abbrev pub unless_burnt : Text → Text → Token → ℕ → ℕ
unless_burnt port channel token n = if came_over port channel token.denom then 0 else n

-- a sending: the user pays, and what isn't burnt goes into the escrow
pub sent_token : (test : Test) (channel user : Text) (token : Token) (b after : Balances) → IsSorted b
    → send_token channel user token b ≡ Some after
    → Moved test b after (weigh test user token) (unless_burnt transfer_port channel token (weigh test (escrow channel) token))
sent_token test channel user token b after sorted e = go (came_over transfer_port channel token.denom) e
  where
    go : (p : Bool) → (if p then pay user token b else into_escrow channel user token b) ≡ Some after
        → Moved test b after (weigh test user token) (if p then 0 else weigh test (escrow channel) token)
    go true e = paid test user token b after sorted e
    go false e = moved_between test user (escrow channel) token b after sorted e

-- a refund: the user gets it back, out of the escrow or minted again
pub refunded_token : (test : Test) (channel user : Text) (token : Token) (b after : Balances) → IsSorted b
    → refund_token channel user token b ≡ Some after
    → Moved test b after (unless_burnt transfer_port channel token (weigh test (escrow channel) token)) (weigh test user token)
refunded_token test channel user token b after sorted e = go (came_over transfer_port channel token.denom) e
  where
    go : (p : Bool) → (if p then Some (give user token b) else out_of_escrow channel user token b) ≡ Some after
        → Moved test b after (if p then 0 else weigh test (escrow channel) token) (weigh test user token)
    go true e = subst (λ z. Moved test b z 0 (weigh test user token)) (some_is refl e) (given test user token b sorted)
    go false e = moved_between test (escrow channel) user token b after sorted e

-- the token with the hop of the packet's destination before it, whatever its length
abbrev pub hopped_token : Packet → Token → Token
hopped_token p token = record token { denom = hop p.destination_port p.destination_channel ++ token.denom }

-- a receive: a token that comes home leaves the escrow, and another one is minted with a hop more
abbrev pub receive_out : Test → Packet → Token → ℕ
receive_out test p token =
    if came_over p.source_port p.source_channel token.denom
    then weigh test (escrow p.destination_channel) (without_hop p token) else 0

abbrev pub receive_gain : Test → Packet → Text → Token → ℕ
receive_gain test p user token =
    if came_over p.source_port p.source_channel token.denom
    then weigh test user (without_hop p token) else weigh test user (hopped_token p token)

pub received_token : (test : Test) (in_flight : Text → ℕ) (p : Packet) (user : Text) (token : Token) (b after : Balances) → IsSorted b
    → receive_token in_flight p user token b ≡ Some after
    → Moved test b after (receive_out test p token) (receive_gain test p user token)
received_token test in_flight p user token b after sorted e = go (came_over p.source_port p.source_channel token.denom) e
  where
    minted : (h : Token) → mint (in_flight h.denom) user h b ≡ Some after → Moved test b after 0 (weigh test user h)
    minted h e = bounded (is_bounded (supply b h.denom + h.amount) (in_flight h.denom)) e
      where
        bounded : (q : Bool) → (if q then Some (give user h b) else None) ≡ Some after → Moved test b after 0 (weigh test user h)
        bounded true e = subst (λ z. Moved test b z 0 (weigh test user h)) (some_is refl e) (given test user h b sorted)
        bounded false e = absurd (cc e)

    hopped : (q : Bool) → option_and_then (λ h. mint (in_flight h.denom) user h b) (if q then Some (hopped_token p token) else None) ≡ Some after
        → Moved test b after 0 (weigh test user (hopped_token p token))
    hopped true e = minted (hopped_token p token) e
    hopped false e = absurd (cc e)

    go : (q : Bool) → (if q then out_of_escrow p.destination_channel user (without_hop p token) b
        else option_and_then (λ h. mint (in_flight h.denom) user h b) (with_hop p token)) ≡ Some after
        → Moved test b after (if q then weigh test (escrow p.destination_channel) (without_hop p token) else 0)
        (if q then weigh test user (without_hop p token) else weigh test user (hopped_token p token))
    go true e = moved_between test (escrow p.destination_channel) user (without_hop p token) b after sorted e
    go false e = hopped (nat_le (length (hop p.destination_port p.destination_channel ++ token.denom)) 256) e

-- ---- lists

pub sent_tokens : (test : Test) (channel user : Text) (tokens : List Token) (b after : Balances) → IsSorted b
    → each_token (send_token channel user) tokens b ≡ Some after
    → Moved test b after (sum_by (weigh test user) tokens)
    (sum_by (λ token. unless_burnt transfer_port channel token (weigh test (escrow channel) token)) tokens)
sent_tokens test channel user = moved_each test (send_token channel user) (weigh test user)
    (λ token. unless_burnt transfer_port channel token (weigh test (escrow channel) token))
    (λ token b after sorted e. sent_token test channel user token b after sorted e)

pub refunded_tokens : (test : Test) (channel user : Text) (tokens : List Token) (b after : Balances) → IsSorted b
    → each_token (refund_token channel user) tokens b ≡ Some after
    → Moved test b after (sum_by (λ token. unless_burnt transfer_port channel token (weigh test (escrow channel) token)) tokens)
    (sum_by (weigh test user) tokens)
refunded_tokens test channel user = moved_each test (refund_token channel user)
    (λ token. unless_burnt transfer_port channel token (weigh test (escrow channel) token)) (weigh test user)
    (λ token b after sorted e. refunded_token test channel user token b after sorted e)

pub received_tokens : (test : Test) (in_flight : Text → ℕ) (p : Packet) (user : Text) (tokens : List Token) (b after : Balances) → IsSorted b
    → each_token (receive_token in_flight p user) tokens b ≡ Some after
    → Moved test b after (sum_by (receive_out test p) tokens) (sum_by (receive_gain test p user) tokens)
received_tokens test in_flight p user = moved_each test (receive_token in_flight p user) (receive_out test p) (receive_gain test p user)
    (λ token b after sorted e. received_token test in_flight p user token b after sorted e)
