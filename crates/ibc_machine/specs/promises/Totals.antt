-- What is escrowed, present and under way between two peers (ICS 20, "Correctness").
use Rattle.std.specs.Prelude.{ℕ, Bool, false, ◌&&◌, ◌++◌, ◌^◌, not, nat_le, nat_lt, [], length, Option, Some, Ok, slice_get, if◌then◌else◌}
use Rattle.std.specs.List.{sum_by}
use Rattle.std.specs.Option.{option_map, option_map_or, option_and_then}
use Rattle.std.specs.Ordering.{nat_cmp}
use Rattle.ibc_ids.specs.Texts.{Text, same_text}
use Rattle.ibc_ids.specs.Maps.{at}
use Rattle.ibc_ids.specs.Names.{hop}
use Rattle.ibc_ids.specs.declared.refusal.Refusal.TheVariants.{UnknownChain, UnknownChannel, WrongState, WrongPeer, TooLarge, BadMessage}
use Rattle.ibc_machine.specs.chain.Records.{Core, MachineChain, Channel, Commitment, client_at, channel_at}
use Rattle.ibc_machine.specs.chain.Checks.{Checked, require, expect, ◌>>=◌, ◌>>◌}
use Rattle.ibc_machine.specs.ics04.Channels.{is_established, client_of, peer_channel_of}
use Rattle.ibc_machine.specs.ics20.TokenData.{amount_of, tokens_of, success}
use Rattle.ibc_machine.specs.ics20.Bank.{Balances, balance, supply, escrow}
use Rattle.ibc_machine.specs.ics20.Transfers.{transfer_port, came_over}
use Rattle.ibc_machine.specs.chain.Machine.{World}
use Rattle.ibc_machine.specs.promises.Histories.{End}
use Rattle.ibc_machine.specs.promises.Peers.{records_of, end_at}

-- the sequence was received there, and acknowledged with success
abbrev pub has_succeeded : Channel → ℕ → Bool
has_succeeded theirs n = option_map_or (λ ack. same_text ack success) (at nat_cmp n theirs.acks) false

abbrev pub amount_under_way : Text → Text → Channel → ℕ × Commitment → ℕ
amount_under_way version denom theirs entry =
    if has_succeeded theirs entry.0 then 0 else amount_of denom (tokens_of version entry.1)

abbrev pub flight_between : Text → Option Channel → Option Channel → ℕ
flight_between denom (Some mine) (Some theirs) =
    sum_by (amount_under_way mine.end.version denom theirs) mine.commitments
flight_between denom _ _ = 0

-- the sum over the commitments that stand at e and that f hasn't received with success
abbrev pub flight : World → End → End → Text → ℕ
flight world e f denom = flight_between denom (end_at world e) (end_at world f)

-- the denomination with a hop of the end before it
abbrev pub denom_with_hop : End → Text → Text
denom_with_hop f denom = hop f.port f.channel ++ denom

abbrev pub balances_of : World → ℕ → Balances
balances_of world chain = option_map_or (λ (c : MachineChain). c.records.apps.balances) (slice_get world chain) []

-- all that the peer's chain holds of the denomination as it came over the peer's end f
abbrev pub vouchers : World → End → Text → ℕ
vouchers world f denom = supply (balances_of world f.chain) (denom_with_hop f denom)

abbrev pub escrow_balance : World → End → Text → ℕ
escrow_balance world e denom = balance (balances_of world e.chain) (escrow e.channel) denom

-- ---- the totals of a channel of port `transfer`

-- the escrow of a denomination, its vouchers at the peer, and what is under way there and back
pub record Totals : Type 0 where
  pub escrow : ℕ
  pub vouchers : ℕ
  pub out : ℕ
  pub back : ℕ

-- the end that an end's record names as its peer, on the chain that its client tracks
abbrev pub named_peer : Core → Channel → Option End
named_peer core mine =
    option_map (λ client. record {
      chain = client.state.chain;
      port = mine.end.peer_port;
      channel = peer_channel_of mine.end;
    }) (client_at core (client_of core mine.end.connection))

-- a denomination that would be longer than 256 bytes with its hop is nowhere
abbrev pub totals_between : World → End → End → Text → Totals
totals_between world e f denom =
    let fits = nat_le (length (denom_with_hop f denom)) 256 in
    record {
      escrow = escrow_balance world e denom;
      vouchers = if fits then vouchers world f denom else 0;
      out = flight world e f denom;
      back = if fits then flight world f e (denom_with_hop f denom) else 0;
    }

abbrev pub are_bounded : Totals → Bool
are_bounded t =
    nat_lt t.escrow (2 ^ 128) && nat_lt t.vouchers (2 ^ 128) && nat_lt t.out (2 ^ 128) && nat_lt t.back (2 ^ 128)

-- the peer end that is named, and there
abbrev pub peer_at : World → Core → Channel → Option End
peer_at world core mine =
    option_and_then (λ f. option_map (λ theirs. f) (end_at world f)) (named_peer core mine)

-- the totals of a channel, or the first refusal
unfoldable pub totals : World → ℕ → Text → Text → Checked Totals
totals world chain channel denom = do
  let e : End = record { chain = chain; port = transfer_port; channel = channel }
  records ← expect (records_of world chain) UnknownChain
  mine ← expect (channel_at records.core transfer_port channel) UnknownChannel
  require (is_established mine) WrongState
  require (not (came_over transfer_port channel denom)) BadMessage
  f ← expect (peer_at world records.core mine) WrongPeer
  require (are_bounded (totals_between world e f denom)) TooLarge
  Ok (totals_between world e f denom)
