-- The data of a packet of tokens has one spelling; any other is bad data.
use Rattle.std.proofs.Common.{◌≡◌, ◌^◌, ◌-◌, codes, ◌∷◌, [], refl, map, replicate, length, Some, None, Option}
use Rattle.ibc_ids.specs.Texts.{Text}
use Rattle.ibc_machine.specs.ics20.TokenData.{Data, success, data_text, data_of}
use Rattle.ibc_machine.specs.ics20.Transfers.{receive_transfer}
use Rattle.ibc_machine.proofs.Computing.{computing}
use Rattle.ibc_machine.proofs.Scripts.{alice, bob, atom, for_tokens}
use Rattle.ibc_machine.proofs.PacketScripts.{there, token_data}

abbrev read : Text → Option Data
read = data_of for_tokens.version

a_transfer : data_text for_tokens.version (token_data alice 100 atom bob)
    ≡ codes "{\"amount\":\"100\",\"denom\":\"atom\",\"receiver\":\"bob\",\"sender\":\"alice\"}"
unfolding computing
a_transfer = refl

its_length : length (data_text for_tokens.version (token_data alice 100 atom bob)) ≡ 65
unfolding computing
its_length = refl

it_is_read : read (codes "{\"amount\":\"100\",\"denom\":\"atom\",\"receiver\":\"bob\",\"sender\":\"alice\"}")
    ≡ Some (token_data alice 100 atom bob)
unfolding computing
it_is_read = refl

with_a_memo : read (codes "{\"amount\":\"100\",\"denom\":\"atom\",\"memo\":\"for tea\",\"receiver\":\"bob\",\"sender\":\"alice\"}")
    ≡ Some (record (token_data alice 100 atom bob) { memo = codes "for tea" })
unfolding computing
with_a_memo = refl

the_greatest_amount : read (codes "{\"amount\":\"340282366920938463463374607431768211455\",\"denom\":\"atom\",\"receiver\":\"bob\",\"sender\":\"alice\"}")
    ≡ Some (token_data alice (2 ^ 128 - 1) atom bob)
unfolding computing
the_greatest_amount = refl

-- a receiver need not be a user, and a sender must be one
a_receiver_elsewhere : read (codes "{\"amount\":\"100\",\"denom\":\"atom\",\"receiver\":\"escrow/x\",\"sender\":\"alice\"}") ≡ Some (token_data alice 100 atom (codes "escrow/x"))
unfolding computing
a_receiver_elsewhere = refl

-- ---- bad data

-- amounts: leading zeros, 0, one more than 128 bits hold, none, a number of JSON
bad_amounts :
    map read (
    codes "{\"amount\":\"0100\",\"denom\":\"atom\",\"receiver\":\"bob\",\"sender\":\"alice\"}"
    ∷ codes "{\"amount\":\"0\",\"denom\":\"atom\",\"receiver\":\"bob\",\"sender\":\"alice\"}"
    ∷ codes "{\"amount\":\"340282366920938463463374607431768211456\",\"denom\":\"atom\",\"receiver\":\"bob\",\"sender\":\"alice\"}"
    ∷ codes "{\"amount\":\"\",\"denom\":\"atom\",\"receiver\":\"bob\",\"sender\":\"alice\"}"
    ∷ codes "{\"amount\":\"1e2\",\"denom\":\"atom\",\"receiver\":\"bob\",\"sender\":\"alice\"}"
    ∷ codes "{\"amount\":100,\"denom\":\"atom\",\"receiver\":\"bob\",\"sender\":\"alice\"}" ∷ [])
    ≡ replicate 6 None
unfolding computing
bad_amounts = refl

-- another order, a missing member, one more, blanks, an empty memo, escapes, bytes behind
bad_forms :
    map read (
    codes "{\"denom\":\"atom\",\"amount\":\"100\",\"receiver\":\"bob\",\"sender\":\"alice\"}"
    ∷ codes "{\"amount\":\"100\",\"denom\":\"atom\",\"receiver\":\"bob\"}"
    ∷ codes "{\"amount\":\"100\",\"denom\":\"atom\",\"receiver\":\"bob\",\"sender\":\"alice\",\"x\":\"y\"}"
    ∷ codes "{\"amount\": \"100\",\"denom\":\"atom\",\"receiver\":\"bob\",\"sender\":\"alice\"}"
    ∷ codes "{\"amount\":\"100\",\"denom\":\"atom\",\"memo\":\"\",\"receiver\":\"bob\",\"sender\":\"alice\"}"
    ∷ codes "{\"amount\":\"100\",\"denom\":\"atom\",\"receiver\":\"b\\u006fb\",\"sender\":\"alice\"}"
    ∷ codes "{\"amount\":\"100\",\"denom\":\"atom\",\"receiver\":\"bob\",\"sender\":\"alice\"} " ∷ codes "" ∷ codes "{}"
    ∷ [])
    ≡ replicate 9 None
unfolding computing
bad_forms = refl

-- names: half a hop, no receiver, a sender that is no user
bad_names :
    map read (
    codes "{\"amount\":\"100\",\"denom\":\"transfer/channel-0\",\"receiver\":\"bob\",\"sender\":\"alice\"}"
    ∷ codes "{\"amount\":\"100\",\"denom\":\"atom\",\"receiver\":\"\",\"sender\":\"alice\"}"
    ∷ codes "{\"amount\":\"100\",\"denom\":\"atom\",\"receiver\":\"bob\",\"sender\":\"escrow/x\"}" ∷ [])
    ≡ replicate 3 None
unfolding computing
bad_names = refl

-- ---- what a packet of bad data does
bad_data_is_acknowledged : (receive_transfer (λ denom. 0) [] for_tokens.version (record there { payload = codes "x" })).0 ≡ codes "{\"error\":\"bad data\"}"
unfolding computing
bad_data_is_acknowledged = refl

a_success : success ≡ codes "{\"result\":\"AQ==\"}"
a_success = refl

its_bytes : length success ≡ 17
its_bytes = refl
