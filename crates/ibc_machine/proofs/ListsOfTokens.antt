-- A list of tokens in one packet: 1 to 8, whose denominations rise, with data of 1,024 bytes at most.
use Rattle.std.proofs.Common.{◌≡◌, ℕ, ◌^◌, ◌-◌, ◌+◌, codes, ◌∷◌, ◌++◌, List, [], refl, map, replicate, length, Some, None, Option}
use Rattle.std.specs.List.{range_with_len}
use Rattle.ibc_ids.specs.Texts.{Text}
use Rattle.ibc_ids.specs.declared.refusal.Refusal.TheVariants.{UnknownChannel, TooLarge, Poor, BadMessage}
use Rattle.ibc_wire.specs.declared.token.Token.{Token}
use Rattle.ibc_machine.specs.declared.event.Event.{Event}
use Rattle.ibc_machine.specs.declared.reply.Reply.{Reply}
use Rattle.ibc_machine.specs.chain.Genesis.{start}
use Rattle.ibc_machine.specs.chain.Machine.{World}
use Rattle.ibc_machine.specs.ics20.TokenData.{Data, data_text, data_of}
use Rattle.ibc_machine.proofs.Computing.{computing}
use Rattle.ibc_machine.proofs.Scripts.{a, alice, bob, atom, gold, a_and_b, for_tokens, for_several, replies, no, sent}
use Rattle.ibc_machine.proofs.Openings.{joined_for}
use Rattle.ibc_machine.proofs.PacketScripts.{tokens, send_many, tokens_data}

abbrev token : ℕ → Text → Token
token amount denom = record { denom = denom; amount = amount }

-- a denomination of so many letters and a last one
abbrev named : ℕ → ℕ → Text
named n letter = replicate n 97 ++ letter ∷ []

-- one piece each of denominations whose last letters are b, c and on
abbrev pieces : ℕ → List Token
pieces n = map (λ letter. token 1 (named 2 letter)) (range_with_len 98 n)

abbrev joined : World
joined = joined_for for_several

abbrev send_list : List Token → Event
send_list tokens = send_many a alice tokens bob

abbrev replies_to : World → List (List Token) → List Reply
replies_to world lists = replies a_and_b world (map send_list lists)

-- what has the form is judged further: alice holds no such tokens
one_to_eight : replies_to joined ([] ∷ pieces 1 ∷ pieces 8 ∷ pieces 9 ∷ [])
    ≡ no BadMessage ∷ no Poor ∷ no Poor ∷ no BadMessage ∷ []
unfolding computing
one_to_eight = refl

-- in rising order, and none twice
they_rise : replies_to joined
    ((token 1 gold ∷ token 1 atom ∷ []) ∷ (token 1 atom ∷ token 1 atom ∷ [])
    ∷ (token 1 atom ∷ token 1 gold ∷ token 1 atom ∷ [])
    ∷ (token 1 atom ∷ []) ∷ [])
    ≡ no BadMessage ∷ no BadMessage ∷ no BadMessage ∷ sent 1 ∷ []
unfolding computing
they_rise = refl

-- form comes before all else, also where there is no such channel
form_first : replies a_and_b (start a_and_b) (send_list (pieces 9) ∷ send_list (pieces 8) ∷ [])
    ≡ no BadMessage ∷ no UnknownChannel ∷ []
unfolding computing
form_first = refl

no_amount_of_0 : replies_to joined ((token 0 atom ∷ []) ∷ (token 1 atom ∷ token 0 gold ∷ []) ∷ [])
    ≡ no TooLarge ∷ no TooLarge ∷ []
unfolding computing
no_amount_of_0 = refl

-- ---- as much data as there can be: eight amounts of 39 digits, and so many denominations of 59 letters before others
-- of 58

abbrev most : ℕ
most = 2 ^ 128 - 1

abbrev eight_with : ℕ → List Token
eight_with longer =
    map (λ letter. token most (named 58 letter)) (range_with_len 98 longer)
    ++ map (λ letter. token most (named 57 letter)) (range_with_len (98 + longer) (8 - longer))

their_sizes : map (λ longer. length (data_text for_several.version (tokens_data alice (eight_with longer) bob)))
    (0 ∷ 2 ∷ 3 ∷ []) ≡ 1022 ∷ 1024 ∷ 1025 ∷ []
unfolding computing
their_sizes = refl

not_over_1024_bytes : replies_to joined (eight_with 0 ∷ eight_with 2 ∷ eight_with 3 ∷ [])
    ≡ no Poor ∷ no Poor ∷ no TooLarge ∷ []
unfolding computing
not_over_1024_bytes = refl

-- ---- their one spelling

two_tokens : data_text for_several.version (tokens_data alice (token 100 atom ∷ token 7 gold ∷ []) bob)
    ≡ codes "{\"receiver\":\"bob\",\"sender\":\"alice\",\"tokens\":[{\"amount\":\"100\",\"denom\":\"atom\"},{\"amount\":\"7\",\"denom\":\"gold\"}]}"
unfolding computing
two_tokens = refl

their_length : length (data_text for_several.version (tokens_data alice (token 100 atom ∷ token 7 gold ∷ []) bob)) ≡ 108
unfolding computing
their_length = refl

abbrev read : Text → Option Data
read = data_of for_several.version

they_are_read : read (codes "{\"memo\":\"tea\",\"receiver\":\"bob\",\"sender\":\"alice\",\"tokens\":[{\"amount\":\"100\",\"denom\":\"atom\"},{\"amount\":\"7\",\"denom\":\"gold\"}]}")
    ≡ Some (record (tokens_data alice (token 100 atom ∷ token 7 gold ∷ []) bob) { memo = codes "tea" })
unfolding computing
they_are_read = refl

-- another order, none, and the spelling of the other version
not_otherwise :
    read (codes "{\"receiver\":\"bob\",\"sender\":\"alice\",\"tokens\":[{\"amount\":\"7\",\"denom\":\"gold\"},{\"amount\":\"100\",\"denom\":\"atom\"}]}")
    ∷ read (codes "{\"receiver\":\"bob\",\"sender\":\"alice\",\"tokens\":[]}")
    ∷ read (codes "{\"amount\":\"100\",\"denom\":\"atom\",\"receiver\":\"bob\",\"sender\":\"alice\"}")
    ∷ data_of for_tokens.version (codes "{\"receiver\":\"bob\",\"sender\":\"alice\",\"tokens\":[{\"amount\":\"100\",\"denom\":\"atom\"}]}") ∷ []
    ≡ replicate 4 None
unfolding computing
not_otherwise = refl
