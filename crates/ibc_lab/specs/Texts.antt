-- Which texts of a script have which form.
use Rattle.std.specs.Prelude.{◌≡◌, ℕ, codes, Bool, true, false, ◌&&◌, ◌||◌, not, nat_le, nat_lt, ◌==◌, List, [], ◌∷◌, length, slice_index, is_some, is_ok}
use Rattle.std.specs.Borrow.{Bor}
use Rattle.std.specs.List.{slice_split}
use Rattle.std.specs.Str.{bytes_eq}
use Rattle.std.specs.Ordering.{nat_cmp, match_ordering}
use Rattle.std.specs.Cmp.Lexicographic.{slice_cmp}
use Rattle.base64.specs.Engines.{standard}
use Rattle.base64.specs.GeneralPurpose.{decode_of}
use Rattle.ibc_ids.specs.Texts.{Text}
use Rattle.ibc_ids.specs.Names.{is_made_of, is_port, is_client, is_connection, is_channel, is_user, is_receiver, is_memo, is_version, is_base_denom, is_denom, is_slash}
use Rattle.ibc_script.specs.ChainNames.{is_chain_name}
use Rattle.ibc_lab.specs.declared.text_form.TextForm.{TextForm}
use Rattle.ibc_lab.specs.declared.text_form.TextForm.TheVariants as form
use Rattle.ibc_lab.specs.Words.{kind_of}

-- ---- slashes

-- no slash stands in the text
abbrev pub IsOnePart : Text → Type 0
IsOnePart text = slice_split is_slash text ≡ text ∷ []

-- what stands before the first slash, and what stands behind it
abbrev pub IsSplitAtSlash : Text → Bor Text × Bor Text → Type 0
IsSplitAtSlash text = λ parts. slice_split is_slash text ≡ parts.0.now ∷ slice_split is_slash parts.1.now

-- ---- numbers

abbrev pub is_digit : ℕ → Bool
is_digit c = nat_le 48 c && nat_le c 57

abbrev pub is_at_most : Text → Text → Bool
is_at_most text most = match_ordering (slice_cmp nat_cmp text most) true true false

-- several digits, of which the first is 0
abbrev pub has_leading_zero : Text → Bool
has_leading_zero digits = nat_lt 1 (length digits) && (slice_index digits 0 == 48)

-- fewer digits, or as many that aren't above in byte order
abbrev pub is_not_above : Text → Text → Bool
is_not_above most digits = nat_lt (length digits) (length most) || is_at_most digits most

-- decimal digits without leading zeros, of a number that is at most the one whose digits come first
abbrev pub is_decimal_to : Text → Text → Bool
is_decimal_to most text = is_made_of is_digit 1 (length most) text && not (has_leading_zero text) && is_not_above most text

-- 2^128 - 1
abbrev pub most_amount : Text
most_amount = codes "340282366920938463463374607431768211455"

-- 2^64 - 1
abbrev pub most_sequence : Text
most_sequence = codes "18446744073709551615"

-- ---- paths (ICS 24, "Path-space"), by what stands between their slashes

abbrev pub is_counter : Text → Bool
is_counter name =
    bytes_eq name (codes "nextClientSequence") || bytes_eq name (codes "nextConnectionSequence")
    || bytes_eq name (codes "nextChannelSequence")

abbrev pub is_record_kind : Text → Bool
is_record_kind kind =
    bytes_eq kind (codes "channelEnds") || bytes_eq kind (codes "nextSequenceSend")
    || bytes_eq kind (codes "nextSequenceRecv") || bytes_eq kind (codes "nextSequenceAck")

abbrev pub is_packet_kind : Text → Bool
is_packet_kind kind =
    bytes_eq kind (codes "commitments") || bytes_eq kind (codes "receipts") || bytes_eq kind (codes "acks")

-- the last part of a path is a sequence
abbrev pub is_last_sequence : List Text → Bool
is_last_sequence [] = false
is_last_sequence (sequence ∷ []) = is_decimal_to most_sequence sequence
is_last_sequence (sequence ∷ part ∷ parts) = false

-- KIND/ports/PORT/channels/CHANNEL, or the same and /sequences/SEQUENCE
abbrev pub after_channel : Text → List Text → Bool
after_channel kind [] = is_record_kind kind
after_channel kind (word ∷ rest) = is_last_sequence rest && is_packet_kind kind && bytes_eq word (codes "sequences")

abbrev pub after_channels : Text → List Text → Bool
after_channels kind [] = false
after_channels kind (channel ∷ rest) = after_channel kind rest && is_channel channel

-- clients/CLIENT/clientState, or what begins with KIND/ports/PORT/channels
abbrev pub after_third : Text → Text → Text → List Text → Bool
after_third kind second third [] =
    bytes_eq kind (codes "clients") && is_client second && bytes_eq third (codes "clientState")
after_third kind second third (fourth ∷ rest) =
    after_channels kind rest && bytes_eq second (codes "ports") && is_port third && bytes_eq fourth (codes "channels")

-- connections/CONNECTION, or something longer
abbrev pub after_second : Text → Text → List Text → Bool
after_second kind second [] = bytes_eq kind (codes "connections") && is_connection second
after_second kind second (third ∷ rest) = after_third kind second third rest

abbrev pub after_kind : Text → List Text → Bool
after_kind kind [] = is_counter kind
after_kind kind (second ∷ rest) = after_second kind second rest

abbrev pub after_start : List Text → Bool
after_start [] = false
after_start (kind ∷ rest) = after_kind kind rest

abbrev pub is_path : Text → Bool
is_path text = after_start (slice_split is_slash text)

-- ---- all forms

abbrev pub is_order : Text → Bool
is_order text = bytes_eq text (codes "ORDERED") || bytes_eq text (codes "UNORDERED")

abbrev pub is_application : Text → Bool
is_application text =
    bytes_eq text (codes "note") || bytes_eq text (codes "transfer") || bytes_eq text (codes "transfer2")

abbrev pub text_fits : TextForm → Text → Bool
text_fits form.Amount text = is_decimal_to most_amount text
text_fits form.Application text = is_application text
text_fits form.BaseDenom text = is_base_denom text
text_fits form.Chain text = is_chain_name text
text_fits form.Channel text = is_channel text
text_fits form.Client text = is_client text
text_fits form.Connection text = is_connection text
text_fits form.Denom text = is_denom text
text_fits form.Kind text = is_some (kind_of text)
text_fits form.Memo text = is_memo text
text_fits form.Order text = is_order text
text_fits form.Path text = is_path text
text_fits form.Port text = is_port text
text_fits form.Receiver text = is_receiver text
text_fits form.User text = is_user text
text_fits form.Version text = is_version text

-- base64 with the standard alphabet and padding (RFC 4648)
unfoldable pub is_base64 : Text → Bool
is_base64 text = is_ok (decode_of standard text)
