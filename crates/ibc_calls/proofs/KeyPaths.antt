-- The path of a key is ASCII, and so UTF-8.
use Rattle.std.proofs.Common.{◌≡◌, ℕ, ◌^◌, Bool, true, ◌&&◌, nat_lt, codes, [], ◌∷◌, ◌++◌, refl, subst}
use Rattle.std.specs.List.{list_all}
use Rattle.std.specs.Fmt.{decimal}
use Rattle.std.specs.Str.{IsAscii, IsUtf8}
use Rattle.std.proofs.lemmas.Bool.{and_parts, ltb-true}
use Rattle.std.proofs.lemmas.Fmt.{IsAscii-decimal}
use Rattle.std.proofs.lemmas.Str.{IsAscii-append, IsUtf8-from_ascii}
use Rattle.std.proofs.lemmas.Str.Ascii.{IsAscii-nil, IsAscii-cons}
use Rattle.ibc_ids.specs.Texts.{Text}
use Rattle.ibc_ids.specs.Names.{is_port, is_channel}
use Rattle.ibc_ids.specs.Paths.{channel_path, sequence_path, path, is_key}
use Rattle.ibc_ids.specs.declared.key.Key.{Key}
use Rattle.ibc_ids.specs.declared.key.Key.TheVariants as key
use Rattle.ibc_ids.proofs.Ascii.{ports, clients, connections, channels}
use Rattle.ibc_calls.specs.Views.{HasPath}

abbrev is_plain : Text → Bool
is_plain = list_all (λ c. nat_lt c 128)

plain : (text : Text) → is_plain text ≡ true → IsAscii text
plain [] h = IsAscii-nil
plain (x ∷ xs) h =
    let parts = and_parts (nat_lt x 128) (is_plain xs) h in IsAscii-cons x xs (ltb-true x 128 parts.0) (plain xs parts.1)

before : (front back : Text) → is_plain front ≡ true → IsAscii back → IsAscii (front ++ back)
before front back h b = IsAscii-append front back (plain front h) b

behind : (front back : Text) → IsAscii front → is_plain back ≡ true → IsAscii (front ++ back)
behind front back f h = IsAscii-append front back f (plain back h)

of_channel : (kind port channel : Text) → is_plain kind ≡ true → (is_port port && is_channel channel) ≡ true → IsAscii (kind ++ channel_path port channel)
of_channel kind port channel h names =
    let parts = and_parts (is_port port) (is_channel channel) names in
    let to_port = before (codes "/ports/") port refl (ports port parts.0).0 in
    let to_channel = behind (codes "/ports/" ++ port) (codes "/channels/") to_port refl in
    before kind (channel_path port channel) h (IsAscii-append (codes "/ports/" ++ port ++ codes "/channels/") channel to_channel (channels channel parts.1).0)

of_sequence : (kind port channel : Text) (n : ℕ) → is_plain kind ≡ true → (is_port port && is_channel channel && nat_lt n (2 ^ 64)) ≡ true → IsAscii (kind ++ sequence_path port channel n)
of_sequence kind port channel n h names =
    let parts = and_parts (is_port port && is_channel channel) (nat_lt n (2 ^ 64)) names in
    let to_channel = of_channel [] port channel refl parts.0 in
    let to_sequence = behind (channel_path port channel) (codes "/sequences/") to_channel refl in
    let whole = IsAscii-append (channel_path port channel ++ codes "/sequences/") (decimal n) to_sequence (IsAscii-decimal n (ltb-true n (2 ^ 64) parts.1)) in
    before kind (sequence_path port channel n) h whole

are_ascii : (k : Key) → is_key k ≡ true → IsAscii (path k)
are_ascii (key.ClientState id) h = behind (codes "clients/" ++ id) (codes "/clientState") (before (codes "clients/") id refl (clients id h).0) refl
are_ascii (key.Connection id) h = before (codes "connections/") id refl (connections id h).0
are_ascii (key.ChannelEnd port channel) h = of_channel (codes "channelEnds") port channel refl h
are_ascii (key.NextSequenceSend port channel) h = of_channel (codes "nextSequenceSend") port channel refl h
are_ascii (key.NextSequenceRecv port channel) h = of_channel (codes "nextSequenceRecv") port channel refl h
are_ascii (key.NextSequenceAck port channel) h = of_channel (codes "nextSequenceAck") port channel refl h
are_ascii (key.Commitment port channel n) h = of_sequence (codes "commitments") port channel n refl h
are_ascii (key.Receipt port channel n) h = of_sequence (codes "receipts") port channel n refl h
are_ascii (key.Acknowledgement port channel n) h = of_sequence (codes "acks") port channel n refl h
are_ascii key.NextClientSequence h = plain (codes "nextClientSequence") refl
are_ascii key.NextConnectionSequence h = plain (codes "nextConnectionSequence") refl
are_ascii key.NextChannelSequence h = plain (codes "nextChannelSequence") refl

-- bytes that are no UTF-8 are the path of no key
pub none_has : (bytes : Text) → (IsUtf8 bytes → ⊥) → (k : Key) → HasPath bytes k → ⊥
none_has bytes is_none k h = is_none (subst IsUtf8 h.1 (IsUtf8-from_ascii (path k) (are_ascii k h.0)))
