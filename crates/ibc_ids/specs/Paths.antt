-- The path of a key (ICS 24, "Path-space"), and the identifiers that a chain gives.
use Rattle.std.specs.Prelude.{◌≡◌, ◌≢◌, ◌<◌, ℕ, codes, List, [], ◌∷◌, ◌++◌, ◌^◌, ◌&&◌, Bool, true, false, nat_lt, IsTrue, Result, Ok, Err}
use Rattle.std.specs.Prelude.{Option, MatchOption, String, string_bytes, IsOkUnless}
use Rattle.std.specs.declared.alloc.Global.{Global}
use Rattle.ibc_ids.specs.Names.{is_client, is_connection, is_channel, is_port}
use Rattle.std.specs.Fmt.{decimal}
use Rattle.ibc_ids.specs.Texts.{Text}
use Rattle.ibc_ids.specs.declared.key.Key.{Key}
use Rattle.ibc_ids.specs.declared.key.Key.TheVariants as key
use Rattle.ibc_ids.specs.declared.refusal.Refusal.{Refusal}
use Rattle.ibc_ids.specs.declared.refusal.Refusal.TheVariants.{BadName, NoMemory}
use Rattle.ibc_ids.specs.declared.account.Account.{Account}
use Rattle.ibc_ids.specs.declared.account.Account.TheVariants.{User, Escrow}

-- where a channel's records stand below their kind
abbrev pub channel_path : Text → Text → Text
channel_path port channel = codes "/ports/" ++ port ++ codes "/channels/" ++ channel

abbrev pub sequence_path : Text → Text → ℕ → Text
sequence_path port channel n = channel_path port channel ++ codes "/sequences/" ++ decimal n

abbrev pub path : Key → Text
path (key.ClientState id) = codes "clients/" ++ id ++ codes "/clientState"
path (key.Connection id) = codes "connections/" ++ id
path (key.ChannelEnd port channel) = codes "channelEnds" ++ channel_path port channel
path (key.NextSequenceSend port channel) = codes "nextSequenceSend" ++ channel_path port channel
path (key.NextSequenceRecv port channel) = codes "nextSequenceRecv" ++ channel_path port channel
path (key.NextSequenceAck port channel) = codes "nextSequenceAck" ++ channel_path port channel
path (key.Commitment port channel n) = codes "commitments" ++ sequence_path port channel n
path (key.Receipt port channel n) = codes "receipts" ++ sequence_path port channel n
path (key.Acknowledgement port channel n) = codes "acks" ++ sequence_path port channel n
path key.NextClientSequence = codes "nextClientSequence"
path key.NextConnectionSequence = codes "nextConnectionSequence"
path key.NextChannelSequence = codes "nextChannelSequence"

-- the identifiers that a chain gives, by a number that it counts up
abbrev pub nth_client : ℕ → Text
nth_client n = codes "inprocess-" ++ decimal n

abbrev pub nth_connection : ℕ → Text
nth_connection n = codes "connection-" ++ decimal n

abbrev pub nth_channel : ℕ → Text
nth_channel n = codes "channel-" ++ decimal n

-- an account as it is printed: an escrow's can't be a user's name (ICS 20)
abbrev pub account_text : Account → Text
account_text (User name) = name
account_text (Escrow channel) = codes "escrow/transfer/" ++ channel

-- the names in a key are names, and its number is a sequence
abbrev pub is_key : Key → Bool
is_key (key.ClientState id) = is_client id
is_key (key.Connection id) = is_connection id
is_key (key.ChannelEnd port channel) = is_port port && is_channel channel
is_key (key.NextSequenceSend port channel) = is_port port && is_channel channel
is_key (key.NextSequenceRecv port channel) = is_port port && is_channel channel
is_key (key.NextSequenceAck port channel) = is_port port && is_channel channel
is_key (key.Commitment port channel n) = is_port port && is_channel channel && nat_lt n (2 ^ 64)
is_key (key.Receipt port channel n) = is_port port && is_channel channel && nat_lt n (2 ^ 64)
is_key (key.Acknowledgement port channel n) = is_port port && is_channel channel && nat_lt n (2 ^ 64)
is_key key.NextClientSequence = true
is_key key.NextConnectionSequence = true
is_key key.NextChannelSequence = true

-- different keys have different paths
abbrev pub DifferentPaths : Type 0
DifferentPaths = (a b : Key) → IsTrue (is_key a) → IsTrue (is_key b) → path a ≡ path b → a ≡ b

-- ---- a path in parts, between its slashes

abbrev pub channel_parts : Text → Text → List Text → List Text
channel_parts port channel rest = codes "ports" ∷ port ∷ codes "channels" ∷ channel ∷ rest

abbrev pub sequence_parts : Text → Text → ℕ → List Text
sequence_parts port channel n = channel_parts port channel (codes "sequences" ∷ decimal n ∷ [])

abbrev pub parts : Key → List Text
parts (key.ClientState id) = codes "clients" ∷ id ∷ codes "clientState" ∷ []
parts (key.Connection id) = codes "connections" ∷ id ∷ []
parts (key.ChannelEnd port channel) = codes "channelEnds" ∷ channel_parts port channel []
parts (key.NextSequenceSend port channel) = codes "nextSequenceSend" ∷ channel_parts port channel []
parts (key.NextSequenceRecv port channel) = codes "nextSequenceRecv" ∷ channel_parts port channel []
parts (key.NextSequenceAck port channel) = codes "nextSequenceAck" ∷ channel_parts port channel []
parts (key.Commitment port channel n) = codes "commitments" ∷ sequence_parts port channel n
parts (key.Receipt port channel n) = codes "receipts" ∷ sequence_parts port channel n
parts (key.Acknowledgement port channel n) = codes "acks" ∷ sequence_parts port channel n
parts key.NextClientSequence = codes "nextClientSequence" ∷ []
parts key.NextConnectionSequence = codes "nextConnectionSequence" ∷ []
parts key.NextChannelSequence = codes "nextChannelSequence" ∷ []

-- the key is one, and its path has these parts
abbrev pub HasParts : List Text → Key → Type 0
HasParts texts k = (parts k ≡ texts) × IsTrue (is_key k)

-- names are refused as `BadName` exactly where one hasn't its form, and otherwise for want of memory
abbrev pub IsNameRefusal : Bool → Refusal → Type 0
IsNameRefusal form BadName = form ≡ false
IsNameRefusal form NoMemory = form ≡ true
IsNameRefusal form _ = ⊥

-- what is answered for a path in parts: its key, or `BadName` where no key has these parts, or, where one has them,
-- `NoMemory`
abbrev pub IsKeyOf : List Text → Result Key Refusal → Type 0
IsKeyOf texts (Ok k) = HasParts texts k
IsKeyOf texts (Err BadName) = (k : Key) → ¬ HasParts texts k
IsKeyOf texts (Err NoMemory) = (k : Key) × HasParts texts k
IsKeyOf texts (Err _) = ⊥

-- ---- what is made and read of paths

-- a text is the path of a channel's record below its kind
abbrev pub IsChannelPath : Text → Text → Text → String Global → Type 0
IsChannelPath kind port channel text = string_bytes text ≡ kind ++ channel_path port channel

-- a text is the path of a packet's record below its kind
abbrev pub IsSequencePath : Text → Text → Text → ℕ → String Global → Type 0
IsSequencePath kind port channel n text = string_bytes text ≡ kind ++ sequence_path port channel n

-- the path of a key is read, unless memory is missing
abbrev pub IsReadIfPath : {X : Type 0} → Result X Refusal → Text → Type 0
IsReadIfPath result text = (k : Key) → IsTrue (is_key k) → path k ≡ text → IsOkUnless result NoMemory

-- the parts of a packet's record below its kind, whose number may be any text
abbrev pub sequence_texts : Text → Text → Text → Text → List Text
sequence_texts kind port channel sequence = kind ∷ channel_parts port channel (codes "sequences" ∷ sequence ∷ [])

-- the texts are a port's and a channel's names
abbrev pub AreNamesOf : Text → Text → Text → Text → Type 0
AreNamesOf port channel first second = (first ≡ port) × (second ≡ channel) × IsTrue (is_port port && is_channel channel)

-- the sequence that the text is, in decimal, or none where it is none
abbrev pub IsSequenceOf : Text → Option ℕ → Type 0
IsSequenceOf text result = MatchOption result ((n : ℕ) → n < 2 ^ 64 → text ≢ decimal n) (λ n. text ≡ decimal n)
