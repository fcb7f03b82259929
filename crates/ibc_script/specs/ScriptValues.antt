-- Which script a JSON value is: the members of each step, and what each of them is.
use Rattle.std.specs.Prelude.{◌≡◌, ◌≢◌, ◌⊎◌, ◌<◌, ◌≤◌, ◌^◌, ℕ, min, Bool, true, false, ◌&&◌, codes, decimal, List, [], ◌∷◌, ◌++◌, length, slice_get, zip, Option, None, Some, option_map, option_and_then, IsTrue, IsUtf8, ⊤}
use Rattle.std.specs.List.{list_any}
use Rattle.std.specs.Option.{option_map_or}
use Rattle.std.specs.Str.{bytes_eq}
use Rattle.base64.specs.Engines.{standard}
use Rattle.base64.specs.GeneralPurpose.{encode_of, IsBytes}
use Rattle.serde_json.specs.Data.{Data, Items, no_items, item, Members, no_members, member}
use Rattle.serde_json.specs.Find.{as_array, as_number, as_object, as_str, as_u64, get}
use Rattle.serde_json.specs.Read.{read}
use Rattle.ibc_ids.specs.Names.{is_channel, is_client, is_connection, is_denom, is_memo, is_port, is_receiver, is_user, is_version}
use Rattle.ibc_ids.specs.Paths.{is_key, path}
use Rattle.ibc_ids.specs.Texts.{Text}
use Rattle.ibc_ids.specs.declared.key.Key.{Key}
use Rattle.ibc_machine.specs.chain.Genesis.{ChainState, GenesisState, Holding, genesis_state}
use Rattle.ibc_wire.specs.Kinds as wire
use Rattle.ibc_wire.specs.Tokens.{is_listed}
use Rattle.ibc_wire.specs.declared.records.Order.{Order}
use Rattle.ibc_wire.specs.declared.records.Order.TheVariants.{Unordered, Ordered}
use Rattle.ibc_wire.specs.declared.token.Token.{Token}
use Rattle.ibc_script.specs.ChainNames.{is_chain_name}
use Rattle.ibc_script.specs.EventKinds.{draft_kind}
use Rattle.ibc_script.specs.declared.application.Application.{Application}
use Rattle.ibc_script.specs.declared.application.Application.TheVariants.{Note, Transfer, TransferMany}
use Rattle.ibc_script.specs.declared.draft.ChannelDraft.{ChannelDraft}
use Rattle.ibc_script.specs.declared.draft.ChannelDraft.TheVariants as channel
use Rattle.ibc_script.specs.declared.draft.ClientDraft.{ClientDraft}
use Rattle.ibc_script.specs.declared.draft.ClientDraft.TheVariants as client
use Rattle.ibc_script.specs.declared.draft.ConnectionDraft.{ConnectionDraft}
use Rattle.ibc_script.specs.declared.draft.ConnectionDraft.TheVariants as connection
use Rattle.ibc_script.specs.declared.draft.Draft.{Draft}
use Rattle.ibc_script.specs.declared.draft.Draft.TheVariants as draft
use Rattle.ibc_script.specs.declared.draft.PacketDraft.{PacketDraft}
use Rattle.ibc_script.specs.declared.draft.PacketDraft.TheVariants as packet
use Rattle.ibc_script.specs.declared.draft.ProofSource.{ProofSource}
use Rattle.ibc_script.specs.declared.draft.SentPacket.{SentPacket}
use Rattle.ibc_script.specs.declared.script.Script.{Script}
use Rattle.ibc_script.specs.declared.script.Step.{Step}
use Rattle.ibc_script.specs.declared.script.Step.TheVariants as step

-- ---- what is found under a name

abbrev pub IsText : Text → Option Data → Type 0
IsText text found = option_and_then as_str found ≡ Some text

-- no text is found
abbrev pub IsNoText : Option Data → Type 0
IsNoText found = (text : Text) → ¬ IsText text found

-- a text that has this form
abbrev pub IsName : (Text → Bool) → Text → Option Data → Type 0
IsName form name found = IsText name found × IsTrue (form name)

-- a whole number below 2^64
abbrev pub IsNumber : ℕ → Option Data → Type 0
IsNumber n found = option_and_then as_u64 (option_and_then as_number found) ≡ Some n

abbrev pub items_in : Items → List Data
items_in no_items = []
items_in (item value items) = value ∷ items_in items

abbrev pub AreItems : List Data → Option Data → Type 0
AreItems values found = option_map items_in (option_and_then as_array found) ≡ Some values

-- each value of a list is the one of this list in its place
abbrev pub AreEach : {A : Type 0} → (A → Option Data → Type 0) → List A → List Data → Type 0
AreEach is [] [] = ⊤
AreEach is (x ∷ xs) (value ∷ values) = is x (Some value) × AreEach is xs values
AreEach is [] (value ∷ values) = ⊥
AreEach is (x ∷ xs) [] = ⊥

abbrev pub IsListOf : {A : Type 0} → (A → Option Data → Type 0) → List A → Option Data → Type 0
IsListOf is xs found = (values : List Data) × AreItems values found × AreEach is xs values

-- a member that may be left out
abbrev pub IsNumberIfThere : Option ℕ → Option Data → Type 0
IsNumberIfThere None found = found ≡ None
IsNumberIfThere (Some n) found = IsNumber n found

abbrev pub IsTextIfThere : Text → Option Data → Type 0
IsTextIfThere text found = ((found ≡ None) × (text ≡ [])) ⊎ IsText text found

-- something is found that is no text
abbrev pub IsNoTextIfThere : Option Data → Type 0
IsNoTextIfThere found = (text : Text) → ¬ IsTextIfThere text found

abbrev pub IsMemo : Text → Option Data → Type 0
IsMemo memo found = IsTextIfThere memo found × IsTrue (is_memo memo)

-- texts that spell something
abbrev pub IsAmount : ℕ → Option Data → Type 0
IsAmount amount found = IsText (decimal amount) found × (amount < 2 ^ 128)

abbrev pub IsNote : Text → Option Data → Type 0
IsNote bytes found = IsText (encode_of standard bytes) found × IsBytes bytes

-- the text writes no amount below 2^128
abbrev pub IsNoAmount : Text → Type 0
IsNoAmount text = (amount : ℕ) → amount < 2 ^ 128 → text ≢ decimal amount

-- the text writes no bytes in base64
abbrev pub IsNoNote : Text → Type 0
IsNoNote text = (bytes : List ℕ) → IsBytes bytes → text ≢ encode_of standard bytes

abbrev pub IsPath : Key → Option Data → Type 0
IsPath key found = IsText (path key) found × IsTrue (is_key key)

-- 1 to 1,000 turns
abbrev pub IsTurns : ℕ → Option Data → Type 0
IsTurns turns found = IsNumber turns found × (1 ≤ turns) × (turns ≤ 1000)

abbrev pub order_name : Order → Text
order_name Ordered = codes "ORDERED"
order_name Unordered = codes "UNORDERED"

abbrev pub application_name : Application → Text
application_name Note = codes "note"
application_name Transfer = codes "transfer"
application_name TransferMany = codes "transfer2"

-- the name of a chain, by its number
abbrev pub IsChain : List Text → ℕ → Option Data → Type 0
IsChain names n found = (name : Text) × (slice_get names n ≡ Some name) × IsText name found

-- `[chain, chain]`, which differ
abbrev pub AreChains : List Text → ℕ → ℕ → Option Data → Type 0
AreChains names first second found = IsListOf (IsChain names) (first ∷ second ∷ []) found × (first ≢ second)

-- `[chain, port, channel, sequence]`
abbrev pub IsPacket : List Text → SentPacket → Option Data → Type 0
IsPacket names sent found =
    (chain port id sequence : Data) × AreItems (chain ∷ port ∷ id ∷ sequence ∷ []) found × IsChain names sent.chain (Some chain)
    × IsName is_port sent.port (Some port) × IsName is_channel sent.channel (Some id) × IsNumber sent.sequence (Some sequence)

-- `[denomination, amount]`
abbrev pub IsToken : Token → Option Data → Type 0
IsToken token found =
    (denom amount : Data) × AreItems (denom ∷ amount ∷ []) found × IsName is_denom token.denom (Some denom) × IsAmount token.amount (Some amount)

abbrev pub AreTokens : List Token → Option Data → Type 0
AreTokens tokens found = IsListOf IsToken tokens found × IsTrue (is_listed tokens)

-- `[user, denomination, amount]`
abbrev pub IsHolding : Holding → Option Data → Type 0
IsHolding holding found =
    (user denom amount : Data) × AreItems (user ∷ denom ∷ amount ∷ []) found × IsName is_user holding.0 (Some user)
    × IsName is_denom holding.1 (Some denom) × IsAmount holding.2 (Some amount)

-- ---- objects

-- a member, by its name and by what is found there
pub record JsonField : Type 1 where
  pub name : Text
  pub is : Option Data → Type 0

abbrev pub field : Text → (Option Data → Type 0) → JsonField
field name is = record { name = name; is = is }

abbrev pub names_of : List JsonField → List Text
names_of [] = []
names_of (first ∷ fields) = first.name ∷ names_of fields

abbrev pub AreFields : List JsonField → Data → Type 0
AreFields [] given = ⊤
AreFields (first ∷ fields) given = first.is (get first.name given) × AreFields fields given

abbrev pub are_among : List Text → Members → Bool
are_among names no_members = true
are_among names (member name value members) = list_any (bytes_eq name) names && are_among names members

-- an object that has members of these names alone
abbrev pub has_only : List Text → Data → Bool
has_only names given = option_map_or (are_among names) (as_object given) false

-- an object that has these members, and no others
abbrev pub IsObject : List JsonField → Data → Type 0
IsObject fields given = IsTrue (has_only (names_of fields) given) × AreFields fields given

-- ---- messages

abbrev pub source_fields : List Text → ProofSource → List JsonField
source_fields names from =
    field (codes "from") (IsChain names from.chain) ∷ field (codes "height") (IsNumber from.height) ∷ []

abbrev pub client_fields : List Text → ClientDraft → List JsonField
client_fields names (client.Create of) = field (codes "of") (IsChain names of) ∷ []
client_fields names (client.Update id height) =
    field (codes "client") (IsName is_client id) ∷ field (codes "height") (IsNumber height) ∷ []

abbrev pub client_ends_fields : Text → Text → List JsonField
client_ends_fields id peer_client =
    field (codes "client") (IsName is_client id) ∷ field (codes "peer_client") (IsName is_client peer_client) ∷ []

abbrev pub connection_fields : List Text → ConnectionDraft → List JsonField
connection_fields names (connection.OpenInit id peer_client) = client_ends_fields id peer_client
connection_fields names (connection.OpenTry id peer_client peer_connection from) =
    client_ends_fields id peer_client
    ++ field (codes "peer_connection") (IsName is_connection peer_connection) ∷ source_fields names from
connection_fields names (connection.OpenAck id peer_connection from) =
    field (codes "connection") (IsName is_connection id)
    ∷ field (codes "peer_connection") (IsName is_connection peer_connection) ∷ source_fields names from
connection_fields names (connection.OpenConfirm id from) =
    field (codes "connection") (IsName is_connection id) ∷ source_fields names from

abbrev pub opening_fields : Text → Order → Text → Text → List JsonField
opening_fields port order id peer_port =
    field (codes "port") (IsName is_port port) ∷ field (codes "order") (IsText (order_name order))
    ∷ field (codes "connection") (IsName is_connection id) ∷ field (codes "peer_port") (IsName is_port peer_port) ∷ []

abbrev pub channel_end_fields : Text → Text → List JsonField
channel_end_fields port id = field (codes "port") (IsName is_port port) ∷ field (codes "channel") (IsName is_channel id) ∷ []

abbrev pub channel_fields : List Text → ChannelDraft → List JsonField
channel_fields names (channel.OpenInit m) =
    opening_fields m.port m.order m.connection m.peer_port ++ field (codes "version") (IsName is_version m.version) ∷ []
channel_fields names (channel.OpenTry d) =
    opening_fields d.port d.order d.connection d.peer_port
    ++ field (codes "peer_channel") (IsName is_channel d.peer_channel) ∷ field (codes "version") (IsName is_version d.version)
    ∷ source_fields names d.from
channel_fields names (channel.OpenAck port id peer_channel from) =
    channel_end_fields port id ++ field (codes "peer_channel") (IsName is_channel peer_channel) ∷ source_fields names from
channel_fields names (channel.OpenConfirm port id from) = channel_end_fields port id ++ source_fields names from
channel_fields names (channel.CloseInit m) = channel_end_fields m.port m.channel
channel_fields names (channel.CloseConfirm port id from) = channel_end_fields port id ++ source_fields names from

abbrev pub timeout_fields : ℕ → ℕ → List JsonField
timeout_fields height time =
    field (codes "timeout_height") (IsNumber height) ∷ field (codes "timeout_time") (IsNumber time) ∷ []

abbrev pub sending_fields : Text → Text → Text → Text → ℕ → ℕ → List JsonField
sending_fields id user receiver memo height time =
    field (codes "channel") (IsName is_channel id) ∷ field (codes "user") (IsName is_user user)
    ∷ field (codes "receiver") (IsName is_receiver receiver) ∷ field (codes "memo") (IsMemo memo) ∷ timeout_fields height time

abbrev pub sent_fields : List Text → SentPacket → ProofSource → List JsonField
sent_fields names sent from = field (codes "packet") (IsPacket names sent) ∷ source_fields names from

abbrev pub packet_fields : List Text → PacketDraft → List JsonField
packet_fields names (packet.Transfer m) =
    field (codes "denom") (IsName is_denom m.denom) ∷ field (codes "amount") (IsAmount m.amount)
    ∷ sending_fields m.channel m.user m.receiver m.memo m.timeout_height m.timeout_time
packet_fields names (packet.TransferMany m) =
    field (codes "tokens") (AreTokens m.tokens)
    ∷ sending_fields m.channel m.user m.receiver m.memo m.timeout_height m.timeout_time
packet_fields names (packet.SendNote m) =
    field (codes "channel") (IsName is_channel m.channel) ∷ field (codes "data") (IsNote m.payload)
    ∷ timeout_fields m.timeout_height m.timeout_time
packet_fields names (packet.Recv sent height) =
    field (codes "packet") (IsPacket names sent) ∷ field (codes "height") (IsNumber height) ∷ []
packet_fields names (packet.Ack sent from) = sent_fields names sent from
packet_fields names (packet.Timeout sent from) = sent_fields names sent from
packet_fields names (packet.TimeoutOnClose sent from) = sent_fields names sent from

abbrev pub draft_fields : List Text → Draft → List JsonField
draft_fields names (draft.Client d) = client_fields names d
draft_fields names (draft.Connection d) = connection_fields names d
draft_fields names (draft.Channel d) = channel_fields names d
draft_fields names (draft.Packet d) = packet_fields names d

-- an object that has these members beside `do` and `on`, and no others
abbrev pub HasBeside : List JsonField → Data → Type 0
HasBeside fields given = IsTrue (has_only (codes "do" ∷ codes "on" ∷ names_of fields) given) × AreFields fields given

-- a message of this name, by the members of its step but `do` and `on`
abbrev pub IsDraft : Text → List Text → Data → Draft → Type 0
IsDraft name names given d = (wire.name_of (draft_kind d) ≡ name) × HasBeside (draft_fields names d) given

-- ---- steps

abbrev pub do_field : Text → JsonField
do_field what = field (codes "do") (IsText what)

abbrev pub on_field : List Text → ℕ → JsonField
on_field names on = field (codes "on") (IsChain names on)

abbrev pub step_fields : List Text → Step → List JsonField
step_fields names (step.Message on d) = do_field (wire.name_of (draft_kind d)) ∷ on_field names on ∷ draft_fields names d
step_fields names (step.Block on time) =
    do_field (codes "Block") ∷ on_field names on ∷ field (codes "time") (IsNumberIfThere time) ∷ []
step_fields names (step.Root on height) =
    do_field (codes "root") ∷ on_field names on ∷ field (codes "height") (IsNumber height) ∷ []
step_fields names (step.Prove on height key) =
    do_field (codes "prove") ∷ on_field names on ∷ field (codes "height") (IsNumber height)
    ∷ field (codes "path") (IsPath key) ∷ []
step_fields names (step.Totals on id denom) =
    do_field (codes "totals") ∷ on_field names on ∷ field (codes "channel") (IsName is_channel id)
    ∷ field (codes "denom") (IsName is_denom denom) ∷ []
step_fields names (step.Open first second app) =
    do_field (codes "open") ∷ field (codes "chains") (AreChains names first second)
    ∷ field (codes "app") (IsText (application_name app)) ∷ []
step_fields names (step.Relay first second turns) =
    do_field (codes "relay") ∷ field (codes "chains") (AreChains names first second)
    ∷ field (codes "turns") (IsTurns turns) ∷ []

abbrev pub IsStepObject : List Text → Step → Option Data → Type 0
IsStepObject names s None = ⊥
IsStepObject names s (Some given) = IsObject (step_fields names s) given

-- ---- scripts

-- a chain's name, and how it begins
abbrev pub IsChainStart : Text × ChainState → Option Data → Type 0
IsChainStart start None = ⊥
IsChainStart (name, start) (Some given) =
    IsObject (
    field (codes "name") (IsName is_chain_name name) ∷ field (codes "time") (IsNumber start.time)
    ∷ field (codes "balances") (IsListOf IsHolding start.balances) ∷ []
    ) given

-- how many heights are kept; where nothing is said, the smaller of the capacity and 4,096
abbrev pub IsWindow : ℕ → ℕ → Option Data → Type 0
IsWindow capacity window found = IsNumber window found ⊎ ((found ≡ None) × (window ≡ min capacity 4096))

-- a script: how its chains begin, their names, and its steps
pub record ScriptContent : Type 0 where
  pub genesis : GenesisState
  pub names : List Text
  pub steps : List Step

abbrev pub content_of : Script → ScriptContent
content_of script =
    record { genesis = genesis_state script.genesis; names = script.names.items; steps = script.steps.items }

abbrev pub AreDifferent : List Text → Type 0
AreDifferent names = (i j : ℕ) (name : Text) → i < j → slice_get names i ≡ Some name → slice_get names j ≡ Some name → ⊥

-- the values are these chains: 8 at most, which have different names
abbrev pub AreChainStarts : List Text → List ChainState → List Data → Type 0
AreChainStarts names starts values =
    AreEach IsChainStart (zip names starts) values × AreDifferent names × (length names ≡ length starts) × (length names ≤ 8)

abbrev pub script_fields : ScriptContent → List JsonField
script_fields content =
    field (codes "capacity") (IsNumber content.genesis.capacity)
    ∷ field (codes "window") (IsWindow content.genesis.capacity content.genesis.window)
    ∷ field (codes "chains") (IsListOf IsChainStart (zip content.names content.genesis.chains))
    ∷ field (codes "steps") (IsListOf (IsStepObject content.names) content.steps) ∷ []

-- the value is this script: 8 chains at most, which have different names, and 10,000 steps at most
abbrev pub IsScript : ScriptContent → Data → Type 0
IsScript content given =
    IsObject (script_fields content) given × AreDifferent content.names × (length content.names ≡ length content.genesis.chains)
    × (length content.names ≤ 8) × (length content.steps ≤ 10000)

-- the text is this script, in JSON
abbrev pub IsScriptText : Text → ScriptContent → Type 0
IsScriptText text content =
    (length text ≤ 1048576) × IsUtf8 text × (value : Data) × (read text ≡ Some value) × IsScript content value

-- the text is no script
abbrev pub IsNoScriptText : Text → Type 0
IsNoScriptText text = (content : ScriptContent) → ¬ IsScriptText text content
