-- The lines that a node writes, and what they tell.
use Rattle.std.specs.Prelude.{◌≡◌, ◌++◌, ◌==◌, ℕ, Bool, true, false, codes, List, [], ◌∷◌, length, Option, None, Some, string_bytes, if◌then◌else◌}
use Rattle.std.specs.Fmt.{decimal}
use Rattle.std.specs.List.{AllZip, concat, flat_map}
use Rattle.hex.specs.Hex.{encode_lower}
use Rattle.ibc_ids.specs.Texts.{Text}
use Rattle.ibc_ids.specs.Refusals.{number_of}
use Rattle.ibc_ids.specs.declared.refusal.Refusal.{Refusal}
use Rattle.ibc_ids.specs.declared.refusal.Refusal.TheVariants as refusal
use Rattle.ibc_machine.specs.declared.reply.Effect.{Effect}
use Rattle.ibc_machine.specs.declared.reply.Effect.TheVariants as effect
use Rattle.ibc_machine.specs.declared.reply.Reply.{Reply}
use Rattle.ibc_machine.specs.declared.reply.Reply.TheVariants as reply
use Rattle.ibc_node.specs.declared.node.KeptAnswer.{KeptAnswer}
use Rattle.ibc_node_lines.specs.declared.lines.NodeLine.{NodeLine}
use Rattle.ibc_node_lines.specs.declared.lines.NodeLine.TheVariants as line

-- ---- replies

-- a text under a name, as an object
abbrev pub named_text : Text → Text → Text
named_text name value = codes "{\"" ++ (name ++ (codes "\":\"" ++ (value ++ codes "\"}")))

-- the sequence of a packet that was sent, as an object
abbrev pub sequence_text : ℕ → Text
sequence_text sequence = codes "{\"sequence\":" ++ (decimal sequence ++ codes "}")

-- a block's height and its root
abbrev pub block_text : ℕ → Text → Text
block_text height root = codes "{\"height\":" ++ (decimal height ++ (codes ",\"root\":\"" ++ (root ++ codes "\"}")))

-- what an accepted event gave, as an object
abbrev pub effect_text : Effect → Text
effect_text effect.None = codes "{}"
effect_text (effect.Client id) = named_text (codes "client") id
effect_text (effect.Connection id) = named_text (codes "connection") id
effect_text (effect.Channel id) = named_text (codes "channel") id
effect_text (effect.Sent sequence) = sequence_text sequence
effect_text (effect.Ack bytes) = named_text (codes "acknowledgement") (encode_lower bytes)
effect_text (effect.Block height root) = block_text height (encode_lower root)

abbrev pub ok_text : Text → Text
ok_text given = codes "\"ok\":" ++ given

-- a number, and words
abbrev pub refused_text : ℕ → Text → Text
refused_text number why = codes "\"no\":" ++ (decimal number ++ (codes ",\"why\":\"" ++ (why ++ codes "\"")))

-- the words that say why
abbrev pub refusal_text : Refusal → Text
refusal_text refusal.NoMemory = codes "no memory"
refusal_text refusal.BadName = codes "bad name"
refusal_text refusal.UnknownChain = codes "unknown chain"
refusal_text refusal.OwnChain = codes "own chain"
refusal_text refusal.UnknownClient = codes "unknown client"
refusal_text refusal.NotPublished = codes "not published"
refusal_text refusal.WrongHeader = codes "wrong header"
refusal_text refusal.UnknownConnection = codes "unknown connection"
refusal_text refusal.WrongState = codes "wrong state"
refusal_text refusal.WrongPeer = codes "wrong peer"
refusal_text refusal.NoConsensus = codes "no consensus state"
refusal_text refusal.BadProof = codes "bad proof"
refusal_text refusal.WrongSelfClient = codes "wrong self client"
refusal_text refusal.UnknownPort = codes "unknown port"
refusal_text refusal.UnknownChannel = codes "unknown channel"
refusal_text refusal.WrongOrder = codes "wrong order"
refusal_text refusal.WrongVersion = codes "wrong version"
refusal_text refusal.NoTimeout = codes "no timeout"
refusal_text refusal.TimeoutPassed = codes "timeout passed"
refusal_text refusal.AlreadyReceived = codes "already received"
refusal_text refusal.OutOfOrder = codes "out of order"
refusal_text refusal.NoCommitment = codes "no commitment"
refusal_text refusal.NotTimedOut = codes "not timed out"
refusal_text refusal.TooLarge = codes "too large"
refusal_text refusal.Poor = codes "poor"
refusal_text refusal.CloseRefused = codes "close refused"
refusal_text refusal.TimeBack = codes "time goes back"
refusal_text refusal.TableFull = codes "table full"
refusal_text refusal.NumberFull = codes "number full"
refusal_text refusal.BadMessage = codes "bad message"
refusal_text refusal.Pruned = codes "pruned"

-- a refusal's number, and the words that say why
abbrev pub IsRefusedText : Refusal → Text → Type 0
IsRefusedText why text = text ≡ refused_text (number_of why) (refusal_text why)

-- a reply without the braces round it
abbrev pub IsReplyText : Reply → Text → Type 0
IsReplyText (reply.Ok given) text = text ≡ ok_text (effect_text given)
IsReplyText (reply.No why) text = IsRefusedText why text

-- ---- answers

-- the reply to an event, beside the number of its chain, and the place of its entry, where one is kept
abbrev pub answer_text : ℕ → Option ℕ → Text → Text
answer_text chain None given = codes "{\"chain\":" ++ (decimal chain ++ (codes "," ++ (given ++ codes "}")))
answer_text chain (Some place) given =
    codes "{\"chain\":" ++ (decimal chain ++ (codes ",\"place\":" ++ (decimal place ++ (codes "," ++ (given ++ codes "}")))))

abbrev pub IsAnswerText : ℕ × KeptAnswer → Text → Type 0
IsAnswerText told text = (given : Text) × IsReplyText told.1.reply given × (text ≡ answer_text told.0 told.1.place given)

-- a text behind others, with a comma between
abbrev pub comma_behind : Text → Text
comma_behind text = if length text == 0 then [] else codes ","

abbrev pub joined_behind : Text → List Text → Text
joined_behind text [] = text
joined_behind text (next ∷ texts) = joined_behind (text ++ (comma_behind text ++ next)) texts

-- texts with commas between
abbrev pub joined : List Text → Text
joined = joined_behind []

-- what came of several events or of none
abbrev pub list_text : Text → Text
list_text texts = codes "{\"answers\":[" ++ (texts ++ codes "]}\n")

-- what came of one event is an object, and of several or none a list
abbrev pub answers_text : Bool → Text → Text
answers_text true texts = texts ++ codes "\n"
answers_text false texts = list_text texts

abbrev pub AreAnswersText : List (ℕ × KeptAnswer) → Text → Type 0
AreAnswersText answers text = (texts : List Text) × AllZip IsAnswerText answers texts × (text ≡ answers_text (length texts == 1) (joined texts))

-- ---- lines

-- what came of events by a line, each beside the number of its chain
abbrev pub answers_of : NodeLine → List (ℕ × KeptAnswer)
answers_of (line.Answers answers) = answers.items
answers_of (line.Other text) = []

abbrev pub answers_in : List NodeLine → List (ℕ × KeptAnswer)
answers_in = flat_map answers_of

abbrev pub IsLineText : NodeLine → Text → Type 0
IsLineText (line.Answers answers) text = AreAnswersText answers.items text
IsLineText (line.Other it) text = text ≡ string_bytes it

abbrev pub AreLinesText : List NodeLine → Text → Type 0
AreLinesText lines text = (texts : List Text) × AllZip IsLineText lines texts × (text ≡ concat texts)

-- the first line: how many entries there are, and the last place of a log
abbrev pub resumed_text : ℕ → ℕ → Text
resumed_text entries log_place = codes "{\"resumed\":{\"entries\":" ++ (decimal entries ++ (codes ",\"at\":" ++ (decimal log_place ++ codes "}}\n")))
