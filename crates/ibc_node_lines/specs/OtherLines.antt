-- The lines that tell of no event.
use Rattle.std.specs.Prelude.{◌≡◌, ◌++◌, ℕ, Bool, true, false, codes, List, Option, None, Some, map, string_bytes}
use Rattle.std.specs.Fmt.{decimal}
use Rattle.hex.specs.Hex.{encode_lower}
use Rattle.ibc_ids.specs.Texts.{Text}
use Rattle.ibc_ids.specs.declared.refusal.Refusal.{Refusal}
use Rattle.ibc_machine.specs.declared.totals.Totals.{Totals}
use Rattle.ibc_machine.specs.declared.entry.Reading.{Reading}
use Rattle.ibc_replay.specs.declared.replaying.Answered.{Answered}
use Rattle.ibc_journal.specs.Tables.{JournalItem}
use Rattle.ibc_node_lines.specs.declared.line_fault.LineFault.{LineFault}
use Rattle.ibc_node_lines.specs.declared.line_fault.LineFault.TheVariants as fault
use Rattle.ibc_node_lines.specs.declared.lines.NodeLine.{NodeLine}
use Rattle.ibc_node_lines.specs.declared.lines.NodeLine.TheVariants as line
use Rattle.ibc_node_lines.specs.Told.{joined, IsRefusedText, IsReplyText}

-- ---- why a line asks for nothing

abbrev pub fault_text : LineFault → Text
fault_text fault.NotText = codes "the line is no UTF-8"
fault_text fault.NotJson = codes "the line is no JSON"
fault_text fault.NoObject = codes "the line is no object"
fault_text fault.UnknownMember = codes "the object has a member that no such request has"
fault_text fault.NoRequest = codes "a request has a member do, message, block or query"
fault_text fault.NoStep = codes "this is no step of a script with these chains"
fault_text fault.NoChain = codes "chain is no number from 0 to 255"
fault_text fault.UnknownChain = codes "there is no such chain"
fault_text fault.NoTime = codes "block is no number below 2^64"
fault_text fault.NoHex = codes "message is no text in hex"
fault_text fault.NoMessage = codes "the bytes spell no message"
fault_text fault.NoLogPlace = codes "at is no number from 1 to 4294967295"
fault_text fault.NoHeight = codes "height is no number below 2^64"
fault_text fault.NoPath = codes "path is no path of ICS 24"
fault_text fault.NoChannel = codes "channel is no identifier of a channel"
fault_text fault.NoDenom = codes "denom is no denomination"
fault_text fault.NoPlace = codes "from is no number from 0 to 4294967295"
fault_text fault.UnknownQuery = codes "there is no such query"
fault_text fault.NoMemory = codes "no memory"

-- the number of the line, and what is wrong with it
abbrev pub mistaken_text : ℕ → Text → Text
mistaken_text number why = codes "{\"line\":" ++ (decimal number ++ (codes ",\"mistake\":\"" ++ (why ++ codes "\"}\n")))

abbrev pub IsMistakenLine : ℕ → LineFault → NodeLine → Type 0
IsMistakenLine number why (line.Answers answers) = ⊥
IsMistakenLine number why (line.Other it) = string_bytes it ≡ mistaken_text number (fault_text why)

-- ---- what questions are answered

-- how many entries there are
abbrev pub entries_text : ℕ → Text
entries_text count = codes "{\"entries\":" ++ (decimal count ++ codes "}\n")

-- digits under a name
abbrev pub digits_text : Text → Text → Text
digits_text name digits = codes "{\"" ++ (name ++ (codes "\":\"" ++ (digits ++ codes "\"}\n")))

-- bytes under a name, in hex, or that there are none
abbrev pub found_text : Text → Option Text → Text
found_text name None = codes "{\"" ++ (name ++ codes "\":null}\n")
found_text name (Some bytes) = digits_text name (encode_lower bytes)

-- what a channel has of a denomination
abbrev pub totals_text : Totals → Text
totals_text t =
    codes "{\"escrow\":\"" ++ (decimal t.escrow ++ (codes "\",\"vouchers\":\"" ++ (decimal t.vouchers
    ++ (codes "\",\"out\":\"" ++ (decimal t.out ++ (codes "\",\"back\":\"" ++ (decimal t.back ++ codes "\"}\n")))))))

-- why a question has no answer
abbrev pub refusal_line : Text → Text
refusal_line given = codes "{" ++ (given ++ codes "}\n")

abbrev pub IsUnansweredText : Refusal → Text → Type 0
IsUnansweredText refusal text = (given : Text) × IsRefusedText refusal given × (text ≡ refusal_line given)

-- texts as a list under a name
abbrev pub named_list : Text → Text → Text
named_list name texts = codes "{\"" ++ (name ++ (codes "\":[" ++ (texts ++ codes "]}\n")))

-- who holds how much of what
abbrev pub holding_text : Text → Text → ℕ → Text
holding_text account denom amount =
    codes "[\"" ++ (account ++ (codes "\",\"" ++ (denom ++ (codes "\",\"" ++ (decimal amount ++ codes "\"]")))))

abbrev pub listed_holding : (Text × Text) × ℕ → Text
listed_holding ((account, denom), amount) = holding_text account denom amount

abbrev pub balances_text : List ((Text × Text) × ℕ) → Text
balances_text list = named_list (codes "balances") (joined (map listed_holding list))

-- an entry's place, its chain, its kind and its place in a log
abbrev pub place_text : ℕ → JournalItem → Text
place_text place it =
    codes "\"place\":" ++ (decimal place ++ (codes ",\"chain\":" ++ (decimal it.chain ++ (codes ",\"kind\":" ++ (decimal it.kind
    ++ (codes ",\"at\":" ++ decimal it.log_place))))))

-- such a text, with an event, an answer and a digest in hex
abbrev pub bytes_text : Text → Text → Text → Text → Text
bytes_text front event answer digest =
    codes "{" ++ (front ++ (codes ",\"event\":\"" ++ (event ++ (codes "\",\"answer\":\"" ++ (answer
    ++ (codes "\",\"digest\":\"" ++ (digest ++ codes "\"}")))))))

-- an entry as the journal has it, at a place, with its event, its answer and its digest in hex
abbrev pub kept_text : ℕ → JournalItem → Text → Text → Text → Text
kept_text place it event answer digest = bytes_text (place_text place it) event answer digest

abbrev pub item_text : ℕ → JournalItem → Text
item_text place it = kept_text place it (encode_lower it.event) (encode_lower it.answer) (encode_lower it.digest)

-- ---- what an audit tells

-- the entries are a lawful run, and so many
abbrev pub lawful_text : ℕ → Text
lawful_text count = codes "{\"entries\":" ++ (decimal count ++ codes ",\"lawful\":true}\n")

-- whether a row was looked for, and whether it was there
abbrev pub row_text : Option Bool → Text
row_text None = codes "none"
row_text (Some false) = codes "gone"
row_text (Some true) = codes "there"

-- a reply, and what was read for it
abbrev pub looked_text : Text → ℕ → Text → Text
looked_text reply published row =
    codes "{" ++ (reply ++ (codes ",\"published\":" ++ (decimal published ++ (codes ",\"row\":\"" ++ (row ++ codes "\"}")))))

abbrev pub reading_text : Text → Option Reading → Text
reading_text reply None = codes "{" ++ (reply ++ codes "}")
reading_text reply (Some reading) = looked_text reply reading.published (row_text reading.row_was_there)

abbrev pub IsAnsweredText : Answered → Text → Type 0
IsAnsweredText given text = (reply : Text) × IsReplyText given.reply reply × (text ≡ reading_text reply given.reading)

-- the answer that is due, or that none is
abbrev pub IsDueText : Option Answered → Text → Type 0
IsDueText None text = text ≡ codes "null"
IsDueText (Some due) text = IsAnsweredText due text

-- the first place that differs, the answer that is due there, and the one that is kept
abbrev pub both_text : ℕ → Text → Text → Text
both_text place due kept =
    codes "{\"place\":" ++ (decimal place ++ (codes ",\"lawful\":false,\"due\":" ++ (due ++ (codes ",\"kept\":" ++ (kept ++ codes "}\n")))))

abbrev pub IsUnlawfulText : ℕ → Option Answered → Answered → Text → Type 0
IsUnlawfulText place due kept text =
    (first : Text) × (second : Text) × IsDueText due first × IsAnsweredText kept second × (text ≡ both_text place first second)
