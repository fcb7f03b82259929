-- What is told of an entry.
use Rattle.std.specs.Prelude.{◌≡◌, false, List, Option, None, Some, All, map, option_map}
use Rattle.ibc_ids.specs.Texts.{Text}
use Rattle.ibc_machine.specs.declared.entry.Entry.{Entry}
use Rattle.ibc_machine.specs.ledger.Ledgers.{Ledger}
use Rattle.ibc_explain.specs.Clients.{entry_client, entry_height, entry_tracked}
use Rattle.ibc_explain.specs.EntryLines.{AreLinesOf, entry_at}
use Rattle.ibc_explain.specs.Outcomes.{entry_outcome}
use Rattle.ibc_explain.specs.Packets.{SentName, entry_packet, is_receipt}
use Rattle.ibc_explain.specs.declared.explaining.ExplainedLine.{ExplainedLine}
use Rattle.ibc_explain.specs.declared.explanation.Explanation.{Explanation}
use Rattle.ibc_explain.specs.declared.places.EntryPlace.{EntryPlace}
use Rattle.ibc_explain.specs.declared.facts.Facts.{Facts}
use Rattle.ibc_explain.specs.declared.facts.PacketName.{PacketName}
use Rattle.ibc_explain.specs.declared.running.ScriptRun.{ScriptRun}

abbrev pub packet_name : PacketName → SentName
packet_name p = (p.port.now, p.channel.now, p.sequence)

abbrev pub packet_told : Facts → Option SentName
packet_told facts = option_map packet_name facts.packet

abbrev pub client_told : Facts → Option Text
client_told facts = option_map (λ client. client.now) facts.client

-- an explanation is of the entry at a place: it names its packet, what became of that, a client with the chain that it tracks, and a
-- height; the chain of the entry sent the packet, unless it receives it
pub record IsOf (spot : EntryPlace) (e : Entry) (x : Explanation) : Type 0 where
  pub place : x.place ≡ spot
  pub entry : x.entry.now ≡ e
  pub packet : packet_told x.facts ≡ entry_packet e
  pub outcome : x.outcome ≡ entry_outcome e
  pub client : client_told x.facts ≡ entry_client e
  pub tracked : x.facts.tracked ≡ entry_tracked e
  pub height : x.facts.height ≡ entry_height e
  pub sender : is_receipt e.event ≡ false → x.sender ≡ Some spot.chain

-- where there is an entry it is explained, and else nothing is
abbrev pub IsToldBy : EntryPlace → Option Entry → Option Explanation → Type 0
IsToldBy place None told = told ≡ None
IsToldBy place (Some e) told = (x : Explanation) × (told ≡ Some x) × IsOf place e x

-- the line of an entry has the explanation of that entry; another line has none
abbrev pub IsExplainedBy : List Ledger → Option Explanation → Option EntryPlace → Type 0
IsExplainedBy ledgers told None = told ≡ None
IsExplainedBy ledgers told (Some place) = IsToldBy place (entry_at ledgers place) told

abbrev pub IsExplained : List Ledger → ExplainedLine → Type 0
IsExplained ledgers line = IsExplainedBy ledgers line.told line.line.place

-- these are the lines of a text, each explained by the entry that it is of, and no entry is left out
pub record AreExplained (names : List Text) (ledgers : List Ledger) (text : Text) (lines : List ExplainedLine) : Type 0 where
  pub whole : AreLinesOf names ledgers text (map (λ (x : ExplainedLine). x.line) lines)
  pub told : All (IsExplained ledgers) lines

-- the same of a run of a script
abbrev pub AreExplainedIn : ScriptRun → List ExplainedLine → Type 0
AreExplainedIn run = AreExplained run.names.items run.world.ledgers run.text.items
