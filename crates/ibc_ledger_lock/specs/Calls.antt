-- What a ledger was asked, in order, whether memory was there for an entry or not.
use Rattle.std.specs.Prelude.{◌≡◌, List, [], ◌∷◌, map}
use Rattle.ibc_ids.specs.declared.refusal.Refusal.TheVariants.{NoMemory}
use Rattle.ibc_machine.specs.declared.event.Event.{Event}
use Rattle.ibc_machine.specs.declared.reply.Reply.{Reply}
use Rattle.ibc_machine.specs.declared.reply.Reply.TheVariants as reply
use Rattle.ibc_machine.specs.ledger.Ledgers.{Ledger}
use Rattle.ibc_machine.specs.promises.Histories.{Happened}
use Rattle.ibc_ledger.specs.SentPackets.{happened_on}

-- one call: the history has an entry of it, with this reply, or memory ran out and it has none
pub data Call : Type 0 where
  Written : Event → Reply → Call
  Unwritten : Event → Call

-- the call that was answered so
abbrev pub call_of : Event → Reply → Call
call_of event (reply.No NoMemory) = Unwritten event
call_of event given = Written event given

-- what was asked
abbrev pub asked_by : Call → Event
asked_by (Written event given) = event
asked_by (Unwritten event) = event

-- what calls leave in a history
abbrev pub written_by : List Call → List Happened
written_by [] = []
written_by (Written event given ∷ calls) = (event, given) ∷ written_by calls
written_by (Unwritten event ∷ calls) = written_by calls

-- a history, as calls that left it
abbrev pub calls_for : List Happened → List Call
calls_for happened = map (λ h. Written h.0 h.1) happened

-- the calls are all that the ledger was asked: its history is what they left
abbrev pub AreCallsOf : Ledger → List Call → Type 0
AreCallsOf ledger calls = happened_on ledger ≡ written_by calls
