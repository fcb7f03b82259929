-- Ledgers that were driven apart come together again, and what they hold is told.
use Rattle.std.specs.Prelude.{◌≡◌, Bool, true, false, Option, Some, None, Result, Ok, Err, ⊤}
use Rattle.ibc_ids.specs.declared.refusal.Refusal.TheVariants.{NoMemory, BadMessage}
use Rattle.ibc_world_core.specs.WorldAudits.{IsAudit, is_whole}
use Rattle.ibc_world_core.specs.EveryAudit.{AreLawful}
use Rattle.ibc_handle.specs.LedgersModel.{LedgersModel, AreStill}
use Rattle.ibc_handle.specs.Joining.{MemberJoinsIfSameNumber, IsJoined}
use Rattle.ibc_handle.specs.declared.handle_value.HandleValue.{HandleValue}
use Rattle.ibc_handle.specs.declared.handle_value.HandleValue.TheVariants as held
use Rattle.ibc_handle.specs.declared.ledgers.NotJoined.{NotJoined}
use Rattle.ibc_handle.specs.declared.ledgers.NotJoined.TheVariants as why
use Rattle.ibc_calls.specs.declared.answer.Refused.TheVariants.{Core, Empty, Full, OtherKind, OtherWorld}
use Rattle.ibc_calls.specs.CallAnswers.{Answer}
use Rattle.ibc_calls.specs.Handles.{IsMade, StaysEmpty}

-- the answer where a ledger is moved to others
abbrev pub answer_of_join : Result ⊤ NotJoined → Answer
answer_of_join (Ok x) = Ok tt
answer_of_join (Err why.Empty) = Err Empty
answer_of_join (Err why.OtherKind) = Err OtherKind
answer_of_join (Err why.OtherWorld) = Err OtherWorld
answer_of_join (Err why.NoMemory) = Err (Core NoMemory)

-- worlds are told apart by their numbers: a ledger under the number of the others is of their world
unfoldable pub AreApart : Option HandleValue → Option HandleValue → Type 0
AreApart (Some (held.Ledgers all)) ledger = MemberJoinsIfSameNumber all ledger
AreApart _ ledger = ⊤

-- the ledger of one handle goes to those of the other, or both stay
abbrev pub JoinsTo : HandleValue → HandleValue → Option HandleValue → Option HandleValue → Answer → Type 0
JoinsTo (held.Ledgers all) (held.Ledgers all') old new answer =
    (joined : Result ⊤ NotJoined) × (answer ≡ answer_of_join joined) × IsJoined all old all' new joined
JoinsTo (held.Ledgers all) other old new answer = ⊥
JoinsTo value value' old new answer = (value' ≡ value) × (new ≡ old) × (answer ≡ Err OtherKind)

unfoldable pub JoinsLedger : Option HandleValue → Option HandleValue → Option HandleValue → Option HandleValue → Answer → Type 0
JoinsLedger None all' old new answer = (all' ≡ None) × (new ≡ old) × (answer ≡ Err Empty)
JoinsLedger (Some all) (Some all') old new answer = JoinsTo all all' old new answer
JoinsLedger (Some all) None old new answer = ⊥

-- what is told of ledgers: that they are lawful where no hashed texts clash, and what they hold
abbrev pub IsAuditValue : LedgersModel → HandleValue → Type 0
IsAuditValue all (held.Audit audit) = AreLawful all.ledgers audit × IsAudit all.ledgers audit
IsAuditValue all _ = ⊥

abbrev pub MakesIfWhole : Bool → LedgersModel → Option HandleValue → Answer → Type 0
MakesIfWhole true all new answer = IsMade (IsAuditValue all) new answer
MakesIfWhole false all new answer = StaysEmpty (Core BadMessage) new answer

-- Ledgers are audited, and stay, having at most seen more; any other value stays as it is.
abbrev pub AuditsValue : HandleValue → HandleValue → Option HandleValue → Answer → Type 0
AuditsValue (held.Ledgers all) (held.Ledgers all') new answer =
    AreStill all all' × MakesIfWhole (is_whole all.ledgers) all new answer
AuditsValue (held.Ledgers all) other new answer = ⊥
AuditsValue old old' new answer = (old' ≡ old) × StaysEmpty OtherKind new answer

unfoldable pub Audits : Option HandleValue → Option HandleValue → Option HandleValue → Option HandleValue → Answer → Type 0
Audits all all' (Some old) new answer = (all' ≡ all) × (new ≡ Some old) × (answer ≡ Err Full)
Audits None all' None new answer = (all' ≡ None) × StaysEmpty Empty new answer
Audits (Some value) (Some value') None new answer = AuditsValue value value' new answer
Audits (Some value) None None new answer = ⊥
