-- How a ledger comes back to the others of its world.
use Rattle.std.specs.Prelude.{◌≡◌, ◌≢◌, ◌⊎◌, ◌++◌, [], ◌∷◌, Option, Some, None, Result, Ok, Err, ⊤}
use Rattle.ibc_handle.specs.LedgersModel.{LedgersModel, Joins}
use Rattle.ibc_handle.specs.declared.handle_value.HandleValue.{HandleValue}
use Rattle.ibc_handle.specs.declared.handle_value.HandleValue.TheVariants as held
use Rattle.ibc_handle.specs.declared.handle_value.WorldLedger.{WorldLedger}
use Rattle.ibc_handle.specs.declared.ledgers.NotJoined.{NotJoined}
use Rattle.ibc_handle.specs.declared.ledgers.NotJoined.TheVariants.{Empty, OtherKind, OtherWorld, NoMemory}

-- worlds are told apart by their numbers: a ledger under the number of the others is of their world
abbrev pub JoinsIfSameNumber : LedgersModel → WorldLedger → Type 0
JoinsIfSameNumber all member = member.number ≡ all.number → Joins member.ledger all.ledgers

abbrev pub MemberJoinsIfSameNumber : LedgersModel → Option HandleValue → Type 0
MemberJoinsIfSameNumber all (Some (held.Ledger member)) = JoinsIfSameNumber all member
MemberJoinsIfSameNumber all _ = ⊤

-- with this ledger behind the others
abbrev pub with_member : LedgersModel → WorldLedger → LedgersModel
with_member all member = record all { ledgers = all.ledgers ++ member.ledger ∷ [] }

-- the member is of their world, and is behind the others
abbrev pub JoinsMember : LedgersModel → WorldLedger → LedgersModel → Type 0
JoinsMember old member new = (member.number ≡ old.number) × (new ≡ with_member old member)

-- the member is handed back, since it is of another world or memory ran out
abbrev pub IsHandedBack : LedgersModel → WorldLedger → NotJoined × WorldLedger → Type 0
IsHandedBack old member back =
    (back.1 ≡ member) × (((back.0 ≡ OtherWorld) × (member.number ≢ old.number)) ⊎ (back.0 ≡ NoMemory))

-- the ledger was moved to the others, or it stays for this reason
abbrev pub IsMemberJoined : LedgersModel → WorldLedger → LedgersModel → Option HandleValue → Result ⊤ NotJoined → Type 0
IsMemberJoined all member all' new (Ok x) = (member.number ≡ all.number) × (all' ≡ with_member all member) × (new ≡ None)
IsMemberJoined all member all' new (Err OtherWorld) = (member.number ≢ all.number) × (all' ≡ all) × (new ≡ Some (held.Ledger member))
IsMemberJoined all member all' new (Err NoMemory) = (all' ≡ all) × (new ≡ Some (held.Ledger member))
IsMemberJoined all member all' new (Err why) = ⊥

abbrev pub IsJoined : LedgersModel → Option HandleValue → LedgersModel → Option HandleValue → Result ⊤ NotJoined → Type 0
IsJoined all None all' new answer = (all' ≡ all) × (new ≡ None) × (answer ≡ Err Empty)
IsJoined all (Some (held.Ledger member)) all' new answer = IsMemberJoined all member all' new answer
IsJoined all (Some old) all' new answer = (all' ≡ all) × (new ≡ Some old) × (answer ≡ Err OtherKind)

-- a value that is no ledger
abbrev pub HoldsNoLedger : HandleValue → Type 0
HoldsNoLedger (held.Ledger member) = ⊥
HoldsNoLedger _ = ⊤

-- what a handle holds afterwards: nothing where the ledger was moved
abbrev pub value_after_join : Result ⊤ NotJoined → HandleValue → Option HandleValue
value_after_join (Ok x) value = None
value_after_join (Err why) value = Some value
