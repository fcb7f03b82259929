-- What views tell, and what is planned from two of them (ICS 18, "Relayer algorithm").
use Rattle.std.specs.Prelude.{◌≡◌, ◌⊎◌, ◌<◌, Option, Some, None, Result, Ok, Err, IsTrue}
use Rattle.ibc_ids.specs.Texts.{Text}
use Rattle.ibc_ids.specs.Paths.{path, is_key}
use Rattle.ibc_ids.specs.declared.key.Key.{Key}
use Rattle.ibc_ids.specs.declared.refusal.Refusal.{Refusal}
use Rattle.ibc_ids.specs.declared.refusal.Refusal.TheVariants.{NoMemory, BadName}
use Rattle.ibc_merkle.specs.Written.{written_proof}
use Rattle.ibc_wire.specs.Spelling.{proof_bytes}
use Rattle.ibc_machine.specs.ics24.Image.{image, core_root}
use Rattle.ibc_machine.specs.ledger.Ledgers.{state_of}
use Rattle.ibc_machine.specs.ics18.Relay.{View, view_of, plan}
use Rattle.ibc_handle.specs.declared.handle_value.HandleValue.{HandleValue}
use Rattle.ibc_handle.specs.declared.handle_value.HandleValue.TheVariants as held
use Rattle.ibc_calls.specs.declared.answer.Refused.{Refused}
use Rattle.ibc_calls.specs.declared.answer.Refused.TheVariants.{Core, Empty, OtherKind, NothingThere}
use Rattle.ibc_calls.specs.declared.views.ViewHeights.{ViewHeights}
use Rattle.ibc_calls.specs.CallAnswers.{Answer}
use Rattle.ibc_calls.specs.Handles.{OfEmptyOrFull, IsMade, StaysEmpty}

-- a handle's value is this view, which other handles may hold too
abbrev pub IsView : View → HandleValue → Type 0
IsView view (held.View shared) = shared.value ≡ view
IsView view _ = ⊥

-- the view of the ledger that a handle holds
abbrev pub IsViewValue : Option HandleValue → Option HandleValue → Answer → Type 0
IsViewValue None new answer = StaysEmpty Empty new answer
IsViewValue (Some (held.Ledger l)) new answer =
    IsMade (IsView (view_of l.ledger.ledger.chain (state_of l.ledger.ledger).chain)) new answer
IsViewValue (Some other) new answer = StaysEmpty OtherKind new answer

unfoldable pub MakesView : Option HandleValue → Option HandleValue → Option HandleValue → Answer → Type 0
MakesView ledger = OfEmptyOrFull (IsViewValue ledger)

-- another handle of the view that a handle holds
abbrev pub IsShareOf : Option HandleValue → Option HandleValue → Answer → Type 0
IsShareOf None new answer = StaysEmpty Empty new answer
IsShareOf (Some (held.View shared)) new answer = IsMade (IsView shared.value) new answer
IsShareOf (Some other) new answer = StaysEmpty OtherKind new answer

unfoldable pub SharesView : Option HandleValue → Option HandleValue → Option HandleValue → Answer → Type 0
SharesView view = OfEmptyOrFull (IsShareOf view)

-- what a view tells of itself
abbrev pub heights_of : View → ViewHeights
heights_of view = record { chain = view.chain; height = view.height; time = view.time; working_time = view.working_time }

unfoldable pub TellsHeights : Option HandleValue → ViewHeights → ViewHeights → Answer → Type 0
TellsHeights None old new answer = (new ≡ old) × (answer ≡ Err Empty)
TellsHeights (Some (held.View shared)) old new answer = (new ≡ heights_of shared.value) × (answer ≡ Ok tt)
TellsHeights (Some other) old new answer = (new ≡ old) × (answer ≡ Err OtherKind)

-- ---- what a view proves

-- what is found in a view, which has committed a height
abbrev pub InView : (View → Result Text Refused → Type 0) → Option HandleValue → Result Text Refused → Type 0
InView is None found = found ≡ Err Empty
InView is (Some (held.View shared)) found =
    ((shared.value.height ≡ 0) × (found ≡ Err NothingThere)) ⊎ ((0 < shared.value.height) × is shared.value found)
InView is (Some other) found = found ≡ Err OtherKind

abbrev pub IsViewRoot : View → Result Text Refused → Type 0
IsViewRoot view found = (found ≡ Ok (core_root view.core)) ⊎ (found ≡ Err (Core NoMemory))

-- the key has this path (ICS 24, "Path-space")
abbrev pub HasPath : Text → Key → Type 0
HasPath bytes key = IsTrue (is_key key) × (path key ≡ bytes)

-- no key has this path, or memory ran out
abbrev pub IsPathRefused : Text → Refusal → Type 0
IsPathRefused bytes refusal = ((refusal ≡ BadName) × ((key : Key) → ¬ HasPath bytes key)) ⊎ (refusal ≡ NoMemory)

-- The bytes are the path of a key, and this is found at the key; or they are the path of none, or memory ran out.
abbrev pub AtPath : Text → (Key → Result Text Refused → Type 0) → Result Text Refused → Type 0
AtPath bytes is found =
    ((key : Key) × HasPath bytes key × is key found)
    ⊎ ((found ≡ Err (Core BadName)) × ((key : Key) → HasPath bytes key → ⊥)) ⊎ (found ≡ Err (Core NoMemory))

-- the bytes of the proof of what the view's height has at the path
abbrev pub IsProofAt : Text → View → Result Text Refused → Type 0
IsProofAt bytes view = AtPath bytes (λ key found. found ≡ Ok (proof_bytes (written_proof (image view.core) (path key))))

unfoldable pub FindsRoot : Option HandleValue → Result Text Refused → Type 0
FindsRoot = InView IsViewRoot

unfoldable pub FindsProof : Text → Option HandleValue → Result Text Refused → Type 0
FindsProof bytes = InView (IsProofAt bytes)

-- ---- plans

abbrev pub IsPlan : View → View → HandleValue → Type 0
IsPlan a b (held.Plan messages) = messages.items ≡ plan a b
IsPlan a b _ = ⊥

-- what the second view's chain is owed that is proved from the first's
abbrev pub IsPlanFrom : View → Option HandleValue → Option HandleValue → Answer → Type 0
IsPlanFrom a None new answer = StaysEmpty Empty new answer
IsPlanFrom a (Some (held.View b)) new answer = IsMade (IsPlan a b.value) new answer
IsPlanFrom a (Some other) new answer = StaysEmpty OtherKind new answer

abbrev pub IsPlanOf : Option HandleValue → Option HandleValue → Option HandleValue → Answer → Type 0
IsPlanOf None b new answer = StaysEmpty Empty new answer
IsPlanOf (Some (held.View a)) b new answer = IsPlanFrom a.value b new answer
IsPlanOf (Some other) b new answer = StaysEmpty OtherKind new answer

unfoldable pub MakesPlan : Option HandleValue → Option HandleValue → Option HandleValue → Option HandleValue → Answer → Type 0
MakesPlan a b = OfEmptyOrFull (IsPlanOf a b)
