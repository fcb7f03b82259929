-- What calls answer, and by which numbers.
use Rattle.std.specs.Prelude.{◌≡◌, ◌⊎◌, ℕ, Result, Ok, Err, ⊤}
use Rattle.ibc_ids.specs.Refusals as core
use Rattle.ibc_ids.specs.declared.refusal.Refusal.TheVariants.{BadName, NoMemory}
use Rattle.ibc_machine.specs.declared.reply.Reply.{Reply}
use Rattle.ibc_machine.specs.declared.reply.Reply.TheVariants as reply
use Rattle.ibc_calls.specs.declared.answer.Refused.{Refused}
use Rattle.ibc_calls.specs.declared.answer.Refused.TheVariants.{Core, Empty, Full, OtherKind, TooShort, NothingThere, OtherWorld, NoMessage, NoData, OtherAnswer}

abbrev pub Answer : Type 0
Answer = Result ⊤ Refused

-- the refusals of the core by their own numbers, 1 to 31, and those of calls from 101 on
abbrev pub number_of : Refused → ℕ
number_of (Core refusal) = core.number_of refusal
number_of Empty = 101
number_of Full = 102
number_of OtherKind = 103
number_of TooShort = 104
number_of NothingThere = 105
number_of OtherWorld = 106
number_of NoMessage = 107
number_of NoData = 108
number_of OtherAnswer = 109

-- 0 where nothing was refused
abbrev pub answer_number : Answer → ℕ
answer_number (Ok x) = 0
answer_number (Err refused) = number_of refused

-- the number is that of an answer of which this is so
abbrev pub Numbered : (Answer → Type 0) → ℕ → Type 0
Numbered is number = (answer : Answer) × (number ≡ answer_number answer) × is answer

-- the answer of a reply
abbrev pub answer_to : Reply → Answer
answer_to (reply.Ok effect) = Ok tt
answer_to (reply.No refusal) = Err (Core refusal)

-- the names aren't of their kinds, as this says, or memory ran out
abbrev pub IsNameRefused : Type 0 → Refused → Type 0
IsNameRefused named refused = ((refused ≡ Core BadName) × ¬ named) ⊎ (refused ≡ Core NoMemory)
