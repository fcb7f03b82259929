-- The digests of a journal.
use Rattle.std.specs.Prelude.{◌≡◌, ◌≢◌, ◌⊎◌, length, Result, Ok, Err}
use Rattle.ibc_ids.specs.Texts.{Text}
use Rattle.ibc_ids.specs.declared.refusal.Refusal.TheVariants.{NoMemory, BadMessage}
use Rattle.ibc_journal.specs.Tables.{JournalItem}
use Rattle.ibc_journal.specs.Digests.{digest_after}
use Rattle.ibc_calls.specs.declared.answer.Refused.{Refused}
use Rattle.ibc_calls.specs.declared.answer.Refused.TheVariants.{Core}

-- the digest that is due to an entry behind this digest; or that hasn't 32 bytes, or memory ran out
abbrev pub FindsDigest : Text → JournalItem → Result Text Refused → Type 0
FindsDigest before it (Ok digest) = (length before ≡ 32) × (digest ≡ digest_after before it)
FindsDigest before it (Err why) = ((why ≡ Core BadMessage) × (length before ≢ 32)) ⊎ (why ≡ Core NoMemory)
