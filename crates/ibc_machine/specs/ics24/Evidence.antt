-- What a handler is: what it knows of its own chain, how it judges what a message says of another, and what it
-- answers (ICS 24, "Host environment"; ICS 2, "Client state verification functions").
use Rattle.std.specs.Prelude.{ℕ, Bool, not, ◌^◌, ◌-◌, ◌==◌, Ok, Err, ⊤}
use Rattle.ibc_ids.specs.Texts.{Text}
use Rattle.ibc_ids.specs.declared.refusal.Refusal.TheVariants.{WrongHeader, NoConsensus, BadProof, NumberFull, Pruned}
use Rattle.ibc_wire.specs.declared.header.Header.{Header}
use Rattle.ibc_machine.specs.declared.reply.Effect.{Effect}
use Rattle.ibc_machine.specs.chain.Records.{Core, is_known_height}
use Rattle.ibc_machine.specs.ics24.Values.{Claim}
use Rattle.ibc_machine.specs.chain.Checks.{Checked, require, ◌>>=◌}

-- the chain's number among so many chains, and its working height and time
pub record Host : Type 0 where
  pub chain : ℕ
  pub chains : ℕ
  pub height : ℕ
  pub time : ℕ

-- what stands where a header's chain published the header's height: the header's time and root, others, or
-- nothing any more
pub data PublishedRow : Type 0 where
  Same : PublishedRow
  Different : PublishedRow
  Gone : PublishedRow

pub record Evidence : Type 0 where
  -- how many heights a chain has published
  pub published : ℕ → ℕ
  -- what stands at the height of a header, which is published
  pub row : Header → PublishedRow
  -- the time of a height that the client knows
  pub time_at : Text → ℕ → ℕ
  -- the bytes are a proof
  pub is_proof : Text → Bool
  -- the proof shows the claim of the client's chain, at a height that the client knows
  pub shows : Text → ℕ → Claim → Text → Bool

-- ---- handlers

-- What a chain does with a message, by this evidence and as this host: the effect, with the core and what an
-- application keeps after it, or the refusal of the first check that failed
abbrev pub Handler : Type 0 → Type 0
Handler A = Evidence → Host → Core → A → Checked (Effect × Core × A)

-- the same of a message in which no application takes part
abbrev pub CoreHandler : Type 0
CoreHandler = Evidence → Host → Core → Checked (Effect × Core)

-- it leaves what applications keep
abbrev pub core_handler : {A : Type 0} → CoreHandler → Handler A
core_handler handler evidence host core app =
    handler evidence host core >>= λ ((effect, after) : Effect × Core). Ok (effect, after, app)

-- ---- checks

-- the header is the published one
abbrev pub require_row : PublishedRow → Checked ⊤
require_row Same = Ok tt
require_row Different = Err WrongHeader
require_row Gone = Err Pruned

-- the number may still be used
abbrev pub require_number : ℕ → Checked ⊤
require_number n = require (not (n == 2 ^ 64 - 1)) NumberFull

-- the client knows the height
abbrev pub require_known : Core → Text → ℕ → Checked ⊤
require_known core client height = require (is_known_height core client height) NoConsensus

-- the proof shows the claim
abbrev pub require_proof : Evidence → Text → ℕ → Claim → Text → Checked ⊤
require_proof evidence client height claim proof = require (evidence.shows client height claim proof) BadProof
