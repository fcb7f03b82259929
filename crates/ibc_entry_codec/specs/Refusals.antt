-- The refusals by their numbers.
use Rattle.std.specs.Prelude.{ℕ, zero, suc, List, [], ◌∷◌, slice_get, Option, None}
use Rattle.ibc_ids.specs.declared.refusal.Refusal.{Refusal}
use Rattle.ibc_ids.specs.declared.refusal.Refusal.TheVariants as refusal

-- the refusals in the order of their numbers, which begin with 1
abbrev pub refusals : List Refusal
refusals = refusal.NoMemory ∷ refusal.BadName ∷ refusal.UnknownChain ∷ refusal.OwnChain ∷ refusal.UnknownClient ∷ refusal.NotPublished ∷ refusal.WrongHeader ∷ refusal.UnknownConnection ∷ refusal.WrongState ∷ refusal.WrongPeer ∷ refusal.NoConsensus ∷ refusal.BadProof ∷ refusal.WrongSelfClient ∷ refusal.UnknownPort ∷ refusal.UnknownChannel ∷ refusal.WrongOrder ∷ refusal.WrongVersion ∷ refusal.NoTimeout ∷ refusal.TimeoutPassed ∷ refusal.AlreadyReceived ∷ refusal.OutOfOrder ∷ refusal.NoCommitment ∷ refusal.NotTimedOut ∷ refusal.TooLarge ∷ refusal.Poor ∷ refusal.CloseRefused ∷ refusal.TimeBack ∷ refusal.TableFull ∷ refusal.NumberFull ∷ refusal.BadMessage ∷ refusal.Pruned ∷ []

abbrev pub refusal_of : ℕ → Option Refusal
refusal_of zero = None
refusal_of (suc n) = slice_get refusals n
