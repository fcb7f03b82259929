-- One step of a message where all that stands is fit: the machine's answer is the ledger's.
use Rattle.std.proofs.Common.{◌≡◌, ℕ, Option, Some, List, slice_get, slice_set}
use Rattle.ibc_ids.specs.Texts.{Text}
use Rattle.ibc_ids.specs.declared.publication.Publication.{Publication}
use Rattle.ibc_wire.specs.declared.messages.Message.{Message}
use Rattle.ibc_wire.specs.declared.messages.Message.TheVariants as message
use Rattle.ibc_machine.specs.declared.event.Event.TheVariants as event
use Rattle.ibc_machine.specs.declared.entry.Reading.{Reading}
use Rattle.ibc_machine.specs.chain.Genesis.{GenesisState}
use Rattle.ibc_machine.specs.chain.Records.{Core, Block}
use Rattle.ibc_machine.specs.ics24.Values.{Claim}
use Rattle.ibc_machine.specs.chain.Machine.{World, answer, block_at, true_marks}
use Rattle.ibc_machine.specs.ledger.Replay.{LedgerState, ledger_answer}
use Rattle.ibc_machine.specs.ics23.HashedTexts.{message_texts}
use Rattle.ibc_merkle.proofs.Accepted.{IsClear}
use Rattle.ibc_refinement.proofs.Agreeing.{Asked}
use Rattle.ibc_refinement.proofs.SameAnswers.{AllAsked}
use Rattle.ibc_refinement.proofs.LedgerSteps.{KnowsBlocks, ClearIn, SeesForMessage, oldest_of, message_step}
use Rattle.ibc_refinement.proofs.Clear.{AreFit, IsFitClaim, clear_from_fit}
use Rattle.ibc_refinement.proofs.Typed.{IsTyped}
use Rattle.ibc_refinement.proofs.TypedMessages.{IsTypedMessage}
use Rattle.ibc_refinement.proofs.FitClaims.{AreHashed, asks_fit}

-- what is asked, for a weaker word
pub asked_weaker : (asked other : Asked) (core : Core) (m : Message) → ((claim : Claim) (bytes : Text) → asked claim bytes → other claim bytes) → AllAsked asked core m → AllAsked other core m
asked_weaker asked other core (message.ConnOpenTry m) f a = (f _ _ a.0, f _ _ a.1)
asked_weaker asked other core (message.ConnOpenAck m) f a = λ mine is. (f _ _ (a mine is).0, f _ _ (a mine is).1)
asked_weaker asked other core (message.ConnOpenConfirm m) f a = λ mine peer is named. f _ _ (a mine peer is named)
asked_weaker asked other core (message.ChanOpenTry m) f a = f _ _ a
asked_weaker asked other core (message.ChanOpenAck m) f a = λ mine is. f _ _ (a mine is)
asked_weaker asked other core (message.ChanOpenConfirm m) f a = λ mine is state. f _ _ (a mine is state)
asked_weaker asked other core (message.ChanCloseConfirm m) f a = λ mine is state. f _ _ (a mine is state)
asked_weaker asked other core (message.RecvPacket m) f a = f _ _ a
asked_weaker asked other core (message.AckPacket m) f a = f _ _ a
asked_weaker asked other core (message.Timeout m) f a = λ mine is. f _ _ (a mine is)
asked_weaker asked other core (message.TimeoutOnClose m) f a = λ mine is. (f _ _ (a mine is).0, f _ _ (a mine is).1)
asked_weaker asked other core m f a = tt

-- all committed records are fit
abbrev pub AllFit : (Text → Type 0) → World → Type 0
AllFit S world = (chain height : ℕ) (block : Block) → block_at world chain height ≡ Some block → AreFit S block.records.core

pub fit_step : (S : Text → Type 0) → IsClear S → (genesis : GenesisState) (world : World) (k : ℕ) (seen : List Publication) (reading : Option Reading) (state : LedgerState) (m : Message)
    → AllFit S world → slice_get world k ≡ Some state.chain → KnowsBlocks world state → SeesForMessage genesis.window world seen reading state m
    → IsTyped state.chain.records.core → IsTypedMessage m → AreHashed S (message_texts m)
    → answer true_marks genesis (oldest_of reading) world (event.Message k m)
    ≡ ((ledger_answer genesis k seen reading state (event.Message k m)).0, slice_set world k (ledger_answer genesis k seen reading state (event.Message k m)).1.chain)
fit_step S clear genesis world k seen reading state m fit there known sees typed t hashed =
    message_step genesis world k seen reading state m there known sees
    (asked_weaker (IsFitClaim S) (ClearIn world) state.chain.records.core m
    (λ claim bytes a chain height block is. clear_from_fit S clear block.records.core claim bytes (fit chain height block is) a)
    (asks_fit S state.chain.records.core m typed t hashed))
