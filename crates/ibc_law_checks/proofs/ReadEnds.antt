-- What the ledger of an end says, where the end and the ledger are there.
use Rattle.std.proofs.Common.{◌≡◌, ℕ, refl, sym, ap, ◌∙◌, subst, List, length, Option, Some, None, Bor, slice_get}
use Rattle.std.specs.Option.{option_and_then}
use Rattle.std.specs.Slice.{IsItemAt}
use Rattle.std.proofs.lemmas.Option.{slice_get_read}
use Rattle.ibc_ids.specs.Texts.{Text}
use Rattle.ibc_machine.specs.ledger.Ledgers.{Ledger}
use Rattle.ibc_refinement.specs.World.{WorldState}
use Rattle.ibc_law_checks.specs.declared.ends.EndNotes.{EndNotes}
use Rattle.ibc_law_checks.specs.Peers.{at_end}

-- an end that was read of a list stands there
pub end_read : (ends items : List EndNotes) (i : ℕ) (end : Bor EndNotes) → items ≡ ends → IsItemAt items i (Some end) → slice_get ends i ≡ Some end.now
end_read ends items i end same is =
    subst (λ (l : List EndNotes). slice_get l i ≡ Some end.now) same (slice_get_read items (length items) i end.now refl is.3.0 is.1)

pub at_end_is : {A : Type 0} (says : Text → Text → Ledger → Option A) (world : WorldState) (ends : List EndNotes) (place : ℕ) (end : EndNotes) (ledger : Ledger)
    → slice_get ends place ≡ Some end → Some ledger ≡ slice_get world.ledgers end.chain → at_end says world ends place ≡ says end.port end.channel ledger
at_end_is says world ends place end ledger there of =
    ap (option_and_then (λ (e : EndNotes). option_and_then (says e.port e.channel) (slice_get world.ledgers e.chain))) there
    ∙ ap (option_and_then (says end.port end.channel)) (sym of)

pub at_end_none : {A : Type 0} (says : Text → Text → Ledger → Option A) (world : WorldState) (ends : List EndNotes) (place : ℕ) (end : EndNotes)
    → slice_get ends place ≡ Some end → None ≡ slice_get world.ledgers end.chain → at_end says world ends place ≡ None
at_end_none says world ends place end there none =
    ap (option_and_then (λ (e : EndNotes). option_and_then (says e.port e.channel) (slice_get world.ledgers e.chain))) there
    ∙ ap (option_and_then (says end.port end.channel)) (sym none)
