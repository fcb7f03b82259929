-- What a world tells is what the ledger of the number tells.
use Rattle.std.proofs.Common.{◌≡◌, ◌∙◌, ◌↔◌, ℕ, Bool, true, false, List, [], ◌∷◌, Option, None, Some, Result, Ok, Err, IfOk, IsNone, IsSomeAnd, IsTrue, ap, map, option_and_then, option_map, refl, slice_get, subst, sym}
use Rattle.std.specs.Option.{option_map_or}
use Rattle.ibc_ids.specs.Texts.{Text}
use Rattle.ibc_ids.specs.Paths.{path}
use Rattle.ibc_ids.specs.declared.account.Account.{Account}
use Rattle.ibc_ids.specs.declared.key.Key.{Key}
use Rattle.ibc_ids.specs.declared.refusal.Refusal.{Refusal}
use Rattle.ibc_ids.specs.declared.refusal.Refusal.TheVariants.{BadMessage}
use Rattle.std.specs.Global.{Vec}
use Rattle.ibc_merkle.specs.Written.{written_proof}
use Rattle.ibc_merkle.specs.declared.proof.Proof.{Proof}
use Rattle.ibc_machine.specs.chain.Genesis.{GenesisState, is_allowed}
use Rattle.ibc_machine.specs.chain.Records.{Block}
use Rattle.ibc_machine.specs.ics24.Image.{image}
use Rattle.ibc_machine.specs.ledger.Ledgers.{Ledger}
use Rattle.ibc_machine.specs.promises.Worlds.{AreLedgersOf}
use Rattle.ibc_bank.specs.ListedHoldings.{abstract_holding}
use Rattle.ibc_note.specs.AbstractNotes.{abstract_notes}
use Rattle.ibc_refinement.proofs.world.New.{new_is_world}
use Rattle.ibc_refinement.specs.World.{AreNew, WorldState}
use Rattle.ibc_world_core.specs.WorldAudits.{balances_of, notes_of as all_notes_of}
use Rattle.ibc_script_cli.specs.Balances.{holding_of, notes_of}
use Rattle.ibc_script_worlds.specs.WorldChains.{kept_block, proof_in}

-- ---- the ledger of a number

module _ {A E : Type 0} (tells : Ledger → Option A) (ledgers : List Ledger) (on : ℕ) where
  pub of_one : (ledger : Ledger) (r : Result (Option A) E) → Some ledger ≡ slice_get ledgers on → IfOk r (λ found. found ≡ tells ledger)
      → IfOk r (λ found. found ≡ option_and_then tells (slice_get ledgers on))
  of_one ledger (Ok found) there is = is ∙ ap (option_and_then tells) there
  of_one ledger (Err error) there is = tt

module _ {A : Type 0} (tells : Ledger → Option A) (ledgers : List Ledger) (on : ℕ) where
  pub of_this : (ledger : Ledger) (found : Option A) → Some ledger ≡ slice_get ledgers on → found ≡ tells ledger → found ≡ option_and_then tells (slice_get ledgers on)
  of_this ledger found there is = is ∙ ap (option_and_then tells) there

  pub of_no_one : None ≡ slice_get ledgers on → None ≡ option_and_then tells (slice_get ledgers on)
  of_no_one there = ap (option_and_then tells) there

module _ {A E : Type 0} (tells : Ledger → A) (else_ : A) (ledgers : List Ledger) (on : ℕ) where
  pub list_of_one : (ledger : Ledger) (r : Result A E) → Some ledger ≡ slice_get ledgers on → IfOk r (λ found. found ≡ tells ledger)
      → IfOk r (λ found. found ≡ option_map_or tells (slice_get ledgers on) else_)
  list_of_one ledger (Ok found) there is = is ∙ ap (λ (o : Option Ledger). option_map_or tells o else_) there
  list_of_one ledger (Err error) there is = tt

pub list_of_no_one : {A : Type 0} (tells : Ledger → A) (else_ : A) (ledgers : List Ledger) (on : ℕ) → None ≡ slice_get ledgers on
    → else_ ≡ option_map_or tells (slice_get ledgers on) else_
list_of_no_one tells else_ ledgers on there = ap (λ (o : Option Ledger). option_map_or tells o else_) there

-- ---- proofs

pub proved : (height : ℕ) (k : Key) (ledger : Ledger) (proof : Proof)
    → IsSomeAnd (kept_block height ledger) (λ block. proof ≡ written_proof (image block.records.core) (path k)) → Some proof ≡ proof_in height k ledger
proved height k ledger proof is = by_block (kept_block height ledger) is
  where
    by_block : (o : Option Block) → IsSomeAnd o (λ block. proof ≡ written_proof (image block.records.core) (path k))
        → Some proof ≡ option_map (λ (block : Block). written_proof (image block.records.core) (path k)) o
    by_block None not = absurd not
    by_block (Some block) same = ap Some same

pub not_proved : (height : ℕ) (k : Key) (ledger : Ledger) → IsNone (kept_block height ledger) → None ≡ proof_in height k ledger
not_proved height k ledger none = by_block (kept_block height ledger) none
  where
    by_block : (o : Option Block) → IsNone o → None ≡ option_map (λ (block : Block). written_proof (image block.records.core) (path k)) o
    by_block None is = refl
    by_block (Some block) not = absurd cc

-- ---- lists

pub same_holdings : (list : List (Account × Text × ℕ)) → map holding_of list ≡ map abstract_holding list
same_holdings [] = refl
same_holdings ((account, denom, amount) ∷ list) = ap (λ l. holding_of (account, denom, amount) ∷ l) (same_holdings list)

pub same_notes : (list : List (Text × Vec Text)) → map notes_of list ≡ map abstract_notes list
same_notes [] = refl
same_notes ((channel, notes) ∷ list) = ap (λ l. notes_of (channel, notes) ∷ l) (same_notes list)

module _ {E : Type 0} (ledgers : List Ledger) (on : ℕ) (ledger : Ledger) (there : Some ledger ≡ slice_get ledgers on) where
  told_list : {A L : Type 0} (shown listed : L → A) → ((l : L) → shown l ≡ listed l) → (tells : Ledger → A) (else_ : A) (r : Result L E)
      → IfOk r (λ l. listed l ≡ tells ledger) → IfOk r (λ l. shown l ≡ option_map_or tells (slice_get ledgers on) else_)
  told_list shown listed same tells else_ (Ok l) is = same l ∙ is ∙ ap (λ (o : Option Ledger). option_map_or tells o else_) there
  told_list shown listed same tells else_ (Err error) is = tt

pub told_balances : {E : Type 0} (r : Result (Vec (Account × Text × ℕ)) E) (ledgers : List Ledger) (on : ℕ) (ledger : Ledger) → Some ledger ≡ slice_get ledgers on
    → IfOk r (λ list. map abstract_holding list.items ≡ balances_of ledger)
    → IfOk r (λ list. map holding_of list.items ≡ option_map_or balances_of (slice_get ledgers on) [])
told_balances r ledgers on ledger there is =
    told_list ledgers on ledger there (λ (l : Vec (Account × Text × ℕ)). map holding_of l.items) (λ (l : Vec (Account × Text × ℕ)). map abstract_holding l.items)
    (λ l. same_holdings l.items) balances_of [] r is

pub told_notes : {E : Type 0} (r : Result (Vec (Text × Vec Text)) E) (ledgers : List Ledger) (on : ℕ) (ledger : Ledger) → Some ledger ≡ slice_get ledgers on
    → IfOk r (λ list. map abstract_notes list.items ≡ all_notes_of ledger)
    → IfOk r (λ list. map notes_of list.items ≡ option_map_or all_notes_of (slice_get ledgers on) [])
told_notes r ledgers on ledger there is =
    told_list ledgers on ledger there (λ (l : Vec (Text × Vec Text)). map notes_of l.items) (λ (l : Vec (Text × Vec Text)). map abstract_notes l.items)
    (λ l. same_notes l.items) all_notes_of [] r is

-- ---- the beginning

allowed_if : (b : Bool) → (b ≡ false → ⊥) → IsTrue b
allowed_if true not = refl
allowed_if false not = absurd (not refl)

-- a world that was made has ledgers of its genesis
pub new_ledgers : (genesis : GenesisState) (made : WorldState) (result : Result WorldState Refusal) → result ≡ Ok made
    → ((result ≡ Err BadMessage) ↔ (is_allowed genesis ≡ false)) → made.genesis ≡ genesis → AreNew genesis made.ledgers
    → AreLedgersOf made.genesis made.ledgers
new_ledgers genesis made result was bad same new =
    let allowed : IsTrue (is_allowed genesis) = allowed_if (is_allowed genesis) (λ none.
    let both : ◌≡◌ {A = Result WorldState Refusal} (Ok made) (Err BadMessage) = sym was ∙ bad.1 none in
    absurd cc) in
    let is = (new_is_world genesis made.ledgers allowed new).of in
    subst (λ (g : GenesisState). AreLedgersOf g made.ledgers) (sym same) is
