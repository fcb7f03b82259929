-- Ledgers that are put into chains, and taken out of them with what receipts claim.
use Rattle.std.proofs.Common.{◌≡◌, ◌∙◌, ◌==◌, true, false, cond, ℕ, suc, List, [], ◌∷◌, ◌++◌, append_assoc, filter, inl, inr, length, map, Result, Ok, Err, IfOk, ap, arith, sym, subst, refl}
use Rattle.std.specs.List.{All, list_all, range_with_len}
use Rattle.std.proofs.lemmas.List.{append-nil, map-append}
use Rattle.std.proofs.lemmas.List.Elements.{All-append, All-cons, All-nil}
use Rattle.ibc_ids.specs.declared.refusal.Refusal.{Refusal}
use Rattle.ibc_machine.specs.chain.Genesis.{GenesisState}
use Rattle.ibc_root_table.specs.Passes.{TableName}
use Rattle.ibc_ledger.specs.LedgerModel.{LedgerModel}
use Rattle.ibc_ledger_lock.specs.ReceiptsAndReadings.{HasAnswered, IsEarlierOnItsChain, IsOfWorld, ReceiptModel}
use Rattle.ibc_machine.specs.promises.Worlds.{is_complete, of_chain}
use Rattle.ibc_world_core.specs.WorldAudits.{AreOfOneWorld, IsAudit, is_whole}
use Rattle.ibc_world_core.specs.WorldModel.{ledgers_alone}
use Rattle.ibc_world_core.specs.declared.holdings.Audit.{Audit}
use Rattle.ibc_world_core.specs.EveryAudit.{AreLawful}
use Rattle.ibc_race.proofs.Booked.{Booked, at_place}
use Rattle.ibc_race.specs.SharedWorlds.{AreBroken, AreGathered, IsAuditOf, has_each, numbers_of}

-- one chain more is made
pub one_more_made : (f : Booked → ℕ) (made after : List ℕ) (left rest all : List Booked) (x : Booked) (n : ℕ) → after ≡ made ++ n ∷ [] → n ≡ f x
    → left ≡ x ∷ rest → made ++ map f left ≡ map f all → after ++ map f rest ≡ map f all
one_more_made f made after left rest all x n pushed is next before =
    ap (λ l. l ++ map f rest) pushed ∙ append_assoc made (n ∷ []) (map f rest) ∙ ap (λ m. made ++ m ∷ map f rest) is
    ∙ ap (λ l. made ++ map f l) (sym next) ∙ before

-- all chains are made
pub all_made : (f : Booked → ℕ) (made : List ℕ) (left all : List Booked) → left ≡ [] → made ++ map f left ≡ map f all → made ≡ map f all
all_made f made left all none before = sym (append-nil made) ∙ ap (λ l. made ++ map f l) (sym none) ∙ before

pub one_world : (table : TableName) (genesis : GenesisState) (ledgers : List LedgerModel) → All (IsOfWorld table genesis) ledgers → AreOfOneWorld ledgers
one_world table genesis ledgers all first at k h there =
    let a = at_place (IsOfWorld table genesis) ledgers 0 first all at in
    let b = at_place (IsOfWorld table genesis) ledgers k h all there in
    (b.0 ∙ sym a.0, b.1 ∙ sym a.1)

-- one more is taken out, and one less is left
pub one_more_taken : {X : Type 0} (f : X → ℕ) (before after : List X) (x : X) (left rest all : List ℕ) (n : ℕ) → after ≡ before ++ x ∷ [] → f x ≡ n → left ≡ n ∷ rest
    → map f before ++ left ≡ all → map f after ++ rest ≡ all
one_more_taken f before after x left rest all n pushed is next so_far =
    ap (λ l. map f l ++ rest) pushed ∙ ap (λ l. l ++ rest) (map-append f before (x ∷ [])) ∙ append_assoc (map f before) (f x ∷ []) rest
    ∙ ap (λ m. map f before ++ m ∷ rest) is ∙ ap (λ l. map f before ++ l) (sym next) ∙ so_far

-- one ledger more is taken out
module _ (table : TableName) (genesis : GenesisState) (receipts : List ReceiptModel) (readings : List LedgerModel) where
  pub gathered : (ledgers after : List LedgerModel) (held : LedgerModel) → after ≡ ledgers ++ held ∷ []
      → AreGathered table genesis receipts readings ledgers → IsOfWorld table genesis held
      → HasAnswered receipts held → All (IsEarlierOnItsChain held) readings → AreGathered table genesis receipts readings after
  gathered ledgers after held pushed before world answered once =
      let Read : LedgerModel → Type 0 = λ h. All (IsEarlierOnItsChain h) readings in
      let with_one : (P : LedgerModel → Type 0) → All P ledgers → P held → All P (ledgers ++ held ∷ []) =
      λ P all one. All-append P ledgers (held ∷ []) all (All-cons P held [] one (All-nil P)) in
      subst (AreGathered table genesis receipts readings) (sym pushed) (
        with_one (IsOfWorld table genesis) before.0 world,
        with_one (HasAnswered receipts) before.1 answered,
        with_one Read before.2 once,
      )

pub audited : (table : TableName) (genesis : GenesisState) (numbers : List ℕ) (receipts : List ReceiptModel) (readings ledgers : List LedgerModel) (answer : Result Audit Refusal)
    → numbers_of ledgers ≡ numbers → AreGathered table genesis receipts readings ledgers → IfOk answer (IsAudit ledgers) → IfOk answer (AreLawful ledgers)
    → IfOk answer (IsAuditOf table genesis numbers receipts readings)
audited table genesis numbers receipts readings ledgers (Ok audit) are_numbers are is lawful = (ledgers, are_numbers, are, is, lawful)
audited table genesis numbers receipts readings ledgers (Err refusal) are_numbers are is lawful = tt

-- ---- why an audit is refused

-- as many ledgers of a chain as its number is there
counted : (k : ℕ) (ledgers : List LedgerModel) → length (of_chain k (ledgers_alone ledgers)) ≡ length (filter (λ (n : ℕ). n == k) (numbers_of ledgers))
counted k [] = refl
counted k (held ∷ ledgers) =
    let alone = of_chain k (ledgers_alone ledgers) in
    let numbers = filter (λ (n : ℕ). n == k) (numbers_of ledgers) in
    elim (held.ledger.chain == k) as (λ b. length (cond b (held.ledger ∷ alone) alone) ≡ length (cond b (held.ledger.chain ∷ numbers) numbers)) [
      | true ↦ ap suc (counted k ledgers)
      | false ↦ counted k ledgers
    ]

complete_same : (genesis : GenesisState) (ledgers : List LedgerModel) → is_complete genesis (ledgers_alone ledgers) ≡ has_each genesis (numbers_of ledgers)
complete_same genesis ledgers i = list_all (λ k. counted k ledgers i == 1) (range_with_len 0 (length genesis.chains))

pub broken : (table : TableName) (genesis : GenesisState) (numbers : List ℕ) (receipts : List ReceiptModel) (readings ledgers : List LedgerModel) → numbers_of ledgers ≡ numbers
    → AreGathered table genesis receipts readings ledgers → is_whole ledgers ≡ false → AreBroken genesis numbers
broken table genesis numbers receipts readings [] same are not_whole = inl (sym same)
broken table genesis numbers receipts readings (first ∷ others) same are not_whole =
    let of : first.ledger.genesis ≡ genesis = (are.0 0 first (omega arith)).1 in
    inr (ap (has_each genesis) (sym same) ∙ sym (complete_same genesis (first ∷ others)) ∙ ap (λ (g : GenesisState). is_complete g (ledgers_alone (first ∷ others))) (sym of) ∙ not_whole)
