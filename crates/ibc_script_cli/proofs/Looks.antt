-- What the chains have is told.
use Rattle.std.proofs.Common.{◌≡◌, ℕ, ◌+◌, suc, List, [], ◌∷◌, ◌++◌, codes, decimal, Option, option_map, Result, refl, subst, ap}
use Rattle.std.specs.List.{range_with_len}
use Rattle.ibc_ids.specs.Texts.{Text}
use Rattle.ibc_ids.specs.declared.key.Key.{Key}
use Rattle.ibc_ids.specs.declared.refusal.Refusal.{Refusal}
use Rattle.ibc_machine.specs.declared.totals.Totals.{Totals}
use Rattle.ibc_machine.specs.ics20.Bank.{Balances}
use Rattle.ibc_script.specs.declared.script.Step.TheVariants as step
use Rattle.ibc_script_cli.specs.Completing.{IsProofBytesAt}
use Rattle.ibc_script_cli.specs.Lines.{digits_of, totals_words}
use Rattle.ibc_script_cli.specs.Runs.{Runs, WritesText, balance_lines, line_of, name_of, note_lines, relay_acts}
use Rattle.ibc_script_cli.specs.Runs.Act.{Take, TellBalances, TellNotes}
use Rattle.ibc_script_cli.specs.ScriptChains.{ScriptChains}
use Rattle.ibc_script_cli.specs.declared.chains.CommittedBlock.{CommittedBlock}
use Rattle.ibc_script_cli.proofs.Reaching.{told_text}

module _ {C : Type 0} (chains : ScriptChains C) (names : List Text) {T E : Type 0} (result : Result T E) (old : C) (before after : Option Text) (on : ℕ)
    (name : Text) (named : name ≡ name_of names on) where
  pub root_told : (height : ℕ) (found : Option CommittedBlock) → (chains.answers old).block on height found
      → WritesText result before after (line_of (name ∷ codes "root" ∷ decimal height ∷ digits_of (option_map (λ b. b.root) found) ∷ []))
      → Runs chains names (Take (step.Root on height) ∷ []) result old before old after
  root_told height found is has =
      let text : Text → Text = λ n. line_of (n ∷ codes "root" ∷ decimal height ∷ digits_of (option_map (λ (b : CommittedBlock). b.root) found) ∷ []) in
      told_text chains names result (Take (step.Root on height)) old old before after (text (name_of names on)) (refl, (found, is, refl, refl)) (subst (λ (n : Text). WritesText result before after (text n)) named has)

  pub proof_told : (height : ℕ) (key : Key) (proof : Option Text) → IsProofBytesAt (chains.answers old) (record { chain = on; height = height }) key proof
      → WritesText result before after (line_of (name ∷ codes "prove" ∷ decimal height ∷ digits_of proof ∷ []))
      → Runs chains names (Take (step.Prove on height key) ∷ []) result old before old after
  proof_told height key proof is has =
      let text : Text → Text = λ n. line_of (n ∷ codes "prove" ∷ decimal height ∷ digits_of proof ∷ []) in
      told_text chains names result (Take (step.Prove on height key)) old old before after (text (name_of names on)) (refl, (proof, is, refl, refl)) (subst (λ (n : Text). WritesText result before after (text n)) named has)

  pub totals_told : (channel denom : Text) (totals : Result Totals Refusal) → (chains.answers old).totals on channel denom totals
      → WritesText result before after (line_of (name ∷ codes "totals" ∷ totals_words channel denom totals))
      → Runs chains names (Take (step.Totals on channel denom) ∷ []) result old before old after
  totals_told channel denom totals is has =
      let text : Text → Text = λ n. line_of (n ∷ codes "totals" ∷ totals_words channel denom totals) in
      told_text chains names result (Take (step.Totals on channel denom)) old old before after (text (name_of names on)) (refl, (totals, is, refl, refl)) (subst (λ (n : Text). WritesText result before after (text n)) named has)

  pub balances_told : (balances : Balances) → (chains.answers old).balances on balances → WritesText result before after (balance_lines name balances)
      → Runs chains names (TellBalances on ∷ []) result old before old after
  balances_told balances is has =
      told_text chains names result (TellBalances on) old old before after (balance_lines (name_of names on) balances) (balances, is, refl, refl, refl)
      (subst (λ (n : Text). WritesText result before after (balance_lines n balances)) named has)

  pub notes_told : (notes : List (Text × List Text)) → (chains.answers old).notes on notes → WritesText result before after (note_lines name notes)
      → Runs chains names (TellNotes on ∷ []) result old before old after
  notes_told notes is has =
      told_text chains names result (TellNotes on) old old before after (note_lines (name_of names on) notes) (notes, is, refl, refl, refl)
      (subst (λ (n : Text). WritesText result before after (note_lines n notes)) named has)

-- ---- numbers in turn

pub next_number : (a n k : ℕ) → n ≡ suc k → range_with_len a n ≡ a ∷ range_with_len (a + 1) k
next_number a n k is = ap (range_with_len a) is

pub next_turn : (first second n k : ℕ) → n ≡ suc k → relay_acts first second n ≡ relay_acts first second 1 ++ relay_acts first second k
next_turn first second n k is = ap (relay_acts first second) is
