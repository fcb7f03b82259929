-- Of which denominations the first ledgers of a world hold something.
use Rattle.std.proofs.Common.{◌≡◌, ℕ, ◌+◌, ◌<◌, true, false, List, length, refl, sym, ap, ◌∙◌, subst, Some, slice_get, eqb, eqb-true, eq-eqb, inl, inr, arith}
use Rattle.std.proofs.lemmas.Bool.{false≢true, cases_lt}
use Rattle.ibc_ledger.specs.LedgerModel.{LedgerModel}
use Rattle.ibc_refinement.proofs.ChangedPlaces.{get_within}
use Rattle.ibc_world_core.specs.WorldModel.{ledgers_alone}
use Rattle.ibc_world_core.specs.Totals.{HoldsDenominations, AllHold, FirstHold}
use Rattle.ibc_world_core.proofs.Rounds.{plain_get, plain_length}

pub one_more_holds : (n : ℕ) (list : List LedgerModel) (h : LedgerModel) → FirstHold n (ledgers_alone list) → slice_get list n ≡ Some h → HoldsDenominations h.ledger → FirstHold (n + 1) (ledgers_alone list)
one_more_holds n list h first there holds j ledger low here =
    elim (eqb n j) as (λ t. eqb n j ≡ t → HoldsDenominations ledger) [
      | true ↦ λ same.
          let both : Some h.ledger ≡ Some ledger = sym (plain_get list n h there) ∙ ap (slice_get (ledgers_alone list)) (eqb-true n j same) ∙ here in
          let one : h.ledger ≡ ledger = cc in
          subst HoldsDenominations one holds
      | false ↦ λ apart.
          let away : n ≡ j → ⊥ = λ same. false≢true (sym apart ∙ eq-eqb n j same) in
          let below : j < n = elim (cases_lt j n) [ inl lower ↦ lower | inr above ↦ absurd (away (omega arith)) ] in
          first j ledger below here
    ] refl

pub all_hold : (list : List LedgerModel) → FirstHold (length list) (ledgers_alone list) → AllHold (ledgers_alone list)
all_hold list first k ledger there =
    let inside = get_within (ledgers_alone list) k ledger there in
    let l = plain_length list in
    first k ledger (omega (arith, inside, l)) there
