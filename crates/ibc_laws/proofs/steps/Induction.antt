-- What holds at the start and is kept by every step holds after each run.
use Rattle.std.proofs.Common.{◌≡◌, true, sym, subst, List, [], ◌∷◌, ◌++◌, append_assoc, append-nil, map}
use Rattle.std.specs.List.{list_all}
use Rattle.ibc_machine.specs.chain.Genesis.{GenesisState, start}
use Rattle.ibc_machine.specs.chain.Machine.{World, IsRun, Step}
use Rattle.ibc_machine.specs.ledger.Ledgers.{is_typed}
use Rattle.ibc_machine.specs.promises.Histories.{Happened}
use Rattle.ibc_machine.specs.promises.Laws.{IsPast}
use Rattle.ibc_laws.proofs.basics.PassedTests.{both}

module _ (genesis : GenesisState) (P : List Happened → World → Type 0)
    (step : (happened : List Happened) (old : World) (h : Happened) (new : World) → is_typed h.0 ≡ true → P happened old → Step genesis old h.0 h.1 new → P (happened ++ h ∷ []) new) where
  run_keeps : (before : List Happened) (old : World) (happened : List Happened) (new : World) → P before old
      → list_all (λ (h : Happened). is_typed h.0) happened ≡ true
      → IsRun genesis old (map (λ (h : Happened). h.0) happened) (map (λ (h : Happened). h.1) happened) new
      → P (before ++ happened) new
  run_keeps before old [] new holds typed run =
      subst (λ x. P x new) (sym (append-nil before)) (subst (P before) (sym run) holds)
  run_keeps before old (h ∷ happened) new holds typed run =
      let types = both (is_typed h.0) _ typed in
      subst (λ x. P x new) (append_assoc before (h ∷ []) happened)
      (run_keeps (before ++ h ∷ []) run.0 happened new (step before old h run.0 types.0 holds run.1) types.1 run.2)

  pub past_has : P [] (start genesis) → (happened : List Happened) (world : World) → IsPast genesis happened world
      → P happened world
  past_has begin happened world past = run_keeps [] (start genesis) happened world begin past.typed past.run
