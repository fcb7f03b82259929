-- The ledgers of a world are of one table.
use Rattle.std.proofs.Common.{◌≡◌, ℕ, zero, suc, ◌<◌, true, cond, eqb, List, [], ◌∷◌, length, refl, sym, ap, ◌∙◌, Some, slice_get, arith, eq-eqb}
use Rattle.std.specs.Prelude.{Bool, false, ◌||◌}
use Rattle.std.specs.List.{list_all, list_any}
use Rattle.std.proofs.lemmas.Bool.{and_from}
use Rattle.std.proofs.lemmas.List.{take_all}
use Rattle.ibc_ids.specs.Publications.{published_by, height_of}
use Rattle.ibc_ids.specs.declared.publication.Publication.{Publication}
use Rattle.ibc_machine.specs.chain.Genesis.{GenesisState}
use Rattle.ibc_machine.specs.ledger.Ledgers.{Ledger}
use Rattle.ibc_machine.specs.promises.Worlds.{AreLedgersOf, AreOfOneTable}
use Rattle.ibc_refinement.proofs.ChangedPlaces.{get_there}
use Rattle.ibc_refinement.proofs.Refined.{kept_order_is_run}
use Rattle.ibc_refinement.specs.World.{AllHaveSeen, AreOfFirstChains, OrderIsRun}

-- what its chain has published there is not nothing
pub first_published : (q : Publication) (rest : List Publication) → published_by q.chain (q ∷ rest) ≡ q ∷ published_by q.chain rest
first_published q rest = ap (λ b. cond b (q ∷ published_by q.chain rest) (published_by q.chain rest)) (eq-eqb q.chain q.chain refl)

-- a chain publishes no less where there is more
height_rest : (c : ℕ) (q : Publication) (rest : List Publication) → 0 < height_of c rest → 0 < height_of c (q ∷ rest)
height_rest c q rest some = elim (eqb q.chain c) as (λ b. 0 < length (cond b (q ∷ published_by c rest) (published_by c rest))) [ true ↦ omega arith | false ↦ some ]

pub first_within : (chains : ℕ) (q : Publication) (rest : List Publication) → AreOfFirstChains chains (q ∷ rest) → q.chain < chains
first_within chains q rest within = within q.chain (let e = ap length (first_published q rest) in omega arith)

pub rest_within : (chains : ℕ) (q : Publication) (rest : List Publication) → AreOfFirstChains chains (q ∷ rest) → AreOfFirstChains chains rest
rest_within chains q rest within c some = within c (height_rest c q rest some)

any_at : {A : Type 0} (test : A → Bool) (xs : List A) (k : ℕ) (x : A) → slice_get xs k ≡ Some x → test x ≡ true → list_any test xs ≡ true
any_at test [] k x there passes = absurd (cc)
any_at test (y ∷ xs) zero x there passes = let same : y ≡ x = cc in ap (λ b. b || list_any test xs) (ap test same ∙ passes)
any_at test (y ∷ xs) (suc k) x there passes = elim (test y) as (λ b. (b || list_any test xs) ≡ true) [ true ↦ refl | false ↦ any_at test xs k x there passes ]

module _ (genesis : GenesisState) (ledgers : List Ledger) (of : AreLedgersOf genesis ledgers) where
  known : (publications : List Publication) → AreOfFirstChains (length ledgers) publications → list_all (λ (p : Publication). list_any (λ (l : Ledger). eqb l.chain p.chain) ledgers) publications ≡ true
  known [] within = refl
  known (p ∷ publications) within =
      let at = get_there ledgers p.chain (first_within (length ledgers) p publications within) in
      let mine = (of.each p.chain at.0 at.1).1 in
      and_from (list_any (λ (l : Ledger). eqb l.chain p.chain) ledgers) (list_all (λ (p : Publication). list_any (λ (l : Ledger). eqb l.chain p.chain) ledgers) publications)
      (any_at (λ (l : Ledger). eqb l.chain p.chain) ledgers p.chain at.0 at.1 (eq-eqb at.0.chain p.chain mine))
      (known publications (rest_within (length ledgers) p publications within))

  pub one_table : (publications : List Publication) → AllHaveSeen publications ledgers → AreOfFirstChains (length ledgers) publications → AreOfOneTable publications ledgers
  one_table publications seen within = record {
    beginnings = λ k ledger there. (length publications, seen k ledger there ∙ sym (take_all (length publications) publications (omega arith)));
    own = λ k ledger there. ap (published_by ledger.chain) (seen k ledger there);
    of_chains = known publications within;
  }

pub order_is_run : OrderIsRun
order_is_run world is = (
  is.publications,
  is.seen,
  kept_order_is_run world.genesis world.order world.ledgers is.publications is.of (one_table world.genesis world.ledgers is.of is.publications is.seen is.within) is.allowed is.merges,
)
