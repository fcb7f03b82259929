-- Ledgers by the numbers of their chains are the ledgers of a genesis, and so an audit's histories are a run.
use Rattle.std.proofs.Common.{◌≡◌, ℕ, zero, suc, ◌+◌, Bool, true, false, cond, eqb, List, [], ◌∷◌, ◌++◌, length, filter, refl, sym, ap, ◌∙◌, subst, Some, slice_get, arith, eqb-true, eq-eqb, inl, inr, Contains}
use Rattle.std.specs.List.{list_all, list_any, flat_map, range_with_len}
use Rattle.std.proofs.lemmas.Bool.{and_parts, and_from, or_left, or_right}
use Rattle.ibc_ids.specs.Texts.{Text}
use Rattle.ibc_ids.specs.declared.publication.Publication.{Publication}
use Rattle.ibc_machine.specs.chain.Genesis.{GenesisState}
use Rattle.ibc_machine.specs.ledger.Ledgers.{Ledger}
use Rattle.ibc_machine.specs.ics23.HashedTexts.{ledger_texts, HasNoClash}
use Rattle.ibc_machine.specs.promises.Worlds.{AreLedgersOf, AreOfOneTable, of_chain, by_number, is_complete}
use Rattle.ibc_machine.proofs.Members.{Is_in, in_flat_map, in_flat_map_from, contains_in, in_contains}
use Rattle.ibc_refinement.specs.Stamps.{merged_by_stamps}
use Rattle.ibc_refinement.specs.Audits.{AreOfGenesis, AuditIsRun}
use Rattle.ibc_refinement.proofs.ChangedPlaces.{get_there}
use Rattle.ibc_refinement.proofs.PlacedLedgers.{any_there}
use Rattle.ibc_refinement.proofs.StampsMerged.{stamps_merge, stamped_is_run}

in_get : {A : Type 0} (x : A) (xs : List A) → Is_in x xs → (j : ℕ) × (slice_get xs j ≡ Some x)
in_get x [] i = absurd i
in_get x (y ∷ xs) (inl e) = (0, ap Some (sym e))
in_get x (y ∷ xs) (inr i) = let w = in_get x xs i in (suc w.0, w.1)

any_from : {A : Type 0} (test : A → Bool) (xs : List A) (j : ℕ) (x : A) → slice_get xs j ≡ Some x → test x ≡ true → list_any test xs ≡ true
any_from test [] j x e h = absurd (cc)
any_from test (y ∷ xs) zero x e h = let same : y ≡ x = cc in or_left (test y) (list_any test xs) (ap test same ∙ h)
any_from test (y ∷ xs) (suc j) x e h = or_right (test y) (list_any test xs) (any_from test xs j x e h)

all_mapped : {A : Type 0} (one other : A → Bool) (xs : List A) → ((x : A) → one x ≡ true → other x ≡ true) → list_all one xs ≡ true → list_all other xs ≡ true
all_mapped one other [] f h = refl
all_mapped one other (x ∷ xs) f h =
    let parts = and_parts (one x) (list_all one xs) h in
    and_from (other x) (list_all other xs) (f x parts.0) (all_mapped one other xs f parts.1)

in_filtered : {A : Type 0} (test : A → Bool) (xs : List A) (x : A) → Is_in x (filter test xs) → Is_in x xs × (test x ≡ true)
in_filtered test [] x i = absurd i
in_filtered test (y ∷ xs) x i =
    elim (test y) as (λ b. test y ≡ b → Is_in x (cond b (y ∷ filter test xs) (filter test xs)) → Is_in x (y ∷ xs) × (test x ≡ true)) [
      | true ↦ λ is i. elim i [ inl e ↦ (inl e, ap test e ∙ is) | inr r ↦ let w = in_filtered test xs x r in (inr w.0, w.1) ]
      | false ↦ λ _ i. let w = in_filtered test xs x i in (inr w.0, w.1)
    ] refl i

-- the one element of a list
only_one : {A : Type 0} (xs : List A) → length xs ≡ 1 → (x : A) × (xs ≡ x ∷ [])
only_one [] e = absurd (omega arith)
only_one (x ∷ []) e = (x, refl)
only_one (x ∷ y ∷ xs) e = absurd (omega arith)

module _ (ledgers : List Ledger) where
  -- the ledgers of chains a, a + 1 and so on
  abbrev from_number : ℕ → ℕ → List Ledger
  from_number a n = flat_map (λ k. of_chain k ledgers) (range_with_len a n)

  abbrev is_whole : ℕ → ℕ → Bool
  is_whole a n = list_all (λ k. eqb (length (of_chain k ledgers)) 1) (range_with_len a n)

  pub record InOrder (a n : ℕ) : Type 0 where
    pub as_many : length (from_number a n) ≡ n
    pub each : (i : ℕ) (l : Ledger) → slice_get (from_number a n) i ≡ Some l → (l.chain ≡ a + i) × Is_in l ledgers

  in_order : (n a : ℕ) → is_whole a n ≡ true → InOrder a n
  in_order zero a whole = record { as_many = refl; each = λ i l e. absurd (cc) }
  in_order (suc n) a whole =
      let parts = and_parts (eqb (length (of_chain a ledgers)) 1) (is_whole (a + 1) n) whole in
      let one = only_one (of_chain a ledgers) (eqb-true (length (of_chain a ledgers)) 1 parts.0) in
      let x = one.0 in
      let listed = in_filtered (λ (l : Ledger). eqb l.chain a) ledgers x (subst (Is_in x) (sym one.1) (inl refl)) in
      let rest = in_order n (a + 1) parts.1 in
      let whole_is : from_number a (suc n) ≡ x ∷ from_number (a + 1) n = ap (λ xs. xs ++ from_number (a + 1) n) one.1 in
      record {
        as_many = ap length whole_is ∙ ap suc rest.as_many;
        each = λ i l e. by_place x listed rest i l (ap (λ xs. slice_get xs i) (sym whole_is) ∙ e);
      }
    where
      by_place : (x : Ledger) → Is_in x ledgers × (eqb x.chain a ≡ true) → InOrder (a + 1) n → (i : ℕ) (l : Ledger) → slice_get (x ∷ from_number (a + 1) n) i ≡ Some l → (l.chain ≡ a + i) × Is_in l ledgers
      by_place x listed rest zero l e =
          let same : x ≡ l = cc in
          let chain = eqb-true x.chain a listed.1 in
          let chains = ap (λ (l : Ledger). l.chain) same in
          (omega arith, subst (λ l. Is_in l ledgers) same listed.0)
      by_place x listed rest (suc i) l e = let w = rest.each i l e in (omega (arith, w.0), w.1)

module _ (genesis : GenesisState) (ledgers : List Ledger) (publications : List Publication) (of : AreOfGenesis genesis ledgers) (complete : is_complete genesis ledgers ≡ true) (table : AreOfOneTable publications ledgers) where
  order : InOrder ledgers 0 (length genesis.chains)
  order = in_order ledgers (length genesis.chains) 0 complete

  of_number : AreLedgersOf genesis (by_number genesis ledgers)
  of_number = record {
    each = λ k l there.
        let w = order.each k l there in
        let j = in_get l ledgers w.1 in
        let g = of j.0 l j.1 in
        (g.0, omega (arith, w.0), g.1);
    all = order.as_many;
  }

  table_by_number : AreOfOneTable publications (by_number genesis ledgers)
  table_by_number = record {
    beginnings = λ k l there. let j = in_get l ledgers (order.each k l there).1 in table.beginnings j.0 l j.1;
    own = λ k l there. let j = in_get l ledgers (order.each k l there).1 in table.own j.0 l j.1;
    of_chains = all_mapped (λ (p : Publication). list_any (λ (l : Ledger). eqb l.chain p.chain) ledgers) (λ (p : Publication). list_any (λ (l : Ledger). eqb l.chain p.chain) (by_number genesis ledgers)) publications
        (λ p h.
        let w = any_there (λ (l : Ledger). eqb l.chain p.chain) ledgers h in
        let g = of w.0 w.1 w.2 in
        let chains = ap (λ (g : GenesisState). length g.chains) g.0 in
        let at = get_there (by_number genesis ledgers) w.1.chain (omega (arith, g.1.number, order.as_many)) in
        let same = (order.each w.1.chain at.0 at.1).0 in
        let mine = eqb-true w.1.chain p.chain w.3 in
        any_from (λ (l : Ledger). eqb l.chain p.chain) (by_number genesis ledgers) w.1.chain at.0 at.1 (eq-eqb at.0.chain p.chain (omega arith))) table.of_chains;
  }

  clash_by_number : HasNoClash ledgers → HasNoClash (by_number genesis ledgers)
  clash_by_number clash x y i j e = clash x y (among x i) (among y j) e
    where
      among : (x : Text) → Contains (flat_map ledger_texts (by_number genesis ledgers)) x → Contains (flat_map ledger_texts ledgers) x
      among x i =
          let w = in_flat_map_from ledger_texts x (by_number genesis ledgers) (in_contains x (flat_map ledger_texts (by_number genesis ledgers)) i) in
          let place = in_get w.0 (by_number genesis ledgers) w.1 in
          contains_in x (flat_map ledger_texts ledgers) (in_flat_map ledger_texts w.0 x ledgers (order.each place.0 w.0 place.1).1 w.2)

pub audit_is_run : AuditIsRun
audit_is_run genesis ledgers publications of complete table =
    let placed = of_number genesis ledgers publications of complete table in
    let along = table_by_number genesis ledgers publications of complete table in
    record {
      list = merged_by_stamps publications (by_number genesis ledgers);
      merges = stamps_merge genesis (by_number genesis ledgers) publications placed along;
      past = λ allowed clash. (stamped_is_run genesis (by_number genesis ledgers) publications placed along allowed (clash_by_number genesis ledgers publications of complete table clash)).past;
      balances_are = refl;
      notes_are = refl;
    }
