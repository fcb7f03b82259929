-- A view of a ledger: what stood at its last committed block, and the tree that is kept of it.
use Rattle.ibc_ledger.proofs.Common.{◌≡◌, ℕ, zero, suc, ◌-◌, ◌≤◌, ◌^◌, ◌<◌, Bool, true, false, List, [], ◌∷◌, length, refl, sym, ap, ◌∙◌, subst, Option, Some, None, option_map, slice_get, arith, lt-ltb, length-map, Core, Apps, Block}
use Rattle.ibc_ledger.proofs.Common.{image, LedgerState, Ledger, published_as, state_of, kept_at, RecordsModel, passed_count, provable_block, kept_of, IsStateOf, IsReplayedState, genesis_of, ledger_of, IsSoundLedger, Inside}
use Rattle.std.proofs.Common.{nat_lt}
use Rattle.std.specs.Prelude.{min, IsSome}
use Rattle.std.specs.List.{last_or}
use Rattle.ibc_ids.specs.Publications.{height_of as height_in}
use Rattle.ibc_merkle.specs.Tree.{Pairs}
use Rattle.ibc_machine.specs.ics24.Image.{IsKeyed}
use Rattle.ibc_machine.specs.chain.Machine.{block_of}
use Rattle.ibc_machine.specs.ics18.Relay.{View, view_at, view_of}
use Rattle.ibc_path_store.specs.StoreModel.{height_of}
use Rattle.ibc_records.specs.RecordsModel.{LastBlock}
use Rattle.ibc_root_table.specs.Publications.{IsWithin}
use Rattle.ibc_root_table.specs.declared.shape.Shape.{Shape}
use Rattle.ibc_ledger.specs.ProvedView.{HasSpellings, IsProved}
use Rattle.ibc_ledger.specs.ReplayedState.{last_block}
use Rattle.ibc_ledger.proofs.Holding.{kept_block}
use Rattle.ibc_ledger.proofs.Windows.{small_capacity}
use Rattle.ibc_ledger.proofs.SpelledProofs.{last_spelled, last_keyed}

-- ---- the last of a list

some_last : {A : Type 0} (x : A) (xs : List A) → (y : A) × (last_or (Some x) xs ≡ Some y)
some_last x [] = (x, refl)
some_last x (y ∷ ys) = some_last y ys

get_last : {A : Type 0} (x : A) (xs : List A) → slice_get (x ∷ xs) (length xs) ≡ last_or (Some x) xs
get_last x [] = refl
get_last x (y ∷ ys) = get_last y ys

none_last : {A : Type 0} (xs : List A) → last_or None xs ≡ None → length xs ≡ 0
none_last [] none = refl
none_last (x ∷ xs) none = let last = some_last x xs in absurd (cc (last.1, none))

last_there : {A : Type 0} (xs : List A) → 0 < length xs → (y : A) × (last_or None xs ≡ Some y)
last_there [] some = absurd (omega (arith, some))
last_there (x ∷ xs) some = some_last x xs

last_provable : (window : ℕ) → 0 < window → (blocks : List Block) → 0 < length blocks → provable_block window blocks (length blocks) ≡ last_or None blocks
last_provable window some [] below = absurd (omega (arith, below))
last_provable window some (x ∷ xs) below =
    let e : nat_lt (passed_count window (x ∷ xs)) (length (x ∷ xs)) ≡ true = lt-ltb (passed_count window (x ∷ xs)) (length (x ∷ xs)) (omega (arith, some, below)) in
    ap (λ (c : Bool). elim c as (λ _. Option Block) [ true ↦ block_of (length (x ∷ xs)) (x ∷ xs) | false ↦ None ]) e ∙ get_last x xs

-- ---- views

module _ (window : ℕ) (some : 0 < window) (state : LedgerState) (held : RecordsModel) (apps : Apps) (holds : IsStateOf window state held apps) where
  abbrev blocks : List Block
  blocks = state.chain.committed

  -- the tree that is kept of the last height is over what stood there
  pub last_kept : 0 < length blocks → kept_at held.store (length blocks) ≡ Some (image held.last.core, held.last.time)
  last_kept below =
      let last = last_there blocks below in
      kept_block window state.chain held.store holds.keeps (length blocks)
      ∙ ap (option_map kept_of) (last_provable window some blocks below ∙ last.1)
      ∙ sym (ap (λ b. Some (image b.core, b.time)) (holds.last ∙ ap last_block last.1))

  view_parts : (k : ℕ) (o : Option Block) → (o ≡ None → length blocks ≡ 0)
      → view_at k state.chain o ≡ record { chain = k; height = length blocks; time = (last_block o).time; working_time = state.chain.time; core = (last_block o).core }
  view_parts k None none = λ i. record { chain = k; height = sym (none refl) i; time = 0; working_time = state.chain.time; core = (last_block None).core }
  view_parts k (Some last) none = refl

  -- the view, from what the calls on the records say
  pub view_is : (k height time working : ℕ) (core : Core) → height ≡ length blocks → time ≡ held.last.time → working ≡ held.store.time → core ≡ held.last.core
      → let view : View = record { chain = k; height = height; time = time; working_time = working; core = core } in view ≡ view_of k state.chain
  view_is k height time working core eh et ew ec =
      (λ i. record {
        chain = k;
        height = eh i;
        time = (et ∙ ap (λ b. b.time) holds.last) i;
        working_time = (ew ∙ holds.time) i;
        core = (ec ∙ ap (λ b. b.core) holds.last) i;
      })
      ∙ sym (view_parts k (last_or None blocks) (none_last blocks))

module _ (ledger : Ledger) (held : RecordsModel) (apps : Apps) (stands : IsReplayedState ledger held apps) (some : 0 < ledger.genesis.window) (height : ℕ) (is : height ≡ length (state_of ledger).chain.committed) where
  kept : 0 < height → kept_at held.store height ≡ Some (image held.last.core, held.last.time)
  kept low =
      ap (kept_at held.store) is ∙ last_kept ledger.genesis.window some (state_of ledger) held apps stands.holds (subst (λ n. 0 < n) is low)

  pub is_kept : 0 < height → IsSome (kept_at held.store height)
  is_kept low = subst (λ (o : Option (Pairs × ℕ)). IsSome o) (sym (kept low)) refl

  -- the tree proves what stood there
  pub proved : (core : Core) → core ≡ held.last.core → (tree : Option Pairs) → (0 < height → tree ≡ option_map (λ kept. kept.0) (kept_at held.store height)) → IsProved height core tree
  proved core same tree of =
      let stood = λ (b : LastBlock). b.core in
      let kept_core = same ∙ ap stood stands.holds.last in
      record {
        keyed = subst IsKeyed (sym kept_core) (last_keyed ledger stands.is);
        proved = λ low.
            let last = last_there (state_of ledger).chain.committed (subst (λ n. 0 < n) is low) in
            record {
              is = of low ∙ ap (option_map (λ kept. kept.0)) (kept low) ∙ ap (λ c. Some (image c)) (sym same);
              spelled = subst HasSpellings (sym (kept_core ∙ ap (λ o. (last_block o).core) last.1)) (last_spelled ledger stands.is last.0 last.1);
            };
      }

-- a ledger has committed no more than its table has room for
module _ (l : Inside) (held : IsSoundLedger l) (within : IsWithin l.table.value.shape l.pass.seen) where
  by_count : (n : ℕ) → height_in l.node.number l.pass.seen ≡ n → n ≤ 1000000
  by_count zero e = omega arith
  by_count (suc n) e =
      let most = (within l.node.number (omega (arith, e))).1 in
      let shape = ap (λ (s : Shape). s.capacity) held.shape in
      let small = small_capacity (genesis_of l) held.allowed in
      omega (arith, e, most, shape, small)

  pub height_is : (height : ℕ) → height ≡ min (height_of l.node.records.store) (2 ^ 64 - 1) → height ≡ length (state_of (ledger_of l)).chain.committed
  height_is height e =
      let n = by_count _ (ap length held.stands.is.published ∙ length-map (state_of (ledger_of l)).chain.committed (published_as l.node.number)) in
      let h = held.stands.holds.height in
      omega (arith, e, n, h)
