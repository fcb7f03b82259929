-- The ledgers of a genesis, which begin one after another.
use Rattle.std.proofs.Common.{◌≡◌, ℕ, suc, ◌+◌, ◌<◌, ◌≤◌, ◌&&◌, leb, List, [], ◌∷◌, ◌++◌, length, sym, ap, ◌∙◌, subst, Some, slice_get, arith, length-append, inl, inr}
use Rattle.std.specs.Prelude.{IsTrue}
use Rattle.std.specs.List.{list_all}
use Rattle.std.proofs.lemmas.Bool.{cases_lt, and_parts, leb-true}
use Rattle.ibc_machine.specs.chain.Genesis.{GenesisState, ChainState, is_fair, has_limits, is_allowed}
use Rattle.ibc_root_table.specs.Passes.{TableName, Sight, AreDealt, unused_pass}
use Rattle.ibc_ledger.specs.LedgerModel.{LedgerModel}
use Rattle.ibc_machine.proofs.Members.{get_left}
use Rattle.ibc_refinement.proofs.ChangedPlaces.{get_last, get_within, get_there}
use Rattle.ibc_refinement.specs.World.{new_ledger, AreNew, IsWorld}
use Rattle.ibc_refinement.proofs.world.New.{new_is_world}
use Rattle.ibc_world_core.specs.WorldModel.{AreBegun, AllAtTable, ledgers_alone}
use Rattle.ibc_world_core.proofs.Rounds.{plain_get, plain_length}

-- the passes that are left are for the ledgers that are still to come
pub record BegunSoFar (genesis : GenesisState) (table : TableName) (left : List Sight) (ledgers : List LedgerModel) : Type 0 where
  pub total : length ledgers + length left ≡ length genesis.chains
  pub passes : (k : ℕ) (p : Sight) → slice_get left k ≡ Some p → p ≡ unused_pass table (Some (length ledgers + k))
  pub each : (k : ℕ) (h : LedgerModel) → slice_get ledgers k ≡ Some h → h ≡ record { ledger = new_ledger genesis k; table = table }

module _ (genesis : GenesisState) (table : TableName) where
  pub none_begun : (n : ℕ) (passes : List Sight) → n ≡ length genesis.chains → AreDealt n 0 table passes → BegunSoFar genesis table passes []
  none_begun n passes all dealt = record {
    total = let total = dealt.total in omega arith;
    passes = λ k p there.
        let low = get_within passes k p there in
        let total = dealt.total in
        let own = dealt.own k (omega arith) in
        let both : Some p ≡ Some (unused_pass table (Some k)) = sym there ∙ own in
        let one : p ≡ unused_pass table (Some k) = cc in
        let place : k ≡ length {A = LedgerModel} [] + k = omega arith in
        one ∙ ap (λ n. unused_pass table (Some n)) place;
    each = λ k h there. absurd (let none = get_within [] k h there in omega arith);
  }

  module _ (left rest : List Sight) (p : Sight) (ledgers : List LedgerModel) (first : left ≡ p ∷ rest) (so_far : BegunSoFar genesis table left ledgers) where
    pub one_is_left : length ledgers < length genesis.chains
    one_is_left = let total = so_far.total in let long = ap length first in omega arith

    pub next_pass : p ≡ unused_pass table (Some (length ledgers))
    next_pass = so_far.passes 0 p (ap (λ l. slice_get l 0) first) ∙ ap (λ n. unused_pass table (Some n)) (omega arith)

    pub one_more_begun : (n : ℕ) (h : LedgerModel) → n ≡ length ledgers → h ≡ record { ledger = new_ledger genesis n; table = table } → BegunSoFar genesis table rest (ledgers ++ h ∷ [])
    one_more_begun n h number new =
        let longer = length-append ledgers (h ∷ []) in
        record {
          total = let total = so_far.total in let long = ap length first in omega arith;
          passes = λ k q there. so_far.passes (suc k) q (ap (λ l. slice_get l (suc k)) first ∙ there) ∙ ap (λ m. unused_pass table (Some m)) (omega arith);
          each = λ k g there.
              let within = get_within (ledgers ++ h ∷ []) k g there in
              elim (cases_lt k (length ledgers)) [
                | inl low ↦ so_far.each k g (sym (get_left ledgers (h ∷ []) k low) ∙ there)
                | inr past ↦
                    let same : k ≡ n = omega arith in
                    let last : k ≡ length ledgers = omega arith in
                    let both : Some g ≡ Some h = sym there ∙ ap (slice_get (ledgers ++ h ∷ [])) last ∙ get_last ledgers h in
                    let one : g ≡ h = cc in
                    one ∙ new ∙ ap (λ m. record { ledger = new_ledger genesis m; table = table }) (sym same)
              ];
        }

  pub all_begun : (left : List Sight) (ledgers : List LedgerModel) → length left ≡ 0 → BegunSoFar genesis table left ledgers → AreBegun genesis table ledgers
  all_begun left ledgers none so_far = record {
    all = let total = so_far.total in omega arith;
    each = so_far.each;
  }

-- an allowed genesis has chains
pub some_chains : (genesis : GenesisState) → IsTrue (is_allowed genesis) → 2 ≤ length genesis.chains
unfolding is_allowed
some_chains genesis allowed =
    let n = length genesis.chains in
    let front = and_parts (leb 2 n && leb n 8 && has_limits genesis) (list_all (λ (chain : ChainState). list_all (is_fair chain.balances) chain.balances) genesis.chains) allowed in
    leb-true 2 n (and_parts (leb 2 n) (leb n 8) (and_parts (leb 2 n && leb n 8) (has_limits genesis) front.0).0).0

module _ (genesis : GenesisState) (table : TableName) (ledgers : List LedgerModel) (begun : AreBegun genesis table ledgers) where
  pub begun_are_new : AreNew genesis (ledgers_alone ledgers)
  begun_are_new = record {
    all = plain_length ledgers ∙ begun.all;
    each = λ k ledger there.
        let low = get_within (ledgers_alone ledgers) k ledger there in
        let at = get_there ledgers k (subst (λ n. k < n) (plain_length ledgers) low) in
        let both : Some ledger ≡ Some at.0.ledger = sym there ∙ plain_get ledgers k at.0 at.1 in
        let one : ledger ≡ at.0.ledger = cc in
        one ∙ ap (λ (h : LedgerModel). h.ledger) (begun.each k at.0 at.1);
  }

  pub begun_is_world : (order : List ℕ) → order ≡ [] → IsTrue (is_allowed genesis) → IsWorld (record { genesis = genesis; ledgers = ledgers_alone ledgers; order = order })
  begun_is_world order none allowed =
      subst (λ o. IsWorld (record { genesis = genesis; ledgers = ledgers_alone ledgers; order = o })) (sym none) (new_is_world genesis (ledgers_alone ledgers) allowed begun_are_new)

  pub begun_at_one_table : (h : LedgerModel) → slice_get ledgers 0 ≡ Some h → AllAtTable h.table ledgers
  begun_at_one_table h first k g there =
      ap (λ (x : LedgerModel). x.table) (begun.each k g there) ∙ sym (ap (λ (x : LedgerModel). x.table) (begun.each 0 h first))
