-- The ledgers with their table, as one of them has seen more.
use Rattle.std.proofs.Common.{◌≡◌, ℕ, zero, suc, ◌+◌, ◌<◌, List, [], ◌∷◌, length, refl, sym, ap, ◌∙◌, subst, Some, slice_get, slice_set, arith, add-one, inl, inr, eqb, true, false, eqb-true, eq-eqb}
use Rattle.std.specs.Option.{option_map}
use mathlib.Core.List.{IsPrefix}
use Rattle.std.proofs.lemmas.Bool.{false≢true, cases_lt}
use Rattle.std.proofs.lemmas.Option.{slice_get-map}
use Rattle.ibc_ids.specs.declared.publication.Publication.{Publication}
use Rattle.ibc_machine.specs.ledger.Ledgers.{Ledger, IsLedger, SeesMore}
use Rattle.ibc_root_table.specs.Passes.{TableName}
use Rattle.ibc_ledger.specs.LedgerModel.{LedgerModel}
use Rattle.ibc_refinement.proofs.ChangedPlaces.{get_within, get_set, get_set_other, length_set}
use Rattle.ibc_refinement.specs.World.{AreOfFirstChains}
use Rattle.ibc_refinement.specs.Steps.{AllSeeMore}
use Rattle.ibc_refinement.specs.Meetings.{FirstHaveSeenNoMore, FirstHaveSeen, HaveMet}
use Rattle.ibc_refinement.proofs.world.Meetings.{all_see_both, all_see_with}
use Rattle.ibc_refinement.proofs.world.Leading.{behind_more, see_more, still_behind, all_meet_first}
use Rattle.ibc_world_core.specs.WorldModel.{ledgers_alone, AllAtTable, HaveSeenMore, FirstAreLedgers}

-- ---- places

pub plain_get : (list : List LedgerModel) (k : ℕ) (h : LedgerModel) → slice_get list k ≡ Some h → slice_get (ledgers_alone list) k ≡ Some h.ledger
plain_get list k h there = slice_get-map (λ (h : LedgerModel). h.ledger) list k ∙ ap (option_map (λ (h : LedgerModel). h.ledger)) there

pub plain_set : (list : List LedgerModel) (k : ℕ) (h : LedgerModel) → ledgers_alone (slice_set list k h) ≡ slice_set (ledgers_alone list) k h.ledger
plain_set [] k h = refl
plain_set (x ∷ list) zero h = refl
plain_set (x ∷ list) (suc k) h = ap (λ l. x.ledger ∷ l) (plain_set list k h)

pub plain_length : (list : List LedgerModel) → length (ledgers_alone list) ≡ length list
plain_length [] = refl
plain_length (x ∷ list) = ap suc (plain_length list)

one_there : (list : List LedgerModel) (k : ℕ) (a b : LedgerModel) → slice_get list k ≡ Some a → slice_get list k ≡ Some b → a ≡ b
one_there list k a b there here =
    let both : Some a ≡ Some b = sym there ∙ here in
    cc

all_at_set : (table : TableName) (list : List LedgerModel) (k : ℕ) (x y : LedgerModel) → AllAtTable table list → slice_get list k ≡ Some x → y.table ≡ table → AllAtTable table (slice_set list k y)
all_at_set table list k x y all there at j h here =
    elim (eqb k j) as (λ t. eqb k j ≡ t → h.table ≡ table) [
      | true ↦ λ same.
          let set = get_set list k y (get_within list k x there) in
          let one = one_there (slice_set list k y) j y h (ap (slice_get (slice_set list k y)) (sym (eqb-true k j same)) ∙ set) here in
          ap (λ (h : LedgerModel). h.table) (sym one) ∙ at
      | false ↦ λ apart.
          let away : k ≡ j → ⊥ = λ same. false≢true (sym apart ∙ eq-eqb k j same) in
          all j h (sym (get_set_other list k j y away) ∙ here)
    ] refl

-- ---- what has been seen more

pub one_sees_more : (table : TableName) (old now : List LedgerModel) (k : ℕ) (x y : LedgerModel) → HaveSeenMore table old now → slice_get now k ≡ Some x → SeesMore x.ledger y.ledger → y.table ≡ x.table
    → HaveSeenMore table old (slice_set now k y)
one_sees_more table old now k x y so_far there sees same = record {
  as_many = length_set now k y ∙ so_far.as_many;
  tables = all_at_set table now k x y so_far.tables there (same ∙ so_far.tables k x there);
  more = subst (AllSeeMore (ledgers_alone old)) (sym (plain_set now k y)) (all_see_with (ledgers_alone old) (ledgers_alone now) k x.ledger y.ledger so_far.more (plain_get now k x there) sees);
}

-- ---- the first round

pub one_more_behind : (n : ℕ) (list : List LedgerModel) (before leader : Ledger) (other after : LedgerModel) → FirstHaveSeenNoMore n before.seen (ledgers_alone list) → SeesMore before leader → slice_get list n ≡ Some other
    → leader.seen ≡ after.ledger.seen → FirstHaveSeenNoMore (n + 1) leader.seen (ledgers_alone (slice_set list n after))
one_more_behind n list before leader other after behind sees there same =
    let more = behind_more n (ledgers_alone list) before leader other.ledger after.ledger behind sees (plain_get list n other there) (sym same) in
    subst (λ m. FirstHaveSeenNoMore m leader.seen (ledgers_alone (slice_set list n after))) (sym (add-one n))
    (subst (FirstHaveSeenNoMore (suc n) leader.seen) (sym (plain_set list n after)) more)

-- ---- the second round

pub one_is_behind : (m n : ℕ) (list : List LedgerModel) (leader first other : LedgerModel) → FirstHaveSeenNoMore m leader.ledger.seen (ledgers_alone list) → first ≡ leader → n < m → slice_get list n ≡ Some other → IsPrefix other.ledger.seen first.ledger.seen
one_is_behind m n list leader first other behind same low there =
    subst (λ (h : LedgerModel). IsPrefix other.ledger.seen h.ledger.seen) (sym same) (behind n other.ledger low (plain_get list n other there))

-- it has seen what the leader had
pub follower_sees : (first other after : LedgerModel) → IsPrefix other.ledger.seen first.ledger.seen → after ≡ record other { ledger = record other.ledger { seen = first.ledger.seen } } → SeesMore other.ledger after.ledger
follower_sees first other after behind follows =
    (behind.0, ap (λ (h : LedgerModel). h.ledger) follows ∙ ap (λ l. record other.ledger { seen = l }) (sym behind.1))

pub one_more_sees : (n : ℕ) (seen : List Publication) (list : List LedgerModel) (other after : LedgerModel) → FirstHaveSeen n seen (ledgers_alone list) → slice_get list n ≡ Some other → after.ledger.seen ≡ seen
    → FirstHaveSeen (n + 1) seen (ledgers_alone (slice_set list n after))
one_more_sees n seen list other after first there same =
    let more = see_more n seen (ledgers_alone list) other.ledger after.ledger first (plain_get list n other there) same in
    subst (λ m. FirstHaveSeen m seen (ledgers_alone (slice_set list n after))) (sym (add-one n))
    (subst (FirstHaveSeen (suc n) seen) (sym (plain_set list n after)) more)

pub others_still_behind : (m n : ℕ) (seen : List Publication) (list : List LedgerModel) (other after : LedgerModel) → FirstHaveSeenNoMore m seen (ledgers_alone list) → slice_get list n ≡ Some other → after.ledger.seen ≡ seen
    → FirstHaveSeenNoMore m seen (ledgers_alone (slice_set list n after))
others_still_behind m n seen list other after behind there same =
    subst (FirstHaveSeenNoMore m seen) (sym (plain_set list n after)) (still_behind m n seen (ledgers_alone list) other.ledger after.ledger behind (plain_get list n other there) same)

pub one_more_is : (n : ℕ) (list : List LedgerModel) (other after : LedgerModel) → FirstAreLedgers n (ledgers_alone list) → slice_get list n ≡ Some other → IsLedger after.ledger → FirstAreLedgers (n + 1) (ledgers_alone (slice_set list n after))
one_more_is n list other after first there is j ledger low here =
    let there2 = plain_get list n other there in
    let here2 : slice_get (slice_set (ledgers_alone list) n after.ledger) j ≡ Some ledger = ap (λ l. slice_get l j) (sym (plain_set list n after)) ∙ here in
    elim (eqb n j) as (λ t. eqb n j ≡ t → IsLedger ledger) [
      | true ↦ λ same.
          let set = get_set (ledgers_alone list) n after.ledger (get_within (ledgers_alone list) n other.ledger there2) in
          let both : Some after.ledger ≡ Some ledger = sym set ∙ ap (slice_get (slice_set (ledgers_alone list) n after.ledger)) (eqb-true n j same) ∙ here2 in
          let one : after.ledger ≡ ledger = cc in
          subst IsLedger one is
      | false ↦ λ apart.
          let away : n ≡ j → ⊥ = λ same. false≢true (sym apart ∙ eq-eqb n j same) in
          let below : j < n = elim (cases_lt j n) [ inl lower ↦ lower | inr above ↦ absurd (away (omega arith)) ] in
          first j ledger below (sym (get_set_other (ledgers_alone list) n j after.ledger away) ∙ here2)
    ] refl

-- ---- both

-- all publish in the table of the first
pub at_the_first : (list others : List LedgerModel) (first : LedgerModel) → list ≡ first ∷ others → ((h : LedgerModel) → slice_get list 0 ≡ Some h → AllAtTable h.table list) → AllAtTable first.table others
at_the_first list others first all tables k h there =
    tables first (ap (λ l. slice_get l 0) all) (suc k) h (ap (λ l. slice_get l (suc k)) all ∙ there)

module _ (first leader : LedgerModel) (others mid now : List LedgerModel) (sees : SeesMore first.ledger leader.ledger) (meets : HaveSeenMore first.table others mid) (follows : HaveSeenMore leader.table mid now) where
  none_lost : length now ≡ length others
  none_lost = follows.as_many ∙ meets.as_many

  all_see_more : AllSeeMore (ledgers_alone others) (ledgers_alone now)
  all_see_more = all_see_both (ledgers_alone others) (ledgers_alone mid) (ledgers_alone now) (plain_length mid ∙ meets.as_many ∙ sym (plain_length others)) meets.more follows.more

  -- the chains of the genesis are the ledgers
  within_all : (list : List LedgerModel) → list ≡ first ∷ others → ((k : ℕ) (h : LedgerModel) → slice_get list k ≡ Some h → length h.ledger.genesis.chains ≡ length list) → length leader.ledger.genesis.chains ≡ suc (length (ledgers_alone now))
  within_all list all chains =
      ap (λ (l : Ledger). length l.genesis.chains) sees.1 ∙ chains 0 first (ap (λ l. slice_get l 0) all) ∙ ap length all ∙ ap suc (sym none_lost ∙ sym (plain_length now))

  each_is : IsLedger leader.ledger → FirstAreLedgers (length now) (ledgers_alone now) → (k : ℕ) (ledger : Ledger) → slice_get (leader.ledger ∷ ledgers_alone now) k ≡ Some ledger → IsLedger ledger
  each_is is are zero ledger here =
      let both : Some leader.ledger ≡ Some ledger = here in
      let one : leader.ledger ≡ ledger = cc in
      subst IsLedger one is
  each_is is are (suc k) ledger here = are k ledger (subst (λ n. k < n) (plain_length now) (get_within (ledgers_alone now) k ledger here)) here

  pub have_met : (list : List LedgerModel) → list ≡ first ∷ others → ((k : ℕ) (h : LedgerModel) → slice_get list k ≡ Some h → length h.ledger.genesis.chains ≡ length list) → IsLedger leader.ledger
      → AreOfFirstChains (length leader.ledger.genesis.chains) leader.ledger.seen → FirstHaveSeen (length now) leader.ledger.seen (ledgers_alone now) → FirstAreLedgers (length now) (ledgers_alone now) → HaveMet (ledgers_alone list) (leader.ledger ∷ ledgers_alone now)
  have_met list all chains is within same are =
      subst (λ l. HaveMet (ledgers_alone l) (leader.ledger ∷ ledgers_alone now)) (sym all)
      (all_meet_first first.ledger leader.ledger (ledgers_alone others) (ledgers_alone now) sees (plain_length now ∙ none_lost ∙ sym (plain_length others)) all_see_more (subst (λ n. FirstHaveSeen n leader.ledger.seen (ledgers_alone now)) (sym (plain_length now)) same)
      (each_is is are) (subst (λ n. AreOfFirstChains n leader.ledger.seen) (within_all list all chains) within))
