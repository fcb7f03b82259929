-- Ledgers of one world that are gathered, in any order, are audited.
use Rattle.std.proofs.Common.{◌≡◌, ℕ, zero, suc, ◌<◌, true, List, [], ◌∷◌, ◌++◌, length, map, refl, sym, ap, ◌∙◌, subst, Some, None, slice_get}
use Rattle.std.proofs.lemmas.Bool.{false≢true}
use Rattle.ibc_machine.specs.chain.Records.{MachineChain}
use Rattle.ibc_machine.specs.chain.Genesis.{GenesisState}
use Rattle.ibc_machine.specs.ledger.Ledgers.{Ledger, IsLedger, state_of, machine_of}
use Rattle.ibc_machine.specs.promises.Worlds.{IsAudited, by_number, is_complete}
use Rattle.ibc_refinement.specs.Audits.{AreOfGenesis}
use Rattle.ibc_refinement.proofs.ChangedPlaces.{get_more, get_there, get_within}
use Rattle.ibc_refinement.proofs.Audited.{audit_is_run}
use Rattle.ibc_ledger.specs.LedgerModel.{LedgerModel}
use Rattle.ibc_refinement.specs.Meetings.{HaveMet}
use Rattle.ibc_refinement.proofs.world.Gathered.{as_many, one_table}
use Rattle.ibc_refinement.proofs.world.Meetings.{all_see_themselves}
use Rattle.ibc_world_core.specs.declared.holdings.Audit.{Audit}
use Rattle.ibc_world_core.specs.declared.world.World.TheInside.{Inside}
use Rattle.ibc_world_core.specs.WorldFields.{IsSoundWorld}
use Rattle.ibc_world_core.specs.WorldModel.{ledgers_alone, AllAtTable, AreLedgers, AreAllowed}
use Rattle.ibc_world_core.specs.WorldAudits.{AreOfOneWorld, HaveStayed, is_whole, balances_of, notes_of, balances_in, notes_in, TellsAll, IsAudit}
use Rattle.ibc_world_core.proofs.Rounds.{plain_length, plain_get}
use Rattle.ibc_world_core.proofs.Firsts.{first_of}

-- ---- ledgers of one genesis

held_at : (ledgers : List LedgerModel) (k : ℕ) (ledger : Ledger) → slice_get (ledgers_alone ledgers) k ≡ Some ledger
    → (h : LedgerModel) × (slice_get ledgers k ≡ Some h) × (h.ledger ≡ ledger)
held_at [] k ledger there = absurd (cc)
held_at (h ∷ ledgers) zero ledger there = (h, refl, cc)
held_at (h ∷ ledgers) (suc k) ledger there = held_at ledgers k ledger there

module _ (ledgers : List LedgerModel) (first : LedgerModel) (at : slice_get ledgers 0 ≡ Some first) (world : AreOfOneWorld ledgers) (are : AreLedgers ledgers) where
  of_genesis : AreOfGenesis first.ledger.genesis (ledgers_alone ledgers)
  of_genesis k ledger there =
      let held = held_at ledgers k ledger there in (
        subst (λ (l : Ledger). l.genesis ≡ first.ledger.genesis) held.2 (world first at k held.0 held.1).1,
        subst IsLedger held.2 (are k held.0 held.1),
      )

  -- the chains of the genesis are the ledgers
  chains_of : is_complete first.ledger.genesis (ledgers_alone ledgers) ≡ true → (k : ℕ) (h : LedgerModel) → slice_get ledgers k ≡ Some h → length h.ledger.genesis.chains ≡ length ledgers
  chains_of complete k h there =
      ap (λ (g : GenesisState). length g.chains) (world first at k h there).1 ∙ as_many first.ledger.genesis (ledgers_alone ledgers) of_genesis complete ∙ plain_length ledgers

pub chains_are : (ledgers : List LedgerModel) → is_whole ledgers ≡ true → AreOfOneWorld ledgers → AreLedgers ledgers → (k : ℕ) (h : LedgerModel) → slice_get ledgers k ≡ Some h
    → length h.ledger.genesis.chains ≡ length ledgers
chains_are ledgers whole world are =
    let first = first_of ledgers whole in
    chains_of ledgers first.0 first.1 world are first.2

-- ---- what they hold

pub two_maps : {A : Type 0} (of : MachineChain → A) (ledgers : List Ledger) → map (λ (l : Ledger). of (state_of l).chain) ledgers ≡ map of (machine_of ledgers)
two_maps of [] = refl
two_maps of (l ∷ ledgers) = ap (λ rest. of (state_of l).chain ∷ rest) (two_maps of ledgers)

-- ---- the audit

module _ (first : LedgerModel) (others : List LedgerModel) (now : List Ledger) (audit : Audit) (world : AreOfOneWorld (first ∷ others)) (are : AreLedgers (first ∷ others)) (whole : is_whole (first ∷ others) ≡ true) (met : HaveMet (ledgers_alone (first ∷ others)) now) where
  abbrev own_genesis : GenesisState
  own_genesis = first.ledger.genesis

  abbrev gathered : List Ledger
  gathered = ledgers_alone (first ∷ others)

  run : IsAudited own_genesis gathered met.publications
      (map (λ (c : MachineChain). c.records.apps.balances) (machine_of (by_number own_genesis gathered)))
      (map (λ (c : MachineChain). c.records.apps.notes) (machine_of (by_number own_genesis gathered)))
  run =
      let of = of_genesis (first ∷ others) first refl world are in
      audit_is_run own_genesis gathered met.publications of whole (one_table own_genesis gathered of whole now met)

  told : balances_in audit ≡ map balances_of (by_number own_genesis gathered) → notes_in audit ≡ map notes_of (by_number own_genesis gathered)
      → IsAudited own_genesis gathered met.publications (balances_in audit) (notes_in audit)
  told balances notes = record {
    list = run.list;
    merges = run.merges;
    past = run.past;
    balances_are = balances ∙ two_maps (λ (c : MachineChain). c.records.apps.balances) (by_number own_genesis gathered);
    notes_are = notes ∙ two_maps (λ (c : MachineChain). c.records.apps.notes) (by_number own_genesis gathered);
  }

pub audited : (ledgers : List LedgerModel) (now : List Ledger) (audit : Audit) → is_whole ledgers ≡ true → AreOfOneWorld ledgers → AreLedgers ledgers → AreAllowed ledgers
    → HaveMet (ledgers_alone ledgers) now → TellsAll ledgers audit → IsAudit ledgers audit
audited [] now audit whole world are allowed met tells = absurd (false≢true whole)
audited (first ∷ others) now audit whole world are allowed met tells =
    let told_of = tells first refl in (
      allowed 0 first refl,
      (
        met.publications,
        one_table first.ledger.genesis (ledgers_alone (first ∷ others)) (of_genesis (first ∷ others) first refl world are) whole now met,
        told first others now audit world are whole met told_of.0 told_of.1,
      ),
    )

-- ---- fewer ledgers

pub none_are : (ledgers : List LedgerModel) → ledgers ≡ [] → AreOfOneWorld ledgers
none_are ledgers none first at =
    let nothing : Some first ≡ None = sym at ∙ ap (λ (l : List LedgerModel). slice_get l 0) none in
    absurd (cc (nothing))

pub fewer_are : (ledgers fewer gone : List LedgerModel) → AreOfOneWorld ledgers → ledgers ≡ fewer ++ gone → AreOfOneWorld fewer
fewer_are ledgers fewer gone world parts first at k h there =
    world first (ap (λ l. slice_get l 0) parts ∙ get_more fewer gone 0 first at) k h (ap (λ l. slice_get l k) parts ∙ get_more fewer gone k h there)

-- ---- a world's own ledgers

pub world_is : (w : Inside) → IsSoundWorld w → AreOfOneWorld w.ledgers.items
world_is w held first at k h there =
    let ledgers = w.ledgers.items in (
      held.tables first at k h there,
      (held.world.of.each k h.ledger (plain_get ledgers k h there)).0 ∙ sym (held.world.of.each 0 first.ledger (plain_get ledgers 0 first at)).0,
    )

-- ---- ledgers that stay

-- nothing was done
pub stays_itself : (ledgers : List LedgerModel) → HaveStayed ledgers ledgers
stays_itself ledgers = record {
  as_many = refl;
  tables = λ k g h there here. let both : Some g ≡ Some h = sym there ∙ here in let same : g ≡ h = cc in ap (λ (l : LedgerModel). l.table) (sym same);
  more = all_see_themselves (ledgers_alone ledgers);
}

-- they met
pub stays_met : (old new : List LedgerModel) → is_whole old ≡ true → AreOfOneWorld old → HaveMet (ledgers_alone old) (ledgers_alone new)
    → ((h : LedgerModel) → slice_get old 0 ≡ Some h → AllAtTable h.table new) → HaveStayed old new
stays_met old new whole world met tables =
    let first = first_of old whole in record {
      as_many = sym (plain_length new) ∙ met.as_many ∙ plain_length old;
      tables = λ k g h there here. tables first.0 first.1 k h here ∙ sym (world first.0 first.1 k g there).0;
      more = met.each;
    }

-- ledgers of one world that stay are of one world
module _ (old new : List LedgerModel) (world : AreOfOneWorld old) (stay : HaveStayed old new) where
  was_there : (k : ℕ) (h : LedgerModel) → slice_get new k ≡ Some h → (g : LedgerModel) × (slice_get old k ≡ Some g)
  was_there k h there = get_there old k (subst (λ n. k < n) stay.as_many (get_within new k h there))

  same_genesis : (k : ℕ) (g h : LedgerModel) → slice_get old k ≡ Some g → slice_get new k ≡ Some h → h.ledger.genesis ≡ g.ledger.genesis
  same_genesis k g h there here = ap (λ (l : Ledger). l.genesis) (stay.more k g.ledger h.ledger (plain_get old k g there) (plain_get new k h here)).1

  pub still_one_world : AreOfOneWorld new
  still_one_world first at k h here =
      let begun = was_there 0 first at in
      let was = was_there k h here in
      let one = world begun.0 begun.1 k was.0 was.1 in (
        stay.tables k was.0 h was.1 here ∙ one.0 ∙ sym (stay.tables 0 begun.0 first begun.1 at),
        same_genesis k was.0 h was.1 here ∙ one.1 ∙ sym (same_genesis 0 begun.0 first begun.1 at),
      )
