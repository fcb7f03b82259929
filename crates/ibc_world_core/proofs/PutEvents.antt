-- An event that was put to one ledger of a list was put to a world.
use Rattle.std.proofs.Common.{◌≡◌, ℕ, ◌<◌, true, false, eqb, List, [], ◌∷◌, ◌++◌, length, refl, sym, ap, ◌∙◌, subst, Some, slice_get, slice_set, arith, inl, inr, eqb-true, eq-eqb}
use Rattle.std.proofs.lemmas.Bool.{false≢true}
use Rattle.ibc_ids.specs.declared.refusal.Refusal.TheVariants.{NoMemory}
use Rattle.ibc_machine.specs.declared.event.Event.{Event}
use Rattle.ibc_machine.specs.declared.reply.Reply.{Reply}
use Rattle.ibc_machine.specs.declared.reply.Reply.TheVariants as reply
use Rattle.ibc_machine.specs.chain.Genesis.{GenesisState}
use Rattle.ibc_machine.specs.ledger.Ledgers.{Ledger, SeesMore, chain_of, AddsNext}
use Rattle.ibc_ledger.specs.LedgerModel.{LedgerModel}
use Rattle.ibc_refinement.proofs.ChangedPlaces.{get_within, get_set, get_set_other, length_set}
use Rattle.ibc_refinement.specs.Steps.{AddsIf, AllSeeMore, is_answered}
use Rattle.ibc_refinement.specs.Meetings.{IsPut}
use Rattle.ibc_refinement.proofs.world.Meetings.{same_one, sees_itself, all_see_themselves, all_see_with}
use Rattle.ibc_world_core.specs.WorldModel.{ledgers_alone, SameTables}
use Rattle.ibc_world_core.proofs.Rounds.{plain_get, plain_set, plain_length}

module _ (genesis : GenesisState) (ledgers : List LedgerModel) (order : List ℕ) (event : Event) (given : Reply) (before after : LedgerModel) (there : slice_get ledgers (chain_of event) ≡ Some before) where
  inside : chain_of event < length (ledgers_alone ledgers)
  inside = let w = get_within ledgers (chain_of event) before there in let l = plain_length ledgers in omega arith

  as_many : length (ledgers_alone (slice_set ledgers (chain_of event) after)) ≡ length (ledgers_alone ledgers)
  as_many = ap length (plain_set ledgers (chain_of event) after) ∙ length_set (ledgers_alone ledgers) (chain_of event) after.ledger

  pub put_nothing : given ≡ reply.No NoMemory → SeesMore before.ledger after.ledger
      → IsPut (record { genesis = genesis; ledgers = ledgers_alone ledgers; order = order }) event given (record { genesis = genesis; ledgers = ledgers_alone (slice_set ledgers (chain_of event) after); order = order })
  put_nothing no_memory sees = record {
    genesis = refl;
    as_many = as_many;
    adds = inl (record {
      no_memory = λ known. no_memory;
      unknown = λ past. absurd (let w = inside in omega arith);
      order = refl;
      each = subst (AllSeeMore (ledgers_alone ledgers)) (sym (plain_set ledgers (chain_of event) after))
          (all_see_with (ledgers_alone ledgers) (ledgers_alone ledgers) (chain_of event) before.ledger after.ledger (all_see_themselves (ledgers_alone ledgers)) (plain_get ledgers (chain_of event) before there) sees);
    });
  }

  one_adds : AddsNext before.ledger event given after.ledger → (k : ℕ) (x y : Ledger) → slice_get (ledgers_alone ledgers) k ≡ Some x → slice_get (slice_set (ledgers_alone ledgers) (chain_of event) after.ledger) k ≡ Some y
      → AddsIf (eqb (chain_of event) k) event given x y
  one_adds adds k x y was now =
      elim (eqb (chain_of event) k) as (λ t. eqb (chain_of event) k ≡ t → AddsIf t event given x y) [
        | true ↦ λ same.
            let place = eqb-true (chain_of event) k same in
            let set = get_set (ledgers_alone ledgers) (chain_of event) after.ledger inside in
            let one : before.ledger ≡ x = same_one (ledgers_alone ledgers) k before.ledger x (ap (slice_get (ledgers_alone ledgers)) (sym place) ∙ plain_get ledgers (chain_of event) before there) was in
            let two : after.ledger ≡ y = same_one (slice_set (ledgers_alone ledgers) (chain_of event) after.ledger) k after.ledger y (ap (slice_get (slice_set (ledgers_alone ledgers) (chain_of event) after.ledger)) (sym place) ∙ set) now in
            subst (λ (z : Ledger × Ledger). AddsNext z.0 event given z.1) (λ i. (one i, two i)) adds
        | false ↦ λ apart.
            let away : chain_of event ≡ k → ⊥ = λ same. false≢true (sym apart ∙ eq-eqb (chain_of event) k same) in
            let one : x ≡ y = same_one (ledgers_alone ledgers) k x y was (sym (get_set_other (ledgers_alone ledgers) (chain_of event) k after.ledger away) ∙ now) in
            subst (SeesMore x) one (sees_itself x)
      ] refl

  pub put_one : is_answered given ≡ true → AddsNext before.ledger event given after.ledger
      → IsPut (record { genesis = genesis; ledgers = ledgers_alone ledgers; order = order }) event given (record { genesis = genesis; ledgers = ledgers_alone (slice_set ledgers (chain_of event) after); order = order ++ chain_of event ∷ [] })
  put_one answered adds = record {
    genesis = refl;
    as_many = as_many;
    adds = inr (record {
      known = inside;
      answered = answered;
      order = refl;
      each = λ k x y was now. one_adds adds k x y was (ap (λ l. slice_get l k) (sym (plain_set ledgers (chain_of event) after)) ∙ now);
    });
  }

-- ---- tables

one_there : (list : List LedgerModel) (k : ℕ) (a b : LedgerModel) → slice_get list k ≡ Some a → slice_get list k ≡ Some b → a ≡ b
one_there list k a b there here =
    let both : Some a ≡ Some b = sym there ∙ here in
    cc

pub same_tables : (ledgers : List LedgerModel) (k : ℕ) (before after : LedgerModel) → slice_get ledgers k ≡ Some before → after.table ≡ before.table → SameTables ledgers (slice_set ledgers k after)
same_tables ledgers k before after there same j g h was now =
    elim (eqb k j) as (λ t. eqb k j ≡ t → h.table ≡ g.table) [
      | true ↦ λ here.
          let place = eqb-true k j here in
          let set = get_set ledgers k after (get_within ledgers k before there) in
          let one = one_there (slice_set ledgers k after) j after h (ap (slice_get (slice_set ledgers k after)) (sym place) ∙ set) now in
          let two = one_there ledgers j before g (ap (slice_get ledgers) (sym place) ∙ there) was in
          ap (λ (x : LedgerModel). x.table) (sym one) ∙ same ∙ ap (λ (x : LedgerModel). x.table) two
      | false ↦ λ apart.
          let away : k ≡ j → ⊥ = λ here. false≢true (sym apart ∙ eq-eqb k j here) in
          ap (λ (x : LedgerModel). x.table) (one_there ledgers j h g (sym (get_set_other ledgers k j after away) ∙ now) was)
    ] refl

-- ---- where the place and the order are given otherwise

is_answered_by : (given : Reply) → (given ≡ reply.No NoMemory → ⊥) → is_answered given ≡ true
is_answered_by (reply.No NoMemory) not = absurd (not refl)
is_answered_by _ not = refl

module _ (genesis : GenesisState) (ledgers : List LedgerModel) (order order' : List ℕ) (event : Event) (given : Reply) (before after : LedgerModel) (place : ℕ) (is : place ≡ chain_of event)
    (there : slice_get ledgers place ≡ Some before) where
  at_chain : slice_get ledgers (chain_of event) ≡ Some before
  at_chain = ap (slice_get ledgers) (sym is) ∙ there

  pub nothing_at : order' ≡ order → given ≡ reply.No NoMemory → SeesMore before.ledger after.ledger
      → IsPut (record { genesis = genesis; ledgers = ledgers_alone ledgers; order = order }) event given (record { genesis = genesis; ledgers = ledgers_alone (slice_set ledgers place after); order = order' })
  nothing_at same no_memory sees =
      subst (λ (z : ℕ × List ℕ). IsPut (record { genesis = genesis; ledgers = ledgers_alone ledgers; order = order }) event given (record { genesis = genesis; ledgers = ledgers_alone (slice_set ledgers z.0 after); order = z.1 }))
      (λ i. (sym is i, sym same i)) (put_nothing genesis ledgers order event given before after at_chain no_memory sees)

  pub one_at : order' ≡ order ++ chain_of event ∷ [] → (given ≡ reply.No NoMemory → ⊥) → AddsNext before.ledger event given after.ledger
      → IsPut (record { genesis = genesis; ledgers = ledgers_alone ledgers; order = order }) event given (record { genesis = genesis; ledgers = ledgers_alone (slice_set ledgers place after); order = order' })
  one_at same not adds =
      subst (λ (z : ℕ × List ℕ). IsPut (record { genesis = genesis; ledgers = ledgers_alone ledgers; order = order }) event given (record { genesis = genesis; ledgers = ledgers_alone (slice_set ledgers z.0 after); order = z.1 }))
      (λ i. (sym is i, sym same i)) (put_one genesis ledgers order event given before after at_chain (is_answered_by given not) adds)
