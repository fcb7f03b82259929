-- A world of which one ledger has one entry more is a world, with that entry behind the others.
use Rattle.std.proofs.Common.{◌≡◌, ℕ, ◌+◌, ◌<◌, true, false, cond, eqb, nat_lt, List, [], ◌∷◌, ◌++◌, length, map, filter, refl, sym, ap, ◌∙◌, subst, Some, slice_get, slice_set, arith, eqb-true, eq-eqb, lt-ltb}
use Rattle.std.specs.List.{list_all, count_by}
use Rattle.std.proofs.lemmas.Bool.{and_from, false≢true}
use Rattle.std.proofs.lemmas.List.{length-map, map-append, length-append}
use Rattle.std.proofs.lemmas.List.Folds.{list_all-append}
use Rattle.std.proofs.lemmas.List.Sums.{sum_by_push}
use Rattle.ibc_ids.specs.declared.publication.Publication.{Publication}
use Rattle.ibc_machine.specs.declared.entry.Entry.{Entry}
use Rattle.ibc_machine.specs.declared.event.Event.{Event}
use Rattle.ibc_machine.specs.declared.reply.Reply.{Reply}
use Rattle.ibc_machine.specs.chain.Records.{MachineChain}
use Rattle.ibc_machine.specs.chain.Genesis.{start}
use Rattle.ibc_machine.specs.ledger.Replay.{StampedEntry}
use Rattle.ibc_machine.specs.ledger.Ledgers.{Ledger, chain_of}
use Rattle.ibc_machine.specs.ledger.Merge.{is_of_chain, ReadingFitsBefore, Merges}
use Rattle.ibc_machine.specs.promises.Worlds.{AreLedgersOf, entries, interleaved}
use Rattle.ibc_refinement.proofs.ChangedPlaces.{get_set, get_set_other, get_within, length_set, same_places}
use Rattle.ibc_refinement.proofs.RunStates.{AreOfWorld}
use Rattle.ibc_refinement.proofs.RunNext.{own_last, other_last}
use Rattle.ibc_refinement.specs.World.{WorldState, kept_entries, block_chains, IsWorld}
use Rattle.ibc_refinement.specs.Steps.{AddsIf, IsStep, AddsOne}
use Rattle.ibc_refinement.proofs.world.Together.{one_table}
use Rattle.ibc_refinement.proofs.world.Order.{kept_last}
use Rattle.ibc_refinement.proofs.world.Published.{published}
use Rattle.ibc_refinement.proofs.world.EntryBehind.{turns_last, each_last}
use Rattle.ibc_refinement.proofs.world.Step.{before_of, ledgers_of}
use Rattle.ibc_refinement.proofs.world.Nothing.{history_at, ledger_at}
use Rattle.ibc_refinement.proofs.world.One.{at, next, others, all_grown, behind}

same_here : (ledgers : List Ledger) (k j : ℕ) (a b : Ledger) → k ≡ j → slice_get ledgers k ≡ Some a → slice_get ledgers j ≡ Some b → a ≡ b
same_here ledgers k j a b same there here =
    let both : Some a ≡ Some b = sym there ∙ ap (slice_get ledgers) same ∙ here in
    cc

module _ (old new : WorldState) (event : Event) (given : Reply) (is : IsWorld old) (step : IsStep old event given new) (adds : AddsOne old event given new) where
  abbrev pub k : ℕ
  k = chain_of event

  abbrev before : Ledger
  before = (at old new event given is step adds).before

  abbrev after : Ledger
  after = (at old new event given is step adds).after

  was : slice_get old.ledgers k ≡ Some before
  was = (at old new event given is step adds).was

  now : slice_get new.ledgers k ≡ Some after
  now = (at old new event given is step adds).now

  abbrev pub e : Entry
  e = (next old new event given is step adds).0.entry

  abbrev pub list : List Entry
  list = kept_entries old

  is_own : (j : ℕ) → is_of_chain j e ≡ eqb k j
  is_own j = ap (λ x. eqb (chain_of x) j) (next old new event given is step adds).2

  own_entries : entries after ≡ entries before ++ e ∷ []
  own_entries =
      let w = next old new event given is step adds in
      ap entries w.4 ∙ map-append (λ (s : StampedEntry). s.entry) before.history (w.0 ∷ [])

  -- another ledger has the entries that it had
  other_entries : (j : ℕ) (a b : Ledger) → slice_get old.ledgers j ≡ Some a → slice_get new.ledgers j ≡ Some b → eqb k j ≡ false → entries b ≡ entries a
  other_entries j a b there here other = ap entries (others old new event given is step adds j a b there here (λ same. false≢true (sym other ∙ eq-eqb k j same))).1

  -- ---- the list

  filtered : (j : ℕ) (ledger : Ledger) → slice_get new.ledgers j ≡ Some ledger → filter (is_of_chain j) (list ++ e ∷ []) ≡ entries ledger
  filtered j ledger here =
      let w = before_of old new event given is step j ledger here in
      let own = is.merges.each j (entries w.0) (history_at old.ledgers j w.0 w.1) in
      elim (eqb k j) as (λ b. eqb k j ≡ b → filter (is_of_chain j) (list ++ e ∷ []) ≡ entries ledger) [
        | true ↦ λ same.
            let place = eqb-true k j same in
            own_last j list e (is_own j ∙ same) ∙ ap (λ xs. xs ++ e ∷ []) (own ∙ ap entries (sym (same_here old.ledgers k j before w.0 place was w.1)))
            ∙ sym own_entries ∙ ap entries (same_here new.ledgers k j after ledger place now here)
        | false ↦ λ other. other_last j list e (is_own j ∙ other) ∙ own ∙ sym (other_entries j w.0 ledger w.1 here other)
      ] refl

  histories : map entries new.ledgers ≡ slice_set (map entries old.ledgers) k (entries before ++ e ∷ [])
  histories =
      same_places (map entries new.ledgers) (slice_set (map entries old.ledgers) k (entries before ++ e ∷ []))
      (length-map new.ledgers entries ∙ step.as_many ∙ sym (length-map old.ledgers entries) ∙ sym (length_set (map entries old.ledgers) k (entries before ++ e ∷ []))) (λ j x y here there.
      let a = ledger_at new.ledgers j x here in
      elim (eqb k j) as (λ b. eqb k j ≡ b → x ≡ y) [
        | true ↦ λ same.
            let place = eqb-true k j same in
            let set = get_set (map entries old.ledgers) k (entries before ++ e ∷ []) (get_within (map entries old.ledgers) k (entries before) (history_at old.ledgers k before was)) in
            let both : Some (entries before ++ e ∷ []) ≡ Some y = sym set ∙ ap (slice_get (slice_set (map entries old.ledgers) k (entries before ++ e ∷ []))) place ∙ there in
            let one : entries before ++ e ∷ [] ≡ y = cc in
            sym a.2 ∙ ap entries (sym (same_here new.ledgers k j after a.0 place now a.1)) ∙ own_entries ∙ one
        | false ↦ λ other.
            let set = get_set_other (map entries old.ledgers) k j (entries before ++ e ∷ []) (λ same. false≢true (sym other ∙ eq-eqb k j same)) in
            let b = ledger_at old.ledgers j y (sym set ∙ there) in
            sym a.2 ∙ other_entries j b.0 a.0 b.1 a.1 other ∙ b.2
      ] refl)

  -- the order with this chain behind, and the ledgers now
  abbrev world : WorldState
  world = record { genesis = old.genesis; ledgers = new.ledgers; order = old.order ++ k ∷ [] }

  kept : kept_entries world ≡ list ++ e ∷ []
  kept = ap (interleaved (old.order ++ k ∷ [])) histories ∙ kept_last old.order old.ledgers is.names k before e was

  -- ---- the ledgers

  of_new : AreLedgersOf old.genesis new.ledgers
  of_new =
      ledgers_of old new event given is step λ j a b there here.
      elim (eqb k j) as (λ x. AddsIf x event given a b → (b.genesis ≡ a.genesis) × (b.chain ≡ a.chain)) [
        | true ↦ λ w. (ap (λ (l : Ledger). l.genesis) w.4, ap (λ (l : Ledger). l.chain) w.4)
        | false ↦ λ w. (ap (λ (l : Ledger). l.genesis) w.1, ap (λ (l : Ledger). l.chain) w.1)
      ] (adds.each j a b there here)

  named : (j : ℕ) (ledger : Ledger) → slice_get new.ledgers j ≡ Some ledger → count_by (λ n. eqb n j) (old.order ++ k ∷ []) ≡ length ledger.history
  named j ledger here =
      let w = before_of old new event given is step j ledger here in
      let push = sum_by_push (λ n. cond (eqb n j) 1 0) old.order k in
      let names = is.names.each j w.0 w.1 in
      push ∙ elim (eqb k j) as (λ x. AddsIf x event given w.0 ledger → count_by (λ n. eqb n j) old.order + cond x 1 0 ≡ length ledger.history) [
        | true ↦ λ w'. let long = ap (λ (l : Ledger). length l.history) w'.4 ∙ length-append w.0.history (w'.0 ∷ []) in omega (arith, names, long)
        | false ↦ λ w'. let long = ap (λ (l : Ledger). length l.history) w'.1 in omega (arith, names, long)
      ] (adds.each j w.0 ledger w.1 here)

  all_named : list_all (λ n. nat_lt n (length new.ledgers)) (old.order ++ k ∷ []) ≡ true
  all_named =
      ap (λ m. list_all (λ n. nat_lt n m) (old.order ++ k ∷ [])) step.as_many ∙ list_all-append (λ n. nat_lt n (length old.ledgers)) old.order (k ∷ [])
      ∙ and_from (list_all (λ n. nat_lt n (length old.ledgers)) old.order) (list_all (λ n. nat_lt n (length old.ledgers)) (k ∷ [])) is.names.no_others
      (and_from (nat_lt k (length old.ledgers)) true (lt-ltb k (length old.ledgers) adds.known) refl)

  -- ---- the merge

  within : list_all (λ (entry : Entry). nat_lt (chain_of entry.event) (length old.ledgers)) (list ++ e ∷ []) ≡ true
  within =
      let low : chain_of e.event < length old.ledgers = subst (λ x. chain_of x < length old.ledgers) (sym (next old new event given is step adds).2) adds.known in
      list_all-append (λ (entry : Entry). nat_lt (chain_of entry.event) (length old.ledgers)) list (e ∷ [])
      ∙ and_from (list_all (λ (entry : Entry). nat_lt (chain_of entry.event) (length old.ledgers)) list) (list_all (λ (entry : Entry). nat_lt (chain_of entry.event) (length old.ledgers)) (e ∷ []))
      (ap (λ n. list_all (λ (entry : Entry). nat_lt (chain_of entry.event) n) list) (sym (length-map old.ledgers entries)) ∙ is.merges.no_others)
      (and_from (nat_lt (chain_of e.event) (length old.ledgers)) true (lt-ltb (chain_of e.event) (length old.ledgers) low) refl)

  turns : block_chains (list ++ e ∷ []) ≡ map (λ (p : Publication). p.chain) step.publications
  turns =
      let b = behind old new event given is step adds in
      let more = (next old new event given is step adds).1 in
      let chain = λ (p : Publication). p.chain in
      turns_last list e ∙ (λ i. is.turns i ++ sym b.chains i) ∙ sym (map-append chain is.publications more) ∙ ap (map chain) (sym (all_grown old new event given is step adds))

  are : AreOfWorld old.genesis new.ledgers step.publications
  are = record { of = of_new; table = one_table old.genesis new.ledgers of_new step.publications step.seen step.within }

  merges : Merges old.genesis.window (map (λ (c : MachineChain). c.time) (start old.genesis)) (map entries new.ledgers) step.publications (list ++ e ∷ [])
  merges = record {
    each = λ j history there. let a = ledger_at new.ledgers j history there in filtered j a.0 a.1 ∙ a.2;
    no_others = ap (λ n. list_all (λ (entry : Entry). nat_lt (chain_of entry.event) n) (list ++ e ∷ [])) (length-map new.ledgers entries ∙ step.as_many) ∙ within;
    blocks = published old.genesis new.ledgers step.publications are (list ++ e ∷ []) filtered
        (ap (λ n. list_all (λ (entry : Entry). nat_lt (chain_of entry.event) n) (list ++ e ∷ [])) step.as_many ∙ within) turns;
    readings = each_last (ReadingFitsBefore old.genesis.window) [] list e is.merges.readings (behind old new event given is step adds).reads;
  }

  is_world : IsWorld world
  is_world = record {
    allowed = is.allowed;
    of = of_new;
    publications = step.publications;
    seen = step.seen;
    within = step.within;
    names = record { each = named; no_others = all_named };
    turns = ap block_chains kept ∙ turns;
    merges = subst (Merges old.genesis.window (map (λ (c : MachineChain). c.time) (start old.genesis)) (map entries new.ledgers) step.publications) (sym kept) merges;
  }

  world_is : world ≡ new
  world_is = λ i. record { genesis = sym step.genesis i; ledgers = new.ledgers; order = sym adds.order i }

  pub one_is_world : IsWorld new
  one_is_world = subst IsWorld world_is is_world

  pub one_kept : kept_entries new ≡ list ++ e ∷ []
  one_kept = ap (λ order. interleaved order (map entries new.ledgers)) adds.order ∙ kept
