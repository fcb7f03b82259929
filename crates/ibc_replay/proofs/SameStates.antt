-- Worlds that keep the same entries are in the same states.
use Rattle.std.proofs.Common.{◌≡◌, ℕ, List, [], ◌∷◌, length, map, filter, refl, sym, ap, ◌∙◌, Some, slice_get, option_map, arith}
use Rattle.std.proofs.lemmas.List.{length-map}
use Rattle.std.proofs.lemmas.Option.{slice_get-map}
use Rattle.ibc_ids.specs.declared.publication.Publication.{Publication}
use Rattle.ibc_machine.specs.declared.entry.Entry.{Entry}
use Rattle.ibc_machine.specs.chain.Records.{MachineChain}
use Rattle.ibc_machine.specs.chain.Genesis.{GenesisState, start}
use Rattle.ibc_machine.specs.ledger.Replay.{LedgerState, StampedEntry, entry_answer, replay, starting_state}
use Rattle.ibc_machine.specs.ledger.Ledgers.{Ledger, state_of}
use Rattle.ibc_machine.specs.ledger.Merge.{is_of_chain, published_along}
use Rattle.ibc_machine.specs.promises.Worlds.{entries}
use Rattle.ibc_refinement.specs.World.{WorldState, kept_entries, IsWorld}
use Rattle.ibc_refinement.proofs.ChangedPlaces.{get_there, get_within, same_places}
use Rattle.ibc_refinement.proofs.world.Nothing.{history_at}

-- the state after a history is a function of its entries
replayed : (genesis : GenesisState) (k : ℕ) (seen : List Publication) (state : LedgerState) (one other : List StampedEntry)
    → map (λ (e : StampedEntry). e.entry) one ≡ map (λ (e : StampedEntry). e.entry) other → replay genesis k seen state one ≡ replay genesis k seen state other
replayed genesis k seen state [] [] same = refl
replayed genesis k seen state [] (e ∷ other) same = absurd (cc)
replayed genesis k seen state (e ∷ one) [] same = absurd (cc)
replayed genesis k seen state (e ∷ one) (f ∷ other) same =
    let first : e.entry ≡ f.entry = cc in
    let rest : map (λ (x : StampedEntry). x.entry) one ≡ map (λ (x : StampedEntry). x.entry) other = cc in
    ap (λ (x : Entry). replay genesis k seen (entry_answer genesis k seen state (record { entry = x; stamp = e.stamp })).1 one) first
    ∙ replayed genesis k seen (entry_answer genesis k seen state f).1 one other rest

module _ (v w : WorldState) (is_v : IsWorld v) (is_w : IsWorld w) (genesis : v.genesis ≡ w.genesis) (kept : kept_entries v ≡ kept_entries w) where
  publications : is_v.publications ≡ is_w.publications
  publications =
      sym is_v.merges.blocks
      ∙ (λ i. published_along (map (λ (c : MachineChain). c.time) (start (genesis i))) (kept i))
      ∙ is_w.merges.blocks

  as_many : length v.ledgers ≡ length w.ledgers
  as_many = is_v.of.all ∙ ap (λ (g : GenesisState). length g.chains) genesis ∙ sym is_w.of.all

  same_state : (k : ℕ) (l m : Ledger) → slice_get v.ledgers k ≡ Some l → slice_get w.ledgers k ≡ Some m → state_of l ≡ state_of m
  same_state k l m here there =
      let of_l = is_v.of.each k l here in
      let of_m = is_w.of.each k m there in
      let g : l.genesis ≡ m.genesis = of_l.0 ∙ genesis ∙ sym of_m.0 in
      let n : l.chain ≡ m.chain = of_l.1 ∙ sym of_m.1 in
      let s : l.seen ≡ m.seen = is_v.seen k l here ∙ publications ∙ sym (is_w.seen k m there) in
      let e : entries l ≡ entries m =
      sym (is_v.merges.each k (entries l) (history_at v.ledgers k l here))
      ∙ ap (filter (is_of_chain k)) kept
      ∙ is_w.merges.each k (entries m) (history_at w.ledgers k m there)
      in
      (λ i. replay (g i) (n i) (s i) (starting_state (g i) (n i)) l.history)
      ∙ replayed m.genesis m.chain m.seen (starting_state m.genesis m.chain) l.history m.history e

  pub same_states : map state_of v.ledgers ≡ map state_of w.ledgers
  same_states = same_places (map state_of v.ledgers) (map state_of w.ledgers) (length-map v.ledgers state_of ∙ as_many ∙ sym (length-map w.ledgers state_of)) (λ k x y now was.
      let low = get_within (map state_of v.ledgers) k x now in
      let lower = get_within (map state_of w.ledgers) k y was in
      let l = get_there v.ledgers k (omega (arith, low, length-map v.ledgers state_of)) in
      let m = get_there w.ledgers k (omega (arith, lower, length-map w.ledgers state_of)) in
      let at_l : Some (state_of l.0) ≡ Some x = sym (slice_get-map state_of v.ledgers k ∙ ap (option_map state_of) l.1) ∙ now in
      let at_m : Some (state_of m.0) ≡ Some y = sym (slice_get-map state_of w.ledgers k ∙ ap (option_map state_of) m.1) ∙ was in
      let one : state_of l.0 ≡ x = cc in
      let other : state_of m.0 ≡ y = cc in
      sym one ∙ same_state k l.0 m.0 l.1 m.1 ∙ other)
