-- A world whose ledgers only saw more is a world, with the same entries.
use Rattle.std.proofs.Common.{◌≡◌, ℕ, nat_lt, List, length, map, sym, ap, ◌∙◌, subst, Some, option_map, slice_get, arith}
use Rattle.std.specs.List.{list_all}
use Rattle.std.proofs.lemmas.List.{length-map}
use Rattle.std.proofs.lemmas.Option.{slice_get-map}
use Rattle.ibc_machine.specs.declared.entry.Entry.{Entry}
use Rattle.ibc_machine.specs.declared.event.Event.{Event}
use Rattle.ibc_machine.specs.declared.reply.Reply.{Reply}
use Rattle.ibc_machine.specs.chain.Records.{MachineChain}
use Rattle.ibc_machine.specs.chain.Genesis.{start}
use Rattle.ibc_machine.specs.ledger.Ledgers.{Ledger}
use Rattle.ibc_machine.specs.ledger.Merge.{Merges}
use Rattle.ibc_machine.specs.promises.Worlds.{entries, interleaved}
use Rattle.ibc_refinement.proofs.ChangedPlaces.{get_there, get_within, same_places}
use Rattle.ibc_refinement.specs.World.{WorldState, kept_entries, AreOfFirstChains, block_chains, IsWorld}
use Rattle.ibc_refinement.specs.Steps.{IsStep, AddsNothing}
use Rattle.ibc_refinement.proofs.world.Step.{before_of, ledgers_of, nothing_new}

-- a ledger there is one of the histories there
pub history_at : (ledgers : List Ledger) (k : ℕ) (ledger : Ledger) → slice_get ledgers k ≡ Some ledger → slice_get (map entries ledgers) k ≡ Some (entries ledger)
history_at ledgers k ledger there = slice_get-map entries ledgers k ∙ ap (option_map entries) there

-- the ledger of a history
pub ledger_at : (ledgers : List Ledger) (k : ℕ) (history : List Entry) → slice_get (map entries ledgers) k ≡ Some history → (ledger : Ledger) × (slice_get ledgers k ≡ Some ledger) × (entries ledger ≡ history)
ledger_at ledgers k history there =
    let w = get_there ledgers k (omega (arith, get_within (map entries ledgers) k history there, length-map ledgers entries)) in
    let both : Some (entries w.0) ≡ Some history = sym (history_at ledgers k w.0 w.1) ∙ there in
    (w.0, w.1, cc)

module _ (old new : WorldState) (event : Event) (given : Reply) (is : IsWorld old) (step : IsStep old event given new) (adds : AddsNothing old event given new) where
  same_publications : step.publications ≡ is.publications
  same_publications = nothing_new old new event given is step adds.each

  same_histories : map entries new.ledgers ≡ map entries old.ledgers
  same_histories =
      same_places (map entries new.ledgers) (map entries old.ledgers) (length-map new.ledgers entries ∙ step.as_many ∙ sym (length-map old.ledgers entries)) (λ k x y now was.
      let a = ledger_at new.ledgers k x now in
      let b = ledger_at old.ledgers k y was in
      sym a.2 ∙ ap entries (adds.each k b.0 a.0 b.1 a.1).1 ∙ b.2)

  -- the order kept, with the ledgers now
  abbrev after : WorldState
  after = record { genesis = old.genesis; ledgers = new.ledgers; order = old.order }

  same_kept : kept_entries after ≡ kept_entries old
  same_kept = ap (interleaved old.order) same_histories

  is_after : IsWorld after
  is_after = record {
    allowed = is.allowed;
    of = ledgers_of old new event given is step (λ k before ledger was now.
        let w = adds.each k before ledger was now in
        (ap (λ (l : Ledger). l.genesis) w.1, ap (λ (l : Ledger). l.chain) w.1));
    publications = is.publications;
    seen = λ k ledger now. step.seen k ledger now ∙ same_publications;
    within = subst (λ n. AreOfFirstChains n is.publications) (sym step.as_many) is.within;
    names = record {
      each = λ k ledger now.
          let w = before_of old new event given is step k ledger now in
          is.names.each k w.0 w.1 ∙ sym (ap (λ (l : Ledger). length l.history) (adds.each k w.0 ledger w.1 now).1);
      no_others = ap (λ n. list_all (λ i. nat_lt i n) old.order) step.as_many ∙ is.names.no_others;
    };
    turns = ap block_chains same_kept ∙ is.turns;
    merges = subst (λ hs. Merges old.genesis.window (map (λ (c : MachineChain). c.time) (start old.genesis)) hs is.publications (interleaved old.order hs)) (sym same_histories) is.merges;
  }

  after_is : after ≡ new
  after_is = λ i. record { genesis = sym step.genesis i; ledgers = new.ledgers; order = sym adds.order i }

  pub nothing_is_world : IsWorld new
  nothing_is_world = subst IsWorld after_is is_after

  pub nothing_kept : kept_entries new ≡ kept_entries old
  nothing_kept = ap (λ order. interleaved order (map entries new.ledgers)) adds.order ∙ same_kept
