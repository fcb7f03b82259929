-- A world whose ledgers went on by the entries of events goes on in the machine by these events.
use Rattle.std.proofs.Common.{◌≡◌, ℕ, ◌≤◌, true, nat_lt, List, [], ◌∷◌, ◌++◌, length, map, filter, refl, sym, ap, ◌∙◌, subst, Some, option_map, slice_get, arith, ltb-true, append-nil, append_assoc, inl, inr}
use Rattle.std.specs.List.{list_all}
use Rattle.std.proofs.lemmas.Bool.{and_parts}
use Rattle.std.proofs.lemmas.Option.{slice_get-map, slice_get_past}
use Rattle.std.proofs.lemmas.List.{length-map}
use Rattle.ibc_ids.specs.declared.publication.Publication.{Publication}
use Rattle.ibc_ids.specs.declared.refusal.Refusal.TheVariants.{UnknownChain}
use Rattle.ibc_machine.specs.declared.event.Event.{Event}
use Rattle.ibc_machine.specs.declared.event.Event.TheVariants as event
use Rattle.ibc_machine.specs.declared.reply.Reply.{Reply}
use Rattle.ibc_machine.specs.declared.reply.Reply.TheVariants as reply
use Rattle.ibc_machine.specs.declared.entry.Entry.{Entry}
use Rattle.ibc_machine.specs.chain.Records.{MachineChain}
use Rattle.ibc_machine.specs.chain.Genesis.{GenesisState, start}
use Rattle.ibc_machine.specs.chain.Handlers.{message_answer, block_answer}
use Rattle.ibc_machine.specs.chain.Machine.{World, Step, IsRun, answer, at_chain, direct_evidence, true_marks}
use Rattle.ibc_machine.specs.ledger.Replay.{LedgerState, StampedEntry, replay, starting_state}
use Rattle.ibc_machine.specs.ledger.Ledgers.{Ledger, chain_of, machine_of, state_of}
use Rattle.ibc_machine.specs.ics23.HashedTexts.{HasNoClash}
use Rattle.ibc_machine.specs.ledger.Merge.{is_of_chain, ReadingFitsBefore, EachWithEarlier}
use Rattle.ibc_machine.specs.promises.Worlds.{AreLedgersOf, entries}
use Rattle.ibc_refinement.specs.Refinement.{GivesNothing, AreAnswered, GoesOn, GoingOnIsRun}
use Rattle.ibc_refinement.proofs.ChangedPlaces.{get_within, same_places}
use Rattle.ibc_refinement.proofs.EntrySteps.{ledger_of}
use Rattle.ibc_refinement.proofs.RunStates.{AllRun, AreOfWorld, IsLedgerAt, ledger_at}
use Rattle.ibc_refinement.proofs.RunForward.{next_step}
use Rattle.ibc_refinement.proofs.MergedRun.{AreWithin, ends_there, all_start}
use Rattle.ibc_refinement.proofs.Refined.{within}
use Rattle.ibc_refinement.proofs.SeenMore.{replay_stays}

-- ---- to the middle

-- the world after the first part of a list
pub record Reaches (genesis : GenesisState) (ledgers : List Ledger) (before rest : List Entry) : Type 0 where
  pub world : World
  pub run : AllRun genesis ledgers world before rest
  pub reads : EachWithEarlier (ReadingFitsBefore genesis.window) before rest
  pub within : AreWithin (length ledgers) rest

reaches : (genesis : GenesisState) (ledgers : List Ledger) (publications : List Publication) → AreOfWorld genesis ledgers publications → HasNoClash ledgers
    → (front rest : List Entry) (before : List Entry) → Reaches genesis ledgers before (front ++ rest) → Reaches genesis ledgers (before ++ front) rest
reaches genesis ledgers publications are clash [] rest before r = subst (λ b. Reaches genesis ledgers b rest) (sym (append-nil before)) r
reaches genesis ledgers publications are clash (e ∷ front) rest before r =
    let parts = and_parts (nat_lt (chain_of e.event) (length ledgers)) (list_all (λ (entry : Entry). nat_lt (chain_of entry.event) (length ledgers)) (front ++ rest)) r.within in
    let step = next_step genesis ledgers publications are clash r.world before (front ++ rest) e r.run r.reads.0 (ltb-true (chain_of e.event) (length ledgers) parts.0) in
    let next : Reaches genesis ledgers (before ++ e ∷ []) (front ++ rest) = record { world = step.after; run = step.run; reads = r.reads.1; within = parts.1 } in
    subst (λ b. Reaches genesis ledgers b rest) (append_assoc before (e ∷ []) front) (reaches genesis ledgers publications are clash front rest (before ++ e ∷ []) next)

-- ---- what is done of a history is what it was

same_front : {A : Type 0} (a b c d : List A) → length a ≡ length c → a ++ b ≡ c ++ d → a ≡ c
same_front [] b [] d l e = refl
same_front [] b (y ∷ c) d l e = absurd (omega arith)
same_front (x ∷ a) b [] d l e = absurd (omega arith)
same_front (x ∷ a) b (y ∷ c) d l e =
    let head : x ≡ y = cc in
    let rest : a ++ b ≡ c ++ d = cc in
    let tail = same_front a b c d (omega arith) rest in
    λ i. head i ∷ tail i

module _ (genesis : GenesisState) (old new : List Ledger) (publications : List Publication) (list more : List Entry) (of_old : AreLedgersOf genesis old) (are : AreOfWorld genesis new publications)
    (goes : (k : ℕ) (before after : Ledger) → slice_get old k ≡ Some before → slice_get new k ≡ Some after → GoesOn before after)
    (merged : (k : ℕ) (before : Ledger) → slice_get old k ≡ Some before → filter (is_of_chain k) list ≡ entries before) where
  -- the state of a ledger in the middle is what the old ledger was in
  state_was : (world : World) (run : AllRun genesis new world list more) (k : ℕ) (at : IsLedgerAt genesis old k) (now : IsLedgerAt genesis new k)
      → (run.each k now.history now.seen now.there).state ≡ state_of (ledger_of genesis k at.history at.seen)
  state_was world run k at now =
      let r = run.each k now.history now.seen now.there in
      let g = goes k (ledger_of genesis k at.history at.seen) (ledger_of genesis k now.history now.seen) at.there now.there in
      let histories : now.history ≡ at.history ++ g.0 = ap (λ (l : Ledger). l.history) g.2 in
      let seens : now.seen ≡ at.seen ++ g.1 = ap (λ (l : Ledger). l.seen) g.2 in
      let lengths = ap length (r.consumed ∙ merged k (ledger_of genesis k at.history at.seen) at.there) in
      let one = length-map r.done (λ (s : StampedEntry). s.entry) in
      let two = length-map at.history (λ (s : StampedEntry). s.entry) in
      let done = same_front r.done r.left at.history g.0 (omega arith) (sym r.whole ∙ histories) in
      sym r.replayed ∙ ap (replay genesis k now.seen (starting_state genesis k)) done ∙ ap (λ seen. replay genesis k seen (starting_state genesis k) at.history) seens
      ∙ replay_stays (ledger_of genesis k at.history at.seen) k g.1 (starting_state genesis k) at.history at.is.entries

  world_was : (as_many : length old ≡ length new) (world : World) → AllRun genesis new world list more → world ≡ machine_of old
  world_was as_many world run =
      same_places world (machine_of old) (run.as_many ∙ sym as_many ∙ sym (length-map old (λ (l : Ledger). (state_of l).chain))) (λ k x y is there.
      let low = get_within world k x is in
      let at = ledger_at genesis old of_old k (omega (arith, low, run.as_many, as_many)) in
      let now = ledger_at genesis new are.of k (omega (arith, low, run.as_many)) in
      let r = run.each k now.history now.seen now.there in
      let L = ledger_of genesis k at.history at.seen in
      let mine : Some r.state.chain ≡ Some x = sym r.there ∙ is in
      let theirs : Some (state_of L).chain ≡ Some y = sym (slice_get-map (λ (l : Ledger). (state_of l).chain) old k ∙ ap (option_map (λ (l : Ledger). (state_of l).chain)) at.there) ∙ there in
      let one : r.state.chain ≡ x = cc in
      let two : (state_of L).chain ≡ y = cc in
      sym one ∙ ap (λ (s : LedgerState). s.chain) (state_was world run k at now) ∙ two)

-- ---- from the middle on, by events of which some gave nothing

unknown_answer : (genesis : GenesisState) (world : World) (e : Event) → length world ≤ chain_of e → answer true_marks genesis true world e ≡ (reply.No UnknownChain, world)
unfolding answer
unknown_answer genesis world (event.Message k m) past =
    ap (at_chain world k (λ chain. message_answer (direct_evidence true_marks genesis.window true world chain.records.core) (length genesis.chains) k chain m)) (slice_get_past world k past)
unknown_answer genesis world (event.Block k next_time) past = ap (at_chain world k (λ chain. block_answer genesis.capacity chain next_time)) (slice_get_past world k past)

nothing_step : (genesis : GenesisState) (world : World) (chains : ℕ) (e : Event) (given : Reply) → length world ≡ chains → GivesNothing chains e given → Step genesis world e given world
nothing_step genesis world chains e given many (inl gave_up) = inl (gave_up, refl)
nothing_step genesis world chains e given many (inr w) = let r = sym w.0 in inr (true, unknown_answer genesis world e (omega (arith, many, w.1)) ∙ (λ i. (r i, world)))

goes_on_by : (genesis : GenesisState) (ledgers : List Ledger) (publications : List Publication) → AreOfWorld genesis ledgers publications → HasNoClash ledgers
    → (events : List Event) (replies : List Reply) (before more : List Entry) → (r : Reaches genesis ledgers before more) → AreAnswered (length ledgers) events replies more
    → IsRun genesis r.world events replies (machine_of ledgers)
goes_on_by genesis ledgers publications are clash [] [] before more r answered =
    sym (ends_there genesis ledgers publications are r.world before (subst (λ m. AllRun genesis ledgers r.world before m) answered r.run))
goes_on_by genesis ledgers publications are clash [] (given ∷ replies) before more r answered = absurd answered
goes_on_by genesis ledgers publications are clash (e ∷ events) [] before more r answered = absurd answered
goes_on_by genesis ledgers publications are clash (e ∷ events) (given ∷ replies) before more r (inl w) =
    (r.world, nothing_step genesis r.world (length ledgers) e given r.run.as_many w.0, goes_on_by genesis ledgers publications are clash events replies before more r w.1)
goes_on_by genesis ledgers publications are clash (e ∷ events) (given ∷ replies) before more r (inr w) =
    let run = subst (λ m. AllRun genesis ledgers r.world before m) w.2 r.run in
    let reads = subst (λ m. EachWithEarlier (ReadingFitsBefore genesis.window) before m) w.2 r.reads in
    let low = subst (λ m. AreWithin (length ledgers) m) w.2 r.within in
    let parts = and_parts (nat_lt (chain_of w.0.event) (length ledgers)) (list_all (λ (entry : Entry). nat_lt (chain_of entry.event) (length ledgers)) w.1) low in
    let step = next_step genesis ledgers publications are clash r.world before w.1 w.0 run reads.0 (ltb-true (chain_of w.0.event) (length ledgers) parts.0) in
    let next : Reaches genesis ledgers (before ++ w.0 ∷ []) w.1 = record { world = step.after; run = step.run; reads = reads.1; within = parts.1 } in
    let taken : Step genesis r.world w.0.event w.0.reply step.after = inr step.answers in (
      step.after,
      subst (λ (x : Event × Reply). Step genesis r.world x.0 x.1 step.after) (λ i. (w.3 i, w.4 i)) taken,
      goes_on_by genesis ledgers publications are clash events replies (before ++ w.0 ∷ []) w.1 next w.5,
    )

-- ---- the theorem

pub going_on_is_run : GoingOnIsRun
going_on_is_run genesis old new publications list more events replies of_old of_new table goes merged merges answered clash =
    let are : AreOfWorld genesis new publications = record { of = of_new; table = table } in
    let times = map (λ (c : MachineChain). c.time) (start genesis) in
    let first : Reaches genesis new [] (list ++ more) = record {
      world = start genesis;
      run = all_start genesis new publications are times (list ++ more) merges;
      reads = merges.readings;
      within = within genesis new publications are times (list ++ more) merges;
    } in
    let middle = reaches genesis new publications are clash list more [] first in
    let same = world_was genesis old new publications list more of_old are goes merged (of_old.all ∙ sym of_new.all) middle.world middle.run in
    subst (λ world. IsRun genesis world events replies (machine_of new)) same (goes_on_by genesis new publications are clash events replies list more middle answered)
