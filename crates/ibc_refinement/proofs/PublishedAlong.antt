-- A list that has each ledger's entries in their order, and whose blocks are of the chains that published,
-- publishes what the ledgers published.
use Rattle.std.proofs.Common.{◌≡◌, ℕ, true, false, cond, eqb, List, [], ◌∷◌, ◌++◌, length, map, filter, drop, refl, sym, ap, ◌∙◌, subst, Some, slice_get, slice_set, eqb-true, eq-eqb, inl, inr, append_assoc}
use Rattle.std.specs.List.{AllByRecursion}
use Rattle.std.proofs.lemmas.Bool.{false≢true}
use Rattle.std.proofs.lemmas.Option.{get_or_from_slice_get}
use Rattle.ibc_ids.specs.Publications.{published_by}
use Rattle.ibc_ids.specs.declared.publication.Publication.{Publication}
use Rattle.ibc_machine.specs.declared.entry.Entry.{Entry}
use Rattle.ibc_machine.specs.ics24.Image.{core_root}
use Rattle.ibc_machine.specs.chain.Genesis.{GenesisState}
use Rattle.ibc_machine.specs.ledger.Replay.{LedgerState, StampedEntry, entry_answer, replay, met_states}
use Rattle.ibc_machine.specs.ledger.Ledgers.{Ledger, IsOwnEntry, chain_of, is_block_reply, is_accepted_block, published_as, state_of}
use Rattle.ibc_machine.specs.ledger.Merge.{is_of_chain, published_along}
use Rattle.ibc_refinement.proofs.ChangedPlaces.{get_set, get_set_other, get_within}
use Rattle.ibc_refinement.proofs.Typed.{IsTyped}
use Rattle.ibc_refinement.proofs.EntrySteps.{ledger_of, own_typed, working, answer_commits, replay_grows}
use Rattle.ibc_refinement.proofs.EntryEnds.{GoesOn, EndsBlock, answer_ends, plain_next, block_next}
use Rattle.ibc_refinement.proofs.RunStates.{AreOfWorld, IsLedgerAt}
use Rattle.ibc_refinement.proofs.RunNext.{other_first}

-- the chains of the blocks of a list
abbrev pub block_chains : List Entry → List ℕ
block_chains list = map (λ (e : Entry). chain_of e.event) (filter is_accepted_block list)

drop_front : {A : Type 0} (xs ys : List A) → drop (length xs) (xs ++ ys) ≡ ys
drop_front [] ys = refl
drop_front (x ∷ xs) ys = drop_front xs ys

-- ledger k in the middle of the list, before these publications
pub record Publishing (genesis : GenesisState) (times : List ℕ) (ps : List Publication) (rest : List Entry) (k : ℕ) (history : List StampedEntry) (seen : List Publication) : Type 0 where
  pub state : LedgerState
  pub left : List StampedEntry
  pub remaining : map (λ (s : StampedEntry). s.entry) left ≡ filter (is_of_chain k) rest
  pub own : AllByRecursion (IsOwnEntry (ledger_of genesis k history seen)) (met_states genesis k seen state left)
  pub ends : replay genesis k seen state left ≡ state_of (ledger_of genesis k history seen)
  pub typed : IsTyped state.chain.records.core
  pub time : slice_get times k ≡ Some state.chain.time
  pub upcoming : published_by k ps ≡ map (published_as k) (drop (length state.chain.committed) (state_of (ledger_of genesis k history seen)).chain.committed)

module _ (genesis : GenesisState) (ledgers : List Ledger) (publications : List Publication) (are : AreOfWorld genesis ledgers publications) where
  abbrev pub AllPublishing : List ℕ → List Publication → List Entry → Type 0
  AllPublishing times ps rest =
      (k : ℕ) (history : List StampedEntry) (seen : List Publication) → slice_get ledgers k ≡ Some (ledger_of genesis k history seen) → Publishing genesis times ps rest k history seen

  -- the same ledger
  same_at : (k j : ℕ) (history : List StampedEntry) (seen : List Publication) (at : IsLedgerAt genesis ledgers k) (P : ℕ → List StampedEntry → List Publication → Type 0) → k ≡ j
      → slice_get ledgers j ≡ Some (ledger_of genesis j history seen) → P k at.history at.seen → P j history seen
  same_at k j history seen at P same there h =
      let both : Some (ledger_of genesis k at.history at.seen) ≡ Some (ledger_of genesis j history seen) = sym at.there ∙ ap (slice_get ledgers) same ∙ there in
      let one : ledger_of genesis k at.history at.seen ≡ ledger_of genesis j history seen = cc in
      subst (λ (l : Ledger). P l.chain l.history l.seen) one h

  not_of : (k j : ℕ) → (k ≡ j → ⊥) → eqb k j ≡ false
  not_of k j apart = elim (eqb k j) as (λ b. eqb k j ≡ b → b ≡ false) [ true ↦ λ is. absurd (apart (eqb-true k j is)) | false ↦ λ _. refl ] refl

  -- another chain's ledger stands as it stood
  other_stays : (times after : List ℕ) (ps qs : List Publication) (e : Entry) (rest : List Entry) (j : ℕ) (history : List StampedEntry) (seen : List Publication) → is_of_chain j e ≡ false
      → slice_get after j ≡ slice_get times j → published_by j qs ≡ published_by j ps → Publishing genesis times ps (e ∷ rest) j history seen → Publishing genesis after qs rest j history seen
  other_stays times after ps qs e rest j history seen apart time same p = record {
    state = p.state;
    left = p.left;
    remaining = p.remaining ∙ other_first j e rest apart;
    own = p.own;
    ends = p.ends;
    typed = p.typed;
    time = time ∙ p.time;
    upcoming = same ∙ p.upcoming;
  }

  module _ (times : List ℕ) (ps : List Publication) (rest : List Entry) (s : StampedEntry) (later : List StampedEntry) (all : AllPublishing times ps (s.entry ∷ rest))
      (at : IsLedgerAt genesis ledgers (chain_of s.entry.event)) (r : Publishing genesis times ps (s.entry ∷ rest) (chain_of s.entry.event) at.history at.seen) (whole : r.left ≡ s ∷ later)
      (remaining : map (λ (s : StampedEntry). s.entry) later ≡ filter (is_of_chain (chain_of s.entry.event)) rest)
      (next : (after : List ℕ) (qs : List Publication) → AllPublishing after qs rest → block_chains rest ≡ map (λ (p : Publication). p.chain) qs → published_along after rest ≡ qs)
      (chains : block_chains (s.entry ∷ rest) ≡ map (λ (p : Publication). p.chain) ps) where
    abbrev k : ℕ
    k = chain_of s.entry.event

    abbrev L : Ledger
    L = ledger_of genesis k at.history at.seen

    abbrev after_s : LedgerState
    after_s = (entry_answer genesis k at.seen r.state s).1

    own : AllByRecursion (IsOwnEntry L) (met_states genesis k at.seen r.state (s ∷ later))
    own = subst (λ l. AllByRecursion (IsOwnEntry L) (met_states genesis k at.seen r.state l)) whole r.own

    ends : replay genesis k at.seen after_s later ≡ state_of L
    ends = ap (replay genesis k at.seen r.state) (sym whole) ∙ r.ends

    typed : IsTyped after_s.chain.records.core
    typed = (answer_commits genesis k at.seen s.entry.reading r.state s.entry.event r.typed (own_typed L r.state s own.0)).typed

    -- nothing published
    goes_on : GoesOn (entry_answer genesis k at.seen r.state s).0 r.state.chain after_s.chain → published_along times (s.entry ∷ rest) ≡ ps
    goes_on w =
        let plain : is_block_reply s.entry.reply ≡ false = ap is_block_reply own.0.reply ∙ w.0 in
        plain_next (λ after. published_along after rest) times s.entry.event s.entry.reply plain
        ∙ next times ps (λ j history seen there. elim (eqb k j) as (λ b. eqb k j ≡ b → Publishing genesis times ps rest j history seen) [
          | true ↦ λ is. same_at k j history seen at (λ k history seen. Publishing genesis times ps rest k history seen) (eqb-true k j is) there (record {
            state = after_s;
            left = later;
            remaining = remaining;
            own = own.1;
            ends = ends;
            typed = typed;
            time = r.time ∙ ap Some (sym w.1);
            upcoming = r.upcoming ∙ ap (λ xs. map (published_as k) (drop (length xs) (state_of L).chain.committed)) (sym w.2);
          })
          | false ↦ λ is. other_stays times times ps ps s.entry rest j history seen is refl refl (all j history seen there)
        ] refl)
        (ap (λ b. map (λ (e : Entry). chain_of e.event) (cond b (s.entry ∷ filter is_accepted_block rest) (filter is_accepted_block rest))) (sym plain) ∙ chains)

    -- its block is the next publication
    ends_block : (w : EndsBlock s.entry.event (entry_answer genesis k at.seen r.state s).0 r.state.chain after_s.chain) (p : Publication) (qs : List Publication) → ps ≡ p ∷ qs → p.chain ≡ k
        → block_chains rest ≡ map (λ (p : Publication). p.chain) qs → published_along times (s.entry ∷ rest) ≡ ps
    ends_block w p qs is mine others =
        let more = replay_grows L genesis k at.seen after_s later typed own.1 in
        let final : (state_of L).chain.committed ≡ r.state.chain.committed ++ working r.state.chain ∷ more.0 =
        ap (λ (s : LedgerState). s.chain.committed) (sym ends) ∙ more.1 ∙ ap (λ xs. xs ++ more.0) w.committed ∙ append_assoc r.state.chain.committed (working r.state.chain ∷ []) more.0
        in
        let left_now = ap (λ xs. drop (length r.state.chain.committed) xs) final ∙ drop_front r.state.chain.committed (working r.state.chain ∷ more.0) in
        let left_next : drop (length after_s.chain.committed) (state_of L).chain.committed ≡ more.0 =
        ap (λ xs. drop (length after_s.chain.committed) xs) (ap (λ (s : LedgerState). s.chain.committed) (sym ends) ∙ more.1) ∙ drop_front after_s.chain.committed more.0
        in
        let split : p ∷ published_by k qs ≡ published_as k (working r.state.chain) ∷ map (published_as k) more.0 =
        ap (λ b. cond b (p ∷ published_by k qs) (published_by k qs)) (sym (eq-eqb p.chain k mine)) ∙ ap (published_by k) (sym is) ∙ r.upcoming ∙ ap (map (published_as k)) left_now
        in
        let head : p ≡ published_as k (working r.state.chain) = cc in
        let tail : published_by k qs ≡ map (published_as k) more.0 = cc in
        let there = get_or_from_slice_get times k r.state.chain.time 0 r.time in
        let step : published_along (slice_set times k w.next_time) rest ≡ qs =
        next (slice_set times k w.next_time) qs (λ j history seen there. elim (eqb k j) as (λ b. eqb k j ≡ b → Publishing genesis (slice_set times k w.next_time) qs rest j history seen) [
          | true ↦ λ is. same_at k j history seen at (λ k' history seen. Publishing genesis (slice_set times k w.next_time) qs rest k' history seen) (eqb-true k j is) there (record {
            state = after_s;
            left = later;
            remaining = remaining;
            own = own.1;
            ends = ends;
            typed = typed;
            time = get_set times k w.next_time (get_within times k r.state.chain.time r.time) ∙ ap Some (sym w.time);
            upcoming = tail ∙ ap (map (published_as k)) (sym left_next);
          })
          | false ↦ λ apart. other_stays times (slice_set times k w.next_time) ps qs s.entry rest j history seen apart
              (get_set_other times k j w.next_time (λ e. false≢true (sym apart ∙ eq-eqb k j e)))
              (ap (λ b. cond b (p ∷ published_by j qs) (published_by j qs)) (sym (ap (λ c. eqb c j) mine ∙ apart)) ∙ ap (published_by j) (sym is)) (all j history seen there)
        ] refl) others
        in
        let given : EndsBlock s.entry.event s.entry.reply r.state.chain after_s.chain = record { next_time = w.next_time; event_is = w.event_is; reply_is = own.0.reply ∙ w.reply_is; time = w.time; committed = w.committed } in
        block_next (λ after. published_along after rest) times s.entry.event s.entry.reply r.state.chain after_s.chain given
        ∙ (λ i. record { chain = k; root = core_root r.state.chain.records.core; time = there i } ∷ step i)
        ∙ ap (λ x. x ∷ qs) (sym head) ∙ sym is

    pub published_here : published_along times (s.entry ∷ rest) ≡ ps
    published_here =
        elim (answer_ends genesis k at.seen s.entry.reading r.state s.entry.event r.typed (own_typed L r.state s own.0)) [
          | inl w ↦ goes_on w
          | inr w ↦
              let accepted : is_block_reply s.entry.reply ≡ true = ap is_block_reply (own.0.reply ∙ w.reply_is) in
              by_publications ps refl w (ap (λ b. map (λ (e : Entry). chain_of e.event) (cond b (s.entry ∷ filter is_accepted_block rest) (filter is_accepted_block rest))) (sym accepted) ∙ chains)
        ]
      where
        by_publications : (xs : List Publication) → ps ≡ xs → EndsBlock s.entry.event (entry_answer genesis k at.seen r.state s).0 r.state.chain after_s.chain
            → k ∷ block_chains rest ≡ map (λ (p : Publication). p.chain) xs → published_along times (s.entry ∷ rest) ≡ ps
        by_publications [] is w c = absurd (cc)
        by_publications (p ∷ qs) is w c = ends_block w p qs is (let same : k ≡ p.chain = cc in sym same) (cc)
