-- The histories of ledgers of one table stand at the beginning of a merge by stamps.
use Rattle.std.proofs.Common.{◌≡◌, ℕ, zero, suc, ◌+◌, ◌<◌, ◌≤◌, Bool, true, false, cond, eqb, List, [], ◌∷◌, length, map, take, drop, refl, sym, ap, ◌∙◌, subst, Some, None, Option, slice_get, arith, eqb-true, eq-eqb, inl, inr, is_some, take-append-drop, option_map, unwrap_or}
use Rattle.std.specs.Prelude.{IfSome}
use Rattle.std.specs.List.{AllByRecursion, list_all, list_any}
use Rattle.std.proofs.lemmas.Bool.{and_parts, or_cases, false≢true, cases_lt}
use Rattle.std.proofs.lemmas.List.{length-map}
use Rattle.std.proofs.lemmas.Option.{slice_get-map}
use Rattle.ibc_ids.specs.Publications.{published_by, height_among}
use Rattle.ibc_ids.specs.declared.publication.Publication.{Publication}
use Rattle.ibc_wire.specs.declared.header.Header.{Header}
use Rattle.ibc_machine.specs.declared.entry.Reading.{Reading}
use Rattle.ibc_machine.specs.chain.Records.{MachineChain}
use Rattle.ibc_machine.specs.chain.Genesis.{GenesisState, start, starting_chain}
use Rattle.ibc_machine.specs.ledger.Replay.{LedgerState, StampedEntry, entry_answer, met_states, starting_state, empty_chain}
use Rattle.ibc_machine.specs.ledger.Ledgers.{Ledger, IsOwnEntry, IsReading, chain_of, header_in, is_looking, is_typed, is_block_reply, is_accepted_block, reading_fits, published_as, state_of}
use Rattle.ibc_refinement.proofs.ChangedPlaces.{get_more, get_within, get_there}
use Rattle.ibc_refinement.proofs.Typed.{IsTyped}
use Rattle.ibc_refinement.proofs.EntrySteps.{ledger_of, own_typed, answer_commits}
use Rattle.ibc_refinement.proofs.EntryEnds.{answer_ends, replay_counts}
use Rattle.ibc_refinement.proofs.RunStates.{AreOfWorld, ledger_at}
use Rattle.ibc_refinement.proofs.MergedRun.{typed_start}
use Rattle.ibc_refinement.proofs.Placed.{IsPlaced, IsStaged}
use Rattle.ibc_refinement.proofs.StageLists.{Histories, history_at}
use Rattle.ibc_refinement.proofs.MergeStages.{Staged}

some_number : {x y : ℕ} → ◌≡◌ {A = Option ℕ} (Some x) (Some y) → x ≡ y
some_number e = cc

take_front : {A : Type 0} (n m : ℕ) (xs : List A) → n ≤ length (take m xs) → take n (take m xs) ≡ take n xs
take_front zero m xs low = refl
take_front (suc n) zero xs low = absurd (omega arith)
take_front (suc n) (suc m) [] low = refl
take_front (suc n) (suc m) (x ∷ xs) low = ap (λ ys. x ∷ ys) (take_front n m xs (omega arith))

take_short : {A : Type 0} (m : ℕ) (xs : List A) → length (take m xs) ≤ length xs
take_short zero xs = omega arith
take_short (suc m) [] = omega arith
take_short (suc m) (x ∷ xs) = let h = take_short m xs in omega arith

there_is : {A : Type 0} (o : Option A) → is_some o ≡ true → (x : A) × (o ≡ Some x)
there_is None e = absurd (false≢true e)
there_is (Some x) e = (x, refl)

none_of : {A : Type 0} (o : Option A) → is_some o ≡ false → o ≡ None
none_of None e = refl
none_of (Some x) e = absurd (false≢true (sym e))

module _ (publications : List Publication) (ledger : Ledger) (m : ℕ) (front : ledger.seen ≡ take m publications) where
  seen_short : length ledger.seen ≤ length publications
  seen_short = let w = take_short m publications in let e = ap length front in omega arith

  -- an accepted block has no reading
  quiet_block : (state : LedgerState) (e : StampedEntry) → IsTyped state.chain.records.core → IsOwnEntry ledger (state, e) → is_accepted_block e.entry ≡ true → e.entry.reading ≡ None
  quiet_block state e typed own accepted =
      elim (answer_ends ledger.genesis ledger.chain ledger.seen e.entry.reading state e.entry.event typed (own_typed ledger state e own)) [
        | inl w ↦ absurd (false≢true (sym (ap is_block_reply own.reply ∙ w.0) ∙ accepted))
        | inr w ↦ none_of e.entry.reading (own.looking ∙ ap (is_looking state) w.event_is)
      ]

  reading_of : (e : StampedEntry) → IsReading ledger.genesis.window ledger.seen e → (r : Reading) → e.entry.reading ≡ Some r
      → (header : Header) × (n : ℕ) × (header_in e.entry.event ≡ Some header) × (e.stamp ≡ Some n) × (n ≤ length ledger.seen) × (reading_fits ledger.genesis.window (height_among header.chain n ledger.seen) header.height r ≡ true)
  reading_of e reading r is =
      subst (λ o. IfSome o (λ r. (header : Header) × (n : ℕ) × (header_in e.entry.event ≡ Some header) × (e.stamp ≡ Some n) × (n ≤ length ledger.seen)
      × (reading_fits ledger.genesis.window (height_among header.chain n ledger.seen) header.height r ≡ true))) is reading

  pub entry_placed : (state : LedgerState) (e : StampedEntry) → IsTyped state.chain.records.core → IsOwnEntry ledger (state, e) → IsPlaced ledger.genesis.window publications ledger.chain e
  entry_placed state e typed own = record {
    chain = eqb-true (chain_of e.entry.event) ledger.chain (and_parts (eqb (chain_of e.entry.event) ledger.chain) (is_typed e.entry.event) own.event).0;
    bound = by_stamp e.stamp refl;
    reading = λ r is.
        let w = reading_of e own.reading r is in
        let short = ap length front in
        let fronts : take w.1 ledger.seen ≡ take w.1 publications = ap (take w.1) front ∙ take_front w.1 m publications (omega (arith, w.4)) in
        (w.0, w.1, w.2, w.3, ap (λ xs. reading_fits ledger.genesis.window (length (published_by w.0.chain xs)) w.0.height r) (sym fronts) ∙ w.5);
    block = λ accepted.
        let w = own.block accepted in (
          w.0,
          w.1,
          w.2,
          ap (λ xs. slice_get xs w.0) (sym (take-append-drop m publications)) ∙ get_more (take m publications) (drop m publications) w.0 w.1 (ap (λ xs. slice_get xs w.0) (sym front) ∙ w.3),
          w.4,
          quiet_block state e typed own accepted,
        );
  }
    where
      by_stamp : (o : Option ℕ) → e.stamp ≡ o → IfSome o (λ n. n ≤ length publications)
      by_stamp None is = tt
      by_stamp (Some n) is =
          elim (or_cases (is_some e.entry.reading) (is_accepted_block e.entry) (sym own.stamped ∙ ap is_some is)) [
            | inl reads ↦
                let r = there_is e.entry.reading reads in
                let w = reading_of e own.reading r.0 r.1 in
                let same = some_number (sym is ∙ w.3) in
                omega (arith, w.4, seen_short)
            | inr accepted ↦
                let w = own.block accepted in
                let same = some_number (sym is ∙ w.2) in
                omega (arith, get_within ledger.seen w.0 w.1 w.3, seen_short)
          ]

  pub history_placed : (state : LedgerState) (history : List StampedEntry) → IsTyped state.chain.records.core → AllByRecursion (IsOwnEntry ledger) (met_states ledger.genesis ledger.chain ledger.seen state history)
      → AllByRecursion (IsPlaced ledger.genesis.window publications ledger.chain) history
  history_placed state [] typed own = tt
  history_placed state (e ∷ history) typed own = (
    entry_placed state e typed own.0,
    history_placed (entry_answer ledger.genesis ledger.chain ledger.seen state e).1 history
        (answer_commits ledger.genesis ledger.chain ledger.seen e.entry.reading state e.entry.event typed (own_typed ledger state e own.0)).typed own.1,
  )

-- ---- chain by chain

pub at_place : (j i : ℕ) (hs : Histories) (h : List StampedEntry) → slice_get hs j ≡ Some h → history_at (i + j) i hs ≡ h
at_place j i [] h e = absurd (cc)
at_place zero i (x ∷ hs) h e = let same : x ≡ h = cc in ap (λ b. cond b x (history_at (i + 0) (suc i) hs)) (eq-eqb i (i + 0) (omega arith)) ∙ same
at_place (suc j) i (x ∷ hs) h e =
    let next : i + suc j ≡ suc i + j = omega arith in
    ap (λ b. cond b x (history_at (i + suc j) (suc i) hs)) apart ∙ ap (λ k. history_at k (suc i) hs) next ∙ at_place j (suc i) hs h e
  where
    apart : eqb i (i + suc j) ≡ false
    apart = elim (eqb i (i + suc j)) as (λ b. eqb i (i + suc j) ≡ b → b ≡ false) [ true ↦ λ is. let same = eqb-true i (i + suc j) is in absurd (omega arith) | false ↦ λ _. refl ] refl

past_all : (k i : ℕ) (hs : Histories) → i + length hs ≤ k → history_at k i hs ≡ []
past_all k i [] low = refl
past_all k i (h ∷ hs) low = ap (λ b. cond b h (history_at k (suc i) hs)) apart ∙ past_all k (suc i) hs (omega arith)
  where
    apart : eqb i k ≡ false
    apart = elim (eqb i k) as (λ b. eqb i k ≡ b → b ≡ false) [ true ↦ λ is. let same = eqb-true i k is in absurd (omega arith) | false ↦ λ _. refl ] refl

pub any_there : {A : Type 0} (test : A → Bool) (xs : List A) → list_any test xs ≡ true → (j : ℕ) × (x : A) × (slice_get xs j ≡ Some x) × (test x ≡ true)
any_there test [] e = absurd (false≢true e)
any_there test (x ∷ xs) e =
    elim (or_cases (test x) (list_any test xs) e) [ inl h ↦ (0, x, refl, h) | inr h ↦ let w = any_there test xs h in (suc w.0, w.1, w.2, w.3) ]

module _ (genesis : GenesisState) (ledgers : List Ledger) (publications : List Publication) (are : AreOfWorld genesis ledgers publications) where
  -- no publication is of a chain that isn't there
  pub none_past : (k : ℕ) → length ledgers ≤ k → (xs : List Publication) → list_all (λ (p : Publication). list_any (λ (l : Ledger). eqb l.chain p.chain) ledgers) xs ≡ true → published_by k xs ≡ []
  none_past k past [] h = refl
  none_past k past (p ∷ xs) h =
      let parts = and_parts (list_any (λ (l : Ledger). eqb l.chain p.chain) ledgers) (list_all (λ (p : Publication). list_any (λ (l : Ledger). eqb l.chain p.chain) ledgers) xs) h in
      let w = any_there (λ (l : Ledger). eqb l.chain p.chain) ledgers parts.0 in
      let chain = (are.of.each w.0 w.1 w.2).1 in
      let mine = eqb-true w.1.chain p.chain w.3 in
      let low = get_within ledgers w.0 w.1 w.2 in
      ap (λ b. cond b (p ∷ published_by k xs) (published_by k xs)) (apart p.chain (omega arith)) ∙ none_past k past xs parts.1
    where
      apart : (c : ℕ) → c < length ledgers → eqb c k ≡ false
      apart c low = elim (eqb c k) as (λ b. eqb c k ≡ b → b ≡ false) [ true ↦ λ is. let same = eqb-true c k is in absurd (omega arith) | false ↦ λ _. refl ] refl

  -- ledger k begins with typed records, and no block
  pub typed_begin : (k : ℕ) → k < length genesis.chains → IsTyped (starting_state genesis k).chain.records.core × (length (starting_state genesis k).chain.committed ≡ 0)
  typed_begin k low =
      let c = get_there genesis.chains k low in
      let first : slice_get (start genesis) k ≡ Some (starting_chain c.0) = slice_get-map starting_chain genesis.chains k ∙ ap (option_map starting_chain) c.1 in
      let chain : (starting_state genesis k).chain ≡ starting_chain c.0 = ap (λ o. unwrap_or o empty_chain) first in
      (subst (λ (x : MachineChain). IsTyped x.records.core) (sym chain) typed_start, ap (λ (x : MachineChain). length x.committed) chain)

  pub staged_start : Staged genesis.window publications 0 (map (λ (l : Ledger). l.history) ledgers)
  staged_start k =
      elim (cases_lt k (length ledgers)) [
        | inl within ↦
            let at = ledger_at genesis ledgers are.of k within in
            let L = ledger_of genesis k at.history at.seen in
            let w = are.table.beginnings k L at.there in
            let t = typed_begin k at.is.number in
            let history : history_at k 0 (map (λ (l : Ledger). l.history) ledgers) ≡ at.history =
            ap (λ x. history_at x 0 (map (λ (l : Ledger). l.history) ledgers)) (let sum : k ≡ 0 + k = omega arith in sum) ∙ at_place k 0 (map (λ (l : Ledger). l.history) ledgers) at.history (slice_get-map (λ (l : Ledger). l.history) ledgers k ∙ ap (option_map (λ (l : Ledger). l.history)) at.there)
            in
            let counted = replay_counts L (starting_state genesis k) at.history t.0 at.is.entries in
            let published = ap length (sym (are.table.own k L at.there) ∙ at.is.published) ∙ length-map (state_of L).chain.committed (published_as k) in
            subst (IsStaged genesis.window publications 0 k) (sym history) (record {
              placed = history_placed publications L w.0 w.1 (starting_state genesis k) at.history t.0 at.is.entries;
              rising = at.is.stamps;
              count = omega (arith, counted, published, t.1);
            })
        | inr past ↦
            let none = past_all k 0 (map (λ (l : Ledger). l.history) ledgers) (omega (arith, length-map ledgers (λ (l : Ledger). l.history))) in
            subst (IsStaged genesis.window publications 0 k) (sym none) (record {
              placed = tt;
              rising = tt;
              count = sym (ap length (none_past k past publications are.table.of_chains));
            })
      ]
