-- Events that were applied one after another gave entries, and so refine the machine.
use Rattle.std.proofs.Common.{◌≡◌, ℕ, ◌<◌, ◌≤◌, true, false, eqb, List, [], ◌∷◌, ◌++◌, length, filter, refl, sym, ap, ◌∙◌, subst, Some, option_map, slice_get, arith, append-nil, append_assoc, eqb-true, eq-eqb, inl, inr}
use Rattle.std.proofs.lemmas.Bool.{cases_lt}
use Rattle.std.proofs.lemmas.List.{map-append}
use Rattle.std.proofs.lemmas.List.Elements.{filter-append}
use Rattle.std.proofs.lemmas.Option.{slice_get-map}
use Rattle.ibc_ids.specs.declared.publication.Publication.{Publication}
use Rattle.ibc_machine.specs.declared.event.Event.{Event}
use Rattle.ibc_machine.specs.declared.reply.Reply.{Reply}
use Rattle.ibc_machine.specs.declared.entry.Entry.{Entry}
use Rattle.ibc_machine.specs.ledger.Replay.{StampedEntry}
use Rattle.ibc_machine.specs.ledger.Ledgers.{Ledger, SeesMore, AddsEntry, Adds, chain_of}
use Rattle.ibc_machine.specs.ledger.Merge.{is_of_chain}
use Rattle.ibc_machine.specs.promises.Worlds.{AppliesIf, Applies, AppliesEach, entries}
use Rattle.ibc_refinement.specs.Refinement.{GivesNothing, AreAnswered, GoesOn, GaveEntries, AppliedIsRun}
use Rattle.ibc_refinement.proofs.ChangedPlaces.{get_there, get_within}
use Rattle.ibc_refinement.proofs.RunNext.{own_first, other_first}
use Rattle.ibc_refinement.proofs.RunOn.{going_on_is_run}

abbrev Grows : List Entry → ℕ → Ledger → Ledger → Type 0
Grows more k before after = GoesOn before after × (entries after ≡ entries before ++ filter (is_of_chain k) more)

-- a ledger with more entries, and more seen
abbrev longer : Ledger → List StampedEntry → List Publication → Ledger
longer l added more = record l { history = l.history ++ added; seen = l.seen ++ more }

grows_none : (k : ℕ) (before after : Ledger) → SeesMore before after → Grows [] k before after
grows_none k before after w =
    let same = sym (append-nil before.history) in (
      ([], w.0, w.1 ∙ (λ i. record before { history = same i; seen = before.seen ++ w.0 })),
      ap entries w.1 ∙ sym (append-nil (entries before)),
    )

grows_itself : (k : ℕ) (ledger : Ledger) → Grows [] k ledger ledger
grows_itself k ledger = let same = sym (append-nil ledger.seen) in grows_none k ledger ledger ([], λ i. record ledger { seen = same i })

grows_both : (one two : List Entry) (k : ℕ) (a b c : Ledger) → Grows one k a b → Grows two k b c → Grows (one ++ two) k a c
grows_both one two k a b c g h =
    let histories = append_assoc a.history g.0.0 h.0.0 in
    let seens = append_assoc a.seen g.0.1 h.0.1 in (
      (g.0.0 ++ h.0.0, g.0.1 ++ h.0.1, h.0.2 ∙ ap (λ l. longer l h.0.0 h.0.1) g.0.2 ∙ (λ i. record a { history = histories i; seen = seens i })),
      h.1 ∙ ap (λ xs. xs ++ filter (is_of_chain k) two) g.1 ∙ append_assoc (entries a) (filter (is_of_chain k) one) (filter (is_of_chain k) two) ∙ ap (λ xs. entries a ++ xs) (sym (filter-append (is_of_chain k) one two)),
    )

grows_entry : (k : ℕ) (event : Event) (given : Reply) (before after : Ledger) (w : AddsEntry before event given after) → chain_of event ≡ k → Grows (w.0.entry ∷ []) k before after
grows_entry k event given before after w mine = (
  (w.0 ∷ [], w.1, w.4),
  ap entries w.4 ∙ map-append (λ (s : StampedEntry). s.entry) before.history (w.0 ∷ [])
      ∙ ap (λ xs. entries before ++ xs) (sym (own_first k w.0.entry [] (eq-eqb (chain_of w.0.entry.event) k (ap chain_of w.2 ∙ mine)))),
)

-- an entry of another chain
grows_other : (k : ℕ) (e : Entry) (before after : Ledger) → is_of_chain k e ≡ false → SeesMore before after → Grows (e ∷ []) k before after
grows_other k e before after other w =
    let g = grows_none k before after w in
    (g.0, g.1 ∙ ap (λ xs. entries before ++ xs) (sym (other_first k e [] other)))

-- ---- one event

-- what one event gave: an entry or nothing
pub record GaveOne (old : List Ledger) (event : Event) (given : Reply) (new : List Ledger) : Type 0 where
  pub more : List Entry
  pub answered : (events : List Event) (replies : List Reply) (rest : List Entry) → AreAnswered (length old) events replies rest → AreAnswered (length old) (event ∷ events) (given ∷ replies) (more ++ rest)
  pub each : (k : ℕ) (before after : Ledger) → slice_get old k ≡ Some before → slice_get new k ≡ Some after → Grows more k before after

module _ (old : List Ledger) (event : Event) (given : Reply) (new : List Ledger) (applies : Applies old event given new) where
  others : (k : ℕ) (before after : Ledger) → slice_get old k ≡ Some before → slice_get new k ≡ Some after → eqb (chain_of event) k ≡ false → SeesMore before after
  others k before after was is other = subst (λ b. AppliesIf b event given before after) other (applies.each k before after was is)

  gave_nothing : GivesNothing (length old) event given → ((k : ℕ) (before after : Ledger) → slice_get old k ≡ Some before → slice_get new k ≡ Some after → SeesMore before after) → GaveOne old event given new
  gave_nothing nothing each = record {
    more = [];
    answered = λ events replies rest answered. inl (nothing, answered);
    each = λ k before after was is. grows_none k before after (each k before after was is);
  }

  gave_entry : (here : ℕ) (mine after : Ledger) → slice_get old here ≡ Some mine → slice_get new here ≡ Some after → chain_of event ≡ here → AddsEntry mine event given after → GaveOne old event given new
  gave_entry here mine after was is same w = record {
    more = w.0.entry ∷ [];
    answered = λ events replies rest answered. inr (w.0.entry, rest, refl, w.2, w.3, answered);
    each = λ k a b there now.
        elim (eqb (chain_of event) k) as (λ x. eqb (chain_of event) k ≡ x → Grows (w.0.entry ∷ []) k a b) [
          | true ↦ λ at.
              let k_is = eqb-true (chain_of event) k at in
              let place = sym same ∙ k_is in
              let one : Some mine ≡ Some a = sym was ∙ ap (slice_get old) place ∙ there in
              let two : Some after ≡ Some b = sym is ∙ ap (slice_get new) place ∙ now in
              let first : mine ≡ a = cc in
              let second : after ≡ b = cc in
              subst (λ (x : Ledger × Ledger). Grows (w.0.entry ∷ []) k x.0 x.1) (λ i. (first i, second i)) (grows_entry k event given mine after w k_is)
          | false ↦ λ other. grows_other k w.0.entry a b (ap (λ e. eqb (chain_of e) k) w.2 ∙ other) (others k a b there now other)
        ] refl;
  }

  gave_one : GaveOne old event given new
  gave_one =
      elim (cases_lt (chain_of event) (length old)) [
        | inl low ↦
            let was = get_there old (chain_of event) low in
            let is = get_there new (chain_of event) (omega (arith, low, applies.as_many)) in
            let adds : Adds was.0 event given is.0 = subst (λ b. AppliesIf b event given was.0 is.0) (eq-eqb (chain_of event) (chain_of event) refl) (applies.each (chain_of event) was.0 is.0 was.1 is.1) in
            by_adds was.0 is.0 was.1 is.1 adds
        | inr past ↦ gave_nothing (inr (applies.unknown past, past)) (λ k before after was is. others k before after was is (apart k (get_within old k before was) past))
      ]
    where
      apart : (k : ℕ) → k < length old → length old ≤ chain_of event → eqb (chain_of event) k ≡ false
      apart k low past = elim (eqb (chain_of event) k) as (λ b. eqb (chain_of event) k ≡ b → b ≡ false) [ true ↦ λ is. let same = eqb-true (chain_of event) k is in absurd (omega arith) | false ↦ λ _. refl ] refl

      sees_all : (before after : Ledger) → slice_get old (chain_of event) ≡ Some before → slice_get new (chain_of event) ≡ Some after → SeesMore before after
          → (k : ℕ) (a b : Ledger) → slice_get old k ≡ Some a → slice_get new k ≡ Some b → SeesMore a b
      sees_all before after was is sees k a b there now =
          elim (eqb (chain_of event) k) as (λ x. eqb (chain_of event) k ≡ x → SeesMore a b) [
            | true ↦ λ at.
                let place = eqb-true (chain_of event) k at in
                let one : Some before ≡ Some a = sym was ∙ ap (slice_get old) place ∙ there in
                let two : Some after ≡ Some b = sym is ∙ ap (slice_get new) place ∙ now in
                let first : before ≡ a = cc in
                let second : after ≡ b = cc in
                subst (λ (x : Ledger × Ledger). SeesMore x.0 x.1) (λ i. (first i, second i)) sees
            | false ↦ λ other. others k a b there now other
          ] refl

      by_adds : (before after : Ledger) → slice_get old (chain_of event) ≡ Some before → slice_get new (chain_of event) ≡ Some after → Adds before event given after → GaveOne old event given new
      by_adds before after was is (inl w) = gave_nothing (inl w.0) (sees_all before after was is w.1)
      by_adds before after was is (inr w) = gave_entry (chain_of event) before after was is refl w

-- ---- all events

gave : (events : List Event) (replies : List Reply) (old new : List Ledger) → AppliesEach old events replies new → (more : List Entry) × GaveEntries old events replies new more
gave [] [] old new applies = (
  [],
  record {
    as_many = ap length applies;
    answered = refl;
    each = λ k before after was is.
        let both : Some before ≡ Some after = sym was ∙ sym (ap (λ ls. slice_get ls k) applies) ∙ is in
        let same : before ≡ after = cc in
        subst (λ l. Grows [] k before l) same (grows_itself k before);
  },
)
gave [] (given ∷ replies) old new applies = absurd applies
gave (event ∷ events) [] old new applies = absurd applies
gave (event ∷ events) (given ∷ replies) old new (mid, applies, later) =
    let one = gave_one old event given mid applies in
    let rest = gave events replies mid new later in
    let g = rest.1 in (
      one.more ++ rest.0,
      record {
        as_many = g.as_many ∙ applies.as_many;
        answered = one.answered events replies rest.0 (subst (λ n. AreAnswered n events replies rest.0) applies.as_many g.answered);
        each = λ k before after was is.
            let there = get_there mid k (omega (arith, get_within old k before was, applies.as_many)) in
            grows_both one.more rest.0 k before there.0 after (one.each k before there.0 was there.1) (g.each k there.0 after there.1 is);
      },
    )

pub applied_is_run : AppliedIsRun
applied_is_run genesis old new earlier publications list events replies of_old of_new table applies merged merges =
    let w = gave events replies old new applies in
    let g = w.1 in
    going_on_is_run genesis old new publications list w.0 events replies of_old of_new table (λ k before after was is. (g.each k before after was is).0)
    (λ k before was. merged.each k (entries before) (slice_get-map entries old k ∙ ap (option_map entries) was))
    (merges w.0 g) (subst (λ n. AreAnswered n events replies w.0) (sym g.as_many) g.answered)
