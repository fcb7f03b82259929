-- The one entry that a step adds: what it published and what it read fit what all ledgers had seen.
use Rattle.std.proofs.Common.{◌≡◌, ℕ, ◌<◌, ◌≤◌, true, false, cond, eqb, List, [], ◌∷◌, ◌++◌, length, map, take, refl, sym, ap, ◌∙◌, subst, Some, None, Option, slice_get, arith, eqb-true, eq-eqb, append-nil, inl, inr}
use Rattle.std.specs.Prelude.{IfSome}
use Rattle.std.proofs.lemmas.Bool.{false≢true}
use Rattle.std.proofs.lemmas.List.{take_all, length-append}
use Rattle.ibc_ids.specs.Publications.{published_by, height_of, height_among}
use Rattle.ibc_ids.specs.declared.publication.Publication.{Publication}
use Rattle.ibc_wire.specs.declared.header.Header.{Header}
use Rattle.ibc_machine.specs.declared.entry.Entry.{Entry}
use Rattle.ibc_machine.specs.declared.entry.Reading.{Reading}
use Rattle.ibc_machine.specs.declared.event.Event.{Event}
use Rattle.ibc_machine.specs.declared.reply.Reply.{Reply}
use Rattle.ibc_machine.specs.chain.Genesis.{GenesisState}
use Rattle.ibc_machine.specs.ledger.Replay.{StampedEntry}
use Rattle.ibc_machine.specs.ledger.Ledgers.{Ledger, IsLedger, SeesMore, chain_of, header_in, is_accepted_block, reading_fits, AddsNext}
use Rattle.ibc_machine.specs.ledger.Merge.{blocks_of, ReadingFitsBefore}
use Rattle.ibc_refinement.specs.World.{WorldState, kept_entries, AreOfFirstChains, IsWorld}
use Rattle.ibc_refinement.specs.Steps.{AddsIf, IsStep, AddsOne}
use Rattle.ibc_refinement.proofs.world.Publications.{published_behind, nothing_behind, none_more, one_more}
use Rattle.ibc_refinement.proofs.world.Grown.{IsPlain, IsEnded, own_reading, publishes, with_next}
use Rattle.ibc_refinement.proofs.world.EntryBehind.{as_many_blocks}
use Rattle.ibc_refinement.proofs.world.Step.{BothAt, both_at, grown, quiet, within_more}

pub apart_from : (a b : ℕ) → (a ≡ b → ⊥) → eqb a b ≡ false
apart_from a b apart = elim (eqb a b) as (λ x. eqb a b ≡ x → x ≡ false) [ true ↦ λ is. absurd (apart (eqb-true a b is)) | false ↦ λ _. refl ] refl

pub some_number : {x y : ℕ} → ◌≡◌ {A = Option ℕ} (Some x) (Some y) → x ≡ y
some_number e = cc

module _ (old new : WorldState) (event : Event) (given : Reply) (is : IsWorld old) (step : IsStep old event given new) (adds : AddsOne old event given new) where
  abbrev pub k : ℕ
  k = chain_of event

  pub at : BothAt old new event given is step k
  at = both_at old new event given is step k adds.known

  pub next : AddsNext at.before event given at.after
  next = subst (λ b. AddsIf b event given at.before at.after) (eq-eqb k k refl) (adds.each k at.before at.after at.was at.now)

  abbrev pub e : StampedEntry
  e = next.0

  abbrev pub more : List Publication
  more = next.1

  abbrev pub list : List Entry
  list = kept_entries old

  pub of_before : (at.before.genesis ≡ old.genesis) × (at.before.chain ≡ k) × IsLedger at.before
  of_before = is.of.each k at.before at.was

  pub next_is : IsLedger (with_next at.before e more)
  next_is = subst IsLedger next.4 (step.each_is k at.after at.now)

  -- the others only saw more
  pub others : (j : ℕ) (before after : Ledger) → slice_get old.ledgers j ≡ Some before → slice_get new.ledgers j ≡ Some after → (k ≡ j → ⊥) → SeesMore before after
  others j before after was now apart = subst (λ b. AddsIf b event given before after) (apart_from k j apart) (adds.each j before after was now)

  -- ---- what is behind the publications

  pub all_grown : step.publications ≡ is.publications ++ more
  all_grown = grown old new event given is step k at.before at.after more at.was at.now (ap (λ (l : Ledger). l.seen) next.4)

  none_of_others : (c : ℕ) → c < length old.ledgers → (c ≡ k → ⊥) → published_by c more ≡ []
  none_of_others c low apart =
      let w = both_at old new event given is step c low in
      nothing_behind c is.publications more
      (ap (published_by c) (sym all_grown) ∙ quiet old new event given is step c w.before w.after w.was w.now (others c w.before w.after w.was w.now (λ same. apart (sym same))))

  -- of the own chain
  own_behind : (own : List Publication) → published_by at.before.chain (at.before.seen ++ more) ≡ published_by at.before.chain at.before.seen ++ own → published_by k more ≡ own
  own_behind own published = ap (λ c. published_by c more) (sym of_before.1) ∙ published_behind at.before.chain at.before.seen more own published

  -- what the entry published, and what it read
  pub record Behind : Type 0 where
    pub chains : map (λ (p : Publication). p.chain) more ≡ cond (is_accepted_block e.entry) (chain_of e.entry.event ∷ []) []
    pub reads : ReadingFitsBefore old.genesis.window list e.entry

  within : AreOfFirstChains (length old.ledgers) more
  within = within_more old new event given is step more all_grown

  -- ---- an entry that published nothing

  module _ (plain : IsPlain at.before more of_before.2 e next_is) where
    nothing : more ≡ []
    nothing = none_more (length old.ledgers) more within (λ c low. elim (eqb c k) as (λ b. eqb c k ≡ b → published_by c more ≡ []) [
      | true ↦ λ same. ap (λ x. published_by x more) (eqb-true c k same) ∙ own_behind [] (plain.published ∙ sym (append-nil (published_by at.before.chain at.before.seen)))
      | false ↦ λ other. none_of_others c low (λ same. false≢true (sym other ∙ eq-eqb c k same))
    ] refl)

    seen_then : at.before.seen ++ more ≡ is.publications
    seen_then = ap (λ xs. at.before.seen ++ xs) nothing ∙ append-nil at.before.seen ∙ is.seen k at.before at.was

    -- its stamp counts all that was published
    fronts : (n : ℕ) → e.stamp ≡ Some n → take n (at.before.seen ++ more) ≡ is.publications
    fronts n stamp =
        let late : length at.before.seen ≤ n = subst (λ o. IfSome o (λ n. length at.before.seen ≤ n)) stamp next.5 in
        let whole = length-append at.before.seen more in
        let none = ap length nothing in
        take_all n (at.before.seen ++ more) (omega (arith, late, whole, none)) ∙ seen_then

    plain_reads : (o : Option Reading) → e.entry.reading ≡ o → IfSome o (λ r. IfSome (header_in e.entry.event) (λ header. reading_fits old.genesis.window (blocks_of header.chain list) header.height r ≡ true))
    plain_reads None reads = tt
    plain_reads (Some r) reads =
        let w : (header : Header) × (n : ℕ) × (header_in e.entry.event ≡ Some header) × (e.stamp ≡ Some n) × (n ≤ length (at.before.seen ++ more))
        × (reading_fits at.before.genesis.window (height_among header.chain n (at.before.seen ++ more)) header.height r ≡ true) =
        subst (λ o. IfSome o (λ r. (header : Header) × (n : ℕ) × (header_in e.entry.event ≡ Some header) × (e.stamp ≡ Some n) × (n ≤ length (at.before.seen ++ more))
        × (reading_fits at.before.genesis.window (height_among header.chain n (at.before.seen ++ more)) header.height r ≡ true))) reads (own_reading at.before more of_before.2 e next_is)
        in
        let windows : old.genesis.window ≡ at.before.genesis.window = sym (ap (λ (g : GenesisState). g.window) of_before.0) in
        let blocks : blocks_of w.0.chain list ≡ height_among w.0.chain w.1 (at.before.seen ++ more) = as_many_blocks w.0.chain list is.publications is.turns ∙ ap (height_of w.0.chain) (sym (fronts w.1 w.3)) in
        subst (λ o. IfSome o (λ header. reading_fits old.genesis.window (blocks_of header.chain list) header.height r ≡ true)) (sym w.2)
        ((λ i. reading_fits (windows i) (blocks i) w.0.height r) ∙ w.5)

    of_plain : Behind
    of_plain = record {
      chains = ap (map (λ (p : Publication). p.chain)) nothing ∙ ap (λ b. cond b (chain_of e.entry.event ∷ []) []) (sym plain.plain);
      reads = plain_reads e.entry.reading refl;
    }

  -- ---- a block

  module _ (ended : IsEnded at.before more of_before.2 e next_is) where
    only : more ≡ ended.block ∷ []
    only = one_more (length old.ledgers) more k ended.block within (own_behind (ended.block ∷ []) ended.published) none_of_others

    ended_reads : (o : Option Reading) → IfSome o (λ r. IfSome (header_in e.entry.event) (λ header. reading_fits old.genesis.window (blocks_of header.chain list) header.height r ≡ true))
    ended_reads None = tt
    ended_reads (Some r) = subst (λ o. IfSome o (λ header. reading_fits old.genesis.window (blocks_of header.chain list) header.height r ≡ true)) (sym ended.no_header) tt

    of_ended : Behind
    of_ended = record {
      chains = ap (map (λ (p : Publication). p.chain)) only ∙ ap (λ c. c ∷ []) (ended.chain ∙ of_before.1 ∙ sym (ap chain_of next.2))
          ∙ ap (λ b. cond b (chain_of e.entry.event ∷ []) []) (sym ended.accepted);
      reads = ended_reads e.entry.reading;
    }

  pub behind : Behind
  behind = elim (publishes at.before more of_before.2 e next_is) [ inl plain ↦ of_plain plain | inr ended ↦ of_ended ended ]
