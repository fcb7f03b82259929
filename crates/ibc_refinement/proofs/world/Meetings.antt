-- Meetings after an event, and steps one after another.
use Rattle.std.proofs.Common.{◌≡◌, ℕ, Bool, true, false, eqb, List, [], ◌∷◌, ◌++◌, length, refl, sym, ap, ◌∙◌, subst, Option, Some, None, slice_get, slice_set, arith, eqb-true, eq-eqb, append-nil, append_assoc, inl, inr}
use Rattle.std.specs.Prelude.{IfSome}
use Rattle.std.proofs.lemmas.Bool.{false≢true}
use Rattle.ibc_ids.specs.declared.publication.Publication.{Publication}
use Rattle.ibc_wire.specs.declared.header.Header.{Header}
use Rattle.ibc_machine.specs.declared.event.Event.{Event}
use Rattle.ibc_machine.specs.declared.reply.Reply.{Reply}
use Rattle.ibc_machine.specs.declared.entry.Reading.{Reading}
use Rattle.ibc_machine.specs.ledger.Ledgers.{Ledger, SeesMore, chain_of, header_in, IsReadBetween, ReadsThen, AddsNext}
use Rattle.ibc_refinement.proofs.ChangedPlaces.{get_there, get_within, get_set, get_set_other}
use Rattle.ibc_refinement.specs.World.{WorldState}
use Rattle.ibc_refinement.specs.Steps.{AddsIf, AllSeeMore, AddsNothing, AddsOne, IsStep}
use Rattle.ibc_refinement.specs.Meetings.{HaveMet, IsPut, MeetingEndsStep, NothingDoneIsStep, StepsGoOn}

-- ---- seeing more

pub sees_itself : (ledger : Ledger) → SeesMore ledger ledger
sees_itself ledger = let whole = sym (append-nil ledger.seen) in ([], λ i. record ledger { seen = whole i })

pub sees_both : (a b c : Ledger) → SeesMore a b → SeesMore b c → SeesMore a c
sees_both a b c g h =
    let seens = append_assoc a.seen g.0 h.0 in
    (g.0 ++ h.0, h.1 ∙ ap (λ (l : Ledger). record l { seen = l.seen ++ h.0 }) g.1 ∙ (λ i. record a { seen = seens i }))

-- what was read at some time of a call was read at some time of a longer one
reads_longer : (before after more : List Publication) (reading : Option Reading) (header : Option Header)
    → IfSome reading (λ r. IfSome header (λ h. IsReadBetween before after h.chain r.published))
    → IfSome reading (λ r. IfSome header (λ h. IsReadBetween before (after ++ more) h.chain r.published))
reads_longer before after more None header read = tt
reads_longer before after more (Some r) None read = tt
reads_longer before after more (Some r) (Some h) (mid, early, late, is) =
    (mid, early, (late.0 ++ more, sym (append_assoc mid late.0 more) ∙ ap (λ s. s ++ more) late.1), is)

pub adds_then_sees : (event : Event) (given : Reply) (a b c : Ledger) → AddsNext a event given b → SeesMore b c → AddsNext a event given c
adds_then_sees event given a b c g h =
    let seens = append_assoc a.seen g.1 h.0 in (
      g.0,
      g.1 ++ h.0,
      g.2,
      g.3,
      h.1 ∙ ap (λ (l : Ledger). record l { seen = l.seen ++ h.0 }) g.4 ∙ (λ i. record a { history = a.history ++ g.0 ∷ []; seen = seens i }),
      g.5,
      subst (λ s. ReadsThen a.seen s g.0.entry) seens (reads_longer a.seen (a.seen ++ g.1) h.0 g.0.entry.reading (header_in g.0.entry.event) g.6),
    )

adds_if_then_sees : (own : Bool) (event : Event) (given : Reply) (a b c : Ledger) → AddsIf own event given a b → SeesMore b c → AddsIf own event given a c
adds_if_then_sees true event given a b c g h = adds_then_sees event given a b c g h
adds_if_then_sees false event given a b c g h = sees_both a b c g h

-- ---- all ledgers

pub same_one : (ledgers : List Ledger) (k : ℕ) (a b : Ledger) → slice_get ledgers k ≡ Some a → slice_get ledgers k ≡ Some b → a ≡ b
same_one ledgers k a b there here =
    let both : Some a ≡ Some b = sym there ∙ here in
    cc

pub all_see_themselves : (ledgers : List Ledger) → AllSeeMore ledgers ledgers
all_see_themselves ledgers k before after was now = subst (SeesMore before) (same_one ledgers k before after was now) (sees_itself before)

pub all_see_both : (a b c : List Ledger) → length b ≡ length a → AllSeeMore a b → AllSeeMore b c → AllSeeMore a c
all_see_both a b c as_many g h k before after was now =
    let at = get_there b k (omega (arith, get_within a k before was, as_many)) in
    sees_both before at.0 after (g k before at.0 was at.1) (h k at.0 after at.1 now)

-- one ledger has seen more than it had
pub all_see_with : (a b : List Ledger) (k : ℕ) (before after : Ledger) → AllSeeMore a b → slice_get b k ≡ Some before → SeesMore before after → AllSeeMore a (slice_set b k after)
all_see_with a b k before after all there sees j x y was now =
    elim (eqb k j) as (λ t. eqb k j ≡ t → SeesMore x y) [
      | true ↦ λ same.
          let place = eqb-true k j same in
          let set = get_set b k after (get_within b k before there) in
          let one : after ≡ y = same_one (slice_set b k after) j after y (ap (slice_get (slice_set b k after)) (sym place) ∙ set) now in
          subst (SeesMore x) one (sees_both x before after (all j x before was (ap (slice_get b) (sym place) ∙ there)) sees)
      | false ↦ λ other. all j x y was (sym (get_set_other b k j after (λ same. false≢true (sym other ∙ eq-eqb k j same))) ∙ now)
    ] refl

-- ---- steps

module _ (old mid new : WorldState) (event : Event) (given : Reply) (put : IsPut old event given mid) (met : HaveMet mid.ledgers new.ledgers) (same : new ≡ record mid { ledgers = new.ledgers }) where
  same_order : new.order ≡ mid.order
  same_order = ap (λ (w : WorldState). w.order) same

  met_nothing : AddsNothing old event given mid → AddsNothing old event given new
  met_nothing adds = record {
    no_memory = adds.no_memory;
    unknown = adds.unknown;
    order = same_order ∙ adds.order;
    each = all_see_both old.ledgers mid.ledgers new.ledgers put.as_many adds.each met.each;
  }

  met_one : AddsOne old event given mid → AddsOne old event given new
  met_one adds = record {
    known = adds.known;
    answered = adds.answered;
    order = same_order ∙ adds.order;
    each = λ k before after was now.
        let at = get_there mid.ledgers k (omega (arith, get_within old.ledgers k before was, put.as_many)) in
        adds_if_then_sees (eqb (chain_of event) k) event given before at.0 after (adds.each k before at.0 was at.1) (met.each k at.0 after at.1 now);
  }

  met_step : IsStep old event given new
  met_step = record {
    genesis = ap (λ (w : WorldState). w.genesis) same ∙ put.genesis;
    as_many = met.as_many ∙ put.as_many;
    each_is = met.each_is;
    publications = met.publications;
    seen = met.seen;
    within = met.within;
    adds = elim (put.adds) [ inl adds ↦ inl (met_nothing adds) | inr adds ↦ inr (met_one adds) ];
  }

pub meeting_ends_step : MeetingEndsStep
meeting_ends_step old mid new event given put met same = met_step old mid new event given put met same

pub nothing_done_is_step : NothingDoneIsStep
nothing_done_is_step world event given is no_memory unknown = record {
  genesis = refl;
  as_many = refl;
  each_is = λ k ledger there. (is.of.each k ledger there).2;
  publications = is.publications;
  seen = is.seen;
  within = is.within;
  adds = inl (record { no_memory = no_memory; unknown = unknown; order = refl; each = all_see_themselves world.ledgers });
}

pub steps_go_on : StepsGoOn
steps_go_on old mid new [] [] event given same step = (new, subst (λ w. IsStep w event given new) same step, refl)
steps_go_on old mid new [] (g ∷ replies) event given none step = absurd none
steps_go_on old mid new (e ∷ events) [] event given none step = absurd none
steps_go_on old mid new (e ∷ events) (g ∷ replies) event given (next, first, later) step = (next, first, steps_go_on next mid new events replies event given later step)
