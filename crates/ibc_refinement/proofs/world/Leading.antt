-- The first ledger meets each other one, and then each takes over what the first has seen.
use Rattle.std.proofs.Common.{◌≡◌, ℕ, zero, suc, ◌<◌, true, false, eqb, List, [], ◌∷◌, ◌++◌, refl, sym, ap, ◌∙◌, subst, Some, slice_get, slice_set, arith, eqb-true, eq-eqb, append-nil, append_assoc, inl, inr}
use mathlib.Core.List.{IsPrefix}
use Rattle.std.proofs.lemmas.Bool.{false≢true, cases_lt}
use Rattle.ibc_ids.specs.declared.publication.Publication.{Publication}
use Rattle.ibc_machine.specs.ledger.Ledgers.{Ledger, SeesMore}
use Rattle.ibc_refinement.proofs.ChangedPlaces.{get_within, get_set, get_set_other}
use Rattle.ibc_refinement.specs.World.{AllHaveSeen}
use Rattle.ibc_refinement.specs.Steps.{AllSeeMore}
use Rattle.ibc_refinement.specs.Meetings.{FirstHaveSeenNoMore, FirstHaveSeen, AllMeetTheFirst}
use Rattle.ibc_refinement.proofs.world.Meetings.{same_one}

prefix_both : (xs ys zs : List Publication) → IsPrefix xs ys → IsPrefix ys zs → IsPrefix xs zs
prefix_both xs ys zs p q = (p.0 ++ q.0, sym (append_assoc xs p.0 q.0) ∙ ap (λ l. l ++ q.0) p.1 ∙ q.1)

-- what was seen before is a beginning of what is seen then
pub seen_before : (old new : Ledger) → SeesMore old new → IsPrefix old.seen new.seen
seen_before old new w = (w.0, sym (ap (λ (l : Ledger). l.seen) w.1))

-- at the changed place, and at the others
at_set : (P : Ledger → Type 0) (ledgers : List Ledger) (k j : ℕ) (other after ledger : Ledger) → slice_get ledgers k ≡ Some other → slice_get (slice_set ledgers k after) j ≡ Some ledger
    → P after → ((k ≡ j → ⊥) → slice_get ledgers j ≡ Some ledger → P ledger) → P ledger
at_set P ledgers k j other after ledger there here own others =
    elim (eqb k j) as (λ t. eqb k j ≡ t → P ledger) [
      | true ↦ λ same.
          let set = get_set ledgers k after (get_within ledgers k other there) in
          subst P (same_one (slice_set ledgers k after) j after ledger (ap (slice_get (slice_set ledgers k after)) (sym (eqb-true k j same)) ∙ set) here) own
      | false ↦ λ apart.
          let away : k ≡ j → ⊥ = λ same. false≢true (sym apart ∙ eq-eqb k j same) in
          others away (sym (get_set_other ledgers k j after away) ∙ here)
    ] refl

-- ---- the first round

pub none_behind : (seen : List Publication) (ledgers : List Ledger) → FirstHaveSeenNoMore 0 seen ledgers
none_behind seen ledgers k ledger low = absurd (omega arith)

-- the leader met one more
pub behind_more : (n : ℕ) (ledgers : List Ledger) (before leader other after : Ledger) → FirstHaveSeenNoMore n before.seen ledgers → SeesMore before leader → slice_get ledgers n ≡ Some other → after.seen ≡ leader.seen
    → FirstHaveSeenNoMore (suc n) leader.seen (slice_set ledgers n after)
behind_more n ledgers before leader other after behind sees there same j ledger low here =
    at_set (λ (l : Ledger). IsPrefix l.seen leader.seen) ledgers n j other after ledger there here ([], append-nil after.seen ∙ same) (λ apart was.
    prefix_both ledger.seen before.seen leader.seen (behind j ledger (below apart) was) (seen_before before leader sees))
  where
    below : (n ≡ j → ⊥) → j < n
    below apart = elim (cases_lt j n) [ inl lower ↦ lower | inr above ↦ absurd (apart (omega arith)) ]

-- ---- the second round

pub none_see : (seen : List Publication) (ledgers : List Ledger) → FirstHaveSeen 0 seen ledgers
none_see seen ledgers k ledger low = absurd (omega arith)

-- one more took over what the leader has seen, and the later ones are behind as they were
pub see_more : (n : ℕ) (seen : List Publication) (ledgers : List Ledger) (other after : Ledger) → FirstHaveSeen n seen ledgers → slice_get ledgers n ≡ Some other → after.seen ≡ seen
    → FirstHaveSeen (suc n) seen (slice_set ledgers n after)
see_more n seen ledgers other after first there same j ledger low here =
    at_set (λ (l : Ledger). l.seen ≡ seen) ledgers n j other after ledger there here same (λ apart was. first j ledger (below apart) was)
  where
    below : (n ≡ j → ⊥) → j < n
    below apart = elim (cases_lt j n) [ inl lower ↦ lower | inr above ↦ absurd (apart (omega arith)) ]

pub still_behind : (m n : ℕ) (seen : List Publication) (ledgers : List Ledger) (other after : Ledger) → FirstHaveSeenNoMore m seen ledgers → slice_get ledgers n ≡ Some other → after.seen ≡ seen
    → FirstHaveSeenNoMore m seen (slice_set ledgers n after)
still_behind m n seen ledgers other after behind there same j ledger low here =
    at_set (λ (l : Ledger). IsPrefix l.seen seen) ledgers n j other after ledger there here ([], append-nil after.seen ∙ same) (λ apart was. behind j ledger low was)

-- ---- both

pub all_meet_first : AllMeetTheFirst
all_meet_first first leader others now sees as_many each same is within = record {
  as_many = ap suc as_many;
  each = all_more;
  each_is = is;
  publications = leader.seen;
  seen = all_same;
  within = within;
}
  where
    all_more : AllSeeMore (first ∷ others) (leader ∷ now)
    all_more zero before after was here =
        let one : first ≡ before = same_one (first ∷ others) 0 first before refl was in
        let two : leader ≡ after = same_one (leader ∷ now) 0 leader after refl here in
        subst (λ (x : Ledger × Ledger). SeesMore x.0 x.1) (λ i. (one i, two i)) sees
    all_more (suc k) before after was here = each k before after was here

    all_same : AllHaveSeen leader.seen (leader ∷ now)
    all_same zero ledger here = ap (λ (l : Ledger). l.seen) (sym (same_one (leader ∷ now) 0 leader ledger refl here))
    all_same (suc k) ledger here = same k ledger (get_within now k ledger here) here
