-- What is published behind a list, where the chains' own publications are known.
use Rattle.std.proofs.Common.{◌≡◌, ℕ, ◌<◌, true, false, cond, eqb, List, [], ◌∷◌, ◌++◌, length, refl, sym, ap, ◌∙◌, arith, eqb-true, eq-eqb, length-append, append-nil}
use Rattle.std.proofs.lemmas.Bool.{false≢true}
use Rattle.std.proofs.lemmas.List.{append_cancel_left}
use Rattle.std.proofs.lemmas.List.Elements.{filter-append}
use Rattle.ibc_ids.specs.Publications.{published_by}
use Rattle.ibc_ids.specs.declared.publication.Publication.{Publication}
use Rattle.ibc_refinement.specs.World.{AreOfFirstChains}
use Rattle.ibc_refinement.proofs.world.Together.{first_published, first_within, rest_within}

-- what a chain published behind the list
pub published_behind : (c : ℕ) (seen more own : List Publication) → published_by c (seen ++ more) ≡ published_by c seen ++ own → published_by c more ≡ own
published_behind c seen more own e =
    append_cancel_left (published_by c seen) (published_by c more) own (sym (filter-append (λ (p : Publication). eqb p.chain c) seen more) ∙ e)

pub nothing_behind : (c : ℕ) (seen more : List Publication) → published_by c (seen ++ more) ≡ published_by c seen → published_by c more ≡ []
nothing_behind c seen more e = published_behind c seen more [] (e ∙ sym (append-nil (published_by c seen)))

pub within_behind : (chains : ℕ) (seen more : List Publication) → AreOfFirstChains chains (seen ++ more) → AreOfFirstChains chains more
within_behind chains seen more within c some =
    let parts = ap length (filter-append (λ (p : Publication). eqb p.chain c) seen more) ∙ length-append (published_by c seen) (published_by c more) in
    within c (omega arith)

rest_none : (c : ℕ) (q : Publication) (more : List Publication) → published_by c (q ∷ more) ≡ [] → published_by c more ≡ []
rest_none c q more = elim (eqb q.chain c) as (λ b. cond b (q ∷ published_by c more) (published_by c more) ≡ [] → published_by c more ≡ []) [ true ↦ λ e. absurd (cc) | false ↦ λ e. e ]

-- where no chain published, nothing is there
pub none_more : (chains : ℕ) (more : List Publication) → AreOfFirstChains chains more → ((c : ℕ) → c < chains → published_by c more ≡ []) → more ≡ []
none_more chains [] within none = refl
none_more chains (q ∷ more) within none =
    let there = sym (first_published q more) ∙ none q.chain (first_within chains q more within) in
    absurd (cc)

-- where one chain published once, nothing else is there
pub one_more : (chains : ℕ) (more : List Publication) (k : ℕ) (p : Publication) → AreOfFirstChains chains more → published_by k more ≡ p ∷ []
    → ((c : ℕ) → c < chains → (c ≡ k → ⊥) → published_by c more ≡ []) → more ≡ p ∷ []
one_more chains [] k p within one others = absurd (cc)
one_more chains (q ∷ more) k p within one others =
    elim (eqb q.chain k) as (λ b. eqb q.chain k ≡ b → q ∷ more ≡ p ∷ []) [
      | true ↦ λ is.
          let first : q ∷ published_by k more ≡ p ∷ [] = sym (ap (λ b. cond b (q ∷ published_by k more) (published_by k more)) is) ∙ one in
          let head : q ≡ p = cc in
          let rest : published_by k more ≡ [] = cc in
          let left = none_more chains more (rest_within chains q more within) (λ c low. elim (eqb c k) as (λ b. eqb c k ≡ b → published_by c more ≡ []) [
            | true ↦ λ same. ap (λ x. published_by x more) (eqb-true c k same) ∙ rest
            | false ↦ λ other. rest_none c q more (others c low (λ same. apart c other same))
          ] refl) in
          λ i. head i ∷ left i
      | false ↦ λ is.
          let there = sym (first_published q more) ∙ others q.chain (first_within chains q more within) (apart q.chain is) in
          absurd (cc)
    ] refl
  where
    apart : (c : ℕ) → eqb c k ≡ false → c ≡ k → ⊥
    apart c other same = false≢true (sym other ∙ eq-eqb c k same)
