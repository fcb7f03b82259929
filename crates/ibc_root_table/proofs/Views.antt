-- The views of the seats, when one of them changes or one more joins, and what follows from one shape.
use Rattle.std.proofs.Common.{◌≡◌, ◌≢◌, ℕ, zero, suc, ◌⊎◌, ⊎_elim, inl, inr, List, [], ◌∷◌, ◌++◌, length, get_or, set, drop, refl, sym, ap, subst, arith}
use mathlib.Core.Option.{some, some-injective, some-ne-none}
use lib.ListN.{get_elem?}
use Rattle.std.proofs.lemmas.List.{get_or-drop}
use Rattle.atomic_table.proofs.Lists.{at_set}
use Rattle.ibc_ids.specs.declared.publication.Publication.{Publication}
use Rattle.ibc_root_table.specs.declared.knowledge.TableKnowledge.{TableKnowledge}
use Rattle.ibc_root_table.specs.declared.shape.Shape.{Shape}
use Rattle.ibc_root_table.specs.Publications.{IsWithin}
use Rattle.ibc_root_table.specs.Layout.{floor_at}
use Rattle.ibc_root_table.proofs.Chains.{height_grows}
use mathlib.Core.List.{IsPrefix}

-- what is known of each seat stays known where one seat's view changes
pub seats_stay : (K : ℕ → TableKnowledge → Type 0) (vs : List TableKnowledge) (me : ℕ) (w : TableKnowledge) → K me w → ((j : ℕ) (d : TableKnowledge) → j ≢ me → get_elem? vs j ≡ some d → K j d)
    → (j : ℕ) (d : TableKnowledge) → get_elem? (set vs me w) j ≡ some d → K j d
seats_stay K vs me w mine others j d e = ⊎_elim (λ (t : (j ≡ me) × (w ≡ d)). subst (λ (x : ℕ × TableKnowledge). K x.0 x.1) (λ i. (sym t.0 i, t.1 i)) mine)
    (λ (t : (j ≢ me) × (get_elem? vs j ≡ some d)). others j d t.0 t.1) (at_set vs me j w d e)

-- a view in a list with one more at its end
at_end : (l : List TableKnowledge) (a b : TableKnowledge) (j : ℕ) → get_elem? (l ++ a ∷ []) j ≡ some b → (get_elem? l j ≡ some b) ⊎ ((j ≡ length l) × (a ≡ b))
at_end [] a b zero e = inr (refl, some-injective a b e)
at_end [] a b (suc j) e = absurd (some-ne-none b (sym e))
at_end (x ∷ xs) a b zero e = inl e
at_end (x ∷ xs) a b (suc j) e = ⊎_elim (λ t. inl t) (λ t. inr (ap suc t.0, t.1)) (at_end xs a b j e)

-- a seat joins the others
pub one_more : (K : ℕ → TableKnowledge → Type 0) (vs : List TableKnowledge) (w : TableKnowledge) → K (length vs) w → ((j : ℕ) (d : TableKnowledge) → get_elem? vs j ≡ some d → K j d)
    → (j : ℕ) (d : TableKnowledge) → get_elem? (vs ++ w ∷ []) j ≡ some d → K j d
one_more K vs w new old j d e = ⊎_elim (λ (t : get_elem? vs j ≡ some d). old j d t)
    (λ (t : (j ≡ length vs) × (w ≡ d)). subst (λ (x : ℕ × TableKnowledge). K x.0 x.1) (λ i. (sym t.0 i, t.1 i)) new) (at_end vs w d j e)

-- two shapes that are one
pub chains_same : {a b : Shape} → a ≡ b → a.chains ≡ b.chains
chains_same e = ap (λ (x : Shape). x.chains) e

pub windows_same : {a b : Shape} → a ≡ b → a.window ≡ b.window
windows_same e = ap (λ (x : Shape). x.window) e

pub capacities_same : {a b : Shape} → a ≡ b → a.capacity ≡ b.capacity
capacities_same e = ap (λ (x : Shape). x.capacity) e

pub within_own : {a b : Shape} (log : List Publication) → a ≡ b → IsWithin b log → IsWithin a log
within_own log e = subst (λ (x : Shape). IsWithin x log) (sym e)

pub within_prefix : (shape : Shape) (xs ys : List Publication) → IsPrefix xs ys → IsWithin shape ys → IsWithin shape xs
within_prefix shape xs ys p within c l = let more = height_grows c xs ys p in let t = within c (omega arith) in let most = t.1 in (t.0, omega arith)

-- all floors, read off the words
pub all_floors : (key : Shape) (words : List ℕ) (c : ℕ) → get_or (drop key.chains words) c 0 ≡ floor_at key words c
all_floors key words c = get_or-drop key.chains words c 0
