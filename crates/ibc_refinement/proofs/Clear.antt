-- A typed claim about plain records, with all that is hashed among texts that don't clash, is judged alike by
-- a ledger and by the machine.
use Rattle.std.proofs.Common.{◌≡◌, ◌<◌, ◌^◌, [], ◌∷◌, ◌++◌, length, refl, subst, Some, Contains, Less, Equal, Greater, arith, inl, inr}
use Rattle.std.specs.Prelude.{fold}
use Rattle.std.specs.List.{AllByRecursion, filter_map}
use Rattle.std.specs.Ordering.{match_ordering}
use Rattle.ibc_ids.specs.Texts.{Text, text_cmp}
use Rattle.ibc_ids.specs.Maps.{with}
use Rattle.ibc_ids.specs.Paths.{path}
use Rattle.ibc_ids.proofs.Paths.{different_paths}
use Rattle.ibc_ids.specs.declared.key.Key.{Key}
use Rattle.ibc_merkle.specs.Tree.{Pairs, tree}
use Rattle.ibc_merkle.specs.Clashes.{tree_texts}
use Rattle.ibc_machine.specs.chain.Records.{Core}
use Rattle.ibc_machine.specs.ics24.Values.{Value, Claim, value_at, value_bytes}
use Rattle.ibc_machine.specs.ics24.Image.{image, keys, pair_at}
use Rattle.ibc_machine.specs.ics23.HashedTexts.{delivered_proof_texts}
use Rattle.ibc_ids.proofs.Texts.{text_tied}
use Rattle.ibc_refinement.proofs.ShortTexts.{AreBytes}
use Rattle.ibc_merkle.proofs.Accepted.{IsClear}
use Rattle.ibc_refinement.proofs.ShortTexts.{FitsText, FitsPair}
use Rattle.ibc_refinement.proofs.WrittenForm.{written_has_form}
use Rattle.ibc_machine.proofs.Members.{Is_in, in_cases, in_contains, in_filter_map_from}
use Rattle.ibc_machine.proofs.Images.{pair_from}
use Rattle.ibc_refinement.proofs.PlainValues.{ArePlain, IsPlainClaim, plain_tells, plain_one_value}
use Rattle.ibc_refinement.proofs.Shown.{AreClear}

-- ---- the pairs of an image can be spelled

all-with : (P : Text × Text → Type 0) (k v : Text) (es : Pairs) → P (k, v) → AllByRecursion P es → AllByRecursion P (with text_cmp k v es)
all-with P k v [] p h = (p, tt)
all-with P k v (e ∷ es) p h =
    elim (text_cmp k e.0) as (λ o. text_cmp k e.0 ≡ o → AllByRecursion P (match_ordering o ((k, v) ∷ e ∷ es) ((e.0, v) ∷ es) (e ∷ with text_cmp k v es))) [
      | Less ↦ λ _. (p, h)
      | Equal ↦ λ is. (subst (λ x. P (x, v)) (text_tied k e.0 is) p, h.1)
      | Greater ↦ λ _. (h.0, all-with P k v es p h.1)
    ] refl

all-put_all : (P : Text × Text → Type 0) (es ps : Pairs) → ((p : Text × Text) → Is_in p ps → P p) → AllByRecursion P es
    → AllByRecursion P (fold (λ (pairs : Pairs) (pair : Text × Text). with text_cmp pair.0 pair.1 pairs) es ps)
all-put_all P es [] each h = h
all-put_all P es (p ∷ ps) each h = all-put_all P (with text_cmp p.0 p.1 es) ps (λ q i. each q (inr i)) (all-with P p.0 p.1 es (each p (inl refl)) h)

pub all_of_image : (P : Text × Text → Type 0) (core : Core) → ((k : Key) (v : Value) → value_at core k ≡ Some v → P (path k, value_bytes v)) → AllByRecursion P (image core)
unfolding image
all_of_image P core each =
    all-put_all P [] (filter_map (pair_at core) (keys core)) (λ p i.
    let g = in_filter_map_from (pair_at core) p (keys core) i in
    let x = pair_from core g.0 p.0 p.1 g.2 in
    subst P (λ j. (x.2 j, x.3 j)) (each g.0 x.0 x.1)) tt

-- ---- the whole

pub record AreFit (S : Text → Type 0) (core : Core) : Type 0 where
  pub plain : ArePlain S core
  pub fit : (k : Key) (v : Value) → value_at core k ≡ Some v → FitsPair (path k, value_bytes v)
  pub small : length (image core) < 2 ^ 64
  pub hashed : (x : Text) → Is_in x (tree_texts (tree (image core))) → S x

pub record IsFitClaim (S : Text → Type 0) (claim : Claim) (bytes : Text) : Type 0 where
  pub plain : IsPlainClaim S claim
  pub key_fits : FitsText 256 (path claim.key)
  pub bytes_given : AreBytes bytes
  pub hashed : (x : Text) → Is_in x (delivered_proof_texts bytes) → S x

pub clear_from_fit : (S : Text → Type 0) → IsClear S → (core : Core) (claim : Claim) (bytes : Text) → AreFit S core → IsFitClaim S claim bytes → AreClear core claim bytes
clear_from_fit S clear core claim bytes r c = record {
  tells = plain_tells different_paths S core claim.key r.plain c.plain.key_is;
  clear = λ x y i j e. clear x y (among x i) (among y j) e;
  one_value = plain_one_value S clear core claim r.plain c.plain;
  bytes_given = c.bytes_given;
  spelled_written = written_has_form (image core) (path claim.key) (all_of_image FitsPair core r.fit) (omega (arith, r.small)) c.key_fits;
}
  where
    among : (x : Text) → Contains (tree_texts (tree (image core)) ++ delivered_proof_texts bytes) x → S x
    among x i = elim (in_cases x (tree_texts (tree (image core))) (delivered_proof_texts bytes) (in_contains x (tree_texts (tree (image core)) ++ delivered_proof_texts bytes) i)) [ inl a ↦ r.hashed x a | inr b ↦ c.hashed x b ]
