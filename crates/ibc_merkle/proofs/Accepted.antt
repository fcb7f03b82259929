-- Where no two texts clash, operations that lead from a leaf to the root are those along a path to that leaf.
use Rattle.std.proofs.Common.{◌≡◌, ℕ, suc, Bool, true, false, ◌&&◌, eqb, List, [], ◌∷◌, ◌++◌, length, take, reverse, refl, sym, ap, ap₂, ◌∙◌, subst, Some, inl, inr, ◌⊎◌, arith, append-nil, eqb-true, Contains}
use Rattle.std.specs.Prelude.{⊤}
use Rattle.std.specs.List.{list_all}
use Rattle.std.proofs.lemmas.List.Elements.{Contains-append_left, Contains-append_right}
use Rattle.std.proofs.lemmas.Bool.{and_parts, and_from, or_cases}
use Rattle.ibc_ids.specs.Texts.{Text, same_text}
use Rattle.ibc_ids.proofs.Texts.{text_same, heads_same, fronts_same}
use Rattle.ibc_merkle.specs.Hash.{hash, leaf_text, leaf_mark, inner_text, varint}
use Rattle.ibc_merkle.specs.Tree.{Tree, Leaf, Node, root}
use Rattle.ibc_merkle.specs.Proofs.{goes_left, goes_right, is_inner, operation_text, climb}
use Rattle.ibc_merkle.specs.Written.{left_child, right_child}
use Rattle.ibc_merkle.specs.Clashes.{tree_texts, climb_texts}
use Rattle.ibc_merkle.specs.declared.proof.Operation.{Operation}
use Rattle.ibc_merkle.proofs.Digests.{length-hash, length-root, inner_texts_same, leaf_texts_same}
use Rattle.ibc_merkle.proofs.Paths.{leaf_at, along, climb_down}
use Rattle.ibc_merkle.proofs.LeafPaths.{reverse_cons}

-- ---- an operation tells its child's and its sibling's hash

pub begins_with_one : (o : Operation) (child : Text) → is_inner o ≡ true → (rest : Text) × (operation_text o child ≡ 1 ∷ rest)
begins_with_one o child h =
    elim (or_cases (goes_left o) (goes_right o) h) [
      | inl l ↦
          let parts = and_parts (same_text o.prefix (1 ∷ [])) (eqb (length o.suffix) 32) l in
          (child ++ o.suffix, ap (λ p. p ++ child ++ o.suffix) (text_same o.prefix (1 ∷ []) parts.0))
      | inr r ↦
          let parts = and_parts (eqb (length o.prefix) 33 && same_text (take 1 o.prefix) (1 ∷ [])) (same_text o.suffix []) r in
          let front = and_parts (eqb (length o.prefix) 33) (same_text (take 1 o.prefix) (1 ∷ [])) parts.0 in
          one_first o.prefix child o.suffix (text_same (take 1 o.prefix) (1 ∷ []) front.1)
    ]
  where
    one_first : (p child s : Text) → take 1 p ≡ 1 ∷ [] → (rest : Text) × (p ++ child ++ s ≡ 1 ∷ rest)
    one_first [] child s e = absurd (cc)
    one_first (x ∷ p) child s e = (p ++ child ++ s, ap (λ y. y ∷ p ++ child ++ s) (heads_same x 1 [] [] e))

pub turn : (o : Operation) (child a b : Text) → is_inner o ≡ true → length child ≡ 32 → length a ≡ 32 → operation_text o child ≡ inner_text a b
    → ((o ≡ left_child b) × (child ≡ a)) ⊎ ((o ≡ right_child a) × (child ≡ b))
turn o child a b h lc la e =
    elim (or_cases (goes_left o) (goes_right o) h) [
      | inl l ↦
          let parts = and_parts (same_text o.prefix (1 ∷ [])) (eqb (length o.suffix) 32) l in
          let p = text_same o.prefix (1 ∷ []) parts.0 in
          let same = inner_texts_same child o.suffix a b (lc ∙ sym la) (sym (ap (λ p. p ++ child ++ o.suffix) p) ∙ e) in
          let s = same.1 in
          inl ((λ i. record { prefix = p i; suffix = s i }), same.0)
      | inr r ↦
          let parts = and_parts (eqb (length o.prefix) 33 && same_text (take 1 o.prefix) (1 ∷ [])) (same_text o.suffix []) r in
          let front = and_parts (eqb (length o.prefix) 33) (same_text (take 1 o.prefix) (1 ∷ [])) parts.0 in
          let s = text_same o.suffix [] parts.1 in
          let long = eqb-true (length o.prefix) 33 front.0 in
          let whole = sym (append-nil (o.prefix ++ child)) ∙ sym (ap (λ s. o.prefix ++ child ++ s) s) ∙ e in
          let same = fronts_same o.prefix child (1 ∷ a) b (omega arith) whole in
          let p = same.0 in
          inr ((λ i. record { prefix = p i; suffix = s i }), same.1)
    ]

-- ---- from the leaf up, and from the root down

pub climb_down-push : (child : Text) (os : List Operation) (o : Operation) → climb_down child (os ++ o ∷ []) ≡ climb_down (hash (operation_text o child)) os
climb_down-push child [] o = refl
climb_down-push child (p ∷ os) o = ap (λ c. hash (operation_text p c)) (climb_down-push child os o)

pub climb_is_down : (child : Text) (os : List Operation) → climb child os ≡ climb_down child (reverse os)
climb_is_down child [] = refl
climb_is_down child (o ∷ os) =
    climb_is_down (hash (operation_text o child)) os ∙ sym (climb_down-push child (reverse os) o) ∙ ap (climb_down child) (sym (reverse_cons o os))

length-climb_down : (child : Text) (os : List Operation) → length child ≡ 32 → length (climb_down child os) ≡ 32
length-climb_down child [] l = l
length-climb_down child (o ∷ os) l = length-hash _

list_all-push : {A : Type 0} (test : A → Bool) (xs : List A) (x : A) → list_all test xs ≡ true → test x ≡ true → list_all test (xs ++ x ∷ []) ≡ true
list_all-push test [] x h e = and_from (test x) true e refl
list_all-push test (y ∷ xs) x h e = let parts = and_parts (test y) (list_all test xs) h in and_from (test y) (list_all test (xs ++ x ∷ [])) parts.0 (list_all-push test xs x parts.1 e)

pub list_all-reverse : {A : Type 0} (test : A → Bool) (xs : List A) → list_all test xs ≡ true → list_all test (reverse xs) ≡ true
list_all-reverse test [] h = refl
list_all-reverse test (x ∷ xs) h =
    let parts = and_parts (test x) (list_all test xs) h in
    subst (λ ys. list_all test ys ≡ true) (sym (reverse_cons x xs)) (list_all-push test (reverse xs) x (list_all-reverse test xs parts.1) parts.0)

-- ---- sets of texts

-- texts of the set with one digest are one text
abbrev pub IsClear : (Text → Type 0) → Type 0
IsClear S = (x y : Text) → S x → S y → hash x ≡ hash y → x ≡ y

-- the set has each text that the tree hashes, and each of a climb
abbrev pub HasTree : (Text → Type 0) → Tree → Type 0
HasTree S (Leaf key value) = S value × S (leaf_text leaf_mark key value)
HasTree S (Node l r) = HasTree S l × HasTree S r × S (inner_text (root l) (root r))

abbrev pub HasClimb : (Text → Type 0) → Text → List Operation → Type 0
HasClimb S child [] = ⊤
HasClimb S child (o ∷ os) = HasClimb S child os × S (operation_text o (climb_down child os))

pub contains_first : (x : Text) (xs : List Text) → Contains (x ∷ xs) x
contains_first x xs = (0, omega arith, refl)

pub contains_later : (y x : Text) (xs : List Text) → Contains xs x → Contains (y ∷ xs) x
contains_later y x xs w = (suc w.0, omega (arith, w.1), w.2)

pub has_tree : (S : Text → Type 0) (t : Tree) → ((x : Text) → Contains (tree_texts t) x → S x) → HasTree S t
has_tree S (Leaf key value) has =
    let leaf = leaf_text leaf_mark key value in
    (has value (contains_first value (leaf ∷ [])), has leaf (contains_later value leaf (leaf ∷ []) (contains_first leaf [])))
has_tree S (Node l r) has =
    let inner = inner_text (root l) (root r) in
    let both = tree_texts l ++ tree_texts r in (
      has_tree S l (λ x c. has x (Contains-append_left both (inner ∷ []) x (Contains-append_left (tree_texts l) (tree_texts r) x c))),
      has_tree S r (λ x c. has x (Contains-append_left both (inner ∷ []) x (Contains-append_right (tree_texts l) (tree_texts r) x c))),
      has inner (Contains-append_right both (inner ∷ []) inner (contains_first inner [])),
    )

has_climb-push : (S : Text → Type 0) (child : Text) (os : List Operation) (o : Operation) → HasClimb S (hash (operation_text o child)) os → S (operation_text o child) → HasClimb S child (os ++ o ∷ [])
has_climb-push S child [] o h s = (tt, s)
has_climb-push S child (p ∷ os) o h s =
    (has_climb-push S child os o h.0 s, subst (λ c. S (operation_text p c)) (sym (climb_down-push child os o)) h.1)

pub has_climb : (S : Text → Type 0) (child : Text) (os : List Operation) → ((x : Text) → Contains (climb_texts child os) x → S x) → HasClimb S child (reverse os)
has_climb S child [] has = tt
has_climb S child (o ∷ os) has =
    let text = operation_text o child in
    let rest = has_climb S (hash text) os (λ x c. has x (contains_later text x (climb_texts (hash text) os) c)) in
    subst (HasClimb S child) (sym (reverse_cons o os)) (has_climb-push S child (reverse os) o rest (has text (contains_first text (climb_texts (hash text) os))))

-- ---- the path

pub record Leads (t : Tree) (e : Text × Text) (os : List Operation) : Type 0 where
  pub path : List Bool
  pub leads : leaf_at t path ≡ Some e
  pub is_along : os ≡ along t path

pub leads : (S : Text → Type 0) → IsClear S → (t : Tree) (key value : Text) (os : List Operation) → HasTree S t → S value → S (leaf_text leaf_mark key value)
    → HasClimb S (hash (leaf_text leaf_mark key value)) os → list_all is_inner os ≡ true → climb_down (hash (leaf_text leaf_mark key value)) os ≡ root t → Leads t (key, value) os
leads S clear (Leaf k v) key value [] has sv sl climbed inner e =
    let same = leaf_texts_same key value k v (clear _ _ sl has.1 e) in
    let keys = same.0 in
    let values = clear value v sv has.0 same.1 in
    record { path = []; leads = ap Some (λ i. (sym keys i, sym values i)); is_along = refl }
leads S clear (Leaf k v) key value (o ∷ os) has sv sl climbed inner e =
    let parts = and_parts (is_inner o) (list_all is_inner os) inner in
    let w = begins_with_one o (climb_down (hash (leaf_text leaf_mark key value)) os) parts.0 in
    let first : ◌≡◌ {A = ℕ} 1 0 = heads_same 1 0 w.0 (varint (length k) ++ k ++ 0x20 ∷ hash v) (sym w.1 ∙ clear _ _ climbed.1 has.1 e) in
    absurd (omega arith)
leads S clear (Node l r) key value [] has sv sl climbed inner e =
    let first : ◌≡◌ {A = ℕ} 0 1 = heads_same 0 1 (varint (length key) ++ key ++ 0x20 ∷ hash value) (root l ++ root r) (clear _ _ sl has.2 e) in
    absurd (omega arith)
leads S clear (Node l r) key value (o ∷ os) has sv sl climbed inner e =
    let leaf = hash (leaf_text leaf_mark key value) in
    let parts = and_parts (is_inner o) (list_all is_inner os) inner in
    elim (turn o (climb_down leaf os) (root l) (root r) parts.0 (length-climb_down leaf os (length-hash _)) (length-root l) (clear _ _ climbed.1 has.2 e)) [
      | inl w ↦
          let rest = leads S clear l key value os has.0 sv sl climbed.0 parts.1 w.1 in
          record { path = true ∷ rest.path; leads = rest.leads; is_along = ap₂ ◌∷◌ w.0 rest.is_along }
      | inr w ↦
          let rest = leads S clear r key value os has.1 sv sl climbed.0 parts.1 w.1 in
          record { path = false ∷ rest.path; leads = rest.leads; is_along = ap₂ ◌∷◌ w.0 rest.is_along }
    ]
