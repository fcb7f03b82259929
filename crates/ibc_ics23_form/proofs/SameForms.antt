-- A form tells its proof: two proofs of one form are the same.
use Rattle.std.proofs.Common.{◌≡◌, ℕ, List, [], ◌∷◌, ◌++◌, length, refl, sym, ap, ◌∙◌, subst, arith, Option, None, Some, append_assoc}
use Rattle.ibc_ids.specs.Texts.{Text}
use Rattle.ibc_ids.proofs.Texts.{heads_same, tails_same, fronts_same}
use Rattle.ibc_merkle.specs.Hash.{varint}
use Rattle.ibc_merkle.specs.declared.proof.Operation.{Operation}
use Rattle.ibc_merkle.specs.declared.proof.Presence.{Presence}
use Rattle.ibc_merkle.specs.declared.proof.Absence.{Absence}
use Rattle.ibc_merkle.specs.declared.proof.Proof.{Proof}
use Rattle.ibc_merkle.specs.declared.proof.Proof.TheVariants.{Present, Absent}
use Rattle.ibc_merkle.proofs.Digests.{leb128_fronts}
use Rattle.ibc_ics23_form.specs.Forms.{bytes_field, delimited, existence, form_of, inner_front, inner_op, leaf_front, leaf_op, neighbour_field, non_existence, path_fields, IsProofOf}

-- ---- tags

pub apart_10_18 : ◌≡◌ {A = ℕ} 10 18 → ⊥
apart_10_18 h = omega arith

pub apart_10_26 : ◌≡◌ {A = ℕ} 10 26 → ⊥
apart_10_26 h = omega arith

pub apart_18_26 : ◌≡◌ {A = ℕ} 18 26 → ⊥
apart_18_26 h = omega arith

-- ---- one field

tags_same : (t u : ℕ) (a b r s : Text) → delimited t a ++ r ≡ delimited u b ++ s → t ≡ u
tags_same t u a b r s e = heads_same t u ((varint (length a) ++ a) ++ r) ((varint (length b) ++ b) ++ s) e

delimited_fronts : (tag : ℕ) (a b r s : Text) → delimited tag a ++ r ≡ delimited tag b ++ s → (a ≡ b) × (r ≡ s)
delimited_fronts tag a b r s e =
    let behind = tails_same tag tag ((varint (length a) ++ a) ++ r) ((varint (length b) ++ b) ++ s) e in
    let counted = leb128_fronts 9 (length a) (length b) (a ++ r) (b ++ s)
    (sym (append_assoc (varint (length a)) a r) ∙ behind ∙ append_assoc (varint (length b)) b s)
    in
    fronts_same a r b s counted.0 counted.1

-- the text doesn't begin with the tag
abbrev pub IsWithout : ℕ → Text → Type 0
IsWithout tag [] = Unit {0}
IsWithout tag (c ∷ text) = tag ≡ c → ⊥

pub field_without : (t u : ℕ) (x : Text) → (t ≡ u → ⊥) → IsWithout t (bytes_field u x)
field_without t u [] other = tt
field_without t u (c ∷ cs) other = other

pub behind_field : (t u : ℕ) (x r : Text) → (t ≡ u → ⊥) → IsWithout t r → IsWithout t (bytes_field u x ++ r)
behind_field t u [] r other rest = rest
behind_field t u (c ∷ cs) r other rest = other

bytes_fronts : (tag : ℕ) (a b r s : Text) → IsWithout tag r → IsWithout tag s → bytes_field tag a ++ r ≡ bytes_field tag b ++ s → (a ≡ b) × (r ≡ s)
bytes_fronts tag [] [] r s h g e = (refl, e)
bytes_fronts tag [] (b ∷ bs) r s h g e = absurd (subst (IsWithout tag) e h refl)
bytes_fronts tag (a ∷ xs) [] r s h g e = absurd (subst (IsWithout tag) (sym e) g refl)
bytes_fronts tag (a ∷ xs) (b ∷ bs) r s h g e = delimited_fronts tag (a ∷ xs) (b ∷ bs) r s e

-- ---- operations and leaves

leaves_same : (a b : Text) → leaf_op a ≡ leaf_op b → a ≡ b
leaves_same a b e =
    let rest = (fronts_same leaf_front (bytes_field 42 a) leaf_front (bytes_field 42 b) refl e).1 in
    (bytes_fronts 42 a b [] [] tt tt (ap (λ text. text ++ []) rest)).0

operations_same : (a b : Operation) → inner_op a ≡ inner_op b → a ≡ b
operations_same a b e =
    let suffix_of = λ (o : Operation). bytes_field 26 o.suffix in
    let rest = (fronts_same inner_front (bytes_field 18 a.prefix ++ suffix_of a) inner_front (bytes_field 18 b.prefix ++ suffix_of b) refl e).1 in
    let prefix = bytes_fronts 18 a.prefix b.prefix (suffix_of a) (suffix_of b) (field_without 18 26 a.suffix apart_18_26) (field_without 18 26 b.suffix apart_18_26) rest in
    let prefixes = prefix.0 in
    let suffixes = (bytes_fronts 26 a.suffix b.suffix [] [] tt tt (ap (λ text. text ++ []) prefix.1)).0 in
    λ i. record { prefix = prefixes i; suffix = suffixes i }

abbrev IsEmpty : Text → Type 0
IsEmpty [] = Unit {0}
IsEmpty (c ∷ text) = ⊥

paths_same : (xs ys : List Operation) → path_fields xs ≡ path_fields ys → xs ≡ ys
paths_same [] [] e = refl
paths_same [] (y ∷ ys) e = absurd (subst IsEmpty e tt)
paths_same (x ∷ xs) [] e = absurd (subst IsEmpty (sym e) tt)
paths_same (x ∷ xs) (y ∷ ys) e =
    let parts = delimited_fronts 34 (inner_op x) (inner_op y) (path_fields xs) (path_fields ys) e in
    let head = operations_same x y parts.0 in
    let tail = paths_same xs ys parts.1 in
    λ i. head i ∷ tail i

-- ---- presences

pub existence_parts : (p : Presence) → existence p ≡ bytes_field 10 p.key ++ (bytes_field 18 p.value ++ (delimited 26 (leaf_op p.leaf_prefix) ++ path_fields p.operations))
existence_parts p =
    let leaf = delimited 26 (leaf_op p.leaf_prefix) in
    let path = path_fields p.operations in
    append_assoc (bytes_field 10 p.key ++ bytes_field 18 p.value) leaf path ∙ append_assoc (bytes_field 10 p.key) (bytes_field 18 p.value) (leaf ++ path)

presences_same : (a b : Presence) → existence a ≡ existence b → a ≡ b
presences_same a b e =
    let leaf_of = λ (p : Presence). delimited 26 (leaf_op p.leaf_prefix) ++ path_fields p.operations in
    let value_of = λ (p : Presence). bytes_field 18 p.value ++ leaf_of p in
    let key = bytes_fronts 10 a.key b.key (value_of a) (value_of b) (behind_field 10 18 a.value (leaf_of a) apart_10_18 apart_10_26) (behind_field 10 18 b.value (leaf_of b) apart_10_18 apart_10_26) (sym (existence_parts a) ∙ e ∙ existence_parts b) in
    let value = bytes_fronts 18 a.value b.value (leaf_of a) (leaf_of b) apart_18_26 apart_18_26 key.1 in
    let leaf = delimited_fronts 26 (leaf_op a.leaf_prefix) (leaf_op b.leaf_prefix) (path_fields a.operations) (path_fields b.operations) value.1 in
    let keys = key.0 in
    let values = value.0 in
    let prefixes = leaves_same a.leaf_prefix b.leaf_prefix leaf.0 in
    let operations = paths_same a.operations b.operations leaf.1 in
    λ i. record { key = keys i; value = values i; leaf_prefix = prefixes i; operations = operations i }

-- ---- absences

pub neighbour_without : (t u : ℕ) (x : Option Presence) → (t ≡ u → ⊥) → IsWithout t (neighbour_field u x)
neighbour_without t u None other = tt
neighbour_without t u (Some p) other = other

pub behind_neighbour : (t u : ℕ) (x : Option Presence) (r : Text) → (t ≡ u → ⊥) → IsWithout t r → IsWithout t (neighbour_field u x ++ r)
behind_neighbour t u None r other rest = rest
behind_neighbour t u (Some p) r other rest = other

neighbour_fronts : (tag : ℕ) (a b : Option Presence) (r s : Text) → IsWithout tag r → IsWithout tag s → neighbour_field tag a ++ r ≡ neighbour_field tag b ++ s → (a ≡ b) × (r ≡ s)
neighbour_fronts tag None None r s h g e = (refl, e)
neighbour_fronts tag None (Some b) r s h g e = absurd (subst (IsWithout tag) e h refl)
neighbour_fronts tag (Some a) None r s h g e = absurd (subst (IsWithout tag) (sym e) g refl)
neighbour_fronts tag (Some a) (Some b) r s h g e =
    let parts = delimited_fronts tag (existence a) (existence b) r s e in
    (ap Some (presences_same a b parts.0), parts.1)

pub non_existence_parts : (p : Absence) → non_existence p ≡ bytes_field 10 p.key ++ (neighbour_field 18 p.left ++ neighbour_field 26 p.right)
non_existence_parts p = append_assoc (bytes_field 10 p.key) (neighbour_field 18 p.left) (neighbour_field 26 p.right)

absences_same : (a b : Absence) → non_existence a ≡ non_existence b → a ≡ b
absences_same a b e =
    let right_of = λ (p : Absence). neighbour_field 26 p.right in
    let left_of = λ (p : Absence). neighbour_field 18 p.left ++ right_of p in
    let without_key = λ (p : Absence). behind_neighbour 10 18 p.left (right_of p) apart_10_18 (neighbour_without 10 26 p.right apart_10_26) in
    let key = bytes_fronts 10 a.key b.key (left_of a) (left_of b) (without_key a) (without_key b) (sym (non_existence_parts a) ∙ e ∙ non_existence_parts b) in
    let left = neighbour_fronts 18 a.left b.left (right_of a) (right_of b) (neighbour_without 18 26 a.right apart_18_26) (neighbour_without 18 26 b.right apart_18_26) key.1 in
    let keys = key.0 in
    let lefts = left.0 in
    let rights = (neighbour_fronts 26 a.right b.right [] [] tt tt (ap (λ text. text ++ []) left.1)).0 in
    λ i. record { key = keys i; left = lefts i; right = rights i }

-- ---- proofs

presence_is_no_absence : (a : Presence) (b : Absence) → delimited 10 (existence a) ≡ delimited 18 (non_existence b) → ⊥
presence_is_no_absence a b e =
    let tags = tags_same 10 18 (existence a) (non_existence b) [] [] (ap (λ text. text ++ []) e) in omega arith

pub proofs_same : (p q : Proof) → form_of p ≡ form_of q → p ≡ q
unfolding form_of
proofs_same (Present a) (Present b) e =
    ap Present (presences_same a b (delimited_fronts 10 (existence a) (existence b) [] [] (ap (λ text. text ++ []) e)).0)
proofs_same (Present a) (Absent b) e = absurd (presence_is_no_absence a b e)
proofs_same (Absent a) (Present b) e = absurd (presence_is_no_absence b a (sym e))
proofs_same (Absent a) (Absent b) e =
    ap Absent (absences_same a b (delimited_fronts 18 (non_existence a) (non_existence b) [] [] (ap (λ text. text ++ []) e)).0)

pub the_one : (text : Text) (proof : Proof) → form_of proof ≡ text → IsProofOf text proof
the_one text proof e = record { form = e; alone = λ other h. proofs_same other proof (h ∙ sym e) }
