-- A form is read as its proof: what is cut out of it is the proof, where the proof has a spelling.
use Rattle.std.proofs.Common.{◌≡◌, ℕ, zero, suc, ◌+◌, ◌-◌, ◌*◌, ◌/◌, ◌%◌, ◌^◌, ◌<◌, ◌≤◌, ◌==◌, Bool, true, false, ◌&&◌, nat_lt, nat_le, List, [], ◌∷◌, ◌++◌, length, refl, sym, ap, ◌∙◌, subst, arith, Option, None, Some, append_assoc, append-nil, length-append, leb-true, lt-ltb, ltb-true, le-ltb, pow-suc, eq-eqb, ne_eqb, if◌then◌else◌}
use Rattle.std.specs.Prelude.{bytes_eq, IsTrue}
use Rattle.std.specs.List.{flat_map}
use Rattle.std.proofs.lemmas.Bool.{and_parts, and_from, ltb-false}
use Rattle.std.proofs.lemmas.List.Folds.{list_all-append}
use Rattle.ibc_ids.specs.Texts.{Text}
use Rattle.ibc_merkle.specs.Hash.{varint}
use Rattle.ibc_merkle.proofs.Varints.{varint-last, varint-more}
use Rattle.ibc_merkle.specs.declared.proof.Operation.{Operation}
use Rattle.ibc_merkle.specs.declared.proof.Presence.{Presence}
use Rattle.ibc_merkle.specs.declared.proof.Absence.{Absence}
use Rattle.ibc_merkle.specs.declared.proof.Proof.{Proof}
use Rattle.ibc_merkle.specs.declared.proof.Proof.TheVariants.{Present, Absent}
use Rattle.ibc_wire.specs.Fields.{Field, str_up_to, count_between, one_byte, have_form}
use Rattle.ibc_wire.specs.Spelling.{operation_fields, presence_fields, neighbour_fields, proof_fields}
use Rattle.ibc_wire.specs.Reading.{◌>>=◌, Front, bytes_at_front}
use Rattle.ibc_wire.specs.Fronts.{IsRefusal}
use Rattle.ibc_ids.specs.declared.refusal.Refusal.{Refusal}
use Rattle.ibc_ids.specs.declared.refusal.Refusal.TheVariants.{BadMessage}
use Rattle.ibc_wire.proofs.Fronts.{bytes_front, none_some, some_same}
use Rattle.ibc_ics23_form.specs.Forms.{bytes_field, delimited, existence, form_of, inner_front, inner_op, leaf_front, leaf_op, neighbour_field, non_existence, path_fields, IsFormOfNone, IsProofOf}
use Rattle.ibc_ics23_form.specs.Reading.{absence_in, behind, content_at_front, delimited_at_front, leaf_prefix_in, neighbour_at_front, operation_at_front, operation_in, path_behind, presence_in, proof_in, varint_at_front}
use Rattle.ibc_ics23_form.proofs.SameForms.{IsWithout, apart_10_18, apart_10_26, apart_18_26, behind_field, behind_neighbour, existence_parts, field_without, neighbour_without, non_existence_parts}

-- ---- numbers

-- seven bits, and what stands behind them
abbrev with_higher : ℕ → Front ℕ → Front ℕ
with_higher b read = read >>= λ (higher : ℕ × Text). if nat_lt higher.0 (2 ^ 56) then Some (b % 128 + 128 * higher.0, higher.1) else None

abbrev chosen : ℕ → ℕ → Text → Bool → Front ℕ
chosen more b rest small = if small then Some (b, rest) else if more == 0 then None else with_higher b (varint_at_front (more - 1) rest)

first_byte : (more b : ℕ) (rest : Text) → varint_at_front more (b ∷ rest) ≡ chosen more b rest (nat_lt b 128)
unfolding varint_at_front
first_byte more b rest = refl

varint_read_by : (more n : ℕ) (rest : Text) (small : Bool) → nat_lt n 128 ≡ small → n < 128 ^ suc more → n < 2 ^ 63 → varint_at_front more (varint n ++ rest) ≡ Some (n, rest)
varint_read_by more n rest true is fits within =
    ap (λ (t : Text). varint_at_front more (t ++ rest)) (varint-last n (ltb-true n 128 is)) ∙ first_byte more n rest ∙ ap (chosen more n rest) is
varint_read_by zero n rest false is fits within = let large = ltb-false n 128 is in absurd (omega arith)
varint_read_by (suc more) n rest false is fits within =
    let large = ltb-false n 128 is in
    let part : n / 128 < 128 ^ suc more = let h : n < 128 ^ suc more * 128 = rw pow-suc at fits in omega arith in
    let b = 128 + n % 128 in
    let tail = varint (n / 128) ++ rest in
    let before : suc more - 1 ≡ more = omega arith in
    let low : b % 128 + 128 * (n / 128) ≡ n = omega arith in
    ap (λ (t : Text). varint_at_front (suc more) (t ++ rest)) (varint-more n large (omega arith))
    ∙ first_byte (suc more) b tail
    ∙ ap (chosen (suc more) b tail) (le-ltb b 128 (omega arith))
    ∙ ap (λ (none : Bool). if none then None else with_higher b (varint_at_front (suc more - 1) tail)) (ne_eqb (suc more) 0 (λ (h : suc more ≡ 0). omega arith))
    ∙ ap (λ (m : ℕ). with_higher b (varint_at_front m tail)) before
    ∙ ap (with_higher b) (varint_read_by more (n / 128) rest (nat_lt (n / 128) 128) refl part (omega arith))
    ∙ ap (λ (small : Bool). if small then Some (b % 128 + 128 * (n / 128), rest) else None) (lt-ltb (n / 128) (2 ^ 56) (omega arith))
    ∙ ap (λ (m : ℕ). Some (m, rest)) low

varint_read : (n : ℕ) (rest : Text) → n < 2 ^ 63 → varint_at_front 8 (varint n ++ rest) ≡ Some (n, rest)
varint_read n rest within = varint_read_by 8 n rest (nat_lt n 128) refl within within

-- ---- one field

delimited_read : (tag : ℕ) (content rest : Text) → length content < 2 ^ 63 → delimited_at_front tag (delimited tag content ++ rest) ≡ Some (content, rest)
unfolding delimited_at_front
delimited_read tag content rest within =
    let cut = λ (size : ℕ × Text). bytes_at_front size.0 size.1 in
    let text = (varint (length content) ++ content) ++ rest in
    ap (λ (same : Bool). if same then varint_at_front 8 text >>= cut else None) (eq-eqb tag tag refl)
    ∙ ap (λ (t : Text). varint_at_front 8 t >>= cut) (append_assoc (varint (length content)) content rest)
    ∙ ap (λ (read : Front ℕ). read >>= cut) (varint_read (length content) (content ++ rest) within)
    ∙ bytes_front (length content) content rest refl

content_read : (tag : ℕ) (content rest : Text) → IsWithout tag rest → length content < 2 ^ 63 → content_at_front tag (bytes_field tag content ++ rest) ≡ Some (content, rest)
unfolding content_at_front
content_read tag [] [] without within = refl
content_read tag [] (c ∷ rest) without within =
    ap (λ (same : Bool). if same then delimited_at_front tag (c ∷ rest) else Some ([], c ∷ rest)) (ne_eqb c tag (λ same. without (sym same)))
content_read tag (c ∷ cs) rest without within =
    let text = delimited tag (c ∷ cs) ++ rest in
    ap (λ (same : Bool). if same then delimited_at_front tag text else Some ([], text)) (eq-eqb tag tag refl)
    ∙ delimited_read tag (c ∷ cs) rest within

-- the last field
last_read : (tag : ℕ) (content : Text) → length content < 2 ^ 63 → content_at_front tag (bytes_field tag content) ≡ Some (content, [])
last_read tag content within =
    ap (content_at_front tag) (sym (append-nil (bytes_field tag content))) ∙ content_read tag content [] tt within

bytes_eq_itself : (text : Text) → bytes_eq text text ≡ true
bytes_eq_itself [] = refl
bytes_eq_itself (c ∷ text) = and_from (c == c) (bytes_eq text text) (eq-eqb c c refl) (bytes_eq_itself text)

behind_read : (front rest : Text) → behind front (front ++ rest) ≡ Some rest
unfolding behind
behind_read front rest =
    ap (λ (read : Front Text). read >>= λ (found : Text × Text). if bytes_eq found.0 front then Some found.1 else None) (bytes_front (length front) front rest refl)
    ∙ ap (λ (same : Bool). if same then Some rest else None) (bytes_eq_itself front)

-- ---- lengths

inside : (tag : ℕ) (a r : Text) → length (delimited tag a ++ r) < 2 ^ 63 → (length a < 2 ^ 63) × (length r < 2 ^ 63)
inside tag a r within =
    let all = length-append (varint (length a) ++ a) r in
    let front = length-append (varint (length a)) a in
    (omega arith, omega arith)

inside_field : (tag : ℕ) (a r : Text) → length (bytes_field tag a ++ r) < 2 ^ 63 → (length a < 2 ^ 63) × (length r < 2 ^ 63)
inside_field tag [] r within = (omega arith, within)
inside_field tag (c ∷ cs) r within = inside tag (c ∷ cs) r within

inside_last : (tag : ℕ) (a : Text) → length (bytes_field tag a) < 2 ^ 63 → length a < 2 ^ 63
inside_last tag a within = (inside_field tag a [] (subst (λ (t : Text). length t < 2 ^ 63) (sym (append-nil (bytes_field tag a))) within)).0

-- ---- operations

operation_read : (o : Operation) → length (inner_op o) < 2 ^ 63 → operation_in (inner_op o) ≡ Some o
unfolding operation_in
operation_read o within =
    let suffix = bytes_field 26 o.suffix in
    let fields = bytes_field 18 o.prefix ++ suffix in
    let all = length-append inner_front fields in
    let parts = inside_field 18 o.prefix suffix (omega arith) in
    let e1 : behind inner_front (inner_op o) ≡ Some fields = behind_read inner_front fields in
    let e2 : content_at_front 18 fields ≡ Some (o.prefix, suffix) = content_read 18 o.prefix suffix (field_without 18 26 o.suffix apart_18_26) parts.0 in
    let e3 : content_at_front 26 suffix ≡ Some (o.suffix, []) = last_read 26 o.suffix (inside_last 26 o.suffix parts.1) in
    rw (e1, e2, e3) refl

first_operation : (o : Operation) (rest : Text) → length (inner_op o) < 2 ^ 63 → operation_at_front (delimited 34 (inner_op o) ++ rest) ≡ Some (o, rest)
unfolding operation_at_front
first_operation o rest within =
    let e1 = delimited_read 34 (inner_op o) rest within in
    let e2 = operation_read o within in
    rw (e1, e2) refl

pub path_more : (b : ℕ) (rest : Text) (most : ℕ) (done : List Operation) → 0 < most
    → path_behind (b ∷ rest) most done ≡ (operation_at_front (b ∷ rest) >>= λ (next : Operation × Text). path_behind next.1 (most - 1) (done ++ next.0 ∷ []))
unfolding path_behind
path_more b rest zero done some = absurd (omega arith)
path_more b rest (suc most) done some =
    let before : suc most - 1 ≡ most = omega arith in
    ap (λ (m : ℕ). operation_at_front (b ∷ rest) >>= λ (next : Operation × Text). path_behind next.1 m (done ++ next.0 ∷ [])) (sym before)

path_read : (most : ℕ) (ops done : List Operation) → length ops ≤ most → length (path_fields ops) < 2 ^ 63 → path_behind (path_fields ops) most done ≡ Some (done ++ ops)
unfolding path_behind
path_read most [] done few within = ap Some (sym (append-nil done))
path_read zero (o ∷ ops) done few within = absurd (omega arith)
path_read (suc most) (o ∷ ops) done few within =
    let parts = inside 34 (inner_op o) (path_fields ops) within in
    ap (λ (read : Front Operation). read >>= λ (next : Operation × Text). path_behind next.1 most (done ++ next.0 ∷ [])) (first_operation o (path_fields ops) parts.0)
    ∙ path_read most ops (done ++ o ∷ []) (omega arith) parts.1
    ∙ ap Some (append_assoc done (o ∷ []) ops)

-- ---- presences

leaf_read : (prefix : Text) → length (leaf_op prefix) < 2 ^ 63 → leaf_prefix_in (leaf_op prefix) ≡ Some prefix
unfolding leaf_prefix_in
leaf_read prefix within =
    let field = bytes_field 42 prefix in
    let all = length-append leaf_front field in
    let e1 : behind leaf_front (leaf_op prefix) ≡ Some field = behind_read leaf_front field in
    let e2 : content_at_front 42 field ≡ Some (prefix, []) = last_read 42 prefix (inside_last 42 prefix (omega arith)) in
    rw (e1, e2) refl

presence_read : (p : Presence) → length p.operations ≤ 64 → length (existence p) < 2 ^ 63 → presence_in (existence p) ≡ Some p
unfolding presence_in
presence_read p few within =
    let path = path_fields p.operations in
    let leaf = delimited 26 (leaf_op p.leaf_prefix) ++ path in
    let value = bytes_field 18 p.value ++ leaf in
    let keys = inside_field 10 p.key value (subst (λ (t : Text). length t < 2 ^ 63) (existence_parts p) within) in
    let values = inside_field 18 p.value leaf keys.1 in
    let leaves = inside 26 (leaf_op p.leaf_prefix) path values.1 in
    let e1 : content_at_front 10 (existence p) ≡ Some (p.key, value) = ap (content_at_front 10) (existence_parts p) ∙ content_read 10 p.key value (behind_field 10 18 p.value leaf apart_10_18 apart_10_26) keys.0 in
    let e2 : content_at_front 18 value ≡ Some (p.value, leaf) = content_read 18 p.value leaf apart_18_26 values.0 in
    let e3 : delimited_at_front 26 leaf ≡ Some (leaf_op p.leaf_prefix, path) = delimited_read 26 (leaf_op p.leaf_prefix) path leaves.0 in
    let e4 = leaf_read p.leaf_prefix leaves.0 in
    let e5 : path_behind path 64 [] ≡ Some p.operations = path_read 64 p.operations [] few leaves.1 in
    rw (e1, e2, e3, e4, e5) refl

-- ---- absences

abbrev IsShort : Option Presence → Type 0
IsShort None = Unit {0}
IsShort (Some p) = length p.operations ≤ 64

inside_neighbour : (tag : ℕ) (x : Option Presence) (r : Text) → length (neighbour_field tag x ++ r) < 2 ^ 63 → length r < 2 ^ 63
inside_neighbour tag None r within = within
inside_neighbour tag (Some p) r within = (inside tag (existence p) r within).1

neighbour_read : (tag : ℕ) (x : Option Presence) (rest : Text) → IsWithout tag rest → IsShort x → length (neighbour_field tag x ++ rest) < 2 ^ 63 → neighbour_at_front tag (neighbour_field tag x ++ rest) ≡ Some (x, rest)
unfolding neighbour_at_front
neighbour_read tag None [] without few within = refl
neighbour_read tag None (c ∷ rest) without few within =
    let cut = delimited_at_front tag (c ∷ rest) >>= λ (found : Text × Text). presence_in found.0 >>= λ (shown : Presence). Some (Some shown, found.1) in
    ap (λ (same : Bool). if same then cut else Some (None, c ∷ rest)) (ne_eqb c tag (λ same. without (sym same)))
neighbour_read tag (Some p) rest without few within =
    let text = delimited tag (existence p) ++ rest in
    let parts = inside tag (existence p) rest within in
    let shown_in = λ (found : Text × Text). presence_in found.0 >>= λ (shown : Presence). Some (Some shown, found.1) in
    ap (λ (same : Bool). if same then delimited_at_front tag text >>= shown_in else Some (None, text)) (eq-eqb tag tag refl)
    ∙ ap (λ (read : Front Text). read >>= shown_in) (delimited_read tag (existence p) rest parts.0)
    ∙ ap (λ (read : Option Presence). read >>= λ (shown : Presence). Some (Some shown, rest)) (presence_read p few parts.0)

last_neighbour_read : (tag : ℕ) (x : Option Presence) → IsShort x → length (neighbour_field tag x) < 2 ^ 63 → neighbour_at_front tag (neighbour_field tag x) ≡ Some (x, [])
last_neighbour_read tag x few within =
    ap (neighbour_at_front tag) (sym (append-nil (neighbour_field tag x)))
    ∙ neighbour_read tag x [] tt few (subst (λ (t : Text). length t < 2 ^ 63) (sym (append-nil (neighbour_field tag x))) within)

absence_read : (p : Absence) → IsShort p.left → IsShort p.right → length (non_existence p) < 2 ^ 63 → absence_in (non_existence p) ≡ Some p
unfolding absence_in
absence_read p few_left few_right within =
    let right = neighbour_field 26 p.right in
    let left = neighbour_field 18 p.left ++ right in
    let keys = inside_field 10 p.key left (subst (λ (t : Text). length t < 2 ^ 63) (non_existence_parts p) within) in
    let without_key = behind_neighbour 10 18 p.left right apart_10_18 (neighbour_without 10 26 p.right apart_10_26) in
    let e1 : content_at_front 10 (non_existence p) ≡ Some (p.key, left) = ap (content_at_front 10) (non_existence_parts p) ∙ content_read 10 p.key left without_key keys.0 in
    let e2 : neighbour_at_front 18 left ≡ Some (p.left, right) = neighbour_read 18 p.left right (neighbour_without 18 26 p.right apart_18_26) few_left keys.1 in
    let e3 : neighbour_at_front 26 right ≡ Some (p.right, []) = last_neighbour_read 26 p.right few_right (inside_neighbour 18 p.left right keys.1) in
    rw (e1, e2, e3) refl

-- ---- which proofs have short paths

abbrev in_form : Field → Bool
in_form field = field.in_type && field.in_form

tail_form : (field : Field) (fields : List Field) → have_form (field ∷ fields) ≡ true → have_form fields ≡ true
tail_form field fields h = (and_parts (in_form field) (have_form fields) h).1

short_presence : (p : Presence) → have_form (presence_fields p) ≡ true → length p.operations ≤ 64
short_presence p h =
    let operations = flat_map operation_fields p.operations in
    let count = count_between 0 64 (length p.operations) in
    let leaf = tail_form (str_up_to 64 p.leaf_prefix) (count ∷ operations) (tail_form (str_up_to 512 p.value) (str_up_to 64 p.leaf_prefix ∷ count ∷ operations)
    (tail_form (str_up_to 256 p.key) (str_up_to 512 p.value ∷ str_up_to 64 p.leaf_prefix ∷ count ∷ operations) h)) in
    let counted = (and_parts (in_form count) (have_form operations) leaf).0 in
    leb-true (length p.operations) 64 (and_parts (nat_le 0 (length p.operations)) (nat_le (length p.operations) 64) counted).1

short_neighbour : (x : Option Presence) → have_form (neighbour_fields x) ≡ true → IsShort x
short_neighbour None h = tt
short_neighbour (Some p) h = short_presence p (tail_form (one_byte 1) (presence_fields p) h)

short_neighbours : (left right : Option Presence) → have_form (neighbour_fields left ++ neighbour_fields right) ≡ true → IsShort left × IsShort right
short_neighbours left right h =
    let both = and_parts (have_form (neighbour_fields left)) (have_form (neighbour_fields right)) (sym (list_all-append in_form (neighbour_fields left) (neighbour_fields right)) ∙ h) in
    (short_neighbour left both.0, short_neighbour right both.1)

-- ---- proofs

-- a whole text is one field
whole_read : (tag : ℕ) (content : Text) → length (delimited tag content) < 2 ^ 63 → (length content < 2 ^ 63) × (delimited_at_front tag (delimited tag content) ≡ Some (content, []))
whole_read tag content within =
    let whole = append-nil (delimited tag content) in
    let fits = (inside tag content [] (subst (λ (t : Text). length t < 2 ^ 63) (sym whole) within)).0 in
    (fits, ap (delimited_at_front tag) (sym whole) ∙ delimited_read tag content [] fits)

proof_read : (p : Proof) → IsTrue (have_form (proof_fields p)) → length (form_of p) < 2 ^ 63 → proof_in (form_of p) ≡ Some p
unfolding form_of proof_in
proof_read (Present p) has within =
    let e1 = whole_read 10 (existence p) within in
    let e2 = presence_read p (short_presence p (tail_form (one_byte 1) (presence_fields p) has)) e1.0 in
    rw (e1.1, e2) refl
proof_read (Absent p) has within =
    let sides = neighbour_fields p.left ++ neighbour_fields p.right in
    let short = short_neighbours p.left p.right (tail_form (str_up_to 256 p.key) sides (tail_form (one_byte 2) (str_up_to 256 p.key ∷ sides) has)) in
    let e1 = whole_read 18 (non_existence p) within in
    let e2 = absence_read p short.0 short.1 e1.0 in
    rw (e1.1, e2) refl

pub is_read : (text : Text) (p : Proof) → length text < 2 ^ 63 → IsTrue (have_form (proof_fields p)) → form_of p ≡ text → proof_in text ≡ Some p
is_read text p within has e =
    subst (λ (t : Text). proof_in t ≡ Some p) e (proof_read p has (subst (λ (t : Text). length t < 2 ^ 63) (sym e) within))

-- nothing is cut out
none_is_read : (text : Text) → length text < 2 ^ 63 → proof_in text ≡ None → IsFormOfNone text
none_is_read text within none p has e = none_some (sym none ∙ is_read text p within has e)

pub not_read : (text : Text) (why : Refusal) → length text < 2 ^ 63 → IsRefusal why (proof_in text ≡ None) → why ≡ BadMessage → IsFormOfNone text
not_read text why within gives is = none_is_read text within (subst (λ (e : Refusal). IsRefusal e (proof_in text ≡ None)) is gives)

-- what is cut out has another form
pub another_is_read : (text : Text) (other : Proof) → length text < 2 ^ 63 → proof_in text ≡ Some other → (form_of other ≡ text → ⊥) → IsFormOfNone text
another_is_read text other within found isnt p has e =
    isnt (ap form_of (some_same (sym found ∙ is_read text p within has e)) ∙ e)

-- the one proof of the form has no spelling
pub none_is_spelled : (text : Text) (proof : Proof) → IsProofOf text proof → (IsTrue (have_form (proof_fields proof)) → ⊥) → IsFormOfNone text
none_is_spelled text proof one hasnt other has e =
    hasnt (subst (λ (p : Proof). IsTrue (have_form (proof_fields p))) (one.alone other e) has)
