-- The readers of proofs.
use Rattle.std.proofs.Common.{◌≡◌, ℕ, zero, suc, true, false, nat_le, List, [], ◌∷◌, length, Option, Some, None, refl, sym, ap, ◌∙◌, subst, arith, append-nil, le-leb}
use Rattle.std.specs.List.{flat_map}
use Rattle.std.proofs.lemmas.Bool.{and_parts, and_from}
use Rattle.ibc_ids.specs.Texts.{Text}
use Rattle.ibc_wire.specs.Fields.{Field, count_between}
use Rattle.ibc_wire.specs.Spelling.{operation_fields, presence_fields, neighbour_fields, proof_fields}
use Rattle.ibc_wire.specs.Reading.{◌>>=◌, Front, byte_at_front, str_at_front, operation_at_front, operations_at_front, presence_at_front, neighbour_at_front, neighbour_behind, proof_behind, proof_if_whole, proof_of, ReadsWhatIsSpelled}
use Rattle.ibc_wire.specs.Fronts.{many_at_front, value_if_whole}
use Rattle.ibc_wire.specs.RecordFronts.{absence_fields, absence_at_front, proof_of_kind, proof_at_front}
use Rattle.ibc_wire.specs.Lawful.{AreBytes, Begins, IsReader}
use Rattle.ibc_merkle.specs.declared.proof.Operation.{Operation}
use Rattle.ibc_merkle.specs.declared.proof.Presence.{Presence}
use Rattle.ibc_merkle.specs.declared.proof.Absence.{Absence}
use Rattle.ibc_merkle.specs.declared.proof.Proof.{Proof}
use Rattle.ibc_merkle.specs.declared.proof.Proof.TheVariants.{Present, Absent}
use Rattle.ibc_wire.proofs.Fronts.{bind_some, some_same, none_some, if_some, begins_both, begins_split, bytes_behind, bytes_parts, bytes_from, byte_read, u8_read, u8_front, count_read, count_front}
use Rattle.ibc_wire.proofs.FieldReaders.{first, under, like, done, reader_of, tagged_read, tagged_front}
use Rattle.ibc_wire.proofs.Readers.{str_reader}
use Rattle.ibc_wire.proofs.TokenReaders.{many_read, many_front}
use Rattle.ibc_wire.proofs.Whole.{is_spelled, is_read}

pub operation_reader : IsReader operation_fields operation_at_front
operation_reader =
    reader_of (
    first _ (λ o. o.prefix) (str_reader 64 (omega arith)) λ prefix.
    first _ (λ o. o.suffix) (str_reader 64 (omega arith)) λ suffix.
    done _ ((tt, refl), refl) (λ o p. λ i. record { prefix = p.0.1 i; suffix = p.1 i })
    )

bind_same : {A B : Type 0} (o : Option A) (f g : A → Option B) → ((x : A) → f x ≡ g x) → (o >>= f) ≡ (o >>= g)
bind_same None f g same = refl
bind_same (Some x) f g same = same x

bind_assoc : {A B C : Type 0} (o : Option A) (f : A → Option B) (g : B → Option C) → ((o >>= f) >>= g) ≡ (o >>= λ x. f x >>= g)
bind_assoc None f g = refl
bind_assoc (Some x) f g = refl

pub operations_are_many : (n : ℕ) (text : Text) → operations_at_front n text ≡ many_at_front operation_at_front n text
operations_are_many zero text = refl
operations_are_many (suc n) text =
    bind_same (operation_at_front text) _ _ (λ head. ap (λ o. o >>= λ (others : List Operation × Text). Some (head.0 ∷ others.0, others.1)) (operations_are_many n head.1))

-- operations behind their number
abbrev counted_fields : List Operation → List Field
counted_fields operations = count_between 0 64 (length operations) ∷ flat_map operation_fields operations

abbrev few_at_front : ℕ × Text → Front (List Operation)
few_at_front count = elim (nat_le count.0 64) as (λ _. Front (List Operation)) [ true ↦ operations_at_front count.0 count.1 | false ↦ None ]

counted_reader : IsReader counted_fields (λ text. byte_at_front text >>= few_at_front)
counted_reader = record {
  spelled = λ text operations rest bytes e.
      let count = bind_some (byte_at_front text) _ e in
      let n = count.0.0 in
      let behind = count.0.1 in
      let short = if_some (nat_le n 64) (operations_at_front n behind) count.2 in
      let c = count_read 0 64 n text behind (and_from (nat_le 0 n) (nat_le n 64) (le-leb 0 n (omega arith)) short.0) (byte_read text n behind count.1) in
      let all = many_read operation_reader n behind operations rest (bytes_behind (count_between 0 64 n ∷ []) text behind bytes c) (sym (operations_are_many n behind) ∙ short.1) in
      let counted : Begins (count_between 0 64 (length operations) ∷ []) text behind = subst (λ m. Begins (count_between 0 64 m ∷ []) text behind) (sym all.0) c in
      begins_both (count_between 0 64 (length operations) ∷ []) (flat_map operation_fields operations) text behind rest counted all.1;
  read = λ operations text rest h.
      let a = begins_split (count_between 0 64 (length operations) ∷ []) (flat_map operation_fields operations) text rest h in
      let number = count_front 0 64 (length operations) text a.0 a.1 in
      let short = (and_parts (nat_le 0 (length operations)) (nat_le (length operations) 64) number.0).1 in
      ap (λ o. o >>= few_at_front) number.1
      ∙ ap (λ b. elim b as (λ _. Front (List Operation)) [ true ↦ operations_at_front (length operations) a.0 | false ↦ None ]) short
      ∙ operations_are_many (length operations) a.0 ∙ many_front operation_reader operations a.0 rest a.2;
}

abbrev made_of : Text → Text → Text → List Operation × Text → Front Presence
made_of key value leaf_prefix operations = Some (record { key = key; value = value; leaf_prefix = leaf_prefix; operations = operations.0 }, operations.1)

pub presence_reader : IsReader presence_fields presence_at_front
presence_reader =
    reader_of (
    first _ (λ p. p.key) (str_reader 256 (omega arith)) λ key.
    first _ (λ p. p.value) (str_reader 512 (omega arith)) λ value.
    first _ (λ p. p.leaf_prefix) (str_reader 64 (omega arith)) λ leaf_prefix.
    like (λ text. sym (bind_assoc (byte_at_front text) few_at_front (made_of key value leaf_prefix)))
    (under (λ p known. append-nil (counted_fields p.operations))
    (first _ (λ p. p.operations) counted_reader λ operations.
    done _ ((((tt, refl), refl), refl), refl) (λ m p. λ i. record { key = p.0.0.0.1 i; value = p.0.0.1 i; leaf_prefix = p.0.1 i; operations = p.1 i })))
    )

-- ---- neighbours

neighbour_spelled : (flag : ℕ) (text behind : Text) (p : Option Presence) (rest : Text) → AreBytes behind → text ≡ flag ∷ behind → neighbour_behind flag behind ≡ Some (p, rest) → Begins (neighbour_fields p) text rest
neighbour_spelled zero text behind p rest bytes is e =
    subst (λ (w : Option Presence × Text). Begins (neighbour_fields w.0) text w.1) (some_same e) (u8_read 0 text behind refl is)
neighbour_spelled (suc zero) text behind p rest bytes is e = tagged_read presence_reader 1 refl Some neighbour_fields (λ q. refl) text behind p rest bytes is e
neighbour_spelled (suc (suc n)) text behind p rest bytes is e = none_some e

neighbour_read : (p : Option Presence) (text rest : Text) → Begins (neighbour_fields p) text rest → neighbour_at_front text ≡ Some (p, rest)
neighbour_read None text rest h = ap (λ x. x >>= λ (flag : ℕ × Text). neighbour_behind flag.0 flag.1) (u8_front 0 text rest h)
neighbour_read (Some p) text rest h =
    let w = tagged_front presence_reader 1 Some p text rest h in
    ap (λ x. x >>= λ (flag : ℕ × Text). neighbour_behind flag.0 flag.1) w.1 ∙ w.2

pub neighbour_reader : IsReader neighbour_fields neighbour_at_front
neighbour_reader = record {
  spelled = λ text p rest bytes e.
      let flag = bind_some (byte_at_front text) _ e in
      let is = byte_read text flag.0.0 flag.0.1 flag.1 in
      neighbour_spelled flag.0.0 text flag.0.1 p rest (bytes_parts (flag.0.0 ∷ []) flag.0.1 (subst AreBytes is bytes)).1 is flag.2;
  read = λ p text rest h. neighbour_read p text rest h;
}

pub absence_reader : IsReader absence_fields absence_at_front
unfolding absence_at_front
absence_reader =
    reader_of (
    first _ (λ a. a.key) (str_reader 256 (omega arith)) λ key.
    first _ (λ a. a.left) neighbour_reader λ left.
    under (λ a known. append-nil (neighbour_fields a.right))
    (first _ (λ a. a.right) neighbour_reader λ right.
    done _ (((tt, refl), refl), refl) (λ m p. λ i. record { key = p.0.0.1 i; left = p.0.1 i; right = p.1 i }))
    )

-- ---- proofs

proof_spelled : (tag : ℕ) (text behind : Text) (p : Proof) (rest : Text) → AreBytes behind → text ≡ tag ∷ behind → proof_of_kind tag behind ≡ Some (p, rest) → Begins (proof_fields p) text rest
proof_spelled zero text behind p rest bytes is e = none_some e
proof_spelled (suc zero) text behind p rest bytes is e = tagged_read presence_reader 1 refl Present proof_fields (λ q. refl) text behind p rest bytes is e
proof_spelled (suc (suc zero)) text behind p rest bytes is e = tagged_read absence_reader 2 refl Absent proof_fields (λ q. refl) text behind p rest bytes is e
proof_spelled (suc (suc (suc n))) text behind p rest bytes is e = none_some e

proof_read : (p : Proof) (text rest : Text) → Begins (proof_fields p) text rest → proof_at_front text ≡ Some (p, rest)
unfolding proof_at_front
proof_read (Present q) text rest h =
    let w = tagged_front presence_reader 1 Present q text rest h in
    ap (λ x. x >>= λ (tag : ℕ × Text). proof_of_kind tag.0 tag.1) w.1 ∙ w.2
proof_read (Absent q) text rest h =
    let w = tagged_front absence_reader 2 Absent q text rest h in
    ap (λ x. x >>= λ (tag : ℕ × Text). proof_of_kind tag.0 tag.1) w.1 ∙ w.2

pub proof_reader : IsReader proof_fields proof_at_front
unfolding proof_at_front
proof_reader = record {
  spelled = λ text p rest bytes e.
      let tag = bind_some (byte_at_front text) _ e in
      let is = byte_read text tag.0.0 tag.0.1 tag.1 in
      proof_spelled tag.0.0 text tag.0.1 p rest (bytes_parts (tag.0.0 ∷ []) tag.0.1 (subst AreBytes is bytes)).1 is tag.2;
  read = λ p text rest h. proof_read p text rest h;
}

-- ---- a proof is what its bytes spell

kinds_same : (tag : ℕ) (text : Text) → proof_behind tag text ≡ proof_of_kind tag text
unfolding absence_at_front
kinds_same zero text = refl
kinds_same (suc zero) text = refl
kinds_same (suc (suc zero)) text =
    let to : Absence × Text → Front Proof = λ found. Some (Absent found.0, found.1) in
    let last : Text → Option Presence → Option Presence × Text → Front Absence = λ key left right. Some (record { key = key; left = left; right = right.0 }, right.1) in
    let middle : Text → Option Presence × Text → Front Absence = λ key left. neighbour_at_front left.1 >>= last key left.0 in
    let outer : Text × Text → Front Absence = λ key. neighbour_at_front key.1 >>= middle key.0 in
    sym (
    bind_assoc (str_at_front 256 text) outer to
    ∙ bind_same (str_at_front 256 text) _ _ (λ key. bind_assoc (neighbour_at_front key.1) (middle key.0) to
    ∙ bind_same (neighbour_at_front key.1) _ _ (λ left. bind_assoc (neighbour_at_front left.1) (last key.0 left.0) to))
    )
kinds_same (suc (suc (suc n))) text = refl

only_whole : (read : Front Proof) → (read >>= proof_if_whole) ≡ value_if_whole read
only_whole None = refl
only_whole (Some (p, [])) = refl
only_whole (Some (p, b ∷ rest)) = refl

proof_of_is : (text : Text) → proof_of text ≡ value_if_whole (proof_at_front text)
unfolding proof_of proof_at_front
proof_of_is text =
    bind_same (byte_at_front text) _ _ (λ tag. ap (λ o. o >>= proof_if_whole) (kinds_same tag.0 tag.1))
    ∙ sym (bind_assoc (byte_at_front text) (λ tag. proof_of_kind tag.0 tag.1) proof_if_whole)
    ∙ only_whole (byte_at_front text >>= λ tag. proof_of_kind tag.0 tag.1)

pub reads_what_is_spelled : ReadsWhatIsSpelled
reads_what_is_spelled p text bytes = (
  λ e. is_spelled proof_reader text p (bytes_from text bytes) (sym (proof_of_is text) ∙ e),
  λ h. proof_of_is text ∙ is_read proof_reader text p h,
)
