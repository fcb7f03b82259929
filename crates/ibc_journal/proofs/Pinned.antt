-- The last digest tells all entries.
use Rattle.std.proofs.Common.{◌≡◌, ◌≢◌, ◌⊎◌, inl, inr, ℕ, bytes_eq, List, [], ◌∷◌, ◌++◌, length, take, drop, true, false, refl, sym, ap, append_assoc, ◌∙◌, arith}
use Rattle.std.specs.Int.{w32, w64, to_be_bytes, from_be_bytes}
use Rattle.std.specs.List.{AllByRecursion}
use Rattle.std.proofs.lemmas.Bool.{cases_Bool, false≢true}
use Rattle.std.proofs.lemmas.List.{take_at, drop_at}
use Rattle.std.proofs.lemmas.Nat.{from_be_bytes-to_be_bytes_4, from_be_bytes-to_be_bytes_8}
use Rattle.std.proofs.lemmas.Slice.Eq.{bytes_eq-Decides}
use Rattle.sha2.specs.Sha256.{sha256}
use Rattle.sha2.proofs.Facts256.{length-sha256}
use Rattle.ibc_journal.specs.Tables.{JournalItem}
use Rattle.ibc_journal.specs.Digests.{first_digest, digested, AreChained, last_digest, HasClash, FitsItsRow, LastDigestTellsAll}

-- texts whose fronts are as long are taken apart in one way
split : (a b c d : List ℕ) → length a ≡ length c → a ++ b ≡ c ++ d → (a ≡ c) × (b ≡ d)
split a b c d long same = (
  sym (take_at a b (length a) refl) ∙ ap (take (length a)) same ∙ take_at c d (length a) (sym long),
  sym (drop_at a b (length a) refl) ∙ ap (drop (length a)) same ∙ drop_at c d (length a) (sym long),
)

abbrev nested : List ℕ → JournalItem → List ℕ
nested d it = d ++ (to_be_bytes w32 it.chain ++ (to_be_bytes w32 it.kind ++ (to_be_bytes w32 it.log_place ++ (to_be_bytes w64 (length it.event) ++ (it.event ++ it.answer)))))

nested_is : (d : List ℕ) (it : JournalItem) → digested d it ≡ nested d it
nested_is d it =
    let c = to_be_bytes w32 it.chain in
    let k = to_be_bytes w32 it.kind in
    let l = to_be_bytes w32 it.log_place in
    let n = to_be_bytes w64 (length it.event) in
    let rest = it.event ++ it.answer in
    append_assoc (d ++ c ++ k ++ l ++ n) it.event it.answer ∙ append_assoc (d ++ c ++ k ++ l) n rest ∙ append_assoc (d ++ c ++ k) l (n ++ rest) ∙ append_assoc (d ++ c) k (l ++ (n ++ rest)) ∙ append_assoc d c (k ++ (l ++ (n ++ rest)))

-- what is digested is the digest before and all of the entry but its own digest
parts : (d e : List ℕ) (x y : JournalItem) → length d ≡ length e → FitsItsRow x → FitsItsRow y → digested d x ≡ digested e y
    → (d ≡ e) × (x.chain ≡ y.chain) × (x.kind ≡ y.kind) × (x.log_place ≡ y.log_place) × (x.event ≡ y.event) × (x.answer ≡ y.answer)
parts d e x y long fx fy same =
    let one = split d _ e _ long (sym (nested_is d x) ∙ same ∙ nested_is e y) in
    let two = split (to_be_bytes w32 x.chain) _ (to_be_bytes w32 y.chain) _ refl one.1 in
    let three = split (to_be_bytes w32 x.kind) _ (to_be_bytes w32 y.kind) _ refl two.1 in
    let placed = split (to_be_bytes w32 x.log_place) _ (to_be_bytes w32 y.log_place) _ refl three.1 in
    let four = split (to_be_bytes w64 (length x.event)) _ (to_be_bytes w64 (length y.event)) _ refl placed.1 in
    let lengths : length x.event ≡ length y.event =
    sym (from_be_bytes-to_be_bytes_8 (length x.event) fx.event) ∙ ap (from_be_bytes w64) four.0 ∙ from_be_bytes-to_be_bytes_8 (length y.event) fy.event in
    let five = split x.event x.answer y.event y.answer lengths four.1 in (
      one.0,
      sym (from_be_bytes-to_be_bytes_4 x.chain fx.chain) ∙ ap (from_be_bytes w32) two.0 ∙ from_be_bytes-to_be_bytes_4 y.chain fy.chain,
      sym (from_be_bytes-to_be_bytes_4 x.kind fx.kind) ∙ ap (from_be_bytes w32) three.0 ∙ from_be_bytes-to_be_bytes_4 y.kind fy.kind,
      sym (from_be_bytes-to_be_bytes_4 x.log_place fx.log_place) ∙ ap (from_be_bytes w32) placed.0 ∙ from_be_bytes-to_be_bytes_4 y.log_place fy.log_place,
      five.0,
      five.1,
    )

same_or_clash : (x y : List ℕ) → sha256 x ≡ sha256 y → (x ≡ y) ⊎ HasClash
same_or_clash x y same = elim (cases_Bool (bytes_eq x y)) [
  | inl equal ↦ inl ((bytes_eq-Decides x y).0 equal)
  | inr other ↦ inr (x, y, (λ e. false≢true (sym other ∙ (bytes_eq-Decides x y).1 e)), same)
]

pinned : (d e : List ℕ) (a b : List JournalItem) → AllByRecursion FitsItsRow a → AllByRecursion FitsItsRow b → length d ≡ 32 → length e ≡ 32 → AreChained d a → AreChained e b → length a ≡ length b
    → last_digest d a ≡ last_digest e b → ((d ≡ e) × (a ≡ b)) ⊎ HasClash
pinned d e [] [] fa fb ld le ca cb long last = inl (last, refl)
pinned d e [] (y ∷ b) fa fb ld le ca cb long last = absurd (omega (arith, long))
pinned d e (x ∷ a) [] fa fb ld le ca cb long last = absurd (omega (arith, long))
pinned d e (x ∷ a) (y ∷ b) fa fb ld le ca cb long last =
    let lx : length x.digest ≡ 32 = ap length ca.0 ∙ length-sha256 (digested d x) in
    let ly : length y.digest ≡ 32 = ap length cb.0 ∙ length-sha256 (digested e y) in
    elim (pinned x.digest y.digest a b fa.1 fb.1 lx ly ca.1 cb.1 (omega (arith, long)) last) [
      | inr clash ↦ inr clash
      | inl both ↦ elim (same_or_clash (digested d x) (digested e y) (sym ca.0 ∙ both.0 ∙ cb.0)) [
        | inr clash ↦ inr clash
        | inl same ↦
            let p = parts d e x y (ld ∙ sym le) fa.0 fb.0 same in
            inl (p.0, λ i. record { chain = p.1 i; kind = p.2 i; log_place = p.3 i; event = p.4 i; answer = p.5 i; digest = both.0 i } ∷ both.1 i)
      ]
    ]

pub last_digest_tells_all : LastDigestTellsAll
last_digest_tells_all genesis a b fa fb ca cb long last =
    let d = first_digest genesis in
    elim (pinned d d a b fa fb (length-sha256 _) (length-sha256 _) ca cb long last) [
      | inl both ↦ inl both.1
      | inr clash ↦ inr clash
    ]
