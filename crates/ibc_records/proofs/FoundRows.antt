-- What was found in the table says of a header what the definition says of the publications that were seen.
use Rattle.std.proofs.Common.{◌≡◌, ℕ, Bool, ◌<◌, ◌≤◌, ◌&&◌, true, false, [], ◌∷◌, eqb, leb, is_some, refl, sym, ap, ◌∙◌, Option, Some, None, Err, List, Ok, le-leb, eq-eqb, ne_eqb}
use Rattle.std.proofs.lemmas.Bool.{lt-leb, and_from, and_left, and_right}
use Rattle.std.specs.Str.{bytes_eq}
use Rattle.std.specs.Prelude.{⊤, IfSome}
use Rattle.std.specs.Option.{option_map_or}
use Rattle.ibc_ids.specs.Texts.{Text, same_text}
use Rattle.ibc_ids.specs.Publications.{row_at}
use Rattle.ibc_ids.specs.declared.publication.Publication.{Publication}
use Rattle.ibc_ids.specs.declared.refusal.Refusal.TheVariants.{NotPublished, WrongHeader}
use Rattle.ibc_wire.specs.declared.header.Header.{Header}
use Rattle.ibc_machine.specs.chain.Checks.{Checked, and_then}
use Rattle.ibc_machine.specs.ics24.Evidence.{require_row}
use Rattle.ibc_machine.specs.chain.Machine.{row_if}
use Rattle.ibc_machine.specs.ledger.Replay.{is_published_as}
use Rattle.ibc_root_table.specs.Publications.{publication}
use Rattle.ibc_records.specs.HeaderChecks.{require_published, row_found}

module _ (seen : List Publication) (header : Header) (published : ℕ) where
  pub unpublished : published < header.height → Err NotPublished ≡ require_published seen (record { published = published; row_was_there = None }) header
  unfolding and_then
  unpublished past = let e : leb header.height published ≡ leb 1 0 = lt-leb header.height published past in rw e

  found : (row : Option (Text × ℕ)) → header.height ≤ published → IfSome row (λ p. row_at seen header.chain header.height ≡ Some (publication header.chain p.0 p.1))
      → require_row (row_found row header) ≡ require_published seen (record { published = published; row_was_there = Some (is_some row) }) header
  unfolding and_then
  found None within stands = let e : leb header.height published ≡ leb 0 1 = le-leb header.height published within in rw e
  found (Some p) within stands =
      let e : leb header.height published ≡ leb 0 1 = le-leb header.height published within in
      rw e (ap (λ o. require_row (row_if (option_map_or (is_published_as header) o (leb 1 0)))) (sym stands))

-- a row that was checked is what the header is checked by
pub row_checked : {published : ℕ} {there : Bool} (seen : List Publication) (header : Header) (row : Option (Text × ℕ)) (checked : Checked ⊤)
    → checked ≡ require_row (row_found row header) → there ≡ is_some row
    → IfSome row (λ p. row_at seen header.chain header.height ≡ Some (publication header.chain p.0 p.1)) → header.height ≤ published
    → checked ≡ require_published seen (record { published = published; row_was_there = Some there }) header
row_checked {published} {there} seen header row checked is told stands within =
    is ∙ found seen header published row within stands ∙ ap (λ b. require_published seen (record { published = published; row_was_there = Some b }) header) (sym told)

-- texts that are compared byte by byte
pub bytes_eq-same : (x y : Text) → bytes_eq x y ≡ same_text x y
bytes_eq-same [] [] = refl
bytes_eq-same [] (y ∷ ys) = refl
bytes_eq-same (x ∷ xs) [] = refl
bytes_eq-same (x ∷ xs) (y ∷ ys) = ap (λ b. eqb x y && b) (bytes_eq-same xs ys)

module _ (row : Option (Text × ℕ)) (header : Header) (root : Text) (time : ℕ) (is : row ≡ Some (root, time)) where
  by_test : (b : Bool) → (eqb header.time time && same_text header.root root) ≡ b → require_row (row_if b) ≡ require_row (row_found row header)
  by_test b e = ap (λ b. require_row (row_if b)) (sym e) ∙ ap (λ o. require_row (row_found o header)) (sym is)

  pub the_same : header.time ≡ time → true ≡ bytes_eq header.root root → Ok tt ≡ require_row (row_found row header)
  the_same timely rooted = by_test true (and_from (eqb header.time time) (same_text header.root root) (eq-eqb header.time time timely) (sym (bytes_eq-same header.root root) ∙ sym rooted))

  pub other_time : (header.time ≡ time → ⊥) → Err WrongHeader ≡ require_row (row_found row header)
  other_time untimely = by_test false (and_left (eqb header.time time) (same_text header.root root) (ne_eqb header.time time untimely))

  pub other_root : false ≡ bytes_eq header.root root → Err WrongHeader ≡ require_row (row_found row header)
  other_root other = by_test false (and_right (eqb header.time time) (same_text header.root root) (sym (bytes_eq-same header.root root) ∙ sym other))
