-- The written proof, by the place of the key.
use Rattle.std.proofs.Common.{◌≡◌, ℕ, zero, suc, ◌<◌, ◌≤◌, true, [], ◌∷◌, length, get_or, take, drop, refl, sym, ap, ◌∙◌, arith, take-append-drop, Equal, Some, None}
use Rattle.std.specs.Prelude.{slice_get}
use Rattle.std.proofs.lemmas.List.{get_or_default}
use Rattle.std.proofs.lemmas.Option.{slice_get-get_or}
use Rattle.std.proofs.Math.Seq.{take-suc}
use Rattle.std.specs.List.{last_or}
use Rattle.std.specs.Option.{option_and_then}
use Rattle.std.specs.FinMap.{is_sorted}
use Rattle.ibc_ids.specs.Texts.{Text, text_cmp}
use Rattle.ibc_ids.specs.Maps.{at}
use Rattle.ibc_ids.proofs.Texts.{text_tied}
use Rattle.ibc_merkle.specs.Tree.{Pairs}
use Rattle.ibc_merkle.specs.Written.{presence_in, presence_of, written_proof, written_or_absent}
use Rattle.ibc_merkle.specs.PairPlaces.{pair_before}
use Rattle.ibc_merkle.specs.declared.proof.Presence.{Presence}
use Rattle.ibc_merkle.specs.declared.proof.Absence.{Absence}
use Rattle.ibc_merkle.specs.declared.proof.Proof.TheVariants.{Present, Absent}
use Rattle.ibc_merkle.proofs.Sorted.{IsCut, last_below_is, first_above_is, first_of_all, last-push}
use Rattle.ibc_merkle.proofs.SearchedPairs.{IsGap, found-at, gap-at, gap_is_below, gap_is_above}

pub pair_before_is : (pairs : Pairs) (index before : ℕ) → index ≡ suc before → pair_before pairs index ≡ slice_get pairs before
pair_before_is pairs index before e = ap (pair_before pairs) e

last_taken : (pairs : Pairs) (index : ℕ) → index ≤ length pairs → last_or None (take index pairs) ≡ pair_before pairs index
last_taken pairs zero l = refl
last_taken pairs (suc index) l =
    ap (last_or None) (take-suc pairs index ([], []) (omega arith))
    ∙ last-push None (take index pairs) (get_or pairs index ([], []))
    ∙ sym (slice_get-get_or pairs index ([], []) (omega arith))

first_dropped : (pairs : Pairs) (index : ℕ) → first_of_all (drop index pairs) ≡ slice_get pairs index
first_dropped [] zero = refl
first_dropped [] (suc index) = refl
first_dropped (pair ∷ pairs) zero = refl
first_dropped (pair ∷ pairs) (suc index) = first_dropped pairs index

-- ---- where the key is

pub written_present : (pairs : Pairs) (key : Text) (index : ℕ) (proof : Presence) → is_sorted text_cmp pairs ≡ true → index < length pairs
    → ((d : Text × Text) → text_cmp (get_or pairs index d).0 key ≡ Equal) → presence_of pairs (slice_get pairs index) ≡ Some proof → Present proof ≡ written_proof pairs key
unfolding written_proof
written_present pairs key index proof sorted there here is =
    let pair = get_or pairs index ([], []) in
    let same : pair.0 ≡ key = text_tied pair.0 key (here ([], [])) in
    let value : at text_cmp key pairs ≡ Some pair.1 = sym (found-at pairs key index pair sorted there (get_or_default pairs index ([], []) pair there) (here pair)) in
    let its : presence_in pairs key pair.1 ≡ Some proof = ap (λ key. presence_in pairs key pair.1) (sym same) ∙ ap (presence_of pairs) (sym (slice_get-get_or pairs index ([], []) there)) ∙ is in
    sym (ap (written_or_absent pairs key) (ap (option_and_then (λ value. presence_in pairs key value)) value ∙ its))

-- ---- where the key isn't

pub written_absent : (pairs : Pairs) (key : Text) (index : ℕ) (proof : Absence) → index ≤ length pairs → IsGap pairs key index
    → proof.key ≡ key → proof.left ≡ presence_of pairs (pair_before pairs index) → proof.right ≡ presence_of pairs (slice_get pairs index) → Absent proof ≡ written_proof pairs key
unfolding written_proof
written_absent pairs key index proof within gap key_is left_is right_is =
    let cut : IsCut pairs key (take index pairs) (drop index pairs) = record {
      parts = sym (take-append-drop index pairs);
      below = gap_is_below pairs key index within gap;
      above = gap_is_above pairs key index gap;
    } in
    let left = left_is ∙ ap (presence_of pairs) (sym (last_taken pairs index within) ∙ sym (last_below_is pairs (take index pairs) (drop index pairs) key cut)) in
    let right = right_is ∙ ap (presence_of pairs) (sym (first_dropped pairs index) ∙ sym (first_above_is pairs (take index pairs) (drop index pairs) key cut)) in
    let none : at text_cmp key pairs ≡ None = sym (gap-at pairs key index within gap) in
    (λ i. Absent (record { key = key_is i; left = left i; right = right i }))
    ∙ sym (ap (written_or_absent pairs key) (ap (option_and_then (λ value. presence_in pairs key value)) none))
