-- At a height whose root is that of the core, a proof shows a claim just where the core have what is
-- claimed and the proof is the written one.
use Rattle.std.proofs.Common.{◌≡◌, ℕ, Bool, true, false, ◌&&◌, [], ◌++◌, refl, sym, ap, ◌∙◌, subst, Option, Some, None, option_map}
use Rattle.std.specs.Option.{option_map_or}
use Rattle.std.proofs.lemmas.Bool.{and_parts, and_from, false≢true}
use Rattle.ibc_ids.specs.Texts.{Text, same_text, text_cmp}
use Rattle.ibc_ids.specs.Maps.{at}
use Rattle.ibc_ids.specs.Paths.{path}
use Rattle.ibc_ids.proofs.Texts.{text_same, same_text_from}
use Rattle.ibc_merkle.specs.Tree.{tree}
use Rattle.ibc_merkle.proofs.Clashes.{written_is_accepted, accepted_is_written}
use Rattle.ibc_wire.proofs.ProofReaders.{reads_what_is_spelled}
use Rattle.ibc_merkle.specs.Proofs.{accepts}
use Rattle.ibc_merkle.specs.Written.{written_proof}
use Rattle.ibc_merkle.specs.Clashes.{NoClash, tree_texts, proof_texts}
use Rattle.ibc_merkle.specs.declared.proof.Proof.{Proof}
use Rattle.ibc_wire.specs.Fields.{have_form}
use Rattle.ibc_wire.specs.Spelling.{proof_fields, proof_bytes}
use Rattle.ibc_wire.specs.Reading.{proof_of}
use Rattle.ibc_refinement.proofs.ShortTexts.{each_byte}
use Rattle.ibc_refinement.proofs.ShortTexts.{AreBytes}
use Rattle.ibc_machine.specs.chain.Records.{Core}
use Rattle.ibc_machine.specs.ics24.Values.{Value, Claim, value_at, value_bytes, same_value}
use Rattle.ibc_machine.specs.ics24.Image.{image, core_root}
use Rattle.ibc_machine.specs.chain.Machine.{true_marks, is_shown_in}
use Rattle.ibc_machine.specs.ledger.Replay.{is_shown}
use Rattle.ibc_machine.specs.chain.Records.{Block}
use Rattle.ibc_machine.specs.ics23.HashedTexts.{delivered_proof_texts}
use Rattle.ibc_machine.proofs.Images.{TellsKey, image_at, image_sorted}
use Rattle.ibc_refinement.proofs.SameValues.{value_same, value_itself}

pub same_answers : (a b : Bool) → (a ≡ true → b ≡ true) → (b ≡ true → a ≡ true) → a ≡ b
same_answers true b f g = sym (f refl)
same_answers false true f g = g refl
same_answers false false f g = refl

-- what the lemma asks of core, a claim and the bytes of a proof
pub record AreClear (core : Core) (claim : Claim) (bytes : Text) : Type 0 where
  pub tells : TellsKey core claim.key
  pub clear : NoClash (tree_texts (tree (image core)) ++ delivered_proof_texts bytes)
  pub one_value : (v w : Value) → value_at core claim.key ≡ Some v → claim.value ≡ Some w → value_bytes v ≡ value_bytes w → v ≡ w
  pub bytes_given : AreBytes bytes
  pub spelled_written : have_form (proof_fields (written_proof (image core) (path claim.key))) ≡ true

values_same : (o : Option Value) (p : Option Value) → ((v w : Value) → o ≡ Some v → p ≡ Some w → value_bytes v ≡ value_bytes w → v ≡ w) → option_map value_bytes p ≡ option_map value_bytes o → o ≡ p
values_same None None one e = refl
values_same None (Some w) one e = absurd (cc)
values_same (Some v) None one e = absurd (cc)
values_same (Some v) (Some w) one e = let same : value_bytes v ≡ value_bytes w = cc in ap Some (one v w refl refl same)

module _ (core : Core) (claim : Claim) (bytes : Text) (given : AreClear core claim bytes) where
  abbrev is_taken : Option Proof → Bool
  is_taken o = option_map_or (λ p. accepts p (core_root core) (path claim.key) (option_map value_bytes claim.value)) o false

  abbrev is_looked : Bool
  is_looked = same_value (value_at core claim.key) claim.value && same_text bytes (proof_bytes (written_proof (image core) (path claim.key)))

  has_image : at text_cmp (path claim.key) (image core) ≡ option_map value_bytes (value_at core claim.key)
  has_image = image_at core claim.key given.tells

  taken_is_looked : (o : Option Proof) → proof_of bytes ≡ o → is_taken o ≡ true → is_looked ≡ true
  taken_is_looked None is taken = absurd (false≢true taken)
  taken_is_looked (Some p) is taken =
      let list : tree_texts (tree (image core)) ++ delivered_proof_texts bytes ≡ tree_texts (tree (image core)) ++ proof_texts p =
      ap (λ (o : Option Proof). tree_texts (tree (image core)) ++ option_map_or proof_texts o []) is
      in
      let both = accepted_is_written (image core) p (path claim.key) (option_map value_bytes claim.value) (image_sorted core) (subst NoClash list given.clear) taken in
      let value = values_same (value_at core claim.key) claim.value given.one_value (both.0 ∙ has_image) in
      let spelling = ((reads_what_is_spelled p bytes (each_byte bytes given.bytes_given)).0 is).1 ∙ ap proof_bytes both.1 in
      and_from (same_value (value_at core claim.key) claim.value) (same_text bytes (proof_bytes (written_proof (image core) (path claim.key))))
      (ap (λ v. same_value v claim.value) value ∙ value_itself claim.value) (same_text_from bytes _ spelling)

  looked_is_taken : is_looked ≡ true → is_taken (proof_of bytes) ≡ true
  looked_is_taken looked =
      let parts = and_parts (same_value (value_at core claim.key) claim.value) (same_text bytes (proof_bytes (written_proof (image core) (path claim.key)))) looked in
      let value = value_same (value_at core claim.key) claim.value parts.0 in
      let w = written_proof (image core) (path claim.key) in
      let read = (reads_what_is_spelled w bytes (each_byte bytes given.bytes_given)).1 (given.spelled_written, text_same bytes (proof_bytes w) parts.1) in
      let accepted = written_is_accepted (image core) (path claim.key) (image_sorted core) in
      ap is_taken read ∙ ap (accepts w (core_root core) (path claim.key)) (sym (has_image ∙ ap (option_map value_bytes) value)) ∙ accepted

  pub shown_same : (block : Block) → block.records.core ≡ core → (time : ℕ)
      → is_shown claim bytes (record { root = core_root core; time = time }) ≡ is_shown_in true_marks claim bytes block
  shown_same block is time =
      same_answers (is_taken (proof_of bytes)) is_looked (taken_is_looked (proof_of bytes) refl) looked_is_taken
      ∙ ap (λ (c : Core). same_value (value_at c claim.key) claim.value && same_text bytes (proof_bytes (written_proof (image c) (path claim.key)))) (sym is)
