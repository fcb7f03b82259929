-- The text spells the bytes, or none.
use Rattle.std.proofs.Common.{◌≡◌, ◌⊎◌, ◌∙◌, List, ℕ, Ok, Err, inl, inr, ap, subst}
use Rattle.hex.specs.Hex.{decode_of}
use Rattle.hex.specs.declared.error.FromHexError.{FromHexError}
use Rattle.hex.specs.declared.error.FromHexError.TheVariants as hex
use Rattle.ibc_ids.specs.Texts.{Text}
use Rattle.ibc_node_lines.specs.declared.line_fault.LineFault.{LineFault}
use Rattle.ibc_node_lines.specs.Requests.{hex_fault_of, IsHexFault}
use Rattle.ibc_node_lines.proofs.request.bytes_of.Goals as goal

hex_refused : (text : Text) (error : FromHexError) (why : LineFault) → why ≡ hex_fault_of error → (error ≡ hex.OutOfMemory) ⊎ (decode_of text ≡ Err error) → IsHexFault text why
hex_refused text error why is (inl memory) = inl (is ∙ ap hex_fault_of memory)
hex_refused text (hex.InvalidHexCharacter c index) why is (inr refused) = inr (is, hex.InvalidHexCharacter c index, refused)
hex_refused text hex.OddLength why is (inr refused) = inr (is, hex.OddLength, refused)
hex_refused text hex.InvalidStringLength why is (inr refused) = inr (is, hex.InvalidStringLength, refused)
hex_refused text hex.OutOfMemory why is (inr refused) = inl is

pub returns-in-Ok-clause-ok : goal.returns-in-Ok-clause-ok
returns-in-Ok-clause-ok c = subst (λ (text : List ℕ). decode_of text ≡ Ok c.in-Ok.bytes.items) c.as_bytes.ensures.value c.in-Ok.ensures.ok

pub returns-in-Err-clause-err : goal.returns-in-Err-clause-err
returns-in-Err-clause-err c =
    let error = c.in-Err.error in
    hex_refused c.args.text.now error c.hex_fault.result c.hex_fault.ensures
    (subst (λ (text : List ℕ). (error ≡ hex.OutOfMemory) ⊎ (decode_of text ≡ Err error)) c.as_bytes.ensures.value c.in-Err.ensures.err)
