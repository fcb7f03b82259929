-- What is read of a line.
use Rattle.std.specs.Prelude.{◌≡◌, ◌⊎◌, Err}
use Rattle.hex.specs.Hex.{decode_of}
use Rattle.hex.specs.declared.error.FromHexError.{FromHexError}
use Rattle.hex.specs.declared.error.FromHexError.TheVariants as hex
use Rattle.ibc_ids.specs.Texts.{Text}
use Rattle.ibc_node_lines.specs.declared.line_fault.LineFault.{LineFault}
use Rattle.ibc_node_lines.specs.declared.line_fault.LineFault.TheVariants as fault

-- the fault of a text that spells no bytes, or for which there is no memory
abbrev pub hex_fault_of : FromHexError → LineFault
hex_fault_of (hex.InvalidHexCharacter c index) = fault.NoHex
hex_fault_of hex.OddLength = fault.NoHex
hex_fault_of hex.InvalidStringLength = fault.NoHex
hex_fault_of hex.OutOfMemory = fault.NoMemory

-- memory ran out, or the text spells no bytes
abbrev pub IsHexFault : Text → LineFault → Type 0
IsHexFault text why = (why ≡ fault.NoMemory) ⊎ ((why ≡ fault.NoHex) × (error : FromHexError) × (decode_of text ≡ Err error))
