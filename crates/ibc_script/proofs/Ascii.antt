-- Names of chains are short texts of ASCII bytes.
use Rattle.std.proofs.Common.{◌≡◌, ℕ, ◌<◌, ◌≤◌, true, ◌&&◌, nat_le, [], ◌∷◌, length, arith, leb-true}
use Rattle.std.specs.List.{list_all}
use Rattle.std.specs.Str.{IsAscii}
use Rattle.std.proofs.lemmas.Bool.{and_parts}
use Rattle.std.proofs.lemmas.Bool.Decides.{nat_tests}
use Rattle.std.proofs.lemmas.Str.Ascii.{IsAscii-nil, IsAscii-cons}
use Rattle.ibc_ids.specs.Texts.{Text}
use Rattle.ibc_script.specs.ChainNames.{is_chain_name_byte, is_chain_name}

small_byte : (c : ℕ) → is_chain_name_byte c ≡ true → c < 128
small_byte c h = grind (arith, nat_tests)

all_ascii : (text : Text) → list_all is_chain_name_byte text ≡ true → IsAscii text
all_ascii [] h = IsAscii-nil
all_ascii (x ∷ xs) h =
    let parts = and_parts (is_chain_name_byte x) (list_all is_chain_name_byte xs) h in
    IsAscii-cons x xs (small_byte x parts.0) (all_ascii xs parts.1)

pub chain_names : (text : Text) → is_chain_name text ≡ true → IsAscii text × (length text ≤ 256)
chain_names text h =
    let parts = and_parts (nat_le 1 (length text) && nat_le (length text) 16) (list_all is_chain_name_byte text) h in
    let most = leb-true (length text) 16 (and_parts (nat_le 1 (length text)) (nat_le (length text) 16) parts.0).1 in
    (all_ascii text parts.1, omega arith)
