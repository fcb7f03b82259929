-- The names of chains in a script.
use Rattle.std.specs.Prelude.{ℕ, Bool, ◌&&◌, ◌||◌, nat_le}
use Rattle.ibc_ids.specs.Texts.{Text}
use Rattle.ibc_ids.specs.Names.{is_made_of}

-- a lower-case letter or a digit
abbrev pub is_chain_name_byte : ℕ → Bool
is_chain_name_byte c = (nat_le 97 c && nat_le c 122) || (nat_le 48 c && nat_le c 57)

abbrev pub is_chain_name : Text → Bool
is_chain_name = is_made_of is_chain_name_byte 1 16
