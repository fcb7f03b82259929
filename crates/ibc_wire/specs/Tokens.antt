-- Lists of tokens in one message or packet (this project's profile of ICS 20).
use Rattle.std.specs.Prelude.{Bool, true, ◌&&◌, nat_le, List, [], ◌∷◌, length}
use Rattle.std.specs.Ordering.{is_lt}
use Rattle.ibc_ids.specs.Texts.{text_cmp}
use Rattle.ibc_wire.specs.declared.token.Token.{Token}

-- the denominations rise strictly in byte order
abbrev pub is_rising : List Token → Bool
is_rising [] = true
is_rising (token ∷ []) = true
is_rising (token ∷ next ∷ tokens) = is_lt (text_cmp token.denom next.denom) && is_rising (next ∷ tokens)

-- 1 to 8 tokens
abbrev pub is_short : List Token → Bool
is_short tokens = nat_le 1 (length tokens) && nat_le (length tokens) 8

-- a list that one message or packet may have
abbrev pub is_listed : List Token → Bool
is_listed tokens = is_short tokens && is_rising tokens
