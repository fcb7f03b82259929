-- The one spelling of data as it is written, piece by piece.
use Rattle.std.specs.Prelude.{◌≡◌, Bool, codes, List, [], ◌∷◌, ◌++◌, map, string_bytes, String, if◌then◌else◌}
use Rattle.std.specs.List.{join_with_byte}
use Rattle.std.specs.declared.alloc.Global.{Global}
use Rattle.ibc_ids.specs.Texts.{Text}
use Rattle.ibc_wire.specs.declared.token.Token.{Token}
use Rattle.ibc_machine.specs.ics20.TokenData.{Data, member, object, token_members}

-- a memo and the comma behind it, where there is one
abbrev pub memo_front : Text → Text
memo_front [] = []
memo_front (c ∷ cs) = member (codes "memo") (c ∷ cs) ++ codes ","

abbrev pub parties_text : Data → Text
parties_text d =
    memo_front d.memo ++ (member (codes "receiver") d.receiver ++ 44 ∷ member (codes "sender") d.sender)

abbrev pub token_text : Token → Text
token_text token = join_with_byte 44 (token_members token)

-- the first token and the comma behind it, where there is one
abbrev pub first_front : List Token → Text
first_front [] = []
first_front (token ∷ tokens) = token_text token ++ codes ","

abbrev pub objects_text : List Token → Text
objects_text tokens = join_with_byte 44 (map (λ token. object (token_members token)) tokens)

-- tokens as objects, each with a comma before it
abbrev pub behind_text : List Token → Text
behind_text [] = []
behind_text (token ∷ tokens) = 44 ∷ (object (token_members token) ++ behind_text tokens)

-- all members, with a list of tokens or with those of the first one
abbrev pub members_text : Bool → Data → Text
members_text several d =
    if several then parties_text d ++ codes ",\"tokens\":[" ++ objects_text d.tokens ++ codes "]"
    else first_front d.tokens ++ parties_text d

-- the text goes on with a piece
abbrev pub AddsText : Text → String Global → String Global → Type 0
AddsText piece before after = string_bytes after ≡ string_bytes before ++ piece
