-- The text that is written has the tokens and the parties one behind another.
use Rattle.std.proofs.Common.{◌≡◌, true, false, List, [], ◌∷◌, ◌++◌, codes, decimal, refl, ap, ◌∙◌, append_assoc}
use Rattle.ibc_ids.specs.Texts.{Text}
use Rattle.ibc_wire.specs.declared.token.Token.{Token}
use Rattle.ibc_machine.specs.ics20.TokenData.{Data, member, object, token_members}
use Rattle.ibc_token_data.specs.Spelling.{memo_front, parties_text, token_text, first_front, objects_text, members_text}
use Rattle.ibc_token_data.proofs.TokenTexts.{token_front, list_text}
use Rattle.ibc_token_data.proofs.PartyTexts.{memo_text, parties_front}

token_then : (t : Token) (rest : Text) → 123 ∷ (token_text t ++ rest) ≡ token_front t.amount t.denom rest
token_then t rest =
    let name : Text = member (codes "denom") t.denom in
    ap (λ x. 123 ∷ x)
    (append_assoc (member (codes "amount") (decimal t.amount)) (44 ∷ name) rest
    ∙ ap (λ x. codes "\"amount\":\"" ++ x) (append_assoc (decimal t.amount) (34 ∷ []) (44 ∷ (name ++ rest)))
    ∙ ap (λ x. codes "\"amount\":\"" ++ (decimal t.amount ++ 34 ∷ (codes ",\"denom\":\"" ++ x))) (append_assoc t.denom (34 ∷ []) rest))

object_then : (t : Token) (rest : Text) → object (token_members t) ++ rest ≡ token_front t.amount t.denom (125 ∷ rest)
object_then t rest = append_assoc (codes "{" ++ token_text t) (codes "}") rest ∙ token_then t (125 ∷ rest)

objects_then : (t : Token) (us : List Token) → objects_text (t ∷ us) ++ codes "]}" ≡ list_text t us
unfolding list_text
objects_then t [] = object_then t (codes "]}")
objects_then t (u ∷ us) =
    append_assoc (object (token_members t)) (44 ∷ objects_text (u ∷ us)) (codes "]}")
    ∙ object_then t (44 ∷ (objects_text (u ∷ us) ++ codes "]}"))
    ∙ ap (λ x. token_front t.amount t.denom (codes "}," ++ x)) (objects_then u us)

memo_then : (memo rest : Text) → memo_front memo ++ rest ≡ memo_text memo rest
unfolding memo_text
memo_then [] rest = refl
memo_then (c ∷ cs) rest =
    append_assoc (member (codes "memo") (c ∷ cs)) (codes ",") rest
    ∙ ap (λ x. codes "\"memo\":\"" ++ x) (append_assoc (c ∷ cs) (34 ∷ []) (44 ∷ rest))

parties_then : (d : Data) (rest : Text) → parties_text d ++ rest ≡ parties_front d.memo d.receiver d.sender rest
parties_then d rest =
    let second : Text = member (codes "sender") d.sender in
    append_assoc (memo_front d.memo) (member (codes "receiver") d.receiver ++ 44 ∷ second) rest
    ∙ ap (λ x. memo_front d.memo ++ x)
    (append_assoc (member (codes "receiver") d.receiver) (44 ∷ second) rest
    ∙ ap (λ x. codes "\"receiver\":\"" ++ x) (append_assoc d.receiver (34 ∷ []) (44 ∷ (second ++ rest)))
    ∙ ap (λ x. codes "\"receiver\":\"" ++ (d.receiver ++ 34 ∷ (codes ",\"sender\":\"" ++ x))) (append_assoc d.sender (34 ∷ []) rest))
    ∙ memo_then d.memo (codes "\"receiver\":\"" ++ (d.receiver ++ 34 ∷ (codes ",\"sender\":\"" ++ (d.sender ++ 34 ∷ rest))))

-- data of one token
unfoldable pub one_text : Token → Data → Text
one_text t d = token_front t.amount t.denom (codes "," ++ parties_front d.memo d.receiver d.sender (codes "}"))

pub one_then : (t : Token) (us : List Token) (d : Data) → d.tokens ≡ t ∷ us → codes "{" ++ members_text false d ++ codes "}" ≡ one_text t d
unfolding one_text
one_then t us d is =
    ap (λ ts. codes "{" ++ (first_front ts ++ parties_text d) ++ codes "}") is
    ∙ ap (λ x. 123 ∷ x)
    (append_assoc (token_text t ++ codes ",") (parties_text d) (codes "}") ∙ append_assoc (token_text t) (codes ",") (parties_text d ++ codes "}"))
    ∙ token_then t (44 ∷ (parties_text d ++ codes "}"))
    ∙ ap (λ x. token_front t.amount t.denom (codes "," ++ x)) (parties_then d (codes "}"))

-- data of several
unfoldable pub several_text : Token → List Token → Data → Text
several_text t us d = codes "{" ++ parties_front d.memo d.receiver d.sender (codes ",\"tokens\":[" ++ list_text t us)

pub several_then : (t : Token) (us : List Token) (d : Data) → d.tokens ≡ t ∷ us → codes "{" ++ members_text true d ++ codes "}" ≡ several_text t us d
unfolding several_text
several_then t us d is =
    let list : Text = objects_text d.tokens in
    let list_opens : Text = codes ",\"tokens\":[" in
    ap (λ x. 123 ∷ x)
    (append_assoc (parties_text d ++ list_opens ++ list) (codes "]") (codes "}")
    ∙ append_assoc (parties_text d ++ list_opens) list (codes "]}")
    ∙ append_assoc (parties_text d) list_opens (list ++ codes "]}")
    ∙ parties_then d (list_opens ++ (list ++ codes "]}")))
    ∙ ap (λ x. codes "{" ++ parties_front d.memo d.receiver d.sender (codes ",\"tokens\":[" ++ x))
    (ap (λ ts. objects_text ts ++ codes "]}") is ∙ objects_then t us)
