-- Texts that stand in base64, and what they encode.
use Rattle.std.proofs.Common.{◌≡◌, codes, refl, ◌∷◌, [], sym, ap}
use Rattle.base64.proofs.OnLiterals.{base64_on_literals}
use Rattle.base64.specs.Engines.{standard}
use Rattle.base64.specs.GeneralPurpose.{encode_of}
use Rattle.ibc_ids.specs.Texts.{Text}
use Rattle.ibc_machine.specs.ics20.TokenData.{success, object, member}

-- the text in base64, with the standard alphabet and padding
abbrev in_base64 : Text → Text
in_base64 = encode_of standard

the_byte_1 : in_base64 (1 ∷ []) ≡ codes "AQ=="
unfolding base64_on_literals
the_byte_1 = refl

-- what is acknowledged is the byte 1
a_success : success ≡ object (member (codes "result") (in_base64 (1 ∷ [])) ∷ [])
a_success = ap (λ text. object (member (codes "result") text ∷ [])) (sym the_byte_1)

a_note : in_base64 (codes "n1") ≡ codes "bjE="
unfolding base64_on_literals
a_note = refl

another_note : in_base64 (codes "n2") ≡ codes "bjI="
unfolding base64_on_literals
another_note = refl

a_third_note : in_base64 (codes "n3") ≡ codes "bjM="
unfolding base64_on_literals
a_third_note = refl
