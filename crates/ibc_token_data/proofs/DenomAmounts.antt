-- What a token counts of a denomination.
use Rattle.std.proofs.Common.{◌≡◌, ℕ, Bool, ◌&&◌, cond, eqb, [], ◌∷◌, refl, sym, ap, ◌∙◌}
use Rattle.std.specs.Str.{bytes_eq}
use Rattle.ibc_ids.specs.Texts.{Text, same_text}
use Rattle.ibc_wire.specs.declared.token.Token.{Token}

abbrev pub counted : Text → Token → ℕ
counted denom token = cond (same_text token.denom denom) token.amount 0

same : (x y : Text) → bytes_eq x y ≡ same_text x y
same [] [] = refl
same [] (y ∷ ys) = refl
same (x ∷ xs) [] = refl
same (x ∷ xs) (y ∷ ys) = ap (λ b. eqb x y && b) (same xs ys)

pub counts : (denom : Text) (token : Token) (b : Bool) → b ≡ bytes_eq token.denom denom → counted denom token ≡ cond b token.amount 0
counts denom token b is = ap (λ x. cond x token.amount 0) (sym (same token.denom denom) ∙ sym is)
