-- The fields of a list of tokens are what their types promise, one token after another.
use Rattle.std.proofs.Common.{◌≡◌, ℕ, ◌+◌, ◌<◌, true, ◌&&◌, List, [], ◌∷◌, length, get_or, take, sym, ap, ◌∙◌}
use Rattle.std.specs.List.{flat_map}
use Rattle.std.proofs.lemmas.Grind.{flat_map-append}
use Rattle.std.proofs.lemmas.List.{take_more}
use Rattle.std.proofs.lemmas.List.Folds.{list_all-append}
use Rattle.ibc_wire.specs.Fields.{Field, are_typed}
use Rattle.ibc_wire.specs.Spelling.{token_fields}
use Rattle.ibc_wire.specs.declared.token.Token.{Token}

abbrev fields : List Token → List Field
fields = flat_map token_fields

-- with one more, t at the place i
pub typed_more : (tokens : List Token) (i : ℕ) (t : Token) → i < length tokens → t ≡ get_or tokens i t → are_typed (token_fields t) ≡ true → are_typed (fields (take i tokens)) ≡ true
    → are_typed (fields (take (i + 1) tokens)) ≡ true
typed_more tokens i t inside here typed before =
    let last : are_typed (token_fields (get_or tokens i t)) ≡ true = ap (λ t. are_typed (token_fields t)) (sym here) ∙ typed in
    ap (λ xs. are_typed (fields xs)) (take_more tokens i t inside)
    ∙ ap are_typed (flat_map-append token_fields (take i tokens) (get_or tokens i t ∷ []))
    ∙ list_all-append (λ field. field.in_type) (fields (take i tokens)) (token_fields (get_or tokens i t))
    ∙ (λ k. before k && last k)
