-- Lines and their texts, one more at a time.
use Rattle.std.proofs.Common.{◌≡◌, ℕ, ◌+◌, ◌<◌, List, [], ◌∷◌, ◌++◌, length, take, get_or, refl, sym, ap, ◌∙◌, subst, append-nil, Result, Ok, Err, OnOk}
use Rattle.std.specs.Prelude.{is_ok, if◌then◌else◌}
use Rattle.std.specs.List.{AllZip, concat}
use Rattle.std.proofs.lemmas.List.{take_more}
use Rattle.std.proofs.lemmas.List.Folds.{concat-append}
use Rattle.ibc_ids.specs.Texts.{Text}
use Rattle.ibc_node_lines.specs.declared.lines.NodeLine.{NodeLine}
use Rattle.ibc_node_lines.specs.Told.{comma_behind, joined_behind, AreLinesText, IsLineText}

-- what was added to a text
pub added : {T E : Type 0} (r : Result T E) (front next whole new : Text) → front ++ next ≡ whole → new ≡ (if is_ok r then front ++ next else front) → OnOk r (new ≡ whole)
added (Ok x) front next whole new all is = is ∙ all
added (Err e) front next whole new all is = tt

-- ---- one more

zip_push : {A B : Type 0} (R : A → B → Type 0) (xs : List A) (ys : List B) (x : A) (y : B) → AllZip R xs ys → R x y → AllZip R (xs ++ x ∷ []) (ys ++ y ∷ [])
zip_push R [] [] x y all last = (last, tt)
zip_push R [] (b ∷ ys) x y all last = absurd all
zip_push R (a ∷ xs) [] x y all last = absurd all
zip_push R (a ∷ xs) (b ∷ ys) x y all last = (all.0, zip_push R xs ys x y all.1 last)

pub one_more : {A : Type 0} (xs : List A) (i : ℕ) (x : A) → i < length xs → x ≡ get_or xs i x → take (i + 1) xs ≡ take i xs ++ x ∷ []
one_more xs i x low is = take_more xs i x low ∙ ap (λ z. take i xs ++ z ∷ []) (sym is)

pub zip_more : {A B : Type 0} (R : A → B → Type 0) (xs : List A) (ys : List B) (i : ℕ) (x : A) (y : B) → i < length xs → x ≡ get_or xs i x → AllZip R (take i xs) ys → R x y → AllZip R (take (i + 1) xs) (ys ++ y ∷ [])
zip_more R xs ys i x y low is so_far last = subst (λ l. AllZip R l (ys ++ y ∷ [])) (sym (one_more xs i x low is)) (zip_push R (take i xs) ys x y so_far last)

pub joined_more : (before : Text) (xs : List Text) (x : Text) → joined_behind before (xs ++ x ∷ []) ≡ joined_behind before xs ++ (comma_behind (joined_behind before xs) ++ x)
joined_more before [] x = refl
joined_more before (y ∷ xs) x = joined_more (before ++ (comma_behind before ++ y)) xs x

pub lines_more : (lines : List NodeLine) (i : ℕ) (it : NodeLine) (old new more : Text) → i < length lines → it ≡ get_or lines i it → AreLinesText (take i lines) old → IsLineText it more → new ≡ old ++ more
    → AreLinesText (take (i + 1) lines) new
lines_more lines i it old new more low is so_far last grown = (
  so_far.0 ++ more ∷ [],
  zip_more IsLineText lines so_far.0 i it more low is so_far.1 last,
  grown ∙ ap (λ t. t ++ more) so_far.2 ∙ ap (λ t. concat so_far.0 ++ t) (sym (append-nil more)) ∙ sym (concat-append so_far.0 (more ∷ [])),
)

-- ---- two lists of lines

zip_both : {A B : Type 0} (R : A → B → Type 0) (xs zs : List A) (ys ws : List B) → AllZip R xs ys → AllZip R zs ws → AllZip R (xs ++ zs) (ys ++ ws)
zip_both R [] zs [] ws first second = second
zip_both R [] zs (y ∷ ys) ws first second = absurd first
zip_both R (x ∷ xs) zs [] ws first second = absurd first
zip_both R (x ∷ xs) zs (y ∷ ys) ws first second = (first.0, zip_both R xs zs ys ws first.1 second)

pub lines_both : (xs ys : List NodeLine) (front back : Text) → AreLinesText xs front → AreLinesText ys back → AreLinesText (xs ++ ys) (front ++ back)
lines_both xs ys front back first second = (
  first.0 ++ second.0,
  zip_both IsLineText xs ys first.0 second.0 first.1 second.1,
  ap (λ t. t ++ back) first.2 ∙ ap (λ t. concat first.0 ++ t) second.2 ∙ sym (concat-append first.0 second.0),
)
