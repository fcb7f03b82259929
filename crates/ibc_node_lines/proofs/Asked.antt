-- What is told of an answer to a look is told of what the look found.
use Rattle.std.proofs.Common.{◌≡◌, ◌+◌, ◌∙◌, ℕ, List, [], ◌∷◌, ◌++◌, Result, Ok, Err, IfOk, add-zero, ap, arith, length, sym}
use Rattle.std.specs.Prelude.{IsOkAnd}
use Rattle.ibc_journal.specs.Tables.{JournalItem}
use Rattle.ibc_node_lines.specs.OtherLines.{item_text}
use Rattle.ibc_node_lines.specs.QuestionAnswers.{item_texts}

-- two facts of what a call gave, where it gave something
pub both_of : {T E : Type 0} (r : Result T E) (P Q : T → Type 0) → IfOk r P → IsOkAnd r Q → (x : T) × P x × Q x
both_of (Ok x) P Q p q = (x, p, q)
both_of (Err e) P Q p q = absurd q

-- one entry more is told
pub item_texts_more : (place : ℕ) (items : List JournalItem) (it : JournalItem) → item_texts place (items ++ it ∷ []) ≡ item_texts place items ++ item_text (place + length items) it ∷ []
item_texts_more place [] it = ap (λ n. item_text n it ∷ []) (sym (add-zero place))
item_texts_more place (first ∷ items) it =
    let behind : place + 1 + length items ≡ place + length (first ∷ items) = omega arith in
    ap (λ l. item_text place first ∷ l) (item_texts_more (place + 1) items it ∙ ap (λ n. item_texts (place + 1) items ++ item_text n it ∷ []) behind)
