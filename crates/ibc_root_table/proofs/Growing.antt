-- What a keeper of a pass knows as the list of publications grows.
use Rattle.std.proofs.Common.{◌≡◌, ℕ, zero, suc, ◌≤◌, List, [], ◌∷◌, ◌++◌, length, Some, slice_get, arith, refl, sym, ap, ◌∙◌, append_assoc, length-append}
use mathlib.Core.List.{IsPrefix}
use Rattle.ibc_ids.specs.declared.publication.Publication.{Publication}
use Rattle.ibc_ids.specs.Publications.{published_by, height_of, height_among, row_at}
use Rattle.ibc_root_table.specs.Passes.{Publishes}
use Rattle.ibc_root_table.proofs.Beginnings.{prefix_whole, prefix_get, take-prefix, take-prefix_whole}
use Rattle.ibc_root_table.proofs.Chains.{published_by-prefix, height_grows}

-- among as many first publications as were seen once, a chain has the height that it had then
pub height_among-prefix : (c : ℕ) (seen more : List Publication) → IsPrefix seen more → height_among c (length seen) more ≡ height_of c seen
height_among-prefix c seen more p = ap (height_of c) (take-prefix_whole seen more p)

pub height_among-stays : (c n : ℕ) (seen more : List Publication) → IsPrefix seen more → n ≤ length seen → height_among c n more ≡ height_among c n seen
height_among-stays c n seen more p l = ap (height_of c) (take-prefix n seen more p l)

-- a row that was seen stays
pub row_at-stays : (c h : ℕ) (seen more : List Publication) (q : Publication) → IsPrefix seen more → row_at seen c h ≡ Some q → row_at more c h ≡ Some q
row_at-stays c zero seen more q p is = is
row_at-stays c (suc k) seen more q p is = prefix_get (published_by c seen) (published_by c more) k q (published_by-prefix c seen more p) is

-- a list between two with the same publications of the chain has the same: so a look between two meetings with the chain's own pass is exact
pub published_between : (c : ℕ) (first seen last : List Publication) → IsPrefix first seen → IsPrefix seen last → published_by c last ≡ published_by c first → published_by c seen ≡ published_by c first
published_between c first seen last p q same =
    let low = height_grows c first seen p in let high = height_grows c seen last q in let equal = ap length same in
    sym (prefix_whole (published_by c first) (published_by c seen) (published_by-prefix c first seen p) (omega arith))

-- what was seen before a publication begins what is seen after it
pub Publishes-prefix : (before after : List Publication) (q : Publication) → Publishes before q after → IsPrefix before after
Publishes-prefix before after q p = (p.0 ++ q ∷ [], sym (append_assoc before p.0 (q ∷ [])) ∙ sym p.1)

-- the publication stands at the end, after all that was seen before
pub Publishes-last : (before after : List Publication) (q : Publication) → Publishes before q after → (n : ℕ) × (length before ≤ n) × (length after ≡ suc n) × (slice_get after n ≡ Some q)
Publishes-last before after q p =
    let all : List Publication = before ++ p.0 in
    let long = length-append before p.0 in let longer = ap length p.1 ∙ length-append all (q ∷ []) in
    (length all, omega arith, omega arith, ap (λ l. slice_get l (length all)) p.1 ∙ at_last all q)
  where
    at_last : (xs : List Publication) (x : Publication) → slice_get (xs ++ x ∷ []) (length xs) ≡ Some x
    at_last [] x = refl
    at_last (y ∷ xs) x = at_last xs x
