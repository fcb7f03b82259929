-- One chain's publications in a list, in a beginning of it, and in a list of one more.
use Rattle.std.proofs.Common.{◌≡◌, ◌≢◌, ℕ, zero, suc, ◌+◌, ◌-◌, ◌<◌, ◌≤◌, ◌==◌, cond, List, [], ◌∷◌, ◌++◌, length, slice_get, arith, refl, ap, sym, ◌∙◌, length-append}
use Rattle.std.proofs.Common.{eq-eqb, ne_eqb}
use Rattle.std.proofs.lemmas.List.{append-nil}
use Rattle.std.proofs.lemmas.List.Elements.{filter-append}
use mathlib.Core.List.{IsPrefix}
use Rattle.ibc_ids.specs.declared.publication.Publication.{Publication}
use Rattle.ibc_ids.specs.Publications.{published_by, height_of, row_at}
use Rattle.ibc_root_table.proofs.Beginnings.{prefix_length, prefix_whole}

pub published_by-append : (c : ℕ) (xs ys : List Publication) → published_by c (xs ++ ys) ≡ published_by c xs ++ published_by c ys
published_by-append c xs ys = filter-append (λ (p : Publication). p.chain == c) xs ys

pub published_by-prefix : (c : ℕ) (xs ys : List Publication) → IsPrefix xs ys → IsPrefix (published_by c xs) (published_by c ys)
published_by-prefix c xs ys p = (published_by c p.0, sym (published_by-append c xs p.0) ∙ ap (published_by c) p.1)

-- heights grow with the list
pub height_grows : (c : ℕ) (xs ys : List Publication) → IsPrefix xs ys → height_of c xs ≤ height_of c ys
height_grows c xs ys p = prefix_length (published_by c xs) (published_by c ys) (published_by-prefix c xs ys p)

-- the row of a height is the publication at the place before
pub row_at-pred : (log : List Publication) (c h : ℕ) → 0 < h → row_at log c h ≡ slice_get (published_by c log) (h - 1)
row_at-pred log c zero l = absurd (omega arith)
row_at-pred log c (suc h) l = let e : suc h - 1 ≡ h = omega arith in rw e refl

-- one more publication of the chain, or of another chain
pub own_added : (c : ℕ) (log : List Publication) (p : Publication) → p.chain ≡ c → published_by c (log ++ p ∷ []) ≡ published_by c log ++ p ∷ []
own_added c log p e = published_by-append c log (p ∷ []) ∙ ap (λ b. published_by c log ++ cond b (p ∷ []) []) (eq-eqb p.chain c e)

pub other_added : (c : ℕ) (log : List Publication) (p : Publication) → p.chain ≢ c → published_by c (log ++ p ∷ []) ≡ published_by c log
other_added c log p e = published_by-append c log (p ∷ []) ∙ (ap (λ b. published_by c log ++ cond b (p ∷ []) []) (ne_eqb p.chain c e) ∙ append-nil (published_by c log))

pub own_height : (c : ℕ) (log : List Publication) (p : Publication) → p.chain ≡ c → height_of c (log ++ p ∷ []) ≡ height_of c log + 1
own_height c log p e = ap length (own_added c log p e) ∙ length-append (published_by c log) (p ∷ [])

pub other_height : (c : ℕ) (log : List Publication) (p : Publication) → p.chain ≢ c → height_of c (log ++ p ∷ []) ≡ height_of c log
other_height c log p e = ap length (other_added c log p e)

-- with no more of the chain's publications, they are the same
pub same_published_by : (c : ℕ) (xs ys : List Publication) → IsPrefix xs ys → height_of c ys ≡ height_of c xs → published_by c ys ≡ published_by c xs
same_published_by c xs ys p same = sym (prefix_whole (published_by c xs) (published_by c ys) (published_by-prefix c xs ys p) (sym same))

-- where one more of the chain's publications is there, it is the last
pub one_published_by : (c : ℕ) (xs between : List Publication) (p : Publication) → p.chain ≡ c → height_of c ((xs ++ between) ++ p ∷ []) ≡ height_of c xs + 1 → published_by c ((xs ++ between) ++ p ∷ []) ≡ published_by c xs ++ p ∷ []
one_published_by c xs between p own more =
    let last = own_height c (xs ++ between) p own in
    own_added c (xs ++ between) p own ∙ ap (λ l. l ++ p ∷ []) (same_published_by c xs (xs ++ between) (between, refl) (omega arith))
