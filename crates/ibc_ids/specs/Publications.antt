-- What chains published, in one list: a chain's heights are its publications in their order, from 1
-- (ICS 2, "Height" and "Consensus state").
use Rattle.std.specs.Prelude.{ℕ, zero, suc, ◌==◌, List, length, take, slice_get, Option, None}
use Rattle.std.specs.List.{filter}
use Rattle.ibc_ids.specs.declared.publication.Publication.{Publication}

abbrev pub published_by : ℕ → List Publication → List Publication
published_by chain publications = filter (λ (p : Publication). p.chain == chain) publications

-- the greatest published height of a chain, 0 if there is none
abbrev pub height_of : ℕ → List Publication → ℕ
height_of chain publications = length (published_by chain publications)

-- the same among the first so many publications
abbrev pub height_among : ℕ → ℕ → List Publication → ℕ
height_among chain n publications = height_of chain (take n publications)

-- the publication of a height of a chain
abbrev pub row_at : List Publication → ℕ → ℕ → Option Publication
row_at publications chain zero = None
row_at publications chain (suc k) = slice_get (published_by chain publications) k
