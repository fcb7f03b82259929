-- The rows of the working tree.
use Rattle.std.proofs.Common.{◌≡◌, ℕ, ◌+◌, ◌-◌, ◌^◌, ◌<◌, ◌≤◌, List, [], ◌∷◌, ◌++◌, length, get_or, sym, ap, ◌∙◌, subst, arith, append_assoc, Vec}
use Rattle.std.proofs.lemmas.List.{length-map, map_push}
use Rattle.std.specs.declared.alloc.Global.{Global}
use Rattle.ibc_merkle.specs.Tree.{Tree}
use Rattle.ibc_forest.specs.Levels.{pair_up, tree_over, tree_at, trees_at}
use Rattle.ibc_forest.specs.Nodes.{Grows}
use Rattle.ibc_forest.specs.NodeLevels.{Stand, AreLevels, IsPyramid, rows_of, first_row, HasLevelsOver}
use Rattle.ibc_forest.proofs.Pairing.{stand-grows, trees_at-grows, grows_on, over_one, over_above}
use Rattle.ibc_forest.proofs.Climbing.{levels-grows, levels_log}

-- ---- the root

abbrev IsTop : List Tree → List ℕ → Vec ℕ Global → Type 0
IsTop trees row last =
    (length last.items ≡ 1) × ((number : ℕ) → number ≡ get_or last.items 0 number → (number < length trees) × (tree_at trees number ≡ tree_over (trees_at trees row)))

top_of : (trees : List Tree) (row : Vec ℕ Global) (rows : List (Vec ℕ Global)) (last : Vec ℕ Global) → Stand trees row.items → AreLevels trees row.items (rows_of rows)
    → last ≡ get_or (row ∷ rows) (length rows) last → IsTop trees row.items last
top_of trees row [] last stand levels is =
    let one : length row.items ≡ 1 = levels in
    subst (IsTop trees row.items) (sym is)
    (one, λ number there. (subst (λ n. n < length trees) (sym there) (stand 0 number (omega arith)), over_one trees row.items number one there))
top_of trees row (next ∷ rows) last stand levels is =
    let w = top_of trees next rows last levels.1 levels.3 is in
    let same = over_above trees trees row.items next.items levels.2 (let more = levels.0 in omega arith) in
    (w.0, λ number there. let v = w.1 number there in (v.0, v.1 ∙ same))

pub top : (trees : List Tree) (rows : List (Vec ℕ Global)) (last : Vec ℕ Global) → IsPyramid trees (rows_of rows) → last ≡ get_or rows (length rows - 1) last
    → (length last.items ≡ 1) × ((number : ℕ) → number ≡ get_or last.items 0 number → (number < length trees) × (tree_at trees number ≡ tree_over (trees_at trees (first_row (rows_of rows)))))
top trees [] last pyramid is = absurd (omega arith)
top trees (row ∷ rows) last pyramid is =
    let place : length (row ∷ rows) - 1 ≡ length rows = omega arith in
    top_of trees row rows last pyramid.0 pyramid.1 (is ∙ ap (λ i. get_or (row ∷ rows) i last) place)

-- ---- as trees come

pub pyramid-grows : (a b : List Tree) (rows : List (List ℕ)) → Grows a b → IsPyramid a rows → IsPyramid b rows
pyramid-grows a b [] g pyramid = pyramid
pyramid-grows a b (row ∷ rows) g pyramid = (stand-grows a b row g pyramid.0, levels-grows a b row rows g pyramid.0 pyramid.1)

pub few_levels : (trees : List Tree) (rows : List (Vec ℕ Global)) (log : ℕ) → IsPyramid trees (rows_of rows) → length (first_row (rows_of rows)) ≤ 2 ^ log → length rows ≤ log + 1
few_levels trees [] log pyramid few = omega arith
few_levels trees (row ∷ rows) log pyramid few =
    let h = (levels_log trees row.items (rows_of rows) pyramid.1).least log few in
    let counted : length (rows_of rows) ≡ length rows = length-map rows (λ (row : Vec ℕ Global). row.items) in
    omega arith

-- ---- one row more

pub raised_more : (trees middle after : List Tree) (row above : Vec ℕ Global) (slice : List ℕ) (old pushed final : List (Vec ℕ Global)) → Stand trees row.items → slice ≡ row.items
    → 1 < length row.items → trees_at middle above.items ≡ pair_up (trees_at trees slice) → Stand middle above.items → Grows trees middle → Grows middle after
    → pushed ≡ old ++ row ∷ [] → HasLevelsOver after pushed above.items final → HasLevelsOver after old row.items final
raised_more trees middle after row above slice old pushed final stand same more level there g h added raised =
    let items = λ (row : Vec ℕ Global). row.items in
    let all = grows_on trees middle after g h in
    let tail : List (List ℕ) = rows_of raised.above in
    let equal : trees_at after above.items ≡ pair_up (trees_at after row.items) =
    trees_at-grows middle after above.items h there ∙ level ∙ ap (λ slice. pair_up (trees_at trees slice)) same ∙ ap pair_up (sym (trees_at-grows trees after row.items all stand))
    in
    record {
      above = above ∷ raised.above;
      added =
          raised.added
          ∙ ap (λ rows. rows ++ above.items ∷ tail) (ap rows_of added ∙ map_push items old row)
          ∙ append_assoc (rows_of old) (row.items ∷ []) (above.items ∷ tail);
      levels = (stand-grows trees after row.items all stand, (more, raised.levels.0, equal, raised.levels.1));
    }
