-- A row of leaves and its pairs, from a place on.
use Rattle.std.proofs.Common.{◌≡◌, ℕ, ◌+◌, ◌<◌, ◌≤◌, Bool, true, false, List, [], ◌∷◌, ◌++◌, length, get_or, drop, map, sym, ap, ap₂, ◌∙◌, arith, inl, inr, eq-eqb}
use Rattle.std.specs.Prelude.{◌==◌}
use Rattle.std.proofs.lemmas.Bool.{cases_eq, cases_lt, and_parts, false≢true}
use Rattle.std.proofs.lemmas.List.{length-map, get_or-map, drop_more, drop_all}
use Rattle.ibc_ids.specs.Texts.{Text, same_text}
use Rattle.ibc_ids.proofs.Texts.{text_same}
use Rattle.ibc_merkle.specs.Tree.{Pairs, Tree, Leaf}
use Rattle.ibc_merkle.specs.Proofs.{is_below}
use Rattle.ibc_forest.specs.Levels.{leaf_of, tree_at, trees_at}
use Rattle.ibc_forest.specs.Nodes.{Grows}
use Rattle.ibc_forest.specs.NodeLevels.{Stand}
use Rattle.ibc_forest.specs.Leaves.{pair_of, pair_at, row_pairs, AreLeaves, same_pair, from_key, behind_key, begins_with, is_new, keys, differ_count, differing_count}
use Rattle.ibc_forest.proofs.Climbing.{row_tree, length-trees_at}
use Rattle.ibc_forest.proofs.Pairing.{stand-grows, trees_at-grows}

pub length-row_pairs : (trees : List Tree) (row : List ℕ) → length (row_pairs trees row) ≡ length row
length-row_pairs trees row = length-map (trees_at trees row) pair_of ∙ length-trees_at trees row

pair_here : (trees : List Tree) (row : List ℕ) (i : ℕ) (d : Text × Text) → i < length row → get_or (row_pairs trees row) i d ≡ pair_at trees (get_or row i 0)
pair_here trees row i d l =
    let counted = length-trees_at trees row in
    get_or-map pair_of (trees_at trees row) i (Leaf [] []) d (omega arith) ∙ ap pair_of (row_tree trees row i l)

-- a node of the row is a leaf
pub leaf_here : (trees : List Tree) (row : List ℕ) (i : ℕ) → AreLeaves trees row → i < length row → tree_at trees (get_or row i 0) ≡ leaf_of (pair_at trees (get_or row i 0))
leaf_here trees row i leaves l =
    let counted = length-row_pairs trees row in
    sym (row_tree trees row i l)
    ∙ ap (λ ts. get_or ts i (Leaf [] [])) leaves.1
    ∙ get_or-map leaf_of (row_pairs trees row) i ([], []) (Leaf [] []) (omega arith)
    ∙ ap leaf_of (pair_here trees row i ([], []) l)

-- the pairs from a place of the row on, by the pair that was read there
pub pairs_from : (trees : List Tree) (row : List ℕ) (i : ℕ) (pair : Text × Text) → i < length row → tree_at trees (get_or row i 0) ≡ leaf_of pair
    → drop i (row_pairs trees row) ≡ pair ∷ drop (i + 1) (row_pairs trees row)
pairs_from trees row i pair l is =
    let counted = length-row_pairs trees row in
    drop_more (row_pairs trees row) i pair (omega arith)
    ∙ ap (λ (first : Text × Text). first ∷ drop (i + 1) (row_pairs trees row)) (pair_here trees row i pair l ∙ ap pair_of is)

pub pairs_end : (trees : List Tree) (row : List ℕ) (i : ℕ) → length row ≤ i → drop i (row_pairs trees row) ≡ []
pairs_end trees row i past = let counted = length-row_pairs trees row in drop_all i (row_pairs trees row) (omega arith)

-- ---- as steps of the code

pub passes : (key : Text) (pairs rest : Pairs) (pair : Text × Text) → pairs ≡ pair ∷ rest → is_below pair.0 key ≡ true → from_key key pairs ≡ from_key key rest
passes key pairs rest pair is below = ap (from_key key) is ∙ ap (λ (b : Bool). elim b [ true ↦ from_key key rest | false ↦ pair ∷ rest ]) below

pub stops : (key : Text) (pairs rest : Pairs) (pair : Text × Text) → pairs ≡ pair ∷ rest → is_below pair.0 key ≡ false → from_key key pairs ≡ pairs
stops key pairs rest pair is below = ap (from_key key) is ∙ ap (λ (b : Bool). elim b [ true ↦ from_key key rest | false ↦ pair ∷ rest ]) below ∙ sym is

pub leaves_behind : (key : Text) (pairs rest : Pairs) (pair : Text × Text) → pairs ≡ pair ∷ rest → same_text pair.0 key ≡ true → behind_key key pairs ≡ rest
leaves_behind key pairs rest pair is same = ap (behind_key key) is ∙ ap (λ (b : Bool). elim b [ true ↦ rest | false ↦ pair ∷ rest ]) same

pub leaves_none : (key : Text) (pairs rest : Pairs) (pair : Text × Text) → pairs ≡ pair ∷ rest → same_text pair.0 key ≡ false → behind_key key pairs ≡ pairs
leaves_none key pairs rest pair is other = ap (behind_key key) is ∙ ap (λ (b : Bool). elim b [ true ↦ rest | false ↦ pair ∷ rest ]) other ∙ sym is

pub is_new-not : (pair : Text × Text) (pairs : Pairs) → begins_with pair pairs ≡ true → is_new pair pairs ≡ 0
is_new-not pair pairs is = ap (λ (b : Bool). elim b [ true ↦ 0 | false ↦ 1 ]) is

pub is_new-so : (pair : Text × Text) (pairs : Pairs) → begins_with pair pairs ≡ false → is_new pair pairs ≡ 1
is_new-so pair pairs is = ap (λ (b : Bool). elim b [ true ↦ 0 | false ↦ 1 ]) is

pub there_is : (trees : List Tree) (row : List ℕ) (at : ℕ) (pair : Text × Text) → AreLeaves trees row → begins_with pair (drop at (row_pairs trees row)) ≡ true
    → (at < length row) × (tree_at trees (get_or row at 0) ≡ leaf_of pair)
there_is trees row at pair leaves is =
    elim (cases_lt at (length row)) [
      | inl l ↦
          let its = leaf_here trees row at leaves l in
          let found = pair_at trees (get_or row at 0) in
          let same : same_pair found pair ≡ true = sym (ap (begins_with pair) (pairs_from trees row at found l its)) ∙ is in
          let parts = and_parts (same_text found.0 pair.0) (same_text found.1 pair.1) same in
          (l, its ∙ ap₂ Leaf (text_same found.0 pair.0 parts.0) (text_same found.1 pair.1 parts.1))
      | inr past ↦ absurd (false≢true (sym (ap (begins_with pair) (pairs_end trees row at past)) ∙ is))
    ]

-- ---- one pair more

pub pairs-grows : (a b : List Tree) (row : List ℕ) → Grows a b → Stand a row → row_pairs b row ≡ row_pairs a row
pairs-grows a b row g stand = ap (map pair_of) (trees_at-grows a b row g stand)

pub leaves-grows : (a b : List Tree) (row : List ℕ) → Grows a b → AreLeaves a row → AreLeaves b row
leaves-grows a b row g leaves =
    (stand-grows a b row g leaves.0, trees_at-grows a b row g leaves.0 ∙ leaves.1 ∙ ap (map leaf_of) (sym (pairs-grows a b row g leaves.0)))

pub same_key : (before entries : Pairs) (i : ℕ) (entry d : Text × Text) → keys entries ≡ keys before → i < length entries → entry ≡ get_or entries i entry
    → (i < length before) × ((get_or before i d).0 ≡ entry.0)
same_key before entries i entry d same l is =
    let key = λ (pair : Text × Text). pair.0 in
    let counted : length entries ≡ length before = sym (length-map entries key) ∙ ap length same ∙ length-map before key in
    let there : i < length before = omega arith in
    (there, sym (get_or-map key before i d [] there) ∙ sym (ap (λ (ks : List Text). get_or ks i []) same) ∙ get_or-map key entries i entry [] l ∙ sym (ap key is))

pub unlike_not : (number other : ℕ) → number ≡ other → differ_count number other ≡ 0
unfolding differ_count
unlike_not number other same = ap (λ (b : Bool). elim b [ true ↦ 0 | false ↦ 1 ]) (eq-eqb number other same)

pub one_at_most : (same : Bool) → elim same [ true ↦ 0 | false ↦ 1 ] ≤ 1
one_at_most true = omega arith
one_at_most false = omega arith

pub unlike_most : (number other : ℕ) → differ_count number other ≤ 1
unfolding differ_count
unlike_most number other = one_at_most (number == other)

pub differing-push : (row old : List ℕ) (number new : ℕ) → length row < length old → (new ≡ 0 → number ≡ get_or old (length row) 0)
    → differing_count (row ++ number ∷ []) old ≤ differing_count row old + new
differing-push [] [] number new l kept = absurd (omega arith)
differing-push [] (first ∷ old) number new l kept =
    let most = unlike_most number first in
    elim (cases_eq new 0) [
      | inl none ↦ let same = unlike_not number first (kept none) in omega arith
      | inr some ↦ omega arith
    ]
differing-push (next ∷ row) [] number new l kept = absurd (omega arith)
differing-push (next ∷ row) (first ∷ old) number new l kept =
    let rest = differing-push row old number new (omega arith) kept in omega arith
