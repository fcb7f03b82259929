-- Nodes of a row above as they are gathered.
use Rattle.std.proofs.Common.{◌≡◌, ◌≢◌, ◌⊎◌, inl, inr, ℕ, zero, suc, ◌+◌, ◌*◌, ◌<◌, ◌≤◌, List, [], ◌∷◌, ◌++◌, length, get_or, set, take, drop, refl, sym, ap, ap₂, ◌∙◌, subst, arith, All, length-append}
use Rattle.std.proofs.lemmas.Bool.Decides.{eqb_tells, leb_tells}
use Rattle.std.proofs.lemmas.List.{drop_more, get_or-set_same, get_or-set_other, get_or_append_left, get_or_push, length-set, take-set-le, take-append-le}
use Rattle.std.proofs.lemmas.List.Elements.{All-head, All-tail, All-cons, All-nil, All-push, All-set, All-weaker}
use Rattle.ibc_ids.specs.Texts.{Text}
use Rattle.ibc_merkle.specs.Tree.{Tree, Node, root}
use Rattle.ibc_forest.specs.Levels.{pair_up, tree_at, trees_at}
use Rattle.ibc_forest.specs.Nodes.{Grows}
use Rattle.ibc_forest.specs.NodeLevels.{AreFirstAbove, Stand}
use Rattle.ibc_forest.specs.Gathered.{node_over, PairedBut, WaitBehind, FrontStays, AreDigestsOver}
use Rattle.ibc_forest.proofs.Pairing.{double, double_is, stand-grows, tree_at-grows}

-- ---- words

All-front : {X : Type 0} (P : X → Type 0) (xs ys : List X) → All P (xs ++ ys) → All P xs
All-front P xs ys all = λ k d l. subst P (get_or_append_left xs ys d k l) (all k d (let n = length-append xs ys in omega arith))

All-last : {X : Type 0} (P : X → Type 0) (xs : List X) (x : X) → All P (xs ++ x ∷ []) → P x
All-last P xs x all = subst P (get_or_push xs x x (length xs) refl) (all (length xs) x (let n = length-append xs (x ∷ []) in omega arith))

next_pair : (trees : List Tree) (left right : ℕ) (row : List ℕ) (place : ℕ) → node_over trees (left ∷ right ∷ row) (suc place) ≡ node_over trees row place
next_pair trees left right row place =
    let one : 2 * suc place ≡ suc (suc (2 * place)) = omega arith in
    ap₂ (λ m n. Node (tree_at trees (get_or (left ∷ right ∷ row) m 0)) (tree_at trees (get_or (left ∷ right ∷ row) n 0))) one
    (let e : 2 * suc place + 1 ≡ suc (suc (2 * place + 1)) = omega arith in e)

-- ---- pairs as nodes come

pub node_over-grows : (before after : List Tree) (row : List ℕ) (place : ℕ) → Stand before row → 2 * place + 1 < length row → Grows before after
    → node_over after row place ≡ node_over before row place
node_over-grows before after row place stand within grows =
    ap₂ Node (tree_at-grows before after (get_or row (2 * place) 0) grows (stand (2 * place) 0 (omega arith)))
    (tree_at-grows before after (get_or row (2 * place + 1) 0) grows (stand (2 * place + 1) 0 within))

pub gathered-grows : (before after : List Tree) (row above waiting : List ℕ) → Stand before row → PairedBut before row above waiting → Grows before after
    → PairedBut after row above waiting
gathered-grows before after row above waiting stand paired grows = record {
  stand = stand-grows before after above grows paired.stand;
  few = paired.few;
  places = paired.places;
  paired = λ place within not.
      tree_at-grows before after (get_or above place 0) grows (paired.stand place 0 within)
      ∙ paired.paired place within not
      ∙ sym (node_over-grows before after row place stand (let few = paired.few in omega arith) grows);
}

-- ---- the node of the first place that waits is made

pub gathered-set : (before after : List Tree) (row above rest : List ℕ) (place node : ℕ) → Stand before row → PairedBut before row above (place ∷ rest) → Grows before after
    → node < length after → tree_at after node ≡ node_over before row place → PairedBut after row (set above place node) rest
gathered-set before after row above rest place node stand paired grows there made =
    let now = gathered-grows before after row above (place ∷ rest) stand paired grows in
    let many : length (set above place node) ≡ length above = length-set above place node in
    let few = paired.few in
    let at : place < length above = All-head (λ p. p < length above) place rest paired.places in
    record {
      stand = All-set (λ n. n < length after) above place node there now.stand;
      few = omega arith;
      places = subst (λ n. All (λ p. p < n) rest) (sym many) (All-tail (λ p. p < length above) place rest paired.places);
      paired = λ other within not.
          elim (eqb_tells other place) [
            | inl same ↦
                ap (λ p. tree_at after (get_or (set above place node) p 0)) same.1
                ∙ ap (tree_at after) (get_or-set_same above place node 0 at)
                ∙ made
                ∙ sym (node_over-grows before after row place stand (omega arith) grows)
                ∙ ap (node_over after row) (sym same.1)
            | inr apart ↦
                ap (tree_at after) (get_or-set_other above place other node 0 apart.1)
                ∙ now.paired other (omega arith) (All-cons (λ p. other ≢ p) place rest apart.1 not)
          ];
    }

pub front-set : (above rest : List ℕ) (place node : ℕ) → FrontStays (place ∷ rest) above (set above place node)
front-set above rest place node = λ first within behind. take-set-le first above place node (All-head (λ p. first ≤ p) place rest behind)

-- ---- the nodes of places are made in their order

pub gathered_next : (before after : List Tree) (row above places : List ℕ) (k node : ℕ) → Stand before row → k < length places → PairedBut before row above (drop k places)
    → Grows before after → node < length after → tree_at after node ≡ node_over before row (get_or places k 0)
    → PairedBut after row (set above (get_or places k 0) node) (drop (k + 1) places)
gathered_next before after row above places k node stand within paired grows there made =
    gathered-set before after row above (drop (k + 1) places) (get_or places k 0) node stand (subst (PairedBut before row above) (drop_more places k 0 within) paired) grows there made

pub front_next : (before above places : List ℕ) (k node : ℕ) → k < length places → FrontStays places before above → FrontStays places before (set above (get_or places k 0) node)
front_next before above places k node within stays =
    λ first inside behind. take-set-le first above (get_or places k 0) node (behind k 0 within) ∙ stays first inside behind

pub digest_still : (before trees : List Tree) (row above places : List ℕ) (digests : List Text) (k : ℕ) → Stand before row → Grows before trees → PairedBut before row above places
    → AreDigestsOver before row places digests → k < 4 → k < length places → get_or digests k [] ≡ root (node_over trees row (get_or places k 0))
digest_still before trees row above places digests k stand grows paired are few within =
    are k few within
    ∙ sym (ap root (node_over-grows before trees row (get_or places k 0) stand (let few = paired.few in let l = paired.places k 0 within in omega arith) grows))

-- ---- one node more

before_or_last : (place last : ℕ) → place < last + 1 → (place < last) ⊎ (place ≡ last)
before_or_last place last within = elim (leb_tells (suc place) last) [ inl less ↦ inl less.1 | inr not ↦ inr (let least = not.1 in omega arith) ]

-- behind the last node, the node over the next pair, or any node for a place that waits
more_of : (trees : List Tree) (row above waiting rest : List ℕ) (node : ℕ) → PairedBut trees row above waiting → 2 * length above + 1 < length row → node < length trees
    → All (λ p. p < length above + 1) rest
    → ((place : ℕ) → place < length above → All (λ p. place ≢ p) rest → All (λ p. place ≢ p) waiting)
    → (All (λ p. length above ≢ p) rest → tree_at trees node ≡ node_over trees row (length above))
    → PairedBut trees row (above ++ node ∷ []) rest
more_of trees row above waiting rest node paired within there places fewer last =
    let many : length (above ++ node ∷ []) ≡ length above + 1 = length-append above (node ∷ []) in
    let before = paired.paired in
    record {
      stand = All-push (λ n. n < length trees) above node paired.stand there;
      few = omega arith;
      places = subst (λ n. All (λ p. p < n) rest) (sym many) places;
      paired = λ place inside not.
          elim (before_or_last place (length above) (omega arith)) [
            | inl less ↦ ap (tree_at trees) (get_or_append_left above (node ∷ []) 0 place less) ∙ before place less (fewer place less not)
            | inr same ↦
                ap (tree_at trees) (get_or_push above node 0 place (sym same))
                ∙ last (subst (λ p. All (λ q. p ≢ q) rest) same not)
                ∙ ap (node_over trees row) (sym same)
          ];
    }

pub gathered-push : (trees : List Tree) (row above waiting : List ℕ) (node : ℕ) → PairedBut trees row above waiting → 2 * length above + 1 < length row → node < length trees
    → tree_at trees node ≡ node_over trees row (length above) → PairedBut trees row (above ++ node ∷ []) waiting
gathered-push trees row above waiting node paired within there made =
    more_of trees row above waiting waiting node paired within there
    (All-weaker (λ p. p < length above) (λ p. p < length above + 1) (λ p l. omega arith) waiting paired.places)
    (λ place less not. not) (λ not. made)

pub gathered-wait : (trees : List Tree) (row above waiting : List ℕ) (node : ℕ) → PairedBut trees row above waiting → 2 * length above + 1 < length row → node < length trees
    → PairedBut trees row (above ++ node ∷ []) (waiting ++ length above ∷ [])
gathered-wait trees row above waiting node paired within there =
    let n : ℕ = length above in
    more_of trees row above waiting (waiting ++ n ∷ []) node paired within there
    (All-push (λ p. p < n + 1) waiting n (All-weaker (λ p. p < n) (λ p. p < n + 1) (λ p l. omega arith) waiting paired.places) (omega arith))
    (λ place less not. All-front (λ p. place ≢ p) waiting (n ∷ []) not)
    (λ not. absurd (All-last (λ p. n ≢ p) waiting n not refl))

-- a node stands in for that of a place, which waits now
pub gathered_waits : (trees : List Tree) (row above waiting after later : List ℕ) (place node : ℕ) → PairedBut trees row above waiting → place ≡ length above
    → 2 * place + 1 < length row → node < length trees → after ≡ above ++ node ∷ [] → later ≡ waiting ++ place ∷ [] → PairedBut trees row after later
gathered_waits trees row above waiting after later place node paired is within there above_is waiting_is =
    subst (λ xs. PairedBut trees row xs later) (sym above_is)
    (subst (PairedBut trees row (above ++ node ∷ [])) (sym (waiting_is ∙ ap (λ p. waiting ++ p ∷ []) is)) (gathered-wait trees row above waiting node paired (omega arith) there))

pub front_waits : (above waiting after later made : List ℕ) (place node : ℕ) → place ≡ length above → after ≡ above ++ node ∷ [] → later ≡ waiting ++ place ∷ []
    → FrontStays later after made → FrontStays waiting above made
front_waits above waiting after later made place node is above_is waiting_is stays =
    λ first within behind.
    let many = ap length above_is in
    let counted = length-append above (node ∷ []) in
    stays first (omega arith) (subst (WaitBehind first) (sym waiting_is) (All-push (λ p. first ≤ p) waiting place behind (omega arith)))
    ∙ ap (take first) above_is
    ∙ take-append-le first above (node ∷ []) within

-- ---- all nodes are there

pairs_at : (trees : List Tree) (row above : List ℕ) → double (length above) ≤ length row
    → ((place : ℕ) → place < length above → tree_at trees (get_or above place 0) ≡ node_over trees row place)
    → trees_at trees above ≡ pair_up (take (double (length above)) (trees_at trees row))
pairs_at trees row [] few each = refl
pairs_at trees [] (node ∷ above) few each = absurd (omega arith)
pairs_at trees (left ∷ []) (node ∷ above) few each = absurd (omega arith)
pairs_at trees (left ∷ right ∷ row) (node ∷ above) few each =
    ap₂ ◌∷◌ (each 0 (omega arith)) (pairs_at trees row above (omega arith) (λ place l. each (suc place) (omega arith) ∙ next_pair trees left right row place))

at_pairs : (trees : List Tree) (row above : List ℕ) → double (length above) ≤ length row
    → trees_at trees above ≡ pair_up (take (double (length above)) (trees_at trees row))
    → (place : ℕ) → place < length above → tree_at trees (get_or above place 0) ≡ node_over trees row place
at_pairs trees row [] few are place l = absurd (omega arith)
at_pairs trees [] (node ∷ above) few are place l = absurd (omega arith)
at_pairs trees (left ∷ []) (node ∷ above) few are place l = absurd (omega arith)
at_pairs trees (left ∷ right ∷ row) (node ∷ above) few are zero l = ap (λ ts. get_or ts 0 (tree_at trees node)) are
at_pairs trees (left ∷ right ∷ row) (node ∷ above) few are (suc place) l =
    at_pairs trees row above (omega arith) (ap (drop 1) are) place (omega arith) ∙ sym (next_pair trees left right row place)

pub gathered_all : (trees : List Tree) (row above : List ℕ) → PairedBut trees row above [] → AreFirstAbove trees row above
gathered_all trees row above paired =
    let few = paired.few in
    let is = double_is (length above) in (
      paired.stand,
      paired.few,
      pairs_at trees row above (omega arith) (λ place l. paired.paired place l (All-nil (λ p. place ≢ p))) ∙ ap (λ n. pair_up (take n (trees_at trees row))) is,
    )

pub gathered_first : (trees : List Tree) (row above : List ℕ) → AreFirstAbove trees row above → PairedBut trees row above []
gathered_first trees row above first =
    let few = first.1 in
    let is = double_is (length above) in
    record {
      stand = first.0;
      few = first.1;
      places = All-nil (λ p. p < length above);
      paired = λ place l not. at_pairs trees row above (omega arith) (first.2 ∙ ap (λ n. pair_up (take n (trees_at trees row))) (sym is)) place l;
    }

-- ---- four digests

pub four_over : (wanted : ℕ → Text) (n : ℕ) (a b c d : Text) → (0 < n → a ≡ wanted 0) → (1 < n → b ≡ wanted 1) → (2 < n → c ≡ wanted 2) → (3 < n → d ≡ wanted 3)
    → (k : ℕ) → k < 4 → k < n → get_or (a ∷ b ∷ c ∷ d ∷ []) k [] ≡ wanted k
four_over wanted n a b c d first second third fourth zero l m = first m
four_over wanted n a b c d first second third fourth (suc zero) l m = second m
four_over wanted n a b c d first second third fourth (suc (suc zero)) l m = third m
four_over wanted n a b c d first second third fourth (suc (suc (suc zero))) l m = fourth m
four_over wanted n a b c d first second third fourth (suc (suc (suc (suc k)))) l m = absurd (omega arith)
