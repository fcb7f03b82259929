-- Rows of which the first nodes are those of a tree before.
use Rattle.std.proofs.Common.{◌≡◌, ℕ, ◌*◌, ◌/◌, ◌<◌, ◌≤◌, List, [], ◌∷◌, length, get_or, take, drop, refl, sym, ap, ◌∙◌, subst, arith, Vec}
use Rattle.std.specs.declared.alloc.Global.{Global}
use Rattle.std.proofs.lemmas.List.{drop-map, length-take, length-take-le, take-map, take-take, take_all, take_min}
use Rattle.std.proofs.lemmas.List.Elements.{All-take}
use Rattle.ibc_merkle.specs.Tree.{Tree}
use Rattle.ibc_forest.specs.Gaps.{DifferIn}
use Rattle.ibc_forest.specs.declared.gap.Gap.{Gap}
use Rattle.ibc_forest.specs.Levels.{pair_up, tree_at, trees_at}
use Rattle.ibc_forest.specs.Nodes.{Grows}
use Rattle.ibc_forest.specs.NodeLevels.{Stand, AreKnown, rows_of, first_row}
use Rattle.ibc_forest.specs.Forest.{IsLast}
use Rattle.ibc_forest.proofs.Climbing.{length-trees_at}
use Rattle.ibc_forest.proofs.Pairing.{above_some, take-pair_up}
use Rattle.ibc_forest.proofs.Workings.{pyramid-grows}

pub record KnownRow (trees : List Tree) (row known : List ℕ) : Type 0 where
  pub stand : Stand trees known
  pub few : 2 * length known ≤ length row
  pub level : trees_at trees known ≡ pair_up (take (2 * length known) (trees_at trees row))

known_none : (trees : List Tree) (row known : List ℕ) → known ≡ [] → KnownRow trees row known
known_none trees row known none = subst (KnownRow trees row) (sym none) (record { stand = λ k d l. absurd (omega arith); few = omega arith; level = refl })

-- what stood over the first ones
pub known_row : (trees : List Tree) (rows : List (List ℕ)) (row : List ℕ) (front : ℕ) → AreKnown trees rows → front ≤ length row → take front row ≡ take front (first_row rows)
    → KnownRow trees row (take (front / 2) (first_row (drop 1 rows)))
known_row trees [] row front all there same = known_none trees row _ (take_all (front / 2) [] (omega arith))
known_row trees (old ∷ []) row front all there same = known_none trees row _ (take_all (front / 2) [] (omega arith))
known_row trees (old ∷ above ∷ rows) row front all there same =
    let levels = all.1 in
    let h : ℕ = front / 2 in
    let twice : 2 * h ≤ front = omega arith in
    let a = length-take front row in
    let b = length-take front old in
    let e = ap length same in
    let many = above_some trees trees old above levels.2 in
    let counted : length (take h above) ≡ h = length-take-le h above (omega arith) in
    let olds = length-trees_at trees old in
    let fewer : take (2 * h) old ≡ take (2 * h) row = sym (take-take (2 * h) front old twice) ∙ ap (take (2 * h)) (sym same) ∙ take-take (2 * h) front row twice in
    record {
      stand = All-take (λ n. n < length trees) h above levels.1;
      few = omega arith;
      level =
          sym (take-map (tree_at trees) h above)
          ∙ ap (take h) levels.2
          ∙ take-pair_up h (trees_at trees old) (omega arith)
          ∙ ap pair_up (take-map (tree_at trees) (2 * h) old ∙ ap (trees_at trees) fewer ∙ sym (take-map (tree_at trees) (2 * h) row))
          ∙ ap (λ n. pair_up (take (2 * n) (trees_at trees row))) (sym counted);
    }

-- as the code reads it
pub known_part : (trees : List Tree) (before behind : List (Vec ℕ Global)) (row first known : List ℕ) (front : ℕ) → AreKnown trees (rows_of before) → front ≤ length row
    → take front row ≡ take front (first_row (rows_of before)) → behind ≡ drop 1 before → first ≡ first_row (rows_of behind) → known ≡ take (front / 2) first
    → KnownRow trees row known
known_part trees before behind row first known front all there same is_behind is_first is_known =
    let items = λ (row : Vec ℕ Global). row.items in
    let above : first ≡ first_row (drop 1 (rows_of before)) = is_first ∙ ap (λ rows. first_row (rows_of rows)) is_behind ∙ ap first_row (sym (drop-map items 1 before)) in
    subst (KnownRow trees row) (sym (is_known ∙ ap (take (front / 2)) above)) (known_row trees (rows_of before) row front all there same)

known_behind : (trees : List Tree) (rows : List (List ℕ)) → AreKnown trees rows → AreKnown trees (drop 1 rows)
known_behind trees [] all = tt
known_behind trees (row ∷ []) all = tt
known_behind trees (row ∷ above ∷ rows) all = (all.1.1, all.1.3)

known-grows : (a b : List Tree) (rows : List (List ℕ)) → Grows a b → AreKnown a rows → AreKnown b rows
known-grows a b [] g all = tt
known-grows a b (row ∷ rows) g all = pyramid-grows a b (row ∷ rows) g all

pub known_above : (a b : List Tree) (before behind : List (Vec ℕ Global)) → Grows a b → AreKnown a (rows_of before) → behind ≡ drop 1 before → AreKnown b (rows_of behind)
known_above a b before behind g all is =
    let items = λ (row : Vec ℕ Global). row.items in
    known-grows a b (rows_of behind) g (subst (AreKnown a) (drop-map items 1 before ∙ ap rows_of (sym is)) (known_behind a (rows_of before) all))

pub known_last : (trees : List Tree) (rows : List (List ℕ)) → IsLast trees rows → AreKnown trees rows
known_last trees [] last = tt
known_last trees (row ∷ rows) last = last.0

-- as many of the next row are the same
pub next_front : (n count : ℕ) (above first known : List ℕ) → known ≡ take n first → count ≡ length known → take (length known) above ≡ known → take count above ≡ take count first
next_front n count above first known is counted same =
    ap (λ m. take m above) counted
    ∙ same
    ∙ sym (ap (λ m. take m first) (counted ∙ ap length is ∙ length-take n first) ∙ take_min n first ∙ sym is)

-- ---- how many are the same

pub front_first : (gaps : List Gap) (d : Gap) (old row : List ℕ) → 0 < length gaps → DifferIn gaps old row
    → ((get_or gaps 0 d).kept ≤ length row) × (take (get_or gaps 0 d).kept row ≡ take (get_or gaps 0 d).kept old)
front_first [] d old row some differ = absurd (omega arith)
front_first (gap ∷ gaps) d old row some differ = let there = differ.1 in (omega arith, differ.2)

pub front_all : (gaps : List Gap) (all : ℕ) (old row : List ℕ) → length gaps ≡ 0 → length old ≡ all → DifferIn gaps old row → (all ≤ length row) × (take all row ≡ take all old)
front_all [] all old row none counted differ = let same = ap length differ in (omega arith, ap (take all) differ)
front_all (gap ∷ gaps) all old row none counted differ = absurd (omega arith)
