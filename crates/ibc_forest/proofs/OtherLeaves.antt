-- Other leaves at places of a tree, and what puts back what they replaced.
use Rattle.std.proofs.Common.{◌≡◌, ℕ, ◌+◌, ◌-◌, ◌*◌, ◌/◌, ◌<◌, ◌≤◌, List, [], ◌∷◌, ◌++◌, length, get_or, set, take, drop, refl, sym, ap, ap₂, ◌∙◌, subst, arith, inl, inr, Vec, length-drop, take-append-drop}
use Rattle.std.proofs.Math.Seq.{take-add}
use Rattle.std.proofs.lemmas.Bool.{cases_eq}
use Rattle.std.proofs.lemmas.Nat.{div-add-mod', mul-le}
use Rattle.std.proofs.lemmas.List.{drop_more, drop_all, drop-drop, drop-set-lt, get_or-drop, length-map, length-set, length-take-le, set-get_or, set-set, take_more, take_more_set, take_rest}
use Rattle.std.proofs.lemmas.List.Elements.{All-head, All-tail, All-weaker}
use Rattle.std.specs.declared.alloc.Global.{Global}
use Rattle.ibc_ids.specs.Texts.{Text}
use Rattle.ibc_merkle.specs.Tree.{Pairs, Tree}
use Rattle.ibc_merkle.proofs.Sorted.{AreRising}
use Rattle.ibc_forest.specs.Gaps.{DifferIn, HasFirst}
use Rattle.ibc_forest.specs.Leaves.{row_pairs, AreLeaves, count_new, differ_count}
use Rattle.ibc_forest.specs.Levels.{leaf_of, tree_at}
use Rattle.ibc_forest.specs.Nodes.{Grows}
use Rattle.ibc_forest.specs.NodeLevels.{with_replaced, rows_of}
use Rattle.ibc_forest.specs.Replacements.{AreReplaced, come_count, with_leaves, FitIn, HasReplaced, nodes_at, put_back}
use Rattle.ibc_forest.specs.declared.gap.Gap.{Gap}
use Rattle.ibc_forest.specs.declared.replacement.NotedPath.{NotedPath}
use Rattle.ibc_forest.specs.declared.replacement.Replacement.{Replacement}
use Rattle.ibc_forest.proofs.Finding.{Passed}
use Rattle.ibc_forest.proofs.FirstLeaves.{first_more}
use Rattle.ibc_forest.proofs.LeafRows.{unlike_not, unlike_most}
use Rattle.ibc_forest.proofs.OverGaps.{opened, Whole, whole}
use Rattle.ibc_forest.proofs.Pairing.{grows_longer}

abbrev IsReplaced : Gap → Type 0
IsReplaced gap = gap.gone ≡ gap.come

get_or-drop_first : (xs : List ℕ) (i : ℕ) → get_or (drop i xs) 0 0 ≡ get_or xs i 0
get_or-drop_first xs i = get_or-drop i xs 0 0 ∙ ap (λ n. get_or xs n 0) (let e : i + 0 ≡ i = omega arith in e)

pub with_pushed : (row : List ℕ) (others : List Replacement) (other : Replacement) → with_leaves row (others ++ other ∷ []) ≡ set (with_leaves row others) other.place other.leaf
with_pushed row [] other = refl
with_pushed row (first ∷ others) other = with_pushed (set row first.place first.leaf) others other

pub length-with : (row : List ℕ) (others : List Replacement) → length (with_leaves row others) ≡ length row
length-with row [] = refl
length-with row (other ∷ others) = length-with (set row other.place other.leaf) others ∙ length-set row other.place other.leaf

pub with_next : (row : List ℕ) (others : List Replacement) (i : ℕ) (d : Replacement) → i < length others
    → with_leaves row (drop i others) ≡ with_leaves (set row (get_or others i d).place (get_or others i d).leaf) (drop (i + 1) others)
with_next row others i d l = ap (with_leaves row) (drop_more others i d l)

pub with_end : (row : List ℕ) (others : List Replacement) (i : ℕ) → length others ≤ i → with_leaves row (drop i others) ≡ row
with_end row others i past = ap (with_leaves row) (drop_all i others past)

pub fit-grows : (count : ℕ) (before after : List Tree) (others : List Replacement) → Grows before after → FitIn count before others → FitIn count after others
fit-grows count before after others g fit =
    let longer = grows_longer before after g in
    All-weaker (λ (other : Replacement). (other.place < count) × (other.leaf < length before)) (λ (other : Replacement). (other.place < count) × (other.leaf < length after))
    (λ other is. (is.0, let l = is.1 in omega arith)) others fit

-- ---- one leaf more

replaced_rest : (row now : List ℕ) (from more : ℕ) → drop from now ≡ drop from row → drop (from + more) now ≡ drop (from + more) row
replaced_rest row now from more same = sym (drop-drop more from now) ∙ ap (drop more) same ∙ drop-drop more from row

pub replaced_more : (before after : List Tree) (pairs : Pairs) (old : List ℕ) (others next : List Replacement) (i leaf : ℕ) (pair : Text × Text) → HasReplaced before pairs old others i → Grows before after
    → i < length pairs → i < length old → pair ≡ get_or pairs i pair → tree_at after leaf ≡ leaf_of pair → leaf < length after
    → with_leaves old next ≡ set (with_leaves old others) i leaf
    → ((trees : List Tree) → leaf < length trees → FitIn (length old) trees others → FitIn (length old) trees next) → HasReplaced after pairs old next (i + 1)
replaced_more before after pairs old others next i leaf pair has g l within is its there put fits =
    let now : List ℕ = with_leaves old others in
    let counted : length now ≡ length old = length-with old others in
    let front : length (take i now) ≡ i = length-take-le i now (omega arith) in
    record {
      first =
          subst (HasFirst after pairs) (sym (ap (take (i + 1)) put ∙ take_more_set now i leaf (omega arith)))
          (first_more before after pairs (take i now) leaf pair has.first g (omega arith) (is ∙ ap (λ n. get_or pairs n pair) (sym front)) its there);
      rest = ap (drop (i + 1)) put ∙ drop-set-lt (i + 1) now i leaf (omega arith) ∙ replaced_rest old now i 1 has.rest;
      fit = fits after there (fit-grows (length old) before after others g has.fit);
    }

-- ---- from gap to gap

pub record OpenedHere (trees : List Tree) (last entries : Pairs) (old : List ℕ) (others : List Replacement) (gaps : List Gap) (i from : ℕ) (gap : Gap) : Type 0 where
  pub there : from + (gap.kept + gap.come) ≤ length old
  pub within : from + (gap.kept + gap.come) ≤ length entries
  pub replaced : HasReplaced trees entries old others (from + gap.kept)
  pub past : Passed last entries from from gap.kept
  pub next : DifferIn (drop (i + 1) gaps) (drop (from + (gap.kept + gap.come)) last) (drop (from + (gap.kept + gap.come)) entries)

pub opened_here : (trees : List Tree) (last entries : Pairs) (old : List ℕ) (others : List Replacement) (gaps : List Gap) (i from : ℕ) (d : Gap) → AreLeaves trees old
    → row_pairs trees old ≡ last → AreRising last → AreRising entries → HasReplaced trees entries old others from → from ≤ length old → i < length gaps
    → DifferIn (drop i gaps) (drop from last) (drop from entries) → (get_or gaps i d).gone ≡ (get_or gaps i d).come → OpenedHere trees last entries old others gaps i from (get_or gaps i d)
opened_here trees last entries old others gaps i from d leaves held last_rises rises has there l differ replaced =
    let gap : Gap = get_or gaps i d in
    let now : List ℕ = with_leaves old others in
    let row : List ℕ = take from now in
    let all : length now ≡ length old = length-with old others in
    let counted : length row ≡ from = length-take-le from now (omega arith) in
    let its = opened trees last entries old row gaps i from d leaves held last_rises rises has.first there l
    (subst (λ n. DifferIn (drop i gaps) (drop from last) (drop n entries)) (sym counted) differ)
    in
    let old_there = its.there in
    let new_within = its.within in
    let kept : row ++ take gap.kept (drop from old) ≡ take (from + gap.kept) now =
    ap (λ (rest : List ℕ). row ++ take gap.kept rest) (sym has.rest) ∙ sym (take-add from gap.kept now)
    in
    record {
      there = omega arith;
      within = omega arith;
      replaced = record { first = subst (HasFirst trees entries) kept its.first; rest = replaced_rest old now from gap.kept has.rest; fit = has.fit };
      past = subst (λ n. Passed last entries from n gap.kept) counted its.past;
      next =
          subst (λ n. DifferIn (drop (i + 1) gaps) (drop (from + (gap.kept + n)) last) (drop (from + (gap.kept + gap.come)) entries)) replaced
          (subst (λ n. DifferIn (drop (i + 1) gaps) (drop (from + (gap.kept + gap.gone)) last) (drop (n + (gap.kept + gap.come)) entries)) counted its.next);
    }

pub whole_here : (trees : List Tree) (last entries : Pairs) (old : List ℕ) (others : List Replacement) (gaps : List Gap) (i from : ℕ) → AreLeaves trees old → row_pairs trees old ≡ last
    → HasReplaced trees entries old others from → from ≤ length old → length gaps ≤ i → DifferIn (drop i gaps) (drop from last) (drop from entries)
    → Whole trees last entries old (take from (with_leaves old others)) (with_leaves old others) × (count_new last (drop from entries) ≡ 0)
whole_here trees last entries old others gaps i from leaves held has there past differ =
    let now : List ℕ = with_leaves old others in
    let row : List ℕ = take from now in
    let all : length now ≡ length old = length-with old others in
    let counted : length row ≡ from = length-take-le from now (omega arith) in
    let items : now ≡ row ++ take (length old - from) (drop from old) =
    sym (take-append-drop from now) ∙ ap (λ (rest : List ℕ). row ++ rest) (has.rest ∙ sym (take_rest old from))
    in
    let its = whole trees last entries old row now gaps i from leaves held has.first there past (subst (λ n. DifferIn (drop i gaps) (drop from last) (drop n entries)) (sym counted) differ) items in
    (its, ap (λ n. count_new last (drop n entries)) (sym counted) ∙ its.none)

pub come_next : (gaps : List Gap) (i : ℕ) (d : Gap) → i < length gaps → come_count (drop i gaps) ≡ (get_or gaps i d).come + come_count (drop (i + 1) gaps)
come_next gaps i d l = ap come_count (drop_more gaps i d l)

-- ---- what is put back

replaced_same : (rows : List (List ℕ)) (index : ℕ) → with_replaced rows index (nodes_at rows index) ≡ rows
replaced_same [] index = refl
replaced_same (row ∷ rows) index = ap₂ (λ (row : List ℕ) (rows : List (List ℕ)). row ∷ rows) (set-get_or row index 0) (replaced_same rows (index / 2))

replaced_back : (rows : List (List ℕ)) (index : ℕ) (nodes : List ℕ) → with_replaced (with_replaced rows index nodes) index (nodes_at rows index) ≡ rows
replaced_back [] index nodes = refl
replaced_back (row ∷ rows) index [] = replaced_same (row ∷ rows) index
replaced_back (row ∷ rows) index (node ∷ nodes) =
    ap₂ (λ (row : List ℕ) (rows : List (List ℕ)). row ∷ rows) (set-set row index node (get_or row index 0) ∙ set-get_or row index 0) (replaced_back rows (index / 2) nodes)

pub length-nodes_at : (rows : List (List ℕ)) (index : ℕ) → length (nodes_at rows index) ≡ length rows
length-nodes_at [] index = refl
length-nodes_at (row ∷ rows) index = let rest = length-nodes_at rows (index / 2) in omega arith

put_back_pushed : (noted : List NotedPath) (path : NotedPath) (rows : List (List ℕ)) → put_back (noted ++ path ∷ []) rows ≡ put_back noted (with_replaced rows path.place path.nodes.items)
put_back_pushed [] path rows = refl
put_back_pushed (first ∷ noted) path rows = ap (λ (rows : List (List ℕ)). with_replaced rows first.place first.nodes.items) (put_back_pushed noted path rows)

pub noted_back : (noted after : List NotedPath) (path : NotedPath) (before rows : List (List ℕ)) (index : ℕ) (nodes : List ℕ) → after ≡ noted ++ path ∷ [] → rows ≡ with_replaced before index nodes
    → path.place ≡ index → path.nodes.items ≡ nodes_at before index → put_back after rows ≡ put_back noted before
noted_back noted after path before rows index nodes pushed is place was =
    ap₂ put_back pushed is
    ∙ put_back_pushed noted path (with_replaced before index nodes)
    ∙ ap (put_back noted) (ap₂ (with_replaced (with_replaced before index nodes)) place was ∙ replaced_back before index nodes)

pub put_back_one : (noted : List NotedPath) (i : ℕ) (path : NotedPath) (before rows : List (List ℕ)) → i < length noted → path ≡ get_or noted i path
    → rows ≡ with_replaced before path.place path.nodes.items → put_back (take (i + 1) noted) before ≡ put_back (take i noted) rows
put_back_one noted i path before rows l is put =
    ap (λ (paths : List NotedPath). put_back paths before) (take_more noted i path l ∙ ap (λ (p : NotedPath). take i noted ++ p ∷ []) (sym is)) ∙ put_back_pushed (take i noted) path before ∙ ap (put_back (take i noted)) (sym put)

-- ---- how many texts

pub most_texts : (n above : ℕ) → 0 < above → ((n - 1) / above) * above ≤ n - 1
most_texts n above some = let all = div-add-mod' (n - 1) above in omega arith

pub few_times : (count most above n : ℕ) → count ≤ most → most * above ≤ n - 1 → count * above ≤ n - 1
few_times count most above n few all = let more = mul-le count above most above few (omega arith) in omega arith

pub replaced_texts : (new before middle after others come above n : ℕ) → middle ≤ before + 2 * new → after ≤ middle + others * above → others ≤ come → come * above ≤ n - 1 → 0 < n
    → after + 1 ≤ before + 2 * new + n
replaced_texts new before middle after others come above n leaves rows few all some = let more = few_times others come above n few all in omega arith

-- ---- one place

-- what stands there behind the others stands there now
pub place_rest : (row : List ℕ) (others : List Replacement) (i : ℕ) → drop i (with_leaves row others) ≡ drop i row → get_or (with_leaves row others) i 0 ≡ get_or row i 0
place_rest row others i rest = sym (get_or-drop_first (with_leaves row others) i) ∙ ap (λ (xs : List ℕ). get_or xs 0 0) rest ∙ get_or-drop_first row i

pub new_or_kept : (leaf old new : ℕ) → (new ≡ 0 → leaf ≡ old) → differ_count leaf old ≤ new
new_or_kept leaf old new kept =
    elim (cases_eq new 0) [
      | inl none ↦ let zero = unlike_not leaf old (kept none) in omega arith
      | inr some ↦ let most = unlike_most leaf old in omega arith
    ]

pub one_long : (path : NotedPath) (rows : List (Vec ℕ Global)) (index : ℕ) → path.nodes.items ≡ nodes_at (rows_of rows) index → length path.nodes.items ≡ length rows
one_long path rows index was = ap length was ∙ length-nodes_at (rows_of rows) index ∙ length-map rows (λ (row : Vec ℕ Global). row.items)

-- as many pairs as before
pub replaced_length : (gaps : List Gap) (last pairs : Pairs) → AreReplaced gaps → DifferIn gaps last pairs → length pairs ≡ length last
replaced_length [] last pairs each differ = ap length differ
replaced_length (gap ∷ gaps) last pairs each differ =
    let rest = replaced_length gaps (drop (gap.kept + gap.gone) last) (drop (gap.kept + gap.come) pairs) (All-tail IsReplaced gap gaps each) differ.3 in
    let a = length-drop (gap.kept + gap.gone) last in
    let b = length-drop (gap.kept + gap.come) pairs in
    let these = differ.0 in
    let those = differ.1 in
    let here : gap.gone ≡ gap.come = All-head IsReplaced gap gaps each in
    omega arith
