-- What of a map stayed since it was settled.
use Rattle.std.specs.Prelude.{◌≡◌, ℕ, ◌+◌, ◌-◌, ◌<◌, ◌≤◌, cond, nat_lt, nat_le, Option, Some, None, ⊤}
use Rattle.std.specs.Prelude.{List, [], ◌∷◌, ◌++◌, length, take, drop, slice_set, slice_index_or}
use Rattle.ibc_merkle.specs.Tree.{Pairs}
use Rattle.ibc_forest.specs.Gaps.{DifferIn}
use Rattle.ibc_forest.specs.declared.gap.Gap.{Gap}
use Rattle.ibc_path_store.specs.StoreModel.{PathMapModel}

-- the pairs are the last ones but in the gaps, if these are known
abbrev pub Shares : Option (List Gap) → Pairs → Pairs → Type 0
Shares None last pairs = ⊤
Shares (Some gaps) last pairs = DifferIn gaps last pairs

-- at a place so many pairs are replaced by so many others
pub record IsReplaced (pairs after : Pairs) (index gone come : ℕ) : Type 0 where
  pub there : index + gone ≤ length pairs
  pub counted : index + come ≤ length after
  pub front : take index after ≡ take index pairs
  pub back : drop (index + come) after ≡ drop (index + gone) pairs

abbrev pub no_gap : Gap
no_gap = record { kept = 0; gone = 0; come = 0 }

-- how many pairs stand in these gaps and in front of them
abbrev pub standing : List Gap → ℕ
standing [] = 0
standing (gap ∷ gaps) = gap.kept + gap.come + standing gaps

-- so many gaps are the first ones, and so many pairs stand in them and in front of them
pub record IsMark (gaps : List Gap) (number before : ℕ) : Type 0 where
  pub there : number ≤ length gaps
  pub counted : standing (take number gaps) ≡ before

-- in front of the first gap stay so many fewer
abbrev pub with_shorter_front : List Gap → ℕ → List Gap
with_shorter_front [] fewer = []
with_shorter_front (gap ∷ gaps) fewer = record gap { kept = gap.kept - fewer } ∷ gaps

-- the gaps where at a place so many pairs are replaced by so many others: in a gap of their own, or in one that is there
abbrev pub with_replacement : List Gap → ℕ → ℕ → ℕ → List Gap
with_replacement [] index gone come = record { kept = index; gone = gone; come = come } ∷ []
with_replacement (gap ∷ gaps) index gone come =
    cond (nat_lt index gap.kept) (record { kept = index; gone = gone; come = come } ∷ with_shorter_front (gap ∷ gaps) (index + gone))
    (cond (nat_le (index - gap.kept + gone) gap.come) (record gap { come = gap.come - gone + come } ∷ gaps) (gap ∷ with_replacement gaps (index - gap.kept - gap.come) gone come))

-- the pairs that a map shares with last ones it goes on sharing
abbrev pub KeepsShared : PathMapModel → PathMapModel → Type 0
KeepsShared before after = (last : Pairs) → Shares before.touched last before.pairs → Shares after.touched last after.pairs

-- what is shared with last pairs is so too where at a place so many pairs are replaced by so many others
abbrev pub FollowsReplacement : Option (List Gap) → Option (List Gap) → ℕ → ℕ → ℕ → Type 0
FollowsReplacement before after index gone come =
    (last pairs new : Pairs) → Shares before last pairs → IsReplaced pairs new index gone come → Shares after last new

-- the gaps with a replacement behind so many first ones, which stay
abbrev pub with_replacement_behind : List Gap → ℕ → ℕ → ℕ → ℕ → List Gap
with_replacement_behind gaps number index gone come = take number gaps ++ with_replacement (drop number gaps) index gone come

-- a replacement at a place is one behind so many first gaps, at a place that is counted from there
abbrev pub PassesGaps : List Gap → ℕ → ℕ → ℕ → Type 0
PassesGaps gaps index number rest =
    (gone come : ℕ) → with_replacement gaps index gone come ≡ with_replacement_behind gaps number rest gone come

-- so is one in which so many pairs are gone
abbrev pub PassesGapsFor : ℕ → List Gap → ℕ → ℕ → ℕ → Type 0
PassesGapsFor gone gaps index number rest =
    (come : ℕ) → with_replacement gaps index gone come ≡ with_replacement_behind gaps number rest gone come

-- where a gap isn't behind the place, it has the pairs there that are gone
abbrev pub LiesInGap : List Gap → ℕ → ℕ → ℕ → Type 0
LiesInGap gaps number before gone =
    let gap = slice_index_or gaps number no_gap in
    number < length gaps → gap.kept ≤ before → before - gap.kept + gone ≤ gap.come

-- of the pairs of a gap so many are replaced by so many others
abbrev pub Widens : List Gap → List Gap → ℕ → ℕ → ℕ → Type 0
Widens before after number gone come =
    let gap = slice_index_or before number no_gap in
    after ≡ slice_set before number (record gap { come = gap.come - gone + come })

-- a gap with what stays in front of it has room in front of another
abbrev pub FitsInFront : List Gap → ℕ → Gap → Type 0
FitsInFront gaps number gap = number < length gaps → gap.kept + gap.gone ≤ (slice_index_or gaps number no_gap).kept

-- in front of a gap stay fewer pairs: those that another gap takes
abbrev pub Shrinks : List Gap → List Gap → ℕ → Gap → Type 0
Shrinks before after number gap = after ≡ take number before ++ with_shorter_front (drop number before) (gap.kept + gap.gone)

-- a gap is put in front of another
abbrev pub PutsGap : List Gap → List Gap → ℕ → Gap → Type 0
PutsGap before after number gap = after ≡ take number before ++ gap ∷ with_shorter_front (drop number before) (gap.kept + gap.gone)

-- there is a replacement behind so many first gaps, which stay
abbrev pub ReplacesBehind : List Gap → List Gap → ℕ → ℕ → ℕ → ℕ → Type 0
ReplacesBehind before after number index gone come = after ≡ with_replacement_behind before number index gone come
