-- How a block is found by its height among what a history tells.
use Rattle.std.proofs.Common.{◌≡◌, ◌∙◌, ◌⊎◌, ◌+◌, ◌-◌, ◌<◌, ◌≤◌, ℕ, zero, suc, Bool, true, false, List, [], ◌∷◌, Option, None, Some, ap, arith, get_or, inl, inr, length, map, nat_lt, option_map, refl, slice_get, sym, take, le-ltb, lt-ltb}
use Rattle.std.proofs.lemmas.List.{length-map}
use Rattle.std.proofs.lemmas.Option.{none-some, slice_get-map, slice_get_past, slice_get_read, slice_get_within}
use Rattle.ibc_machine.specs.ledger.Replay.{StampedEntry}
use Rattle.ibc_ledger.specs.LedgerModel.{abstract_entry}
use Rattle.ibc_ledger.specs.declared.entry.StampedEntry.{StampedEntry as KeptEntry}
use Rattle.ibc_script_cli.specs.declared.chains.CommittedBlock.{CommittedBlock}
use Rattle.ibc_script_worlds.specs.declared.blocks.EndedBlock.{EndedBlock}
use Rattle.ibc_script_worlds.specs.EndedBlocks.{AreCountedFrom, EndNoneIn, EndsAt, IsInside, IsLastIn, IsPlaceOf, blocks_told, ended_by, ends_of, kept_told, time_after, told_at}

abbrev pub Ends : Type 0
Ends = List (Option EndedBlock)

not_there : (block : EndedBlock) → ◌≡◌ {A = Option (Option EndedBlock)} (Some None) (Some (Some block)) → ⊥
not_there block is = absurd cc

same_end : (a b : EndedBlock) → ◌≡◌ {A = Option (Option EndedBlock)} (Some (Some a)) (Some (Some b)) → a ≡ b
same_end a b is = cc

-- ---- places in a part

taken_from : {A : Type 0} (xs : List A) (n i : ℕ) (x : A) → slice_get (take n xs) i ≡ Some x → (i < n) × (slice_get xs i ≡ Some x)
taken_from xs zero i x at = absurd (none-some x at)
taken_from [] (suc n) i x at = absurd (none-some x at)
taken_from (y ∷ ys) (suc n) zero x at = (omega arith, at)
taken_from (y ∷ ys) (suc n) (suc i) x at =
    let rest = taken_from ys n i x at in
    let less = rest.0 in
    (omega (arith, less), rest.1)

still_there : {A : Type 0} (xs : List A) (n i : ℕ) (x : A) → i < n → slice_get xs i ≡ Some x → slice_get (take n xs) i ≡ Some x
still_there xs zero i x less at = absurd (omega (arith, less))
still_there [] (suc n) i x less at = absurd (none-some x at)
still_there (y ∷ ys) (suc n) zero x less at = at
still_there (y ∷ ys) (suc n) (suc i) x less at = still_there ys n i x (omega (arith, less)) at

-- ---- heights

-- each height is at least the first
low_height : (n : ℕ) (ends : Ends) → AreCountedFrom n ends → (i : ℕ) (block : EndedBlock) → EndsAt ends i block → n ≤ block.height
low_height n [] counted i block at = absurd (none-some (Some block) at)
low_height n (None ∷ ends) counted zero block at = absurd (not_there block at)
low_height n (None ∷ ends) counted (suc i) block at = low_height n ends counted i block at
low_height n (Some first ∷ ends) counted zero block at =
    let here : block.height ≡ n = ap (λ (b : EndedBlock). b.height) (sym (same_end first block at)) ∙ counted.0 in
    omega (arith, here)
low_height n (Some first ∷ ends) counted (suc i) block at =
    let more = low_height (n + 1) ends counted.1 i block at in
    omega (arith, more)

pub rising : (n : ℕ) (ends : Ends) → AreCountedFrom n ends → (i j : ℕ) (a b : EndedBlock) → i < j → EndsAt ends i a → EndsAt ends j b → a.height < b.height
rising n [] counted i j a b less at_i at_j = absurd (none-some (Some a) at_i)
rising n (None ∷ ends) counted zero j a b less at_i at_j = absurd (not_there a at_i)
rising n (None ∷ ends) counted (suc i) zero a b less at_i at_j = absurd (omega (arith, less))
rising n (None ∷ ends) counted (suc i) (suc j) a b less at_i at_j = rising n ends counted i j a b (omega (arith, less)) at_i at_j
rising n (Some first ∷ ends) counted zero zero a b less at_i at_j = absurd (omega (arith, less))
rising n (Some first ∷ ends) counted zero (suc j) a b less at_i at_j =
    let here : a.height ≡ n = ap (λ (c : EndedBlock). c.height) (sym (same_end first a at_i)) ∙ counted.0 in
    let more = low_height (n + 1) ends counted.1 j b at_j in
    omega (arith, here, more)
rising n (Some first ∷ ends) counted (suc i) zero a b less at_i at_j = absurd (omega (arith, less))
rising n (Some first ∷ ends) counted (suc i) (suc j) a b less at_i at_j = rising (n + 1) ends counted.1 i j a b (omega (arith, less)) at_i at_j

-- ---- what stands at a height

abbrev pub StandsAt : ℕ → Ends → ℕ → ℕ → EndedBlock → Type 0
StandsAt time ends i k block = slice_get (blocks_told time ends) k ≡ Some (record { root = block.root; time = time_after time (take i ends) })

at_place : (n time : ℕ) (ends : Ends) → AreCountedFrom n ends → (i : ℕ) (block : EndedBlock) → EndsAt ends i block
    → (k : ℕ) × (block.height ≡ n + k) × StandsAt time ends i k block
at_place n time [] counted i block at = absurd (none-some (Some block) at)
at_place n time (None ∷ ends) counted zero block at = absurd (not_there block at)
at_place n time (None ∷ ends) counted (suc i) block at = at_place n time ends counted i block at
at_place n time (Some first ∷ ends) counted zero block at =
    let same = same_end first block at in
    let here : block.height ≡ n = ap (λ (b : EndedBlock). b.height) (sym same) ∙ counted.0 in
    let told : StandsAt time (Some first ∷ ends) 0 0 block = ap (λ (b : EndedBlock). Some (record { root = b.root; time = time })) same in
    (0, omega (arith, here), told)
at_place n time (Some first ∷ ends) counted (suc i) block at =
    let more = at_place (n + 1) first.next_time ends counted.1 i block at in
    let height = more.1 in
    (suc more.0, omega (arith, height), more.2)

from_block : (n time : ℕ) (ends : Ends) → AreCountedFrom n ends → (k : ℕ) (told : CommittedBlock) → slice_get (blocks_told time ends) k ≡ Some told
    → (i : ℕ) × (block : EndedBlock) × EndsAt ends i block × (block.height ≡ n + k)
from_block n time [] counted k told at = absurd (none-some told at)
from_block n time (None ∷ ends) counted k told at =
    let there = from_block n time ends counted k told at in
    (suc there.0, there.1, there.2, there.3)
from_block n time (Some first ∷ ends) counted zero told at =
    let first_height = counted.0 in
    (0, first, refl, omega (arith, first_height))
from_block n time (Some first ∷ ends) counted (suc k) told at =
    let there = from_block (n + 1) first.next_time ends counted.1 k told at in
    let height = there.3 in
    (suc there.0, there.1, there.2, omega (arith, height))

-- ---- where none is told

no_blocks : (time : ℕ) (ends : Ends) → ((i : ℕ) (block : EndedBlock) → EndsAt ends i block → ⊥) → blocks_told time ends ≡ []
no_blocks time [] none = refl
no_blocks time (None ∷ ends) none = no_blocks time ends (λ i block at. none (suc i) block at)
no_blocks time (Some first ∷ ends) none = absurd (none 0 first refl)

same_time : (time : ℕ) (ends : Ends) → ((i : ℕ) (block : EndedBlock) → EndsAt ends i block → ⊥) → time_after time ends ≡ time
same_time time [] none = refl
same_time time (None ∷ ends) none = same_time time ends (λ i block at. none (suc i) block at)
same_time time (Some first ∷ ends) none = absurd (none 0 first refl)

-- the last block tells how many there are, and when the next one began
counts : (n time : ℕ) (ends : Ends) → AreCountedFrom n ends → (i : ℕ) (block : EndedBlock) → EndsAt ends i block
    → ((j : ℕ) (later : EndedBlock) → i < j → EndsAt ends j later → ⊥) → n + length (blocks_told time ends) ≡ block.height + 1
counts n time [] counted i block at none = absurd (none-some (Some block) at)
counts n time (None ∷ ends) counted zero block at none = absurd (not_there block at)
counts n time (None ∷ ends) counted (suc i) block at none =
    counts n time ends counted i block at (λ j later less there. none (suc j) later (omega (arith, less)) there)
counts n time (Some first ∷ ends) counted zero block at none =
    let here : block.height ≡ n = ap (λ (b : EndedBlock). b.height) (sym (same_end first block at)) ∙ counted.0 in
    let rest = ap length (no_blocks first.next_time ends (λ j later there. none (suc j) later (omega arith) there)) in
    omega (arith, here, rest)
counts n time (Some first ∷ ends) counted (suc i) block at none =
    let more = counts (n + 1) first.next_time ends counted.1 i block at (λ j later less there. none (suc j) later (omega (arith, less)) there) in
    omega (arith, more)

last_time : (time : ℕ) (ends : Ends) (i : ℕ) (block : EndedBlock) → EndsAt ends i block → ((j : ℕ) (later : EndedBlock) → i < j → EndsAt ends j later → ⊥)
    → time_after time ends ≡ block.next_time
last_time time [] i block at none = absurd (none-some (Some block) at)
last_time time (None ∷ ends) zero block at none = absurd (not_there block at)
last_time time (None ∷ ends) (suc i) block at none = last_time time ends i block at (λ j later less there. none (suc j) later (omega (arith, less)) there)
last_time time (Some first ∷ ends) zero block at none =
    same_time first.next_time ends (λ j later there. none (suc j) later (omega arith) there)
    ∙ ap (λ (b : EndedBlock). b.next_time) (same_end first block at)
last_time time (Some first ∷ ends) (suc i) block at none =
    last_time first.next_time ends i block at (λ j later less there. none (suc j) later (omega (arith, less)) there)

-- ---- entries as they are kept

pub entry_tells : (history : List KeptEntry) (i : ℕ) (entry : KeptEntry) (told : Option EndedBlock) → i < length history → entry ≡ get_or history i entry
    → told ≡ ended_by (get_or history i entry).entry → slice_get (ends_of history) i ≡ Some told
entry_tells history i entry told within read is =
    slice_get-map (λ (e : StampedEntry). ended_by e.entry) (map abstract_entry history) i
    ∙ ap (option_map (λ (e : StampedEntry). ended_by e.entry))
    (slice_get-map abstract_entry history i ∙ ap (option_map abstract_entry) (slice_get_read history (length history) i entry refl within read))
    ∙ ap Some (sym (is ∙ ap (λ (e : KeptEntry). ended_by e.entry) (sym read)))

pub as_many : (history : List KeptEntry) → length (ends_of history) ≡ length history
as_many history = length-map (map abstract_entry history) (λ (e : StampedEntry). ended_by e.entry) ∙ length-map history abstract_entry

-- ---- the last block of a part

-- of the last so many entries before a place none tells of a block
abbrev pub EndNoneBehind : Ends → ℕ → ℕ → Type 0
EndNoneBehind ends high behind = (i : ℕ) (block : EndedBlock) → high ≤ i + behind → i < high → EndsAt ends i block → ⊥

one_place : (ends : Ends) (i k : ℕ) (o : Option EndedBlock) (block : EndedBlock) → i ≡ k → slice_get ends k ≡ Some o → EndsAt ends i block → o ≡ Some block
one_place ends i k o block same here at =
    let both : Some o ≡ Some (Some block) = sym here ∙ ap (slice_get ends) (sym same) ∙ at in
    cc

before_or : (m n : ℕ) → (m < n) ⊎ (n ≤ m)
before_or zero zero = inr (omega arith)
before_or zero (suc n) = inl (omega arith)
before_or (suc m) zero = inr (omega arith)
before_or (suc m) (suc n) = elim (before_or m n) [ inl less ↦ inl (omega (arith, less)) | inr low ↦ inr (omega (arith, low)) ]

pub none_more : (ends : Ends) (high behind place : ℕ) → high ≡ place + behind + 1 → slice_get ends place ≡ Some None → EndNoneBehind ends high behind
    → EndNoneBehind ends high (behind + 1)
none_more ends high behind place long here none i block low within at =
    elim (before_or place i) [
      | inl past ↦ none i block (omega (arith, long, past)) within at
      | inr not_past ↦ absurd (none-some block (one_place ends i place None block (omega (arith, long, low, not_past)) here at))
    ]

pub last_there : (ends : Ends) (low high behind place : ℕ) (block : EndedBlock) → high ≡ place + behind + 1 → low + behind < high → EndsAt ends place block
    → EndNoneBehind ends high behind → IsLastIn ends low high (Some (place, block))
last_there ends low high behind place block long within at none =
    (omega (arith, long, within), omega (arith, long), at, λ i later past below there. none i later (omega (arith, long, past)) below there)

pub none_there : (ends : Ends) (low high behind : ℕ) → high - low ≤ behind → EndNoneBehind ends high behind → IsLastIn ends low high None
none_there ends low high behind all none i block from below at = none i block (omega (arith, all, from)) below at

-- ---- a step of a search

module _ (ends : Ends) (height low high middle : ℕ) where
  -- the first half tells of none
  pub none_before : IsLastIn ends low middle None → AreCountedFrom 1 ends → (i : ℕ) (block : EndedBlock) → low ≤ i → i < high → EndsAt ends i block
      → (i < middle) ⊎ (high ≤ i) → block.height ≡ height → ⊥
  none_before none counted i block from below at (inl first) is = none i block from first at
  none_before none counted i block from below at (inr past) is = omega (arith, below, past)

  -- the last block of the first half is too low
  pub too_low : (place : ℕ) (last : EndedBlock) → IsLastIn ends low middle (Some (place, last)) → last.height < height → AreCountedFrom 1 ends
      → (i : ℕ) (block : EndedBlock) → low ≤ i → i < high → EndsAt ends i block → (i < middle) ⊎ (high ≤ i) → block.height ≡ height → ⊥
  too_low place last found less counted i block from below at (inr past) is = omega (arith, below, past)
  too_low place last found less counted i block from below at (inl first) is =
      elim (before_or i place) [
        | inl before ↦
            let under = rising 1 ends counted i place block last before at found.2 in
            omega (arith, less, is, under)
        | inr not_before ↦
            elim (before_or place i) [
              | inl past ↦ found.3 i block (omega (arith, past)) first at
              | inr not_past ↦
                  let same : last.height ≡ block.height =
                  ap (λ (b : EndedBlock). b.height) (same_some last block (one_place ends i place (Some last) block (omega (arith, not_before, not_past)) found.2 at)) in
                  omega (arith, less, is, same)
            ]
      ]
    where
      same_some : (a b : EndedBlock) → ◌≡◌ {A = Option EndedBlock} (Some a) (Some b) → a ≡ b
      same_some a b e = cc

  -- it is too high
  pub too_high : (place : ℕ) (last : EndedBlock) → IsLastIn ends low middle (Some (place, last)) → height < last.height → AreCountedFrom 1 ends
      → (i : ℕ) (block : EndedBlock) → low ≤ i → i < high → EndsAt ends i block → (i < low) ⊎ (place ≤ i) → block.height ≡ height → ⊥
  too_high place last found more counted i block from below at (inl before) is = omega (arith, from, before)
  too_high place last found more counted i block from below at (inr past) is =
      elim (before_or place i) [
        | inl later ↦
            let over = rising 1 ends counted place i last block later found.2 at in
            omega (arith, more, is, over)
        | inr not_later ↦
            let same : last.height ≡ block.height =
            ap (λ (b : EndedBlock). b.height) (same_some last block (one_place ends i place (Some last) block (omega (arith, past, not_later)) found.2 at)) in
            omega (arith, more, is, same)
      ]
    where
      same_some : (a b : EndedBlock) → ◌≡◌ {A = Option EndedBlock} (Some a) (Some b) → a ≡ b
      same_some a b e = cc

-- ---- a search

pub all_inside : (ends : Ends) (limit height : ℕ) → IsInside ends limit height 0 limit
all_inside ends limit height i block within at (inl before) is = omega (arith, before)
all_inside ends limit height i block within at (inr past) is = omega (arith, within, past)

-- a part of a part
pub inside_part : (ends : Ends) (limit height low high low' high' : ℕ) → IsInside ends limit height low high
    → ((i : ℕ) (block : EndedBlock) → low ≤ i → i < high → EndsAt ends i block → (i < low') ⊎ (high' ≤ i) → block.height ≡ height → ⊥)
    → IsInside ends limit height low' high'
inside_part ends limit height low high low' high' inside narrowed i block within at outside is =
    elim (before_or i low) [
      | inl before ↦ inside i block within at (inl before) is
      | inr from ↦
          elim (before_or i high) [
            | inl below ↦ narrowed i block from below at outside is
            | inr past ↦ inside i block within at (inr past) is
          ]
    ]

pub nothing_inside : (ends : Ends) (limit height low high : ℕ) → high ≤ low → IsInside ends limit height low high → IsPlaceOf ends limit height None
nothing_inside ends limit height low high order inside i block within at is =
    elim (before_or i low) [
      | inl before ↦ inside i block within at (inl before) is
      | inr from ↦ inside i block within at (inr (omega (arith, order, from))) is
    ]

-- ---- what is answered

pub time_of_last : (time place : ℕ) (ends : Ends) (before : EndedBlock) (i : ℕ) → IsLastIn ends 0 place (Some (i, before)) → before.next_time ≡ time_after time (take place ends)
time_of_last time place ends before i last =
    sym (last_time time (take place ends) i before (still_there ends place i (Some before) last.1 last.2)
    (λ j later less there.
    let from = taken_from ends place j (Some later) there in
    last.3 j later (omega (arith, less)) from.0 from.1))

pub time_of_none : (time place : ℕ) (ends : Ends) → IsLastIn ends 0 place None → time ≡ time_after time (take place ends)
time_of_none time place ends none =
    sym (same_time time (take place ends)
    (λ j later there.
    let from = taken_from ends place j (Some later) there in
    none j later (omega arith) from.0 from.1))

-- a block that was found is that of its height
pub found_block : (start height : ℕ) (ends : Ends) (place : ℕ) (block : EndedBlock) (time : ℕ) → AreCountedFrom 1 ends → EndsAt ends place block → block.height ≡ height
    → time ≡ time_after start (take place ends) → ◌≡◌ {A = Option CommittedBlock} (Some (record { root = block.root; time = time })) (told_at height (blocks_told start ends))
found_block start height ends place block time counted at is began =
    let there = at_place 1 start ends counted place block at in
    let suc_height : height ≡ suc there.0 =
    let far = there.1 in
    omega (arith, is, far) in
    ap (λ (t : ℕ). Some (record { root = block.root; time = t })) began ∙ sym there.2 ∙ ap (λ (h : ℕ). told_at h (blocks_told start ends)) (sym suc_height)

none_told : (o : Option CommittedBlock) → ((told : CommittedBlock) → o ≡ Some told → ⊥) → None ≡ o
none_told None not = refl
none_told (Some told) not = absurd (not told refl)

-- a height that no entry tells of has no block
pub no_block : (start height limit : ℕ) (ends : Ends) → AreCountedFrom 1 ends → IsPlaceOf ends limit height None → EndNoneIn ends limit (length ends)
    → None ≡ told_at height (blocks_told start ends)
no_block start zero limit ends counted none behind = refl
no_block start (suc k) limit ends counted none behind =
    none_told (slice_get (blocks_told start ends) k) (λ told at.
    let there = from_block 1 start ends counted k told at in
    let far = there.3 in
    let is : there.1.height ≡ suc k = omega (arith, far) in
    elim (before_or there.0 limit) as (λ _. ⊥) [
      | inl within ↦ none there.0 there.1 within there.2 is
      | inr past ↦ behind there.0 there.1 past (slice_get_within ends there.0 (Some there.1) there.2) there.2
    ])

-- ---- the window

pub nothing_kept : (start window height : ℕ) (ends : Ends) → IsLastIn ends 0 (length ends) None → None ≡ kept_told window height (blocks_told start ends)
nothing_kept start window height ends none =
    let empty : blocks_told start ends ≡ [] = no_blocks start ends (λ i block at. none i block (omega arith) (slice_get_within ends i (Some block) at) at) in
    nothing height ∙ ap (kept_told window height) (sym empty)
  where
    at_none : (h : ℕ) → told_at h [] ≡ None
    at_none zero = refl
    at_none (suc k) = refl

    either : (b : Bool) (o : Option CommittedBlock) → o ≡ None → None ≡ elim b as (λ _. Option CommittedBlock) [ true ↦ o | false ↦ None ]
    either true o is = sym is
    either false o is = refl

    nothing : (h : ℕ) → None ≡ kept_told window h []
    nothing h = either (nat_lt (0 - window) h) (told_at h []) (at_none h)

module _ (start window height : ℕ) (ends : Ends) (place : ℕ) (last : EndedBlock) (is : IsLastIn ends 0 (length ends) (Some (place, last))) where
  how_many : AreCountedFrom 1 ends → length (blocks_told start ends) ≡ last.height
  how_many counted =
      let all = counts 1 start ends counted place last is.2
      (λ j later less there. is.3 j later (omega (arith, less)) (slice_get_within ends j (Some later) there) there) in
      omega (arith, all)

  pub passed_height : AreCountedFrom 1 ends → height ≤ last.height - window → None ≡ kept_told window height (blocks_told start ends)
  passed_height counted passed =
      let many = how_many counted in
      let low : nat_lt (length (blocks_told start ends) - window) height ≡ false = le-ltb (length (blocks_told start ends) - window) height (omega (arith, many, passed)) in
      sym (ap (λ (b : Bool). elim b as (λ _. Option CommittedBlock) [ true ↦ told_at height (blocks_told start ends) | false ↦ None ]) low)

  past_all : (h : ℕ) → length (blocks_told start ends) < h → told_at h (blocks_told start ends) ≡ None
  past_all zero past = refl
  past_all (suc k) past = slice_get_past (blocks_told start ends) k (omega (arith, past))

  pub future_height : AreCountedFrom 1 ends → last.height - window < height → last.height < height → None ≡ kept_told window height (blocks_told start ends)
  future_height counted kept future =
      let many = how_many counted in
      let high : nat_lt (length (blocks_told start ends) - window) height ≡ true = lt-ltb (length (blocks_told start ends) - window) height (omega (arith, many, kept)) in
      sym (ap (λ (b : Bool). elim b as (λ _. Option CommittedBlock) [ true ↦ told_at height (blocks_told start ends) | false ↦ None ]) high
      ∙ past_all height (omega (arith, many, future)))

  pub kept_height : (found : Option CommittedBlock) → AreCountedFrom 1 ends → last.height - window < height → found ≡ told_at height (blocks_told start ends)
      → found ≡ kept_told window height (blocks_told start ends)
  kept_height found counted kept same =
      let many = how_many counted in
      let high : nat_lt (length (blocks_told start ends) - window) height ≡ true = lt-ltb (length (blocks_told start ends) - window) height (omega (arith, many, kept)) in
      same ∙ sym (ap (λ (b : Bool). elim b as (λ _. Option CommittedBlock) [ true ↦ told_at height (blocks_told start ends) | false ↦ None ]) high)
