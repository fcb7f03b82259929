-- The entries of chains are counted while lines are placed.
use Rattle.std.proofs.Common.{◌≡◌, ℕ, zero, suc, ◌+◌, ◌<◌, ◌≤◌, Bool, true, false, refl, ap, sym, ◌∙◌, subst, List, [], ◌∷◌, ◌++◌, append_assoc, append-nil, length, replicate, Option, None, Some, ◌⊎◌, inl, inr, arith, ◌==◌, eqb-true, if◌then◌else◌, slice_get, slice_set, option_map}
use Rattle.std.specs.Prelude.{is_some}
use Rattle.std.specs.List.{range_with_len}
use Rattle.std.specs.Option.{option_map_or, unwrap_or}
use Rattle.ibc_ids.specs.Texts.{Text}
use Rattle.ibc_machine.specs.ledger.Ledgers.{Ledger}
use Rattle.ibc_explain.specs.Counts.{AllAreTold, GoesOn, IsNext}
use Rattle.ibc_explain.specs.EntryLines.{TellsEach, entries_of, fed_line, indexes_of, own_index, text_of}
use Rattle.ibc_explain.specs.declared.places.EntryPlace.{EntryPlace}
use Rattle.ibc_explain.specs.declared.places.PlacedLine.{PlacedLine}

-- of each chain as many entries as are counted have their lines, in their order
abbrev pub AreCounted : List PlacedLine → List ℕ → Type 0
AreCounted lines counts = (chain : ℕ) → indexes_of chain lines ≡ range_with_len 0 (unwrap_or (slice_get counts chain) 0)

-- ---- lists

some_is : {A : Type 0} {x y : A} {o : Option A} → o ≡ Some x → o ≡ Some y → x ≡ y
some_is e f = cc (e, f)

get-set_same : (xs : List ℕ) (k a b : ℕ) → slice_get xs k ≡ Some a → slice_get (slice_set xs k b) k ≡ Some b
get-set_same [] k a b e = absurd (cc e)
get-set_same (x ∷ xs) zero a b e = refl
get-set_same (x ∷ xs) (suc k) a b e = get-set_same xs k a b e

get-set_other : (xs : List ℕ) (k j b : ℕ) → (j ≡ k → ⊥) → slice_get (slice_set xs k b) j ≡ slice_get xs j
get-set_other [] k j b other = refl
get-set_other (x ∷ xs) zero zero b other = absurd (other refl)
get-set_other (x ∷ xs) zero (suc j) b other = refl
get-set_other (x ∷ xs) (suc k) zero b other = refl
get-set_other (x ∷ xs) (suc k) (suc j) b other = get-set_other xs k j b (λ e. other (ap suc e))

none_counted : (n chain : ℕ) → ◌≡◌ {A = ℕ} (unwrap_or (slice_get (replicate n 0) chain) 0) 0
none_counted zero chain = refl
none_counted (suc n) zero = refl
none_counted (suc n) (suc chain) = none_counted n chain

-- one more at the end of a range
range_more : (a n : ℕ) → range_with_len a (suc n) ≡ range_with_len a n ++ (a + n) ∷ []
range_more a zero = ap (λ (k : ℕ). k ∷ []) (omega arith)
range_more a (suc n) = ap (λ (l : List ℕ). a ∷ l) (range_more (a + 1) n ∙ ap (λ (k : ℕ). range_with_len (a + 1) n ++ k ∷ []) (omega arith))

-- ---- lines

pub text-more : (lines : List PlacedLine) (line : PlacedLine) → text_of (lines ++ line ∷ []) ≡ text_of lines ++ fed_line line
text-more [] line = append-nil (fed_line line)
text-more (l ∷ lines) line = ap (λ (t : Text). fed_line l ++ t) (text-more lines line) ∙ sym (append_assoc (fed_line l) (text_of lines) (fed_line line))

-- a line more is cut off a text
pub cut_more : (text : Text) (lines : List PlacedLine) (line : PlacedLine) (rest behind : Text) → text ≡ text_of lines ++ rest
    → rest ≡ line.text.now ++ 10 ∷ behind → text ≡ text_of (lines ++ line ∷ []) ++ behind
cut_more text lines line rest behind is cut =
    is
    ∙ ap (λ (t : Text). text_of lines ++ t) (cut ∙ sym (append_assoc line.text.now (10 ∷ []) behind))
    ∙ sym (append_assoc (text_of lines) (fed_line line) behind)
    ∙ ap (λ (t : Text). t ++ behind) (sym (text-more lines line))

pub cut_all : (text : Text) (lines : List PlacedLine) (rest : Text) → text ≡ text_of lines ++ rest → rest ≡ [] → text_of lines ≡ text
cut_all text lines rest is none = sym (is ∙ ap (λ (t : Text). text_of lines ++ t) none ∙ append-nil (text_of lines))

indexes-more : (chain : ℕ) (lines : List PlacedLine) (line : PlacedLine)
    → indexes_of chain (lines ++ line ∷ []) ≡ indexes_of chain lines ++ own_index chain line.place
indexes-more chain [] line = append-nil (own_index chain line.place)
indexes-more chain (l ∷ lines) line =
    ap (λ (t : List ℕ). own_index chain l.place ++ t) (indexes-more chain lines line)
    ∙ sym (append_assoc (own_index chain l.place) (indexes_of chain lines) (own_index chain line.place))

pub counted_first : (n : ℕ) → AreCounted [] (replicate n 0)
counted_first n chain = sym (ap (range_with_len 0) (none_counted n chain))

-- one more index of a chain
own_more : (indexes : List ℕ) (chain : ℕ) (place : EntryPlace) (old new : List ℕ) → indexes ≡ range_with_len 0 (unwrap_or (slice_get old chain) 0)
    → IsNext old place → new ≡ slice_set old place.chain (place.index + 1)
    → indexes ++ own_index chain (Some place) ≡ range_with_len 0 (unwrap_or (slice_get new chain) 0)
own_more indexes chain place old new was next is = go (place.chain == chain) refl
  where
    go : (b : Bool) → (place.chain == chain) ≡ b
        → indexes ++ own_index chain (Some place) ≡ range_with_len 0 (unwrap_or (slice_get new chain) 0)
    go true same =
        let one : place.chain ≡ chain = eqb-true place.chain chain same in
        let before : slice_get old chain ≡ Some place.index = subst (λ (k : ℕ). slice_get old k ≡ Some place.index) one next in
        let after : slice_get new chain ≡ Some (suc place.index) =
        ap (λ (l : List ℕ). slice_get l chain) is ∙ ap (λ (k : ℕ). slice_get (slice_set old k (place.index + 1)) chain) one
        ∙ get-set_same old chain place.index (place.index + 1) before ∙ ap (λ (k : ℕ). Some k) (omega arith) in
        ap (λ (b : Bool). indexes ++ (if b then place.index ∷ [] else [])) same
        ∙ ap (λ (l : List ℕ). l ++ place.index ∷ []) (was ∙ ap (λ (o : Option ℕ). range_with_len 0 (unwrap_or o 0)) before)
        ∙ ap (λ (k : ℕ). range_with_len 0 place.index ++ k ∷ []) (omega arith)
        ∙ sym (range_more 0 place.index)
        ∙ sym (ap (λ (o : Option ℕ). range_with_len 0 (unwrap_or o 0)) after)
    go false other =
        let apart : chain ≡ place.chain → ⊥ = λ e. absurd (cc (sym other, subst (λ (k : ℕ). (place.chain == k) ≡ true) (sym e) (self place.chain))) in
        ap (λ (b : Bool). indexes ++ (if b then place.index ∷ [] else [])) other
        ∙ append-nil indexes ∙ was
        ∙ sym (ap (λ (o : Option ℕ). range_with_len 0 (unwrap_or o 0)) (ap (λ (l : List ℕ). slice_get l chain) is ∙ get-set_other old place.chain chain (place.index + 1) apart))
      where
        self : (k : ℕ) → (k == k) ≡ true
        self k = grind arith

pub counted_more : (lines : List PlacedLine) (line : PlacedLine) (old new : List ℕ) → AreCounted lines old → GoesOn old line.place new
    → AreCounted (lines ++ line ∷ []) new
counted_more lines line old new counted on chain =
    indexes-more chain lines line ∙ by line.place on
  where
    by : (place : Option EntryPlace) → GoesOn old place new
        → indexes_of chain lines ++ own_index chain place ≡ range_with_len 0 (unwrap_or (slice_get new chain) 0)
    by None same = append-nil (indexes_of chain lines) ∙ counted chain ∙ ap (λ (l : List ℕ). range_with_len 0 (unwrap_or (slice_get l chain) 0)) (sym same)
    by (Some place) goes = own_more (indexes_of chain lines) chain place old new (counted chain) goes.0 goes.1

-- where all are counted, each entry has its line
pub counted_all : (lines : List PlacedLine) (counts : List ℕ) (ledgers : List Ledger) → AreCounted lines counts → AllAreTold ledgers counts
    → TellsEach ledgers lines
counted_all lines counts ledgers counted all chain = counted chain ∙ ap (range_with_len 0) (all chain)

-- ---- all chains

got_none : {A : Type 0} (xs : List A) (n k : ℕ) → slice_get xs n ≡ None → n ≤ k → slice_get xs k ≡ None
got_none [] n k e le = refl
got_none (x ∷ xs) zero k e le = absurd (cc e)
got_none (x ∷ xs) (suc n) zero e le = absurd (omega (arith, le))
got_none (x ∷ xs) (suc n) (suc k) e le = got_none xs n k e (omega (arith, le))

past_end : (xs : List ℕ) (k : ℕ) → length xs ≤ k → slice_get xs k ≡ None
past_end [] k le = refl
past_end (x ∷ xs) zero le = absurd (omega (arith, le))
past_end (x ∷ xs) (suc k) le = past_end xs k (omega (arith, le))

before_or : (m n : ℕ) → (m < n) ⊎ (n ≤ m)
before_or zero zero = inr (omega arith)
before_or zero (suc n) = inl (omega arith)
before_or (suc m) zero = inr (omega arith)
before_or (suc m) (suc n) = elim (before_or m n) [ inl less ↦ inl (omega arith) | inr low ↦ inr (omega arith) ]

-- those that were looked at, and behind them there is no chain
pub all_told : (ledgers : List Ledger) (counts : List ℕ) → slice_get ledgers (length counts) ≡ None
    → ((k : ℕ) → k < length counts → unwrap_or (slice_get counts k) 0 ≡ entries_of ledgers k) → AllAreTold ledgers counts
all_told ledgers counts none each chain = elim (before_or chain (length counts)) [
  | inl lt ↦ each chain lt
  | inr le ↦ ap (λ (o : Option ℕ). unwrap_or o 0) (past_end counts chain le)
      ∙ sym (ap (λ (o : Option Ledger). option_map_or (λ (ledger : Ledger). length ledger.history) o 0) (got_none ledgers (length counts) chain none le))
]

pub nothing_there : {A B : Type 0} (f : A → B) (found : Option A) (some : Bool) (there : Option B) → option_map f found ≡ there
    → some ≡ is_some found → some ≡ false → there ≡ None
nothing_there f None some there is was denied = sym is
nothing_there f (Some x) some there is was denied = absurd (cc (sym was ∙ denied))
