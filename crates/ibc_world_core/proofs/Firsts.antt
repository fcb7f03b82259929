-- The first of some ledgers, and the others.
use Rattle.std.proofs.Common.{◌≡◌, ℕ, zero, suc, ◌<◌, ◌-◌, true, List, [], ◌∷◌, length, take, drop, get_or, refl, sym, ap, ◌∙◌, subst, Some, slice_get, arith}
use Rattle.std.proofs.lemmas.Bool.{false≢true}
use Rattle.std.proofs.lemmas.List.{take_all}
use Rattle.ibc_machine.specs.promises.Worlds.{is_complete}
use Rattle.ibc_ledger.specs.LedgerModel.{LedgerModel}
use Rattle.ibc_world_core.specs.WorldModel.{ledgers_alone}
use Rattle.ibc_world_core.specs.WorldAudits.{is_whole}

-- whole worlds have one
pub first_of : (ledgers : List LedgerModel) → is_whole ledgers ≡ true → (first : LedgerModel) × (slice_get ledgers 0 ≡ Some first) × (is_complete first.ledger.genesis (ledgers_alone ledgers) ≡ true)
first_of [] whole = absurd (false≢true whole)
first_of (first ∷ others) whole = (first, refl, whole)

-- a list is its first element and the rest
parts_are : {A : Type 0} (list : List A) (first : A) → 0 < length list → first ≡ get_or list 0 first → list ≡ first ∷ take (length list - 1) (drop 1 list)
parts_are [] first some same = absurd (omega arith)
parts_are (x ∷ xs) first some same =
    let all : take (length (x ∷ xs) - 1) xs ≡ xs = take_all (length (x ∷ xs) - 1) xs (omega arith) in
    ap (λ y. y ∷ xs) (sym same) ∙ ap (λ ys. first ∷ ys) (sym all)

-- each place of a list has what is so
abbrev pub AtEach : {A : Type 0} → (A → Type 0) → List A → Type 0
AtEach {A = A} P list = (k : ℕ) (x : A) → slice_get list k ≡ Some x → P x

each_of : {A : Type 0} (P : A → Type 0) (first : A) (rest : List A) → P first → AtEach P rest → AtEach P (first ∷ rest)
each_of P first rest is are zero x there =
    let same : first ≡ x = cc in
    subst P same is
each_of P first rest is are (suc k) x there = are k x there

-- what is so of the first and of each of the rest is so of each
pub known_all : {A : Type 0} (P : A → Type 0) (list : List A) (first : A) → 0 < length list → first ≡ get_or list 0 first → P first → AtEach P (take (length list - 1) (drop 1 list)) → AtEach P list
known_all P list first some same is are =
    subst (AtEach P) (sym (parts_are list first some same)) (each_of P first (take (length list - 1) (drop 1 list)) is are)
