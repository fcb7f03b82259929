-- What is held in the beginning fits.
use Rattle.std.proofs.Common.{◌≡◌, ℕ, zero, suc, ◌+◌, ◌<◌, ◌≤◌, ◌^◌, ◌&&◌, ◌==◌, Bool, true, refl, ap, ◌∙◌, List, [], ◌∷◌, length, get_or, take, arith, nat_lt, ltb-true, if◌then◌else◌}
use Rattle.std.specs.List.{fold, list_all, count_by}
use Rattle.std.specs.FinMap.{is_sorted}
use Rattle.std.proofs.lemmas.Bool.{and_parts}
use Rattle.std.proofs.lemmas.List.Sums.{sum_by-cons}
use Rattle.ibc_ids.specs.Texts.{Text, same_text, pair_cmp}
use Rattle.ibc_ids.specs.Names.{is_user, is_base_denom}
use Rattle.ibc_machine.specs.ics20.Bank.{Balances, with_balance, supply}
use Rattle.ibc_machine.specs.chain.Genesis.{Holding, starting_balances, is_fair, is_same_holding, total_of}
use Rattle.ibc_machine.proofs.SortedMaps.{Sorted-from, Sorted-to}
use Rattle.ibc_machine.proofs.Measures.{sorted-with_balance}
use Rattle.ibc_bank.proofs.Tallies.{supply-with_balance}

abbrev put : Balances → Holding → Balances
put balances holding = with_balance holding.0 holding.1 holding.2 balances

abbrev share : Text → Holding → ℕ
share denom h = if same_text h.1 denom then h.2 else 0

-- a balance that is set adds its amount at most
put_adds : (b : Balances) (h : Holding) (d : Text) → is_sorted pair_cmp b ≡ true → supply (put b h) d ≤ supply b d + share d h
put_adds b h d sorted = let parts = supply-with_balance h.0 h.1 h.2 b sorted d in omega arith

supply_from : (hs : List Holding) (b : Balances) (d : Text) → is_sorted pair_cmp b ≡ true → supply (fold put b hs) d ≤ supply b d + total_of d hs
supply_from [] b d sorted = omega arith
supply_from (h ∷ hs) b d sorted =
    let rest = supply_from hs (put b h) d (Sorted-to pair_cmp _ (sorted-with_balance h.0 h.1 h.2 b (Sorted-from pair_cmp b sorted))) in
    let first = put_adds b h d sorted in
    let sum = sum_by-cons (share d) h hs in
    omega arith

total_up_to : (hs : List Holding) (i : ℕ) (h : Holding) (d : Text) → i < length hs → h ≡ get_or hs i h → total_of d (take i hs) + share d h ≤ total_of d hs
total_up_to [] i h d inside here = absurd (omega arith)
total_up_to (x ∷ xs) zero h d inside here =
    let sum = sum_by-cons (share d) x xs in
    let same : share d h ≡ share d x = ap (share d) here in
    omega arith
total_up_to (x ∷ xs) (suc i) h d inside here =
    let ih = total_up_to xs i h d (omega arith) here in
    let sum = sum_by-cons (share d) x xs in
    let part = sum_by-cons (share d) x (take i xs) in
    omega arith

fair_at : (test : Holding → Bool) (hs : List Holding) (i : ℕ) (h : Holding) → list_all test hs ≡ true → i < length hs → h ≡ get_or hs i h → test h ≡ true
fair_at test [] i h all inside here = absurd (omega arith)
fair_at test (x ∷ xs) zero h all inside here = ap test here ∙ (and_parts (test x) (list_all test xs) all).0
fair_at test (x ∷ xs) (suc i) h all inside here = fair_at test xs i h (and_parts (test x) (list_all test xs) all).1 (omega arith) here

-- the supply of a holding's denomination, with the holding and those before it
pub starting_fits : (hs : List Holding) → list_all (is_fair hs) hs ≡ true → (i : ℕ) (h : Holding) → i < length hs → h ≡ get_or hs i h
    → (b : Balances) → b ≡ starting_balances (take i hs) → is_sorted pair_cmp b ≡ true → supply (put b h) h.1 < 2 ^ 128
starting_fits hs fair i h inside here b is sorted =
    let ok = fair_at (is_fair hs) hs i h fair inside here in
    let limit = ltb-true (total_of h.1 hs) (2 ^ 128)
    (and_parts (is_user h.0 && is_base_denom h.1 && (count_by (is_same_holding h) hs == 1)) (nat_lt (total_of h.1 hs) (2 ^ 128)) ok).1 in
    let before = supply_from (take i hs) [] h.1 refl in
    let same : supply b h.1 ≡ supply (starting_balances (take i hs)) h.1 = ap (λ x. supply x h.1) is in
    let adds = put_adds b h h.1 sorted in
    let up_to = total_up_to hs i h h.1 inside here in
    omega arith

-- nothing is burnt
pub fits_alone : (held burnt : ℕ) → burnt ≡ 0 → held < 2 ^ 128 → held + burnt < 2 ^ 128
fits_alone held burnt none fits = omega arith
