-- Lists of packets with one more, and their sequences.
use Rattle.std.proofs.Common.{◌≡◌, ℕ, zero, suc, ◌+◌, ◌-◌, ◌<◌, Bool, true, false, refl, sym, ap, ◌∙◌, subst, List, [], ◌∷◌, ◌++◌, append_assoc, get_or, length, Some, None, slice_get, ◌⊎◌, inl, inr, arith, ◌||◌, ◌==◌, nat_eq, Contains, eqb-true}
use Rattle.std.specs.List.{IsDistinct, AllByRecursion}
use Rattle.ibc_wire.specs.declared.packet.Packet.{Packet}
use Rattle.ibc_machine.specs.chain.Records.{is_one_of}
use Rattle.ibc_machine.specs.promises.Histories.{sequences}
use Rattle.ibc_machine.specs.promises.Laws.{IsBeginning}
use Rattle.ibc_laws.proofs.basics.PassedTests.{or_false}
use Rattle.ibc_law_checks.specs.Lanes.{AreCounted}

pub sequences-push : (ps : List Packet) (p : Packet) → sequences (ps ++ p ∷ []) ≡ sequences ps ++ p.sequence ∷ []
sequences-push [] p = refl
sequences-push (q ∷ ps) p = ap (λ ns. q.sequence ∷ ns) (sequences-push ps p)

-- ---- what stands at places

pub got-last : (ps : List Packet) (p : Packet) → slice_get (ps ++ p ∷ []) (length ps) ≡ Some p
got-last [] p = refl
got-last (q ∷ ps) p = got-last ps p

pub got-push : (ps : List Packet) (p q : Packet) (k : ℕ) → slice_get (ps ++ p ∷ []) k ≡ Some q
    → (slice_get ps k ≡ Some q) ⊎ ((k ≡ length ps) × (p ≡ q))
got-push [] p q zero e = inr (refl, cc)
got-push [] p q (suc k) e = absurd (cc e)
got-push (x ∷ ps) p q zero e = inl e
got-push (x ∷ ps) p q (suc k) e = elim (got-push ps p q k e) [ inl a ↦ inl a | inr b ↦ inr (ap suc b.0, b.1) ]

pub got-behind : (front rest : List Packet) → slice_get (front ++ rest) (length front) ≡ slice_get rest 0
got-behind [] rest = refl
got-behind (p ∷ front) rest = got-behind front rest

got-contained : (ps : List Packet) (p : Packet) (k : ℕ) → k < length ps → get_or ps k p ≡ p → slice_get ps k ≡ Some p
got-contained [] p k lt e = absurd (omega arith)
got-contained (q ∷ ps) p zero lt e = ap Some e
got-contained (q ∷ ps) p (suc k) lt e = got-contained ps p k (omega arith) e

-- ---- packets that are counted from 1

-- the place of one is what its sequence says
pub stands_in_turn : (ps : List Packet) (p : Packet) → AreCounted ps → Contains ps p → slice_get ps (p.sequence - 1) ≡ Some p
stands_in_turn ps p are (k, lt, e) =
    let here : slice_get ps k ≡ Some p = got-contained ps p k lt e in
    let n : p.sequence ≡ k + 1 = are k p here in
    let place : p.sequence - 1 ≡ k = omega arith in
    subst (λ i. slice_get ps i ≡ Some p) (sym place) here

-- so two of one sequence are one
pub one_of_sequence : (ps : List Packet) (p q : Packet) → AreCounted ps → Contains ps p → Contains ps q → p.sequence ≡ q.sequence → p ≡ q
one_of_sequence ps p q are here there e =
    let a : slice_get ps (p.sequence - 1) ≡ Some p = stands_in_turn ps p are here in
    let b : slice_get ps (q.sequence - 1) ≡ Some q = stands_in_turn ps q are there in
    let c : slice_get ps (p.sequence - 1) ≡ slice_get ps (q.sequence - 1) = ap (λ n. slice_get ps (n - 1)) e in
    cc

-- ---- sequences of packets

pub contains-sequence : (ps : List Packet) (p : Packet) → Contains ps p → Contains (sequences ps) p.sequence
contains-sequence [] p h = absurd (let lt = h.1 in omega arith)
contains-sequence (q ∷ ps) p (zero, lt, e) = (0, omega arith, ap (λ (x : Packet). x.sequence) e)
contains-sequence (q ∷ ps) p (suc k, lt, e) =
    let h = contains-sequence ps p (k, (let l : suc k < length (q ∷ ps) = lt in omega arith), e) in
    (suc h.0, (let l = h.1 in omega arith), h.2)

pub record OfSequence (ps : List Packet) (n : ℕ) : Type 0 where
  pub packet : Packet
  pub among : Contains ps packet
  pub numbered : packet.sequence ≡ n

pub of_sequence : (ps : List Packet) (n : ℕ) → is_one_of (sequences ps) n ≡ true → OfSequence ps n
of_sequence [] n e = absurd (cc e)
of_sequence (p ∷ ps) n e = go (p.sequence == n) refl e (of_sequence ps n)
  where
    go : (b : Bool) → (p.sequence == n) ≡ b → (b || is_one_of (sequences ps) n) ≡ true
        → (is_one_of (sequences ps) n ≡ true → OfSequence ps n) → OfSequence (p ∷ ps) n
    go true is e rest = record { packet = p; among = (0, omega arith, refl); numbered = eqb-true p.sequence n is }
    go false is e rest =
        let h : OfSequence ps n = rest e in
        let c = h.among in
        record { packet = h.packet; among = (suc c.0, (let l = c.1 in omega arith), c.2); numbered = h.numbered }

-- ---- numbers of two lists

pub none_of_both : (xs ys : List ℕ) (n : ℕ) → is_one_of xs n ≡ false → is_one_of ys n ≡ false → is_one_of (xs ++ ys) n ≡ false
none_of_both [] ys n e f = f
none_of_both (x ∷ xs) ys n e f =
    let parts = or_false (x == n) (is_one_of xs n) e in
    let rest = none_of_both xs ys n parts.1 f in
    rw (parts.0, rest) refl

pub among_second : (xs ys : List ℕ) (n : ℕ) → is_one_of ys n ≡ true → is_one_of (xs ++ ys) n ≡ true
among_second [] ys n e = e
among_second (x ∷ xs) ys n e = go (x == n) (among_second xs ys n e)
  where
    go : (b : Bool) → is_one_of (xs ++ ys) n ≡ true → (b || is_one_of (xs ++ ys) n) ≡ true
    go true e = refl
    go false e = e

-- ---- a number that is added to numbers none of which stands twice

flip_test : (a b : ℕ) → nat_eq a b ≡ false → (b == a) ≡ false
flip_test a b e = grind (arith, e)

none_differ : (n : ℕ) (ys : List ℕ) → AllByRecursion (λ y. nat_eq n y ≡ false) ys → is_one_of ys n ≡ false
none_differ n [] all = refl
none_differ n (y ∷ ys) all =
    let first : (y == n) ≡ false = flip_test n y all.0 in
    let rest = none_differ n ys all.1 in
    rw (first, rest) refl

at_middle : (x n : ℕ) (xs ys : List ℕ) → AllByRecursion (λ y. nat_eq x y ≡ false) ((xs ++ n ∷ []) ++ ys) → nat_eq x n ≡ false
at_middle x n [] ys all = all.0
at_middle x n (z ∷ xs) ys all = at_middle x n xs ys all.1

pub distinct_is_new : (xs ys : List ℕ) (n : ℕ) → IsDistinct nat_eq ((xs ++ n ∷ []) ++ ys) → is_one_of (xs ++ ys) n ≡ false
unfolding IsDistinct
distinct_is_new [] ys n d = none_differ n ys d.0
distinct_is_new (x ∷ xs) ys n d =
    let first : (x == n) ≡ false = at_middle x n xs ys d.0 in
    let rest = distinct_is_new xs ys n d.1 in
    rw (first, rest) refl

-- ---- beginnings

pub beginning-push : (front all : List Packet) (p : Packet) → IsBeginning front all → slice_get all (length front) ≡ Some p
    → IsBeginning (front ++ p ∷ []) all
beginning-push front all p (rest, e) there = go rest e
  where
    go : (rest : List Packet) → front ++ rest ≡ all → IsBeginning (front ++ p ∷ []) all
    go [] e =
        let a : slice_get (front ++ []) (length front) ≡ None = got-behind front [] in
        absurd (cc (a, there, ap (λ l. slice_get l (length front)) e))
    go (q ∷ rest) e =
        let a : slice_get (front ++ q ∷ rest) (length front) ≡ Some q = got-behind front (q ∷ rest) in
        let same : q ≡ p = cc (a, there, ap (λ l. slice_get l (length front)) e) in
        let whole : front ++ p ∷ rest ≡ all = subst (λ x. front ++ x ∷ rest ≡ all) same e in
        (rest, append_assoc front (p ∷ []) rest ∙ whole)

pub beginning-last : (front all : List Packet) (p : Packet) → IsBeginning (front ++ p ∷ []) all → slice_get all (length front) ≡ Some p
beginning-last front all p (rest, e) =
    let whole : front ++ p ∷ rest ≡ all = sym (append_assoc front (p ∷ []) rest) ∙ e in
    subst (λ l. slice_get l (length front) ≡ Some p) whole (got-behind front (p ∷ rest))
