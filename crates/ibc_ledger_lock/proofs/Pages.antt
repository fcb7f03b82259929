-- Each step keeps the book.
use Rattle.std.proofs.Common.{◌≡◌, ◌≢◌, ◌<◌, ◌==◌, ℕ, zero, suc, Bool, List, [], ◌∷◌, ◌++◌, set, length, true, false, true≢false, refl, sym, ap, ◌∙◌, append_assoc, subst, arith, inl, None}
use Rattle.std.specs.Prelude.{⊤, MatchBool}
use Rattle.std.proofs.lemmas.List.{append-nil, get_or-set_other, length-set}
use mathlib.Core.List.{IsPrefix}
use prog.Atomic.{either}
use Rattle.logbook.specs.Pages.{Cell, Nib, cell, no_nib, may_write, keeps, gives, adds, step, Moves}
use Rattle.ibc_ledger_lock.specs.KnownLedgers.{KnownLedger, nothing_known}
use Rattle.ibc_ledger_lock.specs.declared.book.Page.{Page}
use Rattle.ibc_ledger_lock.specs.Books.{IsKnownBeginning, first_page, key_after, known_after, key_in, known_in, AreWritten, IsBook, IsUnused, Begins, GivesPen, Writes, FindsUnused}

off : false ≡ true → ⊥
off e = true≢false (sym e)

-- ---- beginnings

prefix_self : {A : Type 0} (xs : List A) → IsPrefix xs xs
prefix_self xs = ([], append-nil xs)

prefix_on : {A : Type 0} (xs ys zs : List A) → IsPrefix xs ys → IsPrefix ys zs → IsPrefix xs zs
prefix_on xs ys zs p q = (p.0 ++ q.0, sym (append_assoc xs p.0 q.0) ∙ ap (λ w. w ++ q.0) p.1 ∙ q.1)

pub begins_itself : (all : KnownLedger) → IsKnownBeginning all all
begins_itself all = (prefix_self all.history, prefix_self all.seen, prefix_self all.calls)

pub begins_on : (a b c : KnownLedger) → IsKnownBeginning a b → IsKnownBeginning b c → IsKnownBeginning a c
begins_on a b c p q =
    (prefix_on a.history b.history c.history p.0 q.0, prefix_on a.seen b.seen c.seen p.1 q.1, prefix_on a.calls b.calls c.calls p.2 q.2)

pub nothing_begins : (all : KnownLedger) → IsKnownBeginning nothing_known all
nothing_begins all = ((all.history, refl), (all.seen, refl), (all.calls, refl))

-- ---- words at home

abbrev IsHome : List Cell → ℕ → Type 0
IsHome cells key = (cell cells key).1 ≡ true

home_set : (cells : List Cell) (at key n : ℕ) → IsHome cells key → IsHome (set cells at (n, true)) key
home_set [] at key n home = absurd (off home)
home_set (c ∷ cells) zero zero n home = refl
home_set (c ∷ cells) zero (suc key) n home = home
home_set (c ∷ cells) (suc at) zero n home = home
home_set (c ∷ cells) (suc at) (suc key) n home = home_set cells at key n home

home_more : (cells more : List Cell) (key : ℕ) → IsHome cells key → IsHome (cells ++ more) key
home_more [] more key home = absurd (off home)
home_more (c ∷ cells) more zero home = home
home_more (c ∷ cells) more (suc key) home = home_more cells more key home

home_here : (cells : List Cell) (key n : ℕ) → key < length cells → IsHome (set cells key (n, true)) key
home_here [] key n less = absurd (omega arith)
home_here (c ∷ cells) zero n less = refl
home_here (c ∷ cells) (suc key) n less = home_here cells key n (omega arith)

first_more : (cells more : List Cell) → 0 < length cells → cell (cells ++ more) 0 ≡ cell cells 0
first_more [] more less = absurd (omega arith)
first_more (c ∷ cells) more less = refl

first_set : (cells : List Cell) (c : Cell) → 0 < length cells → cell (set cells 0 c) 0 ≡ c
first_set [] c less = absurd (omega arith)
first_set (d ∷ cells) c less = refl

longer_set : (cells : List Cell) (at : ℕ) (c : Cell) → 0 < length cells → 0 < length (set cells at c)
longer_set [] at c less = absurd (omega arith)
longer_set (d ∷ cells) zero c less = omega arith
longer_set (d ∷ cells) (suc at) c less = omega arith

longer_more : (cells more : List Cell) → 0 < length cells → 0 < length (cells ++ more)
longer_more [] more less = absurd (omega arith)
longer_more (d ∷ cells) more less = omega arith

-- ---- pages

written_still : (old new : List Cell) → ((key : ℕ) → IsHome old key → IsHome new key) → (key : ℕ) (known : KnownLedger) (pages : List Page)
    → AreWritten old key known pages → AreWritten new key known pages
written_still old new stay key known [] is = tt
written_still old new stay key known (p ∷ pages) is = (stay key is.0, is.1, written_still old new stay p.next p.known pages is.2)

written_more : (cells : List Cell) (key : ℕ) (known : KnownLedger) (pages : List Page) (page : Page) → AreWritten cells key known pages
    → IsHome cells (key_after key pages) → IsKnownBeginning (known_after known pages) page.known → AreWritten cells key known (pages ++ page ∷ [])
written_more cells key known [] page is home begins = (home, begins, tt)
written_more cells key known (p ∷ pages) page is home begins = (is.0, is.1, written_more cells p.next p.known pages page is.2 home begins)

-- a key whose word isn't at home wrote no page
unused_away : (cells : List Cell) (used key : ℕ) (known : KnownLedger) (pages : List Page) → AreWritten cells key known pages → (cell cells used).1 ≡ false
    → IsUnused used key pages
unused_away cells used key known [] is away = tt
unused_away cells used key known (p ∷ pages) is away =
    ((λ same. off (sym away ∙ ap (λ k. (cell cells k).1) (sym same) ∙ is.0)), unused_away cells used p.next p.known pages is.2 away)

-- where the key after some pages wrote none of all pages, these are all
whole : (some all : List Page) (used key : ℕ) → IsPrefix some all → key_after key some ≡ used → IsUnused used key all → all ≡ some
whole [] [] used key pre is unused = refl
whole [] (p ∷ all) used key pre is unused = absurd (unused.0 is)
whole (q ∷ some) [] used key pre is unused = absurd (cc (pre.1))
whole (q ∷ some) (p ∷ all) used key pre is unused =
    let same : q ≡ p = cc (pre.1) in
    let rest = whole some all used p.next (pre.0, cc (pre.1)) (ap (λ (x : Page). key_after x.next some) (sym same) ∙ is) unused.1 in
    cc (same, rest)

known_begins : (cells : List Cell) (key : ℕ) (known : KnownLedger) (pages : List Page) → AreWritten cells key known pages → IsKnownBeginning known (known_after known pages)
known_begins cells key known [] is = begins_itself known
known_begins cells key known (p ∷ pages) is =
    begins_on known p.known (known_after p.known pages) is.1 (known_begins cells p.next p.known pages is.2)

earlier : (cells : List Cell) (key : ℕ) (known : KnownLedger) (some all : List Page) → AreWritten cells key known all → IsPrefix some all
    → IsKnownBeginning (known_after known some) (known_after known all)
earlier cells key known [] all is pre = known_begins cells key known all is
earlier cells key known (q ∷ some) [] is pre = absurd (cc (pre.1))
earlier cells key known (q ∷ some) (p ∷ all) is pre =
    let same : q ≡ p = cc (pre.1) in
    let rest = earlier cells p.next p.known some all is.2 (pre.0, cc (pre.1)) in
    subst (λ (x : Page). IsKnownBeginning (known_after x.known some) (known_after p.known all)) (sym same) rest

unused_before : (some all : List Page) (used key : ℕ) → IsPrefix some all → IsUnused used key all → IsUnused used key some
unused_before [] all used key pre unused = tt
unused_before (q ∷ some) [] used key pre unused = absurd (cc (pre.1))
unused_before (q ∷ some) (p ∷ all) used key pre unused =
    let same : q ≡ p = cc (pre.1) in
    (unused.0, subst (λ (x : Page). IsUnused used x.next some) (sym same) (unused_before some all used p.next (pre.0, cc (pre.1)) unused.1))

-- what a place knows is a beginning of what the keeper knows, once the keeper's key is found unused
pub found : (cells : List Cell) (keeper mark all : List Page) (used : ℕ) → (keeper ≡ [] → ⊥) → used ≡ key_in keeper → IsPrefix keeper all → IsPrefix mark all
    → IsBook cells all → ((first : Page) (pages : List Page) → all ≡ first ∷ pages → IsUnused used first.next pages)
    → IsKnownBeginning (known_in mark) (known_in keeper)
found cells [] mark all used begun key pre marked is unused = absurd (begun refl)
found cells (p ∷ keeper) mark [] used begun key pre marked is unused = absurd (cc (pre.1))
found cells (p ∷ keeper) [] (q ∷ all) used begun key pre marked is unused =
    nothing_begins (known_after p.known keeper)
found cells (p ∷ keeper) (r ∷ mark) (q ∷ all) used begun key pre marked is unused =
    let first : p ≡ q = cc (pre.1) in
    let rest = whole keeper all used q.next (pre.0, cc (pre.1)) (ap (λ (x : Page). key_after x.next keeper) (sym first) ∙ sym key) (unused q all refl) in
    let kept : p ∷ keeper ≡ q ∷ all = cc (first, rest) in
    let marks : r ∷ mark ≡ q ∷ mark = cc (marked.1) in
    let begins = earlier cells q.next q.known mark all is.2 (marked.0, cc (marked.1)) in
    subst (λ (l : List Page). IsKnownBeginning (known_in l) (known_in (p ∷ keeper))) (sym marks)
    (subst (λ (l : List Page). IsKnownBeginning (known_in (q ∷ mark)) (known_in l)) (sym kept) begins)

-- ---- steps

abbrev pub shown : List Page → List Page
shown pages = []

abbrev pub moved : List Page → List Page → Unit {0} → Type 0
moved before after answer = Unit {0}

abbrev pub once : ℕ → ℕ
once n = either (n == 0) 1 n

abbrev pub same_word : ℕ → ℕ
same_word n = either (n == 1) 1 n

-- the word is written as it was
same_begun : (cells : List Cell) (pages : List Page) → IsBook cells pages → IsBook (set cells 0 (same_word (cell cells 0).0, true)) pages
same_begun cells [] is =
    (longer_set cells 0 _ is.0, first_set cells _ is.0 ∙ ap (λ (c : Cell). (same_word c.0, true)) is.1)
same_begun cells (p ∷ pages) is = (
  longer_set cells 0 _ is.0,
  first_set cells _ is.0 ∙ ap (λ (c : Cell). (same_word c.0, true)) is.1,
  written_still cells (set cells 0 (same_word (cell cells 0).0, true)) (λ k h. home_set cells 0 k _ h) p.next p.known pages is.2,
)

more_words : (cells more : List Cell) (pages : List Page) → IsBook cells pages → IsBook (cells ++ more) pages
more_words cells more [] is = (longer_more cells more is.0, first_more cells more is.0 ∙ is.1)
more_words cells more (p ∷ pages) is = (
  longer_more cells more is.0,
  first_more cells more is.0 ∙ is.1,
  written_still cells (cells ++ more) (λ k h. home_more cells more k h) p.next p.known pages is.2,
)

no_more : (cells : List Cell) (pages : List Page) → IsBook cells pages → IsBook cells (pages ++ [])
no_more cells pages is = subst (IsBook cells) (sym (append-nil pages)) is

head_home : (cells : List Cell) (pages : List Page) → IsBook cells pages → (0 < length cells) × IsHome cells 0
head_home cells [] is = (is.0, ap (λ (c : Cell). c.1) is.1)
head_home cells (p ∷ pages) is = (is.0, ap (λ (c : Cell). c.1) is.1)

either_way : (b : Bool) (X : Type 0) → X → MatchBool b X ⊤
either_way true X x = x
either_way false X x = tt

no_begin : (X : Type 0) (head : Cell) → head ≡ (1, true) → MatchBool (head.0 == 0) X ⊤
no_begin X head is = subst (λ (c : Cell). MatchBool (c.0 == 0) X ⊤) (sym is) tt

pub begins_moves : (v : List Page) (ask : Page)
    → Moves IsBook shown moved 0 (v, (no_nib, None)) once (Begins (step 0 0 1 ask) (v, (no_nib, None)))
begins_moves v ask cells [] is pre away =
    let put = set cells 0 (once (cell cells 0).0, true) in
    let longer = longer_set cells 0 _ is.0 in (
      is.0,
      ap (λ (c : Cell). c.1) is.1,
      (
        adds,
        first_page (length cells) ∷ [],
        None,
        tt,
        (longer_more put _ longer, first_more put _ longer ∙ first_set cells _ is.0 ∙ ap (λ (c : Cell). (once c.0, true)) is.1, tt),
        inl (refl, refl),
        either_way ((cell cells 0).0 == 0) _ (refl, refl),
      ),
    )
begins_moves v ask cells (p ∷ pages) is pre away =
    let put = set cells 0 (once (cell cells 0).0, true) in
    let same : IsBook put (p ∷ pages) = (
      longer_set cells 0 _ is.0,
      first_set cells _ is.0 ∙ ap (λ (c : Cell). (once c.0, true)) is.1,
      written_still cells put (λ k h. home_set cells 0 k _ h) p.next p.known pages is.2,
    ) in (
      is.0,
      ap (λ (c : Cell). c.1) is.1,
      (keeps, [], None, tt, no_more put (p ∷ pages) same, inl (refl, refl), no_begin _ (cell cells 0) is.1),
    )

pub gives_moves : (v : List Page) (ask : Page)
    → Moves IsBook shown moved 0 (v, (no_nib, None)) same_word (GivesPen (step 0 1 1 ask) (v, (no_nib, None)))
gives_moves v ask cells pages is pre away =
    let head = head_home cells pages is in
    let put = set cells 0 (same_word (cell cells 0).0, true) in
    (head.0, head.1, (adds, [], None, tt, no_more (put ++ (0, false) ∷ []) pages (more_words put _ pages (same_begun cells pages is)), inl (refl, refl), refl))

pub finds_moves : (v : List Page) (n : Nib) (ask : Page) → n.right ≡ may_write
    → Moves IsBook shown moved 0 (v, (n, None)) same_word (FindsUnused (step 0 1 1 ask) (v, (n, None)))
finds_moves v n ask right cells pages is pre away =
    let head = head_home cells pages is in
    let put = set cells 0 (same_word (cell cells 0).0, true) in
    (head.0, head.1, (keeps, [], None, tt, no_more put pages (same_begun cells pages is), inl (refl, refl), (refl, unused pages is pre)))
  where
    unused : (pages : List Page) → IsBook cells pages → IsPrefix v pages → (first : Page) (rest : List Page) → v ≡ first ∷ rest → IsUnused n.key first.next rest
    unused [] is pre first rest same = absurd (cc (pre.1, same))
    unused (p ∷ pages) is pre first rest same =
        let begins : (first ∷ rest) ++ pre.0 ≡ p ∷ pages = ap (λ l. l ++ pre.0) (sym same) ∙ pre.1 in
        let heads : first ≡ p = cc (begins) in
        let none = unused_away cells n.key p.next p.known pages is.2 (away right).1 in
        unused_before rest pages n.key first.next (pre.0, cc (begins)) (subst (λ (x : Page). IsUnused n.key x.next pages) (sym heads) none)

pub writes_moves : (v : List Page) (n : Nib) (page ask : Page) → (v ≡ [] → ⊥) → n.right ≡ may_write → n.key ≡ key_in v → IsKnownBeginning (known_in v) page.known
    → Moves IsBook shown moved 0 (v, (n, None)) same_word (Writes page (step 0 1 1 ask) (v, (n, None)))
writes_moves [] n page ask begun right key begins cells pages is pre away = absurd (begun refl)
writes_moves (q ∷ v) n page ask begun right key begins cells [] is pre away = absurd (cc (pre.1))
writes_moves (q ∷ v) n page ask begun right key begins cells (p ∷ pages) is pre away =
    let here = away right in
    let unused = unused_away cells n.key p.next p.known pages is.2 here.1 in
    let first : q ≡ p = cc (pre.1) in
    let rest = whole v pages n.key p.next (pre.0, cc (pre.1)) (ap (λ (x : Page). key_after x.next v) (sym first) ∙ sym key) unused in
    let all : p ∷ pages ≡ q ∷ v = cc (first, rest) in
    let put = set cells 0 (same_word (cell cells 0).0, true) in
    let home = set put n.key (n.value, true) in
    let same = same_begun cells (p ∷ pages) is in
    let apart : 0 ≢ n.key = λ e. off (sym here.1 ∙ ap (λ k. (cell cells k).1) (sym e) ∙ ap (λ (c : Cell). c.1) is.1) in
    let last : IsHome home (key_after p.next pages) =
    subst (IsHome home) (sym (ap key_in all ∙ sym key)) (home_here put n.key n.value (subst (λ m. n.key < m) (sym (length-set cells 0 _)) here.0)) in
    let kept = written_still put home (λ k h. home_set put n.key k n.value h) p.next p.known pages same.2 in
    let later = subst (λ (l : List Page). IsKnownBeginning (known_in l) page.known) (sym all) begins in (
      is.0,
      ap (λ (c : Cell). c.1) is.1,
      (
        gives,
        page ∷ [],
        None,
        right,
        (longer_set put n.key _ same.0, get_or-set_other put n.key 0 (n.value, true) (0, false) apart ∙ same.1, written_more home p.next p.known pages page kept last later),
        inl (refl, refl),
        ap (λ l. l ++ page ∷ []) all,
      ),
    )

-- ---- the last page

pub not_none : (pages : List Page) (page : Page) → pages ++ page ∷ [] ≡ [] → ⊥
not_none [] page e = absurd cc
not_none (p ∷ pages) page e = absurd cc

key_end : (key : ℕ) (pages : List Page) (page : Page) → key_after key (pages ++ page ∷ []) ≡ page.next
key_end key [] page = refl
key_end key (p ∷ pages) page = key_end p.next pages page

known_end : (known : KnownLedger) (pages : List Page) (page : Page) → known_after known (pages ++ page ∷ []) ≡ page.known
known_end known [] page = refl
known_end known (p ∷ pages) page = known_end p.known pages page

pub key_last : (pages : List Page) (page : Page) → key_in (pages ++ page ∷ []) ≡ page.next
key_last pages page = key_end 0 pages page

pub known_last : (pages : List Page) (page : Page) → known_in (pages ++ page ∷ []) ≡ page.known
known_last pages page = known_end nothing_known pages page
