-- Ledgers of one world are still of one world where one is taken out, and where one of the same world is added.
use Rattle.std.proofs.Common.{◌≡◌, ◌⊎◌, inl, inr, ℕ, zero, suc, List, [], ◌∷◌, ◌++◌, Some, refl, sym, ap, ◌∙◌, subst, take, drop, slice_get}
use Rattle.ibc_ledger.specs.LedgerModel.{LedgerModel}
use Rattle.ibc_world_core.specs.WorldAudits.{AreOfOneWorld}
use Rattle.ibc_handle.specs.LedgersModel.{Joins, HaveOneTable}

both_as : (a b x : LedgerModel) → HaveOneTable a x → HaveOneTable b x → HaveOneTable a b
both_as a b x one other = (one.0 ∙ sym other.0, one.1 ∙ sym other.1)

same_are : (a b : LedgerModel) → a ≡ b → HaveOneTable a b
same_are a b is = (ap (λ (l : LedgerModel). l.table) is, ap (λ (l : LedgerModel). l.ledger.genesis) is)

no_ledgers : AreOfOneWorld []
no_ledgers first there k h at = absurd (cc)

pub others_are : (xs ys : List LedgerModel) → ys ≡ take 0 xs ++ drop 1 xs → AreOfOneWorld xs → AreOfOneWorld ys
others_are [] ys is all = subst AreOfOneWorld (sym is) no_ledgers
others_are (x ∷ xs) ys is all =
    subst AreOfOneWorld (sym is) (λ first there k h at. both_as h first x (all x refl (suc k) h at) (all x refl (suc zero) first there))

-- what stands among ledgers behind which one is added
among : (xs : List LedgerModel) (x h : LedgerModel) (k : ℕ) → slice_get (xs ++ x ∷ []) k ≡ Some h → (slice_get xs k ≡ Some h) ⊎ (h ≡ x)
among [] x h zero is =
    let same : h ≡ x = cc in
    inr same
among [] x h (suc k) is = absurd (cc)
among (y ∷ ys) x h zero is = inl is
among (y ∷ ys) x h (suc k) is = among ys x h k is

pub joined_are : (xs : List LedgerModel) (x : LedgerModel) → Joins x xs → AreOfOneWorld xs → AreOfOneWorld (xs ++ x ∷ [])
joined_are [] x joins all = λ first there k h at.
    let begins : x ≡ first = cc in
    elim (among [] x h k at) [ inl none ↦ absurd (cc) | inr same ↦ same_are h first (same ∙ begins) ]
joined_are (y ∷ ys) x joins all = λ first there k h at.
    let begins : first ≡ y = cc in
    elim (among (y ∷ ys) x h k at) [
      | inl old ↦ all first there k h old
      | inr same ↦
          let one = same_are h x same in
          let other = same_are first y begins in
          both_as h first y (one.0 ∙ joins.0, one.1 ∙ joins.1) other
    ]
