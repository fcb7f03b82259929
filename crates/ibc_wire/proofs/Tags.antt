-- The tags of the kinds of messages.
use Rattle.std.proofs.Common.{◌≡◌, ◌⊎◌, inl, inr, ℕ, zero, suc, ◌<◌, ◌≤◌, slice_get, Some, None, refl, ap, arith}
use Rattle.std.proofs.lemmas.Bool.{cases_lt}
use Rattle.ibc_wire.specs.Kinds.{kinds, kind_of_tag, tag_of}
use Rattle.ibc_wire.specs.declared.messages.MessageKind.{MessageKind}
use Rattle.ibc_wire.proofs.Fronts.{some_same, none_some}

numbers : (n : ℕ) (k : MessageKind) → slice_get kinds n ≡ Some k → suc n ≡ tag_of k
numbers zero k e = ap tag_of (some_same e)
numbers (suc zero) k e = ap tag_of (some_same e)
numbers (suc (suc zero)) k e = ap tag_of (some_same e)
numbers (suc (suc (suc zero))) k e = ap tag_of (some_same e)
numbers (suc (suc (suc (suc zero)))) k e = ap tag_of (some_same e)
numbers (suc (suc (suc (suc (suc zero))))) k e = ap tag_of (some_same e)
numbers (suc (suc (suc (suc (suc (suc zero)))))) k e = ap tag_of (some_same e)
numbers (suc (suc (suc (suc (suc (suc (suc zero))))))) k e = ap tag_of (some_same e)
numbers (suc (suc (suc (suc (suc (suc (suc (suc zero)))))))) k e = ap tag_of (some_same e)
numbers (suc (suc (suc (suc (suc (suc (suc (suc (suc zero))))))))) k e = ap tag_of (some_same e)
numbers (suc (suc (suc (suc (suc (suc (suc (suc (suc (suc zero)))))))))) k e = ap tag_of (some_same e)
numbers (suc (suc (suc (suc (suc (suc (suc (suc (suc (suc (suc zero))))))))))) k e = ap tag_of (some_same e)
numbers (suc (suc (suc (suc (suc (suc (suc (suc (suc (suc (suc (suc zero)))))))))))) k e = ap tag_of (some_same e)
numbers (suc (suc (suc (suc (suc (suc (suc (suc (suc (suc (suc (suc (suc zero))))))))))))) k e = ap tag_of (some_same e)
numbers (suc (suc (suc (suc (suc (suc (suc (suc (suc (suc (suc (suc (suc (suc zero)))))))))))))) k e = ap tag_of (some_same e)
numbers (suc (suc (suc (suc (suc (suc (suc (suc (suc (suc (suc (suc (suc (suc (suc zero))))))))))))))) k e = ap tag_of (some_same e)
numbers (suc (suc (suc (suc (suc (suc (suc (suc (suc (suc (suc (suc (suc (suc (suc (suc zero)))))))))))))))) k e = ap tag_of (some_same e)
numbers (suc (suc (suc (suc (suc (suc (suc (suc (suc (suc (suc (suc (suc (suc (suc (suc (suc zero))))))))))))))))) k e = ap tag_of (some_same e)
numbers (suc (suc (suc (suc (suc (suc (suc (suc (suc (suc (suc (suc (suc (suc (suc (suc (suc (suc zero)))))))))))))))))) k e = ap tag_of (some_same e)
numbers (suc (suc (suc (suc (suc (suc (suc (suc (suc (suc (suc (suc (suc (suc (suc (suc (suc (suc (suc n))))))))))))))))))) k e = none_some e

pub tags : (n : ℕ) (k : MessageKind) → kind_of_tag n ≡ Some k → n ≡ tag_of k
tags zero k e = none_some e
tags (suc n) k e = numbers n k e

no_kind_behind : (n : ℕ) → 19 ≤ n → slice_get kinds n ≡ None
no_kind_behind zero h = absurd (omega arith)
no_kind_behind (suc zero) h = absurd (omega arith)
no_kind_behind (suc (suc zero)) h = absurd (omega arith)
no_kind_behind (suc (suc (suc zero))) h = absurd (omega arith)
no_kind_behind (suc (suc (suc (suc zero)))) h = absurd (omega arith)
no_kind_behind (suc (suc (suc (suc (suc zero))))) h = absurd (omega arith)
no_kind_behind (suc (suc (suc (suc (suc (suc zero)))))) h = absurd (omega arith)
no_kind_behind (suc (suc (suc (suc (suc (suc (suc zero))))))) h = absurd (omega arith)
no_kind_behind (suc (suc (suc (suc (suc (suc (suc (suc zero)))))))) h = absurd (omega arith)
no_kind_behind (suc (suc (suc (suc (suc (suc (suc (suc (suc zero))))))))) h = absurd (omega arith)
no_kind_behind (suc (suc (suc (suc (suc (suc (suc (suc (suc (suc zero)))))))))) h = absurd (omega arith)
no_kind_behind (suc (suc (suc (suc (suc (suc (suc (suc (suc (suc (suc zero))))))))))) h = absurd (omega arith)
no_kind_behind (suc (suc (suc (suc (suc (suc (suc (suc (suc (suc (suc (suc zero)))))))))))) h = absurd (omega arith)
no_kind_behind (suc (suc (suc (suc (suc (suc (suc (suc (suc (suc (suc (suc (suc zero))))))))))))) h = absurd (omega arith)
no_kind_behind (suc (suc (suc (suc (suc (suc (suc (suc (suc (suc (suc (suc (suc (suc zero)))))))))))))) h = absurd (omega arith)
no_kind_behind (suc (suc (suc (suc (suc (suc (suc (suc (suc (suc (suc (suc (suc (suc (suc zero))))))))))))))) h = absurd (omega arith)
no_kind_behind (suc (suc (suc (suc (suc (suc (suc (suc (suc (suc (suc (suc (suc (suc (suc (suc zero)))))))))))))))) h = absurd (omega arith)
no_kind_behind (suc (suc (suc (suc (suc (suc (suc (suc (suc (suc (suc (suc (suc (suc (suc (suc (suc zero))))))))))))))))) h = absurd (omega arith)
no_kind_behind (suc (suc (suc (suc (suc (suc (suc (suc (suc (suc (suc (suc (suc (suc (suc (suc (suc (suc zero)))))))))))))))))) h = absurd (omega arith)
no_kind_behind (suc (suc (suc (suc (suc (suc (suc (suc (suc (suc (suc (suc (suc (suc (suc (suc (suc (suc (suc n))))))))))))))))))) h = refl

pub no_kind : (n : ℕ) → (1 ≤ n → n ≤ 19 → ⊥) → kind_of_tag n ≡ None
no_kind zero h = refl
no_kind (suc n) h = far (cases_lt n 19)
  where
    far : (n < 19) ⊎ (19 ≤ n) → slice_get kinds n ≡ None
    far (inl near) = absurd (h (omega arith) (omega arith))
    far (inr le) = no_kind_behind n le
