-- The numbers of the refusals.
use Rattle.std.proofs.Common.{◌≡◌, ◌⊎◌, inl, inr, ℕ, zero, suc, ◌<◌, ◌≤◌, nat_lt, true, slice_get, Some, None, refl, ap, arith}
use Rattle.std.proofs.lemmas.Bool.{cases_lt}
use Rattle.ibc_ids.specs.Refusals.{number_of}
use Rattle.ibc_ids.specs.declared.refusal.Refusal.{Refusal}
use Rattle.ibc_ids.specs.declared.refusal.Refusal.TheVariants as refusal
use Rattle.ibc_wire.proofs.Fronts.{some_same, none_some}
use Rattle.ibc_entry_codec.specs.Refusals.{refusals, refusal_of}

numbers : (n : ℕ) (r : Refusal) → slice_get refusals n ≡ Some r → suc n ≡ number_of r
numbers zero r e = ap number_of (some_same e)
numbers (suc zero) r e = ap number_of (some_same e)
numbers (suc (suc zero)) r e = ap number_of (some_same e)
numbers (suc (suc (suc zero))) r e = ap number_of (some_same e)
numbers (suc (suc (suc (suc zero)))) r e = ap number_of (some_same e)
numbers (suc (suc (suc (suc (suc zero))))) r e = ap number_of (some_same e)
numbers (suc (suc (suc (suc (suc (suc zero)))))) r e = ap number_of (some_same e)
numbers (suc (suc (suc (suc (suc (suc (suc zero))))))) r e = ap number_of (some_same e)
numbers (suc (suc (suc (suc (suc (suc (suc (suc zero)))))))) r e = ap number_of (some_same e)
numbers (suc (suc (suc (suc (suc (suc (suc (suc (suc zero))))))))) r e = ap number_of (some_same e)
numbers (suc (suc (suc (suc (suc (suc (suc (suc (suc (suc zero)))))))))) r e = ap number_of (some_same e)
numbers (suc (suc (suc (suc (suc (suc (suc (suc (suc (suc (suc zero))))))))))) r e = ap number_of (some_same e)
numbers (suc (suc (suc (suc (suc (suc (suc (suc (suc (suc (suc (suc zero)))))))))))) r e = ap number_of (some_same e)
numbers (suc (suc (suc (suc (suc (suc (suc (suc (suc (suc (suc (suc (suc zero))))))))))))) r e = ap number_of (some_same e)
numbers (suc (suc (suc (suc (suc (suc (suc (suc (suc (suc (suc (suc (suc (suc zero)))))))))))))) r e = ap number_of (some_same e)
numbers (suc (suc (suc (suc (suc (suc (suc (suc (suc (suc (suc (suc (suc (suc (suc zero))))))))))))))) r e = ap number_of (some_same e)
numbers (suc (suc (suc (suc (suc (suc (suc (suc (suc (suc (suc (suc (suc (suc (suc (suc zero)))))))))))))))) r e = ap number_of (some_same e)
numbers (suc (suc (suc (suc (suc (suc (suc (suc (suc (suc (suc (suc (suc (suc (suc (suc (suc zero))))))))))))))))) r e = ap number_of (some_same e)
numbers (suc (suc (suc (suc (suc (suc (suc (suc (suc (suc (suc (suc (suc (suc (suc (suc (suc (suc zero)))))))))))))))))) r e = ap number_of (some_same e)
numbers (suc (suc (suc (suc (suc (suc (suc (suc (suc (suc (suc (suc (suc (suc (suc (suc (suc (suc (suc zero))))))))))))))))))) r e = ap number_of (some_same e)
numbers (suc (suc (suc (suc (suc (suc (suc (suc (suc (suc (suc (suc (suc (suc (suc (suc (suc (suc (suc (suc zero)))))))))))))))))))) r e = ap number_of (some_same e)
numbers (suc (suc (suc (suc (suc (suc (suc (suc (suc (suc (suc (suc (suc (suc (suc (suc (suc (suc (suc (suc (suc zero))))))))))))))))))))) r e = ap number_of (some_same e)
numbers (suc (suc (suc (suc (suc (suc (suc (suc (suc (suc (suc (suc (suc (suc (suc (suc (suc (suc (suc (suc (suc (suc zero)))))))))))))))))))))) r e = ap number_of (some_same e)
numbers (suc (suc (suc (suc (suc (suc (suc (suc (suc (suc (suc (suc (suc (suc (suc (suc (suc (suc (suc (suc (suc (suc (suc zero))))))))))))))))))))))) r e = ap number_of (some_same e)
numbers (suc (suc (suc (suc (suc (suc (suc (suc (suc (suc (suc (suc (suc (suc (suc (suc (suc (suc (suc (suc (suc (suc (suc (suc zero)))))))))))))))))))))))) r e = ap number_of (some_same e)
numbers (suc (suc (suc (suc (suc (suc (suc (suc (suc (suc (suc (suc (suc (suc (suc (suc (suc (suc (suc (suc (suc (suc (suc (suc (suc zero))))))))))))))))))))))))) r e = ap number_of (some_same e)
numbers (suc (suc (suc (suc (suc (suc (suc (suc (suc (suc (suc (suc (suc (suc (suc (suc (suc (suc (suc (suc (suc (suc (suc (suc (suc (suc zero)))))))))))))))))))))))))) r e = ap number_of (some_same e)
numbers (suc (suc (suc (suc (suc (suc (suc (suc (suc (suc (suc (suc (suc (suc (suc (suc (suc (suc (suc (suc (suc (suc (suc (suc (suc (suc (suc zero))))))))))))))))))))))))))) r e = ap number_of (some_same e)
numbers (suc (suc (suc (suc (suc (suc (suc (suc (suc (suc (suc (suc (suc (suc (suc (suc (suc (suc (suc (suc (suc (suc (suc (suc (suc (suc (suc (suc zero)))))))))))))))))))))))))))) r e = ap number_of (some_same e)
numbers (suc (suc (suc (suc (suc (suc (suc (suc (suc (suc (suc (suc (suc (suc (suc (suc (suc (suc (suc (suc (suc (suc (suc (suc (suc (suc (suc (suc (suc zero))))))))))))))))))))))))))))) r e = ap number_of (some_same e)
numbers (suc (suc (suc (suc (suc (suc (suc (suc (suc (suc (suc (suc (suc (suc (suc (suc (suc (suc (suc (suc (suc (suc (suc (suc (suc (suc (suc (suc (suc (suc zero)))))))))))))))))))))))))))))) r e = ap number_of (some_same e)
numbers (suc (suc (suc (suc (suc (suc (suc (suc (suc (suc (suc (suc (suc (suc (suc (suc (suc (suc (suc (suc (suc (suc (suc (suc (suc (suc (suc (suc (suc (suc (suc n))))))))))))))))))))))))))))))) r e = none_some e

pub its_number : (n : ℕ) (r : Refusal) → refusal_of n ≡ Some r → n ≡ number_of r
its_number zero r e = none_some e
its_number (suc n) r e = numbers n r e

none_behind : (n : ℕ) → 31 ≤ n → slice_get refusals n ≡ None
none_behind zero h = absurd (omega arith)
none_behind (suc zero) h = absurd (omega arith)
none_behind (suc (suc zero)) h = absurd (omega arith)
none_behind (suc (suc (suc zero))) h = absurd (omega arith)
none_behind (suc (suc (suc (suc zero)))) h = absurd (omega arith)
none_behind (suc (suc (suc (suc (suc zero))))) h = absurd (omega arith)
none_behind (suc (suc (suc (suc (suc (suc zero)))))) h = absurd (omega arith)
none_behind (suc (suc (suc (suc (suc (suc (suc zero))))))) h = absurd (omega arith)
none_behind (suc (suc (suc (suc (suc (suc (suc (suc zero)))))))) h = absurd (omega arith)
none_behind (suc (suc (suc (suc (suc (suc (suc (suc (suc zero))))))))) h = absurd (omega arith)
none_behind (suc (suc (suc (suc (suc (suc (suc (suc (suc (suc zero)))))))))) h = absurd (omega arith)
none_behind (suc (suc (suc (suc (suc (suc (suc (suc (suc (suc (suc zero))))))))))) h = absurd (omega arith)
none_behind (suc (suc (suc (suc (suc (suc (suc (suc (suc (suc (suc (suc zero)))))))))))) h = absurd (omega arith)
none_behind (suc (suc (suc (suc (suc (suc (suc (suc (suc (suc (suc (suc (suc zero))))))))))))) h = absurd (omega arith)
none_behind (suc (suc (suc (suc (suc (suc (suc (suc (suc (suc (suc (suc (suc (suc zero)))))))))))))) h = absurd (omega arith)
none_behind (suc (suc (suc (suc (suc (suc (suc (suc (suc (suc (suc (suc (suc (suc (suc zero))))))))))))))) h = absurd (omega arith)
none_behind (suc (suc (suc (suc (suc (suc (suc (suc (suc (suc (suc (suc (suc (suc (suc (suc zero)))))))))))))))) h = absurd (omega arith)
none_behind (suc (suc (suc (suc (suc (suc (suc (suc (suc (suc (suc (suc (suc (suc (suc (suc (suc zero))))))))))))))))) h = absurd (omega arith)
none_behind (suc (suc (suc (suc (suc (suc (suc (suc (suc (suc (suc (suc (suc (suc (suc (suc (suc (suc zero)))))))))))))))))) h = absurd (omega arith)
none_behind (suc (suc (suc (suc (suc (suc (suc (suc (suc (suc (suc (suc (suc (suc (suc (suc (suc (suc (suc zero))))))))))))))))))) h = absurd (omega arith)
none_behind (suc (suc (suc (suc (suc (suc (suc (suc (suc (suc (suc (suc (suc (suc (suc (suc (suc (suc (suc (suc zero)))))))))))))))))))) h = absurd (omega arith)
none_behind (suc (suc (suc (suc (suc (suc (suc (suc (suc (suc (suc (suc (suc (suc (suc (suc (suc (suc (suc (suc (suc zero))))))))))))))))))))) h = absurd (omega arith)
none_behind (suc (suc (suc (suc (suc (suc (suc (suc (suc (suc (suc (suc (suc (suc (suc (suc (suc (suc (suc (suc (suc (suc zero)))))))))))))))))))))) h = absurd (omega arith)
none_behind (suc (suc (suc (suc (suc (suc (suc (suc (suc (suc (suc (suc (suc (suc (suc (suc (suc (suc (suc (suc (suc (suc (suc zero))))))))))))))))))))))) h = absurd (omega arith)
none_behind (suc (suc (suc (suc (suc (suc (suc (suc (suc (suc (suc (suc (suc (suc (suc (suc (suc (suc (suc (suc (suc (suc (suc (suc zero)))))))))))))))))))))))) h = absurd (omega arith)
none_behind (suc (suc (suc (suc (suc (suc (suc (suc (suc (suc (suc (suc (suc (suc (suc (suc (suc (suc (suc (suc (suc (suc (suc (suc (suc zero))))))))))))))))))))))))) h = absurd (omega arith)
none_behind (suc (suc (suc (suc (suc (suc (suc (suc (suc (suc (suc (suc (suc (suc (suc (suc (suc (suc (suc (suc (suc (suc (suc (suc (suc (suc zero)))))))))))))))))))))))))) h = absurd (omega arith)
none_behind (suc (suc (suc (suc (suc (suc (suc (suc (suc (suc (suc (suc (suc (suc (suc (suc (suc (suc (suc (suc (suc (suc (suc (suc (suc (suc (suc zero))))))))))))))))))))))))))) h = absurd (omega arith)
none_behind (suc (suc (suc (suc (suc (suc (suc (suc (suc (suc (suc (suc (suc (suc (suc (suc (suc (suc (suc (suc (suc (suc (suc (suc (suc (suc (suc (suc zero)))))))))))))))))))))))))))) h = absurd (omega arith)
none_behind (suc (suc (suc (suc (suc (suc (suc (suc (suc (suc (suc (suc (suc (suc (suc (suc (suc (suc (suc (suc (suc (suc (suc (suc (suc (suc (suc (suc (suc zero))))))))))))))))))))))))))))) h = absurd (omega arith)
none_behind (suc (suc (suc (suc (suc (suc (suc (suc (suc (suc (suc (suc (suc (suc (suc (suc (suc (suc (suc (suc (suc (suc (suc (suc (suc (suc (suc (suc (suc (suc zero)))))))))))))))))))))))))))))) h = absurd (omega arith)
none_behind (suc (suc (suc (suc (suc (suc (suc (suc (suc (suc (suc (suc (suc (suc (suc (suc (suc (suc (suc (suc (suc (suc (suc (suc (suc (suc (suc (suc (suc (suc (suc n))))))))))))))))))))))))))))))) h = refl

pub no_refusal : (n : ℕ) → (1 ≤ n → n ≤ 31 → ⊥) → refusal_of n ≡ None
no_refusal zero h = refl
no_refusal (suc n) h = far (cases_lt n 31)
  where
    far : (n < 31) ⊎ (31 ≤ n) → slice_get refusals n ≡ None
    far (inl near) = absurd (h (omega arith) (omega arith))
    far (inr le) = none_behind n le

pub of_its_number : (r : Refusal) → refusal_of (number_of r) ≡ Some r
of_its_number refusal.NoMemory = refl
of_its_number refusal.BadName = refl
of_its_number refusal.UnknownChain = refl
of_its_number refusal.OwnChain = refl
of_its_number refusal.UnknownClient = refl
of_its_number refusal.NotPublished = refl
of_its_number refusal.WrongHeader = refl
of_its_number refusal.UnknownConnection = refl
of_its_number refusal.WrongState = refl
of_its_number refusal.WrongPeer = refl
of_its_number refusal.NoConsensus = refl
of_its_number refusal.BadProof = refl
of_its_number refusal.WrongSelfClient = refl
of_its_number refusal.UnknownPort = refl
of_its_number refusal.UnknownChannel = refl
of_its_number refusal.WrongOrder = refl
of_its_number refusal.WrongVersion = refl
of_its_number refusal.NoTimeout = refl
of_its_number refusal.TimeoutPassed = refl
of_its_number refusal.AlreadyReceived = refl
of_its_number refusal.OutOfOrder = refl
of_its_number refusal.NoCommitment = refl
of_its_number refusal.NotTimedOut = refl
of_its_number refusal.TooLarge = refl
of_its_number refusal.Poor = refl
of_its_number refusal.CloseRefused = refl
of_its_number refusal.TimeBack = refl
of_its_number refusal.TableFull = refl
of_its_number refusal.NumberFull = refl
of_its_number refusal.BadMessage = refl
of_its_number refusal.Pruned = refl

pub small : (r : Refusal) → nat_lt (number_of r) 256 ≡ true
small refusal.NoMemory = refl
small refusal.BadName = refl
small refusal.UnknownChain = refl
small refusal.OwnChain = refl
small refusal.UnknownClient = refl
small refusal.NotPublished = refl
small refusal.WrongHeader = refl
small refusal.UnknownConnection = refl
small refusal.WrongState = refl
small refusal.WrongPeer = refl
small refusal.NoConsensus = refl
small refusal.BadProof = refl
small refusal.WrongSelfClient = refl
small refusal.UnknownPort = refl
small refusal.UnknownChannel = refl
small refusal.WrongOrder = refl
small refusal.WrongVersion = refl
small refusal.NoTimeout = refl
small refusal.TimeoutPassed = refl
small refusal.AlreadyReceived = refl
small refusal.OutOfOrder = refl
small refusal.NoCommitment = refl
small refusal.NotTimedOut = refl
small refusal.TooLarge = refl
small refusal.Poor = refl
small refusal.CloseRefused = refl
small refusal.TimeBack = refl
small refusal.TableFull = refl
small refusal.NumberFull = refl
small refusal.BadMessage = refl
small refusal.Pruned = refl
