-- A varint, one byte at a time.
use Rattle.std.proofs.Common.{◌≡◌, ℕ, ◌+◌, ◌/◌, ◌%◌, ◌^◌, ◌<◌, ◌≤◌, [], ◌∷◌}
use Rattle.ibc_merkle.specs.Hash.{varint}
use Rattle.ibc_merkle.proofs.Varints.{varint-last, varint-more}

pub varint_last : (n : ℕ) → n < 128 → varint n ≡ n ∷ []
varint_last = varint-last

pub varint_more : (n : ℕ) → 128 ≤ n → n < 2 ^ 64 → varint n ≡ (128 + n % 128) ∷ varint (n / 128)
varint_more = varint-more
