-- When two lists of operations are the same.
use Rattle.std.proofs.Common.{◌≡◌, Bool, bytes_eq, List, ap}
use Rattle.std.specs.Bool.{Decides}
use Rattle.std.specs.Cmp.Lexicographic.{pointwise, pointwise_decides}
use Rattle.std.specs.Ordering.{on, eq_of_both}
use Rattle.std.proofs.lemmas.Bool.{and_parts, and_from}
use Rattle.std.proofs.lemmas.Slice.Eq.{bytes_eq-Decides}
use Rattle.ibc_merkle.specs.declared.proof.Operation.{Operation}

abbrev same_operation : Operation → Operation → Bool
same_operation = eq_of_both (on (λ (o : Operation). o.prefix) bytes_eq) (on (λ (o : Operation). o.suffix) bytes_eq)

operation_decided : (a b : Operation) → Decides (same_operation a b) (a ≡ b)
operation_decided a b =
    let prefix = bytes_eq-Decides a.prefix b.prefix in
    let suffix = bytes_eq-Decides a.suffix b.suffix in (
      λ e. let parts = and_parts (bytes_eq a.prefix b.prefix) (bytes_eq a.suffix b.suffix) e in
          let p = prefix.0 parts.0 in
          let s = suffix.0 parts.1 in
          λ i. record { prefix = p i; suffix = s i },
      λ e. and_from (bytes_eq a.prefix b.prefix) (bytes_eq a.suffix b.suffix) (prefix.1 (ap (λ (o : Operation). o.prefix) e)) (suffix.1 (ap (λ (o : Operation). o.suffix) e)),
    )

pub operations_decided : (a b : List Operation) → Decides (pointwise same_operation a b) (a ≡ b)
operations_decided a b = pointwise_decides operation_decided a b
