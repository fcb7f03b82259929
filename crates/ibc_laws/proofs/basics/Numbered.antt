-- Names that are given by counting: each is of a number below the next one.
use Rattle.std.proofs.Common.{◌≡◌, ℕ, ◌+◌, ◌-◌, ◌^◌, ◌<◌, Bool, true, false, refl, sym, subst, inl, inr, ◌⊎◌, arith, ◌==◌, not}
use Rattle.ibc_ids.specs.Texts.{Text}
use Rattle.ibc_laws.proofs.basics.PassedTests.{number-self}
use Rattle.ibc_laws.proofs.steps.CoreSteps.{IsFree}

pub record Numbered (nth : ℕ → Text) (next : ℕ) (Has : Text → Type 0) : Type 0 where
  pub names : (id : Text) → Has id → (n : ℕ) × (n < next) × (id ≡ nth n)
  pub limit : next < 2 ^ 64

room : (n : ℕ) → n < 2 ^ 64 → IsFree n → n + 1 < 2 ^ 64
room n limit e = go (n == 2 ^ 64 - 1) refl e
  where
    go : (b : Bool) → (n == 2 ^ 64 - 1) ≡ b → not b ≡ true → n + 1 < 2 ^ 64
    go true is f = absurd (cc f)
    go false is f =
        let other : n ≡ 2 ^ 64 - 1 → ⊥ = λ e. absurd (cc (sym is, subst (λ k. (n == k) ≡ true) e (number-self n))) in
        omega arith

module _ {nth : ℕ → Text} {next : ℕ} {Has Later : Text → Type 0} (h : Numbered nth next Has) where
  -- one name more
  pub numbered-more : IsFree next → ((id : Text) → Later id → (id ≡ nth next) ⊎ Has id) → Numbered nth (next + 1) Later
  numbered-more free was = record {
    names = λ id has. elim (was id has) [
      | inl new ↦ (next, omega arith, new)
      | inr old ↦ (let n = h.names id old in (n.0, (let lt : n.0 < next = n.1 in omega arith), n.2))
    ];
    limit = room next h.limit free;
  }

  -- the same names
  pub numbered-same : ((id : Text) → Later id → Has id) → Numbered nth next Later
  numbered-same was = record { names = λ id has. h.names id (was id has); limit = h.limit }

-- the next name isn't there yet
pub none_yet : {nth : ℕ → Text} {next : ℕ} {Has : Text → Type 0} → Numbered nth next Has
    → ((n m : ℕ) → n < 2 ^ 64 → m < 2 ^ 64 → nth n ≡ nth m → n ≡ m) → Has (nth next) → ⊥
none_yet {nth} {next} h differ has =
    let was = h.names (nth next) has in
    let lt : was.0 < next = was.1 in
    let limit : next < 2 ^ 64 = h.limit in
    let same : next ≡ was.0 = differ next was.0 limit (omega arith) was.2 in
    omega arith
