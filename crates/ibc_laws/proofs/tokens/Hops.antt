-- What stands before a denomination that came over a channel ends at its second slash, so that one hop at most
-- stands there; and an escrow is no user, nor another channel's.
use Rattle.std.proofs.Common.{◌≡◌, ℕ, Bool, true, false, refl, sym, ◌∙◌, subst, [], ◌∷◌, ◌++◌, not, ◌==◌, eqb-true}
use Rattle.std.specs.List.{list_all}
use Rattle.ibc_ids.specs.Texts.{Text}
use Rattle.ibc_ids.specs.Names.{is_letter_or_digit, is_user, is_base_denom, hop}
use Rattle.ibc_ids.proofs.Hops.{hop_parts, came_over_is}
use Rattle.ibc_machine.specs.ics20.Bank.{escrow}
use Rattle.ibc_machine.specs.ics20.Transfers.{came_over}
use Rattle.ibc_laws.proofs.basics.PassedTests.{both, and_true}

-- no slash in the text
abbrev pub HasNoSlash : Text → Type 0
HasNoSlash text = list_all (λ c. not (c == 47)) text ≡ true

-- a text is cut at its first slash in one way
cut_same : (a b x y : Text) → HasNoSlash a → HasNoSlash b → a ++ 47 ∷ x ≡ b ++ 47 ∷ y → (a ≡ b) × (x ≡ y)
cut_same [] [] x y ha hb e = (refl, cc e)
cut_same [] (c ∷ cs) x y ha hb e =
    let slash : 47 ≡ c = cc e in
    let head = (both (not (c == 47)) _ hb).0 in
    absurd (cc (subst (λ k. not (k == 47) ≡ true) (sym slash) head))
cut_same (c ∷ cs) [] x y ha hb e =
    let slash : c ≡ 47 = cc e in
    let head = (both (not (c == 47)) _ ha).0 in
    absurd (cc (subst (λ k. not (k == 47) ≡ true) slash head))
cut_same (c ∷ cs) (d ∷ ds) x y ha hb e =
    let same : c ≡ d = cc e in
    let rest : cs ++ 47 ∷ x ≡ ds ++ 47 ∷ y = cc e in
    let h = cut_same cs ds x y (both (not (c == 47)) _ ha).1 (both (not (d == 47)) _ hb).1 rest in
    (cc (same, h.0), h.1)

-- two hops before one text are the same
pub same_hop : (p q c d x y : Text) → HasNoSlash p → HasNoSlash q → HasNoSlash c → HasNoSlash d → hop p c ++ x ≡ hop q d ++ y
    → (p ≡ q) × (c ≡ d) × (x ≡ y)
same_hop p q c d x y hp hq hc hd e =
    let one = cut_same p q (c ++ 47 ∷ x) (d ++ 47 ∷ y) hp hq (sym (hop_parts p c x) ∙ e ∙ hop_parts q d y) in
    let two = cut_same c d x y hc hd one.1 in
    (one.0, two.0, two.1)

-- ---- accounts

no_slash_by : (test : ℕ → Bool) → test 47 ≡ false → (text : Text) → list_all test text ≡ true → HasNoSlash text
no_slash_by test never [] e = refl
no_slash_by test never (c ∷ cs) e =
    let parts = both (test c) _ e in
    let head = go (c == 47) refl parts.0 in
    and_true head (no_slash_by test never cs parts.1)
  where
    go : (b : Bool) → (c == 47) ≡ b → test c ≡ true → not b ≡ true
    go false is passes = refl
    go true is passes = absurd (cc (never, subst (λ k. test k ≡ true) (eqb-true c 47 is) passes))

pub user_has_no_slash : (user : Text) → is_user user ≡ true → HasNoSlash user
user_has_no_slash user e = no_slash_by is_letter_or_digit refl user (both _ (list_all is_letter_or_digit user) e).1

pub base_has_no_slash : (denom : Text) → is_base_denom denom ≡ true → HasNoSlash denom
base_has_no_slash denom e = no_slash_by is_letter_or_digit refl denom (both _ (list_all is_letter_or_digit denom) e).1

-- an escrow's text has a slash
pub escrow_is_no_user : (channel user : Text) → is_user user ≡ true → escrow channel ≡ user → ⊥
escrow_is_no_user channel user e same =
    absurd (cc (subst HasNoSlash (sym same) (user_has_no_slash user e)))

pub escrow_same : (c d : Text) → escrow c ≡ escrow d → c ≡ d
escrow_same c d e = cc e

-- ---- which channel a denomination came over

-- over one channel at most
pub came_over_one : (p q c d denom : Text) → HasNoSlash p → HasNoSlash q → HasNoSlash c → HasNoSlash d
    → came_over p c denom ≡ true → came_over q d denom ≡ true → (p ≡ q) × (c ≡ d)
came_over_one p q c d denom hp hq hc hd one other =
    let h = same_hop p q c d _ _ hp hq hc hd (sym (came_over_is p c denom one) ∙ came_over_is q d denom other) in
    (h.0, h.1)
