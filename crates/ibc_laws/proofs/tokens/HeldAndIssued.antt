-- What the escrow of a channel holds and what a chain has issued of a denomination, as measures of the balances;
-- and what the tokens of a packet weigh in each.
use Rattle.std.proofs.Common.{◌≡◌, ℕ, ◌+◌, Bool, true, false, refl, ap, sym, ◌∙◌, subst, List, [], ◌∷◌, ◌++◌, length, drop, Option, Some, None, arith, ◌&&◌, if◌then◌else◌, unwrap_or}
use Rattle.std.specs.List.{sum_by}
use Rattle.std.specs.Option.{option_map_or}
use Rattle.std.proofs.lemmas.List.Sums.{sum_by-cons}
use Rattle.std.proofs.Math.Seq.{drop-append_seam}
use Rattle.ibc_ids.specs.Texts.{Text, same_text, pair_cmp}
use Rattle.ibc_ids.specs.Maps.{at}
use Rattle.ibc_ids.specs.Names.{is_user, hop}
use Rattle.ibc_wire.specs.declared.token.Token.{Token}
use Rattle.ibc_machine.specs.ics20.TokenData.{amount_of}
use Rattle.ibc_machine.specs.ics20.Bank.{Balances, balance, escrow}
use Rattle.ibc_machine.specs.ics20.Transfers.{transfer_port, came_over}
use Rattle.ibc_laws.proofs.basics.PassedTests.{both, and_true}
use Rattle.ibc_machine.proofs.FiniteMaps.{by_pair}
use Rattle.ibc_machine.proofs.Measures.{Test, IsSorted, amount_in, measure, weigh}
use Rattle.ibc_laws.proofs.tokens.TokenMoves.{unless_burnt}
use Rattle.ibc_laws.proofs.tokens.FlightSums.{sums-differ}
use Rattle.ibc_ids.proofs.Hops.{came_over_is, came_over_by}
use Rattle.ibc_ids.proofs.Texts.{text_same, same_text_itself}
use Rattle.ibc_laws.proofs.tokens.Hops.{HasNoSlash, same_hop, came_over_one, escrow_is_no_user, escrow_same}

pub differ : (a b : Text) → (a ≡ b → ⊥) → same_text a b ≡ false
differ a b other = go (same_text a b) refl
  where
    go : (t : Bool) → same_text a b ≡ t → same_text a b ≡ false
    go true is = absurd (other (text_same a b is))
    go false is = is

-- ---- sums

pub sum-same : {A : Type 0} (f g : A → ℕ) (xs : List A) → ((x : A) → f x ≡ g x) → sum_by f xs ≡ sum_by g xs
sum-same f g [] e = refl
sum-same f g (x ∷ xs) e =
    let h = sum-same f g xs e in
    let a = sum_by-cons f x xs in
    let b = sum_by-cons g x xs in
    let c = e x in
    omega arith

pub sum-zero : {A : Type 0} (f : A → ℕ) (xs : List A) → ((x : A) → f x ≡ 0) → sum_by f xs ≡ 0
sum-zero f [] e = refl
sum-zero f (x ∷ xs) e = let h = sum-zero f xs e in let a = sum_by-cons f x xs in let c = e x in omega arith

pub sum-plus : {A : Type 0} (f g h : A → ℕ) (xs : List A) → ((x : A) → f x ≡ g x + h x) → sum_by f xs ≡ sum_by g xs + sum_by h xs
sum-plus f g h [] e = refl
sum-plus f g h (x ∷ xs) e =
    let i = sum-plus f g h xs e in
    let a = sum_by-cons f x xs in
    let b = sum_by-cons g x xs in
    let c = sum_by-cons h x xs in
    let d = e x in
    omega arith

-- ---- a balance is the measure of one key

abbrev pub at_key : Text → Text → Test
at_key holder denom key = same_text key.0 holder && same_text key.1 denom

at_key-self : (holder denom : Text) → at_key holder denom (holder, denom) ≡ true
at_key-self holder denom = and_true (same_text_itself holder) (same_text_itself denom)

at_key-is : (holder denom : Text) (key : Text × Text) → at_key holder denom key ≡ true → key ≡ (holder, denom)
at_key-is holder denom key e =
    let parts = both (same_text key.0 holder) (same_text key.1 denom) e in
    let h = text_same key.0 holder parts.0 in
    let d = text_same key.1 denom parts.1 in
    λ i. (h i, d i)

abbrev no_amount : (Text × Text) × ℕ → ℕ
no_amount e = 0

pub balance_is : (b : Balances) → IsSorted b → (holder denom : Text) → balance b holder denom ≡ measure (at_key holder denom) b
balance_is b sorted holder denom =
    let sums = sums-differ by_pair (amount_in (at_key holder denom)) no_amount (holder, denom) elsewhere b sorted in
    let none = sum-zero no_amount b (λ e. refl) in
    let here = mine (at pair_cmp (holder, denom) b) in
    let nothing : option_map_or (λ (v : ℕ). no_amount ((holder, denom), v)) (at pair_cmp (holder, denom) b) 0 ≡ 0 = zero_of (at pair_cmp (holder, denom) b) in
    omega arith
  where
    elsewhere : (e : (Text × Text) × ℕ) → (e.0 ≡ (holder, denom) → ⊥) → ◌≡◌ {A = ℕ} 0 (amount_in (at_key holder denom) e)
    elsewhere e other = go (at_key holder denom e.0) refl
      where
        go : (t : Bool) → at_key holder denom e.0 ≡ t → ◌≡◌ {A = ℕ} 0 (if t then e.1 else 0)
        go true is = absurd (other (at_key-is holder denom e.0 is))
        go false is = refl

    mine : (o : Option ℕ) → option_map_or (λ v. amount_in (at_key holder denom) ((holder, denom), v)) o 0 ≡ unwrap_or o 0
    mine (Some n) = ap (λ t. if t then n else 0) (at_key-self holder denom)
    mine None = refl

    zero_of : (o : Option ℕ) → option_map_or (λ (v : ℕ). no_amount ((holder, denom), v)) o 0 ≡ 0
    zero_of (Some n) = refl
    zero_of None = refl

-- ---- what a token weighs

-- the amount, where the token is of the denomination
abbrev pub if_of : Text → Token → ℕ
if_of denom token = if same_text token.denom denom then token.amount else 0

abbrev pub of_denom : Text → Test
of_denom denom key = same_text key.1 denom

abbrev pub escrowed_as : Text → Text → Test
escrowed_as channel denom = at_key (escrow channel) denom

-- in its own escrow
pub weigh_escrow : (channel denom : Text) (token : Token) → weigh (escrowed_as channel denom) (escrow channel) token ≡ if_of denom token
weigh_escrow channel denom token = ap (λ t. if t && same_text token.denom denom then token.amount else 0) (same_text_itself (escrow channel))

-- anywhere else it weighs nothing there
weigh_apart : (channel denom holder : Text) (token : Token) → (holder ≡ escrow channel → ⊥) → weigh (escrowed_as channel denom) holder token ≡ 0
weigh_apart channel denom holder token other =
    ap (λ t. if t && same_text token.denom denom then token.amount else 0) (differ holder (escrow channel) other)

pub weigh_user : (channel denom user : Text) (token : Token) → is_user user ≡ true → weigh (escrowed_as channel denom) user token ≡ 0
weigh_user channel denom user token is = weigh_apart channel denom user token (λ e. escrow_is_no_user channel user is (sym e))

pub weigh_other : (channel other denom : Text) (token : Token) → (other ≡ channel → ⊥) → weigh (escrowed_as channel denom) (escrow other) token ≡ 0
weigh_other channel other denom token apart = weigh_apart channel denom (escrow other) token (λ e. apart (escrow_same other channel e))

-- ---- what isn't burnt of a denomination, and what is

abbrev pub kept_of : Text → Text → List Token → ℕ
kept_of channel denom tokens = if came_over transfer_port channel denom then 0 else amount_of denom tokens

-- the same for a sum of amounts of one denomination
pub unburnt_sum : (port channel denom : Text) (tokens : List Token)
    → sum_by (λ token. unless_burnt port channel token (if_of denom token)) tokens ≡ (if came_over port channel denom then 0 else amount_of denom tokens)
unburnt_sum port channel denom tokens = go (came_over port channel denom) refl
  where
    each : (p : Bool) → came_over port channel denom ≡ p → (token : Token)
        → unless_burnt port channel token (if_of denom token) ≡ (if p then 0 else if_of denom token)
    each p is token = by (same_text token.denom denom) refl
      where
        nothing : (q r : Bool) → ◌≡◌ {A = ℕ} (if q then 0 else 0) (if r then 0 else 0)
        nothing true true = refl
        nothing true false = refl
        nothing false true = refl
        nothing false false = refl

        by : (t : Bool) → same_text token.denom denom ≡ t
            → (if came_over port channel token.denom then 0 else (if t then token.amount else 0)) ≡ (if p then 0 else (if t then token.amount else 0))
        by true same = ap (λ q. if q then 0 else token.amount) (ap (λ d. came_over port channel d) (text_same token.denom denom same) ∙ is)
        by false other = nothing (came_over port channel token.denom) p

    go : (p : Bool) → came_over port channel denom ≡ p
        → sum_by (λ token. unless_burnt port channel token (if_of denom token)) tokens ≡ (if p then 0 else amount_of denom tokens)
    go true is = sum-zero _ tokens (each true is)
    go false is = sum-same _ _ tokens (each false is)

-- ---- denominations with a hop

pub transfer_has_no_slash : HasNoSlash transfer_port
transfer_has_no_slash = refl

pub hop_same : (c d x y : Text) → HasNoSlash c → HasNoSlash d → hop transfer_port c ++ x ≡ hop transfer_port d ++ y → (c ≡ d) × (x ≡ y)
hop_same c d x y hc hd e =
    let h = same_hop transfer_port transfer_port c d x y transfer_has_no_slash transfer_has_no_slash hc hd e in (h.1, h.2)

-- over another channel it didn't come
pub not_over : (channel other denom : Text) → HasNoSlash channel → HasNoSlash other → (channel ≡ other → ⊥)
    → came_over transfer_port channel (hop transfer_port other ++ denom) ≡ false
not_over channel other denom hc ho apart = go (came_over transfer_port channel (hop transfer_port other ++ denom)) refl
  where
    go : (t : Bool) → came_over transfer_port channel (hop transfer_port other ++ denom) ≡ t → came_over transfer_port channel (hop transfer_port other ++ denom) ≡ false
    go true is = absurd (apart (came_over_one transfer_port transfer_port channel other (hop transfer_port other ++ denom)
        transfer_has_no_slash transfer_has_no_slash hc ho is (came_over_by transfer_port other denom)).1)
    go false is = is

-- a token that comes home is the denomination with the hop before it
pub home_is : (port channel denom : Text) (token : Token)
    → (if came_over port channel token.denom then if_of denom (record token { denom = drop (length (hop port channel)) token.denom }) else 0)
    ≡ if_of (hop port channel ++ denom) token
home_is port channel denom token = go (came_over port channel token.denom) refl
  where
    whole : Text
    whole = hop port channel ++ denom

    longer : came_over port channel token.denom ≡ true → (t u : Bool) → same_text (drop (length (hop port channel)) token.denom) denom ≡ t
        → same_text token.denom whole ≡ u → (if t then token.amount else 0) ≡ (if u then token.amount else 0)
    longer came true true is was = refl
    longer came true false is was =
        let same : token.denom ≡ whole = came_over_is port channel token.denom came
        ∙ ap (λ x. hop port channel ++ x) (text_same (drop (length (hop port channel)) token.denom) denom is) in
        absurd (cc (was, subst (λ x. same_text token.denom x ≡ true) same (same_text_itself token.denom)))
    longer came false true is was =
        let same : drop (length (hop port channel)) token.denom ≡ denom =
        ap (λ x. drop (length (hop port channel)) x) (text_same token.denom whole was) ∙ drop-append_seam (hop port channel) denom in
        absurd (cc (
          is,
          subst (λ x. same_text (drop (length (hop port channel)) token.denom) x ≡ true) same
              (same_text_itself (drop (length (hop port channel)) token.denom)),
        ))
    longer came false false is was = refl

    go : (p : Bool) → came_over port channel token.denom ≡ p
        → (if p then (if same_text (drop (length (hop port channel)) token.denom) denom then token.amount else 0) else 0) ≡ if_of whole token
    go true came = longer came (same_text (drop (length (hop port channel)) token.denom) denom) (same_text token.denom whole) refl refl
    go false came = by (same_text token.denom whole) refl
      where
        by : (u : Bool) → same_text token.denom whole ≡ u → ◌≡◌ {A = ℕ} 0 (if u then token.amount else 0)
        by true was = absurd (cc (came, subst (λ x. came_over port channel x ≡ true) (sym (text_same token.denom whole was)) (came_over_by port channel denom)))
        by false was = refl

-- a token that gets a hop of one channel is of a denomination with the hop of another only where they are the same
pub hopped_here : (channel denom : Text) (token : Token) → HasNoSlash channel
    → if_of (hop transfer_port channel ++ denom) (record token { denom = hop transfer_port channel ++ token.denom }) ≡ if_of denom token
hopped_here channel denom token clear = go (same_text (hop transfer_port channel ++ token.denom) (hop transfer_port channel ++ denom)) (same_text token.denom denom) refl refl
  where
    go : (t u : Bool) → same_text (hop transfer_port channel ++ token.denom) (hop transfer_port channel ++ denom) ≡ t → same_text token.denom denom ≡ u
        → (if t then token.amount else 0) ≡ (if u then token.amount else 0)
    go true true is was = refl
    go false false is was = refl
    go true false is was =
        let same = (hop_same channel channel token.denom denom clear clear (text_same (hop transfer_port channel ++ token.denom) _ is)).1 in
        absurd (cc (was, subst (λ x. same_text token.denom x ≡ true) same (same_text_itself token.denom)))
    go false true is was =
        let same = text_same token.denom denom was in
        absurd (cc (
          is,
          subst (λ x. same_text (hop transfer_port channel ++ token.denom) (hop transfer_port channel ++ x) ≡ true) same
              (same_text_itself (hop transfer_port channel ++ token.denom)),
        ))

pub hopped_elsewhere : (channel other denom : Text) (token : Token) → HasNoSlash channel → HasNoSlash other → (channel ≡ other → ⊥)
    → if_of (hop transfer_port other ++ denom) (record token { denom = hop transfer_port channel ++ token.denom }) ≡ 0
hopped_elsewhere channel other denom token hc ho apart =
    ap (λ t. if t then token.amount else 0) (differ (hop transfer_port channel ++ token.denom) (hop transfer_port other ++ denom)
    (λ e. apart (hop_same channel other token.denom denom hc ho e).0))
