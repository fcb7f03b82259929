-- An escrow holds what may be refunded from it, and what is under way back to it; so a list of tokens that may be
-- refunded is refunded whole.
use Rattle.std.proofs.Common.{◌≡◌, ℕ, option_map, zero, suc, ◌+◌, ◌-◌, ◌≤◌, ◌<◌, Bool, true, false, refl, ap, sym, ◌∙◌, subst, List, [], ◌∷◌, ◌++◌, Some, None, arith, nat_cmp, nat_lt, ltb-true, length, Contains, if◌then◌else◌}
use Rattle.std.specs.Option.{option_and_then}
use Rattle.std.proofs.lemmas.List.Sums.{sum_by-cons}
use Rattle.ibc_ids.specs.Texts.{Text, same_text}
use Rattle.ibc_ids.specs.Maps.{at}
use Rattle.ibc_ids.specs.Names.{is_user, hop}
use Rattle.ibc_ids.proofs.Texts.{same_text_itself}
use Rattle.ibc_wire.specs.declared.token.Token.{Token}
use Rattle.ibc_machine.specs.chain.Records.{Commitment}
use Rattle.ibc_machine.specs.ics20.TokenData.{amount_of, tokens_of}
use Rattle.ibc_machine.specs.ics20.Bank.{Balances, balance, escrow, give, with_balance, out_of_escrow}
use Rattle.ibc_machine.specs.ics20.Transfers.{transfer_port, came_over, each_token, refund_token}
use Rattle.ibc_machine.specs.promises.Totals.{has_succeeded}
use Rattle.ibc_machine.specs.chain.Machine.{World}
use Rattle.ibc_machine.specs.promises.Histories.{Happened, End}
use Rattle.ibc_laws.proofs.peers.Peers.{Peers}
use Rattle.ibc_machine.proofs.Measures.{Test, IsSorted}
use Rattle.ibc_laws.proofs.tokens.TokenMoves.{refunded_tokens}
use Rattle.ibc_laws.proofs.tokens.FlightSums.{under_way-settled}
use Rattle.ibc_laws.proofs.tokens.HeldAndIssued.{if_of, kept_of}
use Rattle.ibc_laws.proofs.tokens.TokenShifts.{carried_of, refunded_shift}
use Rattle.ibc_laws.proofs.tokens.BalancedPair.{unless, unless-plus, counts}
use Rattle.ibc_laws.proofs.tokens.PairSteps.{balances_at}
use Rattle.ibc_laws.proofs.tokens.FourthLaw.{Conserving}

-- ---- what the equation says of one packet

module _ (hs : List Happened) (w : World) (all : Conserving hs w) (e f : End) (p : Peers w e f) (is : e.port ≡ transfer_port) (is_there : f.port ≡ transfer_port) where
  pub refund_is_held : (k : ℕ) (c : Commitment) → at nat_cmp k p.mine.commitments ≡ Some c → has_succeeded p.theirs k ≡ false → (denom : Text)
      → kept_of e.channel denom (tokens_of p.mine.end.version c) ≤ balance (balances_at p.here) (escrow e.channel) denom
  refund_is_held k c there counted denom =
      let equation = all.balanced e f p is is_there denom in
      let burns : Bool = came_over transfer_port e.channel denom in
      let sum = under_way-settled p.mine.end.version denom p.theirs k c p.mine.commitments there in
      let term = counts p.mine.end.version denom p.theirs k c counted in
      let parts = sym (ap (λ n. unless burns n) sum) ∙ unless-plus burns _ _ in
      let mine = ap (λ n. unless burns n) term in
      omega arith

  pub arrival_is_held : (k : ℕ) (c : Commitment) → at nat_cmp k p.theirs.commitments ≡ Some c → has_succeeded p.mine k ≡ false → (denom : Text)
      → carried_of f.channel denom (tokens_of p.mine.end.version c) ≤ balance (balances_at p.here) (escrow e.channel) denom
  arrival_is_held k c there counted denom =
      let equation = all.balanced e f p is is_there denom in
      let sum = under_way-settled p.mine.end.version (hop transfer_port f.channel ++ denom) p.mine k c p.theirs.commitments there in
      let term = counts p.mine.end.version (hop transfer_port f.channel ++ denom) p.mine k c counted in
      omega arith

-- the amount of one token is among those of its denomination
pub one_amount : (tokens : List Token) (token : Token) (denom : Text) → token.denom ≡ denom → Contains tokens token → token.amount ≤ amount_of denom tokens
one_amount [] token denom is h = let lt = h.1 in absurd (omega arith)
one_amount (x ∷ xs) token denom is (zero, lt, e) =
    let first = sum_by-cons (if_of denom) x xs in
    let same = ap (λ (t : Token). if_of denom t) e in
    let whole = ap (λ b. if b then token.amount else 0) (subst (λ d. same_text token.denom d ≡ true) is (same_text_itself token.denom)) in
    omega arith
one_amount (x ∷ xs) token denom is (suc k, lt, e) =
    let first = sum_by-cons (if_of denom) x xs in
    let rest = one_amount xs token denom is (k, (let l : suc k < length (x ∷ xs) = lt in omega arith), e) in
    omega arith

-- ---- a list of tokens that may be refunded

kept_of-cons : (channel denom : Text) (token : Token) (tokens : List Token)
    → kept_of channel denom (token ∷ tokens) ≡ kept_of channel denom (token ∷ []) + kept_of channel denom tokens
kept_of-cons channel denom token tokens =
    let burns : Bool = came_over transfer_port channel denom in
    ap (λ n. unless burns n) amounts ∙ unless-plus burns (amount_of denom (token ∷ [])) (amount_of denom tokens)
  where
    amounts : amount_of denom (token ∷ tokens) ≡ amount_of denom (token ∷ []) + amount_of denom tokens
    amounts = let a = sum_by-cons (if_of denom) token tokens in let b = sum_by-cons (if_of denom) token [] in omega arith

any : Test
any key = true

module _ (channel user : Text) (is : is_user user ≡ true) where
  -- one token is refunded where the escrow holds as much
  refunds_one : (token : Token) (b : Balances) → kept_of channel token.denom (token ∷ []) ≤ balance b (escrow channel) token.denom
      → (after : Balances) × (refund_token channel user token b ≡ Some after)
  refunds_one token b enough = go (came_over transfer_port channel token.denom) refl
    where
      of_escrow : came_over transfer_port channel token.denom ≡ false → (t : Bool) → nat_lt (balance b (escrow channel) token.denom) token.amount ≡ t
          → (after : Balances) × (out_of_escrow channel user token b ≡ Some after)
      of_escrow over true short =
          let lt = ltb-true (balance b (escrow channel) token.denom) token.amount short in
          let kept = ap (λ p. unless p (amount_of token.denom (token ∷ []))) over in
          let whole = one_amount (token ∷ []) token token.denom refl (0, omega arith, refl) in
          absurd (omega arith)
      of_escrow over false short = (give user token paid, ap (λ t. option_map (give user token) (if t then None else Some paid)) short)
        where
          paid : Balances
          paid = with_balance (escrow channel) token.denom (balance b (escrow channel) token.denom - token.amount) b

      go : (p : Bool) → came_over transfer_port channel token.denom ≡ p
          → (after : Balances) × ((if p then Some (give user token b) else out_of_escrow channel user token b) ≡ Some after)
      go true over = (give user token b, refl)
      go false over = of_escrow over (nat_lt (balance b (escrow channel) token.denom) token.amount) refl

  pub refunds_all : (tokens : List Token) (b : Balances) → IsSorted b → ((denom : Text) → kept_of channel denom tokens ≤ balance b (escrow channel) denom)
      → (after : Balances) × (each_token (refund_token channel user) tokens b ≡ Some after)
  refunds_all [] b sorted enough = (b, refl)
  refunds_all (token ∷ tokens) b sorted enough =
      let first = refunds_one token b (let whole = enough token.denom in let parts = kept_of-cons channel token.denom token tokens in omega arith) in
      let one : each_token (refund_token channel user) (token ∷ []) b ≡ Some first.0 = ap (λ o. option_and_then (each_token (refund_token channel user) []) o) first.1 in
      let sorted_now = (refunded_tokens any channel user (token ∷ []) b first.0 sorted one).sorted in
      let shift = refunded_shift channel user (token ∷ []) b first.0 sorted is one in
      let rest = refunds_all tokens first.0 sorted_now (λ denom.
      let whole = enough denom in
      let parts = kept_of-cons channel denom token tokens in
      let held = shift.held denom in
      omega arith) in
      (rest.0, ap (λ o. option_and_then (each_token (refund_token channel user) tokens) o) first.1 ∙ rest.1)
