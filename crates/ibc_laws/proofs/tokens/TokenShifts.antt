-- How the tokens of a packet shift what the escrow of a channel holds and what is issued of the denominations that
-- came over the channel: where they leave over it, come back, or arrive; and that they shift no other channel's.
use Rattle.std.proofs.Common.{◌≡◌, ℕ, ◌+◌, Bool, true, false, refl, ap, ◌∙◌, List, ◌++◌, Some, arith, if◌then◌else◌}
use Rattle.std.specs.List.{sum_by}
use Rattle.ibc_ids.specs.Texts.{Text}
use Rattle.ibc_ids.specs.Names.{is_user, hop}
use Rattle.ibc_wire.specs.declared.packet.Packet.{Packet}
use Rattle.ibc_wire.specs.declared.token.Token.{Token}
use Rattle.ibc_machine.specs.ics20.TokenData.{amount_of}
use Rattle.ibc_machine.specs.ics20.Bank.{Balances, balance, supply, escrow}
use Rattle.ibc_machine.specs.ics20.Transfers.{transfer_port, came_over, each_token, send_token, refund_token, receive_token, without_hop}
use Rattle.ibc_machine.proofs.Measures.{IsSorted, Moved, weigh}
use Rattle.ibc_laws.proofs.tokens.TokenMoves.{unless_burnt, hopped_token, receive_out, receive_gain, sent_tokens, refunded_tokens, received_tokens}
use Rattle.ibc_ids.proofs.Hops.{came_over_by}
use Rattle.ibc_laws.proofs.tokens.Hops.{HasNoSlash}
use Rattle.ibc_laws.proofs.tokens.HeldAndIssued.{sum-same, sum-zero, sum-plus, balance_is, if_of, of_denom, escrowed_as, weigh_escrow, weigh_user, weigh_other, kept_of, unburnt_sum, not_over, home_is, hopped_here, hopped_elsewhere}

-- the escrow of the channel loses and gains so much of each denomination; so much is burnt and issued of the
-- denomination with the channel's hop before it
pub record Shift (before after : Balances) (channel : Text) (lost gained burnt issued : Text → ℕ) : Type 0 where
  pub held : (denom : Text) → balance after (escrow channel) denom + lost denom ≡ balance before (escrow channel) denom + gained denom
  pub made : (denom : Text) → supply after (hop transfer_port channel ++ denom) + burnt denom ≡ supply before (hop transfer_port channel ++ denom) + issued denom

abbrev pub nothing : Text → ℕ
nothing denom = 0

abbrev pub Unshifted : Balances → Balances → Text → Type 0
Unshifted before after channel = Shift before after channel nothing nothing nothing nothing

pub unshifted : (b : Balances) (channel : Text) → Unshifted b b channel
unshifted b channel = record { held = λ denom. refl; made = λ denom. refl }

-- what goes home with the tokens: the amounts of the denomination with the channel's hop before it
abbrev pub carried_of : Text → Text → List Token → ℕ
carried_of channel denom tokens = amount_of (hop transfer_port channel ++ denom) tokens

-- a measure of one escrow, as its balance
held_by : (channel denom : Text) (b after : Balances) (out gain : ℕ) → IsSorted b → Moved (escrowed_as channel denom) b after out gain
    → balance after (escrow channel) denom + out ≡ balance b (escrow channel) denom + gain
held_by channel denom b after out gain sorted m =
    let old = balance_is b sorted (escrow channel) denom in
    let new = balance_is after m.sorted (escrow channel) denom in
    let x = m.measured in
    omega arith

choose_same : (p : Bool) (n : ℕ) → p ≡ true → (if p then 0 else n) ≡ 0
choose_same true n e = refl
choose_same false n e = absurd (cc e)

pub nothing_kept : (port channel : Text) (token : Token) (n : ℕ) → n ≡ 0 → unless_burnt port channel token n ≡ 0
nothing_kept port channel token n e = go (came_over port channel token.denom)
  where
    go : (p : Bool) → (if p then 0 else n) ≡ 0
    go true = refl
    go false = e

kept_alike : (port channel : Text) (token : Token) (n m : ℕ) → n ≡ m → unless_burnt port channel token n ≡ unless_burnt port channel token m
kept_alike port channel token n m e = ap (λ k. unless_burnt port channel token k) e

-- what isn't burnt of a denomination with a hop, by whether the hop is the channel's
kept_of_hopped : (channel denom : Text) (tokens : List Token)
    → sum_by (λ token. unless_burnt transfer_port channel token (if_of (hop transfer_port channel ++ denom) token)) tokens ≡ 0
kept_of_hopped channel denom tokens =
    unburnt_sum transfer_port channel (hop transfer_port channel ++ denom) tokens
    ∙ choose_same (came_over transfer_port channel (hop transfer_port channel ++ denom)) _ (came_over_by transfer_port channel denom)

kept_of_other : (channel other denom : Text) (tokens : List Token) → HasNoSlash channel → HasNoSlash other → (channel ≡ other → ⊥)
    → sum_by (λ token. unless_burnt transfer_port channel token (if_of (hop transfer_port other ++ denom) token)) tokens ≡ carried_of other denom tokens
kept_of_other channel other denom tokens hc ho apart =
    unburnt_sum transfer_port channel (hop transfer_port other ++ denom) tokens
    ∙ ap (λ p. if p then 0 else carried_of other denom tokens) (not_over channel other denom hc ho apart)

-- what goes into the escrow, and what goes into another one
kept_in_escrow : (channel denom : Text) (tokens : List Token)
    → sum_by (λ token. unless_burnt transfer_port channel token (weigh (escrowed_as channel denom) (escrow channel) token)) tokens ≡ kept_of channel denom tokens
kept_in_escrow channel denom tokens =
    sum-same _ _ tokens (λ token. kept_alike transfer_port channel token _ _ (weigh_escrow channel denom token))
    ∙ unburnt_sum transfer_port channel denom tokens

kept_in_other : (channel other denom : Text) (tokens : List Token) → (channel ≡ other → ⊥)
    → sum_by (λ token. unless_burnt transfer_port channel token (weigh (escrowed_as other denom) (escrow channel) token)) tokens ≡ 0
kept_in_other channel other denom tokens apart =
    sum-zero _ tokens (λ token. nothing_kept transfer_port channel token _ (weigh_other other channel denom token apart))

of_user : (channel denom user : Text) (tokens : List Token) → is_user user ≡ true → sum_by (weigh (escrowed_as channel denom) user) tokens ≡ 0
of_user channel denom user tokens is = sum-zero _ tokens (λ token. weigh_user channel denom user token is)

-- ---- tokens leave over a channel, and come back

module _ (channel user : Text) (tokens : List Token) (b after : Balances) (sorted : IsSorted b) (is : is_user user ≡ true) where
  pub sent_shift : each_token (send_token channel user) tokens b ≡ Some after
      → Shift b after channel nothing (λ d. kept_of channel d tokens) (λ d. carried_of channel d tokens) nothing
  sent_shift e = record {
    held = λ denom.
        let x = held_by channel denom b after _ _ sorted (sent_tokens (escrowed_as channel denom) channel user tokens b after sorted e) in
        let paid = of_user channel denom user tokens is in
        let kept = kept_in_escrow channel denom tokens in
        omega arith;
    made = λ denom.
        let x = (sent_tokens (of_denom (hop transfer_port channel ++ denom)) channel user tokens b after sorted e).measured in
        let kept = kept_of_hopped channel denom tokens in
        omega arith;
  }

  pub refunded_shift : each_token (refund_token channel user) tokens b ≡ Some after
      → Shift b after channel (λ d. kept_of channel d tokens) nothing nothing (λ d. carried_of channel d tokens)
  refunded_shift e = record {
    held = λ denom.
        let x = held_by channel denom b after _ _ sorted (refunded_tokens (escrowed_as channel denom) channel user tokens b after sorted e) in
        let paid = of_user channel denom user tokens is in
        let kept = kept_in_escrow channel denom tokens in
        omega arith;
    made = λ denom.
        let x = (refunded_tokens (of_denom (hop transfer_port channel ++ denom)) channel user tokens b after sorted e).measured in
        let kept = kept_of_hopped channel denom tokens in
        omega arith;
  }

  module _ (other : Text) (clear : HasNoSlash channel) (clear_other : HasNoSlash other) (apart : channel ≡ other → ⊥) where
    pub sent_elsewhere : each_token (send_token channel user) tokens b ≡ Some after → Unshifted b after other
    sent_elsewhere e = record {
      held = λ denom.
          let x = held_by other denom b after _ _ sorted (sent_tokens (escrowed_as other denom) channel user tokens b after sorted e) in
          let paid = of_user other denom user tokens is in
          let kept = kept_in_other channel other denom tokens apart in
          omega arith;
      made = λ denom.
          let x = (sent_tokens (of_denom (hop transfer_port other ++ denom)) channel user tokens b after sorted e).measured in
          let kept = kept_of_other channel other denom tokens clear clear_other apart in
          omega arith;
    }

    pub refunded_elsewhere : each_token (refund_token channel user) tokens b ≡ Some after → Unshifted b after other
    refunded_elsewhere e = record {
      held = λ denom.
          let x = held_by other denom b after _ _ sorted (refunded_tokens (escrowed_as other denom) channel user tokens b after sorted e) in
          let paid = of_user other denom user tokens is in
          let kept = kept_in_other channel other denom tokens apart in
          omega arith;
      made = λ denom.
          let x = (refunded_tokens (of_denom (hop transfer_port other ++ denom)) channel user tokens b after sorted e).measured in
          let kept = kept_of_other channel other denom tokens clear clear_other apart in
          omega arith;
    }

-- ---- tokens arrive over a channel

-- what is issued of a denomination, beside what only moves
issues : (p : Packet) (user denom : Text) (token : Token)
    → receive_gain (of_denom denom) p user token
    ≡ receive_out (of_denom denom) p token + unless_burnt p.source_port p.source_channel token (if_of denom (hopped_token p token))
issues p user denom token = go (came_over p.source_port p.source_channel token.denom)
  where
    go : (q : Bool) → (if q then if_of denom (without_hop p token) else if_of denom (hopped_token p token))
        ≡ (if q then if_of denom (without_hop p token) else 0) + (if q then 0 else if_of denom (hopped_token p token))
    go true = omega arith
    go false = omega arith

gains_nothing : (p : Packet) (channel denom user : Text) (token : Token) → is_user user ≡ true
    → receive_gain (escrowed_as channel denom) p user token ≡ 0
gains_nothing p channel denom user token is = go (came_over p.source_port p.source_channel token.denom)
  where
    go : (q : Bool) → (if q then weigh (escrowed_as channel denom) user (without_hop p token) else weigh (escrowed_as channel denom) user (hopped_token p token)) ≡ 0
    go true = weigh_user channel denom user (without_hop p token) is
    go false = weigh_user channel denom user (hopped_token p token) is

leaves_escrow : (p : Packet) (denom : Text) (token : Token)
    → receive_out (escrowed_as p.destination_channel denom) p token ≡ if_of (hop p.source_port p.source_channel ++ denom) token
leaves_escrow p denom token =
    ap (λ n. if came_over p.source_port p.source_channel token.denom then n else 0) (weigh_escrow p.destination_channel denom (without_hop p token))
    ∙ home_is p.source_port p.source_channel denom token

leaves_other : (p : Packet) (other denom : Text) (token : Token) → (p.destination_channel ≡ other → ⊥)
    → receive_out (escrowed_as other denom) p token ≡ 0
leaves_other p other denom token apart =
    ap (λ n. if came_over p.source_port p.source_channel token.denom then n else 0) (weigh_other other p.destination_channel denom (without_hop p token) apart)
    ∙ both_zero (came_over p.source_port p.source_channel token.denom)
  where
    both_zero : (q : Bool) → ◌≡◌ {A = ℕ} (if q then 0 else 0) 0
    both_zero true = refl
    both_zero false = refl

module _ (in_flight : Text → ℕ) (p : Packet) (to : p.destination_port ≡ transfer_port) (clear : HasNoSlash p.destination_channel)
    (user : Text) (tokens : List Token) (b after : Balances) (sorted : IsSorted b) (is : is_user user ≡ true)
    (e : each_token (receive_token in_flight p user) tokens b ≡ Some after) where
  -- the token that is issued, on port `transfer`
  issued_as : (denom : Text) (token : Token) → if_of denom (hopped_token p token)
      ≡ if_of denom (record token { denom = hop transfer_port p.destination_channel ++ token.denom })
  issued_as denom token = ap (λ q. if_of denom (record token { denom = hop q p.destination_channel ++ token.denom })) to

  pub received_shift : Shift b after p.destination_channel (λ d. amount_of (hop p.source_port p.source_channel ++ d) tokens) nothing nothing
      (λ d. if came_over p.source_port p.source_channel d then 0 else amount_of d tokens)
  received_shift = record {
    held = λ denom.
        let x = held_by p.destination_channel denom b after _ _ sorted (received_tokens (escrowed_as p.destination_channel denom) in_flight p user tokens b after sorted e) in
        let gain = sum-zero (receive_gain (escrowed_as p.destination_channel denom) p user) tokens (λ token. gains_nothing p p.destination_channel denom user token is) in
        let out = sum-same _ _ tokens (leaves_escrow p denom) in
        omega arith;
    made = λ denom.
        let whole : Text = hop transfer_port p.destination_channel ++ denom in
        let x = (received_tokens (of_denom whole) in_flight p user tokens b after sorted e).measured in
        let parts = sum-plus _ _ _ tokens (issues p user whole) in
        let new = sum-same _ _ tokens (λ token. kept_alike p.source_port p.source_channel token _ _ (issued_as whole token ∙ hopped_here p.destination_channel denom token clear)) in
        let sum = unburnt_sum p.source_port p.source_channel denom tokens in
        omega arith;
  }

  pub received_elsewhere : (other : Text) → HasNoSlash other → (p.destination_channel ≡ other → ⊥) → Unshifted b after other
  received_elsewhere other clear_other apart = record {
    held = λ denom.
        let x = held_by other denom b after _ _ sorted (received_tokens (escrowed_as other denom) in_flight p user tokens b after sorted e) in
        let gain = sum-zero (receive_gain (escrowed_as other denom) p user) tokens (λ token. gains_nothing p other denom user token is) in
        let out = sum-zero (receive_out (escrowed_as other denom) p) tokens (λ token. leaves_other p other denom token apart) in
        omega arith;
    made = λ denom.
        let whole : Text = hop transfer_port other ++ denom in
        let x = (received_tokens (of_denom whole) in_flight p user tokens b after sorted e).measured in
        let parts = sum-plus _ _ _ tokens (issues p user whole) in
        let new = sum-zero (λ token. unless_burnt p.source_port p.source_channel token (if_of whole (hopped_token p token))) tokens
        (λ token. nothing_kept p.source_port p.source_channel token _ (issued_as whole token ∙ hopped_elsewhere p.destination_channel other denom token clear clear_other apart)) in
        omega arith;
  }
