-- Moves of a bank one after another do to its balances what the tokens do one after another, and count what is burnt.
use Rattle.std.proofs.Common.{◌≡◌, ℕ, ◌+◌, ◌-◌, ◌≤◌, Bool, true, false, refl, ap, sym, ◌∙◌, subst, List, [], ◌∷◌, map, Option, Some, None, Ok, Err, arith, nat_lt, ltb-false, if◌then◌else◌, option_map}
use Rattle.std.specs.Prelude.{IsTrue}
use Rattle.std.specs.FinMap.{is_sorted}
use Rattle.std.specs.Option.{option_and_then}
use Rattle.std.proofs.lemmas.Bool.Decides.{nat_tests}
use Rattle.std.proofs.lemmas.List.Sums.{sum_by-cons}
use Rattle.ibc_ids.specs.Texts.{Text, same_text, text_cmp}
use Rattle.ibc_ids.specs.declared.refusal.Refusal.TheVariants.{Poor}
use Rattle.ibc_ids.specs.Maps.{Map}
use Rattle.ibc_ids.proofs.Texts.{text_cmp_total, same_text_itself}
use Rattle.ibc_wire.specs.declared.token.Token.{Token}
use Rattle.ibc_machine.specs.ics20.Bank.{Balances, give, pay, into_escrow, out_of_escrow}
use Rattle.ibc_machine.specs.chain.Checks.{Checked, expect, go_on, ◌>>=◌}
use Rattle.ibc_machine.specs.ics20.TokenData.{amount_of}
use Rattle.ibc_machine.specs.ics20.Transfers.{transfer_port, came_over, each_token, send_token, refund_token}
use Rattle.ibc_machine.proofs.FiniteMaps.{by_text}
use Rattle.ibc_machine.proofs.SortedMaps.{Sorted-from, Sorted-to}
use Rattle.ibc_machine.proofs.PassedRows.{bind_passed, ok_same}
use Rattle.ibc_machine.specs.ics20.ReturningTokens.{returned_amount}
use Rattle.ibc_bank.specs.Amounts.{amount_at, with_amount}
use Rattle.ibc_bank.specs.Moves.{BankState, burnt_of, with_burnt, with_balances, after_settlement, after_move, after_moves}
use Rattle.ibc_bank.specs.declared.moves.Move.{Move}
use Rattle.ibc_bank.specs.declared.moves.Move.TheVariants as move
use Rattle.ibc_bank.specs.declared.moves.Source.TheVariants as source
use Rattle.ibc_bank.proofs.Writes.{by_denom, denom_amount, sorted-with_amount}
use Rattle.ibc_transfer.specs.BankCallbacks.{refund_move, settle_tokens}
use Rattle.ibc_transfer.specs.BankTransfers.{send_move}

-- ---- the balances that moves leave

abbrev pub balances_after : Checked BankState → Checked Balances
balances_after moves = moves >>= λ left. Ok left.balances

-- a step of a bank leaves the balances that the other step leaves, or is refused for want where that one is
abbrev pub IsStep : Checked BankState → Option Balances → Type 0
IsStep step o = balances_after step ≡ expect o Poor

-- so do two steps, one after another
then_step : (step : Checked BankState) (o : Option Balances) (rest : BankState → Checked BankState) (others : Balances → Option Balances)
    → IsStep step o → ((left : BankState) → step ≡ Ok left → IsStep (rest left) (others left.balances))
    → IsStep (step >>= rest) (option_and_then others o)
unfolding go_on
then_step (Ok left) (Some b) rest others is next = let same : left.balances ≡ b = cc in next left refl ∙ ap (λ x. expect (others x) Poor) same
then_step (Ok left) None rest others is next = absurd (cc is)
then_step (Err r) (Some b) rest others is next = absurd (cc is)
then_step (Err r) None rest others is next = is

-- a step that is made of what the balances become
made : (o : Option Balances) (of : Balances → BankState) → ((b : Balances) → (of b).balances ≡ b) → IsStep (expect (option_map of o) Poor) o
unfolding go_on
made (Some b) of same = ap (λ x. Ok x) (same b)
made None of same = refl

-- and what it leaves of what was burnt, where the balances don't matter for it
left_is : (o : Option Balances) (of : Balances → BankState) (burnt : Map Text ℕ) → ((b : Balances) → (of b).burnt ≡ burnt)
    → (left : BankState) → expect (option_map of o) Poor ≡ Ok left → left.burnt ≡ burnt
left_is (Some b) of burnt same left e = ap (λ (x : BankState). x.burnt) (sym (ok_same e)) ∙ same b
left_is None of burnt same left e = absurd (cc e)

-- ---- what goes back

-- the tokens apart are burnt in the one bank and not in the other, each map in the order of its denominations
pub record AreBurntIn (channel : Text) (tokens : List Token) (more fewer : BankState) : Type 0 where
  pub more_sorted : IsTrue (is_sorted text_cmp more.burnt)
  pub fewer_sorted : IsTrue (is_sorted text_cmp fewer.burnt)
  pub counted : (denom : Text) → burnt_of more denom ≡ burnt_of fewer denom + returned_amount channel tokens denom

-- of no tokens goes back nothing
none_returned : (channel denom : Text) → returned_amount channel [] denom ≡ 0
none_returned channel denom = go (came_over transfer_port channel denom)
  where
    go : (b : Bool) → (if b then amount_of denom [] else 0) ≡ 0
    go true = refl
    go false = refl

-- of several, the first one's share and the others'
first_returned : (channel : Text) (token : Token) (tokens : List Token) (denom : Text)
    → returned_amount channel (token ∷ tokens) denom ≡ returned_amount channel (token ∷ []) denom + returned_amount channel tokens denom
first_returned channel token tokens denom = go (came_over transfer_port channel denom)
  where
    go : (b : Bool) → (if b then amount_of denom (token ∷ tokens) else 0)
        ≡ (if b then amount_of denom (token ∷ []) else 0) + (if b then amount_of denom tokens else 0)
    go true =
        let all = sum_by-cons (λ (t : Token). if same_text t.denom denom then t.amount else 0) token tokens in
        let one = sum_by-cons (λ (t : Token). if same_text t.denom denom then t.amount else 0) token [] in
        omega arith
    go false = refl

nothing : (b : Bool) → (if b then 0 + 0 else 0) ≡ 0
nothing true = refl
nothing false = refl

module _ (channel : Text) (token : Token) where
  -- a token that came over the channel goes back over it
  goes_back : came_over transfer_port channel token.denom ≡ true → (denom : Text)
      → returned_amount channel (token ∷ []) denom ≡ (if same_text token.denom denom then token.amount else 0)
  goes_back back denom =
      by_denom token.denom denom (λ same d. (if came_over transfer_port channel d then 0 + (if same then token.amount else 0) else 0) ≡ (if same then token.amount else 0))
      (let one = ap (λ b. if b then 0 + token.amount else 0) back in omega arith) (nothing (came_over transfer_port channel denom))

  -- another one doesn't
  stays : came_over transfer_port channel token.denom ≡ false → (denom : Text) → returned_amount channel (token ∷ []) denom ≡ 0
  stays here denom =
      by_denom token.denom denom (λ same d. (if came_over transfer_port channel d then 0 + (if same then token.amount else 0) else 0) ≡ 0)
      (ap (λ b. if b then 0 + token.amount else 0) here) (nothing (came_over transfer_port channel denom))

-- ---- what one move does to what was burnt

-- the map stays in order
sorted_after : (denom : Text) (n : ℕ) (m : Map Text ℕ) → IsTrue (is_sorted text_cmp m) → IsTrue (is_sorted text_cmp (with_amount text_cmp denom n m))
sorted_after denom n m sorted = Sorted-to text_cmp _ (sorted-with_amount text_cmp_total by_text denom n m (Sorted-from text_cmp m sorted))

module _ (channel : Text) (token : Token) where
  -- more of it is burnt
  burnt_more : (bank left : BankState) → IsTrue (is_sorted text_cmp bank.burnt) → came_over transfer_port channel token.denom ≡ true
      → left.burnt ≡ with_amount text_cmp token.denom (burnt_of bank token.denom + token.amount) bank.burnt
      → AreBurntIn channel (token ∷ []) left bank
  burnt_more bank left sorted back is = record {
    more_sorted = ap (is_sorted text_cmp) is ∙ sorted_after token.denom (burnt_of bank token.denom + token.amount) bank.burnt sorted;
    fewer_sorted = sorted;
    counted = λ denom.
        let now : burnt_of left denom ≡ (if same_text token.denom denom then burnt_of bank token.denom + token.amount else burnt_of bank denom) =
        ap (amount_at text_cmp denom) is ∙ denom_amount token.denom denom (burnt_of bank token.denom + token.amount) bank.burnt sorted in
        let back = goes_back channel token back denom in
        let sum : (if same_text token.denom denom then burnt_of bank token.denom + token.amount else burnt_of bank denom) ≡ burnt_of bank denom + (if same_text token.denom denom then token.amount else 0) =
        by_denom token.denom denom (λ same d. (if same then burnt_of bank token.denom + token.amount else burnt_of bank d) ≡ burnt_of bank d + (if same then token.amount else 0)) refl (omega arith) in
        omega arith;
  }

  -- less of it is burnt
  burnt_less : (bank left : BankState) → IsTrue (is_sorted text_cmp bank.burnt) → came_over transfer_port channel token.denom ≡ true
      → token.amount ≤ burnt_of bank token.denom → left.burnt ≡ with_amount text_cmp token.denom (burnt_of bank token.denom - token.amount) bank.burnt
      → AreBurntIn channel (token ∷ []) bank left
  burnt_less bank left sorted back enough is = record {
    more_sorted = sorted;
    fewer_sorted = ap (is_sorted text_cmp) is ∙ sorted_after token.denom (burnt_of bank token.denom - token.amount) bank.burnt sorted;
    counted = λ denom.
        let now : burnt_of left denom ≡ (if same_text token.denom denom then burnt_of bank token.denom - token.amount else burnt_of bank denom) =
        ap (amount_at text_cmp denom) is ∙ denom_amount token.denom denom (burnt_of bank token.denom - token.amount) bank.burnt sorted in
        let back = goes_back channel token back denom in
        let sum : burnt_of bank denom ≡ (if same_text token.denom denom then burnt_of bank token.denom - token.amount else burnt_of bank denom) + (if same_text token.denom denom then token.amount else 0) =
        by_denom token.denom denom (λ same d. burnt_of bank d ≡ (if same then burnt_of bank token.denom - token.amount else burnt_of bank d) + (if same then token.amount else 0)) (omega arith) (omega arith) in
        omega arith;
  }

  -- nothing of it is burnt, since it stays
  none_burnt : (more fewer : BankState) → IsTrue (is_sorted text_cmp fewer.burnt) → came_over transfer_port channel token.denom ≡ false → more.burnt ≡ fewer.burnt
      → AreBurntIn channel (token ∷ []) more fewer
  none_burnt more fewer sorted here is = record {
    more_sorted = ap (is_sorted text_cmp) is ∙ sorted;
    fewer_sorted = sorted;
    counted = λ denom. let same = ap (amount_at text_cmp denom) is in let none = stays channel token here denom in omega arith;
  }

-- some tokens and then the others
burnt_through : (channel : Text) (all some others : List Token) (more between fewer : BankState)
    → ((denom : Text) → returned_amount channel all denom ≡ returned_amount channel some denom + returned_amount channel others denom)
    → AreBurntIn channel some more between → AreBurntIn channel others between fewer → AreBurntIn channel all more fewer
burnt_through channel all some others more between fewer parts first rest = record {
  more_sorted = first.more_sorted;
  fewer_sorted = rest.fewer_sorted;
  counted = λ denom.
      let whole = parts denom in
      let one = first.counted denom in
      let other = rest.counted denom in
      omega arith;
}

-- no tokens
pub burnt_alike : (channel : Text) (bank : BankState) → IsTrue (is_sorted text_cmp bank.burnt) → AreBurntIn channel [] bank bank
burnt_alike channel bank sorted = record {
  more_sorted = sorted;
  fewer_sorted = sorted;
  counted = λ denom. let none = none_returned channel denom in omega arith;
}

-- where as much was burnt as goes back
abbrev pub IsCovered : Text → List Token → BankState → Type 0
IsCovered channel tokens bank = (denom : Text) → returned_amount channel tokens denom ≤ burnt_of bank denom

-- then as much as the first token, and once it is gone as much as the others
covers_first : (channel : Text) (token : Token) (tokens : List Token) (bank : BankState) → IsCovered channel (token ∷ tokens) bank
    → came_over transfer_port channel token.denom ≡ true → token.amount ≤ burnt_of bank token.denom
covers_first channel token tokens bank covers back =
    let all = first_returned channel token tokens token.denom in
    let one = goes_back channel token back token.denom in
    let itself = ap (λ b. if b then token.amount else 0) (same_text_itself token.denom) in
    let limit = covers token.denom in
    omega arith

covers_others : (channel : Text) (token : Token) (tokens : List Token) (bank left : BankState) → IsCovered channel (token ∷ tokens) bank
    → AreBurntIn channel (token ∷ []) bank left → IsCovered channel tokens left
covers_others channel token tokens bank left covers one denom =
    let all = first_returned channel token tokens denom in
    let first = one.counted denom in
    let limit = covers denom in
    omega arith

-- ---- sending

module _ (channel user : Text) (token : Token) (bank : BankState) where
  abbrev burning : Balances → BankState
  burning balances = with_burnt token.denom (burnt_of bank token.denom + token.amount) (with_balances bank balances)

  abbrev sending : Bool → Move
  sending back = if back then move.Burn user token.denom token.amount else move.Escrow user channel token.denom token.amount

  -- what sending the token does to the balances
  send_step : IsStep (after_move (send_move channel user token) bank) (send_token channel user token bank.balances)
  send_step = go (came_over transfer_port channel token.denom)
    where
      go : (b : Bool) → IsStep (after_move (sending b) bank) (if b then pay user token bank.balances else into_escrow channel user token bank.balances)
      go true = made (pay user token bank.balances) burning (λ b. refl)
      go false = made (into_escrow channel user token bank.balances) (with_balances bank) (λ b. refl)

  -- and to what was burnt
  send_burns : IsTrue (is_sorted text_cmp bank.burnt) → (left : BankState) → after_move (send_move channel user token) bank ≡ Ok left → AreBurntIn channel (token ∷ []) left bank
  send_burns sorted left e = go (came_over transfer_port channel token.denom) refl e
    where
      go : (b : Bool) → came_over transfer_port channel token.denom ≡ b → after_move (sending b) bank ≡ Ok left → AreBurntIn channel (token ∷ []) left bank
      go true back e = burnt_more channel token bank left sorted back (left_is (pay user token bank.balances) burning _ (λ b. refl) left e)
      go false here e = none_burnt channel token left bank sorted here (left_is (into_escrow channel user token bank.balances) (with_balances bank) _ (λ b. refl) left e)

-- the tokens leave the sender
pub sends_by_moves : (channel user : Text) (tokens : List Token) (bank : BankState)
    → IsStep (after_moves (map (send_move channel user) tokens) bank) (each_token (send_token channel user) tokens bank.balances)
unfolding go_on
sends_by_moves channel user [] bank = refl
sends_by_moves channel user (token ∷ tokens) bank =
    then_step (after_move (send_move channel user token) bank) (send_token channel user token bank.balances) _ _
    (send_step channel user token bank) (λ left is. sends_by_moves channel user tokens left)

-- and what goes back is burnt
pub sends_burn : (channel user : Text) (tokens : List Token) (bank left : BankState) → IsTrue (is_sorted text_cmp bank.burnt)
    → after_moves (map (send_move channel user) tokens) bank ≡ Ok left → AreBurntIn channel tokens left bank
sends_burn channel user [] bank left sorted e = subst (λ b. AreBurntIn channel [] b bank) (ok_same e) (burnt_alike channel bank sorted)
sends_burn channel user (token ∷ tokens) bank left sorted e =
    let first = bind_passed (after_move (send_move channel user token) bank) _ e in
    let one = send_burns channel user token bank sorted first.0 first.1 in
    burnt_through channel (token ∷ tokens) tokens (token ∷ []) left first.0 bank (λ denom. let parts = first_returned channel token tokens denom in omega arith)
    (sends_burn channel user tokens first.0 left one.more_sorted first.2) one

-- ---- refunds

module _ (channel user : Text) (token : Token) (bank : BankState) where
  abbrev minting : BankState
  minting = with_burnt token.denom (burnt_of bank token.denom - token.amount) (with_balances bank (give user token bank.balances))

  abbrev refunding : Bool → Move
  refunding back = if back then move.Refund user source.Burnt token.denom token.amount else move.Refund user (source.Escrow channel) token.denom token.amount

  abbrev minted_again : Bool → Option BankState
  minted_again short = if short then None else Some minting

  minted_step : IsStep (expect (minted_again false) Poor) (Some (give user token bank.balances))
  unfolding go_on
  minted_step = refl

  -- what refunding the token does to the balances
  refund_step : (came_over transfer_port channel token.denom ≡ true → token.amount ≤ burnt_of bank token.denom)
      → IsStep (after_move (refund_move channel user token) bank) (refund_token channel user token bank.balances)
  refund_step enough = go (came_over transfer_port channel token.denom) refl
    where
      go : (b : Bool) → came_over transfer_port channel token.denom ≡ b
          → IsStep (after_move (refunding b) bank) (if b then Some (give user token bank.balances) else out_of_escrow channel user token bank.balances)
      go true back =
          let limit = enough back in
          let fits : nat_lt (burnt_of bank token.denom) token.amount ≡ false = grind (arith, nat_tests) in
          ap (λ short. balances_after (expect (minted_again short) Poor)) fits ∙ minted_step
      go false here = made (out_of_escrow channel user token bank.balances) (with_balances bank) (λ b. refl)

  -- and to what was burnt
  refund_settles : IsTrue (is_sorted text_cmp bank.burnt) → (left : BankState) → after_move (refund_move channel user token) bank ≡ Ok left → AreBurntIn channel (token ∷ []) bank left
  refund_settles sorted left e = go (came_over transfer_port channel token.denom) refl e
    where
      inner : came_over transfer_port channel token.denom ≡ true → (short : Bool) → nat_lt (burnt_of bank token.denom) token.amount ≡ short
          → expect (minted_again short) Poor ≡ Ok left → AreBurntIn channel (token ∷ []) bank left
      inner back true is e = absurd (cc e)
      inner back false is e = burnt_less channel token bank left sorted back (ltb-false (burnt_of bank token.denom) token.amount is) (ap (λ (b : BankState). b.burnt) (sym (ok_same e)))

      go : (b : Bool) → came_over transfer_port channel token.denom ≡ b → after_move (refunding b) bank ≡ Ok left → AreBurntIn channel (token ∷ []) bank left
      go true back e = inner back (nat_lt (burnt_of bank token.denom) token.amount) refl e
      go false here e =
          let same = left_is (out_of_escrow channel user token bank.balances) (with_balances bank) bank.burnt (λ b. refl) left e in
          none_burnt channel token bank left (ap (is_sorted text_cmp) same ∙ sorted) here (sym same)

-- what was burnt is minted again, and not refunded any more
pub refunds_settle : (channel user : Text) (tokens : List Token) (bank left : BankState) → IsTrue (is_sorted text_cmp bank.burnt)
    → after_moves (map (refund_move channel user) tokens) bank ≡ Ok left → AreBurntIn channel tokens bank left
refunds_settle channel user [] bank left sorted e = subst (λ b. AreBurntIn channel [] bank b) (ok_same e) (burnt_alike channel bank sorted)
refunds_settle channel user (token ∷ tokens) bank left sorted e =
    let first = bind_passed (after_move (refund_move channel user token) bank) _ e in
    let one = refund_settles channel user token bank sorted first.0 first.1 in
    burnt_through channel (token ∷ tokens) (token ∷ []) tokens bank first.0 left (first_returned channel token tokens) one
    (refunds_settle channel user tokens first.0 left one.fewer_sorted first.2)

-- the tokens come back to the sender
pub refunds_by_moves : (channel user : Text) (tokens : List Token) (bank : BankState) → IsTrue (is_sorted text_cmp bank.burnt) → IsCovered channel tokens bank
    → IsStep (after_moves (map (refund_move channel user) tokens) bank) (each_token (refund_token channel user) tokens bank.balances)
unfolding go_on
refunds_by_moves channel user [] bank sorted covers = refl
refunds_by_moves channel user (token ∷ tokens) bank sorted covers =
    then_step (after_move (refund_move channel user token) bank) (refund_token channel user token bank.balances) _ _
    (refund_step channel user token bank (covers_first channel token tokens bank covers))
    (λ left is. let one = refund_settles channel user token bank sorted left is in
    refunds_by_moves channel user tokens left one.fewer_sorted (covers_others channel token tokens bank left covers one))

-- ---- settlements

-- where the token came over the channel
abbrev settling : Token → BankState → Bool → BankState
settling token bank back = if back then after_settlement token bank else bank

settle_keeps : (token : Token) (bank : BankState) (b : Bool) → (settling token bank b).balances ≡ bank.balances
settle_keeps token bank true = refl
settle_keeps token bank false = refl

-- the balances stay
pub settlements_keep : (channel : Text) (tokens : List Token) (bank : BankState) → (settle_tokens channel tokens bank).balances ≡ bank.balances
settlements_keep channel [] bank = refl
settlements_keep channel (token ∷ tokens) bank =
    settlements_keep channel tokens (settling token bank (came_over transfer_port channel token.denom))
    ∙ settle_keeps token bank (came_over transfer_port channel token.denom)

-- and what was burnt is not refunded any more
pub settlements_settle : (channel : Text) (tokens : List Token) (bank : BankState) → IsTrue (is_sorted text_cmp bank.burnt) → IsCovered channel tokens bank
    → AreBurntIn channel tokens bank (settle_tokens channel tokens bank)
settlements_settle channel [] bank sorted covers = burnt_alike channel bank sorted
settlements_settle channel (token ∷ tokens) bank sorted covers =
    let one = go (came_over transfer_port channel token.denom) refl in
    let next : BankState = settling token bank (came_over transfer_port channel token.denom) in
    burnt_through channel (token ∷ tokens) (token ∷ []) tokens bank next (settle_tokens channel tokens next) (first_returned channel token tokens) one
    (settlements_settle channel tokens next one.fewer_sorted (covers_others channel token tokens bank next covers one))
  where
    go : (b : Bool) → came_over transfer_port channel token.denom ≡ b → AreBurntIn channel (token ∷ []) bank (settling token bank b)
    go true back = burnt_less channel token bank (after_settlement token bank) sorted back (covers_first channel token tokens bank covers back) refl
    go false here = none_burnt channel token bank bank sorted here refl
