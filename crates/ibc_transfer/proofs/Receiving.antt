-- The moves of tokens that came do what the application says.
use Rattle.std.proofs.Common.{codes, ◌≡◌, ◌+◌, ◌<◌, ℕ, Bool, true, false, cond, refl, ap, sym, subst, ◌∙◌, List, [], ◌∷◌, ◌++◌, length, drop, get_or, Option, Some, None, Ok, Err, option_map, append_assoc}
use Rattle.std.specs.Option.{option_and_then}
use Rattle.std.proofs.Math.Seq.{drop-append_seam}
use Rattle.std.proofs.lemmas.List.{at_drop_more}
use Rattle.ibc_ids.specs.Texts.{Text}
use Rattle.ibc_ids.specs.Names.{is_user, hop, came_over}
use Rattle.ibc_ids.specs.declared.refusal.Refusal.{Refusal}
use Rattle.ibc_ids.specs.declared.refusal.Refusal.TheVariants.{Poor, TooLarge}
use Rattle.ibc_ids.proofs.Hops.{came_over_by}
use Rattle.ibc_wire.specs.declared.packet.Packet.{Packet}
use Rattle.ibc_wire.specs.declared.token.Token.{Token}
use Rattle.ibc_machine.specs.ics20.Bank.{Balances, out_of_escrow, mint}
use Rattle.ibc_machine.specs.chain.Checks.{Checked, expect, go_on, ◌>>=◌}
use Rattle.ibc_machine.specs.ics20.TokenData.{Data, data_of, success, error}
use Rattle.ibc_machine.specs.ics20.Transfers.{without_hop, with_hop, each_token, receive_token, receive_result, receive_data, receive_transfer}
use Rattle.ibc_bank.specs.Moves.{BankState, burnt_of, with_balances, after_move, after_moves}
use Rattle.ibc_bank.specs.declared.moves.Move.{Move}
use Rattle.ibc_bank.specs.declared.moves.Move.TheVariants as move
use Rattle.ibc_transfer.specs.TokenArrival.{mint_move, receive_move, receive_moves, within_limits, arrival_of, arrival_moves, arrival_result, after_arrival}
use Rattle.ibc_transfer.specs.BankCallbacks.{bank_receives}
use Rattle.ibc_transfer.specs.declared.acks.Failure.TheVariants.{BadReceiver}

-- ---- one token

-- the token of a denomination that came from here
pub comes_home : (p : Packet) (user rest : Text) (token : Token) → token.denom ≡ hop p.source_port p.source_channel ++ rest
    → receive_move p user token ≡ Some (move.Release p.destination_channel user rest token.amount)
comes_home p user rest token is =
    let front = hop p.source_port p.source_channel in
    let came : came_over p.source_port p.source_channel token.denom ≡ true =
    subst (λ denom. came_over p.source_port p.source_channel denom ≡ true) (sym is) (came_over_by p.source_port p.source_channel rest) in
    let behind : drop (length front) token.denom ≡ rest = ap (λ (denom : Text). drop (length front) denom) is ∙ drop-append_seam front rest in
    ap (λ b. cond b (Some (move.Release p.destination_channel user (drop (length front) token.denom) token.amount)) (mint_move p user token)) came
    ∙ ap (λ (denom : Text). Some (move.Release p.destination_channel user denom token.amount)) behind

-- ---- one token after another

-- these moves and then those
abbrev pub behind : List Move → Option (List Move) → Option (List Move)
behind before rest = option_map (λ (moves : List Move). before ++ moves) rest

-- a move and then those
abbrev pub and_those : Option (List Move) → Move → Option (List Move)
and_those rest first = option_map (λ (moves : List Move). first ∷ moves) rest

behind_one : (before : List Move) (first : Move) (rest : Option (List Move)) → behind before (and_those rest first) ≡ behind (before ++ first ∷ []) rest
behind_one before first None = refl
behind_one before first (Some moves) = ap Some (sym (append_assoc before (first ∷ []) moves))

pub one_more : (p : Packet) (user : Text) (tokens : List Token) (i : ℕ) (token : Token) → i < length tokens → token ≡ get_or tokens i token
    → (before : List Move) (first : Move) → Some first ≡ receive_move p user token
    → behind before (receive_moves p user (drop i tokens)) ≡ behind (before ++ first ∷ []) (receive_moves p user (drop (i + 1) tokens))
one_more p user tokens i token inside here before first is =
    let rest = receive_moves p user (drop (i + 1) tokens) in
    ap (behind before)
    (at_drop_more (receive_moves p user) tokens i token inside ∙ ap (option_and_then (and_those rest)) (ap (receive_move p user) (sym here) ∙ sym is))
    ∙ behind_one before first rest

-- ---- what is moved

-- the bank after moves that weren't refused
abbrev kept : Checked BankState → Option BankState
kept (Ok bank) = Some bank
kept (Err refusal) = None

expected : (o : Option BankState) (refusal : Refusal) → o ≡ kept (expect o refusal)
expected (Some bank) refusal = refl
expected None refusal = refl

module _ (p : Packet) (user : Text) (bank : BankState) where
  abbrev holding : Balances → BankState
  holding balances = with_balances bank balances

  abbrev receive : Token → Balances → Option Balances
  receive token balances = receive_token (burnt_of bank) p user token balances

  abbrev after_all : Balances → List Move → Option BankState
  after_all balances moves = kept (after_moves moves (holding balances))

  minted_by_move : (balances : Balances) (o : Option Token) → option_map holding (option_and_then (λ (hopped : Token). mint (burnt_of bank hopped.denom) user hopped balances) o)
      ≡ option_and_then (λ (step : Move). kept (after_move step (holding balances))) (option_map (λ (hopped : Token). move.Mint user hopped.denom hopped.amount) o)
  minted_by_move balances None = refl
  minted_by_move balances (Some hopped) = expected (option_map holding (mint (burnt_of bank hopped.denom) user hopped balances)) TooLarge

  one_by_move : (balances : Balances) (token : Token) → option_map holding (receive token balances) ≡ option_and_then (λ (step : Move). kept (after_move step (holding balances))) (receive_move p user token)
  one_by_move balances token = by (came_over p.source_port p.source_channel token.denom)
    where
      by : (came : Bool)
          → option_map holding (cond came (out_of_escrow p.destination_channel user (without_hop p token) balances) (option_and_then (λ (hopped : Token). mint (burnt_of bank hopped.denom) user hopped balances) (with_hop p token)))
          ≡ option_and_then (λ (step : Move). kept (after_move step (holding balances)))
          (cond came (Some (move.Release p.destination_channel user (without_hop p token).denom token.amount)) (mint_move p user token))
      by true = expected (option_map holding (out_of_escrow p.destination_channel user (without_hop p token) balances)) Poor
      by false = minted_by_move balances (with_hop p token)

  -- the first move and then the others
  joined : (o : Option Balances) (moved_one : Checked BankState) (rest : Option (List Move)) → option_map holding o ≡ kept moved_one
      → option_and_then (λ (balances : Balances). option_and_then (after_all balances) rest) o ≡ option_and_then (λ (moves : List Move). kept (moved_one >>= after_moves moves)) rest
  unfolding go_on
  joined (Some balances) (Ok after) rest is =
      let same : holding balances ≡ after = cc in
      ap (λ (b : BankState). option_and_then (λ (moves : List Move). kept (after_moves moves b)) rest) same
  joined (Some balances) (Err refusal) rest is = absurd cc
  joined None (Ok after) rest is = absurd cc
  joined None (Err refusal) None is = refl
  joined None (Err refusal) (Some moves) is = refl

  step : (tokens : List Token) (balances : Balances) (o : Option Balances) (first : Option Move) (rest : Option (List Move))
      → option_map holding o ≡ option_and_then (λ (step : Move). kept (after_move step (holding balances))) first
      → ((after : Balances) → option_map holding (each_token receive tokens after) ≡ option_and_then (after_all after) rest)
      → option_map holding (option_and_then (each_token receive tokens) o) ≡ option_and_then (after_all balances) (option_and_then (and_those rest) first)
  step tokens balances None None rest is others = refl
  step tokens balances (Some after) None rest is others = absurd cc
  step tokens balances o (Some first) rest is others = each o ∙ joined o (after_move first (holding balances)) rest is ∙ sym (in_front rest)
    where
      each : (o : Option Balances) → option_map holding (option_and_then (each_token receive tokens) o) ≡ option_and_then (λ (after : Balances). option_and_then (after_all after) rest) o
      each None = refl
      each (Some after) = others after

      in_front : (rest : Option (List Move)) → option_and_then (after_all balances) (and_those rest first)
          ≡ option_and_then (λ (moves : List Move). kept (after_move first (holding balances) >>= after_moves moves)) rest
      in_front None = refl
      in_front (Some moves) = refl

  -- how `after_moves` of the moves answers against each_token
  pub by_moves : (tokens : List Token) (balances : Balances) → option_map holding (each_token receive tokens balances) ≡ option_and_then (after_all balances) (receive_moves p user tokens)
  by_moves [] balances = refl
  by_moves (token ∷ tokens) balances =
      step tokens balances (receive token balances) (receive_move p user token) (receive_moves p user tokens) (one_by_move balances token) (by_moves tokens)

  -- ---- the acknowledgement

  abbrev with_bank : Text × Balances → Text × BankState
  with_bank answer = (answer.0, holding answer.1)

  answered : (o : Option Balances) (moves : Option (List Move)) → option_map holding o ≡ option_and_then (after_all bank.balances) moves
      → with_bank (receive_result bank.balances o) ≡ after_arrival bank (within_limits moves)
  answered None None is = refl
  answered (Some after) None is = absurd cc
  answered o (Some moves) is = by o (after_moves moves bank) is
    where
      by : (o : Option Balances) (all : Checked BankState) → option_map holding o ≡ kept all → with_bank (receive_result bank.balances o) ≡ arrival_result bank all
      by None (Err refusal) is = refl
      by None (Ok after) is = absurd cc
      by (Some balances) (Err refusal) is = absurd cc
      by (Some balances) (Ok after) is =
          let same : holding balances ≡ after = cc in
          ap (λ (b : BankState). (success, b)) same

data_received : (bank : BankState) (p : Packet) (o : Option Data) → with_bank p [] bank (receive_data (burnt_of bank) p bank.balances o) ≡ after_arrival bank (arrival_of p o)
data_received bank p None = refl
data_received bank p (Some d) = by (is_user d.receiver)
  where
    by : (named : Bool)
        → with_bank p [] bank (cond named (receive_result bank.balances (each_token (receive_token (burnt_of bank) p d.receiver) d.tokens bank.balances)) (error (codes "bad receiver"), bank.balances))
        ≡ after_arrival bank (cond named (within_limits (receive_moves p d.receiver d.tokens)) (Err BadReceiver))
    by true = answered p d.receiver bank _ _ (by_moves p d.receiver bank d.tokens bank.balances)
    by false = refl

pub received_by_moves : (bank : BankState) (version : Text) (p : Packet) → bank_receives bank version p ≡ after_arrival bank (arrival_moves version p)
unfolding receive_transfer
received_by_moves bank version p = data_received bank p (data_of version p.payload)
