-- The equation of two peers: the escrow of one equals what the other's chain issued, with what is under way both
-- ways. Whatever one of the two does keeps it.
use Rattle.std.proofs.Common.{◌≡◌, ℕ, ◌+◌, Bool, true, false, refl, ap, sym, ◌∙◌, ◌++◌, Some, None, arith, nat_cmp, if◌then◌else◌}
use Rattle.std.specs.List.{sum_by}
use Rattle.std.specs.Option.{option_map_or}
use Rattle.ibc_ids.specs.Texts.{Text, same_text}
use Rattle.ibc_ids.specs.Maps.{Map, at, with, without}
use Rattle.ibc_ids.specs.Names.{hop}
use Rattle.ibc_machine.specs.chain.Records.{Channel, Commitment}
use Rattle.ibc_machine.specs.ics20.TokenData.{amount_of, tokens_of, success}
use Rattle.ibc_machine.specs.ics20.Bank.{Balances, balance, supply, escrow}
use Rattle.ibc_machine.specs.ics20.Transfers.{transfer_port, came_over}
use Rattle.ibc_machine.specs.promises.Totals.{has_succeeded, amount_under_way}
use Rattle.ibc_machine.proofs.SortedMaps.{Sorted}
use Rattle.ibc_laws.proofs.tokens.FlightSums.{under_way-sent, under_way-settled, under_way-acknowledged}
use Rattle.ibc_laws.proofs.tokens.TokenShifts.{Unshifted}
use Rattle.ibc_laws.proofs.tokens.TokenEffects.{Leaving, Returning, Arriving, SameBooks, Noted, Removed}

-- what is under way: of these commitments, by what the other end acknowledged
abbrev pub flown : Text → Text → Channel → Map ℕ Commitment → ℕ
flown version denom theirs commitments = sum_by (amount_under_way version denom theirs) commitments

abbrev pub unless : Bool → ℕ → ℕ
unless p n = if p then 0 else n

pub unless-plus : (p : Bool) (a b : ℕ) → unless p (a + b) ≡ unless p a + unless p b
unless-plus true a b = refl
unless-plus false a b = refl

abbrev pub Balanced : Text → Text → Text → Balances → Balances → Channel → Channel → Type 0
Balanced version e f held issued mine theirs =
    (denom : Text) → balance held (escrow e) denom
    ≡ supply issued (hop transfer_port f ++ denom) + unless (came_over transfer_port e denom) (flown version denom theirs mine.commitments)
    + flown version (hop transfer_port f ++ denom) mine theirs.commitments

-- what an end with the record m did, with its peer's record, which stays
pub data PairEffect (version id peer : Text) (theirs : Channel) (before after : Balances) (m n : Channel) : Type 0 where
  keeps : SameBooks m n → Unshifted before after id → PairEffect version id peer theirs before after m n
  sends_more : (k : ℕ) (c : Commitment) → at nat_cmp k m.commitments ≡ None → has_succeeded theirs k ≡ false
      → n.commitments ≡ with nat_cmp k c m.commitments → n.acks ≡ m.acks
      → Leaving before after id (tokens_of version c) → PairEffect version id peer theirs before after m n
  takes_one : (k : ℕ) (c : Commitment) → at nat_cmp k theirs.commitments ≡ Some c → at nat_cmp k m.acks ≡ None → Noted k success m n
      → Arriving before after id transfer_port peer (tokens_of version c) → PairEffect version id peer theirs before after m n
  turns_one_down : (k : ℕ) (c : Commitment) (ack : Text) → at nat_cmp k theirs.commitments ≡ Some c → at nat_cmp k m.acks ≡ None
      → same_text ack success ≡ false → Noted k ack m n → Unshifted before after id → PairEffect version id peer theirs before after m n
  settles_one : (k : ℕ) (c : Commitment) → at nat_cmp k m.commitments ≡ Some c → has_succeeded theirs k ≡ true → Removed k m n
      → Unshifted before after id → PairEffect version id peer theirs before after m n
  gets_back : (k : ℕ) (c : Commitment) → at nat_cmp k m.commitments ≡ Some c → has_succeeded theirs k ≡ false → Removed k m n
      → Returning before after id (tokens_of version c) → PairEffect version id peer theirs before after m n

-- ---- sums under way, in the record that changed and in the one that stays

module _ (version denom : Text) where
  same_sent : (theirs m n : Channel) → n.commitments ≡ m.commitments → flown version denom theirs n.commitments ≡ flown version denom theirs m.commitments
  same_sent theirs m n same = ap (λ cs. flown version denom theirs cs) same

  same_acked : (m n : Channel) (cs : Map ℕ Commitment) → n.acks ≡ m.acks → flown version denom n cs ≡ flown version denom m cs
  same_acked m n cs same = ap (λ (acks : Map ℕ Text). sum_by (λ (entry : ℕ × Commitment). if option_map_or (λ ack. same_text ack success) (at nat_cmp entry.0 acks) false
      then 0 else amount_of denom (tokens_of version entry.1)) cs) same

  -- a term that counts, and one that doesn't
  pub counts : (theirs : Channel) (k : ℕ) (c : Commitment) → has_succeeded theirs k ≡ false → amount_under_way version denom theirs (k, c) ≡ amount_of denom (tokens_of version c)
  counts theirs k c is = ap (λ p. if p then 0 else amount_of denom (tokens_of version c)) is

  counts_not : (theirs : Channel) (k : ℕ) (c : Commitment) → has_succeeded theirs k ≡ true → amount_under_way version denom theirs (k, c) ≡ 0
  counts_not theirs k c is = ap (λ p. if p then 0 else amount_of denom (tokens_of version c)) is

  more : (theirs m n : Channel) (k : ℕ) (c : Commitment) → Sorted nat_cmp m.commitments → at nat_cmp k m.commitments ≡ None → has_succeeded theirs k ≡ false
      → n.commitments ≡ with nat_cmp k c m.commitments
      → flown version denom theirs n.commitments ≡ flown version denom theirs m.commitments + amount_of denom (tokens_of version c)
  more theirs m n k c sorted none fresh same =
      let sum = under_way-sent version denom theirs k c m.commitments sorted none in
      let now = ap (λ cs. flown version denom theirs cs) same in
      let term = counts theirs k c fresh in
      omega arith

  fewer : (theirs m n : Channel) (k : ℕ) (c : Commitment) → at nat_cmp k m.commitments ≡ Some c → has_succeeded theirs k ≡ false
      → n.commitments ≡ without nat_cmp k m.commitments
      → flown version denom theirs n.commitments + amount_of denom (tokens_of version c) ≡ flown version denom theirs m.commitments
  fewer theirs m n k c there counted same =
      let sum = under_way-settled version denom theirs k c m.commitments there in
      let now = ap (λ cs. flown version denom theirs cs) same in
      let term = counts theirs k c counted in
      omega arith

  as_many : (theirs m n : Channel) (k : ℕ) (c : Commitment) → at nat_cmp k m.commitments ≡ Some c → has_succeeded theirs k ≡ true
      → n.commitments ≡ without nat_cmp k m.commitments → flown version denom theirs n.commitments ≡ flown version denom theirs m.commitments
  as_many theirs m n k c there done same =
      let sum = under_way-settled version denom theirs k c m.commitments there in
      let now = ap (λ cs. flown version denom theirs cs) same in
      let term = counts_not theirs k c done in
      omega arith

  arrived : (theirs m n : Channel) (k : ℕ) (c : Commitment) → Sorted nat_cmp theirs.commitments → at nat_cmp k theirs.commitments ≡ Some c
      → at nat_cmp k m.acks ≡ None → n.acks ≡ with nat_cmp k success m.acks
      → flown version denom n theirs.commitments + amount_of denom (tokens_of version c) ≡ flown version denom m theirs.commitments
  arrived theirs m n k c sorted there none same =
      let sum = under_way-acknowledged version denom m n k success same none c theirs.commitments sorted there in
      omega arith

  turned_down : (theirs m n : Channel) (k : ℕ) (c : Commitment) (ack : Text) → Sorted nat_cmp theirs.commitments → at nat_cmp k theirs.commitments ≡ Some c
      → at nat_cmp k m.acks ≡ None → same_text ack success ≡ false → n.acks ≡ with nat_cmp k ack m.acks
      → flown version denom n theirs.commitments ≡ flown version denom m theirs.commitments
  turned_down theirs m n k c ack sorted there none bad same =
      let sum = under_way-acknowledged version denom m n k ack same none c theirs.commitments sorted there in
      let term = ap (λ p. if p then 0 else amount_of denom (tokens_of version c)) bad in
      omega arith

-- ---- the end whose escrow it is did something

module _ (version e f : Text) (held issued : Balances) (mine theirs : Channel) (sorted : Sorted nat_cmp mine.commitments) (sorted_there : Sorted nat_cmp theirs.commitments)
    (was : Balanced version e f held issued mine theirs) where
  abbrev burns : Text → Bool
  burns denom = came_over transfer_port e denom

  abbrev voucher : Text → Text
  voucher denom = hop transfer_port f ++ denom

  pub balanced_here : (after : Balances) (n : Channel) → PairEffect version e f theirs held after mine n → Balanced version e f after issued n theirs
  balanced_here after n (keeps books shift) denom =
      let old = was denom in
      let x = shift.held denom in
      let out = ap (λ k. unless (burns denom) k) (same_sent version denom theirs mine n books.0) in
      let back = same_acked version (voucher denom) mine n theirs.commitments books.1 in
      omega arith
  balanced_here after n (sends_more k c none fresh sent acks shift) denom =
      let old = was denom in
      let x = shift.held denom in
      let out = ap (λ k. unless (burns denom) k) (more version denom theirs mine n k c sorted none fresh sent)
      ∙ unless-plus (burns denom) (flown version denom theirs mine.commitments) (amount_of denom (tokens_of version c)) in
      let back = same_acked version (voucher denom) mine n theirs.commitments acks in
      omega arith
  balanced_here after n (takes_one k c there none books shift) denom =
      let old = was denom in
      let x = shift.held denom in
      let out = ap (λ k. unless (burns denom) k) (same_sent version denom theirs mine n books.0) in
      let back = arrived version (voucher denom) theirs mine n k c sorted_there there none books.1 in
      omega arith
  balanced_here after n (turns_one_down k c ack there none bad books shift) denom =
      let old = was denom in
      let x = shift.held denom in
      let out = ap (λ k. unless (burns denom) k) (same_sent version denom theirs mine n books.0) in
      let back = turned_down version (voucher denom) theirs mine n k c ack sorted_there there none bad books.1 in
      omega arith
  balanced_here after n (settles_one k c there done books shift) denom =
      let old = was denom in
      let x = shift.held denom in
      let out = ap (λ k. unless (burns denom) k) (as_many version denom theirs mine n k c there done books.0) in
      let back = same_acked version (voucher denom) mine n theirs.commitments books.1 in
      omega arith
  balanced_here after n (gets_back k c there counted books shift) denom =
      let old = was denom in
      let x = shift.held denom in
      let out = sym (ap (λ k. unless (burns denom) k) (fewer version denom theirs mine n k c there counted books.0))
      ∙ unless-plus (burns denom) (flown version denom theirs n.commitments) (amount_of denom (tokens_of version c)) in
      let back = same_acked version (voucher denom) mine n theirs.commitments books.1 in
      omega arith

  -- ---- its peer did something

  pub balanced_there : (after : Balances) (u : Channel) → PairEffect version f e mine issued after theirs u → Balanced version e f held after mine u
  balanced_there after u (keeps books shift) denom =
      let old = was denom in
      let x = shift.made denom in
      let out = ap (λ k. unless (burns denom) k) (same_acked version denom theirs u mine.commitments books.1) in
      let back = same_sent version (voucher denom) mine theirs u books.0 in
      omega arith
  balanced_there after u (sends_more k c none fresh sent acks shift) denom =
      let old = was denom in
      let x = shift.made denom in
      let out = ap (λ k. unless (burns denom) k) (same_acked version denom theirs u mine.commitments acks) in
      let back = more version (voucher denom) mine theirs u k c sorted_there none fresh sent in
      omega arith
  balanced_there after u (takes_one k c there none books shift) denom =
      let old = was denom in
      let x = shift.made denom in
      let out = sym (ap (λ k. unless (burns denom) k) (arrived version denom mine theirs u k c sorted there none books.1))
      ∙ unless-plus (burns denom) (flown version denom u mine.commitments) (amount_of denom (tokens_of version c)) in
      let back = same_sent version (voucher denom) mine theirs u books.0 in
      omega arith
  balanced_there after u (turns_one_down k c ack there none bad books shift) denom =
      let old = was denom in
      let x = shift.made denom in
      let out = ap (λ k. unless (burns denom) k) (turned_down version denom mine theirs u k c ack sorted there none bad books.1) in
      let back = same_sent version (voucher denom) mine theirs u books.0 in
      omega arith
  balanced_there after u (settles_one k c there done books shift) denom =
      let old = was denom in
      let x = shift.made denom in
      let out = ap (λ k. unless (burns denom) k) (same_acked version denom theirs u mine.commitments books.1) in
      let back = as_many version (voucher denom) mine theirs u k c there done books.0 in
      omega arith
  balanced_there after u (gets_back k c there counted books shift) denom =
      let old = was denom in
      let x = shift.made denom in
      let out = ap (λ k. unless (burns denom) k) (same_acked version denom theirs u mine.commitments books.1) in
      let back = fewer version (voucher denom) mine theirs u k c there counted books.0 in
      omega arith
