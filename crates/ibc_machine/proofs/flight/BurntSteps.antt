-- How much of a denomination is burnt in flight, where one channel of a core changes.
use Rattle.std.proofs.Common.{◌≡◌, ℕ, ◌+◌, ◌≤◌, Bool, true, false, refl, ap, ◌∙◌, List, [], Some, None, arith, nat_cmp, ◌&&◌, if◌then◌else◌}
use Rattle.std.specs.List.{sum_by}
use Rattle.std.specs.Option.{option_map_or}
use Rattle.std.specs.Cmp.{nat_cmp_total}
use Rattle.ibc_ids.specs.Texts.{Text, same_text, pair_cmp}
use Rattle.ibc_ids.specs.Maps.{Map, at, with, without}
use Rattle.ibc_ids.proofs.Texts.{text_same}
use Rattle.ibc_wire.specs.declared.token.Token.{Token}
use Rattle.ibc_machine.specs.chain.Records.{Core, Channel, Commitment, channel_at}
use Rattle.ibc_machine.specs.ics20.TokenData.{amount_of, tokens_of}
use Rattle.ibc_machine.specs.ics20.Transfers.{transfer_port, came_over, burnt_amount, burnt_over}
use Rattle.ibc_machine.proofs.FiniteMaps.{by_number, by_pair, pair_cmp_total}
use Rattle.ibc_machine.proofs.SortedMaps.{Sorted-from}
use Rattle.ibc_machine.proofs.Measures.{sum-with, sum-without}
use Rattle.ibc_machine.specs.chain.Orderly.{IsOrderly, IsOrderlyEnd}
use Rattle.ibc_machine.specs.ics20.ReturningTokens.{SameBurnt, returned_amount}

-- ---- tokens of one channel

abbrev share : Bool → ℕ → ℕ
share b n = if b then n else 0

-- how much of a denomination is burnt where these tokens are sent over the channel
abbrev pub burnt_by : Text → Text → List Token → Text → ℕ
burnt_by port channel tokens denom =
    if same_text port transfer_port && came_over port channel denom then amount_of denom tokens else 0

pub burnt_by-other : (port channel : Text) (tokens : List Token) (denom : Text) → same_text port transfer_port ≡ false
    → burnt_by port channel tokens denom ≡ 0
burnt_by-other port channel tokens denom other =
    ap (λ b. if b && came_over port channel denom then amount_of denom tokens else 0) other

pub burnt_by-transfer : (port channel : Text) (tokens : List Token) (denom : Text) → same_text port transfer_port ≡ true
    → burnt_by port channel tokens denom ≡ returned_amount channel tokens denom
burnt_by-transfer port channel tokens denom ours =
    ap (λ b. if b && came_over port channel denom then amount_of denom tokens else 0) ours
    ∙ ap (λ p. if came_over p channel denom then amount_of denom tokens else 0) (text_same port transfer_port ours)

-- what one commitment of an end has burnt
abbrev committed_amount : Text → Text → ℕ × Commitment → ℕ
committed_amount version denom sent = amount_of denom (tokens_of version sent.1)

-- what all commitments of an end have burnt
abbrev burnt_at : Bool → Text → Text → Map ℕ Commitment → ℕ
burnt_at returns version denom commitments = share returns (sum_by (committed_amount version denom) commitments)

share-sum : (b : Bool) (m n k : ℕ) → m + n ≡ k → share b m + share b n ≡ share b k
share-sum true m n k e = e
share-sum false m n k e = refl

share-none : (b : Bool) → share b 0 ≡ 0
share-none true = refl
share-none false = refl

-- one commitment less, and one more
burnt_at-without : (returns : Bool) (version denom : Text) (n : ℕ) (c : Commitment) (m : Map ℕ Commitment) → at nat_cmp n m ≡ Some c
    → burnt_at returns version denom (without nat_cmp n m) + share returns (amount_of denom (tokens_of version c)) ≡ burnt_at returns version denom m
burnt_at-without returns version denom n c m there =
    let sum = sum-without nat_cmp_total by_number (committed_amount version denom) n m in
    let term = ap (λ o. option_map_or (λ v. committed_amount version denom (n, v)) o 0) there in
    share-sum returns _ _ _ (omega arith)

burnt_at-with : (returns : Bool) (version denom : Text) (n : ℕ) (c : Commitment) (mine : Channel) → IsOrderlyEnd mine → mine.next_send ≤ n
    → burnt_at returns version denom mine.commitments + share returns (amount_of denom (tokens_of version c))
    ≡ burnt_at returns version denom (with nat_cmp n c mine.commitments)
burnt_at-with returns version denom n c mine orderly next =
    let sum = sum-with nat_cmp_total by_number (committed_amount version denom) n c mine.commitments (Sorted-from nat_cmp mine.commitments orderly.sorted) in
    let term = ap (λ o. option_map_or (λ v. committed_amount version denom (n, v)) o 0) (orderly.unsent n next) in
    share-sum returns _ _ _ (omega arith)

-- ---- a core in which one channel changes

-- what stands at one end is no more than all
pub burnt_at_end : (core : Core) (port id : Text) (old : Channel) → channel_at core port id ≡ Some old → (denom : Text)
    → burnt_over denom ((port, id), old) ≤ burnt_amount core denom
burnt_at_end core port id old there denom =
    let sum = sum-without pair_cmp_total by_pair (burnt_over denom) (port, id) core.channels in
    let term = ap (λ o. option_map_or (λ v. burnt_over denom ((port, id), v)) o 0) there in
    omega arith

-- so the tokens of a packet that is committed to are in flight
pub committed_covered : (core : Core) (port id : Text) (old : Channel) (n : ℕ) (c : Commitment) → channel_at core port id ≡ Some old
    → at nat_cmp n old.commitments ≡ Some c → (denom : Text) → burnt_by port id (tokens_of old.end.version c) denom ≤ burnt_amount core denom
committed_covered core port id old n c there committed denom =
    let all = burnt_at_end core port id old there denom in
    let one = burnt_at-without (same_text port transfer_port && came_over port id denom) old.end.version denom n c old.commitments committed in
    omega arith

-- the same channels
pub same_channels : (core after : Core) → after.channels ≡ core.channels → SameBurnt core after
same_channels core after same denom = ap (λ m. sum_by (burnt_over denom) m) same

module _ (core after : Core) (port id : Text) (now : Channel) (orderly : IsOrderly core)
    (is : after.channels ≡ with pair_cmp (port, id) now core.channels) where
  changed : (before : ℕ) (denom : Text) → option_map_or (λ v. burnt_over denom ((port, id), v)) (channel_at core port id) 0 ≡ before
      → burnt_amount after denom + before ≡ burnt_amount core denom + burnt_over denom ((port, id), now)
  changed before denom term =
      let sum = sum-with pair_cmp_total by_pair (burnt_over denom) (port, id) now core.channels (Sorted-from pair_cmp core.channels orderly.sorted) in
      let new = ap (λ m. sum_by (burnt_over denom) m) is in
      omega arith

  -- a new end, which has sent nothing
  pub new_end : channel_at core port id ≡ None → now.commitments ≡ [] → SameBurnt core after
  new_end free none denom =
      let step = changed 0 denom (ap (λ o. option_map_or (λ v. burnt_over denom ((port, id), v)) o 0) free) in
      let nothing : burnt_over denom ((port, id), now) ≡ 0 =
      ap (λ m. burnt_at (same_text port transfer_port && came_over port id denom) now.end.version denom m) none
      ∙ share-none (same_text port transfer_port && came_over port id denom) in
      omega arith

  module _ (old : Channel) (there : channel_at core port id ≡ Some old) (version : now.end.version ≡ old.end.version) where
    -- the end with these commitments
    recommitted : (m : Map ℕ Commitment) → now.commitments ≡ m → (denom : Text)
        → burnt_amount after denom + burnt_over denom ((port, id), old)
        ≡ burnt_amount core denom + burnt_at (same_text port transfer_port && came_over port id denom) old.end.version denom m
    recommitted m commitments denom =
        changed (burnt_over denom ((port, id), old)) denom (ap (λ o. option_map_or (λ v. burnt_over denom ((port, id), v)) o 0) there)
        ∙ ap (λ v. burnt_amount core denom + burnt_at (same_text port transfer_port && came_over port id denom) v denom now.commitments) version
        ∙ ap (λ m. burnt_amount core denom + burnt_at (same_text port transfer_port && came_over port id denom) old.end.version denom m) commitments

    -- the same commitments
    pub same_commitments : now.commitments ≡ old.commitments → SameBurnt core after
    same_commitments same denom = let step = recommitted old.commitments same denom in omega arith

    -- a packet is settled
    pub one_settled : (n : ℕ) (c : Commitment) → at nat_cmp n old.commitments ≡ Some c → now.commitments ≡ without nat_cmp n old.commitments
        → (denom : Text) → burnt_amount after denom + burnt_by port id (tokens_of old.end.version c) denom ≡ burnt_amount core denom
    one_settled n c committed same denom =
        let step = recommitted (without nat_cmp n old.commitments) same denom in
        let less = burnt_at-without (same_text port transfer_port && came_over port id denom) old.end.version denom n c old.commitments committed in
        omega arith

    -- a packet is sent
    pub one_sent : (c : Commitment) → now.commitments ≡ with nat_cmp old.next_send c old.commitments
        → (denom : Text) → burnt_amount after denom ≡ burnt_amount core denom + burnt_by port id (tokens_of old.end.version c) denom
    one_sent c same denom =
        let step = recommitted (with nat_cmp old.next_send c old.commitments) same denom in
        let more = burnt_at-with (same_text port transfer_port && came_over port id denom) old.end.version denom old.next_send c old (orderly.ends port id old there) (omega arith) in
        omega arith
