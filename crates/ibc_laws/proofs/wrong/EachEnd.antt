-- The ends of a computed world in a list, with tests of each of them and of each two peers: so a law holds of all ends.
use Rattle.std.proofs.Common.{◌≡◌, ℕ, zero, suc, ◌+◌, Bool, true, sym, subst, List, [], ◌∷◌, ◌++◌, map, Some, None, arith, slice_get, unwrap_or, ◌||◌, not}
use Rattle.std.specs.Prelude.{IsTrue}
use Rattle.std.specs.List.{list_all, list_any}
use Rattle.ibc_ids.specs.Texts.{Text, pair_cmp}
use Rattle.ibc_wire.specs.declared.records.Order.TheVariants.{Unordered}
use Rattle.ibc_wire.specs.declared.records.ChannelState.TheVariants as chan
use Rattle.ibc_machine.specs.chain.Records.{MachineChain, Channel}
use Rattle.ibc_machine.specs.chain.Machine.{World}
use Rattle.ibc_machine.specs.ics04.Channels.{channel_end, new_channel}
use Rattle.ibc_machine.specs.ledger.Replay.{empty_chain}
use Rattle.ibc_machine.specs.promises.Histories.{End}
use Rattle.ibc_machine.specs.promises.Peers.{end_at, are_peers}
use Rattle.ibc_machine.proofs.FiniteMaps.{by_pair}
use Rattle.ibc_machine.proofs.Members.{Is_in, in_left, in_right, in_map, at_in}
use Rattle.ibc_laws.specs.WrongPackets.{end_of}
use Rattle.ibc_laws.proofs.basics.PassedTests.{implied}
use Rattle.ibc_laws.proofs.basics.ListTests.{lemma_passes_in, lemma_some_passes}
use Rattle.ibc_laws.proofs.peers.Peers.{Stands, stands, stands_at, true_peers}

-- a chain of a world, and the channel at an end
abbrev pub chain_in : World → ℕ → MachineChain
chain_in w k = unwrap_or (slice_get w k) empty_chain

abbrev pub mine_in : World → End → Channel
mine_in w e = unwrap_or (end_at w e) (new_channel (channel_end chan.Init Unordered [] None [] []))

-- ---- what all chains keep in a list of theirs, each under its chain's number, counted from k on

abbrev pub entries_from : {A B : Type 0} → (MachineChain → List A) → (ℕ → A → B) → ℕ → World → List B
entries_from kept name k [] = []
entries_from kept name k (c ∷ world) = map (name k) (kept c) ++ entries_from kept name (suc k) world

pub lemma_entry_in : {A B : Type 0} (kept : MachineChain → List A) (name : ℕ → A → B) (world : World) (k i j : ℕ) (c : MachineChain) (x : A)
    → j ≡ k + i → slice_get world i ≡ Some c → Is_in x (kept c) → Is_in (name j x) (entries_from kept name k world)
lemma_entry_in kept name [] k i j c x place there has = absurd (cc there)
lemma_entry_in kept name (d ∷ world) k zero j c x place there has =
    let same : d ≡ c = cc there in
    let number : k ≡ j = omega arith in
    in_left (name j x) (map (name k) (kept d)) (entries_from kept name (suc k) world)
    (subst (λ (n : ℕ). Is_in (name j x) (map (name n) (kept d))) (sym number)
    (subst (λ (y : MachineChain). Is_in (name j x) (map (name j) (kept y))) (sym same)
    (in_map (name j) x (kept c) has)))
lemma_entry_in kept name (d ∷ world) k (suc i) j c x place there has =
    in_right (name j x) (map (name k) (kept d)) (entries_from kept name (suc k) world)
    (lemma_entry_in kept name world (suc k) i j c x (omega arith) there has)

-- ---- the ends

abbrev pub channels_of : MachineChain → List ((Text × Text) × Channel)
channels_of c = c.records.core.channels

abbrev pub end_named : ℕ → (Text × Text) × Channel → End × Channel
end_named k entry = (end_of k entry.0.0 entry.0.1, entry.1)

abbrev pub all_ends : World → List (End × Channel)
all_ends world = entries_from channels_of end_named 0 world

lemma_stands_in : (world : World) (e : End) (m : Channel) → Stands world e m → Is_in (e, m) (all_ends world)
lemma_stands_in world e m s =
    lemma_entry_in channels_of end_named world 0 e.chain e.chain s.chain ((e.port, e.channel), m) (omega arith) s.there
    (at_in pair_cmp by_pair.exact (e.port, e.channel) m s.chain.records.core.channels s.is)

-- ---- a test of each end

abbrev pub each_end : World → (End → Channel → Bool) → Bool
each_end world test = list_all (λ (x : End × Channel). test x.0 x.1) (all_ends world)

pub lemma_each_end : (world : World) (test : End → Channel → Bool) → each_end world test ≡ true → (e : End) (m : Channel) → end_at world e ≡ Some m
    → test e m ≡ true
lemma_each_end world test all e m own =
    lemma_passes_in (λ (x : End × Channel). test x.0 x.1) (all_ends world) (e, m) all (lemma_stands_in world e m (stands world e m own))

-- ---- a test of each two peers

abbrev pub peers_pass : World → (End → Channel → End → Channel → Bool) → End → Channel → End → Channel → Bool
peers_pass world test e m f n = not (are_peers world e f) || test e m f n

abbrev pub each_pair : World → (End → Channel → End → Channel → Bool) → Bool
each_pair world test = each_end world (λ e m. each_end world (peers_pass world test e m))

pub lemma_each_pair : (world : World) (test : End → Channel → End → Channel → Bool) → each_pair world test ≡ true → (e f : End) (m n : Channel)
    → end_at world e ≡ Some m → end_at world f ≡ Some n → are_peers world e f ≡ true → test e m f n ≡ true
lemma_each_pair world test all e f m n own other peers =
    let of_e : each_end world (peers_pass world test e m) ≡ true =
    lemma_each_end world (λ e m. each_end world (peers_pass world test e m)) all e m own in
    implied (are_peers world e f) (test e m f n) peers (lemma_each_end world (peers_pass world test e m) of_e f n other)

-- two peers, with what stands at them
pub record PassingPeers (world : World) (test : End → Channel → End → Channel → Bool) (e f : End) : Type 0 where
  pub mine : Channel
  pub theirs : Channel
  pub own : end_at world e ≡ Some mine
  pub other : end_at world f ≡ Some theirs
  pub passed : test e mine f theirs ≡ true

pub lemma_of_peers : (world : World) (test : End → Channel → End → Channel → Bool) → each_pair world test ≡ true → (e f : End) → are_peers world e f ≡ true
    → PassingPeers world test e f
lemma_of_peers world test all e f peers =
    let p = true_peers world e f peers in
    let own = stands_at world e p.mine p.here in
    let other = stands_at world f p.theirs p.there in
    record {
      mine = p.mine;
      theirs = p.theirs;
      own = own;
      other = other;
      passed = lemma_each_pair world test all e f p.mine p.theirs own other peers;
    }

-- with the one's own record given
pub lemma_at_own : (world : World) (test : End → Channel → End → Channel → Bool) → each_pair world test ≡ true → (e f : End) (m : Channel)
    → are_peers world e f ≡ true → end_at world e ≡ Some m → (n : Channel) × (test e m f n ≡ true)
lemma_at_own world test all e f m peers own =
    let x = lemma_of_peers world test all e f peers in
    (x.theirs, lemma_each_pair world test all e f m x.theirs own x.other peers)

-- ---- an end that has a peer

abbrev pub has_a_peer : World → End → Bool
has_a_peer world e = list_any (λ (x : End × Channel). are_peers world e x.0) (all_ends world)

pub lemma_has_a_peer : (world : World) (e : End) → has_a_peer world e ≡ true → (f : End) × IsTrue (are_peers world e f)
lemma_has_a_peer world e any =
    let x = lemma_some_passes (λ (x : End × Channel). are_peers world e x.0) (all_ends world) any in
    (x.0.0, x.1)
