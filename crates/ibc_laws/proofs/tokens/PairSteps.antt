-- The equation of two peers over a step: at most one of the two chains moves, and what its end does keeps it; and
-- two ends that become peers have moved nothing yet.
use Rattle.std.proofs.Common.{◌≡◌, ℕ, true, refl, ap, sym, ◌∙◌, subst, List, Some, inl, inr, slice_get}
use Rattle.ibc_ids.specs.Texts.{Text}
use Rattle.ibc_machine.specs.chain.Records.{Records, MachineChain, Channel, channel_at}
use Rattle.ibc_machine.specs.ics24.Evidence.{Host}
use Rattle.ibc_machine.specs.chain.Handlers.{host_of}
use Rattle.ibc_machine.specs.ics04.Channels.{is_established}
use Rattle.ibc_machine.specs.ics20.Bank.{Balances}
use Rattle.ibc_machine.specs.ics20.Transfers.{transfer_port}
use Rattle.ibc_machine.specs.chain.Machine.{World}
use Rattle.ibc_machine.specs.ledger.Ledgers.{is_typed}
use Rattle.ibc_machine.specs.promises.Histories.{Happened, End}
use Rattle.ibc_laws.proofs.basics.PassedTests.{either}
use Rattle.ibc_laws.proofs.basics.ListPlaces.{some_is, same_or_not, get-set_same, get-set_other}
use Rattle.ibc_laws.proofs.steps.Told.{told_of}
use Rattle.ibc_laws.proofs.steps.PacketsPassed.{established_rank}
use Rattle.ibc_laws.proofs.peers.Invariant.{Inv, shape_of}
use Rattle.ibc_laws.proofs.tokens.ChainKinds.{Kinds}
use Rattle.ibc_laws.proofs.steps.MachineSteps.{Moves}
use Rattle.ibc_laws.proofs.steps.AtEnds.{MovesAt, here}
use Rattle.ibc_laws.proofs.peers.Peers.{Stands, Peers, stands_alike, one_peer_only, peers_flip}
use Rattle.ibc_laws.proofs.peers.FirstLaw.{peer_of, peers_of}
use Rattle.ibc_laws.proofs.tokens.ChannelNames.{channel_has_no_slash}
use Rattle.ibc_laws.proofs.tokens.TokenEffects.{OwnEffect, does_nothing}
use Rattle.ibc_laws.proofs.tokens.KeyEffects.{KeyEffect, left_alone, opened_now, went_on, key_effect}
use Rattle.ibc_laws.proofs.tokens.BalancedPair.{Balanced, balanced_here, balanced_there}
use Rattle.ibc_laws.proofs.tokens.PeerFacts.{Known, pair_effect}

abbrev pub balances_at : {w : World} {e : End} {m : Channel} → Stands w e m → Balances
balances_at s = s.chain.records.apps.balances

-- ---- two peers

-- they stand on different chains
pub apart : (w : World) → Kinds w → (e f : End) → Peers w e f → f.chain ≡ e.chain → ⊥
apart w kinds e f p same =
    (kinds.each e.chain p.here.chain p.here.there).other_chains p.names_them.connection.client p.names_them.client p.names_them.client_there
    (p.names_them.tracks ∙ same)

-- they are of one version
pub same_version_as : (w : World) → Inv w → (e f : End) (p : Peers w e f) → p.theirs.end.version ≡ p.mine.end.version
same_version_as w inv e f p = elim (either (is_established p.mine) (is_established p.theirs) p.established) [
  | inl ours ↦ of_established e f p ours
  | inr theirs ↦ sym (of_established f e (peers_flip e f p) theirs)
]
  where
    of_established : (e f : End) (p : Peers w e f) → is_established p.mine ≡ true → p.theirs.end.version ≡ p.mine.end.version
    of_established e f p established =
        let peer = peer_of w inv e p.mine p.here (established_rank p.mine established) in
        let same : peer.other ≡ f = one_peer_only w e peer.other f (peers_of w e p.mine p.here peer) p in
        let alike = stands_alike peer.other f peer.theirs p.theirs same peer.there p.there in
        ap (λ (c : Channel). c.end.version) (sym alike.1) ∙ peer.version

-- ---- what an end did to the tokens

own_effect : (w : World) (host : Host) (before after : Records) (name : Text) (m n : Channel) → channel_at before.core transfer_port name ≡ Some m
    → channel_at after.core transfer_port name ≡ Some n → KeyEffect w host before after name
    → OwnEffect w host before.core name before.apps.balances after.apps.balances m n
own_effect w host before after name m n there now (left_alone shift back) =
    let same : m ≡ n = some_is there (back n now) in
    does_nothing (ap (λ (c : Channel). c.commitments) (sym same), ap (λ (c : Channel). c.acks) (sym same)) shift
own_effect w host before after name m n there now (opened_now shift none end is) = absurd (none m there)
own_effect w host before after name m n there now (went_on m' n' there' now' own) =
    subst (λ x. OwnEffect w host before.core name before.apps.balances after.apps.balances x n) (some_is there' there)
    (subst (λ x. OwnEffect w host before.core name before.apps.balances after.apps.balances m' x) (some_is now' now) own)

module _ (chains : ℕ) (w : World) (h : Happened) (v : World) (inv : Inv w) (kinds : Kinds w) (typed : is_typed h.0 ≡ true) where
  -- the chain of the end moves
  end_effect : (e : End) → e.port ≡ transfer_port → MovesAt chains w h v e.chain → (m n : Channel) (was : Stands w e m) (now : Stands v e n)
      → OwnEffect w (host_of chains e.chain was.chain) was.chain.records.core e.channel (balances_at was) (balances_at now) m n
  end_effect e is s m n was now =
      let old : s.before ≡ was.chain = some_is s.there was.there in
      let new : s.now ≡ now.chain = some_is (get-set_same w e.chain s.before s.now s.there) (subst (λ x. slice_get x e.chain ≡ Some now.chain) s.after now.there) in
      let shaped = (inv.shaped.each e.chain s.before s.there).core in
      let clear = channel_has_no_slash was.chain.records.core (inv.shaped.each e.chain was.chain was.there).core e.port e.channel m was.is in
      let key = key_effect chains w e.chain s.before shaped (kinds.each e.chain s.before s.there).sorted e.channel clear (told_of h) s.now s.step (s.good typed) in
      own_effect w (host_of chains e.chain was.chain) was.chain.records now.chain.records e.channel m n
      (subst (λ q. channel_at was.chain.records.core q e.channel ≡ Some m) is was.is)
      (subst (λ q. channel_at now.chain.records.core q e.channel ≡ Some n) is now.is)
      (subst (λ (d : MachineChain). KeyEffect w (host_of chains e.chain was.chain) was.chain.records d.records e.channel) new
      (subst (λ (c : MachineChain). KeyEffect w (host_of chains e.chain c) c.records s.now.records e.channel) old key))

  -- another chain moves
  unmoved : (s : Moves chains w h v) (e : End) → (e.chain ≡ s.k → ⊥) → (m n : Channel) (was : Stands w e m) (now : Stands v e n)
      → (was.chain ≡ now.chain) × (m ≡ n)
  unmoved s e other m n was now =
      let there = sym (get-set_other w s.k e.chain s.now other) ∙ subst (λ x. slice_get x e.chain ≡ Some now.chain) s.after now.there in
      let chain : was.chain ≡ now.chain = some_is was.there there in
      (chain, some_is was.is (subst (λ (c : MachineChain). channel_at c.records.core e.port e.channel ≡ Some n) (sym chain) now.is))

module _ (chains : ℕ) (hs : List Happened) (w : World) (h : Happened) (v : World) (known : Known hs w) (typed : is_typed h.0 ≡ true)
    (s : Moves chains w h v) (e f : End) (p : Peers w e f) (q : Peers v e f) (is : e.port ≡ transfer_port) (is_there : f.port ≡ transfer_port)
    (was : Balanced p.mine.end.version e.channel f.channel (balances_at p.here) (balances_at p.there) p.mine p.theirs) where
  abbrev inv : Inv w
  inv = known.once.inv

  abbrev version : Text
  version = p.mine.end.version

  -- in the records as they are now, with the version of before
  abbrev Now : Type 0
  Now = Balanced version e.channel f.channel (balances_at q.here) (balances_at q.there) q.mine q.theirs

  -- the chain of e moves, and f's doesn't
  ours_moves : e.chain ≡ s.k → Now
  ours_moves same =
      let other : f.chain ≡ s.k → ⊥ = λ x. apart w known.kinds e f p (x ∙ sym same) in
      let f_same = unmoved chains w h v inv known.kinds typed s f other p.theirs q.theirs p.there q.there in
      let own = end_effect chains w h v inv known.kinds typed e is (here chains w h v s e.chain same) p.mine q.mine p.here q.here in
      let pair = pair_effect hs w known chains e f p is is_there version refl (balances_at p.here) (balances_at q.here) q.mine own in
      let next = balanced_here version e.channel f.channel (balances_at p.here) (balances_at p.there) p.mine p.theirs
      (shape_of w inv e p.mine p.here).sorted (shape_of w inv f p.theirs p.there).sorted was (balances_at q.here) q.mine pair in
      subst (λ (c : MachineChain). Balanced version e.channel f.channel (balances_at q.here) c.records.apps.balances q.mine q.theirs) f_same.0
      (subst (λ t. Balanced version e.channel f.channel (balances_at q.here) (balances_at p.there) q.mine t) f_same.1 next)

  theirs_moves : f.chain ≡ s.k → Now
  theirs_moves same =
      let other : e.chain ≡ s.k → ⊥ = λ x. apart w known.kinds e f p (same ∙ sym x) in
      let e_same = unmoved chains w h v inv known.kinds typed s e other p.mine q.mine p.here q.here in
      let own = end_effect chains w h v inv known.kinds typed f is_there (here chains w h v s f.chain same) p.theirs q.theirs p.there q.there in
      let pair = pair_effect hs w known chains f e (peers_flip e f p) is_there is version (same_version_as w inv e f p) (balances_at p.there) (balances_at q.there) q.theirs own in
      let next = balanced_there version e.channel f.channel (balances_at p.here) (balances_at p.there) p.mine p.theirs
      (shape_of w inv e p.mine p.here).sorted (shape_of w inv f p.theirs p.there).sorted was (balances_at q.there) q.theirs pair in
      subst (λ (c : MachineChain). Balanced version e.channel f.channel c.records.apps.balances (balances_at q.there) q.mine q.theirs) e_same.0
      (subst (λ m. Balanced version e.channel f.channel (balances_at p.here) (balances_at q.there) m q.theirs) e_same.1 next)

  neither_moves : (e.chain ≡ s.k → ⊥) → (f.chain ≡ s.k → ⊥) → Now
  neither_moves not_ours not_theirs =
      let e_same = unmoved chains w h v inv known.kinds typed s e not_ours p.mine q.mine p.here q.here in
      let f_same = unmoved chains w h v inv known.kinds typed s f not_theirs p.theirs q.theirs p.there q.there in
      subst (λ (c : MachineChain). Balanced version e.channel f.channel c.records.apps.balances (balances_at q.there) q.mine q.theirs) e_same.0
      (subst (λ m. Balanced version e.channel f.channel (balances_at p.here) (balances_at q.there) m q.theirs) e_same.1
      (subst (λ (c : MachineChain). Balanced version e.channel f.channel (balances_at p.here) c.records.apps.balances p.mine q.theirs) f_same.0
      (subst (λ t. Balanced version e.channel f.channel (balances_at p.here) (balances_at p.there) p.mine t) f_same.1 was)))

  pub pair_step : Now
  pair_step = elim (same_or_not e.chain s.k) [
    | inl ours ↦ ours_moves ours
    | inr not_ours ↦ elim (same_or_not f.chain s.k) [
      | inl theirs ↦ theirs_moves theirs
      | inr not_theirs ↦ neither_moves not_ours not_theirs
    ]
  ]
