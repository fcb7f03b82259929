-- The escrow of a channel equals the vouchers present and under way, of each denomination that doesn't begin with
-- the channel's own hop.
use Rattle.std.proofs.Common.{◌≡◌, ℕ, suc, zero, ◌≤◌, true, false, refl, ap, sym, ◌∙◌, subst, List, [], ◌∷◌, ◌++◌, Option, Some, None, inl, inr, arith, slice_get, length}
use Rattle.std.specs.Option.{option_map_or, option_and_then}
use Rattle.std.specs.Prelude.{option_map}
use Rattle.ibc_ids.specs.Names.{hop}
use Rattle.ibc_machine.specs.chain.Records.{Records, MachineChain, Channel, channel_at}
use Rattle.ibc_machine.specs.ics20.Bank.{balance, supply, escrow}
use Rattle.ibc_machine.specs.ics20.Transfers.{transfer_port, came_over}
use Rattle.ibc_machine.specs.chain.Genesis.{GenesisState, start, is_allowed}
use Rattle.ibc_machine.specs.chain.Machine.{World}
use Rattle.ibc_machine.specs.ledger.Ledgers.{is_typed}
use Rattle.ibc_machine.specs.promises.Histories.{Happened, End}
use Rattle.ibc_machine.specs.promises.Peers.{end_at}
use Rattle.ibc_machine.specs.promises.Totals.{flight, flight_between, vouchers, escrow_balance, denom_with_hop}
use Rattle.ibc_machine.specs.promises.Laws.{Conserved, IsPast}
use Rattle.ibc_laws.proofs.basics.ListPlaces.{some_is, placed}
use Rattle.ibc_laws.proofs.steps.Told.{told_of}
use Rattle.ibc_laws.proofs.steps.CoreSteps.{rank}
use Rattle.ibc_laws.proofs.peers.Invariant.{Inv, stepped_grows, starts_empty, no_channel}
use Rattle.ibc_laws.proofs.steps.Induction.{past_has}
use Rattle.ibc_laws.proofs.steps.MachineSteps.{Moves, Stepped, rests, moves, stepped}
use Rattle.ibc_laws.proofs.steps.AtEnds.{at_end}
use Rattle.ibc_laws.proofs.steps.Happenings.{settling}
use Rattle.ibc_laws.proofs.peers.Peers.{Stands, Peers, peers_on, peers_flip, stands_same, one_peer_only, true_peers}
use Rattle.ibc_laws.proofs.peers.FirstLaw.{peer_of, peers_of}
use Rattle.ibc_laws.proofs.packets.SecondLaw.{once_start, once_step}
use Rattle.ibc_laws.proofs.packets.ThirdLaw.{ordering_start, ordering_step}
use Rattle.ibc_laws.proofs.tokens.ChainKinds.{kinds_start, kinds_step}
use Rattle.ibc_laws.proofs.tokens.Ports.{transfer_peer}
use Rattle.ibc_laws.proofs.tokens.GoneSettled.{gone_settled_step}
use Rattle.ibc_laws.proofs.tokens.Hops.{HasNoSlash}
use Rattle.ibc_laws.proofs.tokens.ChannelNames.{channel_has_no_slash}
use Rattle.ibc_laws.proofs.tokens.Unopened.{IsUnopened, IsUntouched, Unopened, untouched_now, unsent_now, unopened_step, unopened_start}
use Rattle.ibc_laws.proofs.tokens.BalancedPair.{flown, unless, Balanced}
use Rattle.ibc_laws.proofs.tokens.PeerFacts.{Known}
use Rattle.ibc_laws.proofs.tokens.PairSteps.{balances_at, same_version_as, pair_step}

abbrev pub IsBalanced : (w : World) (e f : End) → Peers w e f → Type 0
IsBalanced w e f p = Balanced p.mine.end.version e.channel f.channel (balances_at p.here) (balances_at p.there) p.mine p.theirs

pub record Conserving (hs : List Happened) (w : World) : Type 0 where
  pub known : Known hs w
  pub unopened : (x : ℕ) (c : MachineChain) → slice_get w x ≡ Some c → Unopened c.records
  pub balanced : (e f : End) (p : Peers w e f) → e.port ≡ transfer_port → f.port ≡ transfer_port → IsBalanced w e f p

-- ---- the start

pub conserving_start : (genesis : GenesisState) → is_allowed genesis ≡ true → Conserving [] (start genesis)
conserving_start genesis allowed = record {
  known = record {
    once = once_start genesis;
    ordering = ordering_start genesis;
    kinds = kinds_start genesis;
    gone = λ e. record { settled = λ m s n low used none. absurd (no_channel s.chain (starts_empty genesis e.chain s.chain s.there) e.port e.channel m s.is) };
  };
  unopened = unopened_start genesis allowed;
  balanced = λ e f p is is_there. absurd (no_channel p.here.chain (starts_empty genesis e.chain p.here.chain p.here.there) e.port e.channel p.mine p.here.is);
}

-- ---- whether an end was OPEN

data WasOpened (w : World) (e : End) : Type 0 where
  was_opened : (m : Channel) → Stands w e m → 1 ≤ rank m.end.state → WasOpened w e
  not_opened : ((m : Channel) → Stands w e m → rank m.end.state ≡ 0) → WasOpened w e

opened_or_not : (w : World) (e : End) → WasOpened w e
opened_or_not w e = go (slice_get w e.chain) refl
  where
    by_rank : (m : Channel) (here : Stands w e m) → (r : ℕ) → rank m.end.state ≡ r → WasOpened w e
    by_rank m here zero is = not_opened (λ n other. ap (λ (c : Channel). rank c.end.state) (stands_same e n m other here) ∙ is)
    by_rank m here (suc r) is = was_opened m here (omega arith)

    of_chain : (c : MachineChain) → slice_get w e.chain ≡ Some c → (o : Option Channel) → channel_at c.records.core e.port e.channel ≡ o → WasOpened w e
    of_chain c there (Some m) is = by_rank m (record { chain = c; there = there; is = is }) (rank m.end.state) refl
    of_chain c there None is = not_opened (λ m here. absurd (cc (is, subst (λ (d : MachineChain). channel_at d.records.core e.port e.channel ≡ Some m) (some_is here.there there) here.is)))

    go : (o : Option MachineChain) → slice_get w e.chain ≡ o → WasOpened w e
    go (Some c) there = of_chain c there (channel_at c.records.core e.port e.channel) refl
    go None there = not_opened (λ m here. absurd (cc (there, here.there)))

-- ---- every step

module _ (chains : ℕ) (hs : List Happened) (w : World) (h : Happened) (v : World) (was : Conserving hs w) (typed : is_typed h.0 ≡ true) where
  abbrev inv : Inv w
  inv = was.known.once.inv

  known_step : Stepped chains w h v → Known (hs ++ h ∷ []) v
  known_step step = record {
    once = once_step chains hs w h v was.known.once step;
    ordering = ordering_step chains hs w h v was.known.ordering step;
    kinds = kinds_step chains w h v inv was.known.kinds step;
    gone = λ e. gone_settled_step chains w hs h v e (was.known.gone e) (settling chains w hs h v e (at_end chains w h v inv step e));
  }

  -- peers that were peers
  old_pair : (s : Moves chains w h v) (e f : End) (q : Peers v e f) → e.port ≡ transfer_port → f.port ≡ transfer_port → Peers w e f → IsBalanced v e f q
  old_pair s e f q is is_there p =
      let on = peers_on e f (stepped_grows chains w h v inv (moves s)) p in
      let version : p.mine.end.version ≡ q.mine.end.version =
      sym on.mine_grows.end.version ∙ ap (λ (c : Channel). c.end.version) (stands_same e on.peers.mine q.mine on.peers.here q.here) in
      subst (λ x. Balanced x e.channel f.channel (balances_at q.here) (balances_at q.there) q.mine q.theirs) version
      (pair_step chains hs w h v was.known typed s e f p q is is_there (was.balanced e f p is is_there))

  -- an end that wasn't OPEN has moved nothing
  untouched_at : (s : Moves chains w h v) (e : End) → e.port ≡ transfer_port → (n : Channel) (now : Stands v e n)
      → ((m : Channel) → Stands w e m → rank m.end.state ≡ 0) → IsUntouched (balances_at now) e.channel × (n.commitments ≡ [])
  untouched_at s e is n now unopened =
      let is_now : channel_at now.chain.records.core transfer_port e.channel ≡ Some n = subst (λ q. channel_at now.chain.records.core q e.channel ≡ Some n) is now.is in
      elim (placed w s.k s.before s.now s.there e.chain now.chain (subst (λ x. slice_get x e.chain ≡ Some now.chain) s.after now.there)) [
        | inl moved ↦ (
            let there : slice_get w e.chain ≡ Some s.before = subst (λ x. slice_get w x ≡ Some s.before) (sym moved.0) s.there in
            let before : IsUnopened s.before.records.core e.channel = λ m at_. unopened m (record {
              chain = s.before;
              there = there;
              is = subst (λ q. channel_at s.before.records.core q e.channel ≡ Some m) (sym is) at_;
            }) in
            let is_then : channel_at s.now.records.core transfer_port e.channel ≡ Some n =
            subst (λ (c : MachineChain). channel_at c.records.core transfer_port e.channel ≡ Some n) (sym moved.1) is_now in (
              subst (λ (c : MachineChain). IsUntouched c.records.apps.balances e.channel) moved.1
                  (untouched_now chains w inv was.known.kinds s.k s.before s.there (was.unopened s.k s.before s.there) (told_of h) s.now s.step (s.good typed) e.channel (clear s e is n now) before),
              unsent_now chains w inv was.known.kinds s.k s.before s.there (was.unopened s.k s.before s.there) (told_of h) s.now s.step (s.good typed) e.channel (clear s e is n now) before n is_then,
            )
            )
        | inr other ↦ (
            let before : IsUnopened now.chain.records.core e.channel = λ m at_. unopened m (record {
              chain = now.chain;
              there = other.1;
              is = subst (λ q. channel_at now.chain.records.core q e.channel ≡ Some m) (sym is) at_;
            }) in
            let held = was.unopened e.chain now.chain other.1 in
            (held.untouched e.channel (clear s e is n now) before, held.unsent e.channel before n is_now)
            )
      ]
    where
      clear : (s : Moves chains w h v) (e : End) → e.port ≡ transfer_port → (n : Channel) (now : Stands v e n) → HasNoSlash e.channel
      clear s e is n now = channel_has_no_slash now.chain.records.core ((known_step (moves s)).once.inv.shaped.each e.chain now.chain now.there).core e.port e.channel n now.is

  -- two ends that become peers
  new_pair : (s : Moves chains w h v) (e f : End) (q : Peers v e f) → e.port ≡ transfer_port → f.port ≡ transfer_port
      → ((m : Channel) → Stands w e m → rank m.end.state ≡ 0) → ((m : Channel) → Stands w f m → rank m.end.state ≡ 0) → IsBalanced v e f q
  new_pair s e f q is is_there mine theirs denom =
      let a = untouched_at s e is q.mine q.here mine in
      let b = untouched_at s f is_there q.theirs q.there theirs in
      let held = a.0.held denom in
      let made = b.0.made denom in
      let out = ap (λ cs. unless (came_over transfer_port e.channel denom) (flown q.mine.end.version denom q.theirs cs)) a.1 in
      let none = nothing_unless (came_over transfer_port e.channel denom) in
      let back = ap (λ cs. flown q.mine.end.version (hop transfer_port f.channel ++ denom) q.mine cs) b.1 in
      omega arith
    where
      nothing_unless : (p : _) → unless p 0 ≡ 0
      nothing_unless true = refl
      nothing_unless false = refl

  -- an end that was OPEN had the same peer
  had_peer : (s : Moves chains w h v) (e f : End) → Peers v e f → (m : Channel) → Stands w e m → 1 ≤ rank m.end.state → Peers w e f
  had_peer s e f q m there ranks =
      let peer = peer_of w inv e m there ranks in
      let p : Peers w e peer.other = peers_of w e m there peer in
      subst (λ g. Peers w e g) (one_peer_only v e peer.other f (peers_on e peer.other (stepped_grows chains w h v inv (moves s)) p).peers q) p

  balanced_after : (s : Moves chains w h v) (e f : End) (q : Peers v e f) → e.port ≡ transfer_port → f.port ≡ transfer_port → IsBalanced v e f q
  balanced_after s e f q is is_there = go (opened_or_not w e) (opened_or_not w f)
    where
      go : WasOpened w e → WasOpened w f → IsBalanced v e f q
      go (was_opened m there ranks) other = old_pair s e f q is is_there (had_peer s e f q m there ranks)
      go (not_opened mine) (was_opened m there ranks) = old_pair s e f q is is_there (peers_flip f e (had_peer s f e (peers_flip e f q) m there ranks))
      go (not_opened mine) (not_opened theirs) = new_pair s e f q is is_there mine theirs

  pub conserving_step : Stepped chains w h v → Conserving (hs ++ h ∷ []) v
  conserving_step step = record {
    known = known_step step;
    unopened = unopened_step chains w h v inv was.known.kinds typed step was.unopened;
    balanced = balances step;
  }
    where
      balances : Stepped chains w h v → (e f : End) (p : Peers v e f) → e.port ≡ transfer_port → f.port ≡ transfer_port → IsBalanced v e f p
      balances (rests quiet same) = subst (λ x. (e f : End) (p : Peers x e f) → e.port ≡ transfer_port → f.port ≡ transfer_port → IsBalanced x e f p) (sym same) was.balanced
      balances (moves s) = balanced_after s

pub conserving_of_past : (genesis : GenesisState) (happened : List Happened) (world : World) → IsPast genesis happened world → Conserving happened world
conserving_of_past genesis happened world past = past_has genesis Conserving
    (λ happened old h new typed was step. conserving_step (length genesis.chains) happened old h new was typed (stepped genesis old h new step))
    (conserving_start genesis past.allowed) happened world past

-- ---- in the words of the law

stands_at : (w : World) (e : End) (m : Channel) → Stands w e m → end_at w e ≡ Some m
stands_at w e m s =
    ap (λ (o : Option MachineChain). option_and_then (λ (records : Records). channel_at records.core e.port e.channel) (option_map (λ (c : MachineChain). c.records) o)) s.there ∙ s.is

pub conserved : Conserved
conserved genesis happened w e f past are_peers denom is over =
    let all = conserving_of_past genesis happened w past in
    let p = true_peers w e f are_peers in
    let is_there = transfer_peer w all.known.once.inv all.known.kinds e f p is in
    let version = same_version_as w all.known.once.inv e f p in
    let equation = all.balanced e f p is is_there denom in
    let kept = ap (λ b. unless b (flown p.mine.end.version denom p.theirs p.mine.commitments))
    (ap (λ port. came_over port e.channel denom) (sym is) ∙ over) in
    let held : escrow_balance w e denom ≡ balance (balances_at p.here) (escrow e.channel) denom =
    ap (λ (o : Option MachineChain). balance (option_map_or (λ (c : MachineChain). c.records.apps.balances) o []) (escrow e.channel) denom) p.here.there in
    let made : vouchers w f denom ≡ supply (balances_at p.there) (hop transfer_port f.channel ++ denom) =
    ap (λ (o : Option MachineChain). supply (option_map_or (λ (c : MachineChain). c.records.apps.balances) o []) (denom_with_hop f denom)) p.there.there
    ∙ ap (λ port. supply (balances_at p.there) (hop port f.channel ++ denom)) is_there in
    let out : flight w e f denom ≡ flown p.mine.end.version denom p.theirs p.mine.commitments =
    ap (λ o. flight_between denom o (end_at w f)) (stands_at w e p.mine p.here) ∙ ap (λ o. flight_between denom (Some p.mine) o) (stands_at w f p.theirs p.there) in
    let back : flight w f e (denom_with_hop f denom) ≡ flown p.mine.end.version (hop transfer_port f.channel ++ denom) p.mine p.theirs.commitments =
    ap (λ o. flight_between (denom_with_hop f denom) o (end_at w e)) (stands_at w f p.theirs p.there)
    ∙ ap (λ o. flight_between (denom_with_hop f denom) (Some p.theirs) o) (stands_at w e p.mine p.here)
    ∙ ap (λ port. flown p.theirs.end.version (hop port f.channel ++ denom) p.mine p.theirs.commitments) is_there
    ∙ ap (λ x. flown x (hop transfer_port f.channel ++ denom) p.mine p.theirs.commitments) version in
    omega arith
