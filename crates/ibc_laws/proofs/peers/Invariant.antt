-- The invariant of worlds: each chain has its shape, and each end knows its peer. It holds at the start, and
-- every step keeps it.
use Rattle.std.proofs.Common.{◌≡◌, ℕ, zero, suc, refl, sym, ◌∙◌, subst, List, [], ◌∷◌, map, length, Some, inl, inr, arith, slice_get, slice_set}
use Rattle.ibc_ids.specs.Texts.{Text}
use Rattle.ibc_wire.specs.declared.records.ConnectionEnd.{ConnectionEnd}
use Rattle.ibc_machine.specs.chain.Records.{Core, Block, MachineChain, Channel, connection_at, channel_at}
use Rattle.ibc_machine.specs.chain.Genesis.{GenesisState, ChainState, start, starting_chain, empty_core}
use Rattle.ibc_machine.specs.chain.Handlers.{host_of}
use Rattle.ibc_machine.specs.chain.Machine.{World, block_of}
use Rattle.ibc_machine.specs.promises.Histories.{Happened, End}
use Rattle.ibc_machine.specs.promises.Laws.{IsPast}
use Rattle.ibc_laws.proofs.basics.ListPlaces.{some_is, same_or_not, placed, get-set_same, get-set_other}
use Rattle.ibc_laws.proofs.steps.Told.{Told, told_of}
use Rattle.ibc_laws.proofs.steps.Growth.{ChannelGrows-refl}
use Rattle.ibc_laws.proofs.steps.CoreShape.{CoreShaped}
use Rattle.ibc_laws.proofs.steps.WorldGrowth.{ChainStep, acts, ends, ChainGrows, ChainGrows-refl, ChainShaped, chain_grows, chain_shaped, WorldGrows, WorldGrows-refl, Shaped}
use Rattle.ibc_laws.proofs.peers.Peers.{Stands}
use Rattle.ibc_laws.proofs.steps.EndSteps.{IsShaped}
use Rattle.ibc_laws.proofs.peers.PeersKnown.{ConnectionPeer, ConnectionPeer-grows, ChannelPeer, ChannelPeer-grows}
use Rattle.ibc_laws.proofs.peers.PeersKept.{Peered, connected, settled, connection_peer, channel_peer}
use Rattle.ibc_laws.proofs.steps.MachineSteps.{Moves, Stepped, rests, moves, stepped}
use Rattle.ibc_laws.proofs.steps.Induction.{past_has}

pub record Inv (w : World) : Type 0 where
  pub shaped : Shaped w
  pub peered : (x : ℕ) (c : MachineChain) → slice_get w x ≡ Some c → Peered w x c.records.core

-- ---- the start

pub starting : (starts : List ChainState) (x : ℕ) (c : MachineChain) → slice_get (map starting_chain starts) x ≡ Some c
    → (s : ChainState) × (starting_chain s ≡ c)
starting [] x c e = absurd (cc e)
starting (s ∷ starts) zero c e = (s, some_is refl e)
starting (s ∷ starts) (suc x) c e = starting starts x c e

-- each chain of the start has no clients, connections, channels and blocks
pub record IsEmpty (c : MachineChain) : Type 0 where
  pub core : c.records.core ≡ empty_core
  pub committed : c.committed ≡ []

pub starts_empty : (genesis : GenesisState) (x : ℕ) (c : MachineChain) → slice_get (start genesis) x ≡ Some c → IsEmpty c
starts_empty genesis x c e =
    let s = starting genesis.chains x c e in
    subst IsEmpty s.1 (record { core = refl; committed = refl })

CoreShaped-empty : CoreShaped empty_core
CoreShaped-empty = record {
  client_names = record { names = λ id has. absurd (cc (has.1)); limit = omega arith };
  connection_names = record { names = λ id has. absurd (cc (has.1)); limit = omega arith };
  channel_names = record { names = λ id has. absurd (cc (has.2)); limit = omega arith };
  connections = λ id c e. absurd (cc e);
  channels = λ port id m e. absurd (cc e);
}

pub no_block : (c : MachineChain) → IsEmpty c → (h : ℕ) (b : Block) → block_of h c.committed ≡ Some b → ⊥
no_block c empty h b e = none h (subst (λ xs. block_of h xs ≡ Some b) empty.committed e)
  where
    none : (h : ℕ) → block_of h [] ≡ Some b → ⊥
    none zero e = absurd (cc e)
    none (suc h) e = absurd (cc e)

pub no_channel : (c : MachineChain) → IsEmpty c → (port id : Text) (m : Channel) → channel_at c.records.core port id ≡ Some m → ⊥
no_channel c empty port id m e = none (subst (λ core. channel_at core port id ≡ Some m) empty.core e)
  where
    none : channel_at empty_core port id ≡ Some m → ⊥
    none e = absurd (cc e)

no_connection : (c : MachineChain) → IsEmpty c → (id : Text) (k : ConnectionEnd) → connection_at c.records.core id ≡ Some k → ⊥
no_connection c empty id k e = none (subst (λ core. connection_at core id ≡ Some k) empty.core e)
  where
    none : connection_at empty_core id ≡ Some k → ⊥
    none e = absurd (cc e)

pub Inv-start : (genesis : GenesisState) → Inv (start genesis)
Inv-start genesis = record {
  shaped = record {
    each = λ y c is. let empty = starts_empty genesis y c is in record {
      core = subst CoreShaped (sym empty.core) CoreShaped-empty;
      blocks_shaped = λ h b e. absurd (no_block c empty h b e);
      grows = λ h b e. absurd (no_block c empty h b e);
      times = λ h b e. absurd (no_block c empty h b e);
    };
  };
  peered = λ y c is. let empty = starts_empty genesis y c is in record {
    connections = λ k e there. absurd (no_connection c empty k e there);
    channels = λ port id m there. absurd (no_channel c empty port id m there);
  };
}

-- ---- one chain moves

-- the ends of a later core, with what was known before
record KnownBefore (w : World) (x : ℕ) (core later : Core) : Type 0 where
  connections : (k : Text) (e : ConnectionEnd) → connection_at later k ≡ Some e → ConnectionPeer w x core k e
  channels : (port id : Text) (m : Channel) → channel_at later port id ≡ Some m → ChannelPeer w core port id m

module _ (chains : ℕ) (w : World) (h : Happened) (v : World) (inv : Inv w) (s : Moves chains w h v) where
  now_grows : ChainGrows s.before s.now
  now_grows = chain_grows chains w s.k s.before (inv.shaped.each s.k s.before s.there) (told_of h) s.now s.step

  now_shaped : ChainShaped s.now
  now_shaped = chain_shaped chains w s.k s.before (inv.shaped.each s.k s.before s.there) (told_of h) s.now s.step

  each_grows : (y : ℕ) (e : MachineChain) → slice_get w y ≡ Some e
      → (f : MachineChain) × (slice_get (slice_set w s.k s.now) y ≡ Some f) × ChainGrows e f
  each_grows y e is = elim (same_or_not y s.k) [
    | inl yk ↦ (
        let same : s.before ≡ e = some_is s.there (subst (λ z. slice_get w z ≡ Some e) yk is) in (
          s.now,
          subst (λ z. slice_get (slice_set w s.k s.now) z ≡ Some s.now) (sym yk) (get-set_same w s.k s.before s.now s.there),
          subst (λ (z : MachineChain). ChainGrows z s.now) same now_grows,
        )
        )
    | inr other ↦ (e, get-set_other w s.k y s.now other ∙ is, ChainGrows-refl e)
  ]

  moved_grows : WorldGrows w v
  moved_grows = subst (WorldGrows w) (sym s.after) (record { each = each_grows })

  -- the ends of the chain that moved, with what was known before
  known_before : {told : Told} {d : MachineChain} → ChainStep chains w s.k s.before told d
      → KnownBefore w s.k s.before.records.core d.records.core
  known_before (acts told records step apps) = record {
    connections = λ k e is. connection_peer w (host_of chains s.k s.before) s.before.records.core inv.shaped
        (inv.shaped.each s.k s.before s.there).core (inv.peered s.k s.before s.there) told records.core step k e is;
    channels = λ port id m is. channel_peer w (host_of chains s.k s.before) s.before.records.core inv.shaped
        (inv.shaped.each s.k s.before s.there).core (inv.peered s.k s.before s.there) told records.core step port id m is;
  }
  known_before (ends t later) =
      let p = inv.peered s.k s.before s.there in record { connections = p.connections; channels = p.channels }

  -- what was known is known on
  known_on : (y : ℕ) (e f : MachineChain) → slice_get w y ≡ Some e → ChainGrows e f → CoreShaped f.records.core
      → KnownBefore w y e.records.core f.records.core → Peered v y f.records.core
  known_on y e f is grows shaped known = record {
    connections = λ k q there. ConnectionPeer-grows y k q moved_grows grows.core (known.connections k q there);
    channels = λ port id m there. ChannelPeer-grows port id m m moved_grows grows.core
        (connected w y e.records.core (inv.shaped.each y e is).core (inv.peered y e is))
        (ChannelGrows-refl m) (inr refl) (settled m (shaped.channels port id m there)) (known.channels port id m there);
  }

  now_peered : (y : ℕ) (e : MachineChain) → slice_get (slice_set w s.k s.now) y ≡ Some e → Peered v y e.records.core
  now_peered y e is = elim (placed w s.k s.before s.now s.there y e is) [
    | inl h ↦ subst (λ (z : MachineChain). Peered v y z.records.core) h.1
        (subst (λ z. Peered v z s.now.records.core) (sym h.0)
        (known_on s.k s.before s.now s.there now_grows now_shaped.core (known_before s.step)))
    | inr h ↦ (let p = inv.peered y e h.1 in
        known_on y e e h.1 (ChainGrows-refl e) (inv.shaped.each y e h.1).core (record { connections = p.connections; channels = p.channels }))
  ]

  now_shapes : (y : ℕ) (e : MachineChain) → slice_get (slice_set w s.k s.now) y ≡ Some e → ChainShaped e
  now_shapes y e is = elim (placed w s.k s.before s.now s.there y e is) [
    | inl h ↦ subst ChainShaped h.1 now_shaped
    | inr h ↦ inv.shaped.each y e h.1
  ]

  moved_inv : Inv v
  moved_inv = record {
    shaped = record { each = λ y e is. now_shapes y e (subst (λ x. slice_get x y ≡ Some e) s.after is) };
    peered = λ y e is. now_peered y e (subst (λ x. slice_get x y ≡ Some e) s.after is);
  }

-- ---- a step, and a run

pub stepped_inv : (chains : ℕ) (w : World) (h : Happened) (v : World) → Inv w → Stepped chains w h v → Inv v
stepped_inv chains w h v inv (rests quiet same) = subst Inv (sym same) inv
stepped_inv chains w h v inv (moves s) = moved_inv chains w h v inv s

pub stepped_grows : (chains : ℕ) (w : World) (h : Happened) (v : World) → Inv w → Stepped chains w h v → WorldGrows w v
stepped_grows chains w h v inv (rests quiet same) = subst (WorldGrows w) (sym same) (WorldGrows-refl w)
stepped_grows chains w h v inv (moves s) = moved_grows chains w h v inv s

pub inv_of_past : (genesis : GenesisState) (happened : List Happened) (world : World) → IsPast genesis happened world → Inv world
inv_of_past genesis = past_has genesis (λ happened w. Inv w)
    (λ happened old h new typed inv step. stepped_inv (length genesis.chains) old h new inv (stepped genesis old h new step))
    (Inv-start genesis)

-- a chain that is there now was there, and has gone on
pub stepped_back : (chains : ℕ) (w : World) (h : Happened) (v : World) → Inv w → Stepped chains w h v → (y : ℕ) (d : MachineChain)
    → slice_get v y ≡ Some d → (c : MachineChain) × (slice_get w y ≡ Some c) × ChainGrows c d
stepped_back chains w h v inv (rests quiet same) y d is = (d, subst (λ x. slice_get x y ≡ Some d) same is, ChainGrows-refl d)
stepped_back chains w h v inv (moves s) y d is = elim (placed w s.k s.before s.now s.there y d (subst (λ x. slice_get x y ≡ Some d) s.after is)) [
  | inl here ↦ (s.before, subst (λ z. slice_get w z ≡ Some s.before) (sym here.0) s.there, subst (ChainGrows s.before) here.1 (now_grows chains w h v inv s))
  | inr there ↦ (d, there.1, ChainGrows-refl d)
]

pub shape_of : (w : World) → Inv w → (e : End) (m : Channel) → Stands w e m → IsShaped m
shape_of w inv e m s = (inv.shaped.each e.chain s.chain s.there).core.channels e.port e.channel m s.is
