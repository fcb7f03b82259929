-- What a step of the machine does to one end of a channel: it leaves it alone and tells nothing of it, or opens
-- it, or takes it one labelled step further.
use Rattle.std.proofs.Common.{◌≡◌, ℕ, Bool, true, false, refl, ap, sym, ◌∙◌, subst, Some, None, inl, inr, slice_get, slice_set}
use Rattle.ibc_ids.specs.Texts.{Text, pair_cmp, same_text}
use Rattle.ibc_ids.specs.Maps.{at, with}
use Rattle.ibc_ids.specs.Paths.{nth_channel}
use Rattle.ibc_ids.proofs.Texts.{text_same}
use Rattle.ibc_wire.specs.declared.packet.Packet.{Packet}
use Rattle.ibc_wire.specs.declared.records.ChannelEnd.{ChannelEnd}
use Rattle.ibc_machine.specs.chain.Records.{Core, MachineChain, Channel, channel_at}
use Rattle.ibc_machine.specs.ics24.Evidence.{Host}
use Rattle.ibc_machine.specs.chain.Handlers.{host_of}
use Rattle.ibc_machine.specs.ics04.Channels.{new_channel}
use Rattle.ibc_machine.specs.ledger.Ledgers.{chain_of, is_typed}
use Rattle.ibc_machine.specs.chain.Machine.{World}
use Rattle.ibc_machine.specs.promises.Histories.{Happened, End, is_end, packet_if}
use Rattle.ibc_laws.proofs.basics.PassedTests.{both}
use Rattle.ibc_machine.proofs.FiniteMaps.{by_pair, at-with_split}
use Rattle.ibc_laws.proofs.basics.ListPlaces.{some_is, same_or_not, get-set_same, get-set_other}
use Rattle.ibc_laws.proofs.steps.Told.{Told, Quiet, told_of, sent_in, received_in, acknowledged_in, timed_out_in}
use Rattle.ibc_laws.proofs.steps.CoreSteps.{CoreStep, creates_client, updates_client, starts_connection, answers_connection, confirms_connection, opens_channel, changes_channel, ChannelStep, answers, follows, closes, sends, receives, acknowledges, times_out}
use Rattle.ibc_laws.proofs.steps.WorldGrowth.{ChainStep, acts, ends, GoodStep, next_chain}
use Rattle.ibc_laws.proofs.steps.CoreShape.{HasChannel}
use Rattle.ibc_laws.proofs.basics.Numbered.{none_yet}
use Rattle.ibc_machine.proofs.Identifiers.{nth_channel_same}
use Rattle.ibc_laws.proofs.peers.Invariant.{Inv}
use Rattle.ibc_laws.proofs.steps.MachineSteps.{Moves, Stepped, rests, moves, refused_quiet}
use Rattle.ibc_laws.proofs.peers.Peers.{Stands}

-- nothing is told of the end
pub record IsQuietAt (e : End) (told : Told) : Type 0 where
  pub sent : (mine : Channel) → sent_in e mine told ≡ None
  pub received : received_in e told ≡ None
  pub acknowledged : acknowledged_in e told ≡ None
  pub timed_out : timed_out_in e told ≡ None

pub data EndStep (chains : ℕ) (w : World) (h : Happened) (v : World) (e : End) : Type 0 where
  untouched : (chain_of h.0 ≡ e.chain → IsQuietAt e (told_of h)) → ((m : Channel) → Stands v e m → Stands w e m)
      → EndStep chains w h v e
  opened : chain_of h.0 ≡ e.chain → told_of h ≡ Quiet → (end : ChannelEnd) → Stands v e (new_channel end)
      → ((m : Channel) → Stands w e m → ⊥) → EndStep chains w h v e
  stepped : chain_of h.0 ≡ e.chain → (m n : Channel) (was : Stands w e m) → Stands v e n
      → ChannelStep w (host_of chains e.chain was.chain) was.chain.records.core e.port e.channel m (told_of h) n
      → EndStep chains w h v e

-- ---- what is told of another end

quiet_is_quiet : (e : End) → IsQuietAt e Quiet
quiet_is_quiet e = record { sent = λ mine. refl; received = refl; acknowledged = refl; timed_out = refl }

pub quiet : (e : End) (told : Told) → told ≡ Quiet → IsQuietAt e told
quiet e told is = subst (IsQuietAt e) (sym is) (quiet_is_quiet e)

abbrev IsOther : End → Text → Text → Type 0
IsOther e port id = ◌≡◌ {A = Text × Text} (e.port, e.channel) (port, id) → ⊥

not_at : (e : End) (port id p q : Text) → IsOther e port id → p ≡ port → q ≡ id → (packet : Packet)
    → packet_if (is_end e p q) packet ≡ None
not_at e port id p q other is_port is_id packet = go (is_end e p q) refl
  where
    go : (b : Bool) → is_end e p q ≡ b → packet_if b packet ≡ None
    go true is =
        let parts = both (same_text p e.port) (same_text q e.channel) is in
        let a : e.port ≡ port = sym (text_same p e.port parts.0) ∙ is_port in
        let b : e.channel ≡ id = sym (text_same q e.channel parts.1) ∙ is_id in
        absurd (other (λ i. (a i, b i)))
    go false is = refl

quiet_elsewhere : (w : World) (host : Host) (core : Core) (e : End) (port id : Text) (m : Channel) (told : Told) (n : Channel)
    → IsOther e port id → ChannelStep w host core port id m told n → IsQuietAt e told
quiet_elsewhere w host core e port id m told n other (answers peer s) = quiet_is_quiet e
quiet_elsewhere w host core e port id m told n other (follows state s) = quiet_is_quiet e
quiet_elsewhere w host core e port id m told n other (closes s may) = quiet_is_quiet e
quiet_elsewhere w host core e port id m told n other (sends c s) = record {
  sent = λ mine. not_at e port id port id other refl refl _;
  received = refl;
  acknowledged = refl;
  timed_out = refl;
}
quiet_elsewhere w host core e port id m told n other (receives p ack s) = record {
  sent = λ mine. refl;
  received = not_at e port id p.destination_port p.destination_channel other s.to_port s.to_channel p;
  acknowledged = refl;
  timed_out = refl;
}
quiet_elsewhere w host core e port id m told n other (acknowledges p s) = record {
  sent = λ mine. refl;
  received = refl;
  acknowledged = not_at e port id p.source_port p.source_channel other s.settles.from_port s.settles.from_channel p;
  timed_out = refl;
}
quiet_elsewhere w host core e port id m told n other (times_out p s) = record {
  sent = λ mine. refl;
  received = refl;
  acknowledged = refl;
  timed_out = not_at e port id p.source_port p.source_channel other s.settles.from_port s.settles.from_channel p;
}

-- ---- the chain of the end moves

pub record MovesAt (chains : ℕ) (w : World) (h : Happened) (v : World) (k : ℕ) : Type 0 where
  pub before : MachineChain
  pub now : MachineChain
  pub there : slice_get w k ≡ Some before
  pub chain_is : chain_of h.0 ≡ k
  pub step : ChainStep chains w k before (told_of h) now
  pub good : is_typed h.0 ≡ true → GoodStep chains w k before (told_of h) now step
  pub after : v ≡ slice_set w k now

module _ (chains : ℕ) (w : World) (h : Happened) (v : World) (inv : Inv w) (e : End) (s : MovesAt chains w h v e.chain) where
  stands_now : (d : MachineChain) → s.now ≡ d → (n : Channel) → channel_at d.records.core e.port e.channel ≡ Some n → Stands v e n
  stands_now d same n is = record {
    chain = d;
    there = subst (λ x. slice_get x e.chain ≡ Some d) (sym s.after)
        (subst (λ z. slice_get (slice_set w e.chain s.now) e.chain ≡ Some z) same (get-set_same w e.chain s.before s.now s.there));
    is = is;
  }

  abbrev stood : (m : Channel) → channel_at s.before.records.core e.port e.channel ≡ Some m → Stands w e m
  stood m is = record { chain = s.before; there = s.there; is = is }

  -- what stands now is of the chain that moved
  of_now : (d : MachineChain) → s.now ≡ d → (m : Channel) → Stands v e m → channel_at d.records.core e.port e.channel ≡ Some m
  of_now d same m stands =
      let at_v = subst (λ x. slice_get x e.chain ≡ Some stands.chain) s.after stands.there in
      let is : stands.chain ≡ d = some_is at_v (get-set_same w e.chain s.before s.now s.there) ∙ same in
      subst (λ (c : MachineChain). channel_at c.records.core e.port e.channel ≡ Some m) is stands.is

  -- the channels are as they were
  same_channels : (d : MachineChain) → s.now ≡ d → told_of h ≡ Quiet → d.records.core.channels ≡ s.before.records.core.channels
      → EndStep chains w h v e
  same_channels d same silent channels = untouched (λ chain. quiet e (told_of h) silent)
      (λ m stands. stood m (ap (λ x. at pair_cmp (e.port, e.channel) x) (sym channels) ∙ of_now d same m stands))

  -- the channel of a key is new, or another one, and the end is at the key or elsewhere
  opening : (port : Text) (end : ChannelEnd) → (d : MachineChain) → s.now ≡ d → told_of h ≡ Quiet
      → d.records.core.channels ≡ with pair_cmp (port, nth_channel s.before.records.core.next_channel) (new_channel end) s.before.records.core.channels
      → EndStep chains w h v e
  opening port end d same silent channels =
      let core : Core = s.before.records.core in
      let id : Text = nth_channel core.next_channel in
      let found = ap (λ x. at pair_cmp (e.port, e.channel) x) channels in
      elim (at-with_split by_pair (port, id) (e.port, e.channel) (new_channel end) core.channels) [
        | inl here ↦ opened s.chain_is silent end (stands_now d same (new_channel end) (found ∙ here.1))
            (λ m stands. absurd (none_yet {Has = HasChannel core} (inv.shaped.each e.chain s.before s.there).core.channel_names nth_channel_same (
              e.port,
              m,
              ap (λ x. channel_at core e.port x) (sym (ap (λ (x : Text × Text). x.1) here.0))
                  ∙ ap (λ (c : MachineChain). channel_at c.records.core e.port e.channel) (some_is s.there stands.there) ∙ stands.is,
            )))
        | inr there ↦ untouched (λ chain. quiet e (told_of h) silent)
            (λ m stands. stood m (sym there.1 ∙ sym found ∙ of_now d same m stands))
      ]

  changing : (told : Told) (port id : Text) (m n : Channel) → channel_at s.before.records.core port id ≡ Some m
      → ChannelStep w (host_of chains e.chain s.before) s.before.records.core port id m told n → (d : MachineChain) → s.now ≡ d → told_of h ≡ told
      → d.records.core.channels ≡ with pair_cmp (port, id) n s.before.records.core.channels → EndStep chains w h v e
  changing told port id m n was step d same is channels =
      let core : Core = s.before.records.core in
      let found = ap (λ x. at pair_cmp (e.port, e.channel) x) channels in
      elim (at-with_split by_pair (port, id) (e.port, e.channel) n core.channels) [
        | inl here ↦ stepped s.chain_is m n (stood m (ap (λ x. at pair_cmp x core.channels) here.0 ∙ was))
            (stands_now d same n (found ∙ here.1))
            (subst (λ t. ChannelStep w (host_of chains e.chain s.before) core e.port e.channel m t n) (sym is)
            (subst (λ (x : Text × Text). ChannelStep w (host_of chains e.chain s.before) core x.0 x.1 m told n) (sym here.0) step))
        | inr there ↦ untouched
            (λ chain. subst (IsQuietAt e) (sym is) (quiet_elsewhere w (host_of chains e.chain s.before) core e port id m told n there.0 step))
            (λ k stands. stood k (sym there.1 ∙ sym found ∙ of_now d same k stands))
      ]

  of_core : (told : Told) (after : Core) → CoreStep w (host_of chains e.chain s.before) s.before.records.core told after
      → (d : MachineChain) → s.now ≡ d → told_of h ≡ told → d.records.core ≡ after → EndStep chains w h v e
  of_core told after (creates_client chain other free) d same is core = same_channels d same is (ap (λ (c : Core). c.channels) core)
  of_core told after (updates_client id client height there) d same is core = same_channels d same is (ap (λ (c : Core). c.channels) core)
  of_core told after (starts_connection end free s) d same is core = same_channels d same is (ap (λ (c : Core). c.channels) core)
  of_core told after (answers_connection id mine peer s) d same is core = same_channels d same is (ap (λ (c : Core). c.channels) core)
  of_core told after (confirms_connection id mine s) d same is core = same_channels d same is (ap (λ (c : Core). c.channels) core)
  of_core told after (opens_channel port end free s) d same is core = opening port end d same is (ap (λ (c : Core). c.channels) core)
  of_core _ after (changes_channel told port id mine now there s) d same is core =
      changing told port id mine now there s d same is (ap (λ (c : Core). c.channels) core)

  of_chain : (told : Told) (d : MachineChain) → ChainStep chains w e.chain s.before told d → s.now ≡ d → told_of h ≡ told → EndStep chains w h v e
  of_chain _ d (acts told records step apps) same is = of_core told records.core step (record s.before { records = records }) same is refl
  of_chain told d (ends t later) same is = same_channels (next_chain s.before t) same is refl

-- ---- every step, at every end

pub here : (chains : ℕ) (w : World) (h : Happened) (v : World) (s : Moves chains w h v) (k : ℕ) → k ≡ s.k → MovesAt chains w h v k
here chains w h v s k is = subst (MovesAt chains w h v) (sym is) (record {
  before = s.before;
  now = s.now;
  there = s.there;
  chain_is = s.chain_is;
  step = s.step;
  good = s.good;
  after = s.after;
})

pub at_end : (chains : ℕ) (w : World) (h : Happened) (v : World) → Inv w → Stepped chains w h v → (e : End) → EndStep chains w h v e
at_end chains w h v inv (rests refusal same) e =
    untouched (λ chain. quiet e (told_of h) (refused_quiet h refusal)) (λ m stands. subst (λ x. Stands x e m) same stands)
at_end chains w h v inv (moves s) e = elim (same_or_not e.chain s.k) [
  | inl same ↦ (let m = here chains w h v s e.chain same in
      of_chain chains w h v inv e m (told_of h) m.now m.step refl refl)
  | inr other ↦ untouched (λ chain. absurd (other (sym chain ∙ s.chain_is)))
      (λ m stands. record {
        chain = stands.chain;
        there = sym (get-set_other w s.k e.chain s.now other) ∙ subst (λ x. slice_get x e.chain ≡ Some stands.chain) s.after stands.there;
        is = stands.is;
      })
]
