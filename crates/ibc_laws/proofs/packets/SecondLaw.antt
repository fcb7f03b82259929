-- No packet is both received and timed out; each is received at most once, and acknowledged or timed out at most
-- once in all; one that was acknowledged was received.
use Rattle.std.proofs.Common.{ℕ, List, [], ◌∷◌, ◌++◌, length, subst, ◌≡◌}
use Rattle.ibc_machine.specs.chain.Genesis.{GenesisState, start}
use Rattle.ibc_machine.specs.chain.Machine.{World}
use Rattle.ibc_machine.specs.promises.Histories.{Happened, End, received_packets, acknowledged_packets, timed_out_packets, sequences}
use Rattle.ibc_machine.specs.promises.Laws.{ExactlyOnce, IsPast}
use Rattle.ibc_laws.proofs.basics.Lists.{distinct-none, contains-among, among-contains}
use Rattle.ibc_laws.proofs.steps.MachineSteps.{Stepped, stepped}
use Rattle.ibc_laws.proofs.peers.Invariant.{Inv, Inv-start, stepped_inv, starts_empty, no_channel}
use Rattle.ibc_laws.proofs.steps.Induction.{past_has}
use Rattle.ibc_laws.proofs.peers.Peers.{true_peers, one_peer_only}
use Rattle.ibc_laws.proofs.packets.ReceivedOnce.{ReceivedOnce, received_once_step}
use Rattle.ibc_laws.proofs.packets.SettledOnce.{SettledOnce, settled_once_step}
use Rattle.ibc_laws.proofs.packets.AcknowledgedReceived.{AcksReceived, acks_received_step, IsReceived}
use Rattle.ibc_laws.proofs.packets.NotBoth.{NotBoth, not_both_step}

pub record Once (hs : List Happened) (w : World) : Type 0 where
  pub inv : Inv w
  pub received : ReceivedOnce hs w
  pub settled : SettledOnce hs w
  pub acknowledged : AcksReceived hs w
  pub not_both : NotBoth hs w

pub once_start : (genesis : GenesisState) → Once [] (start genesis)
once_start genesis = record {
  inv = Inv-start genesis;
  received = record { marked = λ f n is. absurd (cc is); once = λ f. distinct-none };
  settled = record { settled = λ e n is. absurd (cc is); once = λ e. distinct-none };
  acknowledged = record {
    written = λ f m s n ack is. absurd (no_channel s.chain (starts_empty genesis f.chain s.chain s.there) f.port f.channel m s.is);
    acknowledged = λ e n is. absurd (cc is);
  };
  not_both = record {
    received = λ f n is. absurd (cc is);
    timed_out = λ e n is. absurd (cc is);
    not_both = λ e f n peers t r. absurd (cc t);
  };
}

pub once_step : (chains : ℕ) (hs : List Happened) (w : World) (h : Happened) (v : World) → Once hs w → Stepped chains w h v
    → Once (hs ++ h ∷ []) v
once_step chains hs w h v once step = record {
  inv = stepped_inv chains w h v once.inv step;
  received = received_once_step chains w hs h v once.inv step once.received;
  settled = settled_once_step chains w hs h v once.inv step once.settled;
  acknowledged = acks_received_step chains w hs h v once.inv step once.acknowledged;
  not_both = not_both_step chains w hs h v once.inv step once.not_both;
}

pub once_of_past : (genesis : GenesisState) (happened : List Happened) (world : World) → IsPast genesis happened world → Once happened world
once_of_past genesis = past_has genesis Once
    (λ happened old h new typed once step. once_step (length genesis.chains) happened old h new once (stepped genesis old h new step))
    (once_start genesis)

pub exactly_once : ExactlyOnce
exactly_once genesis happened world e f past are_peers =
    let all = once_of_past genesis happened world past in
    let peers = true_peers world e f are_peers in
    record {
      not_both = λ n t r. all.not_both.not_both e f n peers
          (among-contains (sequences (timed_out_packets e happened)) n t) (among-contains (sequences (received_packets f happened)) n r);
      received_once = all.received.once f;
      settled_once = all.settled.once e;
      acknowledged_received = λ n is.
          let x = all.acknowledged.acknowledged e n (among-contains (sequences (acknowledged_packets e happened)) n is) in
          let same : x.0 ≡ f = one_peer_only world e x.0 f x.1 peers in
          contains-among (sequences (received_packets f happened)) n (subst (λ (g : End). IsReceived happened g n) same x.2);
    }
