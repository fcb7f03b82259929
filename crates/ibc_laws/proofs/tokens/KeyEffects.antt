-- What a step of a chain does to the tokens of one channel name on port `transfer`: it leaves them alone, or opens
-- the channel, or takes the channel one labelled step further.
use Rattle.std.proofs.Common.{◌≡◌, ℕ, refl, ap, sym, ◌∙◌, subst, Some, inl, inr}
use Rattle.ibc_ids.specs.Texts.{Text, pair_cmp}
use Rattle.ibc_ids.specs.Maps.{at, with}
use Rattle.ibc_ids.specs.Paths.{nth_channel}
use Rattle.ibc_wire.specs.declared.records.ChannelEnd.{ChannelEnd}
use Rattle.ibc_machine.specs.chain.Records.{Core, Apps, Records, MachineChain, Channel, channel_at}
use Rattle.ibc_machine.specs.ics24.Evidence.{Host}
use Rattle.ibc_machine.specs.chain.Handlers.{host_of}
use Rattle.ibc_machine.specs.ics04.Channels.{new_channel}
use Rattle.ibc_machine.specs.ics20.Transfers.{transfer_port}
use Rattle.ibc_machine.specs.chain.Machine.{World}
use Rattle.ibc_machine.proofs.FiniteMaps.{by_pair, at-with_split}
use Rattle.ibc_machine.proofs.Identifiers.{nth_channel_same}
use Rattle.ibc_laws.proofs.steps.Told.{Told}
use Rattle.ibc_laws.proofs.steps.CoreSteps.{CoreStep, creates_client, updates_client, starts_connection, answers_connection, confirms_connection, opens_channel, changes_channel, ChannelStep}
use Rattle.ibc_laws.proofs.steps.AppSteps.{AppsOf, AppsOfEnd, GoodOf, GoodOfEnd}
use Rattle.ibc_laws.proofs.steps.WorldGrowth.{ChainStep, acts, ends, GoodStep}
use Rattle.ibc_laws.proofs.steps.CoreShape.{CoreShaped, HasChannel}
use Rattle.ibc_laws.proofs.basics.Numbered.{none_yet}
use Rattle.ibc_machine.proofs.Measures.{IsSorted}
use Rattle.ibc_laws.proofs.tokens.Hops.{HasNoSlash}
use Rattle.ibc_laws.proofs.tokens.ChannelNames.{channel_has_no_slash}
use Rattle.ibc_laws.proofs.tokens.TokenShifts.{Unshifted, unshifted}
use Rattle.ibc_laws.proofs.tokens.TokenEffects.{OwnEffect, still, elsewhere, at_itself}

pub data KeyEffect (w : World) (host : Host) (before after : Records) (name : Text) : Type 0 where
  left_alone : Unshifted before.apps.balances after.apps.balances name
      → ((n : Channel) → channel_at after.core transfer_port name ≡ Some n → channel_at before.core transfer_port name ≡ Some n)
      → KeyEffect w host before after name
  opened_now : Unshifted before.apps.balances after.apps.balances name
      → ((m : Channel) → channel_at before.core transfer_port name ≡ Some m → ⊥)
      → (end : ChannelEnd) → channel_at after.core transfer_port name ≡ Some (new_channel end) → KeyEffect w host before after name
  went_on : (m n : Channel) → channel_at before.core transfer_port name ≡ Some m → channel_at after.core transfer_port name ≡ Some n
      → OwnEffect w host before.core name before.apps.balances after.apps.balances m n → KeyEffect w host before after name

module _ (w : World) (host : Host) (records : Records) (shaped : CoreShaped records.core) (sorted : IsSorted records.apps.balances)
    (name : Text) (clear : HasNoSlash name) where
  -- the channels and the applications are as they were
  as_it_was : (after : Records) → after.core.channels ≡ records.core.channels → after.apps ≡ records.apps → KeyEffect w host records after name
  as_it_was after channels apps = left_alone (still records after.apps name apps)
      (λ n is. ap (λ x. at pair_cmp (transfer_port, name) x) (sym channels) ∙ is)

  -- the channel of the name did a labelled step, or another one did
  changed : (after : Records) (told : Told) (port id : Text) (mine now : Channel) → channel_at records.core port id ≡ Some mine
      → (s : ChannelStep w host records.core port id mine told now) → (did : AppsOfEnd w host records after.apps port id mine told now s)
      → GoodOfEnd w host records after.apps port id mine told now s did
      → after.core.channels ≡ with pair_cmp (port, id) now records.core.channels → KeyEffect w host records after name
  changed after told port id mine now there s did good channels =
      let found = ap (λ x. at pair_cmp (transfer_port, name) x) channels in
      elim (at-with_split by_pair (port, id) (transfer_port, name) now records.core.channels) [
        | inl here ↦ went_on mine now (ap (λ x. at pair_cmp x records.core.channels) here.0 ∙ there) (found ∙ here.1)
            (subst (λ (x : Text × Text). (s : ChannelStep w host records.core x.0 x.1 mine told now)
            → (did : AppsOfEnd w host records after.apps x.0 x.1 mine told now s)
            → GoodOfEnd w host records after.apps x.0 x.1 mine told now s did
            → OwnEffect w host records.core name records.apps.balances after.apps.balances mine now) here.0
            (at_itself w host records after.apps sorted name clear mine told now) s did good)
        | inr apart ↦ left_alone
            (elsewhere w host records after.apps sorted port id name (channel_has_no_slash records.core shaped port id mine there) clear
            (λ is same. apart.0 (λ i. (sym is i, sym same i))) mine told now s did good)
            (λ n is. sym apart.1 ∙ sym found ∙ is)
      ]

  opening : (after : Records) (port : Text) (end : ChannelEnd) → after.apps ≡ records.apps
      → after.core.channels ≡ with pair_cmp (port, nth_channel records.core.next_channel) (new_channel end) records.core.channels
      → KeyEffect w host records after name
  opening after port end apps channels =
      let core : Core = records.core in
      let id : Text = nth_channel core.next_channel in
      let found = ap (λ x. at pair_cmp (transfer_port, name) x) channels in
      elim (at-with_split by_pair (port, id) (transfer_port, name) (new_channel end) core.channels) [
        | inl here ↦ opened_now (still records after.apps name apps)
            (λ m is. none_yet {Has = HasChannel core} shaped.channel_names nth_channel_same (
              transfer_port,
              m,
              ap (λ x. channel_at core transfer_port x) (sym (ap (λ (x : Text × Text). x.1) here.0)) ∙ is,
            )) end (found ∙ here.1)
        | inr apart ↦ left_alone (still records after.apps name apps) (λ n is. sym apart.1 ∙ sym found ∙ is)
      ]

  of_core : (apps : Apps) (told : Told) (after : Core) (s : CoreStep w host records.core told after) (did : AppsOf w host records apps told after s)
      → GoodOf w host records apps told after s did → KeyEffect w host records (record { core = after; apps = apps }) name
  of_core apps told after (creates_client chain other free) did good = as_it_was _ refl did
  of_core apps told after (updates_client id client height there) did good = as_it_was _ refl did
  of_core apps told after (starts_connection end free s) did good = as_it_was _ refl did
  of_core apps told after (answers_connection id mine peer s) did good = as_it_was _ refl did
  of_core apps told after (confirms_connection id mine s) did good = as_it_was _ refl did
  of_core apps told after (opens_channel port end free s) did good = opening _ port end did refl
  of_core apps _ after (changes_channel told port id mine now there s) did good = changed _ told port id mine now there s did good refl

pub key_effect : (chains : ℕ) (w : World) (k : ℕ) (c : MachineChain) → CoreShaped c.records.core → IsSorted c.records.apps.balances
    → (name : Text) → HasNoSlash name → (told : Told) (d : MachineChain) (step : ChainStep chains w k c told d) → GoodStep chains w k c told d step
    → KeyEffect w (host_of chains k c) c.records d.records name
key_effect chains w k c shaped sorted name clear _ d (acts told records step did) good =
    of_core w (host_of chains k c) c.records shaped sorted name clear records.apps told records.core step did good
key_effect chains w k c shaped sorted name clear told d (ends t later) good =
    left_alone (unshifted c.records.apps.balances name) (λ n is. is)
