-- Nothing is pending at an end that is neither OPEN nor CLOSED, or without packets of its own to which none is on the way.
use Rattle.std.proofs.Common.{◌≡◌, ℕ, Bool, true, false, cond, ◌||◌, not, List, [], ◌∷◌, ◌++◌, map, filter, refl, sym, ap, ◌∙◌, subst, Option, Some, None, option_map, option_and_then, is_eq, if◌then◌else◌}
use Rattle.std.specs.Borrow.{Bor}
use Rattle.std.specs.List.{filter_map, list_any}
use Rattle.std.specs.Option.{option_map_or}
use Rattle.std.proofs.lemmas.Bool.{and_parts}
use Rattle.ibc_ids.specs.Texts.{Text, pair_cmp}
use Rattle.ibc_ids.specs.Maps.{at}
use Rattle.ibc_machine.specs.chain.Records.{Channel, Commitment, channel_at}
use Rattle.ibc_machine.specs.ics04.Channels.{is_in_state, peer_channel_of}
use Rattle.ibc_machine.specs.ics04.Packets.{has_peer}
use Rattle.ibc_machine.specs.ics18.Relay.{View, Receive, Acknowledge, pending_of, is_to_receive, is_acknowledged, timeout_kind, to_receive, to_acknowledge, to_time_out, pending_at, pending_if, end_pending, tracks, theirs_of, if_names}
use Rattle.ibc_wire.specs.declared.records.ChannelState.TheVariants.{Open, Closed}
use Rattle.ibc_relayer.specs.EndPackets.{EndName}
use Rattle.ibc_relayer.specs.Senders.{AreSenders, has_entries, senders_of, shown, is_named, is_silent, is_open_or_closed}

-- ---- the channels at which packets stand

-- the references name what the channels do
named_alike : (end : EndName) (senders : List (Bor Channel)) → is_named end senders ≡ list_any (λ (c : Channel). has_peer c end.0 end.1) (map shown senders)
named_alike end [] = refl
named_alike end (s ∷ ss) = ap (λ (b : Bool). has_peer (shown s) end.0 end.1 || b) (named_alike end ss)

-- ---- no packet is on the way

parts : (a b : Bool) → (a || b) ≡ false → (a ≡ false) × (b ≡ false)
parts true b is = absurd (cc)
parts false b is = (refl, is)

is_not : (c : Bool) → not c ≡ true → c ≡ false
is_not false e = refl
is_not true e = absurd (cc)

-- where no channel with packets names the end, none stands at a channel that names it
none_names : (end : EndName) (place : Text × Text) (channels : List ((Text × Text) × Channel)) (theirs : Channel) → list_any (λ (c : Channel). has_peer c end.0 end.1) (senders_of channels) ≡ false
    → at pair_cmp place channels ≡ Some theirs → has_peer theirs end.0 end.1 ≡ true → has_entries theirs.commitments ≡ false
none_names end place [] theirs none there named = absurd (cc)
none_names end place (e ∷ es) theirs none there named =
    by_packets (has_entries e.1.commitments) refl none (λ others found. none_names end place es theirs others found named)
  where
    here : (b : Bool) → cond b (Some e.1) (at pair_cmp place es) ≡ Some theirs → (e.1 ≡ theirs → has_entries theirs.commitments ≡ false) → (at pair_cmp place es ≡ Some theirs → has_entries theirs.commitments ≡ false)
        → has_entries theirs.commitments ≡ false
    here true found first behind = let same : e.1 ≡ theirs = cc in first same
    here false found first behind = behind found

    by_packets : (b : Bool) → has_entries e.1.commitments ≡ b → list_any (λ (c : Channel). has_peer c end.0 end.1) (cond b (e.1 ∷ senders_of es) (senders_of es)) ≡ false
        → (list_any (λ (c : Channel). has_peer c end.0 end.1) (senders_of es) ≡ false → at pair_cmp place es ≡ Some theirs → has_entries theirs.commitments ≡ false) → has_entries theirs.commitments ≡ false
    by_packets true is others behind =
        let each = parts (has_peer e.1 end.0 end.1) (list_any (λ (c : Channel). has_peer c end.0 end.1) (senders_of es)) others in
        here (is_eq (pair_cmp place e.0)) there
        (λ same. let n : has_peer e.1 end.0 end.1 ≡ true = subst (λ (c : Channel). has_peer c end.0 end.1 ≡ true) (sym same) named in
        let f : true ≡ false = sym n ∙ each.0 in absurd (cc))
        (behind each.1)
    by_packets false is others behind =
        here (is_eq (pair_cmp place e.0)) there
        (λ same. subst (λ (c : Channel). has_entries c.commitments ≡ false) same is)
        (behind others)

-- ---- nothing is pending

no_entries : {X : Type 0} (xs : List X) → has_entries xs ≡ false → xs ≡ []
no_entries [] e = refl
no_entries (x ∷ xs) e = absurd (cc)

when_none : (c : Bool) → pending_if c [] ≡ []
when_none true = refl
when_none false = refl

module _ (a b : View) (end : EndName) (mine : Channel) where
  nothing_there : (theirs : Channel) → mine.commitments ≡ [] → theirs.commitments ≡ [] → end_pending a b end mine theirs ≡ []
  nothing_there theirs own others =
      let open_ = is_in_state Open mine in
      let both = open_ || is_in_state Closed mine in
      (λ i. pending_if open_ (map (λ (entry : ℕ × Commitment). pending_of end Receive entry.0) (filter (is_to_receive b mine) (others i)))
      ++ pending_if open_ (map (λ (entry : ℕ × Commitment). pending_of end Acknowledge entry.0) (filter (is_acknowledged theirs) (own i)))
      ++ pending_if both (filter_map (λ (entry : ℕ × Commitment). option_map (λ kind. pending_of end kind entry.0) (timeout_kind a theirs entry)) (own i)))
      ∙ λ i. when_none open_ i ++ when_none open_ i ++ when_none both i

  -- an end at whose peer, if it is there, nothing is pending
  by_peer : (o : Option Channel) → theirs_of a end mine ≡ o → ((theirs : Channel) → o ≡ Some theirs → end_pending a b end mine theirs ≡ []) → pending_at a b (end, mine) ≡ []
  by_peer None is nothing =
      ap (λ (o : Option Channel). pending_if (tracks a b mine) (option_map_or (end_pending a b end mine) o [])) is
      ∙ when_none (tracks a b mine)
  by_peer (Some theirs) is nothing =
      ap (λ (o : Option Channel). pending_if (tracks a b mine) (option_map_or (end_pending a b end mine) o [])) is
      ∙ ap (pending_if (tracks a b mine)) (nothing theirs refl)
      ∙ when_none (tracks a b mine)

  pub unopened_none : is_open_or_closed mine ≡ false → pending_at a b (end, mine) ≡ []
  unopened_none not_yet = by_peer (theirs_of a end mine) refl (λ theirs there. nothing theirs)
    where
      both : (is_in_state Open mine ≡ false) × (is_in_state Closed mine ≡ false)
      both = parts (is_in_state Open mine) (is_in_state Closed mine) not_yet

      nothing : (theirs : Channel) → end_pending a b end mine theirs ≡ []
      nothing theirs =
          λ i. pending_if (both.0 i) (to_receive b end mine theirs) ++ pending_if (both.0 i) (to_acknowledge end mine theirs)
          ++ pending_if (both.0 i || both.1 i) (to_time_out a end mine theirs)

  pub silent_none : (senders : List (Bor Channel)) → AreSenders a.core.channels senders → is_silent senders end mine ≡ true → pending_at a b (end, mine) ≡ []
  silent_none senders are silent =
      by_peer (theirs_of a end mine) refl
      (λ theirs there. nothing_there theirs own (no_entries theirs.commitments (named theirs (channel_at a.core mine.end.peer_port (peer_channel_of mine.end)) refl there)))
    where
      both : (not (has_entries mine.commitments) ≡ true) × (not (is_named end senders) ≡ true)
      both = and_parts (not (has_entries mine.commitments)) (not (is_named end senders)) silent

      own : mine.commitments ≡ []
      own = no_entries mine.commitments (is_not (has_entries mine.commitments) both.0)

      none : list_any (λ (c : Channel). has_peer c end.0 end.1) (senders_of a.core.channels) ≡ false
      none = sym (named_alike end senders ∙ ap (list_any (λ (c : Channel). has_peer c end.0 end.1)) are) ∙ is_not (is_named end senders) both.1

      named : (theirs : Channel) (o : Option Channel) → channel_at a.core mine.end.peer_port (peer_channel_of mine.end) ≡ o → option_and_then (if_names end) o ≡ Some theirs → has_entries theirs.commitments ≡ false
      named theirs None there e = absurd (cc)
      named theirs (Some x) there e = by_name (has_peer x end.0 end.1) refl e
        where
          by_name : (c : Bool) → has_peer x end.0 end.1 ≡ c → (if c then Some x else None) ≡ Some theirs → has_entries theirs.commitments ≡ false
          by_name false is e = absurd (cc)
          by_name true is e =
              let same : x ≡ theirs = cc in
              none_names end (mine.end.peer_port, peer_channel_of mine.end) a.core.channels theirs none
              (subst (λ (c : Channel). channel_at a.core mine.end.peer_port (peer_channel_of mine.end) ≡ Some c) same there)
              (subst (λ (c : Channel). has_peer c end.0 end.1 ≡ true) same is)
