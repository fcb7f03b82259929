-- What the application of a port does to the balances, by cases: with a packet that is received, with one that is
-- acknowledged, and with one that times out. Balances stay sorted.
use Rattle.std.proofs.Common.{◌≡◌, Bool, true, false, refl, ap, sym, subst, codes, List, [], ◌∷◌, Option, Some, None, Ok, if◌then◌else◌, ℕ, ◌⊎◌, inl, inr}
use Rattle.std.specs.List.{fold}
use Rattle.ibc_ids.specs.Texts.{Text, same_text}
use Rattle.ibc_ids.specs.Names.{is_user}
use Rattle.ibc_ids.specs.declared.refusal.Refusal.TheVariants as refusal
use Rattle.ibc_wire.specs.declared.packet.Packet.{Packet}
use Rattle.ibc_machine.specs.chain.Records.{Apps, Records}
use Rattle.ibc_machine.specs.chain.Checks.{Checked, ◌>>=◌}
use Rattle.ibc_machine.specs.ics20.TokenData.{Data, data_of, success, error}
use Rattle.ibc_machine.specs.ics20.Bank.{Balances, with_balance}
use Rattle.ibc_machine.specs.chain.Genesis.{Holding, starting_balances}
use Rattle.ibc_machine.specs.ics20.Transfers.{transfer_port, burnt_amount, each_token, receive_token, refund_token, receive_transfer, receive_data, receive_result, refund_transfer, refund_data, acknowledge_transfer}
use Rattle.ibc_machine.specs.chain.Notes.{receive_note}
use Rattle.ibc_machine.specs.chain.Applications.{with_balances, on_recv, on_ack, on_timeout}
use Rattle.ibc_machine.proofs.PassedRows.{bind_passed, expect_passed, ok_same}
use Rattle.ibc_machine.proofs.Measures.{IsSorted, sorted-with_balance}

-- ---- a packet is received

pub data Taking (balances : Balances) (in_flight : Text → ℕ) (version : Text) (p : Packet) : Text → Balances → Type 0 where
  -- all tokens are taken
  takes : (d : Data) (after : Balances) → data_of version p.payload ≡ Some d → is_user d.receiver ≡ true
      → each_token (receive_token in_flight p d.receiver) d.tokens balances ≡ Some after
      → Taking balances in_flight version p success after
  -- none is, and the acknowledgement is an error
  refuses : (words : Text) → Taking balances in_flight version p (error words) balances

pub taking : (balances : Balances) (in_flight : Text → ℕ) (version : Text) (p : Packet)
    → Taking balances in_flight version p (receive_transfer in_flight balances version p).0 (receive_transfer in_flight balances version p).1
unfolding receive_transfer
taking balances in_flight version p = go (data_of version p.payload) refl
  where
    moving : (d : Data) → data_of version p.payload ≡ Some d → is_user d.receiver ≡ true → (o : Option Balances)
        → each_token (receive_token in_flight p d.receiver) d.tokens balances ≡ o
        → Taking balances in_flight version p (receive_result balances o).0 (receive_result balances o).1
    moving d is user (Some after) moved = takes d after is user moved
    moving d is user None moved = refuses (codes "over limit")

    of_data : (d : Data) → data_of version p.payload ≡ Some d → (b : Bool) → is_user d.receiver ≡ b
        → Taking balances in_flight version p
        (if b then receive_result balances (each_token (receive_token in_flight p d.receiver) d.tokens balances) else (error (codes "bad receiver"), balances)).0
        (if b then receive_result balances (each_token (receive_token in_flight p d.receiver) d.tokens balances) else (error (codes "bad receiver"), balances)).1
    of_data d is true user = moving d is user (each_token (receive_token in_flight p d.receiver) d.tokens balances) refl
    of_data d is false user = refuses (codes "bad receiver")

    go : (o : Option Data) → data_of version p.payload ≡ o
        → Taking balances in_flight version p (receive_data in_flight p balances o).0 (receive_data in_flight p balances o).1
    go (Some d) is = of_data d is (is_user d.receiver) refl
    go None is = refuses (codes "bad data")

-- an error is no success
pub error_is_no_success : (words : Text) → same_text (error words) success ≡ false
error_is_no_success words = refl

-- ---- a packet is refunded

pub data Refunding (balances : Balances) (version : Text) (p : Packet) : Balances → Type 0 where
  -- the packet had no data, which no sending makes
  no_data : data_of version p.payload ≡ None → Refunding balances version p balances
  refunds : (d : Data) (after : Balances) → data_of version p.payload ≡ Some d
      → each_token (refund_token p.source_channel d.sender) d.tokens balances ≡ Some after
      → Refunding balances version p after

pub refunding : (balances : Balances) (version : Text) (p : Packet) (after : Balances) → refund_transfer balances version p ≡ Ok after
    → Refunding balances version p after
unfolding refund_transfer
refunding balances version p after e =
    go (data_of version p.payload) refl (expect_passed (refund_data p balances (data_of version p.payload)) refusal.Poor e)
  where
    some_is : {A : Type 0} {x y : A} → Some x ≡ Some y → x ≡ y
    some_is e = cc e

    go : (o : Option Data) → data_of version p.payload ≡ o → refund_data p balances o ≡ Some after → Refunding balances version p after
    go (Some d) is moved = refunds d after is moved
    go None is same = subst (Refunding balances version p) (some_is same) (no_data is)

-- an acknowledgement of success moves nothing, and any other is refunded
pub data Acknowledging (balances : Balances) (version : Text) (p : Packet) (ack : Text) : Balances → Type 0 where
  succeeds : same_text ack success ≡ true → Acknowledging balances version p ack balances
  fails : (after : Balances) → same_text ack success ≡ false → Refunding balances version p after
      → Acknowledging balances version p ack after

pub acknowledging : (balances : Balances) (version : Text) (p : Packet) (ack : Text) (after : Balances)
    → acknowledge_transfer balances version p ack ≡ Ok after → Acknowledging balances version p ack after
unfolding acknowledge_transfer
acknowledging balances version p ack after e = go (same_text ack success) refl e
  where
    go : (b : Bool) → same_text ack success ≡ b → (if b then Ok balances else refund_transfer balances version p) ≡ Ok after
        → Acknowledging balances version p ack after
    go true is e = subst (Acknowledging balances version p ack) (ok_same e) (succeeds is)
    go false is e = fails after is (refunding balances version p after e)

-- ---- by the port

-- the port has this application, and the balances are as it leaves them; any other port leaves them
abbrev pub ByPort : Text → Balances → Balances → (Balances → Type 0) → Type 0
ByPort port before after P = ((same_text port transfer_port ≡ true) × P after) ⊎ ((same_text port transfer_port ≡ false) × (after ≡ before))

-- what an application of balances gives on its port, and nothing on another
by_port : (apps : Apps) (port : Text) (after : Apps) (given : Checked Balances) (P : Balances → Type 0) → ((left : Balances) → given ≡ Ok left → P left)
    → (if same_text port transfer_port then (given >>= λ balances. Ok (with_balances apps balances)) else Ok apps) ≡ Ok after
    → ByPort port apps.balances after.balances P
by_port apps port after given P says e = go (same_text port transfer_port) refl e
  where
    go : (b : Bool) → same_text port transfer_port ≡ b → (if b then (given >>= λ balances. Ok (with_balances apps balances)) else Ok apps) ≡ Ok after
        → ByPort port apps.balances after.balances P
    go true is e =
        let step = bind_passed given _ e in
        let same : with_balances apps step.0 ≡ after = ok_same step.2 in
        inl (is, subst (λ (a : Apps). P a.balances) same (says step.0 step.1))
    go false is e = inr (is, ap (λ (a : Apps). a.balances) (sym (ok_same e)))

pub timed_out_balances : (apps : Apps) (port version : Text) (p : Packet) (after : Apps) → on_timeout port apps version p ≡ Ok after
    → ByPort port apps.balances after.balances (Refunding apps.balances version p)
timed_out_balances apps port version p after e =
    by_port apps port after (refund_transfer apps.balances version p) (Refunding apps.balances version p) (refunding apps.balances version p) e

pub acknowledged_balances : (apps : Apps) (port version : Text) (p : Packet) (ack : Text) (after : Apps) → on_ack port apps version p ack ≡ Ok after
    → ByPort port apps.balances after.balances (Acknowledging apps.balances version p ack)
acknowledged_balances apps port version p ack after e =
    by_port apps port after (acknowledge_transfer apps.balances version p ack) (Acknowledging apps.balances version p ack) (acknowledging apps.balances version p ack) e

pub received_balances : (records : Records) (port version : Text) (p : Packet) (ack : Text) (after : Apps) → on_recv records.core port records.apps version p ≡ (ack, after)
    → ByPort port records.apps.balances after.balances (Taking records.apps.balances (burnt_amount records.core) version p ack)
received_balances records port version p ack after e = go (same_text port transfer_port) refl e
  where
    go : (b : Bool) → same_text port transfer_port ≡ b
        → ◌≡◌ {A = Text × Apps}
        (if b then (let (ack, balances) = receive_transfer (burnt_amount records.core) records.apps.balances version p in (ack, with_balances records.apps balances))
        else (let (ack, notes) = receive_note records.apps.notes p in (ack, record records.apps { notes = notes })))
        (ack, after)
        → ByPort port records.apps.balances after.balances (Taking records.apps.balances (burnt_amount records.core) version p ack)
    go true is e = inl (
      is,
      subst (λ (x : Text × Apps). Taking records.apps.balances (burnt_amount records.core) version p x.0 x.1.balances) e
          (taking records.apps.balances (burnt_amount records.core) version p),
    )
    go false is e = inr (is, ap (λ (x : Text × Apps). x.1.balances) (sym e))

-- ---- sorted from the start

pub sorted_start : (holdings : List Holding) (b : Balances) → IsSorted b
    → IsSorted (fold (λ balances (holding : Holding). with_balance holding.0 holding.1 holding.2 balances) b holdings)
sorted_start [] b sorted = sorted
sorted_start (h ∷ holdings) b sorted = sorted_start holdings (with_balance h.0 h.1 h.2 b) (sorted-with_balance h.0 h.1 h.2 b sorted)

pub starting_sorted : (holdings : List Holding) → IsSorted (starting_balances holdings)
starting_sorted holdings = sorted_start holdings [] tt
