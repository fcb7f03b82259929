-- A cut and a join of seats keep the rule of the table, which holds at the start.
use Rattle.std.proofs.Common.{◌≡◌, ◌≢◌, ℕ, ◌+◌, ◌<◌, List, [], length, get_or, set, refl, sym, ap, ◌∙◌, arith, length-set, ◌==◌, cond, eq-eqb, ne_eqb, replicate}
use mathlib.Core.Option.{some-ne-none}
use mathlib.Core.List.{IsPrefix}
use lib.ListN.{length-replicate}
use Rattle.std.proofs.lemmas.List.{get_or-replicate}
use Rattle.atomic_table.specs.Table.{State, Splits, Joins, opening}
use Rattle.atomic_table.proofs.Lists.{set_else}
use Rattle.ibc_root_table.specs.declared.knowledge.TableKnowledge.{TableKnowledge}
use Rattle.ibc_root_table.specs.declared.shape.Shape.{Shape}
use Rattle.ibc_root_table.specs.Layout.{table_size}
use Rattle.ibc_root_table.specs.Rule.{Owns, SeatKnows, IsTableState, writer_of_all, spent_seat, rest_of, writer_of_first, reader_seat, seat_with_heard}
use Rattle.ibc_root_table.proofs.Beginnings.{prefix_none}
use Rattle.ibc_root_table.proofs.Views.{seats_stay, one_more}

abbrev St : Type 0
St = State (Unit {0}) TableKnowledge

module _ (key : Shape) where
  abbrev Rule : St → Type 0
  Rule = IsTableState key

  -- the seat is cut in two, and the new one writes for the first chain
  pub cuts_writer : (id : ℕ) (v : TableKnowledge) → v.first_own < v.end_own → Splits Rule id v (rest_of v) (writer_of_first v)
  cuts_writer id v some_own s r at =
      let k = r.each_seat id v at in let c : ℕ = v.first_own in let new : ℕ = length s.views in
      let vs : List TableKnowledge = set s.views id (rest_of v) in
      let owner : ℕ → ℕ = λ d. cond (d == c) new (r.owner d) in
      let here : (d : ℕ) → d ≡ c → owner d ≡ new = λ d e. ap (λ b. cond b new (r.owner d)) (eq-eqb d c e) in
      let there : (d : ℕ) → d ≢ c → owner d ≡ r.owner d = λ d e. ap (λ b. cond b new (r.owner d)) (ne_eqb d c e) in
      let own : Owns c v = (omega arith, some_own) in
      record {
        log = r.log;
        owner = owner;
        written = r.written;
        each_seat = one_more (SeatKnows key r.log owner s.words) vs (writer_of_first v)
            record {
              shape = k.shape;
              seen = k.seen;
              heard = k.heard;
              inside = λ d o. let low = o.0 in let high = o.1 in k.inside d (omega arith, omega arith);
              sole = λ d o. let low = o.0 in let high = o.1 in here d (omega arith) ∙ sym (length-set s.views id (rest_of v));
              all = λ d o. let low = o.0 in let high = o.1 in k.all d (omega arith, omega arith);
              drafted = λ o part l. absurd (omega arith);
              room = λ o l. absurd (omega arith);
              floors = k.floors;
            }
            (seats_stay (SeatKnows key r.log owner s.words) s.views id (rest_of v)
            record {
              shape = k.shape;
              seen = k.seen;
              heard = k.heard;
              inside = λ d o. let low = o.0 in let high = o.1 in k.inside d (omega arith, high);
              sole = λ d o. let low = o.0 in let high = o.1 in there d (λ e. absurd (omega arith)) ∙ k.sole d (omega arith, high);
              all = λ d o. let low = o.0 in let high = o.1 in k.all d (omega arith, high);
              drafted = λ o part l. absurd (omega arith);
              room = λ o l. absurd (omega arith);
              floors = k.floors;
            }
            (λ j d ne e. let o = r.each_seat j d e in record {
              shape = o.shape;
              seen = o.seen;
              heard = o.heard;
              inside = o.inside;
              sole = λ a owns. there a (λ is. ne (sym (o.sole a owns) ∙ (ap r.owner is ∙ k.sole c own))) ∙ o.sole a owns;
              all = o.all;
              drafted = o.drafted;
              room = o.room;
              floors = o.floors;
            }));
      }

  -- the seat keeps what it has, and the new one has seen as much
  pub cuts_reader : (id : ℕ) (v : TableKnowledge) → Splits Rule id v v (reader_seat v)
  cuts_reader id v s r at = let k = r.each_seat id v at in record {
    log = r.log;
    owner = r.owner;
    written = r.written;
    each_seat = one_more (SeatKnows key r.log r.owner s.words) (set s.views id v) (reader_seat v)
        record {
          shape = k.shape;
          seen = k.seen;
          heard = k.heard;
          inside = λ d o. let high = o.1 in absurd (omega arith);
          sole = λ d o. let high = o.1 in absurd (omega arith);
          all = λ d o. let high = o.1 in absurd (omega arith);
          drafted = λ o part l. absurd (omega arith);
          room = λ o l. absurd (omega arith);
          floors = k.floors;
        }
        (seats_stay (SeatKnows key r.log r.owner s.words) s.views id v k (λ j d _. r.each_seat j d));
  }

  -- the seat hears what the other has seen, and the other is spent
  pub hears : (id : ℕ) (v : TableKnowledge) (other : ℕ) (w : TableKnowledge) → Joins Rule id v other w (seat_with_heard v w) spent_seat
  hears id v other w s r at apart there = let k = r.each_seat id v at in
      let told : IsPrefix w.seen r.log = (r.each_seat other w (sym (set_else s.views id other (seat_with_heard v w) apart) ∙ there)).seen in record {
        log = r.log;
        owner = r.owner;
        written = r.written;
        each_seat = seats_stay (SeatKnows key r.log r.owner s.words) (set s.views id (seat_with_heard v w)) other spent_seat
            record {
              shape = λ l. absurd (omega arith);
              seen = prefix_none r.log;
              heard = prefix_none r.log;
              inside = λ d o. let high = o.1 in absurd (omega arith);
              sole = λ d o. let high = o.1 in absurd (omega arith);
              all = λ d o. let high = o.1 in absurd (omega arith);
              drafted = λ o part l. absurd (omega arith);
              room = λ o l. absurd (omega arith);
              floors = λ d l. omega arith;
            }
            (λ j d _. seats_stay (SeatKnows key r.log r.owner s.words) s.views id (seat_with_heard v w)
            record { shape = k.shape; seen = k.seen; heard = told; inside = k.inside; sole = k.sole; all = k.all; drafted = k.drafted; room = k.room; floors = k.floors }
            (λ i e _. r.each_seat i e) j d);
      }

  -- the table at the start
  pub opens : (n : ℕ) → n ≡ table_size key → 0 < key.window → Rule (opening (replicate n 0) [] (writer_of_all key))
  opens n is ring = record {
    log = [];
    owner = λ _. 0;
    written = record {
      size = length-replicate n 0 ∙ is;
      counts = λ c l. get_or-replicate n c 0 0 (omega arith);
      rows = λ c k p e low. absurd cc;
      kept = λ c l. omega arith;
      gone = λ c l some_gone. let zeros : List ℕ = replicate n 0 in let none_gone : get_or zeros (key.chains + c) 0 ≡ 0 = get_or-replicate n (key.chains + c) 0 0 (omega arith) in let some_there : 0 < get_or zeros (key.chains + c) 0 = some_gone in absurd (omega arith);
      ring = ring;
      within = λ c l. absurd (omega arith);
      roots = λ c k p e. absurd cc;
    };
    each_seat = one_more (SeatKnows key [] (λ _. 0) (replicate n 0)) [] (writer_of_all key)
        record {
          shape = λ _. refl;
          seen = prefix_none [];
          heard = prefix_none [];
          inside = λ c o. o.1;
          sole = λ c o. refl;
          all = λ c o. refl;
          drafted = λ o part l. absurd (omega arith);
          room = λ o l. absurd (omega arith);
          floors = λ c l. omega arith;
        }
        (λ j d e. absurd (some-ne-none d (sym e)));
  }
