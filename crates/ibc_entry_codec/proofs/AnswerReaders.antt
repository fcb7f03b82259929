-- The readers of answers.
use Rattle.std.proofs.Common.{◌≡◌, ℕ, zero, suc, Bool, true, false, nat_lt, [], ◌∷◌, Option, Some, None, refl, ap, append-nil, arith, ◌∙◌, subst}
use Rattle.ibc_ids.specs.Texts.{Text}
use Rattle.ibc_ids.specs.Names.{is_client, is_connection, is_channel}
use Rattle.ibc_ids.specs.Refusals.{number_of}
use Rattle.ibc_ids.proofs.Ascii.{clients, connections, channels}
use Rattle.ibc_wire.specs.Fields.{one_byte, be64, root32}
use Rattle.ibc_wire.specs.Reading.{◌>>=◌, Front, byte_at_front}
use Rattle.ibc_wire.specs.Fronts.{coded_at_front}
use Rattle.ibc_wire.specs.Lawful.{AreBytes, Begins, IsReader}
use Rattle.ibc_wire.proofs.Fronts.{bind_some, some_same, none_some, bytes_parts, byte_read, u8_read, u8_front}
use Rattle.ibc_wire.proofs.FieldReaders.{first, under, done, reader_of, tagged_read, tagged_front}
use Rattle.ibc_wire.proofs.Readers.{n8_reader, str_reader, name_reader, root_reader, coded_reader}
use Rattle.ibc_machine.specs.declared.reply.Effect.{Effect}
use Rattle.ibc_machine.specs.declared.reply.Effect.TheVariants as effect
use Rattle.ibc_machine.specs.declared.reply.Reply.{Reply}
use Rattle.ibc_machine.specs.declared.reply.Reply.TheVariants as reply
use Rattle.ibc_machine.specs.declared.entry.Reading.{Reading}
use Rattle.ibc_entry_codec.specs.Refusals.{refusal_of}
use Rattle.ibc_entry_codec.specs.Answers.{effect_fields, reply_fields, row_number, sight_fields, reading_fields, answer_fields}
use Rattle.ibc_entry_codec.specs.AnswerFronts.{block_at_front, effect_behind, effect_at_front, reply_behind, reply_at_front, row_of, sight_at_front, reading_behind, reading_at_front, answer_at_front}
use Rattle.ibc_entry_codec.proofs.RefusalNumbers.{its_number, of_its_number, small}

-- ---- what an accepted event gave

block_reader : IsReader (λ (b : ℕ × Text). be64 b.0 ∷ root32 b.1 ∷ []) block_at_front
block_reader =
    reader_of (
    first _ (λ b. b.0) n8_reader λ height.
    first _ (λ b. b.1) root_reader λ root.
    done _ ((tt, refl), refl) (λ b p. λ i. (p.0.1 i, p.1 i))
    )

effect_spelled : (tag : ℕ) (text behind : Text) (e : Effect) (rest : Text) → AreBytes behind → text ≡ tag ∷ behind → effect_behind tag behind ≡ Some (e, rest) → Begins (effect_fields e) text rest
effect_spelled zero text behind e rest bytes is h = none_some h
effect_spelled (suc zero) text behind e rest bytes is h = subst (λ (w : Effect × Text). Begins (effect_fields w.0) text w.1) (some_same h) (u8_read 1 text behind refl is)
effect_spelled (suc (suc zero)) text behind e rest bytes is h = tagged_read (name_reader is_client clients) 2 refl effect.Client effect_fields (λ q. refl) text behind e rest bytes is h
effect_spelled (suc (suc (suc zero))) text behind e rest bytes is h = tagged_read (name_reader is_connection connections) 3 refl effect.Connection effect_fields (λ q. refl) text behind e rest bytes is h
effect_spelled (suc (suc (suc (suc zero)))) text behind e rest bytes is h = tagged_read (name_reader is_channel channels) 4 refl effect.Channel effect_fields (λ q. refl) text behind e rest bytes is h
effect_spelled (suc (suc (suc (suc (suc zero))))) text behind e rest bytes is h = tagged_read n8_reader 5 refl effect.Sent effect_fields (λ q. refl) text behind e rest bytes is h
effect_spelled (suc (suc (suc (suc (suc (suc zero)))))) text behind e rest bytes is h = tagged_read (str_reader 65535 (omega arith)) 6 refl effect.Ack effect_fields (λ q. refl) text behind e rest bytes is h
effect_spelled (suc (suc (suc (suc (suc (suc (suc zero))))))) text behind e rest bytes is h = tagged_read block_reader 7 refl (λ b. effect.Block b.0 b.1) effect_fields (λ q. refl) text behind e rest bytes is h
effect_spelled (suc (suc (suc (suc (suc (suc (suc (suc n)))))))) text behind e rest bytes is h = none_some h

abbrev next_effect : ℕ × Text → Front Effect
next_effect tag = effect_behind tag.0 tag.1

effect_read : (e : Effect) (text rest : Text) → Begins (effect_fields e) text rest → (byte_at_front text >>= next_effect) ≡ Some (e, rest)
effect_read effect.None text rest h = ap (λ o. o >>= next_effect) (u8_front 1 text rest h)
effect_read (effect.Client q) text rest h = let w = tagged_front (name_reader is_client clients) 2 effect.Client q text rest h in ap (λ o. o >>= next_effect) w.1 ∙ w.2
effect_read (effect.Connection q) text rest h = let w = tagged_front (name_reader is_connection connections) 3 effect.Connection q text rest h in ap (λ o. o >>= next_effect) w.1 ∙ w.2
effect_read (effect.Channel q) text rest h = let w = tagged_front (name_reader is_channel channels) 4 effect.Channel q text rest h in ap (λ o. o >>= next_effect) w.1 ∙ w.2
effect_read (effect.Sent q) text rest h = let w = tagged_front n8_reader 5 effect.Sent q text rest h in ap (λ o. o >>= next_effect) w.1 ∙ w.2
effect_read (effect.Ack q) text rest h = let w = tagged_front (str_reader 65535 (omega arith)) 6 effect.Ack q text rest h in ap (λ o. o >>= next_effect) w.1 ∙ w.2
effect_read (effect.Block height root) text rest h = let w = tagged_front block_reader 7 (λ b. effect.Block b.0 b.1) (height, root) text rest h in ap (λ o. o >>= next_effect) w.1 ∙ w.2

pub effect_reader : IsReader effect_fields effect_at_front
unfolding effect_at_front
effect_reader = record {
  spelled = λ text e rest bytes h.
      let tag = bind_some (byte_at_front text) _ h in
      let is = byte_read text tag.0.0 tag.0.1 tag.1 in
      effect_spelled tag.0.0 text tag.0.1 e rest (bytes_parts (tag.0.0 ∷ []) tag.0.1 (subst AreBytes is bytes)).1 is tag.2;
  read = λ e text rest h. effect_read e text rest h;
}

-- ---- replies

refusal_reader : IsReader (λ r. one_byte (number_of r) ∷ []) (coded_at_front refusal_of)
refusal_reader = coded_reader number_of refusal_of its_number of_its_number small

reply_spelled : (tag : ℕ) (text behind : Text) (r : Reply) (rest : Text) → AreBytes behind → text ≡ tag ∷ behind → reply_behind tag behind ≡ Some (r, rest) → Begins (reply_fields r) text rest
reply_spelled zero text behind r rest bytes is h = none_some h
reply_spelled (suc zero) text behind r rest bytes is h = tagged_read effect_reader 1 refl reply.Ok reply_fields (λ q. refl) text behind r rest bytes is h
reply_spelled (suc (suc zero)) text behind r rest bytes is h = tagged_read refusal_reader 2 refl reply.No reply_fields (λ q. refl) text behind r rest bytes is h
reply_spelled (suc (suc (suc n))) text behind r rest bytes is h = none_some h

abbrev next_reply : ℕ × Text → Front Reply
next_reply tag = reply_behind tag.0 tag.1

reply_read : (r : Reply) (text rest : Text) → Begins (reply_fields r) text rest → (byte_at_front text >>= next_reply) ≡ Some (r, rest)
reply_read (reply.Ok q) text rest h = let w = tagged_front effect_reader 1 reply.Ok q text rest h in ap (λ o. o >>= next_reply) w.1 ∙ w.2
reply_read (reply.No q) text rest h = let w = tagged_front refusal_reader 2 reply.No q text rest h in ap (λ o. o >>= next_reply) w.1 ∙ w.2

pub reply_reader : IsReader reply_fields reply_at_front
unfolding reply_at_front
reply_reader = record {
  spelled = λ text r rest bytes h.
      let tag = bind_some (byte_at_front text) _ h in
      let is = byte_read text tag.0.0 tag.0.1 tag.1 in
      reply_spelled tag.0.0 text tag.0.1 r rest (bytes_parts (tag.0.0 ∷ []) tag.0.1 (subst AreBytes is bytes)).1 is tag.2;
  read = λ r text rest h. reply_read r text rest h;
}

-- ---- what was read

row_numbers : (n : ℕ) (o : Option Bool) → row_of n ≡ Some o → n ≡ row_number o
row_numbers zero o e = ap row_number (some_same e)
row_numbers (suc zero) o e = ap row_number (some_same e)
row_numbers (suc (suc zero)) o e = ap row_number (some_same e)
row_numbers (suc (suc (suc n))) o e = none_some e

of_row_number : (o : Option Bool) → row_of (row_number o) ≡ Some o
of_row_number None = refl
of_row_number (Some false) = refl
of_row_number (Some true) = refl

row_small : (o : Option Bool) → nat_lt (row_number o) 256 ≡ true
row_small None = refl
row_small (Some false) = refl
row_small (Some true) = refl

row_reader : IsReader (λ o. one_byte (row_number o) ∷ []) (coded_at_front row_of)
row_reader = coded_reader row_number row_of row_numbers of_row_number row_small

sight_reader : IsReader sight_fields sight_at_front
sight_reader =
    reader_of (
    first _ (λ s. s.published) n8_reader λ published.
    first _ (λ s. s.row_was_there) row_reader λ row.
    done _ ((tt, refl), refl) (λ s p. λ i. record { published = p.0.1 i; row_was_there = p.1 i })
    )

reading_spelled : (flag : ℕ) (text behind : Text) (o : Option Reading) (rest : Text) → AreBytes behind → text ≡ flag ∷ behind → reading_behind flag behind ≡ Some (o, rest) → Begins (reading_fields o) text rest
reading_spelled zero text behind o rest bytes is h = subst (λ (w : Option Reading × Text). Begins (reading_fields w.0) text w.1) (some_same h) (u8_read 0 text behind refl is)
reading_spelled (suc zero) text behind o rest bytes is h = tagged_read sight_reader 1 refl Some reading_fields (λ q. refl) text behind o rest bytes is h
reading_spelled (suc (suc n)) text behind o rest bytes is h = none_some h

abbrev next_reading : ℕ × Text → Front (Option Reading)
next_reading flag = reading_behind flag.0 flag.1

reading_read : (o : Option Reading) (text rest : Text) → Begins (reading_fields o) text rest → (byte_at_front text >>= next_reading) ≡ Some (o, rest)
reading_read None text rest h = ap (λ o. o >>= next_reading) (u8_front 0 text rest h)
reading_read (Some q) text rest h = let w = tagged_front sight_reader 1 Some q text rest h in ap (λ o. o >>= next_reading) w.1 ∙ w.2

pub reading_reader : IsReader reading_fields reading_at_front
unfolding reading_at_front
reading_reader = record {
  spelled = λ text o rest bytes h.
      let flag = bind_some (byte_at_front text) _ h in
      let is = byte_read text flag.0.0 flag.0.1 flag.1 in
      reading_spelled flag.0.0 text flag.0.1 o rest (bytes_parts (flag.0.0 ∷ []) flag.0.1 (subst AreBytes is bytes)).1 is flag.2;
  read = λ o text rest h. reading_read o text rest h;
}

-- ---- answers

pub answer_reader : IsReader answer_fields answer_at_front
unfolding answer_at_front
answer_reader =
    reader_of (
    first _ (λ a. a.reply) reply_reader λ told.
    under (λ a known. append-nil (reading_fields a.reading))
    (first _ (λ a. a.reading) reading_reader λ seen.
    done _ ((tt, refl), refl) (λ a p. λ i. record { reply = p.0.1 i; reading = p.1 i }))
    )
