-- The name of a channel that stands has no slash.
use Rattle.std.proofs.Common.{◌≡◌, ℕ, ◌<◌, ◌^◌, Bool, true, false, refl, sym, subst, [], ◌∷◌, Some, arith, not, ◌==◌, decimal, eqb-true}
use Rattle.std.specs.Char.{digit_value}
use Rattle.std.specs.Str.Parse.{AllDigits}
use Rattle.std.proofs.lemmas.Fmt.{decimal_is_IsNumeral}
use Rattle.ibc_ids.specs.Texts.{Text}
use Rattle.ibc_ids.specs.Paths.{nth_channel}
use Rattle.ibc_machine.specs.chain.Records.{Core, Channel, channel_at}
use Rattle.ibc_laws.proofs.basics.PassedTests.{and_true}
use Rattle.ibc_laws.proofs.steps.CoreShape.{CoreShaped}
use Rattle.ibc_laws.proofs.tokens.Hops.{HasNoSlash}

digits_have_no_slash : (ds : Text) → AllDigits 10 ds → HasNoSlash ds
digits_have_no_slash [] h = refl
digits_have_no_slash (c ∷ cs) h = let head = go (c == 47) refl h.0 in and_true head (digits_have_no_slash cs h.1)
  where
    go : (b : Bool) → (c == 47) ≡ b → digit_value c < 10 → not b ≡ true
    go false is low = refl
    go true is low = let z : 36 < 10 = subst (λ k. digit_value k < 10) (eqb-true c 47 is) low in absurd (omega arith)

nth_has_no_slash : (n : ℕ) → n < 2 ^ 64 → HasNoSlash (nth_channel n)
nth_has_no_slash n small = digits_have_no_slash (decimal n) (decimal_is_IsNumeral n small).0.1

pub channel_has_no_slash : (core : Core) → CoreShaped core → (port id : Text) (m : Channel) → channel_at core port id ≡ Some m → HasNoSlash id
channel_has_no_slash core shaped port id m is =
    let name = shaped.channel_names.names id (port, m, is) in
    let below : name.0 < core.next_channel = name.1 in
    let limit = shaped.channel_names.limit in
    subst HasNoSlash (sym name.2) (nth_has_no_slash name.0 (omega arith))
