-- How a user's text stands to an escrow account's: the channel doesn't matter, since no user's name has a slash.
use Rattle.std.proofs.Common.{◌≡◌, true, codes, [], ◌∷◌, ◌++◌, refl, ap, sym, ◌∙◌, subst, nat_cmp, nat_le, length, ◌&&◌}
use Rattle.std.specs.List.{list_all}
use Rattle.std.specs.Ordering.{ordering_then, ordering_reverse}
use Rattle.std.specs.declared.cmp.Ordering.{Ordering}
use Rattle.std.specs.declared.cmp.Ordering.TheVariants.{Less, Equal, Greater}
use Rattle.std.proofs.lemmas.Bool.{and_parts}
use Rattle.std.proofs.lemmas.Map.Lookups.{exact_unsigned}
use Rattle.ibc_ids.specs.Texts.{Text, text_cmp}
use Rattle.ibc_ids.specs.Names.{is_user, is_letter_or_digit}
use Rattle.ibc_ids.proofs.Texts.{text_cmp_total}

abbrev pub front : Text
front = codes "escrow/transfer/"

-- what stands behind a text that the other one doesn't begin with doesn't matter
unlike_front : (text front rest : Text) → ((more : Text) → text ≡ front ++ more → ⊥) → text_cmp text (front ++ rest) ≡ text_cmp text front
unlike_front text [] rest apart = absurd (apart text refl)
unlike_front [] (f ∷ fs) rest apart = refl
unlike_front (x ∷ xs) (f ∷ fs) rest apart =
    go (λ is. unlike_front xs fs rest (λ more same. apart more (cc (same, exact_unsigned x f is)))) (nat_cmp x f) refl
  where
    go : (nat_cmp x f ≡ Equal → text_cmp xs (fs ++ rest) ≡ text_cmp xs fs) → (o : Ordering) → nat_cmp x f ≡ o
        → ordering_then o (text_cmp xs (fs ++ rest)) ≡ ordering_then o (text_cmp xs fs)
    go ih Less is = refl
    go ih Greater is = refl
    go ih Equal is = ih is

user_is_unlike : (user : Text) → is_user user ≡ true → (more : Text) → user ≡ front ++ more → ⊥
user_is_unlike user is more same =
    let letters = (and_parts (nat_le 1 (length user) && nat_le (length user) 32) (list_all is_letter_or_digit user) is).1 in
    absurd (cc (subst (λ t. list_all is_letter_or_digit t ≡ true) same letters))

pub user_then_escrow : (user channel : Text) → is_user user ≡ true → text_cmp user (front ++ channel) ≡ text_cmp user front
user_then_escrow user channel is = unlike_front user front channel (user_is_unlike user is)

pub escrow_then_user : (user channel : Text) → is_user user ≡ true → text_cmp (front ++ channel) user ≡ text_cmp front user
escrow_then_user user channel is =
    text_cmp_total.antisymm (front ++ channel) user ∙ ap ordering_reverse (user_then_escrow user channel is) ∙ sym (text_cmp_total.antisymm front user)
