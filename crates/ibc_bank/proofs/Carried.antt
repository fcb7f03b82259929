-- Tokens that go from one account to another are an escrow's, or come out of it.
use Rattle.std.proofs.Common.{◌≡◌, ℕ, refl, ap, sym, ◌∙◌, Option, Some, None, option_map}
use Rattle.std.specs.Borrow.{Bor}
use Rattle.ibc_ids.specs.Texts.{Text}
use Rattle.ibc_ids.specs.declared.refusal.Refusal.TheVariants.{Poor}
use Rattle.ibc_wire.specs.declared.token.Token.{Token}
use Rattle.ibc_machine.specs.ics20.Bank.{Balances, give, pay}
use Rattle.ibc_machine.specs.chain.Checks.{expect}
use Rattle.ibc_bank.specs.Parties.{party_text}
use Rattle.ibc_bank.specs.Moves.{BankState, token_of, with_balances, after_move}
use Rattle.ibc_bank.specs.TokenPlaces.{taken_then_put, after_carrying}
use Rattle.ibc_bank.specs.declared.holder.AccountRef.{AccountRef}
use Rattle.ibc_bank.specs.declared.holder.AccountRef.TheVariants as party
use Rattle.ibc_bank.specs.declared.place.Place.{Place}
use Rattle.ibc_bank.specs.declared.place.Place.TheVariants as place
use Rattle.ibc_bank.specs.declared.moves.Move.{Move}
use Rattle.ibc_bank.specs.declared.moves.Move.TheVariants as move

between_accounts : (from to : AccountRef) (token : Token) (bank : BankState)
    → after_carrying (place.Account from) (place.Account to) token bank
    ≡ expect (option_map (with_balances bank) (option_map (give (party_text to) token) (pay (party_text from) token bank.balances))) Poor
between_accounts from to token bank = go (pay (party_text from) token bank.balances)
  where
    go : (o : Option Balances) → taken_then_put (place.Account to) token (expect (option_map (with_balances bank) o) Poor)
        ≡ expect (option_map (with_balances bank) (option_map (give (party_text to) token) o)) Poor
    go (Some b) = refl
    go None = refl

module _ (step : Move) (user channel : Bor Text) (denom : Text) (amount : ℕ) (from to : Place) (bank : BankState) where
  pub into_escrow_is : step ≡ move.Escrow user.now channel.now denom amount → from ≡ place.Account (party.User user) → to ≡ place.Account (party.Escrow channel)
      → after_carrying from to (token_of denom amount) bank ≡ after_move step bank
  into_escrow_is is here there =
      ap (λ f. after_carrying f to (token_of denom amount) bank) here ∙ ap (λ t. after_carrying (place.Account (party.User user)) t (token_of denom amount) bank) there
      ∙ between_accounts (party.User user) (party.Escrow channel) (token_of denom amount) bank ∙ sym (ap (λ m. after_move m bank) is)

  pub out_of_escrow_is : step ≡ move.Release channel.now user.now denom amount → from ≡ place.Account (party.Escrow channel) → to ≡ place.Account (party.User user)
      → after_carrying from to (token_of denom amount) bank ≡ after_move step bank
  out_of_escrow_is is here there =
      ap (λ f. after_carrying f to (token_of denom amount) bank) here ∙ ap (λ t. after_carrying (place.Account (party.Escrow channel)) t (token_of denom amount) bank) there
      ∙ between_accounts (party.Escrow channel) (party.User user) (token_of denom amount) bank ∙ sym (ap (λ m. after_move m bank) is)
