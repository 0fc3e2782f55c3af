-- What a desk says, by what its book answered: to a cancel, to who saw a link's server hang up, and to a change.
use Rattle.std.proofs.Common.{◌≡◌, ℕ, List, Option, refl, sym, ap, ◌∙◌, subst}
use Rattle.message_view.specs.declared.refusal.Refusal.{Refusal}
use Rattle.message_view.specs.declared.refusal.Refusal.TheVariants.{LastDecision}
use Rattle.message_view.specs.declared.views.KeyView.{KeyView}
use Rattle.link_run.specs.Links.{LinkView}
use Rattle.book_model.specs.Book.{Book}
use Rattle.book_model.specs.Outcomes.{Change, apply}
use Rattle.book_model.specs.Outcomes.Event.{Cancel, HungUp, Makes}
use Rattle.book_model.specs.declared.events.Reply.{Reply}
use Rattle.book_model.specs.declared.events.Reply.TheVariants as told
use Rattle.book_model.proofs.Outcomes.{hang_ups_close}
use Rattle.lease_book.specs.Links.{StrikesInPlace, reply_of}
use Rattle.lease_book.specs.declared.events.BookReply.{BookReply}
use Rattle.lease_book.specs.declared.events.BookReply.TheVariants as reply
use Rattle.link_desk.specs.Cancels.{IsAnswered, IsAnswerToCancel}
use Rattle.link_desk.specs.declared.answers.Cancelled.TheVariants.{Strike, Nobody, Last}
use Rattle.desk_tallies.specs.Passes.{PassOf, after_change}
use Rattle.pool_desk.specs.Changes.{changed_by}
use Rattle.pool_desk.specs.Tells.{Tells}

module _ {E : Type 0} where
  pub is_struck : (b : Book) (client : KeyView) (r : BookReply E) (n : ℕ) (server : KeyView) (host : List ℕ) (port : ℕ) → r ≡ reply.Strike n server host port → reply_of r ≡ (apply b (Cancel client)).reply → StrikesInPlace b r
      → IsAnswerToCancel b client (Strike (record { link = n; server = server; host = host; port = port }))
  is_struck b client r n server host port is answer place =
      let by_book : (apply b (Cancel client)).reply ≡ told.Strike n server = sym answer ∙ ap reply_of is in
      subst (λ (x : Reply). IsAnswered b x (Strike (record { link = n; server = server; host = host; port = port }))) (sym by_book) (refl, refl, subst (StrikesInPlace b) is place)

  pub is_nobody : (b : Book) (client : KeyView) (r : BookReply E) → r ≡ reply.Nobody → reply_of r ≡ (apply b (Cancel client)).reply → IsAnswerToCancel b client Nobody
  is_nobody b client r is answer =
      let by_book : (apply b (Cancel client)).reply ≡ told.Nobody = sym answer ∙ ap reply_of is in
      subst (λ (x : Reply). IsAnswered b x Nobody) (sym by_book) refl

  pub is_last : (b : Book) (client : KeyView) (r : BookReply E) (refusal : Refusal) (back : Option LinkView) → r ≡ reply.Refuse refusal back → reply_of r ≡ (apply b (Cancel client)).reply → IsAnswerToCancel b client Last
  is_last b client r refusal back is answer =
      let by_book : (apply b (Cancel client)).reply ≡ told.Refuse refusal = sym answer ∙ ap reply_of is in
      subst (λ (x : Reply). IsAnswered b x Last) (sym by_book) refl

  -- the link that is closed is the one whose server hung up
  pub is_named : (b : Book) (n : ℕ) (r : BookReply E) (link : LinkView) → r ≡ reply.Close link → reply_of r ≡ (apply b (HungUp n)).reply → link.number ≡ n
  is_named b n r link is answer = (hang_ups_close b n link.number (sym answer ∙ ap reply_of is)).0

-- a change is done, or the book has made its last decision
pub change_told : (c : Change) (r : Reply) (p q : PassOf) → Tells (Makes c) r p q → q ≡ after_change p (changed_by r)
change_told c r p q =
    elim r as (λ x. Tells (Makes c) x p q → q ≡ after_change p (changed_by x)) [
      | told.Done ↦ λ h. h
      | told.Refuse refusal ↦ elim refusal as (λ x. Tells (Makes c) (told.Refuse x) p q → q ≡ after_change p (changed_by (told.Refuse x))) [
        | LastDecision ↦ λ h. h
        | _ ↦ λ h. absurd h
      ]
      | _ ↦ λ h. absurd h
    ]
