-- An event with which no link comes does as the definition's event by numbers, and is no return.
use Rattle.std.proofs.Common.{◌≡◌, ℕ, List, false, refl, ap}
use Rattle.link_run.specs.Links.{LinkView}
use Rattle.book_model.specs.Book.{Book}
use Rattle.book_model.specs.Events.{event_of}
use Rattle.book_model.specs.declared.events.Event as program
use Rattle.book_model.specs.declared.events.Event.TheVariants as its
use Rattle.book_model.specs.Outcomes.{apply}
use Rattle.book_model.specs.Replay.{History, noted_of}
use Rattle.book_model.specs.declared.events.Reply.{Reply}
use Rattle.lease_book.specs.Links.{answered, found, goes_out, handed_after, history_after, idle_after, is_return, left}
use Rattle.lease_book.specs.declared.events.BookEvent.{BookEvent}
use Rattle.lease_book.specs.declared.events.BookEvent.TheVariants as event

pub no_return : (e : program.Event) → is_return (event_of e) ≡ false
no_return (its.Arrive beyond) = refl
no_return (its.Ask client key) = refl
no_return (its.Take client) = refl
no_return (its.Lost link) = refl
no_return (its.StartFailed link) = refl
no_return (its.Leave client) = refl
no_return (its.Tick now) = refl
no_return (its.Change change) = refl
no_return (its.Keyed link client server) = refl
no_return (its.Cancel client) = refl
no_return (its.EndLease link) = refl
no_return (its.HungUp link) = refl

module _ {E : Type 0} where
  pub record IsPlain (x : BookEvent E) (e : program.Event) : Type 0 where
    pub answered_is : (b : Book) → answered b x ≡ apply b (event_of e)
    pub history_is : (b : Book) (pass : ℕ) (h : History) → history_after b pass x h ≡ noted_of b pass (event_of e) h
    pub idle_is : (r : Reply) (idle : List LinkView) → idle_after x r idle ≡ left (goes_out r) idle
    pub handed_is : (r : Reply) (idle : List LinkView) → handed_after x r idle ≡ found (goes_out r) idle

  pub is_plain : (x : BookEvent E) (e : program.Event) → x ≡ event.Plain e → IsPlain x e
  is_plain x e is = record {
    answered_is = λ b. ap (answered b) is;
    history_is = λ b pass h. ap (λ y. history_after b pass y h) is;
    idle_is = λ r idle. ap (λ y. idle_after y r idle) is;
    handed_is = λ r idle. ap (λ y. handed_after y r idle) is;
  }
