-- Reached worlds with the greatest pid that their servers told, so that there is a key word that none told.
use Rattle.std.proofs.Common.{◌≡◌, ℕ, suc, ◌≤◌, Bool, true, false, refl, sym, ◌∙◌, subst, arith, le_refl, le_trans, ltb-true, ltb-false, Option, Some}
use Rattle.std.specs.Prelude.{cond, nat_lt}
use Rattle.std.proofs.lemmas.Option.{none-some}
use Rattle.message_view.specs.declared.views.KeyView.{KeyView}
use Rattle.session_values.specs.State.{StartKeyOf}
use Rattle.book_model.specs.Book.{Limits}
use Rattle.world_steps.specs.Links.{Link, newborn}
use Rattle.world_steps.specs.Links.Role.{Gone}
use Rattle.world_steps.specs.Steps.{BookStep, ByteStep, IsEmpty, IsNewKey, LinkStep, Reached, Step}
use Rattle.world_steps.specs.Steps.Step.{book_step, client_step, byte_step, link_step, end_step}
use Rattle.world_steps.specs.Steps.BookStep.{plain_event, arrives, asks, is_lent, is_promised, is_promised_for, gives_back, gives_back_too_late, tick_closes, hung_up_closes, keys, cancels}
use Rattle.world_steps.specs.Steps.ClientStep.{of_client}
use Rattle.world_steps.specs.Steps.ByteStep.{by_client, by_lease, by_link, server_answers, server_answers_client, strike_arrives}
use Rattle.world_steps.specs.Steps.LeaseBytes.{to_link, from_link}
use Rattle.world_steps.specs.Steps.LinkBytes.{to_reset, from_reset, server_dies, strike_passes}
use Rattle.world_steps.specs.Steps.LinkStep.{starts, start_fails, start_retries, returns_unused, returns_used, ends_reset, disposes_lent, disposes_promised, disposes}
use Rattle.world_steps.specs.Steps.EndStep.{of_end}
use Rattle.world_steps.specs.Steps.Reached.{begins, goes_on}
use Rattle.world_steps.specs.Worlds.{AreTogether, World, put}
use Rattle.world_steps.proofs.Put.{put_all}

-- the key word that a server tells in these stories
abbrev pub server : ℕ → KeyView
server n = record { pid = n; secret = n }

-- no server told a greater pid
abbrev pub AllTold : ℕ → (ℕ → Link) → Type 0
AllTold n links = (m : ℕ) (own : KeyView) → (links m).server_key ≡ Some own → own.pid ≤ n

pub record At (n : ℕ) (w : World) : Type 0 where
  pub reached : Reached w
  pub told : AllTold n w.links

abbrev pub greater : ℕ → ℕ → ℕ
greater n m = cond (nat_lt n m) m n

is_greater : (n m : ℕ) → (n ≤ greater n m) × (m ≤ greater n m)
is_greater n m = go (nat_lt n m) refl
  where
    go : (b : Bool) → nat_lt n m ≡ b → (n ≤ cond b m n) × (m ≤ cond b m n)
    go true e = let h = ltb-true n m e in (omega (arith, h), le_refl m)
    go false e = (le_refl n, ltb-false n m e)

-- after a step
abbrev pub after_link : {w v : World} → LinkStep w v → ℕ → ℕ
after_link (starts c l key own s e f new) n = greater n own.pid
after_link _ n = n

abbrev pub after : {w v : World} → Step w v → ℕ → ℕ
after (link_step s) n = after_link s n
after _ n = n

pub same_told : {n : ℕ} (links : ℕ → Link) (l : ℕ) (y : Link) → y.server_key ≡ (links l).server_key → AllTold n links → AllTold n (put links l y)
same_told {n} links l y same h = put_all (λ m z. (own : KeyView) → z.server_key ≡ Some own → own.pid ≤ n) links l y (λ own e. h l own (sym same ∙ e)) (λ m _ own e. h m own e)

module _ {n : ℕ} where
  book_told : (w v : World) → BookStep w v → AllTold n w.links → AllTold n v.links
  book_told w _ (plain_event e r b p q) h = h
  book_told w _ (arrives c m read beyond b e none q) h = h
  book_told w _ (asks c m key r b e q) h = h
  book_told w _ (is_lent c m l key s b e q f) h = same_told w.links l _ refl h
  book_told w _ (is_promised c m l started_at key b e q) h = same_told w.links l _ refl h
  book_told w _ (is_promised_for c m l started_at old key b e q) h = same_told (put w.links old (record (w.links old) { role = Gone })) l _ refl (same_told w.links old _ refl h)
  book_told w _ (gives_back l started_at b e q) h = same_told w.links l _ refl h
  book_told w _ (gives_back_too_late l m started_at b e q) h = same_told w.links l _ refl h
  book_told w _ (tick_closes now l b q) h = same_told w.links l _ refl h
  book_told w _ (hung_up_closes m l b q) h = same_told w.links l _ refl h
  book_told w _ (keys c l own b e told q) h = h
  book_told w _ (cancels c l key own host port b a q p) h = h

  byte_told : (w v : World) → ByteStep w v → AllTold n w.links → AllTold n v.links
  byte_told w _ (by_client c m) h = h
  byte_told w _ (by_lease c l e (to_link bytes rest u)) h = same_told w.links l _ refl h
  byte_told w _ (by_lease c l e (from_link bytes rest u)) h = same_told w.links l _ refl h
  byte_told w _ (by_link l (to_reset bytes rest e p)) h = same_told w.links l _ refl h
  byte_told w _ (by_link l (from_reset bytes rest e p)) h = same_told w.links l _ refl h
  byte_told w _ (by_link l (server_dies kept lost e)) h = same_told w.links l _ refl h
  byte_told w _ (by_link l strike_passes) h = same_told w.links l _ refl h
  byte_told w _ (server_answers l f rest nobody e) h = same_told w.links l _ refl h
  byte_told w _ (server_answers_client c l f rest e k) h = same_told w.links l _ refl h
  byte_told w _ (strike_arrives l before later s e k) h = same_told w.links l _ refl h

  link_told : (w v : World) (s : LinkStep w v) → AllTold n w.links → AllTold (after_link s n) v.links
  link_told w _ (starts c l key own s e f new) h =
      put_all (λ m z. (told : KeyView) → z.server_key ≡ Some told → told.pid ≤ greater n own.pid) w.links l (newborn c key own s)
      (λ told q. subst (λ (k : KeyView). k.pid ≤ greater n own.pid) (same q) (is_greater n own.pid).1) (λ m _ told q. le_trans (h m told q) (is_greater n own.pid).0)
    where
      same : {a b : KeyView} → ◌≡◌ {A = Option KeyView} (Some a) (Some b) → a ≡ b
      same q = cc
  link_told w _ (start_fails c l key cause e f) h = same_told w.links l _ refl h
  link_told w _ (start_retries c l key e) h = same_told w.links l _ refl h
  link_told w _ (returns_unused c l b e k none silent q) h = same_told w.links l _ refl h
  link_told w _ (returns_used c l b e k settled q) h = same_told w.links l _ refl h
  link_told w _ (ends_reset l e done) h = same_told w.links l _ refl h
  link_told w _ (disposes_lent c l e k) h = same_told w.links l _ refl h
  link_told w _ (disposes_promised c l e k) h = same_told w.links l _ refl h
  link_told w _ (disposes l k) h = same_told w.links l _ refl h

  pub told_on : (w v : World) (s : Step w v) → AllTold n w.links → AllTold (after s n) v.links
  told_on w v (book_step s) h = book_told w v s h
  told_on w _ (client_step (of_client c m)) h = h
  told_on w v (byte_step s) h = byte_told w v s h
  told_on w v (link_step s) h = link_told w v s h
  told_on w _ (end_step (of_end c m)) h = h

unfoldable pub then_do : {w v : World} {n : ℕ} (s : Step w v) → At n w → At (after s n) v
then_do {w} {v} {n} s h = record { reached = goes_on h.reached s; told = told_on w v s h.told }

-- at the beginning no server told any
pub at_begin : (w : World) (limits : Limits) → IsEmpty w limits → At 0 w
at_begin w limits h = record { reached = begins limits h; told = λ m own e. absurd (none-some own (sym (h.keyless m) ∙ e)) }

-- the next one is new
pub new_by : {n : ℕ} (links : ℕ → Link) (key : StartKeyOf) → AllTold n links → (m : ℕ) → (links m).server_key ≡ Some (server (suc n)) → AreTogether (links m).key key → ⊥
new_by {n} links key told m e t = too_great (told m (server (suc n)) e)
  where
    too_great : suc n ≤ n → ⊥
    too_great le = omega arith

pub new_key : {n : ℕ} {w : World} {key : StartKeyOf} → At n w → IsNewKey w key (server (suc n))
new_key {n} {w} {key} h = new_by w.links key h.told
