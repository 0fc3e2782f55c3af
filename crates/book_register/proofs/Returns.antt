-- What a GiveBack, a Tick and a HungUp give, case by case; `before` is the book as its fields stand.
use Rattle.std.proofs.Common.{◌≡◌, ℕ, Bool, true, false, List, [], ◌∷◌, ◌++◌, Option, None, Some, cond, not, refl, sym, ap, ◌∙◌, subst}
use Rattle.std.specs.Prelude.{find, nat_lt, ◌||◌}
use Rattle.book_model.specs.Book.{Book, Link, is_link, without, without_lease, without_number}
use Rattle.book_model.specs.Outcomes.{Answer, at_clock, closes, gives_back, hangs_up, is_crowded, is_old, is_stale, loses}
use Rattle.book_model.specs.declared.events.Reply.{Reply}
use Rattle.book_model.specs.declared.events.Reply.TheVariants.{Close, Done, Nobody, Stranger}
use Rattle.book_register.specs.Choices.{Gives}
use Rattle.book_rows.specs.Numbered.{number_of}
use Rattle.book_register.proofs.Choices.{known, unknown}
use Rattle.book_register.proofs.Takes.{link_bears}

abbrev kept_back : Book → Link → Answer
kept_back b l = record { book = record (loses b l.number) { idle = b.idle ++ record l { since = b.clock } ∷ [] }; reply = Done }

abbrev closed_back : Book → Link → Answer
closed_back b l = record { book = loses b l.number; reply = Close l.number }

back_by : (before b after : Book) (n : ℕ) (x : Link) (reply : Reply) (closing : Bool) → before ≡ b → find (is_link n) before.lent ≡ Some x → (is_old b x || is_crowded b x) ≡ closing → Gives after reply (cond closing (closed_back before x) (kept_back before x)) → Gives after reply (gives_back b (find (is_link n) b.lent))
back_by before b after n x reply closing e f test given =
    let there : find (is_link n) b.lent ≡ Some x = ap (λ (v : Book). find (is_link n) v.lent) (sym e) ∙ f in
    let whole : gives_back b (find (is_link n) b.lent) ≡ cond closing (closed_back before x) (kept_back before x) =
    ap (gives_back b) there ∙ (ap (λ (v : Bool). cond {A = Answer} v (closed_back b x) (kept_back b x)) test ∙ ap (λ (v : Book). cond {A = Answer} closing (closed_back v x) (kept_back v x)) (sym e)) in
    (given.0 ∙ ap (λ (a : Answer). a.book) (sym whole), given.1 ∙ ap (λ (a : Answer). a.reply) (sym whole))

-- nothing is known of a link's lease any more
abbrev forgotten : Book → ℕ → Book
forgotten b n = record b { keyed = without_lease n b.keyed; marked = without_number n b.marked; ended = without_number n b.ended }

lost_is : (before mid : Book) (m : ℕ) (x : Link) (links : List Link) → links ≡ without x.number before.lent → m ≡ x.number → mid ≡ forgotten (record before { lent = links }) m → mid ≡ loses before x.number
lost_is before mid m x links el em done = done ∙ (ap (λ (n : ℕ). forgotten (record before { lent = links }) n) em ∙ ap (λ (ls : List Link). forgotten (record before { lent = ls }) x.number) el)

pub closing_done : (before b after : Book) (n : ℕ) (x : Link) (links : List Link) → before ≡ b → find (is_link n) before.lent ≡ Some x → (is_old b x || is_crowded b x) ≡ true → links ≡ without n before.lent → after ≡ forgotten (record before { lent = links }) n → Gives after (Close n) (gives_back b (find (is_link n) b.lent))
closing_done before b after n x links e f test el done =
    let own : n ≡ x.number = sym (link_bears n before.lent x f) in
    back_by before b after n x (Close n) true e f test (lost_is before after n x links (el ∙ ap (λ (m : ℕ). without m before.lent) own) own done, ap Close own)

pub keeping_done : (before b mid after : Book) (n : ℕ) (x y : Link) (links : List Link) (reply : Reply) → before ≡ b → find (is_link n) before.lent ≡ Some x → find (is_link n) before.lent ≡ Some y → (is_old b x || is_crowded b x) ≡ false → links ≡ without n before.lent → mid ≡ forgotten (record before { lent = links }) n → after ≡ record mid { idle = mid.idle ++ record y { since = mid.clock } ∷ [] } → reply ≡ Done → Gives after reply (gives_back b (find (is_link n) b.lent))
keeping_done before b mid after n x y links reply e f g test el lost done replied =
    let own : n ≡ x.number = sym (link_bears n before.lent x f) in
    let same : y ≡ x = one y x (find (is_link n) before.lent) g f in
    back_by before b after n x reply false e f test (done ∙ (ap (λ (l : Link). record mid { idle = mid.idle ++ record l { since = mid.clock } ∷ [] }) same ∙ ap (λ (v : Book). record v { idle = v.idle ++ record x { since = v.clock } ∷ [] }) (lost_is before mid n x links (el ∙ ap (λ (m : ℕ). without m before.lent) own) own lost)), replied)
  where
    one : (u v : Link) (o : Option Link) → o ≡ Some u → o ≡ Some v → u ≡ v
    one u v o p q = cc

pub no_link : (b : Book) (n : ℕ) → find (is_link n) b.lent ≡ None → Gives b Stranger (gives_back b (find (is_link n) b.lent))
no_link b n e =
    let whole : gives_back b (find (is_link n) b.lent) ≡ gives_back b None = ap (gives_back b) e in
    (ap (λ (a : Answer). a.book) (sym whole), ap (λ (a : Answer). a.reply) (sym whole))

pub stale_gone : (before b : Book) (n : ℕ) (links : List Link) → before ≡ b → Some n ≡ number_of (find (is_stale b) b.idle) → links ≡ without n before.idle → Gives (record before { idle = links }) (Close n) (closes b (find (is_stale b) b.idle))
stale_gone before b n links e f el =
    let k = known (find (is_stale b) b.idle) n f in
    let own : n ≡ k.0.number = sym k.2 in
    let whole : closes b (find (is_stale b) b.idle) ≡ closes before (Some k.0) = ap (closes b) k.1 ∙ ap (λ (v : Book). closes v (Some k.0)) (sym e) in
    (ap (λ (ls : List Link). record before { idle = ls }) (el ∙ ap (λ (m : ℕ). without m before.idle) own) ∙ ap (λ (a : Answer). a.book) (sym whole), ap Close own ∙ ap (λ (a : Answer). a.reply) (sym whole))

pub none_stale : (b : Book) → None ≡ number_of (find (is_stale b) b.idle) → Gives b Done (closes b (find (is_stale b) b.idle))
none_stale b e =
    let whole : closes b (find (is_stale b) b.idle) ≡ closes b None = ap (closes b) (unknown (find (is_stale b) b.idle) e) in
    (ap (λ (a : Answer). a.book) (sym whole), ap (λ (a : Answer). a.reply) (sym whole))

pub tick_done : (before b after : Book) (clock now : ℕ) (reply : Reply) → before ≡ b → clock ≡ cond (nat_lt before.clock now) now before.clock → Gives after reply (closes (record before { clock = clock }) (find (is_stale (record before { clock = clock })) before.idle)) → Gives after reply (closes (at_clock b now) (find (is_stale (at_clock b now)) b.idle))
tick_done before b after clock now reply e ec given =
    let same : record before { clock = clock } ≡ at_clock b now = ap (λ (n : ℕ). record before { clock = n }) ec ∙ ap (λ (v : Book). at_clock v now) e in
    subst (λ (v : Book). Gives after reply (closes v (find (is_stale v) v.idle))) same given

-- ---- a HungUp

pub hung_up_gone : (before b : Book) (n : ℕ) (x : Link) (links : List Link) → before ≡ b → find (is_link n) before.idle ≡ Some x → links ≡ without n before.idle → Gives (record before { idle = links }) (Close n) (hangs_up b (find (is_link n) b.idle))
hung_up_gone before b n x links e f el =
    let own : n ≡ x.number = sym (link_bears n before.idle x f) in
    let there : find (is_link n) b.idle ≡ Some x = ap (λ (v : Book). find (is_link n) v.idle) (sym e) ∙ f in
    let whole : hangs_up b (find (is_link n) b.idle) ≡ hangs_up before (Some x) = ap (hangs_up b) there ∙ ap (λ (v : Book). hangs_up v (Some x)) (sym e) in
    (ap (λ (ls : List Link). record before { idle = ls }) (el ∙ ap (λ (m : ℕ). without m before.idle) own) ∙ ap (λ (a : Answer). a.book) (sym whole), ap Close own ∙ ap (λ (a : Answer). a.reply) (sym whole))

-- the list without a number that none of it bears
without_none : (n : ℕ) (ls : List Link) → find (is_link n) ls ≡ None → without n ls ≡ ls
without_none n [] e = refl
without_none n (l ∷ ls) e = go (is_link n l) e (λ f. without_none n ls f)
  where
    go : (b : Bool) → cond b (Some l) (find (is_link n) ls) ≡ None → (find (is_link n) ls ≡ None → without n ls ≡ ls) → cond (not b) (l ∷ without n ls) (without n ls) ≡ l ∷ ls
    go true h ih = absurd (cc)
    go false h ih = ap (λ (v : List Link). l ∷ v) (ih h)

pub nobody_hung_up : (before b : Book) (n : ℕ) (links : List Link) → before ≡ b → find (is_link n) before.idle ≡ None → links ≡ without n before.idle → Gives (record before { idle = links }) Nobody (hangs_up b (find (is_link n) b.idle))
nobody_hung_up before b n links e f el =
    let there : find (is_link n) b.idle ≡ None = ap (λ (v : Book). find (is_link n) v.idle) (sym e) ∙ f in
    let whole : hangs_up b (find (is_link n) b.idle) ≡ hangs_up before None = ap (hangs_up b) there ∙ ap (λ (v : Book). hangs_up v None) (sym e) in
    (ap (λ (ls : List Link). record before { idle = ls }) (el ∙ without_none n before.idle f) ∙ ap (λ (a : Answer). a.book) (sym whole), ap (λ (a : Answer). a.reply) (sym whole))
