-- Turns of a talk over a client's end.
use Rattle.std.proofs.Common.{◌≡◌, ℕ, Bool, true, false, List, [], ◌∷◌, ◌++◌, length, refl, sym, ap, ap₂, ◌∙◌, append_assoc, append-nil, subst, ◌⊎◌, ⊎_elim, arith}
use Rattle.std.specs.Prelude.{◌==◌, if◌then◌else◌, Option, Some, None}
use Rattle.std.proofs.lemmas.Bool.{eqb-true}
use Rattle.message_view.specs.declared.views.KeyView.{KeyView}
use Rattle.link_model.specs.Standing.{ClientFacts}
use Rattle.link_model.specs.Stages.{Server}
use Rattle.server_end.specs.declared.Moved.{Moved}
use Rattle.server_end.specs.declared.Moved.TheVariants.{Ended, Fault}
use Rattle.server_end.specs.Moves.{ClientReads, ClientWrites, moved}
use Rattle.stub_server.specs.declared.talk.Ending.{Ending}
use Rattle.stub_server.specs.declared.talk.Ending.TheVariants.{Closed, Left, OutOfMemory}
use Rattle.stub_server.specs.declared.talk.Stage.{Stage}
use Rattle.stub_server.specs.declared.talk.Stage.TheVariants.{Waits, Serves, Over}
use Rattle.stub_server.specs.declared.connection.Progress.{Progress}
use Rattle.stub_server.specs.declared.connection.Progress.TheVariants.{Ends, Moved as HasMoved}
use Rattle.stub_server.specs.Replies.{asked_by, stub_replies}
use Rattle.stub_server.specs.Talks.{TalkOf, AreMarksOf, Hears, IsSilent, Says, GivesAll, GivesFront, HasEnded, HasTurned, IsNew, Turns, ending_asked, ending_of, future, new_talk}
use Rattle.stub_server.proofs.Talking.{lawful_both}

-- ---- nothing was moved

record SameBytes (old new : ClientFacts) : Type 0 where
  tells : new.tells ≡ old.tells
  taken : old.tells ≡ true → new.taken ≡ old.taken
  given : old.tells ≡ true → new.given ≡ old.given

none_written : (old new : ClientFacts) (m : Moved) → ClientWrites old new [] m → SameBytes old new
none_written old new m w = record { tells = w.tells; taken = w.taken; given = λ t. w.given t ∙ append-nil old.given }

none_read : (old new : ClientFacts) (m : Moved) → ClientReads old new [] m → SameBytes old new
none_read old new m r = record { tells = r.tells; taken = λ t. r.taken t ∙ append-nil old.taken; given = r.given }

still_says : (old new : ClientFacts) (s : TalkOf) (v : Server) → SameBytes old new → Says v old s → Says v new s
still_says old new s v b h = record {
  server = h.server;
  marks = h.marks;
  lawful = h.lawful;
  says = λ t later more.
      let told : old.tells ≡ true = sym b.tells ∙ t in
      ap (λ (l : List ℕ). l ++ future s later more) (b.given told) ∙ h.says told later more ∙ ap (λ (l : List ℕ). stub_replies v (h.marks ++ later) (l ++ more)) (sym (b.taken told));
  asked = λ t more. let told : old.tells ≡ true = sym b.tells ∙ t in h.asked told more ∙ ap (λ (l : List ℕ). asked_by (l ++ more)) (sym (b.taken told));
}

-- what was given is a beginning
pub front_so_far : (client : ClientFacts) (t : TalkOf) (v : Server) → Says v client t → GivesFront v client
front_so_far client t v h = record {
  marks = h.marks;
  lawful = h.lawful;
  unsent = future t [] [];
  front = λ x. h.says x [] [] ∙ ap₂ (stub_replies v) (append-nil h.marks) (append-nil client.taken);
}

-- the client's end has ended, or come to a fault
none_moved : (m : Moved) (bytes : List ℕ) → (m ≡ Ended) ⊎ (m ≡ Fault) → moved m bytes ≡ []
none_moved m bytes which = ⊎_elim (λ e. ap (λ (x : Moved). moved x bytes) e) (λ e. ap (λ (x : Moved). moved x bytes) e) which

leaves : (old new : ClientFacts) (s t : TalkOf) → SameBytes old new → Turns old new s t (Ends Left)
leaves old new s t b = record { turns = λ v h. front_so_far new s v (still_says old new s v b h) }

pub writes_over : (old new : ClientFacts) (s t : TalkOf) (m : Moved) (bytes : List ℕ) → (m ≡ Ended) ⊎ (m ≡ Fault) → ClientWrites old new (moved m bytes) m → Turns old new s t (Ends Left)
writes_over old new s t m bytes which w = leaves old new s t (none_written old new m (subst (λ (l : List ℕ). ClientWrites old new l m) (none_moved m bytes which) w))

pub reads_over : (old new : ClientFacts) (s t : TalkOf) (m : Moved) (bytes : List ℕ) → (m ≡ Ended) ⊎ (m ≡ Fault) → ClientReads old new (moved m bytes) m → Turns old new s t (Ends Left)
reads_over old new s t m bytes which r = leaves old new s t (none_read old new m (subst (λ (l : List ℕ). ClientReads old new l m) (none_moved m bytes which) r))

-- ---- bytes were moved

pub hears : (old new : ClientFacts) (s t : TalkOf) (m : Moved) (got : List ℕ) → ClientReads old new got m → Hears s t got → Turns old new s t HasMoved
hears old new s t m got r k = record {
  turns = λ v h. record {
    server = k.server ∙ h.server;
    marks = h.marks ++ k.marks;
    lawful = lawful_both v h.marks k.marks h.lawful (subst (λ (u : Server). AreMarksOf u k.marks) h.server k.lawful);
    says = λ x later more.
        let told : old.tells ≡ true = sym r.tells ∙ x in
        ap₂ (λ (g f : List ℕ). g ++ f) (r.given told) (k.same later more) ∙ h.says told (k.marks ++ later) (got ++ more)
        ∙ ap₂ (stub_replies v) (sym (append_assoc h.marks k.marks later)) (sym (append_assoc old.taken got more) ∙ ap (λ (l : List ℕ). l ++ more) (sym (r.taken told)));
    asked = λ x more.
        let told : old.tells ≡ true = sym r.tells ∙ x in
        k.asked more ∙ h.asked told (got ++ more) ∙ ap asked_by (sym (append_assoc old.taken got more) ∙ ap (λ (l : List ℕ). l ++ more) (sym (r.taken told)));
  };
}

pub hears_no_memory : (old new : ClientFacts) (s t : TalkOf) (m : Moved) (got : List ℕ) → ClientReads old new got m → Turns old new s t (Ends OutOfMemory)
hears_no_memory old new s t m got r = record {
  turns = λ v h. record {
    marks = h.marks;
    lawful = h.lawful;
    unsent = future s [] got;
    front = λ x.
        let told : old.tells ≡ true = sym r.tells ∙ x in
        ap (λ (l : List ℕ). l ++ future s [] got) (r.given told) ∙ h.says told [] got ∙ ap₂ (stub_replies v) (append-nil h.marks) (sym (r.taken told));
  };
}

-- ---- the end

-- nothing is held for the client, and nothing that comes is answered
all_given : (client : ClientFacts) (s : TalkOf) (asked : Option KeyView) (v : Server) → s.outbox ≡ [] → IsSilent s asked → Says v client s → GivesAll v client asked
all_given client s asked v e x h = record {
  marks = h.marks;
  lawful = h.lawful;
  all = λ t later more. sym (append-nil client.given) ∙ ap (λ (l : List ℕ). client.given ++ l) (sym (ap₂ (λ (o r : List ℕ). o ++ r) e (x.silent later more))) ∙ h.says t later more;
  asked_is = λ t more. sym (h.asked t more) ∙ x.asked_is more;
}

ended_so : (v : Server) (client : ClientFacts) (asked : Option KeyView) → GivesAll v client asked → HasEnded v client (ending_asked asked)
ended_so v client None h = h
ended_so v client (Some key) h = h

-- nothing is held
pub none_held : (held : List ℕ) → true ≡ (length held == 0) → held ≡ []
none_held [] e = refl
none_held (b ∷ held) e = absurd (omega (arith, eqb-true (length (b ∷ held)) 0 (sym e)))

-- such a stage answers nothing
record IsLast (stage : Stage) (ending : Ending) : Type 0 where
  asked : Option KeyView
  silent : (v : Server) (inbox outbox : List ℕ) → IsSilent (record { server = v; stage = stage; inbox = inbox; outbox = outbox }) asked
  is : ending_asked asked ≡ ending

waits_last : (n : ℕ) (b : Bool) (ending : Ending) → (n == 0) ≡ b → (if b then Some Closed else None) ≡ Some ending → IsLast (Waits n) ending
waits_last n true ending e f = subst (λ (k : ℕ). IsLast (Waits k) ending) (sym (eqb-true n 0 e)) (record { asked = None; silent = λ v inbox outbox. record { silent = λ marks more. refl; asked_is = λ more. refl }; is = cc })
waits_last n false ending e f = absurd cc

last_stage : (stage : Stage) (ending : Ending) → ending_of stage ≡ Some ending → IsLast stage ending
last_stage (Waits n) ending e = waits_last n (n == 0) ending refl e
last_stage (Serves s) ending e = absurd cc
last_stage (Over asked) ending e = record { asked = asked; silent = λ v inbox outbox. record { silent = λ marks more. refl; asked_is = λ more. refl }; is = cc }

pub over_now : (client : ClientFacts) (v : Server) (stage : Stage) (inbox outbox : List ℕ) (ending : Ending) → outbox ≡ [] → ending_of stage ≡ Some ending
    → Turns client client (record { server = v; stage = stage; inbox = inbox; outbox = outbox }) (record { server = v; stage = stage; inbox = inbox; outbox = outbox }) (Ends ending)
over_now client v stage inbox outbox ending o e =
    let last = last_stage stage ending e in
    record { turns = λ u h. subst (λ (x : Ending). HasEnded u client x) last.is (ended_so u client last.asked (all_given client _ last.asked u o (last.silent v inbox outbox) h)) }

pub ended_by : (old new : ClientFacts) (s t : TalkOf) (p : Progress) (ending : Ending) (v : Server) → p ≡ Ends ending → Turns old new s t p → Says v old s → HasEnded v new ending
ended_by old new s t p ending v e k h = subst (λ (x : Progress). HasTurned v new t x) e (k.turns v h)

-- ---- the beginning

pub says_first : (client : ClientFacts) (v : Server) (t : TalkOf) → t ≡ new_talk v → IsNew client → Says v client t
says_first client v t e new = subst (Says v client) (sym e) (record {
  server = refl;
  marks = [];
  lawful = λ u. refl;
  says = λ x later more. ap₂ (λ (g l : List ℕ). g ++ stub_replies v later (l ++ more)) (new x).1 (sym (new x).0);
  asked = λ x more. ap (λ (l : List ℕ). asked_by (l ++ more)) (sym (new x).0);
})
