-- What a login tells of the bytes that it took and the pieces that it gave.
use Rattle.std.proofs.Common.{◌≡◌, ℕ, List, [], ◌∷◌, ◌++◌, refl, sym, ap, ◌∙◌, append_assoc, append-nil}
use Rattle.std.specs.List.{flat_map}
use Rattle.frame_view.specs.Frames.{FrameOf, spelling}
use Rattle.message_view.specs.declared.KeyWord.{KeyWord}
use Rattle.message_view.specs.Refusals.{joined_pieces}
use Rattle.std.specs.Prelude.{map}
use Rattle.session_values.specs.State.{fresh}
use Rattle.session_values.specs.Service.{service, served, client_frames}
use Rattle.login_core.specs.declared.steps.LoginStep.{LoginStep}
use Rattle.login_core.specs.Talk.{says}
use Rattle.login_core.specs.Dialogue.{row_in, login_among}
use Rattle.login_core.specs.Logins.{LoginView, rows_of, goes_on, Tells, StepMeans, after, question_bytes}
use Rattle.login_core.specs.Laws.{NewTells, StepsTell, StepsSay, waits, arrived, asks, ServiceIsItsPieces}
use Rattle.login_core.proofs.Taking.{or_changed}

pub new_tells : NewTells
new_tells settings users word = λ more. refl

told : (old new : LoginView) (taken bytes : List ℕ) (given : List (List ℕ)) (s : LoginStep) → Tells old taken given → ((more : List ℕ) → goes_on old (bytes ++ more) ≡ after s more (goes_on new more)) → (more : List ℕ) →
    login_among (rows_of old) old.word ((taken ++ bytes) ++ more) ≡ says given (after s more (goes_on new more))
told old new taken bytes given s t h more = ap (login_among (rows_of old) old.word) (append_assoc taken bytes more) ∙ (t (bytes ++ more) ∙ ap (says given) (h more))

pub steps_say : StepsSay
steps_say old new taken bytes given s t h = or_changed s _ _ _ _ (told old new taken bytes given s t) (λ k. k) h.said

-- the same settings, users and word
moved : (old new : LoginView) (bytes : List ℕ) (s : LoginStep) → StepMeans old bytes s new → (all : List ℕ) → login_among (rows_of new) new.word all ≡ login_among (rows_of old) old.word all
moved old new bytes s h all =
    ap (λ (x : _). login_among (row_in x new.users) new.word all) h.settings
    ∙ (ap (λ (x : _). login_among (row_in old.settings x) new.word all) h.users
    ∙ ap (λ (x : KeyWord). login_among (row_in old.settings old.users) x all) h.word)

pub steps_tell : StepsTell
steps_tell old new taken bytes given s waits t h = λ rest.
    moved old new bytes s h ((taken ++ bytes) ++ rest) ∙ (told old new taken bytes given s t h.said rest ∙ ap (λ (g : List (List ℕ)). says g (goes_on new rest)) (sym (append-nil given)))
steps_tell old new taken bytes given s (arrived key) t h = λ rest.
    moved old new bytes s h ((taken ++ bytes) ++ rest) ∙ (told old new taken bytes given s t h.said rest ∙ ap (λ (g : List (List ℕ)). says g (goes_on new rest)) (sym (append-nil given)))
steps_tell old new taken bytes given s (asks q) t h = λ rest.
    moved old new bytes s h ((taken ++ bytes) ++ rest) ∙ (told old new taken bytes given s t h.said rest
    ∙ ap (λ (g : List (List ℕ)). record { pieces = g; ended = (goes_on new rest).ended }) (sym (append_assoc given (question_bytes q ∷ []) (goes_on new rest).pieces)))

pieces_join : (fs : List FrameOf) → joined_pieces (map spelling fs) ≡ flat_map spelling fs
pieces_join [] = refl
pieces_join (f ∷ fs) = ap (λ (l : List ℕ). spelling f ++ l) (pieces_join fs)

pub service_is : ServiceIsItsPieces
unfolding service
service_is cat key word marks bytes = pieces_join (served cat (fresh cat key) word.pid word.secret marks (client_frames bytes))
