-- What each turn of a talk keeps.
use Rattle.std.proofs.Common.{◌≡◌, ◌⊎◌, inl, inr, ℕ, ◌+◌, ◌<◌, ◌≤◌, Bool, List, [], ◌∷◌, ◌++◌, length, take, drop, Option, Some, None, refl, sym, ap, ap₂, ◌∙◌, subst, arith, append-nil, le_refl, le_trans, length-take, take-append-drop}
use Rattle.std.specs.List.{flat_map}
use Rattle.bytes.specs.Filled.{Filled}
use Rattle.frame_view.specs.declared.Frame.{Frame}
use Rattle.frame_view.specs.declared.FrameError.{FrameError}
use Rattle.frame_view.specs.declared.FrameError.TheVariants as fault
use Rattle.frame_view.specs.declared.Side.TheVariants.{Client}
use Rattle.frame_view.specs.declared.Step.{Step}
use Rattle.frame_view.specs.declared.Step.TheVariants.{Whole, Bad}
use Rattle.frame_view.specs.Answers.{IsCut, Tells}
use Rattle.frame_view.specs.Frames.{AreBytes, Front, AFrame, Lacks, Faulty, FrameOf, IsFrame, front, spelling}
use Rattle.frame_view.specs.Laws.{FrontIsSpelled}
use Rattle.message_view.specs.declared.KeyWord.{KeyWord}
use Rattle.message_view.specs.declared.refusal.Refusal.{Refusal}
use Rattle.message_view.specs.declared.refusal.Refusal.TheVariants.{OutOfMemory}
use Rattle.session_values.specs.Answers.{frame_of}
use Rattle.link_model.specs.Standing.{ClientFacts}
use Rattle.server_end.specs.declared.Moved.{Moved}
use Rattle.server_end.specs.declared.Moved.TheVariants.{Count, NotNow, Ended, Fault}
use Rattle.server_end.specs.Moves.{ClientReads, ClientWrites, faults_in, moved, waits_in}
use Rattle.console_core.specs.Messages.{Response, response_to}
use Rattle.console_run.specs.declared.answering.Answered.{Answered}
use Rattle.console_run.specs.declared.answering.Answered.TheVariants as answered
use Rattle.console_run.specs.declared.talk.Turn.{Turn}
use Rattle.console_run.specs.declared.talk.Turn.TheVariants as turn
use Rattle.console_run.specs.Passing.{Pass}
use Rattle.ini_config.specs.declared.option_values.ConsoleStyle.{ConsoleStyle}
use Rattle.console_run.specs.Exchanges.{Asker, after_exchanges}
use Rattle.time_limits.specs.declared.TheConstants.{MAX_TURNS}
use Rattle.console_run.specs.Talks.{EndsBy, IsClientOver, IsFaulty, IsOver, IsRefused, IsRefusedBy, IsServed, Leaves, Said, Talks, refused_by}
use Rattle.console_run.specs.Turns.{Goes, HasEnded, HasGone, HasMoved, HasRead, HasResponded, HasTurned, HasWritten, IsRefusedAt, TalkView, greeted, talk_view}
use Rattle.console_run.proofs.Replying.{refused_here}
use Rattle.console_run.proofs.Going.{goes_fewer, goes_further, goes_moved, goes_none}
use Rattle.console_run.proofs.Passing.{Keeps, keeps_exchanges, keeps_further, keeps_refused}

-- ---- a write, and a read

-- what was written, and what is left
wrote : (n : ℕ) (c d : ClientFacts) (held unwritten put left : List ℕ) (drops : Bool) (m : Moved) → ClientWrites c d put m → unwritten ≡ put ++ left → n ≤ length put + waits_in m → HasMoved n (talk_view c held unwritten drops) (talk_view d held left drops)
wrote n c d held unwritten put left drops m k e f = record {
  got = [];
  put = put;
  tells = k.tells;
  taken = λ t. k.taken t ∙ sym (append-nil c.taken);
  given = k.given;
  held = sym (append-nil held);
  unwritten = e;
  drops = refl;
  faults = omega (arith, k.faults);
  counted = omega (arith, k.read_waits, k.write_waits, f);
}

took : (n : ℕ) (c d : ClientFacts) (held got more unwritten : List ℕ) (drops : Bool) (m : Moved) → ClientReads c d got m → more ≡ held ++ got → n ≤ length got + waits_in m → HasMoved n (talk_view c held unwritten drops) (talk_view d more unwritten drops)
took n c d held got more unwritten drops m k e f = record {
  got = got;
  put = [];
  tells = k.tells;
  taken = k.taken;
  given = λ t. k.given t ∙ sym (append-nil c.given);
  held = e;
  unwritten = refl;
  drops = refl;
  faults = omega (arith, k.faults);
  counted = omega (arith, k.read_waits, k.write_waits, f);
}

nothing_moved : (m : Moved) (bytes : List ℕ) → (m ≡ Ended) ⊎ (m ≡ Fault) → moved m bytes ≡ []
nothing_moved m bytes (inl e) = ap (λ (n : Moved). moved n bytes) e
nothing_moved m bytes (inr e) = ap (λ (n : Moved). moved n bytes) e

over_by_write : (c d : ClientFacts) (put : List ℕ) (m : Moved) → (m ≡ Ended) ⊎ (m ≡ Fault) → ClientWrites c d put m → IsClientOver c d
over_by_write c d put m (inl e) k = inl (k.ended e)
over_by_write c d put m (inr e) k = inr (omega (arith, k.faults, ap faults_in e))

over_by_read : (c d : ClientFacts) (got : List ℕ) (m : Moved) → (m ≡ Ended) ⊎ (m ≡ Fault) → ClientReads c d got m → IsClientOver c d
over_by_read c d got m (inl e) k = inl (k.ended e)
over_by_read c d got m (inr e) k = inr (omega (arith, k.faults, ap faults_in e))

-- some bytes are at least one
some_taken : (n : ℕ) (bytes : List ℕ) → 0 < n → n ≤ length bytes → 1 ≤ length (take n bytes)
some_taken n bytes h i = omega (arith, h, i, length-take n bytes)

-- ---- the same by what a call of the end came to

pub wrote_some : (v : TalkView) (c d : ClientFacts) (held unwritten bytes left : List ℕ) (drops : Bool) (n : ℕ) → talk_view c held unwritten drops ≡ v → bytes ≡ unwritten → left ≡ drop n unwritten → (0 < n) × (n ≤ length bytes) → ClientWrites c d (take n bytes) (Count n) → HasMoved 1 v (talk_view d held left drops)
wrote_some v c d held unwritten bytes left drops n e f l w k =
    subst (λ (x : TalkView). HasMoved 1 x (talk_view d held left drops)) e
    (wrote 1 c d held unwritten (take n bytes) left drops (Count n) k (sym (take-append-drop n unwritten) ∙ (ap (λ (x : List ℕ). take n x ++ drop n unwritten) (sym f) ∙ ap (λ (x : List ℕ). take n bytes ++ x) (sym l))) (le_trans (some_taken n bytes w.0 w.1) (omega arith)))

pub wrote_none : (v : TalkView) (c d : ClientFacts) (held unwritten : List ℕ) (drops : Bool) → talk_view c held unwritten drops ≡ v → ClientWrites c d [] NotNow → HasMoved 1 v (talk_view d held unwritten drops)
wrote_none v c d held unwritten drops e k = subst (λ (x : TalkView). HasMoved 1 x (talk_view d held unwritten drops)) e (wrote 1 c d held unwritten [] unwritten drops NotNow k refl (omega arith))

pub wrote_last : (v : TalkView) (c d : ClientFacts) (held unwritten bytes : List ℕ) (drops : Bool) (m : Moved) → talk_view c held unwritten drops ≡ v → (m ≡ Ended) ⊎ (m ≡ Fault) → ClientWrites c d (moved m bytes) m → HasMoved 0 v (talk_view d held unwritten drops) × IsClientOver v.client d
wrote_last v c d held unwritten bytes drops m e o k =
    subst (λ (x : TalkView). HasMoved 0 x (talk_view d held unwritten drops) × IsClientOver x.client d) e
    (wrote 0 c d held unwritten [] unwritten drops m (subst (λ (l : List ℕ). ClientWrites c d l m) (nothing_moved m bytes o) k) refl (omega arith), over_by_write c d (moved m bytes) m o k)

pub took_some : (v : TalkView) (c d : ClientFacts) (held reserved chunk more unwritten : List ℕ) (drops : Bool) (n : ℕ) → talk_view c held unwritten drops ≡ v → reserved ≡ held → more ≡ reserved ++ take n chunk → (0 < n) × (n ≤ length chunk) → ClientReads c d (take n chunk) (Count n) → HasMoved 1 v (talk_view d more unwritten drops)
took_some v c d held reserved chunk more unwritten drops n e f l w k =
    subst (λ (x : TalkView). HasMoved 1 x (talk_view d more unwritten drops)) e
    (took 1 c d held (take n chunk) more unwritten drops (Count n) k (l ∙ ap (λ (x : List ℕ). x ++ take n chunk) f) (le_trans (some_taken n chunk w.0 w.1) (omega arith)))

pub took_none : (v : TalkView) (c d : ClientFacts) (held reserved unwritten : List ℕ) (drops : Bool) → talk_view c held unwritten drops ≡ v → reserved ≡ held → ClientReads c d [] NotNow → HasMoved 1 v (talk_view d reserved unwritten drops)
took_none v c d held reserved unwritten drops e f k = subst (λ (x : TalkView). HasMoved 1 x (talk_view d reserved unwritten drops)) e (took 1 c d held [] reserved unwritten drops NotNow k (f ∙ sym (append-nil held)) (omega arith))

pub took_last : (v : TalkView) (c d : ClientFacts) (held reserved bytes unwritten : List ℕ) (drops : Bool) (m : Moved) → talk_view c held unwritten drops ≡ v → reserved ≡ held → (m ≡ Ended) ⊎ (m ≡ Fault) → ClientReads c d (moved m bytes) m → HasMoved 0 v (talk_view d reserved unwritten drops) × IsClientOver v.client d
took_last v c d held reserved bytes unwritten drops m e f o k =
    subst (λ (x : TalkView). HasMoved 0 x (talk_view d reserved unwritten drops) × IsClientOver x.client d) e
    (took 0 c d held [] reserved unwritten drops m (subst (λ (l : List ℕ). ClientReads c d l m) (nothing_moved m bytes o) k) (f ∙ sym (append-nil held)) (omega arith), over_by_read c d (moved m bytes) m o k)

client_over : (s : Asker) (old new : TalkView) (p q : Pass) → HasMoved 0 old new → IsClientOver old.client new.client → q ≡ p → HasEnded s old new p q None
client_over s old new p q h o e = record { turns = 0; goes = goes_moved s 0 old new p q h e; why = inr (inl o) }

pub written_turned : (s : Asker) (old new : TalkView) (p q : Pass) (t : Turn) → HasWritten old new t → q ≡ p → HasTurned s old new p q t
written_turned s old new p q turn.Again h e = goes_moved s 1 old new p q h e
written_turned s old new p q turn.Wait h e = goes_moved s 1 old new p q h e
written_turned s old new p q turn.Rest h e = goes_moved s 1 old new p q h e
written_turned s old new p q (turn.Over None) h e = client_over s old new p q h.0 h.1 e
written_turned s old new p q (turn.Over (Some r)) h e = absurd h

no_memory : (s : Asker) (old new : TalkView) (p q : Pass) (r : Refusal) → old.unwritten ≡ [] → r ≡ OutOfMemory → new ≡ old → q ≡ p → IsRefusedAt s old new p q r
no_memory s old new p q r w f n e =
    subst (λ (v : TalkView). IsRefusedAt s old v p q r) (sym n)
    (subst (λ (x : Refusal). IsRefusedAt s old old p q x) (sym f) (record { at = p; goes = goes_none s old p; written = w; refused = e }))

pub read_turned : (s : Asker) (old new : TalkView) (p q : Pass) (t : Turn) → old.unwritten ≡ [] → HasRead old new t → q ≡ p → HasTurned s old new p q t
read_turned s old new p q turn.Again w h e = goes_moved s 1 old new p q h e
read_turned s old new p q turn.Wait w h e = goes_moved s 1 old new p q h e
read_turned s old new p q turn.Rest w h e = goes_moved s 1 old new p q h e
read_turned s old new p q (turn.Over None) w h e = client_over s old new p q h.0 h.1 e
read_turned s old new p q (turn.Over (Some r)) w h e = no_memory s old new p q r w h.0 h.1 e

-- ---- a message

drop_front : (xs ys : List ℕ) → drop (length xs) (xs ++ ys) ≡ ys
drop_front [] ys = refl
drop_front (x ∷ xs) ys = drop_front xs ys

-- one exchange
exchanged : (s : Asker) (c : ClientFacts) (held rest unwritten : List ℕ) (drops dropping : Bool) (f : FrameOf) (reply : Filled) (p q : Pass) → unwritten ≡ [] → held ≡ spelling f ++ rest → IsFrame Client s.settings.max_packet_size f → HasResponded s (response_to drops f) (answered.Told reply dropping) p q
    → Goes s 1 (talk_view c held unwritten drops) (talk_view c rest reply.items dropping) p q
exchanged s c held rest unwritten drops dropping f reply p q w e i h = record {
  got = [];
  put = [];
  exchanges = record { asks = f; told = h.0.told; does = h.0.does } ∷ [];
  tells = refl;
  taken = λ t. sym (append-nil c.taken);
  given = λ t. sym (append-nil c.given);
  heard = append-nil held ∙ (e ∙ ap (λ (l : List ℕ). l ++ rest) (sym (append-nil (spelling f))));
  told = ap (λ (l : List ℕ). l ++ (flat_map spelling h.0.told ++ [])) w ∙ (append-nil (flat_map spelling h.0.told) ∙ sym h.0.bytes_are);
  answered = (i, h.0.answers_it, tt);
  drops = h.1;
  pass = h.0.pass;
  faults = le_refl c.faults;
  counted = omega arith;
}

framed : FrontIsSpelled → (s : Asker) (c : ClientFacts) (held unwritten : List ℕ) (drops dropping : Bool) (frame : Frame) (reply : Filled) (p q : Pass) (kind : ℕ) (body rest : List ℕ) → AreBytes held → unwritten ≡ [] → front Client s.settings.max_packet_size held ≡ AFrame kind body rest → IsCut frame held kind body rest
    → HasResponded s (response_to drops (frame_of frame)) (answered.Told reply dropping) p q → Goes s 1 (talk_view c held unwritten drops) (talk_view c (drop (length frame.whole.now) held) reply.items dropping) p q
framed law s c held unwritten drops dropping frame reply p q kind body rest b w e k h =
    let same : frame_of frame ≡ record { kind = kind; body = body } = ap₂ (λ (x : ℕ) (y : List ℕ). record { kind = x; body = y }) k.kind_is k.body_is in
    let spelled = law Client s.settings.max_packet_size held kind body rest b e in
    let behind : drop (length frame.whole.now) held ≡ rest = ap (λ (l : List ℕ). drop (length frame.whole.now) l) (sym k.whole_is) ∙ drop_front frame.whole.now rest in
    subst (λ (l : List ℕ). Goes s 1 (talk_view c held unwritten drops) (talk_view c l reply.items dropping) p q) (sym behind)
    (exchanged s c held rest unwritten drops dropping (frame_of frame) reply p q w (subst (λ (f : FrameOf). held ≡ spelling f ++ rest) (sym same) spelled.0) (subst (λ (f : FrameOf). IsFrame Client s.settings.max_packet_size f) (sym same) spelled.1) h)

message_told : FrontIsSpelled → (s : Asker) (c : ClientFacts) (held unwritten : List ℕ) (drops dropping : Bool) (frame : Frame) (reply : Filled) (p q : Pass) → AreBytes held → unwritten ≡ [] → Tells (Whole frame) held (front Client s.settings.max_packet_size held)
    → HasResponded s (response_to drops (frame_of frame)) (answered.Told reply dropping) p q → Goes s 1 (talk_view c held unwritten drops) (talk_view c (drop (length frame.whole.now) held) reply.items dropping) p q
message_told law s c held unwritten drops dropping frame reply p q b w t h = go (front Client s.settings.max_packet_size held) refl t
  where
    go : (x : Front) → front Client s.settings.max_packet_size held ≡ x → Tells (Whole frame) held x → Goes s 1 (talk_view c held unwritten drops) (talk_view c (drop (length frame.whole.now) held) reply.items dropping) p q
    go (AFrame kind body rest) e k = framed law s c held unwritten drops dropping frame reply p q kind body rest b w e k h
    go (Lacks n) e k = absurd k
    go (Faulty f) e k = absurd k

message_refused : (s : Asker) (v : TalkView) (p q : Pass) (r : Refusal) → v.unwritten ≡ [] → IsRefusedBy r p q → IsRefusedAt s v v p q r
message_refused s v p q r w h = record { at = p; goes = goes_none s v p; written = w; refused = refused_here s.settings.max_packet_size v.held r p q h }

-- the client leaves
framed_leaving : FrontIsSpelled → (s : Asker) (v : TalkView) (frame : Frame) (p q : Pass) (kind : ℕ) (body rest : List ℕ) → AreBytes v.held → v.unwritten ≡ [] → front Client s.settings.max_packet_size v.held ≡ AFrame kind body rest → IsCut frame v.held kind body rest
    → HasResponded s (response_to v.drops (frame_of frame)) answered.Left p q → HasGone s v v p q
framed_leaving law s v frame p q kind body rest b w e k h =
    let same : frame_of frame ≡ record { kind = kind; body = body } = ap₂ (λ (x : ℕ) (y : List ℕ). record { kind = x; body = y }) k.kind_is k.body_is in
    let spelled = law Client s.settings.max_packet_size v.held kind body rest b e in
    record {
      turns = 0;
      goes = subst (λ (x : Pass). Goes s 0 v v p x) (sym h.1) (goes_none s v p);
      why = inl (record { message = record { kind = kind; body = body }; behind = rest; stands = spelled.0; is_frame = spelled.1; leaves = ap (λ (f : FrameOf). response_to v.drops f) (sym same) ∙ h.0 }, w);
    }

message_left : FrontIsSpelled → (s : Asker) (v : TalkView) (frame : Frame) (p q : Pass) → AreBytes v.held → v.unwritten ≡ [] → Tells (Whole frame) v.held (front Client s.settings.max_packet_size v.held) → HasResponded s (response_to v.drops (frame_of frame)) answered.Left p q → HasGone s v v p q
message_left law s v frame p q b w t h = go (front Client s.settings.max_packet_size v.held) refl t
  where
    go : (x : Front) → front Client s.settings.max_packet_size v.held ≡ x → Tells (Whole frame) v.held x → HasGone s v v p q
    go (AFrame kind body rest) e k = framed_leaving law s v frame p q kind body rest b w e k h
    go (Lacks n) e k = absurd k
    go (Faulty f) e k = absurd k

is_faulty : (limit : ℕ) (held : List ℕ) (f : FrameError) → Tells (Bad f) held (front Client limit held) → IsFaulty limit held (refused_by f)
is_faulty limit held f t = go (front Client limit held) refl t
  where
    go : (x : Front) → front Client limit held ≡ x → Tells (Bad f) held x → IsFaulty limit held (refused_by f)
    go (AFrame kind body rest) e k = absurd k
    go (Lacks n) e k = absurd k
    go (Faulty other) e k = record { fault = other; stands = e; refusal = ap refused_by (sym k) }

faulty_refused : (limit : ℕ) (held : List ℕ) (f : FrameError) (p q : Pass) → q ≡ p → IsFaulty limit held (refused_by f) → IsRefused limit held (refused_by f) p q
faulty_refused limit held fault.TooLong p q e h = (h, e)
faulty_refused limit held fault.TooShort p q e h = (h, e)
faulty_refused limit held fault.UnknownType p q e h = (h, e)
faulty_refused limit held fault.UnknownCode p q e h = (h, e)

message_faulty : (s : Asker) (v : TalkView) (p q : Pass) (f : FrameError) → v.unwritten ≡ [] → Tells (Bad f) v.held (front Client s.settings.max_packet_size v.held) → q ≡ p → IsRefusedAt s v v p q (refused_by f)
message_faulty s v p q f w t e = record { at = p; goes = goes_none s v p; written = w; refused = faulty_refused s.settings.max_packet_size v.held f p q e (is_faulty s.settings.max_packet_size v.held f t) }

-- ---- the same by what was found

same_tells : (step : Step) (limit limit_of : ℕ) (bytes held : List ℕ) → limit ≡ limit_of → bytes ≡ held → Tells step bytes (front Client limit bytes) → Tells step held (front Client limit_of held)
same_tells step limit limit_of bytes held e f t = subst (λ (n : ℕ). Tells step held (front Client n held)) e (subst (λ (l : List ℕ). Tells step l (front Client limit l)) f t)

pub heard_told : FrontIsSpelled → (s : Asker) (v : TalkView) (c : ClientFacts) (held unwritten read bytes left : List ℕ) (drops dropping : Bool) (frame : Frame) (reply : Filled) (limit : ℕ) (x : Answered) (p q : Pass) → talk_view c held unwritten drops ≡ v → v.unwritten ≡ [] → limit ≡ s.settings.max_packet_size → read ≡ held → AreBytes read → bytes ≡ held
    → Tells (Whole frame) bytes (front Client limit bytes) → HasResponded s (response_to drops (frame_of frame)) x p q → x ≡ answered.Told reply dropping → left ≡ drop (length frame.whole.now) held → Goes s 1 v (talk_view c left reply.items dropping) p q
heard_told law s v c held unwritten read bytes left drops dropping frame reply limit x p q e w m a b f t h i l =
    subst (λ (y : TalkView). Goes s 1 y (talk_view c left reply.items dropping) p q) e
    (subst (λ (y : List ℕ). Goes s 1 (talk_view c held unwritten drops) (talk_view c y reply.items dropping) p q) (sym l)
    (message_told law s c held unwritten drops dropping frame reply p q (subst AreBytes a b) (ap (λ (y : TalkView). y.unwritten) e ∙ w) (same_tells (Whole frame) limit s.settings.max_packet_size bytes held m f t) (subst (λ (y : Answered). HasResponded s (response_to drops (frame_of frame)) y p q) i h)))

pub heard_left : FrontIsSpelled → (s : Asker) (v : TalkView) (read bytes : List ℕ) (drops : Bool) (frame : Frame) (limit : ℕ) (x : Answered) (p q : Pass) → drops ≡ v.drops → v.unwritten ≡ [] → limit ≡ s.settings.max_packet_size → read ≡ v.held → AreBytes read → bytes ≡ v.held → Tells (Whole frame) bytes (front Client limit bytes) → HasResponded s (response_to drops (frame_of frame)) x p q
    → x ≡ answered.Left → HasGone s v v p q
heard_left law s v read bytes drops frame limit x p q d w m a b f t h i =
    message_left law s v frame p q (subst AreBytes a b) w (same_tells (Whole frame) limit s.settings.max_packet_size bytes v.held m f t)
    (subst (λ (y : Answered). HasResponded s (response_to v.drops (frame_of frame)) y p q) i (subst (λ (y : Bool). HasResponded s (response_to y (frame_of frame)) x p q) d h))

pub heard_early : (s : Asker) (old new : TalkView) (message : Response) (x : Answered) (p q : Pass) (t : Turn) → old.unwritten ≡ [] → HasResponded s message x p q → x ≡ answered.NotYet → HasRead old new t → HasTurned s old new p q t
heard_early s old new message x p q t w h i k = read_turned s old new p q t w k (subst (λ (y : Answered). HasResponded s message y p q) i h).1

pub heard_refused : (s : Asker) (v : TalkView) (r : Refusal) (message : Response) (x : Answered) (p q : Pass) → v.unwritten ≡ [] → HasResponded s message x p q → x ≡ answered.Refused r → IsRefusedAt s v v p q r
heard_refused s v r message x p q w h i = message_refused s v p q r w (subst (λ (y : Answered). HasResponded s message y p q) i h)

pub heard_faulty : (s : Asker) (v : TalkView) (bytes : List ℕ) (f : FrameError) (limit : ℕ) (r : Refusal) (p : Pass) → v.unwritten ≡ [] → limit ≡ s.settings.max_packet_size → bytes ≡ v.held → Tells (Bad f) bytes (front Client limit bytes) → r ≡ refused_by f → IsRefusedAt s v v p p r
heard_faulty s v bytes f limit r p w m e t i = subst (λ (x : Refusal). IsRefusedAt s v v p p x) (sym i) (message_faulty s v p p f w (same_tells (Bad f) limit s.settings.max_packet_size bytes v.held m e t) refl)

-- ---- the whole talk

over_further : (c d e : ClientFacts) → c.faults ≤ d.faults → IsClientOver d e → IsClientOver c e
over_further c d e h (inl o) = inl o
over_further c d e h (inr o) = inr (omega (arith, h, o))

pub ended_further : (s : Asker) (n : ℕ) (old mid new : TalkView) (p q r : Pass) (last : Option Refusal) → Goes s n old mid p q → HasEnded s mid new q r last → HasEnded s old new p r last
ended_further s n old mid new p q r None g h = record { turns = n + h.turns; goes = goes_further s n h.turns old mid new p q r g h.goes; why = go h.why }
  where
    go : (Leaves s.settings.max_packet_size new.drops new.held × (new.unwritten ≡ [])) ⊎ (IsClientOver mid.client new.client ⊎ (MAX_TURNS ≤ h.turns)) → (Leaves s.settings.max_packet_size new.drops new.held × (new.unwritten ≡ [])) ⊎ (IsClientOver old.client new.client ⊎ (MAX_TURNS ≤ n + h.turns))
    go (inl x) = inl x
    go (inr (inl o)) = inr (inl (over_further old.client mid.client new.client g.faults o))
    go (inr (inr m)) = inr (inr (le_trans m (omega arith)))
ended_further s n old mid new p q r (Some x) g h = record { at = h.at; goes = goes_further s 0 0 old mid new p q h.at (goes_fewer s n old mid p q g) h.goes; written = h.written; refused = h.refused }

goes_keeps : (s : Asker) (n : ℕ) (old new : TalkView) (p q : Pass) → Goes s n old new p q → Keeps p q
goes_keeps s n old new p q g = subst (λ (r : Pass). Keeps p r) (sym g.pass) (keeps_exchanges g.exchanges p)

pub ended_keeps : (s : Asker) (old new : TalkView) (p q : Pass) (last : Option Refusal) → HasEnded s old new p q last → Keeps p q
ended_keeps s old new p q None h = goes_keeps s h.turns old new p q h.goes
ended_keeps s old new p q (Some r) h = keeps_further p h.at q (goes_keeps s 0 old new p h.at h.goes) (keeps_refused s.settings.max_packet_size new.held r h.at q h.refused)

-- what was said in a talk
abbrev said_in : (s : Asker) (n : ℕ) (word : KeyWord) (c : ClientFacts) (v : TalkView) (p q : Pass) → Goes s n (greeted c s.settings.console_style word) v p q → Said
said_in s n word c v p q g = record { exchanges = g.exchanges; held = v.held; put = g.put; unwritten = v.unwritten }

talked : (s : Asker) (n : ℕ) (word : KeyWord) (c : ClientFacts) (v : TalkView) (p at q : Pass) (last : Option Refusal) (g : Goes s n (greeted c s.settings.console_style word) v p at) → EndsBy s.settings.max_packet_size c v.client (said_in s n word c v p at g) last (after_exchanges g.exchanges p) q → Talks s word c v.client p q last
talked s n word c v p at q last g e = record {
  said = said_in s n word c v p at g;
  answered = g.answered;
  taken = λ t. g.taken t ∙ ap (λ (l : List ℕ). c.taken ++ l) g.heard;
  given = g.given;
  told = sym g.told;
  ends = e;
}

why_over : (s : Asker) (word : KeyWord) (c : ClientFacts) (v : TalkView) (p q : Pass) (h : HasGone s (greeted c s.settings.console_style word) v p q) → IsOver s.settings.max_packet_size c v.client (said_in s h.turns word c v p q h.goes)
why_over s word c v p q h = go h.why
  where
    go : (Leaves s.settings.max_packet_size v.drops v.held × (v.unwritten ≡ [])) ⊎ (IsClientOver c v.client ⊎ (MAX_TURNS ≤ h.turns)) → IsOver s.settings.max_packet_size c v.client (said_in s h.turns word c v p q h.goes)
    go (inl x) = inl (subst (λ (d : Bool). Leaves s.settings.max_packet_size d v.held) h.goes.drops x.0, x.1)
    go (inr (inl o)) = inr (inl o)
    go (inr (inr m)) = inr (inr (omega (arith, m, h.goes.counted, ap (λ (l : List ℕ). length l) h.goes.heard)))

served : (s : Asker) (word : KeyWord) (c : ClientFacts) (v : TalkView) (p q : Pass) (last : Option Refusal) → HasEnded s (greeted c s.settings.console_style word) v p q last → IsServed s word c v.client p q last
served s word c v p q None h = inr (talked s h.turns word c v p q q None h.goes (why_over s word c v p q h, h.goes.pass))
served s word c v p q (Some r) h = inr (talked s 0 word c v p h.at q (Some r) h.goes (h.written, subst (λ (x : Pass). IsRefused s.settings.max_packet_size v.held r x q) h.goes.pass h.refused))

pub served_by : (s : Asker) (style : ConsoleStyle) (word : KeyWord) (c d : ClientFacts) (begun v : TalkView) (p q : Pass) (last : Option Refusal) → style ≡ s.settings.console_style → begun ≡ greeted c style word → d ≡ v.client → HasEnded s begun v p q last → IsServed s word c d p q last
served_by s style word c d begun v p q last i e f h = subst (λ (x : ClientFacts). IsServed s word c x p q last) (sym f) (served s word c v p q last (subst (λ (x : TalkView). HasEnded s x v p q last) (e ∙ ap (λ (x : ConsoleStyle). greeted c x word) i) h))
