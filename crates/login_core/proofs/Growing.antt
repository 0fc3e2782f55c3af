-- A packet that is whole, or faulty, is so whatever follows it.
use Rattle.std.proofs.Common.{◌≡◌, ℕ, ◌+◌, ◌<◌, ◌≤◌, List, [], ◌++◌, length, refl, ap, ◌∙◌, arith}
use Rattle.frame_view.specs.Frames.{Front, AFrame, Lacks, Faulty, front, FirstFront, AFirst, LacksFirst, FaultyFirst, first_front}
use Rattle.frame_view.specs.declared.Side.TheVariants.{Client}
use Rattle.frame_view.specs.Laws.{FirstGrows, FrontGrows, Grows, GrowsFirst}
use Rattle.login_core.specs.Talk.{Cut}
use Rattle.login_core.specs.Talk.Cut.{Whole, Need, Bad}
use Rattle.std.specs.Prelude.{false}
use Rattle.login_core.specs.Dialogue.{Packet, Reason, AtFirst, Asked, of_first, of_front, packet, react, longest_message}
use Rattle.login_core.specs.Laws.{CutGrows, PacketsGrow, Grown, LoginsGrow}
use Rattle.login_core.proofs.Talking.{IsStable, Later, later, later_front, later_passed, later_stopped}

abbrev Cuts : Type 0
Cuts = Cut Packet Reason

more_after : List ℕ → Cuts → Cuts
more_after more (Whole p rest) = Whole p (rest ++ more)
more_after more (Need n) = Need n
more_after more (Bad reason) = Bad reason

rest_in : Cuts → List ℕ
rest_in (Whole p rest) = rest
rest_in (Need n) = []
rest_in (Bad reason) = []

lack_in : Cuts → ℕ
lack_in (Whole p rest) = 0
lack_in (Need n) = n
lack_in (Bad reason) = 0

module _ (more : List ℕ) where
  first_whole : (a b : FirstFront) (here : ℕ) → GrowsFirst a b here more → (p : Packet) (rest : List ℕ) → of_first a ≡ Whole p rest → of_first b ≡ Whole p (rest ++ more)
  unfolding more_after
  first_whole (AFirst q r) b here g p rest e = ap of_first (g.whole q r refl) ∙ ap (more_after more) e
  first_whole (LacksFirst n) b here g p rest e = absurd cc
  first_whole (FaultyFirst f) b here g p rest e = absurd cc

  first_bad : (a b : FirstFront) (here : ℕ) → GrowsFirst a b here more → (reason : Reason) → of_first a ≡ Bad reason → of_first b ≡ Bad reason
  first_bad (AFirst q r) b here g reason e = absurd cc
  first_bad (LacksFirst n) b here g reason e = absurd cc
  first_bad (FaultyFirst f) b here g reason e = ap of_first (g.fault f refl) ∙ e

  first_own : (a b : FirstFront) (here : ℕ) → GrowsFirst a b here more → (n : ℕ) (p : Packet) (rest : List ℕ) → of_first a ≡ Need n → of_first b ≡ Whole p rest → n + length rest ≤ length more
  unfolding lack_in rest_in
  first_own (LacksFirst m) (AFirst q r) here g n p rest e w =
      let h = g.own m q r refl refl in
      let l : m ≡ n = ap lack_in e in
      let k : r ≡ rest = ap rest_in w in
      let j : length r ≡ length rest = ap length k in omega (arith, h, l, j)
  first_own (LacksFirst m) (LacksFirst k) here g n p rest e w = absurd cc
  first_own (LacksFirst m) (FaultyFirst f) here g n p rest e w = absurd cc
  first_own (AFirst q r) b here g n p rest e w = absurd cc
  first_own (FaultyFirst f) b here g n p rest e w = absurd cc

  first_room : (a b : FirstFront) (here : ℕ) → GrowsFirst a b here more → (n : ℕ) → of_first a ≡ Need n → here + n ≤ 10001
  unfolding lack_in
  first_room (LacksFirst m) b here g n e = let h = g.room m refl in let l : m ≡ n = ap lack_in e in omega (arith, h, l)
  first_room (AFirst q r) b here g n e = absurd cc
  first_room (FaultyFirst f) b here g n e = absurd cc

  first_some : (a b : FirstFront) (here : ℕ) → GrowsFirst a b here more → (n : ℕ) → of_first a ≡ Need n → 0 < n
  unfolding lack_in
  first_some (LacksFirst m) b here g n e = let h = g.some m refl in let l : m ≡ n = ap lack_in e in omega (arith, h, l)
  first_some (AFirst q r) b here g n e = absurd cc
  first_some (FaultyFirst f) b here g n e = absurd cc

  first_cuts : (a b : FirstFront) (here : ℕ) → GrowsFirst a b here more → CutGrows (of_first a) (of_first b) here more
  first_cuts a b here g = record { whole = first_whole a b here g; bad = first_bad a b here g; own = first_own a b here g; room = first_room a b here g; some = first_some a b here g }

  front_whole : (a b : Front) (here : ℕ) → Grows longest_message a b here more → (p : Packet) (rest : List ℕ) → of_front a ≡ Whole p rest → of_front b ≡ Whole p (rest ++ more)
  unfolding more_after
  front_whole (AFrame k c r) b here g p rest e = ap of_front (g.whole k c r refl) ∙ ap (more_after more) e
  front_whole (Lacks n) b here g p rest e = absurd cc
  front_whole (Faulty f) b here g p rest e = absurd cc

  front_bad : (a b : Front) (here : ℕ) → Grows longest_message a b here more → (reason : Reason) → of_front a ≡ Bad reason → of_front b ≡ Bad reason
  front_bad (AFrame k c r) b here g reason e = absurd cc
  front_bad (Lacks n) b here g reason e = absurd cc
  front_bad (Faulty f) b here g reason e = ap of_front (g.fault f refl) ∙ e

  front_own : (a b : Front) (here : ℕ) → Grows longest_message a b here more → (n : ℕ) (p : Packet) (rest : List ℕ) → of_front a ≡ Need n → of_front b ≡ Whole p rest → n + length rest ≤ length more
  unfolding lack_in rest_in
  front_own (Lacks m) (AFrame k c r) here g n p rest e w =
      let h = g.own m k c r refl refl in
      let l : m ≡ n = ap lack_in e in
      let i : r ≡ rest = ap rest_in w in
      let j : length r ≡ length rest = ap length i in omega (arith, h, l, j)
  front_own (Lacks m) (Lacks k) here g n p rest e w = absurd cc
  front_own (Lacks m) (Faulty f) here g n p rest e w = absurd cc
  front_own (AFrame k c r) b here g n p rest e w = absurd cc
  front_own (Faulty f) b here g n p rest e w = absurd cc

  front_room : (a b : Front) (here : ℕ) → Grows longest_message a b here more → (n : ℕ) → of_front a ≡ Need n → here + n ≤ 10001
  unfolding lack_in
  front_room (Lacks m) b here g n e = let h = g.room m refl (omega arith) in let l : m ≡ n = ap lack_in e in omega (arith, h, l)
  front_room (AFrame k c r) b here g n e = absurd cc
  front_room (Faulty f) b here g n e = absurd cc

  front_some : (a b : Front) (here : ℕ) → Grows longest_message a b here more → (n : ℕ) → of_front a ≡ Need n → 0 < n
  unfolding lack_in
  front_some (Lacks m) b here g n e = let h = g.some m refl in let l : m ≡ n = ap lack_in e in omega (arith, h, l)
  front_some (AFrame k c r) b here g n e = absurd cc
  front_some (Faulty f) b here g n e = absurd cc

  front_cuts : (a b : Front) (here : ℕ) → Grows longest_message a b here more → CutGrows (of_front a) (of_front b) here more
  front_cuts a b here g = record { whole = front_whole a b here g; bad = front_bad a b here g; own = front_own a b here g; room = front_room a b here g; some = front_some a b here g }

pub packets : FirstGrows → FrontGrows → PacketsGrow
packets first other (AtFirst tls gss) bytes more = first_cuts more (first_front bytes) (first_front (bytes ++ more)) (length bytes) (first bytes more)
packets first other (Asked asking key) bytes more = front_cuts more (front Client longest_message bytes) (front Client longest_message (bytes ++ more)) (length bytes) (other Client longest_message bytes more)

pub are_stable : PacketsGrow → IsStable packet
are_stable grow = record {
  whole = λ s bytes more p rest e. (grow s bytes more).whole p rest e;
  bad = λ s bytes more reason e. (grow s bytes more).bad reason e;
}

grown_later : (more : List ℕ) (a b : _) → Later more a b → Grown a b more
grown_later more a b l = record {
  front = later_front more a b l;
  passed = λ way left e. later_passed more a b way left e l;
  stopped = λ reason e. later_stopped more a b reason e l;
}

pub logins : PacketsGrow → LoginsGrow
logins grow rows word bytes more = grown_later more _ _ (later _ _ _ _ packet (react rows word) (are_stable grow) 5 (AtFirst false false) bytes more)
