-- What the clients of a play send by its acts.
use Rattle.std.specs.Prelude.{ℕ, suc, List, [], ◌∷◌, ◌++◌, cond, ◌==◌}
use Rattle.act_client.specs.declared.script.Act.{Act}
use Rattle.act_client.specs.declared.script.Act.TheVariants.{Come, Send, Go, Tick, ServersDieAfter}

-- What the client of this number sends by these acts, where it is there: its bytes up to its going, none after that.
abbrev pub sends : ℕ → List Act → List ℕ
sends n [] = []
sends n (Come ∷ acts) = sends n acts
sends n (Send m bytes ∷ acts) = cond (m == n) bytes.now [] ++ sends n acts
sends n (Go m ∷ acts) = cond (m == n) [] (sends n acts)
sends n (Tick now ∷ acts) = sends n acts
sends n (ServersDieAfter count ∷ acts) = sends n acts

-- a client, and all that it sends
pub record Sender : Type 0 where
  pub number : ℕ
  pub bytes : List ℕ

-- the client of this number, by the acts that follow its coming
abbrev pub sender : ℕ → List Act → Sender
sender n acts = record { number = n; bytes = sends n acts }

-- The clients that come by these acts, the first of them with this number. The acts before a client comes are none of its own.
abbrev pub all_send : ℕ → List Act → List Sender
all_send n [] = []
all_send n (Come ∷ acts) = sender n acts ∷ all_send (suc n) acts
all_send n (Send m bytes ∷ acts) = all_send n acts
all_send n (Go m ∷ acts) = all_send n acts
all_send n (Tick now ∷ acts) = all_send n acts
all_send n (ServersDieAfter count ∷ acts) = all_send n acts
