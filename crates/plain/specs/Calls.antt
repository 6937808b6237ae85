-- Calls with what they are given, and what they answer. An event is a call with its answer.
use Rattle.std.specs.Prelude.{ℕ, List}
use Rattle.refusals.specs.declared.refusal.Refusal.{Refusal}
use Rattle.sequents.specs.Sequents.{Move}
use Rattle.plain.specs.State.{draft, net, Ticket}

-- n is a link, p q l r o are occurrences, a an atom, x a label; rows and the sink's list are those before the call
pub data Call (L : Type 0) : Type 0 where
  opening : Call L
  placing_axiom : (k : Ticket draft) (n p q a : ℕ) (x : L) → Call L
  placing_tensor : (k : Ticket draft) (n l r o : ℕ) → Call L
  placing_par : (k : Ticket draft) (n l r o : ℕ) → Call L
  placing_cut : (k : Ticket draft) (n l r : ℕ) → Call L
  withdrawing : (k : Ticket draft) (n : ℕ) → Call L
  judging : (k : Ticket draft) (row : List ℕ) → Call L
  reopening : (k : Ticket net) → Call L
  reducing : (k : Ticket net) (n : ℕ) → Call L
  running_down : (k : Ticket net) (budget : ℕ) → Call L
  writing : (k : Ticket net) (list : List Move) (room : ℕ) → Call L
  listing : (row : List ℕ) → Call L

-- an answer, or a refusal with what it hands back
pub data Outcome (A B : Type 0) : Type 0 where
  done : A → Outcome A B
  refused : Refusal → B → Outcome A B

pub data Verdict : Type 0 where
  accepted : Ticket net → Verdict
  cyclic : (n : ℕ) → Ticket draft → Verdict
  apart : (n m : ℕ) → Ticket draft → Verdict

-- what a run-down answers: the steps made and the cuts left
pub record Ran : Type 0 where
  pub made : ℕ
  pub left : ℕ

-- an outcome, and what a row or a sink's list holds after it
pub record Leaves (X Y : Type 0) : Type 0 where
  pub outcome : X
  pub after : Y

abbrev pub Answer : {L : Type 0} → Call L → Type 0
Answer opening = Outcome (Ticket draft) Unit
Answer (placing_axiom k n p q a x) = Outcome Unit Unit
Answer (placing_tensor k n l r o) = Outcome Unit Unit
Answer (placing_par k n l r o) = Outcome Unit Unit
Answer (placing_cut k n l r) = Outcome Unit Unit
Answer (withdrawing k n) = Outcome Unit Unit
Answer (judging k row) = Leaves (Outcome Verdict (Ticket draft)) (List ℕ)
Answer (reopening k) = Outcome (Ticket draft) (Ticket net)
Answer (reducing k n) = Outcome Unit Unit
Answer (running_down k budget) = Outcome Ran Unit
Answer (writing k list room) = Leaves (Outcome Unit Unit) (List Move)
Answer (listing row) = Leaves (Outcome ℕ Unit) (List ℕ)

pub record Event (L : Type 0) : Type 0 where
  pub call : Call L
  pub answer : Answer call
