-- What an event is to a net: an acceptance, an end, or so many steps. Steps are one for each unrefused reduction, and
-- those that run-downs answer.
use Rattle.std.specs.Prelude.{ℕ, ◌+◌, ◌≢◌, List, [], ◌∷◌}
use Rattle.plain.specs.State.{draft, Ticket}
use Rattle.plain.specs.Calls.{Call, opening, placing_axiom, placing_tensor, placing_par, placing_cut, withdrawing, judging, reopening, reducing, running_down, writing, listing, Outcome, done, refused, Verdict, accepted, cyclic, apart, Answer, Event}

-- `ends` is an unrefused reopening or opening
pub data Turn : Type 0 where
  accepts : Turn
  ends : Turn
  steps : ℕ → Turn

abbrev pub judged : Outcome Verdict (Ticket draft) → Turn
judged (done (accepted k)) = accepts
judged (done (cyclic n k)) = steps 0
judged (done (apart n m k)) = steps 0
judged (refused why k) = steps 0

abbrev pub unless_refused : {A B : Type 0} → (A → Turn) → Outcome A B → Turn
unless_refused turn (done a) = turn a
unless_refused turn (refused why b) = steps 0

abbrev pub turned : {L : Type 0} → (c : Call L) → Answer c → Turn
turned opening a = unless_refused (λ _. ends) a
turned (judging k row) a = judged a.outcome
turned (reopening k) a = unless_refused (λ _. ends) a
turned (reducing k n) a = unless_refused (λ _. steps 1) a
turned (running_down k budget) a = unless_refused (λ ran. steps ran.made) a
turned (placing_axiom k n p q c x) a = steps 0
turned (placing_tensor k n l r o) a = steps 0
turned (placing_par k n l r o) a = steps 0
turned (placing_cut k n l r) a = steps 0
turned (withdrawing k n) a = steps 0
turned (writing k list room) a = steps 0
turned (listing row) a = steps 0

abbrev pub turn : {L : Type 0} → Event L → Turn
turn e = turned e.call e.answer

abbrev pub made_in : Turn → ℕ
made_in accepts = 0
made_in ends = 0
made_in (steps n) = n

-- in these events no reopening and no opening is unrefused, and that many steps are made
pub data Goes {L : Type 0} : List (Event L) → ℕ → Type 0 where
  nothing : Goes [] 0
  further : {e : Event L} {h : List (Event L)} {k : ℕ} → Goes h k → turn e ≢ ends → Goes (e ∷ h) (made_in (turn e) + k)
