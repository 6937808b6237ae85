-- What one call does on the plain bench, with its answer: the step relation.
-- Each record says one outcome in the subject's words; a refused call leaves all as it found it.
use Rattle.std.specs.Prelude.{◌≡◌, ℕ, ◌+◌, ◌-◌, List, [], ◌∷◌, ◌++◌, slice_set}
use Rattle.refusals.specs.Reasons.{Reasons, None, First}
use Rattle.links.specs.declared.link.Link.{Link}
use Rattle.links.specs.declared.link.Link.TheVariants.{Empty, Axiom, Tensor, Par, Cut}
use Rattle.links.specs.Links.{cut_count}
use Rattle.switchings.specs.Switchings.{OnCycle, NoWalk, Correct}
use Rattle.switchings.specs.Rows.{sides_of, Shows}
use Rattle.sequents.specs.Sequents.{Move, SequentProof}
use Rattle.cuts.specs.Steps.{CutStep}
use Rattle.cuts.specs.Costs.{RunDown}
use Rattle.table.specs.Answers as table
use Rattle.plain.specs.State.{draft, net, State, no_links, Ticket}
use Rattle.plain.specs.Calls.{Call, opening, placing_axiom, placing_tensor, placing_par, placing_cut, withdrawing, judging, reopening, reducing, running_down, writing, listing, Outcome, done, refused, Verdict, accepted, cyclic, apart, Ran, Answer, Event}
use Rattle.plain.specs.Fits.{Fits}

-- the bench is emptied, with the next serial
pub record Opened {L : Type 0} (s t : State L) (gives : Ticket draft) : Type 0 where
  pub after : t ≡ record { links = no_links; serial = s.serial + 1; stage = draft; board = s.board }
  pub ticket : gives.number ≡ t.serial

-- the link stands as number n
pub record Placed {L : Type 0} (n : ℕ) (new : Link) (s t : State L) : Type 0 where
  pub after : t ≡ record { links = slice_set s.links n new; serial = s.serial; stage = s.stage; board = s.board }

-- so does the wire, and board entry n takes the label
pub record PlacedWire {L : Type 0} (n p q a : ℕ) (x : L) (s t : State L) : Type 0 where
  pub after : t ≡ record { links = slice_set s.links n (Axiom p q a); serial = s.serial; stage = s.stage; board = slice_set s.board (n - 1) x }

-- the link goes, with its conclusions
pub record Withdrawn {L : Type 0} (n : ℕ) (s t : State L) : Type 0 where
  pub after : t ≡ record { links = slice_set s.links n Empty; serial = s.serial; stage = s.stage; board = s.board }

-- an acceptance: every switching is connected and free of cycles; the row is left alone
pub record Accepted {L : Type 0} (s t : State L) (gives : Ticket net) (row row' : List ℕ) : Type 0 where
  pub correct : Correct s.links
  pub after : t ≡ record { links = s.links; serial = s.serial; stage = net; board = s.board }
  pub ticket : gives.number ≡ s.serial
  pub row_kept : row' ≡ row

-- the row shows a switching in which link n is on a cycle
pub record Cyclic {L : Type 0} (n : ℕ) (s t : State L) (back : Ticket draft) (row row' : List ℕ) : Type 0 where
  pub sides : Shows s.links row row'
  pub bad : OnCycle s.links (sides_of row') n
  pub after : t ≡ s
  pub ticket : back.number ≡ s.serial

-- the row shows a switching in which no walk joins links n and m
pub record Apart {L : Type 0} (n m : ℕ) (s t : State L) (back : Ticket draft) (row row' : List ℕ) : Type 0 where
  pub sides : Shows s.links row row'
  pub bad : NoWalk s.links (sides_of row') n m
  pub after : t ≡ s
  pub ticket : back.number ≡ s.serial

abbrev pub Judged : {L : Type 0} → State L → State L → List ℕ → List ℕ → Verdict → Type 0
Judged s t row row' (accepted gives) = Accepted s t gives row row'
Judged s t row row' (cyclic n back) = Cyclic n s t back row row'
Judged s t row row' (apart n m back) = Apart n m s t back row row'

-- the net is a draft again, with the same structure
pub record Reopened {L : Type 0} (s t : State L) (gives : Ticket draft) : Type 0 where
  pub after : t ≡ record { links = s.links; serial = s.serial; stage = draft; board = s.board }
  pub ticket : gives.number ≡ s.serial

-- the step of cut n (what is read past a board's end does not matter)
pub record Reduced {L : Type 0} (op : L → L → L) (n : ℕ) (s t : State L) : Type 0 where
  pub step : (d : L) → CutStep op d n s.links s.board t.links t.board
  pub serial : t.serial ≡ s.serial
  pub stage : t.stage ≡ s.stage

-- steps at the lowest-numbered cut, until the budget or the cuts run out
pub record RanDown {L : Type 0} (op : L → L → L) (budget : ℕ) (s t : State L) (ran : Ran) : Type 0 where
  pub steps : (d : L) → RunDown op d budget ran.made s.links s.board t.links t.board
  pub left : ran.left ≡ cut_count t.links
  pub serial : t.serial ≡ s.serial
  pub stage : t.stage ≡ s.stage

-- one sequent proof goes to the list's end
pub record Written {L : Type 0} (s t : State L) (list list' : List Move) : Type 0 where
  pub proof : List Move
  pub proves : SequentProof s.links proof
  pub added : list' ≡ list ++ proof
  pub after : t ≡ s

-- the conclusions, rising, from the start of the row
pub record Listed {L : Type 0} (s t : State L) (row row' : List ℕ) (count : ℕ) : Type 0 where
  pub list : table.Listed s.links row row' count
  pub after : t ≡ s

-- no refusal fits and the call acts, or the first that fits is answered
abbrev pub Says : {A B : Type 0} → Reasons → (A → Type 0) → (B → Type 0) → Outcome A B → Type 0
Says Fit Acts Keeps (done a) = None Fit × Acts a
Says Fit Acts Keeps (refused why b) = First Fit why × Keeps b

-- a refused call leaves all as it found it, and hands a used ticket back
abbrev pub Does : {L : Type 0} → (L → L → L) → (c : Call L) → Answer c → State L → State L → Type 0
Does op opening a s t = Says (Fits opening s) (λ k. Opened s t k) (λ _. t ≡ s) a
Does op (placing_axiom k n p q a x) b s t = Says (Fits (placing_axiom k n p q a x) s) (λ _. PlacedWire n p q a x s t) (λ _. t ≡ s) b
Does op (placing_tensor k n l r o) a s t = Says (Fits (placing_tensor k n l r o) s) (λ _. Placed n (Tensor l r o) s t) (λ _. t ≡ s) a
Does op (placing_par k n l r o) a s t = Says (Fits (placing_par k n l r o) s) (λ _. Placed n (Par l r o) s t) (λ _. t ≡ s) a
Does op (placing_cut k n l r) a s t = Says (Fits (placing_cut k n l r) s) (λ _. Placed n (Cut l r) s t) (λ _. t ≡ s) a
Does op (withdrawing k n) a s t = Says (Fits (withdrawing k n) s) (λ _. Withdrawn n s t) (λ _. t ≡ s) a
Does op (judging k row) a s t = Says (Fits (judging k row) s) (λ v. Judged s t row a.after v) (λ back. (back ≡ k) × (a.after ≡ row) × (t ≡ s)) a.outcome
Does op (reopening k) a s t = Says (Fits (reopening k) s) (λ g. Reopened s t g) (λ back. (back ≡ k) × (t ≡ s)) a
Does op (reducing k n) a s t = Says (Fits (reducing k n) s) (λ _. Reduced op n s t) (λ _. t ≡ s) a
Does op (running_down k budget) a s t = Says (Fits (running_down k budget) s) (λ ran. RanDown op budget s t ran) (λ _. t ≡ s) a
Does op (writing k list room) a s t = Says (Fits (writing k list room) s) (λ _. Written s t list a.after) (λ _. (a.after ≡ list) × (t ≡ s)) a.outcome
Does op (listing row) a s t = Says (Fits (listing row) s) (λ count. Listed s t row a.after count) (λ _. (a.after ≡ row) × (t ≡ s)) a.outcome

-- one step of a run
pub record Step {L : Type 0} (op : L → L → L) (e : Event L) (s t : State L) : Type 0 where
  pub does : Does op e.call e.answer s t

-- the events of a run stand newest first
pub data Reaches {L : Type 0} (op : L → L → L) (start : State L) : List (Event L) → State L → Type 0 where
  begin : Reaches op start [] start
  next : {h : List (Event L)} {s t : State L} (e : Event L) → Reaches op start h s → Step op e s t → Reaches op start (e ∷ h) t
