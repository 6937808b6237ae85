-- The outcome of a call is pinned, but for what may differ from one correct program to another: the proof list, the bad
-- sides, the verdict's kind where both are true, and the links that it names.
use Rattle.std.specs.Prelude.{◌≡◌, ℕ, ◌≤◌, ◌≢◌, List, map, length, slice_index}
use Rattle.links.specs.declared.link.Link.{Link}
use Rattle.links.specs.declared.link.Link.TheVariants.{Par}
use Rattle.links.specs.Links.{link_at}
use Rattle.links.specs.Facts.{Within}
use Rattle.switchings.specs.Rows.{entry}
use Rattle.sequents.specs.Sequents.{Move}
use Rattle.plain.specs.State.{draft, State, new_bench, Ticket}
use Rattle.plain.specs.Calls.{Call, opening, placing_axiom, placing_tensor, placing_par, placing_cut, withdrawing, judging, reopening, reducing, running_down, writing, listing, Outcome, done, refused, Verdict, accepted, cyclic, apart, Answer, Event}
use Rattle.plain.specs.Step.{Does, Reaches}

-- two rows agree but for the sides of pars
pub record SameButSides (ls : List Link) (row₁ row₂ : List ℕ) : Type 0 where
  pub long : length row₁ ≡ length row₂
  pub others : (n : ℕ) → Within 256 n → ((l r c : ℕ) → link_at ls n ≢ Par l r c) → entry row₁ n ≡ entry row₂ n
  pub beyond : (i : ℕ) → 256 ≤ i → slice_index row₁ i ≡ slice_index row₂ i

-- two verdicts agree but for kind and links of a bad one, and its sides
abbrev pub SameVerdict : List Link → Verdict → List ℕ → Verdict → List ℕ → Type 0
SameVerdict ls (accepted k₁) row₁ (accepted k₂) row₂ = (k₁ ≡ k₂) × (row₁ ≡ row₂)
SameVerdict ls (accepted k₁) row₁ (cyclic n k₂) row₂ = ⊥
SameVerdict ls (accepted k₁) row₁ (apart n m k₂) row₂ = ⊥
SameVerdict ls (cyclic n k₁) row₁ (accepted k₂) row₂ = ⊥
SameVerdict ls (cyclic n k₁) row₁ (cyclic n₂ k₂) row₂ = (k₁ ≡ k₂) × SameButSides ls row₁ row₂
SameVerdict ls (cyclic n k₁) row₁ (apart n₂ m₂ k₂) row₂ = (k₁ ≡ k₂) × SameButSides ls row₁ row₂
SameVerdict ls (apart n m k₁) row₁ (accepted k₂) row₂ = ⊥
SameVerdict ls (apart n m k₁) row₁ (cyclic n₂ k₂) row₂ = (k₁ ≡ k₂) × SameButSides ls row₁ row₂
SameVerdict ls (apart n m k₁) row₁ (apart n₂ m₂ k₂) row₂ = (k₁ ≡ k₂) × SameButSides ls row₁ row₂

abbrev pub SameJudgement : List Link → Outcome Verdict (Ticket draft) → List ℕ → Outcome Verdict (Ticket draft) → List ℕ → Type 0
SameJudgement ls (done v₁) row₁ (done v₂) row₂ = SameVerdict ls v₁ row₁ v₂ row₂
SameJudgement ls (done v₁) row₁ (refused why k) row₂ = ⊥
SameJudgement ls (refused why k) row₁ (done v₂) row₂ = ⊥
SameJudgement ls (refused why₁ k₁) row₁ (refused why₂ k₂) row₂ = (why₁ ≡ why₂) × (k₁ ≡ k₂) × (row₁ ≡ row₂)

-- the proof list may differ
abbrev pub SameWriting : Outcome Unit Unit → List Move → Outcome Unit Unit → List Move → Type 0
SameWriting (done u) list₁ (done v) list₂ = Unit
SameWriting (done u) list₁ (refused why v) list₂ = ⊥
SameWriting (refused why u) list₁ (done v) list₂ = ⊥
SameWriting (refused why₁ u) list₁ (refused why₂ v) list₂ = (why₁ ≡ why₂) × (list₁ ≡ list₂)

abbrev pub Agree : {L : Type 0} → List Link → (c : Call L) → Answer c → Answer c → Type 0
Agree ls (judging k row) a b = SameJudgement ls a.outcome a.after b.outcome b.after
Agree ls (writing k list room) a b = SameWriting a.outcome a.after b.outcome b.after
Agree ls opening a b = a ≡ b
Agree ls (placing_axiom k n p q c x) a b = a ≡ b
Agree ls (placing_tensor k n l r o) a b = a ≡ b
Agree ls (placing_par k n l r o) a b = a ≡ b
Agree ls (placing_cut k n l r) a b = a ≡ b
Agree ls (withdrawing k n) a b = a ≡ b
Agree ls (reopening k) a b = a ≡ b
Agree ls (reducing k n) a b = a ≡ b
Agree ls (running_down k budget) a b = a ≡ b
Agree ls (listing row) a b = (a.outcome ≡ b.outcome) × (a.after ≡ b.after)

-- from a state that a run reaches, two outcomes of one call agree
abbrev pub Pinned : {L : Type 0} → (L → L → L) → Type 0
Pinned {L} op = (board : List L) (h : List (Event L)) (s : State L) → Reaches op (new_bench board) h s
    → (c : Call L) (a b : Answer c) (t u : State L) → Does op c a s t → Does op c b s u → (t ≡ u) × Agree s.links c a b

-- from a state that a run reaches, every call has an outcome
abbrev pub SomeOutcome : {L : Type 0} → (L → L → L) → Type 0
SomeOutcome {L} op = (board : List L) (h : List (Event L)) (s : State L) → Reaches op (new_bench board) h s
    → (c : Call L) → (a : Answer c) × (t : State L) × Does op c a s t

abbrev pub call_of : {L : Type 0} → Event L → Call L
call_of e = e.call

-- whatever calls are sent to a new bench, newest first here, there is a run of them
abbrev pub EveryList : {L : Type 0} → (L → L → L) → Type 0
EveryList {L} op = (board : List L) (calls : List (Call L)) → (h : List (Event L)) × (s : State L) × Reaches op (new_bench board) h s × (map call_of h ≡ calls)

-- and all runs of these calls end in one state
abbrev pub OneEnd : {L : Type 0} → (L → L → L) → Type 0
OneEnd {L} op = (board : List L) (h g : List (Event L)) (s t : State L) → Reaches op (new_bench board) h s → Reaches op (new_bench board) g t → map call_of h ≡ map call_of g → s ≡ t
