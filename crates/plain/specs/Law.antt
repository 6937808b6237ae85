-- The law: what holds of every run, however it is parted at one of its events.
-- (a) a judgement accepts exactly what some sequent proof has as its net, and any other verdict shows its switching; a
-- proof writing adds one sequent proof. (b) From an acceptance to the next unrefused reopening or opening the conclusions
-- stay and keep their formulas, the structure stays the net of some proof, and no cut is left exactly when the steps made
-- equal the cost of what was accepted. (c) If no cut is left, each wire's label is that of the chain that it starts there.
use Rattle.std.specs.Prelude.{◌≡◌, ℕ, ◌↔◌, List, ◌∷◌, ◌++◌}
use Rattle.links.specs.declared.link.Link.{Link}
use Rattle.links.specs.declared.link.Link.TheVariants.{Axiom}
use Rattle.links.specs.Links.{link_at, Conclusion, CutFree}
use Rattle.links.specs.Formulas.{Formula, Reads}
use Rattle.switchings.specs.Switchings.{OnCycle, NoWalk}
use Rattle.switchings.specs.Rows.{sides_of}
use Rattle.sequents.specs.Sequents.{Move, SequentProof, Provable}
use Rattle.cuts.specs.Steps.{label}
use Rattle.cuts.specs.Costs.{Cost}
use Rattle.cuts.specs.Chains.{Chain, along}
use Rattle.cuts.specs.Claims.{Assoc}
use Rattle.plain.specs.State.{draft, net, State, new_bench, Ticket}
use Rattle.plain.specs.Calls.{Call, opening, placing_axiom, placing_tensor, placing_par, placing_cut, withdrawing, judging, reopening, reducing, running_down, writing, listing, Outcome, done, refused, Verdict, accepted, cyclic, apart, Answer, Event}
use Rattle.plain.specs.Turns.{accepts, turn, Goes}
use Rattle.plain.specs.Step.{Step, Reaches}

abbrev pub Accepting : Verdict → Type 0
Accepting (accepted k) = Unit
Accepting (cyclic n k) = ⊥
Accepting (apart n m k) = ⊥

-- any other verdict gives a switching with the named cycle or gap
abbrev pub Shown : List Link → List ℕ → Verdict → Type 0
Shown ls row (accepted k) = Unit
Shown ls row (cyclic n k) = OnCycle ls (sides_of row) n
Shown ls row (apart n m k) = NoWalk ls (sides_of row) n m

-- (a) of a judgement that found the links and left the row, and of a proof writing
abbrev pub JudgedRight : List Link → Outcome Verdict (Ticket draft) → List ℕ → Type 0
JudgedRight ls (done v) row = (Accepting v ↔ Provable ls) × Shown ls row v
JudgedRight ls (refused why k) row = Unit

abbrev pub WroteRight : List Link → Outcome Unit Unit → List Move → List Move → Type 0
WroteRight ls (done u) list list' = (proof : List Move) × SequentProof ls proof × (list' ≡ list ++ proof)
WroteRight ls (refused why u) list list' = Unit

abbrev pub Right : {L : Type 0} → List Link → (c : Call L) → Answer c → Type 0
Right ls (judging k row) a = JudgedRight ls a.outcome a.after
Right ls (writing k list room) a = WroteRight ls a.outcome list a.after
Right ls opening a = Unit
Right ls (placing_axiom k n p q c x) a = Unit
Right ls (placing_tensor k n l r o) a = Unit
Right ls (placing_par k n l r o) a = Unit
Right ls (placing_cut k n l r) a = Unit
Right ls (withdrawing k n) a = Unit
Right ls (reopening k) a = Unit
Right ls (reducing k n) a = Unit
Right ls (running_down k budget) a = Unit
Right ls (listing row) a = Unit

-- x is the labels of the chain that wire w starts, composed in chain order
pub record LabelOfChain {L : Type 0} (op : L → L → L) (d : L) (found : State L) (w : ℕ) (x : L) : Type 0 where
  pub wires : List ℕ
  pub chain : Chain found.links w wires
  pub only : (others : List ℕ) → Chain found.links w others → wires ≡ others
  pub same : x ≡ along op d found.board w wires

-- (b) and (c): what the acceptance found, and what stands now, that many steps later
pub record StaysNet {L : Type 0} (op : L → L → L) (found : State L) (made : ℕ) (s : State L) : Type 0 where
  pub conclusions : (o : ℕ) → Conclusion found.links o ↔ Conclusion s.links o
  pub formulas : (o : ℕ) → Conclusion found.links o → (F : Formula) → Reads found.links o F ↔ Reads s.links o F
  pub provable : Provable s.links
  pub cost : ℕ
  pub costs : Cost found.links cost
  pub cut_free : CutFree s.links ↔ (made ≡ cost)
  pub labels : (d : L) → CutFree s.links → (w p q a : ℕ) → link_at s.links w ≡ Axiom p q a → LabelOfChain op d found w (label d s.board w)

-- the run parted at one event: what it found, what it left, and the law there
pub record Moment {L : Type 0} (op : L → L → L) (start : State L) (later : List (Event L)) (e : Event L) (earlier : List (Event L)) (s : State L) : Type 0 where
  pub found : State L
  pub left : State L
  pub came : Reaches op start earlier found
  pub step : Step op e found left
  pub went : Reaches op left later s
  pub right : Right found.links e.call e.answer
  pub stays : (made : ℕ) → turn e ≡ accepts → Goes later made → StaysNet op found made s

-- the law: at every event of the history
abbrev pub Lawful : {L : Type 0} → (L → L → L) → State L → List (Event L) → State L → Type 0
Lawful {L} op start h s = (later : List (Event L)) (e : Event L) (earlier : List (Event L)) → h ≡ later ++ (e ∷ earlier) → Moment op start later e earlier s

-- every run from a new bench with any board
abbrev pub EveryRun : {L : Type 0} → (L → L → L) → Type 0
EveryRun {L} op = (board : List L) (h : List (Event L)) (s : State L) → Reaches op (new_bench board) h s → Lawful op (new_bench board) h s

-- for every kind of label with an associative composition
abbrev pub TheLaw : Type 0 → Type 0
TheLaw L = (op : L → L → L) → Assoc op → EveryRun op

-- whatever came before, with this call the run is still a lawful one
pub record Went {L : Type 0} (op : L → L → L) (start : State L) (h : List (Event L)) (s : State L) : Type 0 where
  pub came : Reaches op start h s
  pub law : Lawful op start h s

abbrev pub Onward : {L : Type 0} → (L → L → L) → Event L → State L → State L → Type 0
Onward {L} op e s t = (board : List L) (h : List (Event L)) → Reaches op (new_bench board) h s → Went op (new_bench board) (e ∷ h) t

-- at stage net there is an acceptance since which no reopening and no opening was unrefused
pub record Since {L : Type 0} (h : List (Event L)) : Type 0 where
  pub later : List (Event L)
  pub acceptance : Event L
  pub earlier : List (Event L)
  pub parted : h ≡ later ++ (acceptance ∷ earlier)
  pub accepting : turn acceptance ≡ accepts
  pub made : ℕ
  pub goes : Goes later made

abbrev pub NetSince : {L : Type 0} → (L → L → L) → Type 0
NetSince {L} op = (board : List L) (h : List (Event L)) (s : State L) → Reaches op (new_bench board) h s → s.stage ≡ net → Since h
