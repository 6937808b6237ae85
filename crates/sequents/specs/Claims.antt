-- What is proved of sequent proofs and of unification, each named by the contract of a public function.
use Rattle.std.specs.Prelude.{◌≡◌, ℕ, true, ◌≢◌, ◌⊎◌, ◌↔◌, List, [], ◌∷◌, length}
use Rattle.graphs.specs.Lists.{In}
use Rattle.graphs.specs.Selections.{without}
use Rattle.graphs.specs.Walks.{JoinedBy, AcyclicOver}
use Rattle.links.specs.declared.link.Link.{Link}
use Rattle.links.specs.declared.link.Link.TheVariants.{Tensor, Par, Cut}
use Rattle.links.specs.Links.{link_at, Uses, LinkStands, link_count}
use Rattle.links.specs.Facts.{Facts}
use Rattle.switchings.specs.Switchings.{Switching, Kept, Connected, OnCycle, NoWalk, Correct}
use Rattle.switchings.specs.Edges.{is_join, maker, KeptInto}
use Rattle.sequents.specs.Sequents.{Move, SequentProof, Provable}
use Rattle.sequents.specs.Unification.{Marks, State, On, OwnTokens, begun, after, Pass, Stuck, Waits, Avoids, Chosen, Post}
use Rattle.sequents.specs.Soundness.{Sound}

-- Correctness and proofs

-- a structure with the facts is correct exactly when some sequent proof has it as its net
abbrev pub CorrectExactlyWhenProvable : Type 0
CorrectExactlyWhenProvable = (ls : List Link) → Facts ls → Correct ls ↔ Provable ls

-- a sequent proof has as many moves as links stand
abbrev pub ProofIsAsLongAsItsNet : Type 0
ProofIsAsLongAsItsNet = (ls : List Link) (ms : List Move) → SequentProof ls ms → length ms ≡ link_count ls

-- two links that no walk joins, or a link on a cycle
abbrev pub Bad : List Link → Switching → Type 0
Bad ls σ = ((m : ℕ) × (n : ℕ) × NoWalk ls σ m n) ⊎ ((n : ℕ) × OnCycle ls σ n)

-- a structure with the facts and a link has a sequent proof or a bad switching
abbrev pub ProvableOrBad : Type 0
ProvableOrBad = (ls : List Link) → Facts ls → (n : ℕ) → LinkStands ls n → Provable ls ⊎ ((σ : Switching) × Bad ls σ)

-- Steps of unification

-- with each axiom passed and a token of its own the state is sound, whatever else the marks hold
abbrev pub UnificationStarts : Type 0
UnificationStarts = (ls : List Link) (M : Marks) → OwnTokens ls M → Sound ls (begun ls M)

-- a par with one token on both premises passes, and the state stays sound
abbrev pub ParPasses : Type 0
ParPasses = (ls : List Link) → Facts ls → (S : State) → Sound ls S → (n l r c t : ℕ) → link_at ls n ≡ Par l r c → (M : Marks) → Pass ls S n l r t t M → Sound ls (after S n S.live M)

-- a tensor with two different tokens passes: the token of its right premise goes
abbrev pub TensorPasses : Type 0
TensorPasses = (ls : List Link) → Facts ls → (S : State) → Sound ls S → (n l r c s t : ℕ) → link_at ls n ≡ Tensor l r c → s ≢ t → (M : Marks) → Pass ls S n l r s t M → Sound ls (after S n (without t S.live) M)

-- a cut does so as well
abbrev pub CutPasses : Type 0
CutPasses = (ls : List Link) → Facts ls → (S : State) → Sound ls S → (n l r s t : ℕ) → link_at ls n ≡ Cut l r → s ≢ t → (M : Marks) → Pass ls S n l r s t M → Sound ls (after S n (without t S.live) M)

-- passed links with one token are joined by kept occurrences into passed links, whatever the sides
abbrev pub OneTokenIsJoined : Type 0
OneTokenIsJoined = (ls : List Link) → Facts ls → (S : State) → Sound ls S → (σ : Switching) (u v : ℕ) → In u S.passed → In v S.passed → S.marks.token u ≡ S.marks.token v → JoinedBy (KeptInto ls σ S.passed) u v

-- Endings of unification

-- every standing link has passed
abbrev pub AllPassed : List Link → State → Type 0
AllPassed ls S = (n : ℕ) → LinkStands ls n → In n S.passed

-- and just one token is left
abbrev pub Unified : List Link → State → Type 0
Unified ls S = AllPassed ls S × ((t : ℕ) × (S.live ≡ t ∷ []))

-- all passed with one token left: the marks hold a sequent proof below the last link
abbrev pub OneTokenLeftIsAProof : Type 0
OneTokenLeftIsAProof = (ls : List Link) → Facts ls → (S : State) → Sound ls S → AllPassed ls S → (t : ℕ) → S.live ≡ t ∷ [] → (ms : List Move) × SequentProof ls ms × Post ls S.marks (S.marks.last t) ms

-- all passed with two tokens left: apart, whatever the sides
abbrev pub TwoTokensLeftAreApart : Type 0
TwoTokensLeftAreApart = (ls : List Link) → Facts ls → (S : State) → Sound ls S → AllPassed ls S → (s t : ℕ) → In s S.live → In t S.live → s ≢ t → (σ : Switching) → (m : ℕ) × (n : ℕ) × NoWalk ls σ m n

-- one token on both premises of an unpassed tensor or cut: cyclic, whatever the sides
abbrev pub TangledIsCyclic : Type 0
TangledIsCyclic = (ls : List Link) → Facts ls → (S : State) → Sound ls S → (n o q t : ℕ) → (In n S.passed → ⊥) → is_join (link_at ls n) ≡ true → Uses (link_at ls n) o → Uses (link_at ls n) q → o ≢ q → On ls S o t → On ls S q t → (σ : Switching) → OnCycle ls σ (maker ls o)

-- a token on no unpassed tensor or cut: where unpassed pars with it pick their other premise, no walk leads from a link
-- with that token to one without
abbrev pub CutOffIsApart : Type 0
CutOffIsApart = (ls : List Link) → Facts ls → (S : State) → Sound ls S → (t : ℕ) → ((n : ℕ) → Waits ls S t n → ⊥) → (σ : Switching) → Avoids ls S t σ → (u v : ℕ) → In u S.passed → S.marks.token u ≡ t → LinkStands ls v → (In v S.passed → S.marks.token v ≢ t) → NoWalk ls σ u v

-- stuck, and each token is on an unpassed tensor or cut: cyclic, whatever the sides
abbrev pub CrowdedIsCyclic : Type 0
CrowdedIsCyclic = (ls : List Link) → Facts ls → (S : State) → Sound ls S → Stuck ls S → ((t : ℕ) → In t S.live → (n : ℕ) × Waits ls S t n) → (v : ℕ) → LinkStands ls v → (σ : Switching) → (u : ℕ) × OnCycle ls σ u

-- stuck with an unpassed link: the sides chosen are bad
abbrev pub StuckIsBad : Type 0
StuckIsBad = (ls : List Link) → Facts ls → (S : State) → Sound ls S → Stuck ls S → (σ : Switching) → Chosen ls S σ → (w : ℕ) → LinkStands ls w → (In w S.passed → ⊥) → Bad ls σ

-- stuck, and the sides chosen make a tree: all passed with one token left
abbrev pub TreeMeansUnified : Type 0
TreeMeansUnified = (ls : List Link) → Facts ls → (S : State) → Sound ls S → Stuck ls S → (σ : Switching) → Chosen ls S σ → Connected ls σ → AcyclicOver (Kept ls σ) → Unified ls S

-- stuck, and the structure is correct: all passed with one token left
abbrev pub CorrectMeansUnified : Type 0
CorrectMeansUnified = (ls : List Link) → Facts ls → (S : State) → Sound ls S → Stuck ls S → Correct ls → Unified ls S
