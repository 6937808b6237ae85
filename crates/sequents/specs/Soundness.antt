-- What holds of every state that unification comes to: the passed links of a token are those of a proof of their own,
-- which the marks hold, and tokens are as many as axioms less passed tensors and cuts.
use Rattle.std.specs.Prelude.{◌≡◌, ℕ, ◌+◌, ◌⊎◌, List, ◌∷◌, map, length}
use Rattle.graphs.specs.Lists.{In, Apart}
use Rattle.links.specs.declared.link.Link.{Link}
use Rattle.links.specs.declared.link.Link.TheVariants.{Axiom}
use Rattle.links.specs.Links.{link_at, Concludes, Uses, LinkStands}
use Rattle.switchings.specs.Edges.{standing, axioms_of, joins_of}
use Rattle.sequents.specs.Sequents.{Move, link_of, Sequent, Pile, Plays}
use Rattle.sequents.specs.Unification.{State, On, Post}

-- no passed link uses o
abbrev pub Free : List Link → State → ℕ → Type 0
Free ls S o = (n : ℕ) → In n S.passed → Uses (link_at ls n) o → ⊥

-- a passed link whose token is Q concludes o, and no passed link uses o
pub record Open (ls : List Link) (S : State) (Q : ℕ → Type 0) (o : ℕ) : Type 0 where
  pub by : ℕ
  pub concludes : Concludes (link_at ls by) o
  pub has_passed : In by S.passed
  pub with_token : Q (S.marks.token by)
  pub free : Free ls S o

-- the moves name the passed links with a token that is Q, each once, and the sequent is what is open there
pub record Part (ls : List Link) (S : State) (Q : ℕ → Type 0) (ms : List Move) (Γ : Sequent) : Type 0 where
  pub once : Apart (map link_of ms)
  pub names_in : (n : ℕ) → In n (map link_of ms) → In n S.passed × Q (S.marks.token n)
  pub in_names : (n : ℕ) → In n S.passed → Q (S.marks.token n) → In n (map link_of ms)
  pub ends_in : (o : ℕ) → In o Γ → Open ls S Q o
  pub in_ends : (o : ℕ) → Open ls S Q o → In o Γ

-- the token is t, or it is s or t
abbrev pub Is : ℕ → ℕ → Type 0
Is t x = x ≡ t

abbrev pub Either : ℕ → ℕ → ℕ → Type 0
Either s t x = (x ≡ s) ⊎ (x ≡ t)

-- the links of the token t have moves that put one sequent on any pile, and the marks hold them
pub record Cluster (ls : List Link) (S : State) (t : ℕ) : Type 0 where
  pub moves : List Move
  pub ends : Sequent
  pub part : Part ls S (Is t) moves ends
  pub puts : (Γs : Pile) → Plays ls moves Γs (ends ∷ Γs)
  pub written : Post ls S.marks (S.marks.last t) moves

-- all that holds of the state
pub record Sound (ls : List Link) (S : State) : Type 0 where
  pub passed_apart : Apart S.passed
  pub passed_stand : (n : ℕ) → In n S.passed → LinkStands ls n
  pub live_apart : Apart S.live
  pub token_live : (n : ℕ) → In n S.passed → In (S.marks.token n) S.live
  pub axioms_pass : (n p q a : ℕ) → link_at ls n ≡ Axiom p q a → In n S.passed
  -- the premises of a passed link carry its token
  pub above : (n o : ℕ) → In n S.passed → Uses (link_at ls n) o → On ls S o (S.marks.token n)
  pub cluster : (t : ℕ) → In t S.live → Cluster ls S t
  pub total : length S.live + joins_of ls S.passed ≡ axioms_of ls (standing ls)
