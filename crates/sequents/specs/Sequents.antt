-- Proof lists, played on a pile of sequents, and which of them are sequent proofs with a structure as their net.
use Rattle.std.specs.Prelude.{◌≡◌, ℕ, ◌↔◌, List, [], ◌∷◌, ◌++◌, map}
use Rattle.graphs.specs.Lists.{In, Apart}
use Rattle.graphs.specs.Selections.{without}
use Rattle.links.specs.declared.link.Link.{Link}
use Rattle.links.specs.declared.link.Link.TheVariants.{Axiom, Tensor, Par, Cut}
use Rattle.links.specs.declared.rule.Rule.{Rule}
use Rattle.links.specs.declared.rule.Rule.TheVariants as rule
use Rattle.links.specs.Links.{link_at, LinkStands, Conclusion}

-- a move names a rule and a link
pub record Move : Type 0 where
  pub rule : Rule
  pub link : ℕ

abbrev pub link_of : Move → ℕ
link_of m = m.link

-- a sequent is the set of the list's entries; the top of a pile comes first
abbrev pub Sequent : Type 0
Sequent = List ℕ

abbrev pub Pile : Type 0
Pile = List Sequent

-- An axiom puts its two ends on top. A par replaces its premises, both in the top sequent, by its conclusion. A tensor
-- takes the top sequent as right and the next as left, each holding the premise of its side, joins them without the
-- premises and adds its conclusion. A cut does the same and adds nothing.
pub data Does (ls : List Link) : Move → Pile → Pile → Type 0 where
  by_axiom : {n p q a : ℕ} {Γs : Pile} → link_at ls n ≡ Axiom p q a → Does ls (record { rule = rule.Axiom; link = n }) Γs ((p ∷ q ∷ []) ∷ Γs)
  by_par : {n l r c : ℕ} {Γ : Sequent} {Γs : Pile} → link_at ls n ≡ Par l r c → In l Γ → In r Γ → Does ls (record { rule = rule.Par; link = n }) (Γ ∷ Γs) ((c ∷ without r (without l Γ)) ∷ Γs)
  by_tensor : {n l r c : ℕ} {Γ Δ : Sequent} {Γs : Pile} → link_at ls n ≡ Tensor l r c → In l Γ → In r Δ → Does ls (record { rule = rule.Tensor; link = n }) (Δ ∷ Γ ∷ Γs) ((c ∷ without r (without l (Γ ++ Δ))) ∷ Γs)
  by_cut : {n l r : ℕ} {Γ Δ : Sequent} {Γs : Pile} → link_at ls n ≡ Cut l r → In l Γ → In r Δ → Does ls (record { rule = rule.Cut; link = n }) (Δ ∷ Γ ∷ Γs) (without r (without l (Γ ++ Δ)) ∷ Γs)

-- the moves, one after another
pub data Plays (ls : List Link) : List Move → Pile → Pile → Type 0 where
  done : {Γs : Pile} → Plays ls [] Γs Γs
  next : {m : Move} {ms : List Move} {Γs Δs Θs : Pile} → Does ls m Γs Δs → Plays ls ms Δs Θs → Plays ls (m ∷ ms) Γs Θs

-- a sequent proof with the structure as its net: each standing link is named once, with its kind, and the pile ends as
-- one sequent, the conclusions
pub record SequentProof (ls : List Link) (ms : List Move) : Type 0 where
  pub ends : Sequent
  pub plays : Plays ls ms [] (ends ∷ [])
  pub each : (n : ℕ) → LinkStands ls n → In n (map link_of ms)
  pub once : Apart (map link_of ms)
  pub concludes : (o : ℕ) → In o ends ↔ Conclusion ls o

-- some sequent proof has the structure as its net
abbrev pub Provable : List Link → Type 0
Provable ls = (ms : List Move) × SequentProof ls ms
