-- What the table owes after a step: its slots are as many as before, and the facts are kept.
use Rattle.std.proofs.Common.{◌≡◌, ℕ, ◌<◌, ◌≤◌, List, [], length, set, sym, refl, ap, ◌∙◌, subst, inl, inr, arith, length-set}
use mathlib.Core.HLevel.{×_prop}
use mathlib.Core.Logic.{∥∥₁_map, ∥∥₁_elim}
use native.Mathlib.Bridge.{le_prop}
use Rattle.std.proofs.lemmas.List.{get_or-set_other}
use Rattle.refusals.specs.declared.refusal.Refusal.TheVariants.{TooShort, NoSuchLink, NotACut}
use Rattle.refusals.specs.Reasons.{None, ◌before◌}
use Rattle.refusals.proofs.Refusing.{none_on, none_other, none_before}
use Rattle.links.specs.declared.link.Link.{Link}
use Rattle.links.specs.declared.link.Link.TheVariants.{Empty, Axiom, Tensor, Par, Cut}
use Rattle.links.specs.Links.{link_at}
use Rattle.links.specs.Facts.{Within, InRange, Facts}
use Rattle.links.proofs.Reading.{room}
use Rattle.table.specs.Refusing.{link_number, no_such_cut}
use Rattle.cuts.specs.Steps.{Meets, OfTensorAndPar, parted, OfWires, wired, composed, CutStep}
use Rattle.cuts.specs.Steps.CutStep.{tensor_par, wires}
use Rattle.cuts.specs.Claims.{CutsOneWire}
use Rattle.cuts.proofs.FactsKept.{step_keeps_facts_lem}
use Rattle.reducer.specs.declared.reduction.Reduction.{Reduction}
use Rattle.reducer.specs.declared.reduction.Reduction.TheVariants.{Parted, Joined, SelfCut}
use Rattle.reducer.specs.Reductions.{with_positive, StepOfLinks, OnBoard, Stepped, short_board}
use Rattle.reducer.specs.Reductions.StepOfLinks.{part, join, stuck}

pub holds : (ls : List Link) → length ls ≡ 257 → (k : ℕ) (z : Link) → link_at ls k ≡ z → (z ≡ Empty → ⊥) → k < 257
holds ls long k z e some = let r = room ls k (λ q. some (sym e ∙ q)) in omega arith

pub holds_tensor : (ls : List Link) → length ls ≡ 257 → (k l r c : ℕ) → link_at ls k ≡ Tensor l r c → k < 257
holds_tensor ls long k l r c e = holds ls long k (Tensor l r c) e (λ q. cc)

pub holds_par : (ls : List Link) → length ls ≡ 257 → (k l r c : ℕ) → link_at ls k ≡ Par l r c → k < 257
holds_par ls long k l r c e = holds ls long k (Par l r c) e (λ q. cc)

pub holds_wire : (ls : List Link) → length ls ≡ 257 → (k p q a : ℕ) → link_at ls k ≡ Axiom p q a → k < 257
holds_wire ls long k p q a e = holds ls long k (Axiom p q a) e (λ q. cc)

pub holds_cut : (ls : List Link) → length ls ≡ 257 → (k l r : ℕ) → link_at ls k ≡ Cut l r → k < 257
holds_cut ls long k l r e = holds ls long k (Cut l r) e (λ q. cc)

-- no reason fits a link that is a cut
pub none_against : (ls : List Link) (n l r : ℕ) → link_at ls n ≡ Cut l r → None (link_number n) → None (◌before◌ (link_number n) (no_such_cut ls n))
none_against ls n l r e no_number =
    none_before no_number (none_on NoSuchLink (λ q. cc) (none_on NotACut (λ nay. nay l r e) none_other))

long_after : (ls : List Link) (i j k : ℕ) (x y z : Link) → length ls ≡ 257 → length (set (set (set ls i x) j y) k z) ≡ 257
long_after ls i j k x y z long = length-set (set (set ls i x) j y) k z ∙ length-set (set ls i x) j y ∙ length-set ls i x ∙ long

pub parted_owes : (ls : List Link) (c t p x y l r m s : ℕ) → OfTensorAndPar ls c t p x y l r m s → length ls ≡ 257 → ∥ Facts ls ∥₁ → (length (parted ls c t p l r m s) ≡ 257) × (∥ Facts (parted ls c t p l r m s) ∥₁ × Unit {0})
parted_owes ls c t p x y l r m s h long f =
    let op : ℕ → ℕ → ℕ = λ i j. i in
    (long_after ls c t p Empty (Cut l m) (Cut r s) long, (∥∥₁_map f (λ g. step_keeps_facts_lem ℕ op 0 c ls (parted ls c t p l r m s) [] [] (tensor_par t p x y l r m s h refl refl) g), tt))

-- the first wire's record as it is lent: the cut and the second wire are gone already
pub lent_wire : (ls : List Link) (c f g p q a p₂ q₂ a₂ : ℕ) → OfWires ls c f g p q a p₂ q₂ a₂ → link_at (set (set ls c Empty) g Empty) f ≡ Axiom p q a
lent_wire ls c f g p q a p₂ q₂ a₂ h =
    get_or-set_other (set ls c Empty) g f Empty Empty h.differ ∙ get_or-set_other ls c f Empty Empty (λ e. no_wire h.cut (sym h.first ∙ ap (λ (i : ℕ). link_at ls i) e)) ∙ h.first
  where
    no_wire : Meets (link_at ls c) p q₂ → Axiom p q a ≡ link_at ls c → ⊥
    no_wire (inl k) e = cc
    no_wire (inr k) e = cc

pub extended : (ls : List Link) (c f g p q a p₂ q₂ a₂ : ℕ) → OfWires ls c f g p q a p₂ q₂ a₂ → (wire : Link) → wire ≡ with_positive (link_at (set (set ls c Empty) g Empty) f) p₂ → wire ≡ Axiom p₂ q a
extended ls c f g p q a p₂ q₂ a₂ h wire e = e ∙ ap (λ (z : Link). with_positive z p₂) (lent_wire ls c f g p q a p₂ q₂ a₂ h)

pub wired_owes : (ls : List Link) (c f g p q a p₂ q₂ a₂ : ℕ) → OfWires ls c f g p q a p₂ q₂ a₂ → (wire : Link) → wire ≡ Axiom p₂ q a → length ls ≡ 257 → ∥ Facts ls ∥₁ → (length (set (set (set ls c Empty) g Empty) f wire) ≡ 257) × (∥ Facts (set (set (set ls c Empty) g Empty) f wire) ∥₁ × Unit {0})
wired_owes ls c f g p q a p₂ q₂ a₂ h wire e long facts =
    let op : ℕ → ℕ → ℕ = λ i j. i in
    let after = wired ls c f g q a p₂ in
    (long_after ls c g f Empty Empty wire long, (subst (λ (z : Link). ∥ Facts (set (set (set ls c Empty) g Empty) f z) ∥₁) (sym e) (∥∥₁_map facts (λ k. step_keeps_facts_lem ℕ op 0 c ls after [] (composed op 0 [] f g) (wires f g p q a p₂ q₂ a₂ h refl refl) k)), tt))

-- wires are numbered 1 to 256
pub numbered : (ls : List Link) → ∥ Facts ls ∥₁ → (k p q a : ℕ) → link_at ls k ≡ Axiom p q a → Within 256 k
numbered ls facts k p q a e = ∥∥₁_elim facts (×_prop le_prop le_prop) (λ f. (subst (InRange k) e (f.in_range k)).0)

-- the two wires of a step that joined them
pub record Junction (ls ls' : List Link) (c f g : ℕ) : Type 0 where
  pub p : ℕ
  pub q : ℕ
  pub a : ℕ
  pub p₂ : ℕ
  pub q₂ : ℕ
  pub a₂ : ℕ
  pub wires : OfWires ls c f g p q a p₂ q₂ a₂
  pub after : ls' ≡ wired ls c f g q a p₂

pub junction : {ls ls' : List Link} {c f g : ℕ} → StepOfLinks ls ls' c (Joined f g) → Junction ls ls' c f g
junction (join f g p q a p₂ q₂ a₂ h e) = record { p = p; q = q; a = a; p₂ = p₂; q₂ = q₂; a₂ = a₂; wires = h; after = e }

-- the links' part and the labels' part make a step
pub step_by_parting : {L : Type 0} (op : L → L → L) {ls ls' : List Link} {c : ℕ} (board : List L) → StepOfLinks ls ls' c Parted → (d : L) → CutStep op d c ls board ls' board
step_by_parting op board (part t p x y l r m s h e) d = tensor_par t p x y l r m s h e refl

pub step_by_joining : {L : Type 0} (op : L → L → L) {ls ls' : List Link} {c f g : ℕ} (board board' : List L) → StepOfLinks ls ls' c (Joined f g) → ((d : L) → board' ≡ composed op d board f g) → (d : L) → CutStep op d c ls board ls' board'
step_by_joining op board board' (join f g p q a p₂ q₂ a₂ h e) labels d = wires f g p q a p₂ q₂ a₂ h e (labels d)

pub self_cut : {ls ls' : List Link} {c : ℕ} → StepOfLinks ls ls' c SelfCut → CutsOneWire ls c × (ls' ≡ ls)
self_cut (stuck h e) = (h, e)

-- a step that joined no wires needs nothing of the board
pub step_otherwise : {L : Type 0} (op : L → L → L) {ls ls' : List Link} {c : ℕ} (board : List L) (did : Reduction) → ((f g : ℕ) → did ≡ Joined f g → ⊥) → StepOfLinks ls ls' c did → OnBoard op c ls board ls' board did
step_otherwise op board Parted nay s = step_by_parting op board s
step_otherwise op board (Joined f g) nay s = absurd (nay f g refl)
step_otherwise op board SelfCut nay s = let k = self_cut s in (k.0, k.1, refl)

-- only where a wire is cut against itself is there no step
pub made_step : {L : Type 0} (op : L → L → L) (n : ℕ) (ls : List Link) (board : List L) (ls' : List Link) (board' : List L) (did : Reduction) → (did ≡ SelfCut → ⊥) → Stepped op n ls board ls' board' did → (d : L) → CutStep op d n ls board ls' board'
made_step op n ls board ls' board' Parted nay s = s.1
made_step op n ls board ls' board' (Joined f g) nay s = s.1
made_step op n ls board ls' board' SelfCut nay s = absurd (nay refl)

-- where no reason fits without the board, and it is long enough, none fits
pub none_with_board : {L : Type 0} (ls : List Link) (board : List L) (n : ℕ) → 256 ≤ length board → None (◌before◌ (link_number n) (no_such_cut ls n)) → None (◌before◌ (link_number n) (◌before◌ (short_board board) (no_such_cut ls n)))
none_with_board ls board n long none =
    none_before (λ why f. none why (inl f)) (none_before (none_on TooShort (λ short. omega arith) none_other) (λ why f. none why (inr f)))
