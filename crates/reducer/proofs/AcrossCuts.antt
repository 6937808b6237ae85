-- What faces what across a cut: by duality a tensor a par, a par a tensor, and a wire's end the opposite end of a wire.
use Rattle.std.proofs.Common.{◌≡◌, ℕ, ◌≢◌, ◌⊎◌, List, sym, refl, ap, ◌∙◌, subst, inl, inr}
use mathlib.Core.HLevel.{⊥_prop}
use mathlib.Core.Logic.{∥∥₁_elim}
use Rattle.links.specs.declared.link.Link.{Link}
use Rattle.links.specs.declared.link.Link.TheVariants.{Empty, Axiom, Tensor, Par, Cut}
use Rattle.links.specs.Links.{link_at, Concludes, Uses, Stands}
use Rattle.links.specs.Formulas.{Formula, atom, co_atom, tensor, par, dual_of, Reads}
use Rattle.links.specs.Facts.{EndsDiffer, Facts}
use Rattle.links.proofs.Reading.{uses, top_tensor, top_par, top_pos, top_neg}
use Rattle.cuts.specs.Steps.{OfWires}
use Rattle.cuts.specs.Claims.{CutsOneWire}

-- the head sign of a formula, to tell formulas apart
data Sign : Type 0 where
  positive : Sign
  negative : Sign
  times : Sign
  plus : Sign

abbrev sign : Formula → Sign
sign (atom x) = positive
sign (co_atom x) = negative
sign (tensor A B) = times
sign (par A B) = plus

abbrev opposite : Sign → Sign
opposite positive = negative
opposite negative = positive
opposite times = plus
opposite plus = times

dual_sign : (F : Formula) → sign (dual_of F) ≡ opposite (sign F)
dual_sign (atom x) = refl
dual_sign (co_atom x) = refl
dual_sign (tensor A B) = refl
dual_sign (par A B) = refl

-- the sign of what a link concludes at o
abbrev signed : (k : Link) (o : ℕ) → Concludes k o → Sign
signed Empty o h = absurd h
signed (Axiom p q a) o (inl h) = positive
signed (Axiom p q a) o (inr h) = negative
signed (Tensor l r z) o h = times
signed (Par l r z) o h = plus
signed (Cut a b) o h = absurd h

-- what is read at a number concludes what the link there does
pub as_read : (ls : List Link) (m o : ℕ) (k : Link) → k ≡ link_at ls m → Concludes (link_at ls m) o → Concludes k o
as_read ls m o k e h = subst (λ (z : Link). Concludes z o) (sym e) h

-- only a wire, a tensor or a par concludes
pub concluding : (k : Link) (o : ℕ) → Concludes k o → ((p q a : ℕ) → k ≡ Axiom p q a → ⊥) → ((l r c : ℕ) → k ≡ Tensor l r c → ⊥) → ((l r c : ℕ) → k ≡ Par l r c → ⊥) → ⊥
concluding Empty o h wire both either = h
concluding (Axiom p q a) o h wire both either = wire p q a refl
concluding (Tensor l r c) o h wire both either = both l r c refl
concluding (Par l r c) o h wire both either = either l r c refl
concluding (Cut a b) o h wire both either = h

module _ (ls : List Link) (facts : ∥ Facts ls ∥₁) (c left right : ℕ) (e : link_at ls c ≡ Cut left right) where
  cut_left : Uses (link_at ls c) left
  cut_left = uses left (Cut left right) e (inl refl)

  cut_right : Uses (link_at ls c) right
  cut_right = uses right (Cut left right) e (inr refl)

  pub left_stands : (Stands ls left → ⊥) → ⊥
  left_stands none = ∥∥₁_elim facts ⊥_prop (λ f. none (f.premises_stand c left cut_left))

  pub right_stands : (Stands ls right → ⊥) → ⊥
  right_stands none = ∥∥₁_elim facts ⊥_prop (λ f. none (f.premises_stand c right cut_right))

  differ : left ≡ right → ⊥
  differ q = ∥∥₁_elim facts ⊥_prop (λ f. subst EndsDiffer e (f.ends_differ c) q)

  read_sign : Facts ls → (m o : ℕ) (k : Link) (F : Formula) → link_at ls m ≡ k → (h : Concludes k o) → Reads ls o F → sign F ≡ signed k o h
  read_sign f m o Empty F em h rd = absurd h
  read_sign f m o (Axiom p q a) F em (inl h) rd = ap sign (top_pos ls f m p q a F em (subst (λ (i : ℕ). Reads ls i F) (sym h) rd))
  read_sign f m o (Axiom p q a) F em (inr h) rd = ap sign (top_neg ls f m p q a F em (subst (λ (i : ℕ). Reads ls i F) (sym h) rd))
  read_sign f m o (Tensor l r z) F em h rd = ap sign (top_tensor ls f m l r z F em (subst (λ (i : ℕ). Reads ls i F) (sym h) rd)).2
  read_sign f m o (Par l r z) F em h rd = ap sign (top_par ls f m l r z F em (subst (λ (i : ℕ). Reads ls i F) (sym h) rd)).2
  read_sign f m o (Cut a b) F em h rd = absurd h

  -- what faces a link across the cut has the opposite sign
  faces : (m n : ℕ) (k l : Link) → link_at ls m ≡ k → link_at ls n ≡ l → (h : Concludes k left) (g : Concludes l right) → (signed l right g ≡ opposite (signed k left h) → ⊥) → ⊥
  faces m n k l ek el h g nay =
      ∥∥₁_elim facts ⊥_prop (λ f.
      let d = f.cuts_dual c left right e in
      let a = read_sign f m left k d.0 ek h d.1 in
      let b = read_sign f n right l (dual_of d.0) el g d.2 in
      nay (sym b ∙ dual_sign d.0 ∙ ap opposite a))

  -- a tensor faces a par, a par a tensor, a wire a wire
  pub tensor_faces_par : (m n l r z : ℕ) (k : Link) → link_at ls m ≡ Tensor l r z → z ≡ left → link_at ls n ≡ k → Concludes k right → ((a b y : ℕ) → k ≡ Par a b y → ⊥) → ⊥
  tensor_faces_par m n l r z Empty em h en g nay = g
  tensor_faces_par m n l r z (Axiom p q a) em h en (inl g) nay = faces m n (Tensor l r z) (Axiom p q a) em en h (inl g) (λ e. cc)
  tensor_faces_par m n l r z (Axiom p q a) em h en (inr g) nay = faces m n (Tensor l r z) (Axiom p q a) em en h (inr g) (λ e. cc)
  tensor_faces_par m n l r z (Tensor a b y) em h en g nay = faces m n (Tensor l r z) (Tensor a b y) em en h g (λ e. cc)
  tensor_faces_par m n l r z (Par a b y) em h en g nay = nay a b y refl
  tensor_faces_par m n l r z (Cut a b) em h en g nay = g

  pub par_faces_tensor : (m n l r z : ℕ) (k : Link) → link_at ls m ≡ Par l r z → z ≡ left → link_at ls n ≡ k → Concludes k right → ((a b y : ℕ) → k ≡ Tensor a b y → ⊥) → ⊥
  par_faces_tensor m n l r z Empty em h en g nay = g
  par_faces_tensor m n l r z (Axiom p q a) em h en (inl g) nay = faces m n (Par l r z) (Axiom p q a) em en h (inl g) (λ e. cc)
  par_faces_tensor m n l r z (Axiom p q a) em h en (inr g) nay = faces m n (Par l r z) (Axiom p q a) em en h (inr g) (λ e. cc)
  par_faces_tensor m n l r z (Tensor a b y) em h en g nay = nay a b y refl
  par_faces_tensor m n l r z (Par a b y) em h en g nay = faces m n (Par l r z) (Par a b y) em en h g (λ e. cc)
  par_faces_tensor m n l r z (Cut a b) em h en g nay = g

  pub wire_faces_wire : (m n p q a : ℕ) (k : Link) → link_at ls m ≡ Axiom p q a → (p ≡ left) ⊎ (q ≡ left) → link_at ls n ≡ k → Concludes k right → ((u v y : ℕ) → k ≡ Axiom u v y → ⊥) → ⊥
  wire_faces_wire m n p q a Empty em h en g nay = g
  wire_faces_wire m n p q a (Axiom u v y) em h en g nay = nay u v y refl
  wire_faces_wire m n p q a (Tensor u v y) em (inl h) en g nay = faces m n (Axiom p q a) (Tensor u v y) em en (inl h) g (λ e. cc)
  wire_faces_wire m n p q a (Tensor u v y) em (inr h) en g nay = faces m n (Axiom p q a) (Tensor u v y) em en (inr h) g (λ e. cc)
  wire_faces_wire m n p q a (Par u v y) em (inl h) en g nay = faces m n (Axiom p q a) (Par u v y) em en (inl h) g (λ e. cc)
  wire_faces_wire m n p q a (Par u v y) em (inr h) en g nay = faces m n (Axiom p q a) (Par u v y) em en (inr h) g (λ e. cc)
  wire_faces_wire m n p q a (Cut a' b) em h en g nay = g

  -- both premises are ends of one wire
  pub one_wire : (m p q a : ℕ) → link_at ls m ≡ Axiom p q a → (p ≡ left) ⊎ (q ≡ left) → (p ≡ right) ⊎ (q ≡ right) → CutsOneWire ls c
  one_wire m p q a em (inl h) (inl k) = absurd (differ (sym h ∙ k))
  one_wire m p q a em (inl h) (inr k) = (m, p, q, a, em, inl (e ∙ ap (λ (i : ℕ). Cut i right) (sym h) ∙ ap (λ (i : ℕ). Cut p i) (sym k)))
  one_wire m p q a em (inr h) (inl k) = (m, p, q, a, em, inr (e ∙ ap (λ (i : ℕ). Cut i right) (sym h) ∙ ap (λ (i : ℕ). Cut q i) (sym k)))
  one_wire m p q a em (inr h) (inr k) = absurd (differ (sym h ∙ k))

  -- the positive end of m is cut, so the negative end of n is
  pub first_then_second : (m n p q a p₂ q₂ a₂ : ℕ) → link_at ls m ≡ Axiom p q a → link_at ls n ≡ Axiom p₂ q₂ a₂ → m ≢ n → p ≡ left → (p₂ ≡ right) ⊎ (q₂ ≡ right) → OfWires ls c m n p q a p₂ q₂ a₂
  first_then_second m n p q a p₂ q₂ a₂ em en ne h (inl k) = absurd (faces m n (Axiom p q a) (Axiom p₂ q₂ a₂) em en (inl h) (inl k) (λ e. cc))
  first_then_second m n p q a p₂ q₂ a₂ em en ne h (inr k) = record { cut = inl (e ∙ ap (λ (i : ℕ). Cut i right) (sym h) ∙ ap (λ (i : ℕ). Cut p i) (sym k)); first = em; second = en; differ = ne }

  -- the negative end of m is cut, so the positive end of n is
  pub second_then_first : (m n p q a p₂ q₂ a₂ : ℕ) → link_at ls m ≡ Axiom p q a → link_at ls n ≡ Axiom p₂ q₂ a₂ → m ≢ n → q ≡ left → (p₂ ≡ right) ⊎ (q₂ ≡ right) → OfWires ls c n m p₂ q₂ a₂ p q a
  second_then_first m n p q a p₂ q₂ a₂ em en ne h (inr k) = absurd (faces m n (Axiom p q a) (Axiom p₂ q₂ a₂) em en (inr h) (inr k) (λ e. cc))
  second_then_first m n p q a p₂ q₂ a₂ em en ne h (inl k) = record { cut = inr (e ∙ ap (λ (i : ℕ). Cut i right) (sym h) ∙ ap (λ (i : ℕ). Cut q i) (sym k)); first = en; second = em; differ = λ z. ne (sym z) }
