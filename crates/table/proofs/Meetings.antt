-- What two heads that meet say of duality: the parts' duality makes the whole's, and a dual pair's heads never clash.
use Rattle.std.proofs.Common.{◌≡◌, ℕ, ◌<◌, Bool, true, false, cond, eqb, List, Some, None, Option, sym, refl, ap, ◌∙◌, subst, inl, inr, arith}
use native.Mathlib.Nat.{le-max_left, le-max_right}
use Rattle.std.proofs.lemmas.Bool.{eqb-true, eq-eqb}
use Rattle.links.specs.declared.link.Link.{Link}
use Rattle.links.specs.declared.link.Link.TheVariants as link
use Rattle.links.specs.Links.{link_at, Concludes, Stands}
use Rattle.links.specs.Formulas.{Formula, atom, co_atom, tensor, par, dual_of, Reads, Dual}
use Rattle.links.specs.Facts.{Facts}
use Rattle.links.proofs.Reading.{concl, two_ends}
use Rattle.table.specs.declared.duals.Head.{Head}
use Rattle.table.specs.declared.duals.Head.TheVariants.{Atom, CoAtom, Tensor, Par}
use Rattle.table.specs.declared.duals.Meeting.{Meeting}
use Rattle.table.specs.declared.duals.Meeting.TheVariants.{Clash, Match, Parts}
use Rattle.table.specs.Duality.{HeadIs, meeting_of, height}

-- what a meeting makes of the parts' duality
abbrev pub Made : List Link → ℕ → ℕ → Meeting → Type 0
Made ls a b Clash = Unit {0}
Made ls a b Match = Dual ls a b
Made ls a b (Parts l m r s) = Dual ls l m → Dual ls r s → Dual ls a b

by_test : (ls : List Link) (a b : ℕ) (t : Bool) → (t ≡ true → Dual ls a b) → Made ls a b (cond t Match Clash)
by_test ls a b true h = h refl
by_test ls a b false h = tt

made : (ls : List Link) (a b : ℕ) (h k : Head) → HeadIs ls a (Some h) → HeadIs ls b (Some k) → Made ls a b (meeting_of h k)
made ls a b (Atom x) (Atom y) f g = tt
made ls a b (Atom x) (CoAtom y) f g = by_test ls a b (eqb x y) (λ e. (atom x, f, subst (λ (z : ℕ). HeadIs ls b (Some (CoAtom z))) (sym (eqb-true x y e)) g))
made ls a b (Atom x) (Tensor m s) f g = tt
made ls a b (Atom x) (Par m s) f g = tt
made ls a b (CoAtom x) (Atom y) f g = by_test ls a b (eqb x y) (λ e. (co_atom x, f, subst (λ (z : ℕ). HeadIs ls b (Some (Atom z))) (sym (eqb-true x y e)) g))
made ls a b (CoAtom x) (CoAtom y) f g = tt
made ls a b (CoAtom x) (Tensor m s) f g = tt
made ls a b (CoAtom x) (Par m s) f g = tt
made ls a b (Tensor l r) (Atom y) f g = tt
made ls a b (Tensor l r) (CoAtom y) f g = tt
made ls a b (Tensor l r) (Tensor m s) f g = tt
made ls a b (Tensor l r) (Par m s) f g = λ p q. (tensor p.0 q.0, (f.0, l, r, f.1, p.1, q.1), (g.0, m, s, g.1, p.2, q.2))
made ls a b (Par l r) (Atom y) f g = tt
made ls a b (Par l r) (CoAtom y) f g = tt
made ls a b (Par l r) (Tensor m s) f g = λ p q. (par p.0 q.0, (f.0, l, r, f.1, p.1, q.1), (g.0, m, s, g.1, p.2, q.2))
made ls a b (Par l r) (Par m s) f g = tt

pub made_at : (ls : List Link) (a b : ℕ) (h k : Head) → HeadIs ls a (Some h) → HeadIs ls b (Some k) → (v : Meeting) → v ≡ meeting_of h k → Made ls a b v
made_at ls a b h k f g v e = subst (Made ls a b) (sym e) (made ls a b h k f g)

-- the head of a formula that is read at an occurrence
abbrev head_read : (ls : List Link) (o : ℕ) (F : Formula) → Reads ls o F → Head
head_read ls o (atom x) rd = Atom x
head_read ls o (co_atom x) rd = CoAtom x
head_read ls o (tensor A B) rd = Tensor rd.1 rd.2
head_read ls o (par A B) rd = Par rd.1 rd.2

-- the link that concludes the occurrence, as it is read
abbrev link_read : (ls : List Link) (o : ℕ) (F : Formula) → Reads ls o F → Link
link_read ls o (atom x) rd = link.Axiom o rd.1 x
link_read ls o (co_atom x) rd = link.Axiom rd.1 o x
link_read ls o (tensor A B) rd = link.Tensor rd.1 rd.2 o
link_read ls o (par A B) rd = link.Par rd.1 rd.2 o

link_concludes : (ls : List Link) (o : ℕ) (F : Formula) (rd : Reads ls o F) → (n : ℕ) × (link_at ls n ≡ link_read ls o F rd) × Concludes (link_read ls o F rd) o
link_concludes ls o (atom x) rd = (rd.0, rd.2, inl refl)
link_concludes ls o (co_atom x) rd = (rd.0, rd.2, inr refl)
link_concludes ls o (tensor A B) rd = (rd.0, rd.3, refl)
link_concludes ls o (par A B) rd = (rd.0, rd.3, refl)

pub stands_read : (ls : List Link) (o : ℕ) (F : Formula) → Reads ls o F → Stands ls o
stands_read ls o F rd = let k = link_concludes ls o F rd in (k.0, concl o (link_read ls o F rd) k.1 k.2)

module _ (ls : List Link) (f : Facts ls) (o : ℕ) where
  same : (F : Formula) (rd : Reads ls o F) (n : ℕ) (l : Link) → link_at ls n ≡ l → Concludes l o → l ≡ link_read ls o F rd
  same F rd n l e c =
      let k = link_concludes ls o F rd in
      sym e ∙ ap (λ (m : ℕ). link_at ls m) (f.concluded_once n k.0 o (concl o l e c) (concl o (link_read ls o F rd) k.1 k.2)) ∙ k.1

  -- an occurrence has one head
  one_head : (F : Formula) (rd : Reads ls o F) (h : Option Head) → HeadIs ls o h → h ≡ Some (head_read ls o F rd)
  one_head F rd None g = let k = link_concludes ls o F rd in absurd (g (k.0, concl o (link_read ls o F rd) k.1 k.2))
  one_head (atom x) rd (Some (Atom y)) g = let e = same (atom x) rd g.0 (link.Axiom o g.1 y) g.2 (inl refl) in cc
  one_head (atom x) rd (Some (CoAtom y)) g = let e = same (atom x) rd g.0 (link.Axiom g.1 o y) g.2 (inr refl) in let q : g.1 ≡ o = cc in absurd (two_ends ls f g.0 g.1 o y g.2 q)
  one_head (atom x) rd (Some (Tensor l r)) g = let e = same (atom x) rd g.0 (link.Tensor l r o) g.1 refl in cc
  one_head (atom x) rd (Some (Par l r)) g = let e = same (atom x) rd g.0 (link.Par l r o) g.1 refl in cc
  one_head (co_atom x) rd (Some (Atom y)) g = let e = same (co_atom x) rd g.0 (link.Axiom o g.1 y) g.2 (inl refl) in let q : o ≡ g.1 = cc in absurd (two_ends ls f g.0 o g.1 y g.2 q)
  one_head (co_atom x) rd (Some (CoAtom y)) g = let e = same (co_atom x) rd g.0 (link.Axiom g.1 o y) g.2 (inr refl) in cc
  one_head (co_atom x) rd (Some (Tensor l r)) g = let e = same (co_atom x) rd g.0 (link.Tensor l r o) g.1 refl in cc
  one_head (co_atom x) rd (Some (Par l r)) g = let e = same (co_atom x) rd g.0 (link.Par l r o) g.1 refl in cc
  one_head (tensor A B) rd (Some (Atom y)) g = let e = same (tensor A B) rd g.0 (link.Axiom o g.1 y) g.2 (inl refl) in cc
  one_head (tensor A B) rd (Some (CoAtom y)) g = let e = same (tensor A B) rd g.0 (link.Axiom g.1 o y) g.2 (inr refl) in cc
  one_head (tensor A B) rd (Some (Tensor l r)) g = let e = same (tensor A B) rd g.0 (link.Tensor l r o) g.1 refl in cc
  one_head (tensor A B) rd (Some (Par l r)) g = let e = same (tensor A B) rd g.0 (link.Par l r o) g.1 refl in cc
  one_head (par A B) rd (Some (Atom y)) g = let e = same (par A B) rd g.0 (link.Axiom o g.1 y) g.2 (inl refl) in cc
  one_head (par A B) rd (Some (CoAtom y)) g = let e = same (par A B) rd g.0 (link.Axiom g.1 o y) g.2 (inr refl) in cc
  one_head (par A B) rd (Some (Tensor l r)) g = let e = same (par A B) rd g.0 (link.Tensor l r o) g.1 refl in cc
  one_head (par A B) rd (Some (Par l r)) g = let e = same (par A B) rd g.0 (link.Par l r o) g.1 refl in cc

-- the parts of a dual pair are dual pairs, and lower
pub record Halves (ls : List Link) (F : Formula) (l m r s : ℕ) : Type 0 where
  pub A : Formula
  pub B : Formula
  pub at_l : Reads ls l A
  pub at_m : Reads ls m (dual_of A)
  pub at_r : Reads ls r B
  pub at_s : Reads ls s (dual_of B)
  pub left_lower : height A < height F
  pub right_lower : height B < height F

-- what the meeting of a dual pair is
abbrev pub Told : List Link → Formula → Meeting → Type 0
Told ls F Clash = ⊥
Told ls F Match = Unit {0}
Told ls F (Parts l m r s) = Halves ls F l m r s

told_match : (ls : List Link) (F : Formula) (t : Bool) → t ≡ true → Told ls F (cond t Match Clash)
told_match ls F true e = tt
told_match ls F false e = cc

told : (ls : List Link) (a b : ℕ) (F : Formula) (ra : Reads ls a F) (rb : Reads ls b (dual_of F)) → Told ls F (meeting_of (head_read ls a F ra) (head_read ls b (dual_of F) rb))
told ls a b (atom x) ra rb = told_match ls (atom x) (eqb x x) (eq-eqb x x refl)
told ls a b (co_atom x) ra rb = told_match ls (co_atom x) (eqb x x) (eq-eqb x x refl)
told ls a b (tensor A B) ra rb = record { A = A; B = B; at_l = ra.4; at_m = rb.4; at_r = ra.5; at_s = rb.5; left_lower = omega (arith, le-max_left (height A) (height B)); right_lower = omega (arith, le-max_right (height A) (height B)) }
told ls a b (par A B) ra rb = record { A = A; B = B; at_l = ra.4; at_m = rb.4; at_r = ra.5; at_s = rb.5; left_lower = omega (arith, le-max_left (height A) (height B)); right_lower = omega (arith, le-max_right (height A) (height B)) }

module _ (ls : List Link) (f : Facts ls) (a b : ℕ) (F : Formula) (ra : Reads ls a F) (rb : Reads ls b (dual_of F)) where
  pub told_at : (h k : Head) → HeadIs ls a (Some h) → HeadIs ls b (Some k) → (v : Meeting) → v ≡ meeting_of h k → Told ls F v
  told_at h k ha kb v e =
      let eh = one_head ls f a F ra (Some h) ha in
      let ek = one_head ls f b (dual_of F) rb (Some k) kb in
      let q : v ≡ meeting_of (head_read ls a F ra) (head_read ls b (dual_of F) rb) = cc in
      subst (Told ls F) (sym q) (told ls a b F ra rb)
