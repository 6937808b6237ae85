-- Every standing occurrence has a formula exactly when no link is above itself: the climb from a conclusion through
-- premises meets no link twice, so it ends. And facts that are only known to be there are there: each is a proposition,
-- or a search over the slots finds it.
use Rattle.std.proofs.Common.{◌≡◌, ℕ, zero, suc, ◌+◌, ◌<◌, ◌≤◌, List, [], ◌∷◌, length, refl, ap, ◌∙◌, subst, inl, inr, ⊎_elim, arith}
use mathlib.Core.Logic.{∥∥₁_elim, ∥∥₁_map}
use mathlib.Core.HLevel.{⊥_prop}
use native.Mathlib.Nat.{ℕ_set}
use Rattle.std.proofs.lemmas.Bool.{cases_lt}
use Rattle.graphs.specs.Lists.{In, Apart}
use Rattle.graphs.specs.Selections.{upto}
use Rattle.graphs.proofs.Members.{not_in_nil, each_cons, in_upto}
use Rattle.graphs.proofs.Counts.{own_each_no_longer}
use Rattle.links.specs.declared.link.Link.{Link}
use Rattle.links.specs.declared.link.Link.TheVariants.{Empty, Axiom, Tensor, Par, Cut}
use Rattle.links.specs.Links.{link_at, Concludes, Uses, Stands}
use Rattle.links.specs.Formulas.{Formula, atom, co_atom, tensor, par, dual_of, Reads}
use Rattle.links.specs.Above.{Above}
use Rattle.links.specs.Above.Above.{direct}
use Rattle.links.specs.Facts.{Within, EndsDiffer, InRange, Facts}
use Rattle.links.specs.Claims.{FormulasExactlyWhenNotAbove, OneFormula, DualOfDual}
use Rattle.links.proofs.Reading.{uses, room, dual_of_dual_lem, one_formula_lem}
use Rattle.links.proofs.Descent.{above_trans, formulas_none_above, facts_of}
use Rattle.links.proofs.Deciding.{Dec, stable, stands, same_formula}

length_upto : (n : ℕ) → length (upto n) ≡ n
length_upto zero = refl
length_upto (suc n) = ap suc (length_upto n)

-- different numbers below n are at most n
below_at_most : (n : ℕ) (xs : List ℕ) → Apart xs → ((x : ℕ) → In x xs → x < n) → length xs ≤ n
below_at_most n xs a h =
    let k = own_each_no_longer (λ x y. y ≡ suc x) xs (upto n) a (λ x i. let l = h x i in (suc x, in_upto (suc x) n (omega arith) (omega arith), refl)) (λ x z y p q. omega arith) in
    let l = length_upto n in
    omega arith

module _ (ls : List Link) (single : (m n o : ℕ) → Concludes (link_at ls m) o → Concludes (link_at ls n) o → m ≡ n) (premises : (n o : ℕ) → Uses (link_at ls n) o → Stands ls o) (none : (n : ℕ) → Above ls n n → ⊥) where
  -- the links seen on the way to the link k, all of which it is above
  record Seen (seen : List ℕ) (k : ℕ) : Type 0 where
    apart : Apart seen
    low : (x : ℕ) → In x seen → x < length ls
    over : (x : ℕ) → In x seen → Above ls k x

  -- one link up
  seen_more : (seen : List ℕ) (k m o : ℕ) → Seen seen k → (link_at ls k ≡ Empty → ⊥) → Uses (link_at ls k) o → Concludes (link_at ls m) o → Seen (k ∷ seen) m
  seen_more seen k m o s some u c = record {
    apart = (λ i. none k (s.over k i), s.apart);
    low = each_cons (λ x. x < length ls) (room ls k some) s.low;
    over = each_cons (λ x. Above ls m x) (direct o u c) (λ x i. above_trans ls single x (direct o u c) (s.over x i));
  }

  -- the formula of what the link k concludes; the fuel is what is left of the links
  climb : (fuel : ℕ) (seen : List ℕ) (k o : ℕ) (z : Link) → Seen seen k → length seen + fuel ≡ suc (length ls) → link_at ls k ≡ z → Concludes z o → (F : Formula) × Reads ls o F
  climb zero seen k o z s e h c = let b = below_at_most (length ls) seen s.apart s.low in absurd (omega arith)
  climb (suc fuel) seen k o Empty s e h c = absurd c
  climb (suc fuel) seen k o (Cut x y) s e h c = absurd c
  climb (suc fuel) seen k o (Axiom p q x) s e h c = ⊎_elim (λ d. (atom x, (k, q, subst (λ (i : ℕ). link_at ls k ≡ Axiom i q x) d h))) (λ d. (co_atom x, (k, p, subst (λ (i : ℕ). link_at ls k ≡ Axiom p i x) d h))) c
  climb (suc fuel) seen k o (Tensor l r t) s e h c =
      let up : (i : ℕ) → Uses (link_at ls k) i → (F : Formula) × Reads ls i F = λ i u.
      let w = premises k i u in
      climb fuel (k ∷ seen) w.0 i (link_at ls w.0) (seen_more seen k w.0 i s (λ q. let z : ◌≡◌ {A = ℕ} 0 1 = cc in omega arith) u w.1) (omega arith) refl w.1 in
      let F = up l (uses l (Tensor l r t) h (inl refl)) in
      let G = up r (uses r (Tensor l r t) h (inr refl)) in
      (tensor F.0 G.0, (k, l, r, subst (λ (i : ℕ). link_at ls k ≡ Tensor l r i) c h, F.1, G.1))
  climb (suc fuel) seen k o (Par l r t) s e h c =
      let up : (i : ℕ) → Uses (link_at ls k) i → (F : Formula) × Reads ls i F = λ i u.
      let w = premises k i u in
      climb fuel (k ∷ seen) w.0 i (link_at ls w.0) (seen_more seen k w.0 i s (λ q. let z : ◌≡◌ {A = ℕ} 0 1 = cc in omega arith) u w.1) (omega arith) refl w.1 in
      let F = up l (uses l (Par l r t) h (inl refl)) in
      let G = up r (uses r (Par l r t) h (inr refl)) in
      (par F.0 G.0, (k, l, r, subst (λ (i : ℕ). link_at ls k ≡ Par l r i) c h, F.1, G.1))

  pub none_above_formulas : (o : ℕ) → Stands ls o → (F : Formula) × Reads ls o F
  none_above_formulas o s = climb (suc (length ls)) [] s.0 o (link_at ls s.0) (record { apart = tt; low = λ x i. absurd (not_in_nil i); over = λ x i. absurd (not_in_nil i) }) (omega arith) refl s.1

pub formulas_exactly_when_not_above_lem : FormulasExactlyWhenNotAbove
formulas_exactly_when_not_above_lem ls single differ premises = (formulas_none_above ls single, none_above_formulas ls single premises)

pub one_formula_each : OneFormula
one_formula_each ls facts o F G f g = one_formula_lem ls facts o F G f g

pub dual_of_dual_same : DualOfDual
dual_of_dual_same F = dual_of_dual_lem F

-- out of the truncation

held : {P : Type 0} → Dec P → ∥ P ∥₁ → P
held d t = stable d (λ n. ∥∥₁_elim t ⊥_prop n)

within_held : {most n : ℕ} → ∥ Within most n ∥₁ → Within most n
within_held {most} {n} t = (held (at_most 1 n) (∥∥₁_map t (λ w. w.0)), held (at_most n most) (∥∥₁_map t (λ w. w.1)))
  where
    at_most : (a b : ℕ) → Dec (a ≤ b)
    at_most a b = ⊎_elim (λ h. inr (λ l. omega arith)) (λ h. inl (omega arith)) (cases_lt b a)

ends_differ_held : (z : Link) → ∥ EndsDiffer z ∥₁ → EndsDiffer z
ends_differ_held Empty t = tt
ends_differ_held (Axiom p q a) t = λ e. ∥∥₁_elim t ⊥_prop (λ d. d e)
ends_differ_held (Tensor l r c) t = λ e. ∥∥₁_elim t ⊥_prop (λ d. d e)
ends_differ_held (Par l r c) t = λ e. ∥∥₁_elim t ⊥_prop (λ d. d e)
ends_differ_held (Cut l r) t = λ e. ∥∥₁_elim t ⊥_prop (λ d. d e)

in_range_held : (n : ℕ) (z : Link) → ∥ InRange n z ∥₁ → InRange n z
in_range_held n Empty t = tt
in_range_held n (Axiom p q a) t = (within_held (∥∥₁_map t (λ w. w.0)), within_held (∥∥₁_map t (λ w. w.1)), within_held (∥∥₁_map t (λ w. w.2)), within_held (∥∥₁_map t (λ w. w.3)))
in_range_held n (Tensor l r c) t = (within_held (∥∥₁_map t (λ w. w.0)), within_held (∥∥₁_map t (λ w. w.1)), within_held (∥∥₁_map t (λ w. w.2)), within_held (∥∥₁_map t (λ w. w.3)))
in_range_held n (Par l r c) t = (within_held (∥∥₁_map t (λ w. w.0)), within_held (∥∥₁_map t (λ w. w.1)), within_held (∥∥₁_map t (λ w. w.2)), within_held (∥∥₁_map t (λ w. w.3)))
in_range_held n (Cut l r) t = (within_held (∥∥₁_map t (λ w. w.0)), within_held (∥∥₁_map t (λ w. w.1)), within_held (∥∥₁_map t (λ w. w.2)))

-- where the facts are merely there, here they are
pub facts_held : (ls : List Link) → ∥ Facts ls ∥₁ → Facts ls
facts_held ls t = facts_of ls (record {
  concluded_once = single;
  used_once = λ m n o a b. ∥∥₁_elim t (ℕ_set m n) (λ f. f.used_once m n o a b);
  ends_differ = λ n. ends_differ_held (link_at ls n) (∥∥₁_map t (λ f. f.ends_differ n));
  premises_stand = premises;
  has_formula = formulas;
  cuts_dual = λ n a b e.
      let F = formulas a (premises n a (uses a (Cut a b) e (inl refl))) in
      let G = formulas b (premises n b (uses b (Cut a b) e (inr refl))) in
      elim (same_formula G.0 (dual_of F.0)) [
        | inl q ↦ (F.0, F.1, subst (λ (H : Formula). Reads ls b H) q G.1)
        | inr nay ↦ absurd (∥∥₁_elim t ⊥_prop (λ f. let d = f.cuts_dual n a b e in nay (one_formula_lem ls f b (dual_of d.0) G.0 d.2 G.1 ∙ ap dual_of (one_formula_lem ls f a F.0 d.0 F.1 d.1))))
      ];
  in_range = λ n. in_range_held n (link_at ls n) (∥∥₁_map t (λ f. f.in_range n));
})
  where
    single : (m n o : ℕ) → Concludes (link_at ls m) o → Concludes (link_at ls n) o → m ≡ n
    single m n o a b = ∥∥₁_elim t (ℕ_set m n) (λ f. f.concluded_once m n o a b)

    premises : (n o : ℕ) → Uses (link_at ls n) o → Stands ls o
    premises n o u = held (stands ls o) (∥∥₁_map t (λ f. f.premises_stand n o u))

    formulas : (o : ℕ) → Stands ls o → (F : Formula) × Reads ls o F
    formulas = none_above_formulas ls single premises (λ n a. ∥∥₁_elim t ⊥_prop (λ f. f.not_above_itself n a))
