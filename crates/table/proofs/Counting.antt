-- A count of the links that stand, slot by slot.
use Rattle.std.proofs.Common.{◌≡◌, ℕ, ◌+◌, List, refl, ap, ◌∙◌, add-zero, add-one}
use Rattle.links.specs.declared.link.Link.{Link}
use Rattle.links.specs.declared.link.Link.TheVariants.{Empty, Axiom, Tensor, Par, Cut}
use Rattle.links.specs.Links.{link_at, total, one_if_link}

-- the count of the slots below n + 1, by what stands at n
pub counted_one : (ls : List Link) (n : ℕ) → (link_at ls n ≡ Empty → ⊥) → total (λ k. one_if_link (link_at ls k)) (n + 1) ≡ total (λ k. one_if_link (link_at ls k)) n + 1
counted_one ls n ne = rw (add-one n) (ap (λ (k : ℕ). total (λ j. one_if_link (link_at ls j)) n + k) (one (link_at ls n) ne))
  where
    one : (l : Link) → (l ≡ Empty → ⊥) → one_if_link l ≡ 1
    one Empty h = absurd (h refl)
    one (Axiom p q a) h = refl
    one (Tensor l r c) h = refl
    one (Par l r c) h = refl
    one (Cut l r) h = refl

pub counted_none : (ls : List Link) (n : ℕ) → link_at ls n ≡ Empty → total (λ k. one_if_link (link_at ls k)) (n + 1) ≡ total (λ k. one_if_link (link_at ls k)) n
counted_none ls n e = rw (add-one n) (ap (λ (k : ℕ). total (λ j. one_if_link (link_at ls j)) n + k) (ap one_if_link e) ∙ add-zero (total (λ j. one_if_link (link_at ls j)) n))
