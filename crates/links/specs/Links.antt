-- Links, and lists of links. Slot n of a list holds link n. Links are numbered from 1, so slot 0 stays empty.
-- An occurrence is a number; it stands where a link concludes it.
use Rattle.std.specs.Prelude.{◌≡◌, ℕ, zero, suc, ◌+◌, ◌≢◌, ◌⊎◌, List, length, slice_index_or}
use Rattle.links.specs.declared.link.Link.{Link}
use Rattle.links.specs.declared.link.Link.TheVariants.{Empty, Axiom, Tensor, Par, Cut}

-- what stands at the number n
abbrev pub link_at : List Link → ℕ → Link
link_at ls n = slice_index_or ls n Empty

-- o is a conclusion of the link
abbrev pub Concludes : Link → ℕ → Type 0
Concludes Empty o = ⊥
Concludes (Axiom p q a) o = (p ≡ o) ⊎ (q ≡ o)
Concludes (Tensor l r c) o = c ≡ o
Concludes (Par l r c) o = c ≡ o
Concludes (Cut l r) o = ⊥

-- o is a premise of the link
abbrev pub Uses : Link → ℕ → Type 0
Uses Empty o = ⊥
Uses (Axiom p q a) o = ⊥
Uses (Tensor l r c) o = (l ≡ o) ⊎ (r ≡ o)
Uses (Par l r c) o = (l ≡ o) ⊎ (r ≡ o)
Uses (Cut l r) o = (l ≡ o) ⊎ (r ≡ o)

-- a link stands at the number n
abbrev pub LinkStands : List Link → ℕ → Type 0
LinkStands ls n = link_at ls n ≢ Empty

-- the occurrence o stands: a link concludes it
abbrev pub Stands : List Link → ℕ → Type 0
Stands ls o = (n : ℕ) × Concludes (link_at ls n) o

-- the occurrence o is a premise of some link
abbrev pub Premise : List Link → ℕ → Type 0
Premise ls o = (n : ℕ) × Uses (link_at ls n) o

-- a conclusion of the structure: it stands and is no premise
abbrev pub Conclusion : List Link → ℕ → Type 0
Conclusion ls o = Stands ls o × ((n : ℕ) → Uses (link_at ls n) o → ⊥)

-- no link is a cut
abbrev pub CutFree : List Link → Type 0
CutFree ls = (n a b : ℕ) → link_at ls n ≢ Cut a b

-- w 0 + w 1 + .. + w (n - 1)
abbrev pub total : (ℕ → ℕ) → ℕ → ℕ
total w zero = 0
total w (suc n) = total w n + w n

abbrev pub one_if_link : Link → ℕ
one_if_link Empty = 0
one_if_link (Axiom p q a) = 1
one_if_link (Tensor l r c) = 1
one_if_link (Par l r c) = 1
one_if_link (Cut l r) = 1

abbrev pub one_if_cut : Link → ℕ
one_if_cut Empty = 0
one_if_cut (Axiom p q a) = 0
one_if_cut (Tensor l r c) = 0
one_if_cut (Par l r c) = 0
one_if_cut (Cut l r) = 1

-- how many links stand, and how many of them are cuts
abbrev pub link_count : List Link → ℕ
link_count ls = total (λ n. one_if_link (link_at ls n)) (length ls)

abbrev pub cut_count : List Link → ℕ
cut_count ls = total (λ n. one_if_cut (link_at ls n)) (length ls)
