-- The occurrences of one link: what it uses, concludes and keeps, as lists and as predicates, and what kind it is.
-- Assumes nothing.
use Rattle.std.proofs.Common.{◌≡◌, ℕ, ◌+◌, true, false, cond, ◌≢◌, ◌⊎◌, [], ◌∷◌, length, sym, refl, subst, inl, inr, ⊎_elim, arith}
use Rattle.std.proofs.lemmas.Bool.{both_ways}
use Rattle.graphs.specs.Lists.{In, Apart}
use Rattle.graphs.specs.Lists.In.{here, there}
use Rattle.graphs.proofs.Members.{not_in_nil, in_one, in_two, apart_one, apart_two}
use Rattle.links.specs.declared.link.Link.{Link}
use Rattle.links.specs.declared.link.Link.TheVariants.{Empty, Axiom, Tensor, Par, Cut}
use Rattle.links.specs.Links.{Concludes, Uses, one_if_link}
use Rattle.links.specs.Facts.{EndsDiffer}
use Rattle.switchings.specs.Switchings.{Side, pick, Keeps}
use Rattle.switchings.specs.Switchings.Side.{left, right}
use Rattle.switchings.specs.Edges.{premises, conclusions, kept, lines, is_link, is_axiom_lem, is_join}

-- one of two, as a list and as a choice

one_of_two : {o l r : ℕ} → (l ≡ o) ⊎ (r ≡ o) → In o (l ∷ r ∷ [])
one_of_two (inl e) = here (sym e)
one_of_two (inr e) = there (here (sym e))

two_of_one : {o l r : ℕ} → In o (l ∷ r ∷ []) → (l ≡ o) ⊎ (r ≡ o)
two_of_one i = ⊎_elim (λ e. inl (sym e)) (λ e. inr (sym e)) (in_two i)

-- each list holds just what its predicate says

pub uses_listed : (z : Link) {o : ℕ} → Uses z o → In o (premises z)
uses_listed Empty u = absurd u
uses_listed (Axiom p q a) u = absurd u
uses_listed (Tensor l r c) u = one_of_two u
uses_listed (Par l r c) u = one_of_two u
uses_listed (Cut l r) u = one_of_two u

pub listed_uses : (z : Link) {o : ℕ} → In o (premises z) → Uses z o
listed_uses Empty i = absurd (not_in_nil i)
listed_uses (Axiom p q a) i = absurd (not_in_nil i)
listed_uses (Tensor l r c) i = two_of_one i
listed_uses (Par l r c) i = two_of_one i
listed_uses (Cut l r) i = two_of_one i

pub concludes_listed : (z : Link) {o : ℕ} → Concludes z o → In o (conclusions z)
concludes_listed Empty c = absurd c
concludes_listed (Axiom p q a) c = one_of_two c
concludes_listed (Tensor l r x) c = here (sym c)
concludes_listed (Par l r x) c = here (sym c)
concludes_listed (Cut l r) c = absurd c

pub listed_concludes : (z : Link) {o : ℕ} → In o (conclusions z) → Concludes z o
listed_concludes Empty i = absurd (not_in_nil i)
listed_concludes (Axiom p q a) i = two_of_one i
listed_concludes (Tensor l r c) i = sym (in_one i)
listed_concludes (Par l r c) i = sym (in_one i)
listed_concludes (Cut l r) i = absurd (not_in_nil i)

pub keeps_listed : (s : Side) (z : Link) {o : ℕ} → Keeps s z o → In o (kept s z)
keeps_listed s Empty k = absurd k
keeps_listed s (Axiom p q a) k = absurd k
keeps_listed s (Tensor l r c) k = one_of_two k
keeps_listed s (Par l r c) k = here (sym k)
keeps_listed s (Cut l r) k = one_of_two k

pub listed_keeps : (s : Side) (z : Link) {o : ℕ} → In o (kept s z) → Keeps s z o
listed_keeps s Empty i = absurd (not_in_nil i)
listed_keeps s (Axiom p q a) i = absurd (not_in_nil i)
listed_keeps s (Tensor l r c) i = two_of_one i
listed_keeps s (Par l r c) i = sym (in_one i)
listed_keeps s (Cut l r) i = two_of_one i

-- what is kept is used, and a tensor or a cut keeps all that it uses

pub keeps_uses : (s : Side) (z : Link) (o : ℕ) → Keeps s z o → Uses z o
keeps_uses s Empty o k = k
keeps_uses s (Axiom p q a) o k = k
keeps_uses s (Tensor l r c) o k = k
keeps_uses left (Par l r c) o k = inl k
keeps_uses right (Par l r c) o k = inr k
keeps_uses s (Cut l r) o k = k

pub joins_keep_all : (s : Side) (z : Link) (o : ℕ) → is_join z ≡ true → Uses z o → Keeps s z o
joins_keep_all s Empty o j u = u
joins_keep_all s (Axiom p q a) o j u = u
joins_keep_all s (Tensor l r c) o j u = u
joins_keep_all s (Par l r c) o j u = absurd (both_ways false refl j)
joins_keep_all s (Cut l r) o j u = u

pub kept_apart : (s : Side) (z : Link) → EndsDiffer z → Apart (kept s z)
kept_apart s Empty d = tt
kept_apart s (Axiom p q a) d = tt
kept_apart s (Tensor l r c) d = apart_two d
kept_apart s (Par l r c) d = apart_one (pick s l r)
kept_apart s (Cut l r) d = apart_two d

-- a slot is empty or holds a link

pub link_not_empty : (z : Link) → is_link z ≡ true → z ≢ Empty
link_not_empty Empty t e = both_ways false refl t
link_not_empty (Axiom p q a) t e = let z : ◌≡◌ {A = ℕ} 0 1 = cc in omega arith
link_not_empty (Tensor l r c) t e = let z : ◌≡◌ {A = ℕ} 0 1 = cc in omega arith
link_not_empty (Par l r c) t e = let z : ◌≡◌ {A = ℕ} 0 1 = cc in omega arith
link_not_empty (Cut l r) t e = let z : ◌≡◌ {A = ℕ} 0 1 = cc in omega arith

pub not_empty_link : (z : Link) → z ≢ Empty → is_link z ≡ true
not_empty_link Empty h = absurd (h refl)
not_empty_link (Axiom p q a) h = refl
not_empty_link (Tensor l r c) h = refl
not_empty_link (Par l r c) h = refl
not_empty_link (Cut l r) h = refl

pub no_link_empty : (z : Link) → is_link z ≡ false → z ≡ Empty
no_link_empty Empty f = refl
no_link_empty (Axiom p q a) f = absurd (both_ways true f refl)
no_link_empty (Tensor l r c) f = absurd (both_ways true f refl)
no_link_empty (Par l r c) f = absurd (both_ways true f refl)
no_link_empty (Cut l r) f = absurd (both_ways true f refl)

pub concludes_not_empty : (z : Link) (o : ℕ) → Concludes z o → z ≢ Empty
concludes_not_empty z o c e = subst (λ (x : Link). Concludes x o) e c

pub uses_not_empty : (z : Link) (o : ℕ) → Uses z o → z ≢ Empty
uses_not_empty z o u e = subst (λ (x : Link). Uses x o) e u

-- a link is of one of four kinds
pub data Kind (z : Link) : Type 0 where
  is_axiom : {p q a : ℕ} → z ≡ Axiom p q a → Kind z
  is_tensor : {l r c : ℕ} → z ≡ Tensor l r c → Kind z
  is_par : {l r c : ℕ} → z ≡ Par l r c → Kind z
  is_cut : {l r : ℕ} → z ≡ Cut l r → Kind z

pub kind : (z : Link) → z ≢ Empty → Kind z
kind Empty h = absurd (h refl)
kind (Axiom p q a) h = is_axiom refl
kind (Tensor l r c) h = is_tensor refl
kind (Par l r c) h = is_par refl
kind (Cut l r) h = is_cut refl

-- counts of one link

pub lines_kept : (s : Side) (z : Link) → length (kept s z) ≡ lines z
lines_kept s Empty = refl
lines_kept s (Axiom p q a) = refl
lines_kept s (Tensor l r c) = refl
lines_kept s (Par l r c) = refl
lines_kept s (Cut l r) = refl

pub one_if_link_test : (z : Link) → one_if_link z ≡ cond (is_link z) 1 0
one_if_link_test Empty = refl
one_if_link_test (Axiom p q a) = refl
one_if_link_test (Tensor l r c) = refl
one_if_link_test (Par l r c) = refl
one_if_link_test (Cut l r) = refl

-- a link brings one point; a tensor or a cut keeps one edge more than that, a par as many and an axiom one less
pub link_counts : (s : Side) (z : Link) → is_link z ≡ true → 1 + cond (is_join z) 1 0 ≡ length (kept s z) + cond (is_axiom_lem z) 1 0
link_counts s Empty t = absurd (both_ways false refl t)
link_counts s (Axiom p q a) t = refl
link_counts s (Tensor l r c) t = refl
link_counts s (Par l r c) t = refl
link_counts s (Cut l r) t = refl
