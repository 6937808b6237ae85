-- Sides for a unification that is stuck: what can be decided of its state, the sides that the rule chooses, and that they
-- are bad where a link has not passed. So where they make a tree, all have passed and one token is left.
use Rattle.std.proofs.Common.{◌≡◌, ℕ, ◌⊎◌, List, [], ◌∷◌, refl, ap, ◌∙◌, inl, inr}
use Rattle.std.proofs.lemmas.Bool.{cases_eq, cases_Bool, both_ways}
use Rattle.graphs.specs.Lists.{In, Apart}
use Rattle.graphs.specs.Lists.In.{here, there}
use Rattle.graphs.specs.Walks.{AcyclicOver}
use Rattle.graphs.proofs.Members.{not_in_nil, in_or_not, some_or_none, found_or_each}
use Rattle.links.specs.declared.link.Link.{Link}
use Rattle.links.specs.declared.link.Link.TheVariants.{Empty, Axiom, Tensor, Par, Cut}
use Rattle.links.specs.Links.{link_at, LinkStands}
use Rattle.links.specs.Facts.{Facts}
use Rattle.switchings.specs.Switchings.{Side, Switching, Kept, Connected}
use Rattle.switchings.specs.Switchings.Side.{left, right}
use Rattle.switchings.specs.Edges.{premises, is_link, is_join, standing, maker}
use Rattle.switchings.proofs.Occurrences.{uses_listed, listed_uses, link_not_empty}
use Rattle.switchings.proofs.Listed.{stands_listed, listed_stands, user_stands}
use Rattle.sequents.specs.Unification.{State, On, Stuck, Waits, Avoids, Chosen}
use Rattle.sequents.specs.Soundness.{Sound}
use Rattle.sequents.specs.Claims.{AllPassed, Bad, StuckIsBad, TreeMeansUnified, CorrectMeansUnified}
use Rattle.sequents.proofs.Endings.{token_has_link, cut_off_is_apart_lem, crowded_is_cyclic_lem, two_tokens_left_are_apart_lem}

-- what can be decided of a state

pub on_or_not : (ls : List Link) (S : State) (o t : ℕ) → On ls S o t ⊎ (On ls S o t → ⊥)
on_or_not ls S o t =
    elim (in_or_not (maker ls o) S.passed) [
      | inl i ↦ elim (cases_eq (S.marks.token (maker ls o)) t) [ inl e ↦ inl (i, e) | inr h ↦ inr (λ k. h k.1) ]
      | inr h ↦ inr (λ k. h k.0)
    ]

pub waits_or_not : (ls : List Link) (S : State) (t n : ℕ) → Waits ls S t n ⊎ (Waits ls S t n → ⊥)
waits_or_not ls S t n =
    elim (in_or_not n S.passed) [
      | inl p ↦ inr (λ w. w.unpassed p)
      | inr f ↦ elim (cases_Bool (is_join (link_at ls n))) [
        | inr j ↦ inr (λ w. both_ways (is_join (link_at ls n)) j w.join)
        | inl j ↦ elim (some_or_none (λ o. On ls S o t) (premises (link_at ls n)) (λ o i. on_or_not ls S o t)) [
          | inl k ↦ inl (record { unpassed = f; join = j; premise = k.0; uses = listed_uses (link_at ls n) k.1; on = k.2 })
          | inr h ↦ inr (λ w. h w.premise (uses_listed (link_at ls n) w.uses) w.on)
        ]
      ]
    ]

-- the token waits on some link, or on none
pub waits_somewhere_or_not : (ls : List Link) (S : State) (t : ℕ) → ((n : ℕ) × Waits ls S t n) ⊎ ((n : ℕ) → Waits ls S t n → ⊥)
waits_somewhere_or_not ls S t =
    elim (some_or_none (Waits ls S t) (standing ls) (λ n i. waits_or_not ls S t n)) [
      | inl k ↦ inl (k.0, k.2)
      | inr h ↦ inr (λ n w. h n (stands_listed ls n (user_stands ls n w.premise w.uses)) w)
    ]

pub all_left : Switching
all_left n = left

-- sides for a token that waits nowhere: a par with the token on the left picks the right

away : {P : Type 0} → P ⊎ (P → ⊥) → Side
away (inl p) = right
away (inr n) = left

away_yes : {P : Type 0} (d : P ⊎ (P → ⊥)) → P → away d ≡ right
unfolding away
away_yes (inl p) q = refl
away_yes (inr n) q = absurd (n q)

away_no : {P : Type 0} (d : P ⊎ (P → ⊥)) → (P → ⊥) → away d ≡ left
unfolding away
away_no (inl p) h = absurd (h p)
away_no (inr n) h = refl

abbrev side_away : List Link → State → ℕ → Link → Side
side_away ls S t Empty = left
side_away ls S t (Axiom p q a) = left
side_away ls S t (Tensor l r c) = left
side_away ls S t (Par l r c) = away (on_or_not ls S l t)
side_away ls S t (Cut l r) = left

pub avoiding : List Link → State → ℕ → Switching
avoiding ls S t n = side_away ls S t (link_at ls n)

pub avoiding_avoids : (ls : List Link) (S : State) → Stuck ls S → (t : ℕ) → Avoids ls S t (avoiding ls S t)
unfolding avoiding
avoiding_avoids ls S stuck t n l r c f e =
    let q : avoiding ls S t n ≡ away (on_or_not ls S l t) = ap (side_away ls S t) e in (
      λ k. q ∙ away_yes (on_or_not ls S l t) k,
      λ k. q ∙ away_no (on_or_not ls S l t) (λ a. (stuck n (link_not_empty (link_at ls n) (ap is_link e)) f).no_par l r c t e a k),
    )

-- some sides are chosen
pub chosen_sides : (ls : List Link) (S : State) → Stuck ls S → (σ : Switching) × Chosen ls S σ
chosen_sides ls S stuck =
    elim (found_or_each {B = (t : ℕ) × In t S.live × ((n : ℕ) → Waits ls S t n → ⊥)} (λ t. (n : ℕ) × Waits ls S t n) S.live (λ t i. elim (waits_somewhere_or_not ls S t) [ inl k ↦ inr k | inr off ↦ inl (t, i, off) ])) [
      | inl k ↦ (avoiding ls S k.0, inl (k.0, k.1, k.2, avoiding_avoids ls S stuck k.0))
      | inr h ↦ (all_left, inr h)
    ]

-- a token that waits nowhere is cut off from the unpassed link; else there is a cycle
pub stuck_is_bad_lem : StuckIsBad
stuck_is_bad_lem ls facts S ok stuck σ (inl c) w stands f =
    let a = token_has_link ls facts S ok c.0 c.1 in
    inl (a.0, w, cut_off_is_apart_lem ls facts S ok c.0 c.2 σ c.3 a.0 w a.1 a.2 stands (λ p. absurd (f p)))
stuck_is_bad_lem ls facts S ok stuck σ (inr c) w stands f = inr (crowded_is_cyclic_lem ls facts S ok stuck c w stands σ)

pub bad_no_tree : {ls : List Link} {σ : Switching} → Bad ls σ → Connected ls σ → AcyclicOver (Kept ls σ) → ⊥
bad_no_tree (inl g) c a = g.2.no_walk (c.all g.0 g.1 g.2.one_stands g.2.other_stands)
bad_no_tree (inr y) c a = a y.0 y.1

pub unpassed_or_all : (ls : List Link) (S : State) → ((n : ℕ) × LinkStands ls n × (In n S.passed → ⊥)) ⊎ AllPassed ls S
unpassed_or_all ls S =
    elim (found_or_each {B = (n : ℕ) × LinkStands ls n × (In n S.passed → ⊥)} (λ n. In n S.passed) (standing ls) (λ n i. elim (in_or_not n S.passed) [ inl p ↦ inr p | inr f ↦ inl (n, listed_stands ls n i, f) ])) [
      | inl x ↦ inl x
      | inr h ↦ inr (λ n stands. h n (stands_listed ls n stands))
    ]

-- all passed: one token is left, or two are apart whatever the sides
pub one_token_or_bad : (ls : List Link) → Facts ls → (S : State) → Sound ls S → AllPassed ls S → (v : ℕ) → LinkStands ls v → ((t : ℕ) × (S.live ≡ t ∷ [])) ⊎ ((σ : Switching) → Bad ls σ)
one_token_or_bad ls facts S ok all v stands = go S.live refl
  where
    go : (xs : List ℕ) → S.live ≡ xs → ((t : ℕ) × (S.live ≡ t ∷ [])) ⊎ ((σ : Switching) → Bad ls σ)
    go [] e = absurd (not_in_nil (rw e at (ok.token_live v (all v stands))))
    go (t ∷ []) e = inl (t, e)
    go (s ∷ (t ∷ xs)) e =
        let a : Apart (s ∷ (t ∷ xs)) = rw e at ok.live_apart in
        inr (λ σ. inl (two_tokens_left_are_apart_lem ls facts S ok all s t (rw e (here refl)) (rw e (there (here refl))) (λ q. a.0 (here q)) σ))

pub tree_means_unified_lem : TreeMeansUnified
tree_means_unified_lem ls facts S ok stuck σ chosen c a =
    elim (unpassed_or_all ls S) [
      | inl w ↦ absurd (bad_no_tree (stuck_is_bad_lem ls facts S ok stuck σ chosen w.0 w.1 w.2) c a)
      | inr all ↦ elim (one_token_or_bad ls facts S ok all c.one.0 c.one.1) [ inl t ↦ (all, t) | inr b ↦ absurd (bad_no_tree (b σ) c a) ]
    ]

pub correct_means_unified_lem : CorrectMeansUnified
correct_means_unified_lem ls facts S ok stuck c = let s = chosen_sides ls S stuck in tree_means_unified_lem ls facts S ok stuck s.0 s.1 (c.connected s.0) (c.acyclic s.0)
