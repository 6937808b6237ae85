-- How the arrays follow the states of unification when a link passes, and what a tangle shows.
use Rattle.std.proofs.Common.{◌≡◌, ℕ, zero, suc, ◌<◌, ◌≤◌, true, false, ◌≢◌, List, [], ◌∷◌, length, sym, refl, ap, ◌∙◌, inl, inr, arith}
use Rattle.std.proofs.lemmas.List.{get_or_past}
use Rattle.std.proofs.lemmas.Bool.{cases_eq, cases_lt, both_ways}
use Rattle.std.proofs.lemmas.Bool.Decides.{nat_tests}
use Rattle.graphs.specs.Lists.{In}
use Rattle.graphs.specs.Lists.In.{here, there}
use Rattle.graphs.specs.Selections.{without, upto}
use Rattle.graphs.specs.Classes.{relabelled}
use Rattle.graphs.proofs.Members.{in_cons, in_upto}
use Rattle.graphs.proofs.Counts.{within_no_longer}
use Rattle.links.specs.declared.link.Link.{Link}
use Rattle.links.specs.declared.link.Link.TheVariants.{Empty, Axiom, Tensor, Par, Cut}
use Rattle.links.specs.Links.{link_at, Uses}
use Rattle.links.specs.Facts.{Facts, EndsDiffer}
use Rattle.links.proofs.Grounding.{facts_held}
use Rattle.switchings.specs.Edges.{premises, is_join, maker}
use Rattle.switchings.proofs.Occurrences.{listed_uses}
use Rattle.switchings.proofs.Listed.{link_in_range}
use Rattle.makers.proofs.Arms.{OfTwo, two_premises, two_join}
use Rattle.sequents.specs.Unification.{Pass}
use Rattle.sequents.specs.Soundness.{Sound}
use Rattle.sequents.proofs.Passing.{par_passes_lem, join_passes}
use Rattle.sequents.proofs.Endings.{tangled_is_cyclic_lem}
use Rattle.unify.specs.declared.marking.Marking.{Marking}
use Rattle.unify.specs.Markings.{token_of, carried, marks_of, state_of, Means, Settled}
use Rattle.unify.specs.Turns.{CyclicAlways}

length_upto : (n : ℕ) → length (upto n) ≡ n
length_upto zero = refl
length_upto (suc n) = ap suc (length_upto n)

pub passes_low : (ls : List Link) (m : Marking) → ∥ Facts ls ∥₁ → Means ls m → m.passes ≤ 256
passes_low ls m held h =
    let facts = facts_held ls held in
    let k = within_no_longer h.passed (upto 256) h.sound.passed_apart (λ x i. let w = link_in_range ls facts x (h.sound.passed_stand x i) in in_upto x 256 w.0 w.1) in
    let l = length_upto 256 in
    let c = h.count in
    omega arith

module _ (ls : List Link) (held : ∥ Facts ls ∥₁) (m after : Marking) (h : Means ls m) where
  high : (k : ℕ) → In k h.passed → k < 257
  high k i = let w = (link_in_range ls (facts_held ls held) k (h.sound.passed_stand k i)).1 in omega arith

  -- the equations of a pass
  passes : (n l r s t : ℕ) → token_of m n ≡ 0 → carried ls m l ≡ s → carried ls m r ≡ t → s ≢ 0 → t ≢ 0 → Settled m n s t after → Pass ls (state_of h.passed h.live m) n l r s t (marks_of after)
  passes n l r s t z p q sz tz w =
      let fresh : In n h.passed → ⊥ = λ i. h.marked n i z in
      record {
        fresh = fresh;
        on_left = (h.unmarked (maker ls l) (λ x. sz (sym p ∙ x)), p);
        on_right = (h.unmarked (maker ls r) (λ x. tz (sym q ∙ x)), q);
        token_n = w.token_n;
        token_m = λ k i. w.token_m k (high k i) (λ x. fresh (rw x at i));
        last_s = w.last_s;
        last_x = w.last_x;
        first_n = w.first_n;
        first_m = w.first_m;
        second_n = w.second_n;
        second_m = w.second_m;
      }

relabelled_some : (s t x : ℕ) → s ≢ 0 → t ≢ 0 → x ≢ 0 → relabelled s t x ≢ 0
relabelled_some s t x a b c e = grind (arith, nat_tests)

relabelled_none : (s t x : ℕ) → t ≢ 0 → x ≡ 0 → relabelled s t x ≡ 0
relabelled_none s t x b e = grind (arith, nat_tests)

relabelled_low : (s t x : ℕ) → s ≤ 256 → x ≤ 256 → relabelled s t x ≤ 256
relabelled_low s t x a b = grind (arith, nat_tests)

module _ (ls : List Link) (held : ∥ Facts ls ∥₁) (m after : Marking) (h : Means ls m) where
  -- what the arrays mean afterwards
  settles : (n s t : ℕ) → s ≢ 0 → t ≢ 0 → s ≤ 256 → Settled m n s t after → (L : List ℕ) → Sound ls (state_of (n ∷ h.passed) L after) → Means ls after
  settles n s t sz tz low w L sound =
      let past : (k : ℕ) → 257 ≤ k → token_of after k ≡ 0 = λ k g. let e = after.token_long in get_or_past after.token k 0 (omega arith) in
      record {
        passed = n ∷ h.passed;
        live = L;
        sound = sound;
        marked = λ k i z. elim (cases_eq k n) [
          | inl q ↦ sz (sym w.token_n ∙ ap (token_of after) (sym q) ∙ z)
          | inr q ↦ elim (in_cons i) [
            | inl e ↦ q e
            | inr j ↦ relabelled_some s t (token_of m k) sz tz (h.marked k j) (sym (w.token_m k (high ls held m after h k j) q) ∙ z)
          ]
        ];
        unmarked = λ k z. elim (cases_eq k n) [
          | inl q ↦ here q
          | inr q ↦ elim (cases_lt k 257) [
            | inl g ↦ there (h.unmarked k (λ x. z (w.token_m k g q ∙ relabelled_none s t (token_of m k) tz x)))
            | inr g ↦ absurd (z (past k g))
          ]
        ];
        low = λ k. elim (cases_eq k n) [
          | inl q ↦ let e = w.token_n in let f = ap (token_of after) q in omega arith
          | inr q ↦ elim (cases_lt k 257) [
            | inl g ↦ let e = w.token_m k g q in let b = relabelled_low s t (token_of m k) low (h.low k) in omega arith
            | inr g ↦ let e = past k g in omega arith
          ]
        ];
        count = let c = h.count in let d = w.count in omega arith;
      }

  pub went_par : (n l r c s : ℕ) → token_of m n ≡ 0 → link_at ls n ≡ Par l r c → carried ls m l ≡ s → carried ls m r ≡ s → s ≢ 0 → Settled m n s s after → Means ls after
  went_par n l r c s z e p q sz w =
      let low : s ≤ 256 = let k = h.low (maker ls l) in omega arith in
      settles n s s sz sz low w h.live (par_passes_lem ls (facts_held ls held) (state_of h.passed h.live m) h.sound n l r c s e (marks_of after) (passes ls held m after h n l r s s z p q sz sz w))

  pub went_join : (n l r s t : ℕ) → token_of m n ≡ 0 → OfTwo (link_at ls n) l r → carried ls m l ≡ s → carried ls m r ≡ t → s ≢ 0 → t ≢ 0 → s ≢ t → Settled m n s t after → Means ls after
  went_join n l r s t z two p q sz tz d w =
      let j = two_join (link_at ls n) l r two in
      let e = two_premises (link_at ls n) l r two in
      let low : s ≤ 256 = let k = h.low (maker ls l) in omega arith in
      settles n s t sz tz low w (without t h.live) (join_passes ls (facts_held ls held) (state_of h.passed h.live m) h.sound n l r s t (link_at ls n) refl j e d (marks_of after) (passes ls held m after h n l r s t z p q sz tz w))

ends_apart : (z : Link) {l r : ℕ} → EndsDiffer z → is_join z ≡ true → premises z ≡ l ∷ r ∷ [] → l ≢ r
ends_apart Empty d j e = absurd (both_ways false refl j)
ends_apart (Axiom p q a) d j e = absurd (both_ways false refl j)
ends_apart (Tensor a b c) {l} {r} d j e = λ x. let y : a ≡ l = cc in let z : b ≡ r = cc in d (y ∙ x ∙ sym z)
ends_apart (Par a b c) d j e = absurd (both_ways false refl j)
ends_apart (Cut a b) {l} {r} d j e = λ x. let y : a ≡ l = cc in let z : b ≡ r = cc in d (y ∙ x ∙ sym z)

uses_left : (z : Link) {l r : ℕ} → premises z ≡ l ∷ r ∷ [] → Uses z l
uses_left z {l} {r} e = listed_uses z (rw e (here refl))

uses_right : (z : Link) {l r : ℕ} → premises z ≡ l ∷ r ∷ [] → Uses z r
uses_right z {l} {r} e = listed_uses z (rw e (there (here refl)))

pub tangle_at : (ls : List Link) (held : ∥ Facts ls ∥₁) (m : Marking) (h : Means ls m) (n l r s t : ℕ) → token_of m n ≡ 0 → OfTwo (link_at ls n) l r → carried ls m l ≡ s → carried ls m r ≡ t → s ≢ 0 → s ≡ t → CyclicAlways ls
tangle_at ls held m h n l r s t z two p q sz d σ =
    let j = two_join (link_at ls n) l r two in
    let e = two_premises (link_at ls n) l r two in
    let facts = facts_held ls held in (
      maker ls l,
      tangled_is_cyclic_lem ls facts (state_of h.passed h.live m) h.sound n l r s (λ i. h.marked n i z) j (uses_left (link_at ls n) e) (uses_right (link_at ls n) e) (ends_apart (link_at ls n) (facts.ends_differ n) j e) (h.unmarked (maker ls l) (λ x. sz (sym p ∙ x)), p) (h.unmarked (maker ls r) (λ x. sz (d ∙ sym q ∙ x)), q ∙ sym d) σ,
    )
