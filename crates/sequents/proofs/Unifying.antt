-- Unification to its end: from the start, one link after another passes until none can. So a structure with a link has
-- a sequent proof or a bad switching, and it is correct exactly when it has a proof.
use Rattle.std.proofs.Common.{◌≡◌, ℕ, zero, suc, ◌+◌, ◌<◌, ◌≤◌, true, ◌≢◌, ◌⊎◌, List, [], ◌∷◌, length, sym, refl, ap, ◌∙◌, subst, inl, inr, arith}
use Rattle.std.proofs.lemmas.Bool.{cases_eq}
use Rattle.graphs.specs.Lists.{In}
use Rattle.graphs.specs.Lists.In.{here, there}
use Rattle.graphs.specs.Selections.{without}
use Rattle.graphs.proofs.Members.{each_cons, in_two, in_or_not, found_or_each}
use Rattle.graphs.proofs.Counts.{within_no_longer}
use Rattle.links.specs.declared.link.Link.{Link}
use Rattle.links.specs.declared.link.Link.TheVariants.{Empty, Axiom, Tensor, Par, Cut}
use Rattle.links.specs.Links.{link_at, Uses, LinkStands}
use Rattle.links.specs.Facts.{EndsDiffer, Facts}
use Rattle.switchings.specs.Switchings.{Switching}
use Rattle.switchings.specs.Edges.{premises, is_join, standing, maker}
use Rattle.switchings.proofs.Occurrences.{uses_listed, listed_uses, kind}
use Rattle.switchings.proofs.Occurrences.Kind.{is_axiom, is_tensor, is_par, is_cut}
use Rattle.switchings.proofs.Listed.{stands_listed, listed_stands}
use Rattle.sequents.specs.Sequents.{Provable}
use Rattle.sequents.specs.Unification.{Marks, State, On, begun, after, Idle, Stuck}
use Rattle.sequents.specs.Soundness.{Sound}
use Rattle.sequents.specs.Claims.{AllPassed, Bad, ProvableOrBad, CorrectExactlyWhenProvable}
use Rattle.sequents.proofs.Playing.{sequent_proof_correct}
use Rattle.sequents.proofs.Beginning.{unification_starts_lem}
use Rattle.sequents.proofs.Passing.{par_passes_lem, join_passes, remarked, remarked_passes}
use Rattle.sequents.proofs.Endings.{par_not_join, tangled_is_cyclic_lem, one_token_left_is_a_proof_lem}
use Rattle.sequents.proofs.Choosing.{on_or_not, chosen_sides, stuck_is_bad_lem, bad_no_tree, unpassed_or_all, one_token_or_bad, all_left}

-- one link

premises_differ : (z : Link) (l r : ℕ) → EndsDiffer z → premises z ≡ l ∷ r ∷ [] → l ≢ r
premises_differ Empty l r d e q = let z : ◌≡◌ {A = ℕ} 0 1 = cc in omega arith
premises_differ (Axiom a b c) l r d e q = let z : ◌≡◌ {A = ℕ} 0 1 = cc in omega arith
premises_differ (Tensor a b c) l r d e q = let z : a ≡ b = cc in d z
premises_differ (Par a b c) l r d e q = let z : a ≡ b = cc in d z
premises_differ (Cut a b) l r d e q = let z : a ≡ b = cc in d z

-- one more link has passed
record Next (ls : List Link) (S : State) : Type 0 where
  state : State
  sound : Sound ls state
  grows : length state.passed ≡ suc (length S.passed)

abbrev BadSides : List Link → Type 0
BadSides ls = (σ : Switching) × Bad ls σ

module _ (ls : List Link) (facts : Facts ls) (S : State) (ok : Sound ls S) where
  look_at_par : (n l r c : ℕ) → (In n S.passed → ⊥) → link_at ls n ≡ Par l r c → Next ls S ⊎ Idle ls S n
  look_at_par n l r c f e =
      let t : ℕ = S.marks.token (maker ls l) in
      let idle : (On ls S l t → On ls S r t → ⊥) → Idle ls S n = λ h. record {
        no_par = λ l' r' c' t' e' a b.
            let ql : l' ≡ l = cc in
            let qr : r' ≡ r = cc in
            let a' : On ls S l t' = subst (λ (o : ℕ). On ls S o t') ql a in
            let b' : On ls S r t' = subst (λ (o : ℕ). On ls S o t') qr b in
            h (a'.0, refl) (b'.0, b'.1 ∙ sym a'.1);
        no_join = λ o q s u j a b d x y. par_not_join (link_at ls n) e j;
      } in
      elim (on_or_not ls S l t) [
        | inr h ↦ inr (idle (λ a b. h a))
        | inl a ↦ elim (on_or_not ls S r t) [
          | inr h ↦ inr (idle (λ x b. h b))
          | inl b ↦ inl (record { state = after S n S.live (remarked S n t t); sound = par_passes_lem ls facts S ok n l r c t e (remarked S n t t) (remarked_passes ls S n l r t t f a b); grows = refl })
        ]
      ]

  -- where two different premises of a tensor or a cut carry tokens, both do
  both_on : (n l r o q s t : ℕ) → premises (link_at ls n) ≡ l ∷ r ∷ [] → Uses (link_at ls n) o → Uses (link_at ls n) q → o ≢ q → On ls S o s → On ls S q t → In (maker ls l) S.passed × In (maker ls r) S.passed
  both_on n l r o q s t e u v d a b =
      let split : (x : ℕ) → Uses (link_at ls n) x → (x ≡ l) ⊎ (x ≡ r) = λ x w. in_two (rw e at (uses_listed (link_at ls n) w)) in
      elim (split o u) [
        | inl x ↦ elim (split q v) [ inl y ↦ absurd (d (x ∙ sym y)) | inr y ↦ (rw x at a.0, rw y at b.0) ]
        | inr x ↦ elim (split q v) [ inl y ↦ (rw y at b.0, rw x at a.0) | inr y ↦ absurd (d (x ∙ sym y)) ]
      ]

  look_at_join : (n l r : ℕ) → (In n S.passed → ⊥) → premises (link_at ls n) ≡ l ∷ r ∷ [] → is_join (link_at ls n) ≡ true → (Next ls S ⊎ BadSides ls) ⊎ Idle ls S n
  look_at_join n l r f e j =
      let s : ℕ = S.marks.token (maker ls l) in
      let t : ℕ = S.marks.token (maker ls r) in
      let idle : (In (maker ls l) S.passed → In (maker ls r) S.passed → ⊥) → Idle ls S n = λ h. record {
        no_par = λ l' r' c' t' e' a b. par_not_join (link_at ls n) e' j;
        no_join = λ o q s' t' k u v d a b. let z = both_on n l r o q s' t' e u v d a b in h z.0 z.1;
      } in
      elim (in_or_not (maker ls l) S.passed) [
        | inr h ↦ inr (idle (λ a b. h a))
        | inl a ↦ elim (in_or_not (maker ls r) S.passed) [
          | inr h ↦ inr (idle (λ x b. h b))
          | inl b ↦ elim (cases_eq s t) [
            | inl q ↦ inl (inr (all_left, inr (maker ls l, tangled_is_cyclic_lem ls facts S ok n l r s f j (listed_uses (link_at ls n) (rw e (here refl))) (listed_uses (link_at ls n) (rw e (there (here refl)))) (premises_differ (link_at ls n) l r (facts.ends_differ n) e) (a, refl) (b, sym q) all_left)))
            | inr d ↦ inl (inl (record {
              state = after S n (without t S.live) (remarked S n s t);
              sound = join_passes ls facts S ok n l r s t (link_at ls n) refl j e d (remarked S n s t) (remarked_passes ls S n l r s t f (a, refl) (b, refl));
              grows = refl;
            }))
          ]
        ]
      ]

  look_at : (n : ℕ) → LinkStands ls n → (Next ls S ⊎ BadSides ls) ⊎ ((In n S.passed → ⊥) → Idle ls S n)
  look_at n stands =
      elim (in_or_not n S.passed) [
        | inl p ↦ inr (λ f. absurd (f p))
        | inr f ↦ elim (kind (link_at ls n) stands) [
          | is_axiom {p = p} {q = q} {a = a} e ↦ absurd (f (ok.axioms_pass n p q a e))
          | is_par {l = l} {r = r} {c = c} e ↦ elim (look_at_par n l r c f e) [ inl x ↦ inl (inl x) | inr x ↦ inr (λ z. x) ]
          | is_tensor {l = l} {r = r} {c = c} e ↦ elim (look_at_join n l r f (ap premises e) (ap is_join e)) [ inl x ↦ inl x | inr x ↦ inr (λ z. x) ]
          | is_cut {l = l} {r = r} e ↦ elim (look_at_join n l r f (ap premises e) (ap is_join e)) [ inl x ↦ inl x | inr x ↦ inr (λ z. x) ]
        ]
      ]

  -- there is room for an unpassed link
  room_to_pass : (n : ℕ) → LinkStands ls n → (In n S.passed → ⊥) → length S.passed < length (standing ls)
  room_to_pass n stands f = within_no_longer (n ∷ S.passed) (standing ls) (f, ok.passed_apart) (each_cons (λ x. In x (standing ls)) (stands_listed ls n stands) (λ x i. stands_listed ls x (ok.passed_stand x i)))

-- all passed: a proof, or bad sides
all_passed_ends : (ls : List Link) → Facts ls → (S : State) → Sound ls S → AllPassed ls S → (v : ℕ) → LinkStands ls v → Provable ls ⊎ BadSides ls
all_passed_ends ls facts S ok all v stands =
    elim (one_token_or_bad ls facts S ok all v stands) [
      | inl t ↦ let p = one_token_left_is_a_proof_lem ls facts S ok all t.0 t.1 in inl (p.0, p.1)
      | inr b ↦ inr (all_left, b all_left)
    ]

-- the links that have not passed grow fewer
unify : (ls : List Link) → Facts ls → (left_over : ℕ) (S : State) → Sound ls S → length (standing ls) ≤ length S.passed + left_over → (v : ℕ) → LinkStands ls v → Provable ls ⊎ BadSides ls
unify ls facts zero S ok h v stands =
    elim (unpassed_or_all ls S) [
      | inl w ↦ let r = room_to_pass ls facts S ok w.0 w.1 w.2 in absurd (omega arith)
      | inr all ↦ all_passed_ends ls facts S ok all v stands
    ]
unify ls facts (suc k) S ok h v stands =
    elim (unpassed_or_all ls S) [
      | inr all ↦ all_passed_ends ls facts S ok all v stands
      | inl w ↦ elim (found_or_each {B = Next ls S ⊎ BadSides ls} (λ n. (In n S.passed → ⊥) → Idle ls S n) (standing ls) (λ n i. look_at ls facts S ok n (listed_stands ls n i))) [
        | inl (inl x) ↦ let g = x.grows in unify ls facts k x.state x.sound (omega arith) v stands
        | inl (inr b) ↦ inr b
        | inr idle ↦
            let stuck : Stuck ls S = λ n s. idle n (stands_listed ls n s) in
            let s = chosen_sides ls S stuck in
            inr (s.0, stuck_is_bad_lem ls facts S ok stuck s.0 s.1 w.0 w.1 w.2)
      ]
    ]

-- each axiom its own number
abbrev own_marks : Marks
own_marks = record { token = λ n. n; last = λ t. t; first = λ n. 0; second = λ n. 0 }

pub provable_or_bad_lem : ProvableOrBad
provable_or_bad_lem ls facts n stands = unify ls facts (length (standing ls)) (begun ls own_marks) (unification_starts_lem ls own_marks (λ m i. (refl, refl))) (omega arith) n stands

pub correct_exactly_when_provable_lem : CorrectExactlyWhenProvable
correct_exactly_when_provable_lem ls facts = (
  λ c.
      let v = (c.connected all_left).one in
      elim (provable_or_bad_lem ls facts v.0 v.1) [ inl p ↦ p | inr b ↦ absurd (bad_no_tree b.1 (c.connected b.0) (c.acyclic b.0)) ],
  λ p. sequent_proof_correct ls facts p.0 p.1,
)
