-- The small proofs, played move by move.
use Rattle.std.proofs.Common.{◌≡◌, ℕ, zero, suc, ◌≤◌, true, false, ◌⊎◌, List, [], ◌∷◌, map, sym, refl, inl, inr, ⊎_elim, arith}
use Rattle.std.proofs.lemmas.Bool.{both_ways}
use Rattle.graphs.specs.Lists.{In}
use Rattle.graphs.specs.Lists.In.{here, there}
use Rattle.graphs.proofs.Members.{not_in_nil, each_cons, in_one, in_two, apart_two}
use Rattle.graphs.proofs.Counts.{count_none, count_within}
use Rattle.links.specs.declared.rule.Rule.TheVariants as rule
use Rattle.links.specs.Links.{link_at, Concludes, Uses, LinkStands}
use Rattle.switchings.specs.Edges.{is_axiom_lem, is_join, axioms_of, joins_of}
use Rattle.sequents.specs.Sequents.{link_of, Plays, SequentProof, Provable}
use Rattle.sequents.specs.Sequents.Does.{by_axiom, by_par, by_tensor, by_cut}
use Rattle.sequents.specs.Sequents.Plays.{done, next}
use Rattle.sequents.proofs.Playing.{plays_count}
use Rattle.sequents.specs.Samples.{loop, fork, gap, SmallProofs}

-- a wire with a par on its two ends

loop_stands : (n : ℕ) → LinkStands loop n → In n (1 ∷ 2 ∷ [])
loop_stands zero s = absurd (s refl)
loop_stands (suc zero) s = here refl
loop_stands (suc (suc zero)) s = there (here refl)
loop_stands (suc (suc (suc k))) s = absurd (s refl)

loop_uses : (n o : ℕ) → Uses (link_at loop n) o → (1 ≡ o) ⊎ (2 ≡ o)
loop_uses zero o u = absurd u
loop_uses (suc zero) o u = absurd u
loop_uses (suc (suc zero)) o u = u
loop_uses (suc (suc (suc k))) o u = absurd u

loop_concludes : (n o : ℕ) → Concludes (link_at loop n) o → Uses (link_at loop 2) o ⊎ (o ≡ 3)
loop_concludes zero o c = absurd c
loop_concludes (suc zero) o c = inl c
loop_concludes (suc (suc zero)) o c = inr (sym c)
loop_concludes (suc (suc (suc k))) o c = absurd c

par_after_axiom : SequentProof loop (record { rule = rule.Axiom; link = 1 } ∷ record { rule = rule.Par; link = 2 } ∷ [])
par_after_axiom = record {
  ends = 3 ∷ [];
  plays = next (by_axiom refl) (next (by_par refl (here refl) (there (here refl))) done);
  each = loop_stands;
  once = apart_two (λ e. omega arith);
  concludes = λ o. (
    λ i. let e = in_one i in ((2, sym e), λ n u. ⊎_elim (λ q. omega arith) (λ q. omega arith) (loop_uses n o u)),
    λ c. ⊎_elim (λ u. absurd (c.1 2 u)) (λ e. here e) (loop_concludes c.0.0 o c.0.1),
  );
}

-- two wires with a tensor

fork_stands : (n : ℕ) → LinkStands fork n → In n (1 ∷ 2 ∷ 3 ∷ [])
fork_stands zero s = absurd (s refl)
fork_stands (suc zero) s = here refl
fork_stands (suc (suc zero)) s = there (here refl)
fork_stands (suc (suc (suc zero))) s = there (there (here refl))
fork_stands (suc (suc (suc (suc k)))) s = absurd (s refl)

fork_uses : (n o : ℕ) → Uses (link_at fork n) o → (1 ≡ o) ⊎ (3 ≡ o)
fork_uses zero o u = absurd u
fork_uses (suc zero) o u = absurd u
fork_uses (suc (suc zero)) o u = absurd u
fork_uses (suc (suc (suc zero))) o u = u
fork_uses (suc (suc (suc (suc k)))) o u = absurd u

fork_concludes : (n o : ℕ) → Concludes (link_at fork n) o → Uses (link_at fork 3) o ⊎ In o (5 ∷ 2 ∷ 4 ∷ [])
fork_concludes zero o c = absurd c
fork_concludes (suc zero) o c = ⊎_elim (λ e. inl (inl e)) (λ e. inr (there (here (sym e)))) c
fork_concludes (suc (suc zero)) o c = ⊎_elim (λ e. inl (inr e)) (λ e. inr (there (there (here (sym e))))) c
fork_concludes (suc (suc (suc zero))) o c = inr (here (sym c))
fork_concludes (suc (suc (suc (suc k)))) o c = absurd c

fork_ends : (o : ℕ) → In o (5 ∷ 2 ∷ 4 ∷ []) → (n : ℕ) × Concludes (link_at fork n) o
fork_ends o (here e) = (3, sym e)
fork_ends o (there (here e)) = (1, inr (sym e))
fork_ends o (there (there i)) = (2, inr (sym (in_one i)))

fork_ends_free : (o : ℕ) → In o (5 ∷ 2 ∷ 4 ∷ []) → (1 ≡ o) ⊎ (3 ≡ o) → ⊥
fork_ends_free o (here e) u = ⊎_elim (λ q. omega arith) (λ q. omega arith) u
fork_ends_free o (there (here e)) u = ⊎_elim (λ q. omega arith) (λ q. omega arith) u
fork_ends_free o (there (there i)) u = let e = in_one i in ⊎_elim (λ q. omega arith) (λ q. omega arith) u

right_on_top : SequentProof fork (record { rule = rule.Axiom; link = 1 } ∷ record { rule = rule.Axiom; link = 2 } ∷ record { rule = rule.Tensor; link = 3 } ∷ [])
right_on_top = record {
  ends = 5 ∷ 2 ∷ 4 ∷ [];
  plays = next (by_axiom refl) (next (by_axiom refl) (next (by_tensor refl (here refl) (here refl)) done));
  each = fork_stands;
  once = (λ i. ⊎_elim (λ e. omega arith) (λ e. omega arith) (in_two i), apart_two (λ e. omega arith));
  concludes = λ o. (
    λ i. (fork_ends o i, λ n u. fork_ends_free o i (fork_uses n o u)),
    λ c. ⊎_elim (λ u. absurd (c.1 3 u)) (λ i. i) (fork_concludes c.0.0 o c.0.1),
  );
}

left_on_top_is_none : SequentProof fork (record { rule = rule.Axiom; link = 2 } ∷ record { rule = rule.Axiom; link = 1 } ∷ record { rule = rule.Tensor; link = 3 } ∷ []) → ⊥
left_on_top_is_none p = go p.plays
  where
    go : Plays fork (record { rule = rule.Axiom; link = 2 } ∷ record { rule = rule.Axiom; link = 1 } ∷ record { rule = rule.Tensor; link = 3 } ∷ []) [] (p.ends ∷ []) → ⊥
    go (next (by_axiom {p = x} {q = y} e) (next (by_axiom f) (next (by_tensor {l = l} g a b) r))) =
        let ex : 3 ≡ x = cc in
        let ey : 4 ≡ y = cc in
        let el : 1 ≡ l = cc in
        ⊎_elim (λ q. omega arith) (λ q. omega arith) (in_two a)

other_kind_is_none : SequentProof fork (record { rule = rule.Axiom; link = 1 } ∷ record { rule = rule.Axiom; link = 2 } ∷ record { rule = rule.Cut; link = 3 } ∷ []) → ⊥
other_kind_is_none p = go p.plays
  where
    go : Plays fork (record { rule = rule.Axiom; link = 1 } ∷ record { rule = rule.Axiom; link = 2 } ∷ record { rule = rule.Cut; link = 3 } ∷ []) [] (p.ends ∷ []) → ⊥
    go (next (by_axiom e) (next (by_axiom f) (next (by_cut g a b) r))) = let z : ◌≡◌ {A = ℕ} 0 1 = cc in omega arith

-- two wires with a par: two axioms and nothing that joins them

gap_no_join : (n : ℕ) → is_join (link_at gap n) ≡ true → ⊥
gap_no_join zero t = both_ways false refl t
gap_no_join (suc zero) t = both_ways false refl t
gap_no_join (suc (suc zero)) t = both_ways false refl t
gap_no_join (suc (suc (suc zero))) t = both_ways false refl t
gap_no_join (suc (suc (suc (suc k)))) t = both_ways false refl t

par_of_two_wires_has_none : Provable gap → ⊥
par_of_two_wires_has_none p =
    let names : List ℕ = map link_of p.0 in
    let named : (n : ℕ) → In n (1 ∷ 2 ∷ []) → In n names = each_cons (λ n. In n names) (p.1.each 1 (λ e. let z : ◌≡◌ {A = ℕ} 0 1 = cc in omega arith)) (each_cons (λ n. In n names) (p.1.each 2 (λ e. let z : ◌≡◌ {A = ℕ} 0 1 = cc in omega arith)) (λ n i. absurd (not_in_nil i))) in
    let two : 2 ≤ axioms_of gap names = count_within (λ n. is_axiom_lem (link_at gap n)) (1 ∷ 2 ∷ []) names (apart_two (λ e. omega arith)) p.1.once named in
    let none : joins_of gap names ≡ 0 = count_none (λ n. is_join (link_at gap n)) names (λ n i. gap_no_join n) in
    let count = plays_count p.1.plays in
    omega arith

pub small_proofs_lem : SmallProofs
small_proofs_lem = record {
  par_after_axiom = par_after_axiom;
  axiom_alone_is_none = λ p. let e : 2 ≡ 1 = in_one (p.each 2 (λ e. let z : ◌≡◌ {A = ℕ} 0 1 = cc in omega arith)) in omega arith;
  right_on_top = right_on_top;
  left_on_top_is_none = left_on_top_is_none;
  other_kind_is_none = other_kind_is_none;
  par_of_two_wires_has_none = par_of_two_wires_has_none;
}
