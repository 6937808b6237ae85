-- A step keeps a structure correct.
use Rattle.std.proofs.Common.{◌≡◌, ℕ, ◌+◌, ◌<◌, cond, eqb, ◌≢◌, ◌⊎◌, List, [], ◌∷◌, length, sym, refl, ap, ◌∙◌, subst, inl, inr, ⊎_elim, arith}
use Rattle.std.proofs.lemmas.Bool.{eq-eqb, ne_eqb, cond-true, cond-false}
use Rattle.graphs.specs.Lists.{In}
use Rattle.graphs.specs.Lists.In.{here, there}
use Rattle.graphs.specs.Walks.{Edge, Step, Ends, Walk, JoinedBy}
use Rattle.graphs.specs.Walks.Walk.{stop, step}
use Rattle.graphs.specs.Rounds.{Except}
use Rattle.graphs.proofs.Members.{not_in_nil}
use Rattle.graphs.proofs.Walks.{joined_eq, joined_trans, joined_sym, joined_edge, joined_map, joined_along}
use Rattle.graphs.proofs.Cycles.{closing}
use Rattle.links.specs.declared.link.Link.{Link}
use Rattle.links.specs.declared.link.Link.TheVariants.{Empty, Axiom, Tensor, Par, Cut}
use Rattle.cuts.specs.Steps.CutStep.{tensor_par, wires}
use Rattle.cuts.specs.Claims.{StepKeepsCorrect, CorrectCutForms, CutsOneWire}
use Rattle.cuts.proofs.Parting as Pa
use Rattle.cuts.proofs.Wiring as Wi
use Rattle.cuts.proofs.Parting.{Parted, Which, which, meets_not, no_axiom}
use Rattle.cuts.proofs.Parting.Which.{is_c, is_t, is_p, other}
use Rattle.cuts.proofs.Wiring.{Wired}
use Rattle.cuts.proofs.Costing.{total_three, parted_length, wired_length}
use Rattle.cuts.proofs.Forms.{cut_forms_lem}
use Rattle.switchings.specs.Edges.{lines}
use Rattle.switchings.proofs.Occurrences.{keeps_uses}
use Rattle.switchings.proofs.Listed.{kept_names_tell, kept_loopless}
use Rattle.switchings.proofs.Drawn.{tree_lines, tree_acyclic}
use Rattle.links.specs.Links.{link_at, Concludes, Uses, Stands, total, one_if_link}
use Rattle.links.specs.Facts.{Facts}
use Rattle.links.proofs.Reading.{concl, uses, room, two_ends}
use Rattle.switchings.specs.Switchings.{Side, left, right, Switching, Keeps, Kept, Connected, OnCycle, Correct}
use Rattle.cuts.specs.Steps.{Meets}
use Rattle.cuts.proofs.Meeting.{meets_left, meets_right}

abbrev edge : ℕ → ℕ → ℕ → Edge
edge o u v = record { name = o; from = u; to = v }

kept_edge : {Q : Edge → Type 0} (o u v : ℕ) → Q (edge o u v) → JoinedBy Q u v
kept_edge o u v h = joined_edge (edge o u v) h (inl (refl, refl))

at_counts : (f : Link → ℕ) (ls ls' : List Link) → length ls' ≡ length ls → (c t p : ℕ) → c < length ls → t < length ls → p < length ls → t ≢ c → p ≢ c → p ≢ t → ((k : ℕ) → k ≢ c → k ≢ t → k ≢ p → link_at ls' k ≡ link_at ls k)
    → total (λ k. f (link_at ls k)) (length ls) + (f (link_at ls' c) + f (link_at ls' t) + f (link_at ls' p)) ≡ total (λ k. f (link_at ls' k)) (length ls') + (f (link_at ls c) + f (link_at ls t) + f (link_at ls p))
at_counts f ls ls' len c t p lc lt lp tc pc pt rest =
    let s = total_three (λ k. f (link_at ls k)) (λ k. f (link_at ls' k)) c t p (length ls) lc lt lp tc pc pt (λ k a b d. ap f (sym (rest k a b d))) in
    let e = ap (total (λ k. f (link_at ls' k))) len in
    omega arith

meets_lines : (k : Link) (x y : ℕ) → Meets k x y → (lines k ≡ 2) × (one_if_link k ≡ 1)
meets_lines k x y (inl e) = (ap lines e, ap one_if_link e)
meets_lines k x y (inr e) = (ap lines e, ap one_if_link e)

meets_room : (ls : List Link) (c x y : ℕ) → Meets (link_at ls c) x y → c < length ls
meets_room ls c x y h = room ls c (λ q. meets_not (link_at ls c) x y h Empty q (λ a b f. let z : ◌≡◌ {A = ℕ} 0 1 = cc in omega arith))

-- one edge less than one_if_link
abbrev Tight : List Link → Type 0
Tight ls = total (λ k. lines (link_at ls k)) (length ls) + 1 ≡ total (λ k. one_if_link (link_at ls k)) (length ls)

cut_uses : (k : Link) (x y o : ℕ) → Meets k x y → Uses k o → (x ≡ o) ⊎ (y ≡ o)
cut_uses k x y o (inl e) u = subst (λ (z : Link). Uses z o) e u
cut_uses k x y o (inr e) u = ⊎_elim (λ q. inr q) (λ q. inl q) (subst (λ (z : Link). Uses z o) e u)

module _ (ls ls' : List Link) (c f g p q a p₂ q₂ a₂ : ℕ) (T : Wired ls ls' c f g p q a p₂ q₂ a₂) (n : Facts ls) (len : length ls' ≡ length ls) where
  wired_tight : Tight ls → Tight ls'
  wired_tight h =
      let lc = meets_room ls c p q₂ T.cut in
      let lf : f < length ls = room ls f (λ z. let b = T.fst in let z : ◌≡◌ {A = ℕ} 0 1 = cc in omega arith) in
      let lg : g < length ls = room ls g (λ z. let b = T.snd in let z : ◌≡◌ {A = ℕ} 0 1 = cc in omega arith) in
      let gf : g ≢ f = λ z. T.f≢g (sym z) in
      let L = at_counts lines ls ls' len c f g lc lf lg T.f≢c T.g≢c gf T.rest in
      let P = at_counts one_if_link ls ls' len c f g lc lf lg T.f≢c T.g≢c gf T.rest in
      let m = meets_lines (link_at ls c) p q₂ T.cut in
      let l1 : lines (link_at ls f) ≡ 0 = ap lines T.fst in
      let l2 : lines (link_at ls g) ≡ 0 = ap lines T.snd in
      let l3 : lines (link_at ls' c) ≡ 0 = ap lines T.at_c in
      let l4 : lines (link_at ls' f) ≡ 0 = ap lines T.at_f in
      let l5 : lines (link_at ls' g) ≡ 0 = ap lines T.at_g in
      let p1 : one_if_link (link_at ls f) ≡ 1 = ap one_if_link T.fst in
      let p2 : one_if_link (link_at ls g) ≡ 1 = ap one_if_link T.snd in
      let p3 : one_if_link (link_at ls' c) ≡ 0 = ap one_if_link T.at_c in
      let p4 : one_if_link (link_at ls' f) ≡ 1 = ap one_if_link T.at_f in
      let p5 : one_if_link (link_at ls' g) ≡ 0 = ap one_if_link T.at_g in
      let m0 = m.0 in let m1 = m.1 in
      omega arith

  -- second and the cut are drawn into first
  abbrev φ : ℕ → ℕ
  φ k = cond (eqb k c) f (cond (eqb k g) f k)

  φ-c : (k : ℕ) → k ≡ c → φ k ≡ f
  φ-c k e = cond-true (eqb k c) f (cond (eqb k g) f k) (eq-eqb k c e)

  φ-g : (k : ℕ) → k ≡ g → φ k ≡ f
  φ-g k e = cond-false (eqb k c) f (cond (eqb k g) f k) (ne_eqb k c (λ z. T.g≢c (sym e ∙ z))) ∙ cond-true (eqb k g) f k (eq-eqb k g e)

  φ-o : (k : ℕ) → k ≢ c → k ≢ g → φ k ≡ k
  φ-o k a b = cond-false (eqb k c) f (cond (eqb k g) f k) (ne_eqb k c a) ∙ cond-false (eqb k g) f k (ne_eqb k g b)

  φ-f : (k : ℕ) → k ≡ f → φ k ≡ f
  φ-f k e = φ-o k (λ z. T.f≢c (sym e ∙ z)) (λ z. T.f≢g (sym e ∙ z)) ∙ e

  module _ (σ : ℕ → Side) where
    -- an edge into a link that stays
    edge_stays : (e : Edge) → Kept ls σ e → e.to ≢ c → e.to ≢ f → e.to ≢ g → JoinedBy (Kept ls' σ) (φ e.from) (φ e.to)
    edge_stays e h tc tf tg =
        let o : ℕ = e.name in
        let u : Uses (link_at ls e.to) o = keeps_uses (σ e.to) (link_at ls e.to) o h.keeps in
        let ks : Keeps (σ e.to) (link_at ls' e.to) o = subst (λ (z : Link). Keeps (σ e.to) z o) (sym (T.rest e.to tc tf tg)) h.keeps in
        let np = Wi.not_p ls ls' c f g p q a p₂ q₂ a₂ T n e.to o tc u in
        let nq = Wi.not_q₂ ls ls' c f g p q a p₂ q₂ a₂ T n e.to o tc u in
        let last : JoinedBy (Kept ls' σ) e.to (φ e.to) = joined_eq (sym (φ-o e.to tc tg)) in
        let via : (k : ℕ) → φ e.from ≡ k → Concludes (link_at ls' k) o → JoinedBy (Kept ls' σ) (φ e.from) (φ e.to) = λ k z x. joined_trans (joined_eq z) (joined_trans (kept_edge o k e.to (record { ends = x; keeps = ks })) last) in
        elim (which c f g e.from) [
          | is_c z ↦ absurd (Wi.no_end_c ls ls' c f g p q a p₂ q₂ a₂ T n o (subst (λ (i : ℕ). Concludes (link_at ls i) o) z h.ends))
          | is_t z ↦ via f (φ-f e.from z) (concl o (Axiom p₂ q a) T.at_f (⊎_elim (λ y. absurd (np (sym y))) (λ y. inr y) (subst (λ (y : Link). Concludes y o) (ap (λ (i : ℕ). link_at ls i) z ∙ T.fst) h.ends)))
          | is_p z ↦ via f (φ-g e.from z) (concl o (Axiom p₂ q a) T.at_f (⊎_elim (λ y. inl y) (λ y. absurd (nq (sym y))) (subst (λ (y : Link). Concludes y o) (ap (λ (i : ℕ). link_at ls i) z ∙ T.snd) h.ends)))
          | other x y z ↦ via e.from (φ-o e.from x z) (subst (λ (i : Link). Concludes i o) (sym (T.rest e.from x y z)) h.ends)
        ]

    edge_map : (e : Edge) → Kept ls σ e → JoinedBy (Kept ls' σ) (φ e.from) (φ e.to)
    edge_map e h =
        let o : ℕ = e.name in
        let u : Uses (link_at ls e.to) o = keeps_uses (σ e.to) (link_at ls e.to) o h.keeps in
        elim (which c f g e.to) [
          | is_c z ↦ elim (cut_uses (link_at ls c) p q₂ o T.cut (subst (λ (i : ℕ). Uses (link_at ls i) o) z u)) [
            | inl y ↦ joined_eq (φ-f e.from (n.concluded_once e.from f o h.ends (concl o (Axiom p q a) T.fst (inl y))) ∙ sym (φ-c e.to z))
            | inr y ↦ joined_eq (φ-g e.from (n.concluded_once e.from g o h.ends (concl o (Axiom p₂ q₂ a₂) T.snd (inr y))) ∙ sym (φ-c e.to z))
          ]
          | is_t z ↦ absurd (subst (λ (y : Link). Uses y o) (ap (λ (i : ℕ). link_at ls i) z ∙ T.fst) u)
          | is_p z ↦ absurd (subst (λ (y : Link). Uses y o) (ap (λ (i : ℕ). link_at ls i) z ∙ T.snd) u)
          | other x y z ↦ edge_stays e h x y z
        ]

    -- a link that stands after stood before, and stays in place
    in_place : (k : ℕ) → link_at ls' k ≢ Empty → (link_at ls k ≢ Empty) × (φ k ≡ k)
    in_place k h = elim (which c f g k) [
      | is_c z ↦ absurd (h (ap (λ (i : ℕ). link_at ls' i) z ∙ T.at_c))
      | is_t z ↦ ((λ y. let b = sym T.fst ∙ sym (ap (λ (i : ℕ). link_at ls i) z) ∙ y in let z : ◌≡◌ {A = ℕ} 0 1 = cc in omega arith), φ-f k z ∙ sym z)
      | is_p z ↦ absurd (h (ap (λ (i : ℕ). link_at ls' i) z ∙ T.at_g))
      | other x y z ↦ ((λ i. h (T.rest k x y z ∙ i)), φ-o k x z)
    ]

    wired_connected : Connected ls σ → Connected ls' σ
    wired_connected C = record {
      one = (f, λ y. let b = sym T.at_f ∙ y in let z : ◌≡◌ {A = ℕ} 0 1 = cc in omega arith);
      all = λ u v hu hv.
          let a = in_place u hu in
          let b = in_place v hv in
          joined_trans (joined_eq (sym a.1)) (joined_trans (joined_along φ edge_map (C.all u v a.0 b.0)) (joined_eq b.1));
    }

  pub wired_correct : Correct ls → Correct ls'
  wired_correct H =
      let n' = Wi.facts_after ls ls' c f g p q a p₂ q₂ a₂ T n in
      let C : (σ : Switching) → Connected ls' σ = λ σ. wired_connected σ (H.connected σ) in
      record { connected = C; acyclic = λ σ. tree_acyclic ls' n' σ (C σ) (wired_tight (tree_lines ls n σ (H.connected σ) (H.acyclic σ))) }

-- the sides, but for the slot p
abbrev put : (ℕ → Side) → ℕ → Side → ℕ → Side
put σ p s k = cond (eqb k p) s (σ k)

put_same : (σ : ℕ → Side) (p : ℕ) (s : Side) (k : ℕ) → k ≡ p → put σ p s k ≡ s
put_same σ p s k e = cond-true (eqb k p) s (σ k) (eq-eqb k p e)

put_other : (σ : ℕ → Side) (p : ℕ) (s : Side) (k : ℕ) → k ≢ p → put σ p s k ≡ σ k
put_other σ p s k e = cond-false (eqb k p) s (σ k) (ne_eqb k p e)

module _ (ls ls' : List Link) (c t p x y l r m s : ℕ) (T : Parted ls ls' c t p x y l r m s) (n : Facts ls) (len : length ls' ≡ length ls) where
  parted_tight : Tight ls → Tight ls'
  parted_tight h =
      let lc = meets_room ls c x y T.cut in
      let lt : t < length ls = room ls t (λ z. let b = T.ten in let z : ◌≡◌ {A = ℕ} 0 1 = cc in omega arith) in
      let lp : p < length ls = room ls p (λ z. let b = T.pr in let z : ◌≡◌ {A = ℕ} 0 1 = cc in omega arith) in
      let L = at_counts lines ls ls' len c t p lc lt lp T.t≢c T.p≢c T.p≢t T.rest in
      let P = at_counts one_if_link ls ls' len c t p lc lt lp T.t≢c T.p≢c T.p≢t T.rest in
      let m = meets_lines (link_at ls c) x y T.cut in
      let l1 : lines (link_at ls t) ≡ 2 = ap lines T.ten in
      let l2 : lines (link_at ls p) ≡ 1 = ap lines T.pr in
      let l3 : lines (link_at ls' c) ≡ 0 = ap lines T.at_c in
      let l4 : lines (link_at ls' t) ≡ 2 = ap lines T.at_t in
      let l5 : lines (link_at ls' p) ≡ 2 = ap lines T.at_p in
      let p1 : one_if_link (link_at ls t) ≡ 1 = ap one_if_link T.ten in
      let p2 : one_if_link (link_at ls p) ≡ 1 = ap one_if_link T.pr in
      let p3 : one_if_link (link_at ls' c) ≡ 0 = ap one_if_link T.at_c in
      let p4 : one_if_link (link_at ls' t) ≡ 1 = ap one_if_link T.at_t in
      let p5 : one_if_link (link_at ls' p) ≡ 1 = ap one_if_link T.at_p in
      let m0 = m.0 in let m1 = m.1 in
      omega arith

  by_t : (o : ℕ) → (l ≡ o) ⊎ (r ≡ o) → Uses (link_at ls t) o
  by_t o u = uses o (Tensor l r x) T.ten u

  by_p : (o : ℕ) → (m ≡ o) ⊎ (s ≡ o) → Uses (link_at ls p) o
  by_p o u = uses o (Par m s y) T.pr u

  -- the links above the tensor and the par
  A : Stands ls l
  A = n.premises_stand t l (by_t l (inl refl))

  B : Stands ls r
  B = n.premises_stand t r (by_t r (inr refl))

  C : Stands ls m
  C = n.premises_stand p m (by_p m (inl refl))

  D : Stands ls s
  D = n.premises_stand p s (by_p s (inr refl))

  -- none of the three links
  record Far (k : ℕ) : Type 0 where
    not_c : k ≢ c
    not_t : k ≢ t
    not_p : k ≢ p

  -- what concludes a premise of a link other than the cut is none of the three
  far_from : (j o k : ℕ) → j ≢ c → Uses (link_at ls j) o → Concludes (link_at ls k) o → Far k
  far_from j o k jc u h = record {
    not_c = λ e. Pa.no_end_c ls ls' c t p x y l r m s T n o (subst (λ (i : ℕ). Concludes (link_at ls i) o) e h);
    not_t = λ e. Pa.not_x ls ls' c t p x y l r m s T n j o jc u (sym (subst (λ (z : Link). Concludes z o) (ap (λ (i : ℕ). link_at ls i) e ∙ T.ten) h));
    not_p = λ e. Pa.not_y ls ls' c t p x y l r m s T n j o jc u (sym (subst (λ (z : Link). Concludes z o) (ap (λ (i : ℕ). link_at ls i) e ∙ T.pr) h));
  }

  -- it concludes the same after
  ends_after : (j o k : ℕ) → j ≢ c → Uses (link_at ls j) o → Concludes (link_at ls k) o → Concludes (link_at ls' k) o
  ends_after j o k jc u h = subst (λ (z : Link). Concludes z o) (sym (Pa.stays ls ls' c t p x y l r m s T n k o (Pa.not_x ls ls' c t p x y l r m s T n j o jc u) (Pa.not_y ls ls' c t p x y l r m s T n j o jc u) h)) h

  module _ (σ : ℕ → Side) where
    -- the kept edges that touch none of the three links
    record Core (e : Edge) : Type 0 where
      kept : Kept ls σ e
      far : Far e.to

    core_use : (e : Edge) → Core e → Uses (link_at ls e.to) e.name
    core_use e h = keeps_uses (σ e.to) (link_at ls e.to) e.name h.kept.keeps

    core_from : (e : Edge) → Core e → Far e.from
    core_from e h = far_from e.to e.name e.from h.far.not_c (core_use e h) h.kept.ends

    core_after : (e : Edge) → Core e → Kept ls' σ e
    core_after e h = record {
      ends = ends_after e.to e.name e.from h.far.not_c (core_use e h) h.kept.ends;
      keeps = subst (λ (z : Link). Keeps (σ e.to) z e.name) (sym (T.rest e.to h.far.not_c h.far.not_t h.far.not_p)) h.kept.keeps;
    }

    -- the same under another side of the par
    core_of : (d : Side) (e : Edge) → Kept ls (put σ p d) e → Far e.to → Core e
    core_of d e h w = record {
      kept = record { ends = h.ends; keeps = subst (λ (z : Side). Keeps z (link_at ls e.to) e.name) (put_other σ p d e.to w.not_p) h.keeps };
      far = w;
    }

    core_put : (d : Side) (e : Edge) → Core e → Kept ls (put σ p d) e
    core_put d e h = record { ends = h.kept.ends; keeps = subst (λ (z : Side). Keeps z (link_at ls e.to) e.name) (sym (put_other σ p d e.to h.far.not_p)) h.kept.keeps }

    -- joined to a, b or c without the three links
    abbrev Near : ℕ → Type 0
    Near u = JoinedBy Core u A.0 ⊎ (JoinedBy Core u B.0 ⊎ JoinedBy Core u C.0)

    near_more : (u w : ℕ) → JoinedBy Core u w → Near w → Near u
    near_more u w h (inl k) = inl (joined_trans h k)
    near_more u w h (inr (inl k)) = inr (inl (joined_trans h k))
    near_more u w h (inr (inr k)) = inr (inr (joined_trans h k))

    far_end : (e : Edge) (u w : ℕ) → Core e → Ends e u w → Far w
    far_end e u w h (inl k) = subst Far k.1 h.far
    far_end e u w h (inr k) = subst Far k.1 (core_from e h)

    -- an edge with an end among the three, seen from its other end
    leaves : (e : Edge) (u w : ℕ) → Kept ls (put σ p left) e → Ends e u w → Far u → Far e.to ⊎ Near u
    leaves e u w h k far =
        let o : ℕ = e.name in
        let us : Uses (link_at ls e.to) o = keeps_uses (put σ p left e.to) (link_at ls e.to) o h.keeps in
        let from : (j : ℕ) → e.to ≡ j → u ≢ j → e.from ≡ u = λ j z ne. ⊎_elim (λ i. i.0) (λ i. absurd (ne (sym i.0 ∙ z))) k in
        elim (which c t p e.to) [
          | is_c z ↦ elim (cut_uses (link_at ls c) x y o T.cut (subst (λ (i : ℕ). Uses (link_at ls i) o) z us)) [
            | inl q ↦ absurd (far.not_t (sym (from c z far.not_c) ∙ n.concluded_once e.from t o h.ends (concl o (Tensor l r x) T.ten q)))
            | inr q ↦ absurd (far.not_p (sym (from c z far.not_c) ∙ n.concluded_once e.from p o h.ends (concl o (Par m s y) T.pr q)))
          ]
          | is_t z ↦ elim (subst (λ (i : Link). Uses i o) (ap (λ (i : ℕ). link_at ls i) z ∙ T.ten) us) [
            | inl q ↦ inr (inl (joined_eq (sym (from t z far.not_t) ∙ n.concluded_once e.from A.0 o h.ends (subst (λ (i : ℕ). Concludes (link_at ls A.0) i) q A.1))))
            | inr q ↦ inr (inr (inl (joined_eq (sym (from t z far.not_t) ∙ n.concluded_once e.from B.0 o h.ends (subst (λ (i : ℕ). Concludes (link_at ls B.0) i) q B.1)))))
          ]
          | is_p z ↦
              let k1 : Keeps left (link_at ls e.to) o = subst (λ (i : Side). Keeps i (link_at ls e.to) o) (put_same σ p left e.to z) h.keeps in
              let q : m ≡ o = subst (λ (i : Link). Keeps left i o) (ap (λ (i : ℕ). link_at ls i) z ∙ T.pr) k1 in
              inr (inr (inr (joined_eq (sym (from p z far.not_p) ∙ n.concluded_once e.from C.0 o h.ends (subst (λ (i : ℕ). Concludes (link_at ls C.0) i) q C.1)))))
          | other a b d ↦ inl (record { not_c = a; not_t = b; not_p = d })
        ]

    near : {u v : ℕ} {ss : List Step} → Walk (Kept ls (put σ p left)) u ss v → v ≡ t → Far u → Near u
    near (stop e) z far = absurd (far.not_t (e ∙ z))
    near (step {u = u} {s = k} h d rest) z far = elim (leaves k.over u k.at h d far) [
      | inl w ↦
          let core = core_of left k.over h w in
          near_more u k.at (joined_edge k.over core d) (near rest z (far_end k.over u k.at core d))
      | inr near-u ↦ near-u
    ]

    -- the new edges
    new_edge : (o u v j : ℕ) → j ≢ c → Uses (link_at ls j) o → Concludes (link_at ls u) o → (z : Link) → link_at ls' v ≡ z → Keeps (σ v) z o → JoinedBy (Kept ls' σ) u v
    new_edge o u v j jc us h z e k = kept_edge o u v (record { ends = ends_after j o u jc us h; keeps = subst (λ (i : Link). Keeps (σ v) i o) (sym e) k })

    a_t : JoinedBy (Kept ls' σ) A.0 t
    a_t = new_edge l A.0 t t T.t≢c (by_t l (inl refl)) A.1 (Cut l m) T.at_t (inl refl)

    c_t : JoinedBy (Kept ls' σ) C.0 t
    c_t = new_edge m C.0 t p T.p≢c (by_p m (inl refl)) C.1 (Cut l m) T.at_t (inr refl)

    b_p : JoinedBy (Kept ls' σ) B.0 p
    b_p = new_edge r B.0 p t T.t≢c (by_t r (inr refl)) B.1 (Cut r s) T.at_p (inl refl)

    d_p : JoinedBy (Kept ls' σ) D.0 p
    d_p = new_edge s D.0 p p T.p≢c (by_p s (inr refl)) D.1 (Cut r s) T.at_p (inr refl)

    after : {u v : ℕ} → JoinedBy Core u v → JoinedBy (Kept ls' σ) u v
    after h = joined_map core_after h

    -- if d were joined to b, the par that picks right would close a cycle
    not_b : ((u : ℕ) → OnCycle ls (put σ p right) u → ⊥) → JoinedBy Core D.0 B.0 → ⊥
    not_b free h =
        let τ : ℕ → Side = put σ p right in
        let wide : (e : Edge) → Kept ls τ e → e.name ≢ s → Except (Kept ls τ) s e = λ e k ne. record { is = k; other = ne } in
        let cut-x : Uses (link_at ls c) x = meets_left ls n c x y T.cut in
        let cut-y : Uses (link_at ls c) y = meets_right ls n c x y T.cut in
        let ps : Uses (link_at ls p) s = by_p s (inr refl) in
        let walk1 : JoinedBy (Except (Kept ls τ) s) D.0 B.0 = joined_map (λ e k. wide e (core_put right e k) (λ q. k.far.not_p (n.used_once e.to p s (subst (λ (i : ℕ). Uses (link_at ls e.to) i) q (core_use e k)) ps))) h in
        let e1 : JoinedBy (Except (Kept ls τ) s) B.0 t = kept_edge r B.0 t (wide (edge r B.0 t) (record { ends = B.1; keeps = subst (λ (i : Link). Keeps (τ t) i r) (sym T.ten) (inr refl) }) (λ q. T.p≢t (n.used_once p t s ps (by_t s (inr q))))) in
        let e2 : JoinedBy (Except (Kept ls τ) s) t c = kept_edge x t c (wide (edge x t c) (record { ends = concl x (Tensor l r x) T.ten refl; keeps = keeps_cut (link_at ls c) x y (τ c) T.cut x (inl refl) }) (λ q. T.p≢c (n.used_once p c s ps (subst (λ (i : ℕ). Uses (link_at ls c) i) q cut-x)))) in
        let e3 : JoinedBy (Except (Kept ls τ) s) p c = kept_edge y p c (wide (edge y p c) (record { ends = concl y (Par m s y) T.pr refl; keeps = keeps_cut (link_at ls c) x y (τ c) T.cut y (inr refl) }) (λ q. T.p≢c (n.used_once p c s ps (subst (λ (i : ℕ). Uses (link_at ls c) i) q cut-y)))) in
        let last : Kept ls τ (edge s D.0 p) = record { ends = D.1; keeps = subst (λ (i : Side). Keeps i (link_at ls p) s) (sym (put_same σ p right p refl)) (subst (λ (i : Link). Keeps right i s) (sym T.pr) refl) } in
        let around : JoinedBy (Except (Kept ls τ) s) D.0 p = joined_trans walk1 (joined_trans e1 (joined_trans e2 (joined_sym e3))) in
        free D.0 (closing (kept_names_tell ls n τ) (edge s D.0 p) last (kept_loopless ls n τ (edge s D.0 p) last) around)
      where
        keeps_cut : (k : Link) (x y : ℕ) (side : Side) → Meets k x y → (o : ℕ) → (x ≡ o) ⊎ (y ≡ o) → Keeps side k o
        keeps_cut k x y side (inl e) o h = subst (λ (i : Link). Keeps side i o) (sym e) h
        keeps_cut k x y side (inr e) o h = subst (λ (i : Link). Keeps side i o) (sym e) (⊎_elim (λ q. inr q) (λ q. inl q) h)

    p_t : ((u : ℕ) → OnCycle ls (put σ p right) u → ⊥) → Near D.0 → JoinedBy (Kept ls' σ) p t
    p_t free (inl h) = joined_trans (joined_sym d_p) (joined_trans (after h) a_t)
    p_t free (inr (inl h)) = absurd (not_b free h)
    p_t free (inr (inr h)) = joined_trans (joined_sym d_p) (joined_trans (after h) c_t)

    to_t : JoinedBy (Kept ls' σ) p t → (u : ℕ) → Near u → JoinedBy (Kept ls' σ) u t
    to_t pt u (inl h) = joined_trans (after h) a_t
    to_t pt u (inr (inl h)) = joined_trans (after h) (joined_trans b_p pt)
    to_t pt u (inr (inr h)) = joined_trans (after h) c_t

    parted_connected : Correct ls → Connected ls' σ
    parted_connected H =
        let old = H.connected (put σ p left) in
        let t_some : link_at ls t ≢ Empty = λ q. let b = T.ten in let z : ◌≡◌ {A = ℕ} 0 1 = cc in omega arith in
        let near-far : (u : ℕ) → link_at ls u ≢ Empty → Far u → Near u = λ u h far. near (old.all u t h t_some).walk refl far in
        let d-some : link_at ls D.0 ≢ Empty = λ q. subst (λ (z : Link). Concludes z s) q D.1 in
        let pt : JoinedBy (Kept ls' σ) p t = p_t (H.acyclic (put σ p right)) (near-far D.0 d-some (far_from p s D.0 T.p≢c (by_p s (inr refl)) D.1)) in
        let hub : (u : ℕ) → link_at ls' u ≢ Empty → JoinedBy (Kept ls' σ) u t = λ u h. elim (which c t p u) [
          | is_c e ↦ absurd (h (ap (λ (i : ℕ). link_at ls' i) e ∙ T.at_c))
          | is_t e ↦ joined_eq e
          | is_p e ↦ joined_trans (joined_eq e) pt
          | other a b d ↦ to_t pt u (near-far u (λ q. h (T.rest u a b d ∙ q)) (record { not_c = a; not_t = b; not_p = d }))
        ] in
        record {
          one = (t, λ q. let b = T.at_t in let z : ◌≡◌ {A = ℕ} 0 1 = cc in omega arith);
          all = λ u v hu hv. joined_trans (hub u hu) (joined_sym (hub v hv));
        }

  pub parted_correct : Correct ls → Correct ls'
  parted_correct H =
      let n' = Pa.facts_after ls ls' c t p x y l r m s T n in
      let K : (σ : Switching) → Connected ls' σ = λ σ. parted_connected σ H in
      record { connected = K; acyclic = λ σ. tree_acyclic ls' n' σ (K σ) (parted_tight (tree_lines ls n σ (H.connected σ) (H.acyclic σ))) }

pub step_keeps_correct_lem : (L : Type 0) → StepKeepsCorrect L
step_keeps_correct_lem L op d c ls ls' board board' (tensor_par t p x y l r m s h e _) n H = parted_correct ls ls' c t p x y l r m s (Pa.slots ls ls' c t p x y l r m s h e) n (ap length e ∙ parted_length ls c t p l r m s) H
step_keeps_correct_lem L op d c ls ls' board board' (wires f g p q a p₂ q₂ a₂ h e _) n H = wired_correct ls ls' c f g p q a p₂ q₂ a₂ (Wi.slots ls ls' c f g p q a p₂ q₂ a₂ h e) n (ap length e ∙ wired_length ls c f g q a p₂) H

-- a wire cut against itself is a cycle of two
pub self_cycle : (ls : List Link) → Facts ls → (σ : ℕ → Side) (c : ℕ) → CutsOneWire ls c → (u : ℕ) × OnCycle ls σ u
self_cycle ls n σ c (f, p, q, a, e, h) =
    let kp : Kept ls σ (edge p f c) = record { ends = concl p (Axiom p q a) e (inl refl); keeps = keeps_cut (link_at ls c) (σ c) h p (inl refl) } in
    let kq : Kept ls σ (edge q f c) = record { ends = concl q (Axiom p q a) e (inr refl); keeps = keeps_cut (link_at ls c) (σ c) h q (inr refl) } in
    let p≢q : p ≢ q = two_ends ls n f p q a e in
    let c≢f : c ≢ f = λ z. meets_not (link_at ls c) p q h (Axiom p q a) (ap (λ (i : ℕ). link_at ls i) z ∙ e) (no_axiom p q a) in (
      f,
      record {
        steps = record { over = edge p f c; at = c } ∷ record { over = edge q f c; at = f } ∷ [];
        closed = step kp (inl (refl, refl)) (step kq (inr (refl, refl)) (stop refl));
        two = omega arith;
        edges_apart = (λ i. p≢q (one i), (not_in_nil, tt));
        vertices_apart = (λ i. c≢f (one i), (not_in_nil, tt));
      },
    )
  where
    keeps_cut : (k : Link) (side : Side) → Meets k p q → (o : ℕ) → (p ≡ o) ⊎ (q ≡ o) → Keeps side k o
    keeps_cut k side (inl e) o h = subst (λ (i : Link). Keeps side i o) (sym e) h
    keeps_cut k side (inr e) o h = subst (λ (i : Link). Keeps side i o) (sym e) (⊎_elim (λ q. inr q) (λ q. inl q) h)

    one : {i j : ℕ} → In i (j ∷ []) → i ≡ j
    one (here e) = e
    one (there i) = absurd (not_in_nil i)

pub correct_cut_forms_lem : CorrectCutForms
correct_cut_forms_lem ls n H c a b e = elim (cut_forms_lem ls n c a b e) [
  | inl h ↦ inl h
  | inr (inl h) ↦ inr h
  | inr (inr h) ↦ let z = self_cycle ls n (λ k. left) c h in absurd (H.acyclic (λ k. left) z.0 z.1)
]
