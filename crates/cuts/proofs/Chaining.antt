-- Chains over a step.
use Rattle.std.proofs.Common.{◌≡◌, ℕ, zero, suc, ◌+◌, ◌-◌, ◌<◌, ◌≤◌, ◌≢◌, ◌⊎◌, List, [], ◌∷◌, length, sym, refl, ap, ◌∙◌, subst, inl, inr, ⊎_elim, arith, length-set}
use Rattle.std.proofs.lemmas.List.{get_or-set_same, get_or-set_other}
use Rattle.std.proofs.lemmas.Bool.{cases_eq}
use Rattle.links.specs.declared.link.Link.{Link}
use Rattle.links.specs.declared.link.Link.TheVariants.{Empty, Axiom, Tensor, Par}
use Rattle.cuts.specs.Steps.CutStep.{tensor_par, wires}
use Rattle.cuts.specs.Steps.Steps.{none, more}
use Rattle.cuts.specs.Chains.Way.{last, next}
use Rattle.cuts.specs.Claims.{Assoc, StepKeepsLabels, LabelsAlongChains}
use Rattle.cuts.proofs.Parting as Pa
use Rattle.cuts.proofs.Wiring as Wi
use Rattle.cuts.proofs.Parting.{Parted, Which, which, meets_not, no_tensor, no_par, no_axiom}
use Rattle.cuts.proofs.Parting.Which.{is_c, is_t, is_p, other}
use Rattle.cuts.proofs.Wiring.{Wired}
use Rattle.cuts.proofs.FactsKept.{step_keeps_facts_lem}
use Rattle.cuts.proofs.Costing.{parted_length, wired_length}
use Rattle.links.specs.Links.{link_at, Concludes, Uses, Stands}
use Rattle.links.specs.Facts.{InRange, Facts}
use Rattle.links.proofs.Reading.{concl, uses, room}
use Rattle.switchings.specs.Switchings.{Side, left, right, pick}
use Rattle.cuts.specs.Steps.{Meets, CutStep, Steps, label}
use Rattle.cuts.specs.Chains.{Joins, Lies, AboveCut, Match, Way, Chain, along, last_of, Positive, Negative, From}
use Rattle.cuts.proofs.Meeting.{meets_left}

pub joins_end : (k : Link) (l r o : ℕ) → Joins k l r o → Concludes k o
joins_end k l r o (inl e) = concl o (Tensor l r o) e refl
joins_end k l r o (inr e) = concl o (Par l r o) e refl

pub joins_use : (k : Link) (s : Side) (l r o : ℕ) → Joins k l r o → Uses k (pick s l r)
joins_use k left l r o (inl e) = uses l (Tensor l r o) e (inl refl)
joins_use k left l r o (inr e) = uses l (Par l r o) e (inl refl)
joins_use k right l r o (inl e) = uses r (Tensor l r o) e (inr refl)
joins_use k right l r o (inr e) = uses r (Par l r o) e (inr refl)

joins_move : (k k₂ : Link) (l r o : ℕ) → k₂ ≡ k → Joins k l r o → Joins k₂ l r o
joins_move k k₂ l r o q (inl e) = inl (q ∙ e)
joins_move k k₂ l r o q (inr e) = inr (q ∙ e)

meets_move : (k k₂ : Link) (a b : ℕ) → k₂ ≡ k → Meets k a b → Meets k₂ a b
meets_move k k₂ a b q (inl e) = inl (q ∙ e)
meets_move k k₂ a b q (inr e) = inr (q ∙ e)

meets_turn : (k : Link) (a b : ℕ) → Meets k a b → Meets k b a
meets_turn k a b (inl e) = inr e
meets_turn k a b (inr e) = inl e

first_of : (u v z u₂ v₂ z₂ : ℕ) → Axiom u v z ≡ Axiom u₂ v₂ z₂ → u ≡ u₂
first_of u v z u₂ v₂ z₂ e = cc

-- a cut has two premises
pub meets_pair : (k : Link) (x y a b : ℕ) → Meets k x y → Meets k a b → ((x ≡ a) × (y ≡ b)) ⊎ ((x ≡ b) × (y ≡ a))
meets_pair k x y a b (inl e) (inl f) = let p : x ≡ a = cc in let q : y ≡ b = cc in inl (p, q)
meets_pair k x y a b (inl e) (inr f) = let p : x ≡ b = cc in let q : y ≡ a = cc in inr (p, q)
meets_pair k x y a b (inr e) (inl f) = let p : x ≡ b = cc in let q : y ≡ a = cc in inr (p, q)
meets_pair k x y a b (inr e) (inr f) = let p : x ≡ a = cc in let q : y ≡ b = cc in inl (p, q)

meets_one : (k : Link) (x y a b : ℕ) → Meets k x y → Meets k a b → (x ≡ a) ⊎ (y ≡ a)
meets_one k x y a b h g = ⊎_elim (λ z. inl z.0) (λ z. inr z.1) (meets_pair k x y a b h g)

module _ (ls ls' : List Link) (c t p x y l r m s : ℕ) (T : Parted ls ls' c t p x y l r m s) (n : Facts ls) where
  joins_before : (k u v o : ℕ) → Joins (link_at ls' k) u v o → Joins (link_at ls k) u v o
  joins_before k u v o h = joins_move (link_at ls' k) (link_at ls k) u v o (sym (Pa.old_end ls ls' c t p x y l r m s T n k o (joins_end (link_at ls' k) u v o h)).3) h

  lies_before : (path : List Side) (o e : ℕ) → Lies ls' path o e → Lies ls path o e
  lies_before [] o e h = h
  lies_before (d ∷ path) o e h = (h.0, h.1, h.2, joins_before h.0 h.1 h.2 o h.3, lies_before path (pick d h.1 h.2) e h.4)

  above_left : (path : List Side) (e : ℕ) → Lies ls' path l e → Lies ls (left ∷ path) x e
  above_left path e h = (t, l, r, inl T.ten, lies_before path l e h)

  above_right : (path : List Side) (e : ℕ) → Lies ls' path r e → Lies ls (right ∷ path) x e
  above_right path e h = (t, l, r, inl T.ten, lies_before path r e h)

  beside_left : (path : List Side) (e : ℕ) → Lies ls' path m e → Lies ls (left ∷ path) y e
  beside_left path e h = (p, m, s, inr T.pr, lies_before path m e h)

  beside_right : (path : List Side) (e : ℕ) → Lies ls' path s e → Lies ls (right ∷ path) y e
  beside_right path e h = (p, m, s, inr T.pr, lies_before path s e h)

  lies_at : (path : List Side) (o o₂ e : ℕ) → o₂ ≡ o → Lies ls' path o e → Lies ls' path o₂ e
  lies_at path o o₂ e q h = subst (λ (z : ℕ). Lies ls' path z e) (sym q) h

  match_before : (d e : ℕ) → Match ls' d e → Match ls d e
  match_before d e M = elim (which c t p M.c) [
    | is_c q ↦ absurd (meets_not (link_at ls' M.c) M.a M.b M.cut Empty (ap (λ (i : ℕ). link_at ls' i) q ∙ T.at_c) (λ a b f. let z : ◌≡◌ {A = ℕ} 0 1 = cc in omega arith))
    | is_t q ↦ elim (meets_pair (link_at ls' M.c) l m M.a M.b (inl (ap (λ (i : ℕ). link_at ls' i) q ∙ T.at_t)) M.cut) [
      | inl z ↦ record { c = c; a = x; b = y; path = left ∷ M.path; cut = T.cut; one = above_left M.path d (lies_at M.path M.a l d z.0 M.one); other = beside_left M.path e (lies_at M.path M.b m e z.1 M.other) }
      | inr z ↦ record { c = c; a = y; b = x; path = left ∷ M.path; cut = meets_turn (link_at ls c) x y T.cut; one = beside_left M.path d (lies_at M.path M.a m d z.1 M.one); other = above_left M.path e (lies_at M.path M.b l e z.0 M.other) }
    ]
    | is_p q ↦ elim (meets_pair (link_at ls' M.c) r s M.a M.b (inl (ap (λ (i : ℕ). link_at ls' i) q ∙ T.at_p)) M.cut) [
      | inl z ↦ record { c = c; a = x; b = y; path = right ∷ M.path; cut = T.cut; one = above_right M.path d (lies_at M.path M.a r d z.0 M.one); other = beside_right M.path e (lies_at M.path M.b s e z.1 M.other) }
      | inr z ↦ record { c = c; a = y; b = x; path = right ∷ M.path; cut = meets_turn (link_at ls c) x y T.cut; one = beside_right M.path d (lies_at M.path M.a s d z.1 M.one); other = above_right M.path e (lies_at M.path M.b r e z.0 M.other) }
    ]
    | other u v w ↦ record { c = M.c; a = M.a; b = M.b; path = M.path; cut = meets_move (link_at ls' M.c) (link_at ls M.c) M.a M.b (sym (T.rest M.c u v w)) M.cut; one = lies_before M.path M.a d M.one; other = lies_before M.path M.b e M.other }
  ]

  -- what is above a cut after the step was above one before
  pub above_before : (e : ℕ) → AboveCut ls' e → AboveCut ls e
  above_before e A = elim (which c t p A.c) [
    | is_c q ↦ absurd (meets_not (link_at ls' A.c) A.a A.b A.cut Empty (ap (λ (i : ℕ). link_at ls' i) q ∙ T.at_c) (λ a b f. let z : ◌≡◌ {A = ℕ} 0 1 = cc in omega arith))
    | is_t q ↦ elim (meets_pair (link_at ls' A.c) l m A.a A.b (inl (ap (λ (i : ℕ). link_at ls' i) q ∙ T.at_t)) A.cut) [
      | inl z ↦ record { c = c; a = x; b = y; path = left ∷ A.path; cut = T.cut; lies = above_left A.path e (lies_at A.path A.a l e z.0 A.lies) }
      | inr z ↦ record { c = c; a = y; b = x; path = left ∷ A.path; cut = meets_turn (link_at ls c) x y T.cut; lies = beside_left A.path e (lies_at A.path A.a m e z.1 A.lies) }
    ]
    | is_p q ↦ elim (meets_pair (link_at ls' A.c) r s A.a A.b (inl (ap (λ (i : ℕ). link_at ls' i) q ∙ T.at_p)) A.cut) [
      | inl z ↦ record { c = c; a = x; b = y; path = right ∷ A.path; cut = T.cut; lies = above_right A.path e (lies_at A.path A.a r e z.0 A.lies) }
      | inr z ↦ record { c = c; a = y; b = x; path = right ∷ A.path; cut = meets_turn (link_at ls c) x y T.cut; lies = beside_right A.path e (lies_at A.path A.a s e z.1 A.lies) }
    ]
    | other u v w ↦ record { c = A.c; a = A.a; b = A.b; path = A.path; cut = meets_move (link_at ls' A.c) (link_at ls A.c) A.a A.b (sym (T.rest A.c u v w)) A.cut; lies = lies_before A.path A.a e A.lies }
  ]

  joins_not_c : (k u v o : ℕ) → Joins (link_at ls k) u v o → k ≢ c
  joins_not_c k u v o (inl e) = Pa.not_c ls ls' c t p x y l r m s T n k (Tensor u v o) e (no_tensor u v o)
  joins_not_c k u v o (inr e) = Pa.not_c ls ls' c t p x y l r m s T n k (Par u v o) e (no_par u v o)

  lies_after : (path : List Side) (o e : ℕ) → o ≢ x → o ≢ y → Lies ls path o e → Lies ls' path o e
  lies_after [] o e nx ny h = h
  lies_after (d ∷ path) o e nx ny h =
      let k : ℕ = h.0 in
      let J = h.3 in
      let kc = joins_not_c k h.1 h.2 o J in
      let u = joins_use (link_at ls k) d h.1 h.2 o J in
      let o₂ : ℕ = pick d h.1 h.2 in (
        k,
        h.1,
        h.2,
        joins_move (link_at ls k) (link_at ls' k) h.1 h.2 o (Pa.stays ls ls' c t p x y l r m s T n k o nx ny (joins_end (link_at ls k) h.1 h.2 o J)) J,
        lies_after path o₂ e (Pa.not_x ls ls' c t p x y l r m s T n k o₂ kc u) (Pa.not_y ls ls' c t p x y l r m s T n k o₂ kc u) h.4,
      )

  part_after : (j o e : ℕ) (path : List Side) → j ≢ c → Uses (link_at ls j) o → Lies ls path o e → Lies ls' path o e
  part_after j o e path jc u = lies_after path o e (Pa.not_x ls ls' c t p x y l r m s T n j o jc u) (Pa.not_y ls ls' c t p x y l r m s T n j o jc u)

  -- the links that conclude x and y
  at_x : (k u v o : ℕ) → x ≡ o → Joins (link_at ls k) u v o → (u ≡ l) × (v ≡ r)
  at_x k u v o q (inl e) =
      let i = n.concluded_once k t o (joins_end (link_at ls k) u v o (inl e)) (concl o (Tensor l r x) T.ten q) in
      let f : Tensor u v o ≡ Tensor l r x = sym e ∙ ap (λ (j : ℕ). link_at ls j) i ∙ T.ten in
      let a : u ≡ l = cc in let b : v ≡ r = cc in (a, b)
  at_x k u v o q (inr e) =
      let i = n.concluded_once k t o (joins_end (link_at ls k) u v o (inr e)) (concl o (Tensor l r x) T.ten q) in
      let f : Par u v o ≡ Tensor l r x = sym e ∙ ap (λ (j : ℕ). link_at ls j) i ∙ T.ten in
      let z : ◌≡◌ {A = ℕ} 0 1 = cc in absurd (omega arith)

  at_y : (k u v o : ℕ) → y ≡ o → Joins (link_at ls k) u v o → (u ≡ m) × (v ≡ s)
  at_y k u v o q (inr e) =
      let i = n.concluded_once k p o (joins_end (link_at ls k) u v o (inr e)) (concl o (Par m s y) T.pr q) in
      let f : Par u v o ≡ Par m s y = sym e ∙ ap (λ (j : ℕ). link_at ls j) i ∙ T.pr in
      let a : u ≡ m = cc in let b : v ≡ s = cc in (a, b)
  at_y k u v o q (inl e) =
      let i = n.concluded_once k p o (joins_end (link_at ls k) u v o (inl e)) (concl o (Par m s y) T.pr q) in
      let f : Tensor u v o ≡ Par m s y = sym e ∙ ap (λ (j : ℕ). link_at ls j) i ∙ T.pr in
      let z : ◌≡◌ {A = ℕ} 0 1 = cc in absurd (omega arith)

  use_t : (o : ℕ) → (l ≡ o) ⊎ (r ≡ o) → Uses (link_at ls t) o
  use_t o u = uses o (Tensor l r x) T.ten u

  use_p : (o : ℕ) → (m ≡ o) ⊎ (s ≡ o) → Uses (link_at ls p) o
  use_p o u = uses o (Par m s y) T.pr u

  from_x : (path : List Side) (o e : ℕ) → x ≡ o → e ≢ x → Lies ls path o e → AboveCut ls' e
  from_x [] o e q ne h = absurd (ne (sym (q ∙ h)))
  from_x (left ∷ path) o e q ne h = let z = at_x h.0 h.1 h.2 o q h.3 in record { c = t; a = h.1; b = m; path = path; cut = subst (λ (i : ℕ). Meets (link_at ls' t) i m) (sym z.0) (inl T.at_t); lies = part_after t h.1 e path T.t≢c (use_t h.1 (inl (sym z.0))) h.4 }
  from_x (right ∷ path) o e q ne h = let z = at_x h.0 h.1 h.2 o q h.3 in record { c = p; a = h.2; b = s; path = path; cut = subst (λ (i : ℕ). Meets (link_at ls' p) i s) (sym z.1) (inl T.at_p); lies = part_after t h.2 e path T.t≢c (use_t h.2 (inr (sym z.1))) h.4 }

  from_y : (path : List Side) (o e : ℕ) → y ≡ o → e ≢ y → Lies ls path o e → AboveCut ls' e
  from_y [] o e q ne h = absurd (ne (sym (q ∙ h)))
  from_y (left ∷ path) o e q ne h = let z = at_y h.0 h.1 h.2 o q h.3 in record { c = t; a = h.1; b = l; path = path; cut = subst (λ (i : ℕ). Meets (link_at ls' t) i l) (sym z.0) (inr T.at_t); lies = part_after p h.1 e path T.p≢c (use_p h.1 (inl (sym z.0))) h.4 }
  from_y (right ∷ path) o e q ne h = let z = at_y h.0 h.1 h.2 o q h.3 in record { c = p; a = h.2; b = r; path = path; cut = subst (λ (i : ℕ). Meets (link_at ls' p) i r) (sym z.1) (inr T.at_p); lies = part_after p h.2 e path T.p≢c (use_p h.2 (inr (sym z.1))) h.4 }

  -- the cuts but for c stay
  cut_stays : (k a b : ℕ) → k ≢ c → Meets (link_at ls k) a b → link_at ls' k ≡ link_at ls k
  cut_stays k a b kc h = T.rest k kc
      (λ q. meets_not (link_at ls k) a b h (Tensor l r x) (ap (λ (i : ℕ). link_at ls i) q ∙ T.ten) (no_tensor l r x))
      (λ q. meets_not (link_at ls k) a b h (Par m s y) (ap (λ (i : ℕ). link_at ls i) q ∙ T.pr) (no_par m s y))

  above_after : (e : ℕ) → e ≢ x → e ≢ y → AboveCut ls e → AboveCut ls' e
  above_after e nx ny A = elim (cases_eq A.c c) [
    | inl q ↦ elim (meets_one (link_at ls A.c) x y A.a A.b (meets_move (link_at ls c) (link_at ls A.c) x y (ap (λ (i : ℕ). link_at ls i) q) T.cut) A.cut) [
      | inl z ↦ from_x A.path A.a e z nx A.lies
      | inr z ↦ from_y A.path A.a e z ny A.lies
    ]
    | inr kc ↦ record { c = A.c; a = A.a; b = A.b; path = A.path; cut = meets_move (link_at ls A.c) (link_at ls' A.c) A.a A.b (cut_stays A.c A.a A.b kc A.cut) A.cut; lies = part_after A.c A.a e A.path kc (meets_left ls n A.c A.a A.b A.cut) A.lies }
  ]

  wire_before : (w u v z : ℕ) → link_at ls' w ≡ Axiom u v z → link_at ls w ≡ Axiom u v z
  wire_before w u v z e = sym (Pa.old_end ls ls' c t p x y l r m s T n w u (concl u (Axiom u v z) e (inl refl))).3 ∙ e

  free_before : (w u v z o : ℕ) → link_at ls' w ≡ Axiom u v z → (u ≡ o) ⊎ (v ≡ o) → (AboveCut ls' o → ⊥) → AboveCut ls o → ⊥
  free_before w u v z o e h free A =
      let st : Stands ls' o = (w, concl o (Axiom u v z) e h) in
      free (above_after o (Pa.not_x_after ls ls' c t p x y l r m s T n o st) (Pa.not_y_after ls ls' c t p x y l r m s T n o st) A)

  way_before : {w : ℕ} {ws : List ℕ} → Way ls' w ws → Way ls w ws
  way_before (last {w = w} {p = u} {q = v} {a = z} e free) = last (wire_before w u v z e) (free_before w u v z u e (inl refl) free)
  way_before (next {w = w} {p = u} {q = v} {a = z} {v = w₂} {p₂ = u₂} {q₂ = v₂} {a₂ = z₂} e e₂ M rest) = next (wire_before w u v z e) (wire_before w₂ u₂ v₂ z₂ e₂) (match_before u v₂ M) (way_before rest)

  pub parted_chain : (w : ℕ) (ws : List ℕ) → Chain ls' w ws → Chain ls w ws
  parted_chain w ws C = record { p = C.p; q = C.q; a = C.a; start = wire_before w C.p C.q C.a C.start; free = free_before w C.p C.q C.a C.q C.start (inr refl) C.free; way = way_before C.way }

module _ (ls ls' : List Link) (c f g p q a p₂ q₂ a₂ : ℕ) (T : Wired ls ls' c f g p q a p₂ q₂ a₂) (n : Facts ls) where
  w_joins_before : (k u v o : ℕ) → Joins (link_at ls' k) u v o → Joins (link_at ls k) u v o
  w_joins_before k u v o h =
      let d = Wi.old_use ls ls' c f g p q a p₂ q₂ a₂ T n k u (joins_use (link_at ls' k) left u v o h) in
      joins_move (link_at ls' k) (link_at ls k) u v o (sym (T.rest k d.0 d.1 d.2)) h

  w_joins_after : (k u v o : ℕ) → Joins (link_at ls k) u v o → Joins (link_at ls' k) u v o
  w_joins_after k u v o (inl e) = inl (Wi.stays ls ls' c f g p q a p₂ q₂ a₂ T n k (Tensor u v o) e (no_tensor u v o) (Wi.tensor_wire ls ls' c f g p q a p₂ q₂ a₂ T n u v o)).1
  w_joins_after k u v o (inr e) = inr (Wi.stays ls ls' c f g p q a p₂ q₂ a₂ T n k (Par u v o) e (no_par u v o) (Wi.par_wire ls ls' c f g p q a p₂ q₂ a₂ T n u v o)).1

  w_lies_before : (path : List Side) (o e : ℕ) → Lies ls' path o e → Lies ls path o e
  w_lies_before [] o e h = h
  w_lies_before (d ∷ path) o e h = (h.0, h.1, h.2, w_joins_before h.0 h.1 h.2 o h.3, w_lies_before path (pick d h.1 h.2) e h.4)

  w_lies_after : (path : List Side) (o e : ℕ) → Lies ls path o e → Lies ls' path o e
  w_lies_after [] o e h = h
  w_lies_after (d ∷ path) o e h = (h.0, h.1, h.2, w_joins_after h.0 h.1 h.2 o h.3, w_lies_after path (pick d h.1 h.2) e h.4)

  w_meets_before : (k x y : ℕ) → Meets (link_at ls' k) x y → Meets (link_at ls k) x y
  w_meets_before k x y (inl e) = inl (Wi.old_cut ls ls' c f g p q a p₂ q₂ a₂ T n k x y e).1
  w_meets_before k x y (inr e) = inr (Wi.old_cut ls ls' c f g p q a p₂ q₂ a₂ T n k y x e).1

  w_match_before : (d e : ℕ) → Match ls' d e → Match ls d e
  w_match_before d e M = record { c = M.c; a = M.a; b = M.b; path = M.path; cut = w_meets_before M.c M.a M.b M.cut; one = w_lies_before M.path M.a d M.one; other = w_lies_before M.path M.b e M.other }

  pub w_above_before : (e : ℕ) → AboveCut ls' e → AboveCut ls e
  w_above_before e A = record { c = A.c; a = A.a; b = A.b; path = A.path; cut = w_meets_before A.c A.a A.b A.cut; lies = w_lies_before A.path A.a e A.lies }

  -- nothing is above the end of a wire
  lone : (k u v z o : ℕ) → link_at ls k ≡ Axiom u v z → (u ≡ o) ⊎ (v ≡ o) → (path : List Side) (e : ℕ) → Lies ls path o e → o ≡ e
  lone k u v z o h i [] e y = y
  lone k u v z o h i (d ∷ path) e y =
      let j = n.concluded_once y.0 k o (joins_end (link_at ls y.0) y.1 y.2 o y.3) (concl o (Axiom u v z) h i) in
      let b = ap (λ (x : ℕ). link_at ls x) j ∙ h in
      absurd (elim y.3 [
        | inl t ↦ let z : ◌≡◌ {A = ℕ} 0 1 = cc in omega arith
        | inr t ↦ let z : ◌≡◌ {A = ℕ} 0 1 = cc in omega arith
      ])

  w_above_after : (e : ℕ) → e ≢ p → e ≢ q₂ → AboveCut ls e → AboveCut ls' e
  w_above_after e np nq A = elim (cases_eq A.c c) [
    | inl d ↦ elim (meets_one (link_at ls A.c) p q₂ A.a A.b (meets_move (link_at ls c) (link_at ls A.c) p q₂ (ap (λ (i : ℕ). link_at ls i) d) T.cut) A.cut) [
      | inl z ↦ absurd (np (sym (z ∙ lone f p q a A.a T.fst (inl z) A.path e A.lies)))
      | inr z ↦ absurd (nq (sym (z ∙ lone g p₂ q₂ a₂ A.a T.snd (inr z) A.path e A.lies)))
    ]
    | inr kc ↦ record {
      c = A.c;
      a = A.a;
      b = A.b;
      path = A.path;
      lies = w_lies_after A.path A.a e A.lies;
      cut = meets_move (link_at ls A.c) (link_at ls' A.c) A.a A.b
          (T.rest A.c kc
          (λ z. meets_not (link_at ls A.c) A.a A.b A.cut (Axiom p q a) (ap (λ (i : ℕ). link_at ls i) z ∙ T.fst) (no_axiom p q a))
          (λ z. meets_not (link_at ls A.c) A.a A.b A.cut (Axiom p₂ q₂ a₂) (ap (λ (i : ℕ). link_at ls i) z ∙ T.snd) (no_axiom p₂ q₂ a₂))) A.cut;
    }
  ]

  -- a wire of the new structure
  data Wire (w u v z : ℕ) : Type 0 where
    old : w ≢ f → link_at ls w ≡ Axiom u v z → Wire w u v z
    new : w ≡ f → p₂ ≡ u → q ≡ v → Wire w u v z

  wire : (w u v z : ℕ) → link_at ls' w ≡ Axiom u v z → Wire w u v z
  wire w u v z e = elim (which c f g w) [
    | is_c d ↦ let y = sym T.at_c ∙ sym (ap (λ (i : ℕ). link_at ls' i) d) ∙ e in let z : ◌≡◌ {A = ℕ} 0 1 = cc in absurd (omega arith)
    | is_t d ↦
        let y : Axiom p₂ q a ≡ Axiom u v z = sym T.at_f ∙ sym (ap (λ (i : ℕ). link_at ls' i) d) ∙ e in
        let y1 : p₂ ≡ u = cc in
        let y2 : q ≡ v = cc in
        new d y1 y2
    | is_p d ↦ let y = sym T.at_g ∙ sym (ap (λ (i : ℕ). link_at ls' i) d) ∙ e in let z : ◌≡◌ {A = ℕ} 0 1 = cc in absurd (omega arith)
    | other x y d ↦ old y (sym (T.rest w x y d) ∙ e)
  ]

  -- it had the same negative end before
  neg_before : (w u v z : ℕ) → Wire w u v z → (i : ℕ) × (j : ℕ) × (link_at ls w ≡ Axiom i v j)
  neg_before w u v z (old d e) = (u, z, e)
  neg_before w u v z (new d e e₂) = (p, a, subst (λ (i : ℕ). link_at ls w ≡ Axiom p i a) e₂ (ap (λ (i : ℕ). link_at ls i) d ∙ T.fst))

  w_free_before : (w u v z o : ℕ) → link_at ls' w ≡ Axiom u v z → (u ≡ o) ⊎ (v ≡ o) → (AboveCut ls' o → ⊥) → AboveCut ls o → ⊥
  w_free_before w u v z o e h free A =
      let d = Wi.end_before ls ls' c f g p q a p₂ q₂ a₂ T n w o (Wi.end ls ls' c f g p q a p₂ q₂ a₂ T n w o (concl o (Axiom u v z) e h)) in
      free (w_above_after o d.1 d.2 A)

  joint : Match ls p q₂
  joint = record { c = c; a = p; b = q₂; path = []; cut = T.cut; one = refl; other = refl }

  -- wires are numbered from 1
  numbered : (w u v z : ℕ) → link_at ls w ≡ Axiom u v z → 1 ≤ w
  numbered w u v z e = (subst (InRange w) e (n.in_range w)).0.0

  module _ {L : Type 0} (op : L → L → L) (d : L) (assoc : Assoc op) (board board' : List L)
      (lab-f : label d board' f ≡ op (label d board f) (label d board g)) (lab-o : (k : ℕ) → k ≢ f → 1 ≤ k → label d board' k ≡ label d board k) where
    abbrev Before : ℕ → List ℕ → Type 0
    Before w ws' = (ws : List ℕ) × Way ls w ws × (along op d board w ws ≡ along op d board' w ws') × ((o : ℕ) → Positive ls' (last_of w ws') o → Positive ls (last_of w ws) o)

    lab_w : (w : ℕ) → w ≡ f → label d board' w ≡ op (label d board w) (label d board g)
    lab_w w e = ap (λ (i : ℕ). label d board' i) e ∙ lab-f ∙ sym (ap (λ (i : ℕ). op (label d board i) (label d board g)) e)

    at_last : (w u v z : ℕ) → link_at ls' w ≡ Axiom u v z → (AboveCut ls u → ⊥) → Wire w u v z → Before w []
    at_last w u v z e free (old wf e₂) = ([], last e₂ free, sym (lab-o w wf (numbered w u v z e₂)), λ o h. (h.0, h.1, e₂ ∙ sym e ∙ h.2))
    at_last w u v z e free (new wf eu ev) = (
      g ∷ [],
      next (ap (λ (i : ℕ). link_at ls i) wf ∙ T.fst) T.snd joint (last T.snd (λ A. free (subst (AboveCut ls) eu A))),
      sym (lab_w w wf),
      λ o h. let k : Axiom u v z ≡ Axiom o h.0 h.1 = sym e ∙ h.2 in let i : p₂ ≡ o = eu ∙ first_of u v z o h.0 h.1 k in (q₂, a₂, subst (λ (i : ℕ). link_at ls g ≡ Axiom i q₂ a₂) i T.snd),
    )

    at_next : (w u v z x : ℕ) (i j k : ℕ) → link_at ls x ≡ Axiom i j k → Match ls u j → (xs' : List ℕ) → Before x xs' → Wire w u v z → Before w (x ∷ xs')
    at_next w u v z x i j k ex M xs' B (old wf e) =
        (x ∷ B.0, next e ex M B.1, ap (λ (y : L). op (label d board w) y) B.2 ∙ ap (λ (y : L). op y (along op d board' x xs')) (sym (lab-o w wf (numbered w u v z e))), B.3)
    at_next w u v z x i j k ex M xs' B (new wf eu ev) = (
      g ∷ x ∷ B.0,
      next (ap (λ (i : ℕ). link_at ls i) wf ∙ T.fst) T.snd joint (next T.snd ex (subst (λ (o : ℕ). Match ls o j) (sym eu) M) B.1),
      sym (assoc (label d board w) (label d board g) (along op d board x B.0))
          ∙ ap (λ (y : L). op (op (label d board w) (label d board g)) y) B.2 ∙ ap (λ (y : L). op y (along op d board' x xs')) (sym (lab_w w wf)),
      B.3,
    )

    w_way_before : {w : ℕ} {ws : List ℕ} → Way ls' w ws → Before w ws
    w_way_before (last {w = w} {p = u} {q = v} {a = z} e free) = at_last w u v z e (w_free_before w u v z u e (inl refl) free) (wire w u v z e)
    w_way_before (next {w = w} {p = u} {q = v} {a = z} {v = x} {p₂ = u₂} {q₂ = v₂} {a₂ = z₂} {vs = xs} e e₂ M rest) =
        let b = neg_before x u₂ v₂ z₂ (wire x u₂ v₂ z₂ e₂) in
        at_next w u v z x b.0 v₂ b.1 b.2 (w_match_before u v₂ M) xs (w_way_before rest) (wire w u v z e)

    pub wired_chain : (w : ℕ) (ws' : List ℕ) → Chain ls' w ws' → (i j : ℕ) → Positive ls' (last_of w ws') i → Negative ls' w j → From op d ls board w (along op d board' w ws') i j
    wired_chain w ws' C i j hp hn =
        let B = w_way_before C.way in
        let s = neg_before w C.p C.q C.a (wire w C.p C.q C.a C.start) in
        record {
          wires = B.0;
          chain = record { p = s.0; q = C.q; a = s.1; start = s.2; free = w_free_before w C.p C.q C.a C.q C.start (inr refl) C.free; way = B.1 };
          same = B.2;
          positive = B.3 i hp;
          negative = neg_before w hn.0 j hn.1 (wire w hn.0 j hn.1 hn.2);
        }

pub step_keeps_labels_lem : (L : Type 0) → StepKeepsLabels L
step_keeps_labels_lem L op d assoc c ls ls' board board' (tensor_par t p x y l r m s h e el) n long w ws' C i j hp hn =
    let T = Pa.slots ls ls' c t p x y l r m s h e in
    record {
      wires = ws';
      chain = parted_chain ls ls' c t p x y l r m s T n w ws' C;
      same = sym (ap (λ (λs : List L). along op d λs w ws') el);
      positive = (hp.0, hp.1, wire_before ls ls' c t p x y l r m s T n (last_of w ws') i hp.0 hp.1 hp.2);
      negative = (hn.0, hn.1, wire_before ls ls' c t p x y l r m s T n w hn.0 j hn.1 hn.2);
    }
step_keeps_labels_lem L op d assoc c ls ls' board board' (wires f g p q a p₂ q₂ a₂ h e el) n long w ws' C i j hp hn =
    let T = Wi.slots ls ls' c f g p q a p₂ q₂ a₂ h e in
    let lf : f < length ls = room ls f (λ q. let a = T.fst in let z : ◌≡◌ {A = ℕ} 0 1 = cc in omega arith) in
    let one : 1 ≤ f = numbered ls ls' c f g p q a p₂ q₂ a₂ T n f p q a T.fst in
    let lf₂ : f - 1 < length board = omega arith in
    let new : L = op (label d board f) (label d board g) in
    wired_chain ls ls' c f g p q a p₂ q₂ a₂ T n op d assoc board board'
    (ap (λ (λs : List L). label d λs f) el ∙ get_or-set_same board (f - 1) new d lf₂)
    (λ k ne from. ap (λ (λs : List L). label d λs k) el ∙ get_or-set_other board (f - 1) (k - 1) new d (λ z. ne (omega arith)))
    w ws' C i j hp hn

-- the rows keep their lengths
step_long : (L : Type 0) (op : L → L → L) (d : L) (c : ℕ) (ls ls' : List Link) (board board' : List L) → CutStep op d c ls board ls' board' → length ls ≤ length board + 1 → length ls' ≤ length board' + 1
step_long L op d c ls ls' board board' (tensor_par t p x y l r m s h e el) long = let a = ap length e ∙ parted_length ls c t p l r m s in let b = ap length el in omega arith
step_long L op d c ls ls' board board' (wires f g p q a p₂ q₂ a₂ h e el) long = let x = ap length e ∙ wired_length ls c f g q a p₂ in let b = ap length el ∙ length-set board (f - 1) (op (label d board f) (label d board g)) in omega arith

back_steps : (L : Type 0) (op : L → L → L) (d : L) → Assoc op → (k : ℕ) (ls ls' : List Link) (board board' : List L) → Steps op d k ls board ls' board' → Facts ls → length ls ≤ length board + 1
    → (w : ℕ) (ws' : List ℕ) → Chain ls' w ws' → (p q : ℕ) → Positive ls' (last_of w ws') p → Negative ls' w q → From op d ls board w (along op d board' w ws') p q
back_steps L op d assoc zero ls ls' board board' none n long w ws' C p q hp hn = record { wires = ws'; chain = C; same = refl; positive = hp; negative = hn }
back_steps L op d assoc (suc k) ls ls' board board' (more {c = c} {ls₁ = ls₁} {board₁ = board₁} s rest) n long w ws' C p q hp hn =
    let n₁ = step_keeps_facts_lem L op d c ls ls₁ board board₁ s n in
    let B = back_steps L op d assoc k ls₁ ls' board₁ board' rest n₁ (step_long L op d c ls ls₁ board board₁ s long) w ws' C p q hp hn in
    let D = step_keeps_labels_lem L op d assoc c ls ls₁ board board₁ s n long w B.wires B.chain p q B.positive B.negative in
    record { wires = D.wires; chain = D.chain; same = D.same ∙ B.same; positive = D.positive; negative = D.negative }

pub labels_along_chains : (L : Type 0) → LabelsAlongChains L
labels_along_chains L op d assoc k ls ls' board board' s n long free w p q a e =
    let clear : (o : ℕ) → AboveCut ls' o → ⊥ = λ o A. elim A.cut [ inl z ↦ free A.c A.a A.b z | inr z ↦ free A.c A.b A.a z ] in
    back_steps L op d assoc k ls ls' board board' s n long w [] (record { p = p; q = q; a = a; start = e; free = clear q; way = last e (clear p) }) p q (q, a, e) (p, a, e)
