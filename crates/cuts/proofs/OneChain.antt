-- A wire starts at most one chain.
use Rattle.std.proofs.Common.{◌≡◌, ℕ, ◌≢◌, List, [], ◌∷◌, sym, refl, ap, ◌∙◌, subst, inl, inr, ⊎_elim, arith}
use Rattle.links.specs.declared.link.Link.{Link}
use Rattle.links.specs.declared.link.Link.TheVariants.{Axiom, Tensor, Par}
use Rattle.cuts.specs.Chains.Way.{last, next}
use Rattle.cuts.specs.Claims.{OneChain}
use Rattle.cuts.proofs.Parting.{meets_not, no_tensor, no_par}
use Rattle.cuts.proofs.Chaining.{joins_end, joins_use, meets_pair}
use Rattle.links.specs.Links.{link_at, Uses}
use Rattle.links.specs.Facts.{EndsDiffer, Facts}
use Rattle.links.proofs.Reading.{concl}
use Rattle.switchings.specs.Switchings.{Side, left, right, pick}
use Rattle.cuts.specs.Steps.{Meets}
use Rattle.cuts.specs.Chains.{Joins, Lies, AboveCut, Match, Way}
use Rattle.cuts.proofs.Meeting.{meets_left}

abbrev onto : List Side → List Side → List Side
onto [] ys = ys
onto (x ∷ xs) ys = onto xs (x ∷ ys)

onto_back : (xs ys : List Side) → onto (onto xs ys) [] ≡ onto ys xs
onto_back [] ys = refl
onto_back (x ∷ xs) ys = onto_back xs (x ∷ ys)

joins_not_meets : (k : Link) (l r o a b : ℕ) → Joins k l r o → Meets k a b → ⊥
joins_not_meets k l r o a b (inl e) h = meets_not k a b h (Tensor l r o) e (no_tensor l r o)
joins_not_meets k l r o a b (inr e) h = meets_not k a b h (Par l r o) e (no_par l r o)

joins_same : (k : Link) (l r o l₂ r₂ o₂ : ℕ) → Joins k l r o → Joins k l₂ r₂ o₂ → (l ≡ l₂) × (r ≡ r₂) × (o ≡ o₂)
joins_same k l r o l₂ r₂ o₂ (inl e) (inl f) = let x : l ≡ l₂ = cc in let y : r ≡ r₂ = cc in let z : o ≡ o₂ = cc in (x, y, z)
joins_same k l r o l₂ r₂ o₂ (inr e) (inr f) = let x : l ≡ l₂ = cc in let y : r ≡ r₂ = cc in let z : o ≡ o₂ = cc in (x, y, z)
joins_same k l r o l₂ r₂ o₂ (inl e) (inr f) = let z : ◌≡◌ {A = ℕ} 0 1 = cc in absurd (omega arith)
joins_same k l r o l₂ r₂ o₂ (inr e) (inl f) = let z : ◌≡◌ {A = ℕ} 0 1 = cc in absurd (omega arith)

joins_two : (k : Link) (l r o : ℕ) → Joins k l r o → EndsDiffer k → l ≢ r
joins_two k l r o (inl e) h = subst EndsDiffer e h
joins_two k l r o (inr e) h = subst EndsDiffer e h

same_side : (s s₂ : Side) (l r d : ℕ) → l ≢ r → pick s l r ≡ d → pick s₂ l r ≡ d → s ≡ s₂
same_side left left l r d h p q = refl
same_side right right l r d h p q = refl
same_side left right l r d h p q = absurd (h (p ∙ sym q))
same_side right left l r d h p q = absurd (h (q ∙ sym p))

module _ (ls : List Link) (n : Facts ls) where
  -- the way down from d to a
  abbrev Down : List Side → ℕ → ℕ → Type 0
  Down [] d a = d ≡ a
  Down (s ∷ path) d a = (k : ℕ) × (l : ℕ) × (r : ℕ) × (o : ℕ) × Joins (link_at ls k) l r o × (pick s l r ≡ d) × Down path o a

  down : (path : List Side) (o d a : ℕ) (below : List Side) → Down below o a → Lies ls path o d → Down (onto path below) d a
  down [] o d a below h e = subst (λ (i : ℕ). Down below i a) e h
  down (s ∷ path) o d a below h e = down path (pick s e.1 e.2) d a (s ∷ below) (e.0, e.1, e.2, o, e.3, refl, h) e.4

  abbrev Cutting : ℕ → Type 0
  Cutting a = (c : ℕ) × (b : ℕ) × Meets (link_at ls c) a b

  bottom : (a k l r o : ℕ) (s : Side) → Cutting a → Joins (link_at ls k) l r o → pick s l r ≡ a → ⊥
  bottom a k l r o s (c, b, h) J e =
      let q = n.used_once k c a (subst (λ (i : ℕ). Uses (link_at ls k) i) e (joins_use (link_at ls k) s l r o J)) (meets_left ls n c a b h) in
      joins_not_meets (link_at ls k) l r o a b J (subst (λ (i : ℕ). Meets (link_at ls i) a b) (sym q) h)

  down_one : (xs ys : List Side) (d a a₂ : ℕ) → Cutting a → Cutting a₂ → Down xs d a → Down ys d a₂ → (xs ≡ ys) × (a ≡ a₂)
  down_one [] [] d a a₂ c c₂ h g = (refl, sym h ∙ g)
  down_one [] (s ∷ ys) d a a₂ c c₂ h g = absurd (bottom a g.0 g.1 g.2 g.3 s c g.4 (g.5 ∙ h))
  down_one (s ∷ xs) [] d a a₂ c c₂ h g = absurd (bottom a₂ h.0 h.1 h.2 h.3 s c₂ h.4 (h.5 ∙ g))
  down_one (s ∷ xs) (s₂ ∷ ys) d a a₂ c c₂ h g =
      let uk = subst (λ (i : ℕ). Uses (link_at ls h.0) i) h.5 (joins_use (link_at ls h.0) s h.1 h.2 h.3 h.4) in
      let uk₂ = subst (λ (i : ℕ). Uses (link_at ls g.0) i) g.5 (joins_use (link_at ls g.0) s₂ g.1 g.2 g.3 g.4) in
      let e = n.used_once h.0 g.0 d uk uk₂ in
      let J₂ : Joins (link_at ls h.0) g.1 g.2 g.3 = subst (λ (i : ℕ). Joins (link_at ls i) g.1 g.2 g.3) (sym e) g.4 in
      let z = joins_same (link_at ls h.0) h.1 h.2 h.3 g.1 g.2 g.3 h.4 J₂ in
      let z0 = z.0 in let z1 = z.1 in
      let p₂ : pick s₂ h.1 h.2 ≡ pick s₂ g.1 g.2 = cc in
      let side : s ≡ s₂ = same_side s s₂ h.1 h.2 d (joins_two (link_at ls h.0) h.1 h.2 h.3 h.4 (n.ends_differ h.0)) h.5 (p₂ ∙ g.5) in
      let rest = down_one xs ys h.3 a a₂ c c₂ h.6 (subst (λ (i : ℕ). Down ys i a₂) (sym z.2) g.6) in
      let r0 = rest.0 in
      let whole : s ∷ xs ≡ s₂ ∷ ys = cc in
      (whole, rest.1)

  up_one : (path : List Side) (o d e : ℕ) → Lies ls path o d → Lies ls path o e → d ≡ e
  up_one [] o d e h g = sym h ∙ g
  up_one (s ∷ path) o d e h g =
      let q = n.concluded_once h.0 g.0 o (joins_end (link_at ls h.0) h.1 h.2 o h.3) (joins_end (link_at ls g.0) g.1 g.2 o g.3) in
      let z = joins_same (link_at ls h.0) h.1 h.2 o g.1 g.2 o h.3 (subst (λ (i : ℕ). Joins (link_at ls i) g.1 g.2 o) (sym q) g.3) in
      let z0 = z.0 in let z1 = z.1 in
      let w : pick s g.1 g.2 ≡ pick s h.1 h.2 = cc in
      up_one path (pick s h.1 h.2) d e h.4 (subst (λ (i : ℕ). Lies ls path i e) w g.4)

  -- an end has one match
  match_one : (d e e₂ : ℕ) → Match ls d e → Match ls d e₂ → e ≡ e₂
  match_one d e e₂ M N =
      let h = down_one (onto M.path []) (onto N.path []) d M.a N.a (M.c, M.b, M.cut) (N.c, N.b, N.cut) (down M.path M.a d M.a [] refl M.one) (down N.path N.a d N.a [] refl N.one) in
      let same : M.path ≡ N.path = sym (onto_back M.path []) ∙ ap (λ (xs : List Side). onto xs []) h.0 ∙ onto_back N.path [] in
      let ec : N.c ≡ M.c = n.used_once N.c M.c M.a (subst (λ (i : ℕ). Uses (link_at ls N.c) i) (sym h.1) (meets_left ls n N.c N.a N.b N.cut)) (meets_left ls n M.c M.a M.b M.cut) in
      let cut₂ : Meets (link_at ls M.c) N.a N.b = subst (λ (i : ℕ). Meets (link_at ls i) N.a N.b) ec N.cut in
      let eb : M.b ≡ N.b = ⊎_elim (λ z. z.1) (λ z. absurd (differ (link_at ls M.c) M.a M.b (n.ends_differ M.c) M.cut (h.1 ∙ sym z.1))) (meets_pair (link_at ls M.c) M.a M.b N.a N.b M.cut cut₂) in
      let o₂ : Lies ls M.path M.b e₂ = subst (λ (i : ℕ). Lies ls M.path i e₂) (sym eb) (subst (λ (xs : List Side). Lies ls xs N.b e₂) (sym same) N.other) in
      up_one M.path M.b e e₂ M.other o₂
    where
      differ : (k : Link) (a b : ℕ) → EndsDiffer k → Meets k a b → a ≢ b
      differ k a b h (inl e) = subst EndsDiffer e h
      differ k a b h (inr e) = λ q. subst EndsDiffer e h (sym q)

  same_pos : (w p q a p₂ q₂ a₂ : ℕ) → link_at ls w ≡ Axiom p q a → link_at ls w ≡ Axiom p₂ q₂ a₂ → p ≡ p₂
  same_pos w p q a p₂ q₂ a₂ e f = cc

  above : (d e : ℕ) → Match ls d e → AboveCut ls d
  above d e M = record { c = M.c; a = M.a; b = M.b; path = M.path; cut = M.cut; lies = M.one }

  way_one : {w : ℕ} {ws : List ℕ} → Way ls w ws → (w₂ : ℕ) (vs : List ℕ) → w ≡ w₂ → Way ls w₂ vs → ws ≡ vs
  way_one (last {w = w} {p = p} {q = q} {a = a} e free) w₂ [] q₀ X = refl
  way_one (last {w = w} {p = p} {q = q} {a = a} e free) w₂ (v ∷ vs) q₀ (next {p = p₂} {q = q₂} {a = a₂} {q₂ = q₃} f f₂ M rest) =
      absurd (free (subst (AboveCut ls) (sym (same_pos w p q a p₂ q₂ a₂ e (ap (λ (i : ℕ). link_at ls i) q₀ ∙ f))) (above p₂ q₃ M)))
  way_one (next {w = w} {p = p} {q = q} {a = a} {q₂ = q₄} e e₂ M rest) w₂ [] q₀ (last {p = p₂} {q = q₂} {a = a₂} f free) =
      absurd (free (subst (AboveCut ls) (same_pos w p q a p₂ q₂ a₂ e (ap (λ (i : ℕ). link_at ls i) q₀ ∙ f)) (above p q₄ M)))
  way_one (next {w = w} {p = p} {q = q} {a = a} {v = v} {p₂ = p₃} {q₂ = q₃} {a₂ = a₃} {vs = vs} e e₂ M rest) w₂ (v' ∷ vs') q₀ (next {p = p₄} {q = q₄} {a = a₄} {p₂ = p₅} {q₂ = q₅} {a₂ = a₅} f f₂ N rest') =
      let ep = same_pos w p q a p₄ q₄ a₄ e (ap (λ (i : ℕ). link_at ls i) q₀ ∙ f) in
      let eq : q₃ ≡ q₅ = match_one p q₃ q₅ M (subst (λ (i : ℕ). Match ls i q₅) (sym ep) N) in
      let ev : v ≡ v' = n.concluded_once v v' q₃ (concl q₃ (Axiom p₃ q₃ a₃) e₂ (inr refl)) (concl q₃ (Axiom p₅ q₅ a₅) f₂ (inr (sym eq))) in
      let et : vs ≡ vs' = way_one rest v' vs' ev rest' in
      cc

pub one_chain : OneChain
one_chain ls n w ws vs C D = way_one ls n C.way w vs refl D.way
