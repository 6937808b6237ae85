-- Rows that a call writes: sides from a switching, conclusions in rising order.
use Rattle.std.proofs.Common.{◌≡◌, ℕ, zero, suc, ◌+◌, ◌-◌, ◌<◌, ◌≤◌, cond, eqb, ◌≢◌, ◌⊎◌, List, [], ◌∷◌, ◌++◌, length, get_or, drop, sym, refl, ap, ◌∙◌, subst, inl, inr, ⊎_elim, arith, length-append, length-drop, get_or-drop, get_or-append-add}
use lib.ListN.{get_or-append}
use Rattle.std.proofs.lemmas.Bool.{cases_eq, cases_lt}
use Rattle.graphs.specs.Walks.{Edge}
use Rattle.graphs.proofs.Walks.{joined_map, cycle_map}
use Rattle.links.specs.declared.link.Link.{Link}
use Rattle.links.specs.declared.link.Link.TheVariants.{Empty, Axiom, Tensor, Par, Cut}
use Rattle.links.specs.Links.{link_at, Conclusion}
use Rattle.links.specs.Facts.{Within, InRange, Facts}
use Rattle.links.proofs.Deciding.{Dec, stands, premise}
use Rattle.switchings.specs.Switchings.{Side, left, right, pick, Switching, Keeps, Kept, OnCycle, NoWalk}
use Rattle.switchings.specs.Rows.{entry, sides_of, Shows}

-- a list written over the start of a row
abbrev pub front : List ℕ → List ℕ → List ℕ
front xs row = xs ++ drop (length xs) row

pub front_in : (xs row : List ℕ) (i : ℕ) → i < length xs → get_or (front xs row) i 0 ≡ get_or xs i 0
front_in xs row i l = get_or-append xs (drop (length xs) row) 0 i l

pub front_past : (xs row : List ℕ) (i : ℕ) → length xs ≤ i → get_or (front xs row) i 0 ≡ get_or row i 0
front_past xs row i l =
    let e : i ≡ length xs + (i - length xs) = omega arith in
    ap (λ (k : ℕ). get_or (front xs row) k 0) e ∙ get_or-append-add xs (drop (length xs) row) (i - length xs) 0 ∙ get_or-drop (length xs) row (i - length xs) 0 ∙ ap (λ (k : ℕ). get_or row k 0) (sym e)

pub front_long : (xs row : List ℕ) → length xs ≤ length row → length (front xs row) ≡ length row
front_long xs row l = let a = length-append xs (drop (length xs) row) in let b = length-drop (length xs) row in omega arith

abbrev pub mark : Link → Side → ℕ
mark Empty s = 0
mark (Axiom p q a) s = 0
mark (Tensor l r o) s = 0
mark (Par l r o) left = 1
mark (Par l r o) right = 2
mark (Cut l r) s = 0

mark_par : (l r o : ℕ) (s : Side) → (mark (Par l r o) s ≡ 1) ⊎ (mark (Par l r o) s ≡ 2)
mark_par l r o left = inl refl
mark_par l r o right = inr refl

mark_back : (l r o : ℕ) (s : Side) → cond (eqb (mark (Par l r o) s) 2) right left ≡ s
mark_back l r o left = refl
mark_back l r o right = refl

mark_other : (z : Link) (s : Side) → ((l r o : ℕ) → z ≢ Par l r o) → mark z s ≡ 0
mark_other Empty s h = refl
mark_other (Axiom p q a) s h = refl
mark_other (Tensor l r o) s h = refl
mark_other (Par l r o) s h = absurd (h l r o refl)
mark_other (Cut l r) s h = refl

unfoldable pub marks : List Link → (ℕ → Side) → ℕ → ℕ → List ℕ
marks ls σ i zero = []
marks ls σ i (suc n) = mark (link_at ls i) (σ i) ∷ marks ls σ (suc i) n

marks_long : (ls : List Link) (σ : ℕ → Side) (i n : ℕ) → length (marks ls σ i n) ≡ n
unfolding marks
marks_long ls σ i zero = refl
marks_long ls σ i (suc n) = ap suc (marks_long ls σ (suc i) n)

marks_at : (ls : List Link) (σ : ℕ → Side) (i n k : ℕ) → k < n → get_or (marks ls σ i n) k 0 ≡ mark (link_at ls (i + k)) (σ (i + k))
unfolding marks
marks_at ls σ i zero k l = absurd (omega arith)
marks_at ls σ i (suc n) zero l = let e : i ≡ i + 0 = omega arith in ap (λ (j : ℕ). mark (link_at ls j) (σ j)) e
marks_at ls σ i (suc n) (suc k) l = let e : suc i + k ≡ i + suc k = omega arith in marks_at ls σ (suc i) n k (omega arith) ∙ ap (λ (j : ℕ). mark (link_at ls j) (σ j)) e

keeps_same : (z : Link) (s t : Side) (o : ℕ) → ((l r c : ℕ) → z ≡ Par l r c → t ≡ s) → Keeps s z o → Keeps t z o
keeps_same Empty s t o h k = k
keeps_same (Axiom p q a) s t o h k = k
keeps_same (Tensor l r c) s t o h k = k
keeps_same (Par l r c) s t o h k = subst (λ (x : Side). pick x l r ≡ o) (sym (h l r c refl)) k
keeps_same (Cut l r) s t o h k = k

module _ (ls : List Link) (long : length ls ≡ 257) (facts : Facts ls) (σ : Switching) (row : List ℕ) (wide : 256 ≤ length row) where
  -- the row that shows the switching
  abbrev pub sided : List ℕ
  sided = front (marks ls σ 1 256) row

  marked : (n : ℕ) → Within 256 n → entry sided n ≡ mark (link_at ls n) (σ n)
  marked n (low, high) =
      let m = marks_long ls σ 1 256 in
      let e : 1 + (n - 1) ≡ n = omega arith in
      front_in (marks ls σ 1 256) row (n - 1) (omega arith) ∙ marks_at ls σ 1 256 (n - 1) (omega arith) ∙ ap (λ (j : ℕ). mark (link_at ls j) (σ j)) e

  pub sided_shows : Shows ls row sided
  sided_shows =
      let m = marks_long ls σ 1 256 in
      record {
        long = front_long (marks ls σ 1 256) row (omega arith);
        pars = λ n l r c w e.
            let q : entry sided n ≡ mark (Par l r c) (σ n) = marked n w ∙ ap (λ (z : Link). mark z (σ n)) e in
            ⊎_elim (λ a. inl (q ∙ a)) (λ a. inr (q ∙ a)) (mark_par l r c (σ n));
        others = λ n w h. marked n w ∙ mark_other (link_at ls n) (σ n) h;
        beyond = λ i ge. front_past (marks ls σ 1 256) row i (omega arith);
      }

  same_side : (n l r c : ℕ) → link_at ls n ≡ Par l r c → sides_of sided n ≡ σ n
  same_side n l r c e =
      let w : Within 256 n = (subst (InRange n) e (facts.in_range n)).0 in
      let q : entry sided n ≡ mark (Par l r c) (σ n) = marked n w ∙ ap (λ (z : Link). mark z (σ n)) e in
      ap (λ (k : ℕ). cond (eqb k 2) right left) q ∙ mark_back l r c (σ n)

  kept_there : (e : Edge) → Kept ls σ e → Kept ls (sides_of sided) e
  kept_there e k = record { ends = k.ends; keeps = keeps_same (link_at ls e.to) (σ e.to) (sides_of sided e.to) e.name (λ l r c q. same_side e.to l r c q) k.keeps }

  kept_back : (e : Edge) → Kept ls (sides_of sided) e → Kept ls σ e
  kept_back e k = record { ends = k.ends; keeps = keeps_same (link_at ls e.to) (sides_of sided e.to) (σ e.to) e.name (λ l r c q. sym (same_side e.to l r c q)) k.keeps }

  pub cycle_there : (n : ℕ) → OnCycle ls σ n → OnCycle ls (sides_of sided) n
  cycle_there n c = cycle_map kept_there c

  pub gap_there : (m n : ℕ) → NoWalk ls σ m n → NoWalk ls (sides_of sided) m n
  gap_there m n g = record { one_stands = g.one_stands; other_stands = g.other_stands; no_walk = λ j. g.no_walk (joined_map kept_back j) }

-- the numbers from 1 to n that are P, rising
pub record Upto (P : ℕ → Type 0) (n : ℕ) : Type 0 where
  pub xs : List ℕ
  pub few : length xs ≤ n
  pub rising : (i j : ℕ) → i < j → j < length xs → get_or xs i 0 < get_or xs j 0
  pub sound : (i : ℕ) → i < length xs → P (get_or xs i 0) × (get_or xs i 0 ≤ n)
  pub complete : (o : ℕ) → P o → 1 ≤ o → o ≤ n → (i : ℕ) × (i < length xs) × (get_or xs i 0 ≡ o)

module _ (P : ℕ → Type 0) (dec : (o : ℕ) → Dec (P o)) where
  grown : (n : ℕ) → Upto P n → P (suc n) → Upto P (suc n)
  grown n u p =
      let xs = u.xs in
      let ys = xs ++ (suc n ∷ []) in
      let len : length ys ≡ length xs + 1 = length-append xs (suc n ∷ []) in
      let few = u.few in
      let old : (i : ℕ) → i < length xs → get_or ys i 0 ≡ get_or xs i 0 = λ i l. get_or-append xs (suc n ∷ []) 0 i l in
      let last : get_or ys (length xs) 0 ≡ suc n = (let e : length xs ≡ length xs + 0 = omega arith in ap (λ (k : ℕ). get_or ys k 0) e ∙ get_or-append-add xs (suc n ∷ []) 0 0) in
      record {
        xs = ys;
        few = omega arith;
        rising = λ i j l k. ⊎_elim
            (λ lt. let a = u.rising i j l lt in let b = old i (omega arith) in let c = old j lt in omega arith)
            (λ ge. let e : j ≡ length xs = omega arith in let a = (u.sound i (omega arith)).1 in let b = old i (omega arith) in let c = ap (λ (k : ℕ). get_or ys k 0) e ∙ last in omega arith)
            (cases_lt j (length xs));
        sound = λ i l. ⊎_elim
            (λ lt. let a = u.sound i lt in let b = old i lt in let c = a.1 in (subst P (sym b) a.0, omega arith))
            (λ ge. let e : i ≡ length xs = omega arith in let c = ap (λ (k : ℕ). get_or ys k 0) e ∙ last in (subst P (sym c) p, omega arith))
            (cases_lt i (length xs));
        complete = λ o q a b. ⊎_elim
            (λ e. (length xs, omega arith, last ∙ sym e))
            (λ ne. let c = u.complete o q a (omega (arith, ne)) in let l = c.1 in (c.0, omega arith, old c.0 l ∙ c.2))
            (cases_eq o (suc n));
      }

  pub upto : (n : ℕ) → Upto P n
  upto zero = record { xs = []; few = omega arith; rising = λ i j l k. absurd (omega arith); sound = λ i l. absurd (omega arith); complete = λ o p a b. absurd (omega arith) }
  upto (suc n) = elim (dec (suc n)) [
    | inl p ↦ grown n (upto n) p
    | inr np ↦
        let u = upto n in
        let few = u.few in
        record {
          xs = u.xs;
          few = omega arith;
          rising = u.rising;
          sound = λ i l. let a = u.sound i l in let c = a.1 in (a.0, omega arith);
          complete = λ o p a b. ⊎_elim (λ e. absurd (np (subst P e p))) (λ ne. u.complete o p a (omega (arith, ne))) (cases_eq o (suc n));
        }
  ]

pub conclusion : (ls : List Link) (o : ℕ) → Dec (Conclusion ls o)
conclusion ls o = elim (stands ls o) [
  | inl s ↦ elim (premise ls o) [ inl u ↦ inr (λ c. c.1 u.0 u.1) | inr nu ↦ inl (s, λ k u. nu (k, u)) ]
  | inr ns ↦ inr (λ c. ns c.0)
]
