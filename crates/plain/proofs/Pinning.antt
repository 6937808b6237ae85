-- Two outcomes of one call from one state agree, but for the named freedoms.
use Rattle.std.proofs.Common.{◌≡◌, ℕ, zero, suc, ◌<◌, ◌≤◌, ◌↔◌, List, length, get_or, sym, refl, ap, ◌∙◌, subst, inl, inr, ⊎_elim, arith}
use Rattle.std.proofs.lemmas.List.{same_lists, get_or_default}
use Rattle.std.proofs.lemmas.Bool.{cases_eq, cases_lt}
use Rattle.refusals.specs.declared.refusal.Refusal.{Refusal}
use Rattle.refusals.specs.declared.refusal.Refusal.TheVariants.{TooShort}
use Rattle.refusals.proofs.Numbering.{one_first, none_first}
use Rattle.links.specs.declared.link.Link.{Link}
use Rattle.links.specs.declared.link.Link.TheVariants.{Tensor, Par, Cut}
use Rattle.links.specs.Links.{Conclusion, cut_count}
use Rattle.links.specs.Facts.{Facts}
use Rattle.switchings.specs.Rows.{sides_of, Shows}
use Rattle.sequents.specs.Sequents.{Move}
use Rattle.cuts.specs.Steps.{CutStep}
use Rattle.cuts.specs.Costs.{LowestCut, RunDown}
use Rattle.cuts.specs.Costs.RunDown.{spent, clear, again}
use Rattle.cuts.proofs.FactsKept.{step_keeps_facts_lem}
use Rattle.cuts.proofs.Stepping.{one_step}
use Rattle.plain.specs.State.{Stage, draft, net, State, Ticket}
use Rattle.plain.specs.Calls.{Call, opening, placing_axiom, placing_tensor, placing_par, placing_cut, withdrawing, judging, reopening, reducing, running_down, writing, listing, Outcome, done, refused, Verdict, accepted, cyclic, apart, Ran, Answer}
use Rattle.plain.specs.Fits.{Fits}
use Rattle.plain.specs.Step.{Does, Judged, Listed, Reduced, RanDown, Placed, PlacedWire, Withdrawn, Says}
use Rattle.plain.specs.Sound.{Sound}
use Rattle.plain.specs.Pinned.{SameButSides, SameVerdict, SameJudgement, SameWriting, Agree, Pinned}
use Rattle.plain.proofs.Soundness.{not_short, some_label}
use Rattle.plain.proofs.Lawfulness.{every_state_sound}

same_ticket : {kind : Stage} (j k : Ticket kind) → j.number ≡ k.number → j ≡ k
same_ticket j k e = λ i. record { number = e i }

same_ran : (j k : Ran) → j.made ≡ k.made → j.left ≡ k.left → j ≡ k
same_ran j k e f = λ i. record { made = e i; left = f i }

same_state : {L : Type 0} (t u : State L) → t.links ≡ u.links → t.serial ≡ u.serial → t.stage ≡ u.stage → t.board ≡ u.board → t ≡ u
same_state t u a b c d = λ i. record { links = a i; serial = b i; stage = c i; board = d i }

one_lowest : (ls : List Link) (c e : ℕ) → LowestCut ls c → LowestCut ls e → c ≡ e
one_lowest ls c e x y = ⊎_elim
    (λ l. absurd (y.least c x.left x.right l x.cut))
    (λ g. ⊎_elim (λ q. q) (λ ne. absurd (x.least e y.left y.right (omega (arith, ne)) y.cut)) (cases_eq c e))
    (cases_lt c e)

pub one_down : {L : Type 0} (op : L → L → L) (d : L) {b k k₂ : ℕ} {ls ls₁ ls₂ : List Link} {board board₁ board₂ : List L} → RunDown op d b k ls board ls₁ board₁ → RunDown op d b k₂ ls board ls₂ board₂ → Facts ls → (k ≡ k₂) × (ls₁ ≡ ls₂) × (board₁ ≡ board₂)
one_down op d spent spent n = (refl, refl, refl)
one_down op d spent (clear f) n = (refl, refl, refl)
one_down op d (clear f) spent n = (refl, refl, refl)
one_down op d (clear f) (clear g) n = (refl, refl, refl)
one_down op d (clear f) (again {c = c} low s r) n = absurd (f c low.left low.right low.cut)
one_down op d (again {c = c} low s r) (clear f) n = absurd (f c low.left low.right low.cut)
one_down {L} op d (again {budget = b} {made = k} {c = c} {ls = ls} {ls₁ = ms} {ls₂ = ns} {board = board} {board₁ = ks} {board₂ = js} low s r) (again {made = k₂} {c = c₂} {ls₁ = ms₂} {ls₂ = ns₂} {board₁ = ks₂} {board₂ = js₂} low₂ s₂ r₂) n =
    let e = one_lowest ls c₂ c low₂ low in
    let o = one_step L op d c ls ms ms₂ board ks ks₂ n s (subst (λ (i : ℕ). CutStep op d i ls board ms₂ ks₂) e s₂) in
    let r₃ : RunDown op d b k₂ ms ks ns₂ js₂ = subst (λ (x : List L). RunDown op d b k₂ ms x ns₂ js₂) (sym o.1) (subst (λ (x : List Link). RunDown op d b k₂ x ks₂ ns₂ js₂) (sym o.0) r₂) in
    let I = one_down op d r r₃ (step_keeps_facts_lem L op d c ls ms board ks s n) in
    (ap suc I.0, I.1, I.2)

-- two rising rows of the same numbers
record Rises (P : ℕ → Type 0) (f : ℕ → ℕ) (count : ℕ) : Type 0 where
  pub rising : (i j : ℕ) → i < j → j < count → f i < f j
  pub each : (o : ℕ) → P o ↔ ((i : ℕ) × (i < count) × (f i ≡ o))

module _ (P : ℕ → Type 0) where
  -- where they agree below i, the one is at most the other there
  at_most : (f g : ℕ → ℕ) (m n i : ℕ) → Rises P f m → Rises P g n → i < m → i < n → ((j : ℕ) → j < i → f j ≡ g j) → g i ≤ f i
  at_most f g m n i F G l k same =
      let a = (F.each (f i)).1 (i, l, refl) in
      let z = (G.each (f i)).0 a in
      elim (cases_lt z.0 i) [
        | inl lt ↦ let b = F.rising z.0 i lt l in let c = same z.0 lt in let e = z.2 in absurd (omega arith)
        | inr ge ↦ elim (cases_eq z.0 i) [
          | inl e ↦ let q : g z.0 ≡ g i = ap g e in let e₂ = z.2 in omega arith
          | inr ne ↦ let b = G.rising i z.0 (omega (arith, ne)) z.1 in let e₂ = z.2 in omega arith
        ]
      ]

  agree_below : (f g : ℕ → ℕ) (m n : ℕ) → Rises P f m → Rises P g n → (i : ℕ) → i ≤ m → i ≤ n → (j : ℕ) → j < i → f j ≡ g j
  agree_below f g m n F G zero a b j l = absurd (omega arith)
  agree_below f g m n F G (suc i) a b j l =
      let below = agree_below f g m n F G i (omega arith) (omega arith) in
      elim (cases_eq j i) [
        | inl e ↦
            let x = at_most f g m n i F G (omega arith) (omega arith) below in
            let y = at_most g f n m i G F (omega arith) (omega arith) (λ k h. sym (below k h)) in
            let p : f j ≡ f i = ap f e in let q : g j ≡ g i = ap g e in omega arith
        | inr ne ↦ below j (omega (arith, ne))
      ]

  not_fewer : (f g : ℕ → ℕ) (m n : ℕ) → Rises P f m → Rises P g n → m < n → ⊥
  not_fewer f g m n F G l =
      let a = (G.each (g m)).1 (m, l, refl) in
      let z = (F.each (g m)).0 a in
      let e = agree_below f g m n F G m (omega arith) (omega arith) z.0 z.1 in
      let b = G.rising z.0 m z.1 l in
      let e₂ = z.2 in
      omega arith

  one_count : (f g : ℕ → ℕ) (m n : ℕ) → Rises P f m → Rises P g n → m ≡ n
  one_count f g m n F G = elim (cases_lt m n) [
    | inl l ↦ absurd (not_fewer f g m n F G l)
    | inr ge ↦ elim (cases_eq m n) [ inl e ↦ e | inr ne ↦ absurd (not_fewer g f n m G F (omega (arith, ne))) ]
  ]

but_sides : (ls : List Link) (row row₁ row₂ : List ℕ) → Shows ls row row₁ → Shows ls row row₂ → SameButSides ls row₁ row₂
but_sides ls row row₁ row₂ x y =
    record {
      long = x.long ∙ sym y.long;
      others = λ n within none. x.others n within none ∙ sym (y.others n within none);
      beyond = λ i past. x.beyond i past ∙ sym (y.beyond i past);
    }

module _ {L : Type 0} where
  one_list : (s t u : State L) (row row₁ row₂ : List ℕ) (m n : ℕ) → Listed s t row row₁ m → Listed s u row row₂ n → (m ≡ n) × (row₁ ≡ row₂)
  one_list s t u row row₁ row₂ m n listed₁ listed₂ =
      let x = listed₁.list in
      let y = listed₂.list in
      let P : ℕ → Type 0 = λ o. Conclusion s.links o in
      let f : ℕ → ℕ = λ i. get_or row₁ i 0 in
      let g : ℕ → ℕ = λ i. get_or row₂ i 0 in
      let F : Rises P f m = record { rising = x.rising; each = x.each } in
      let G : Rises P g n = record { rising = y.rising; each = y.each } in
      let e = one_count P f g m n F G in
      let long = x.long ∙ sym y.long in (
        e,
        same_lists row₁ row₂ long (λ k d l.
            get_or_default row₁ k d 0 l
            ∙ ⊎_elim
            (λ lt. agree_below P f g m n F G m (omega arith) (omega arith) k lt)
            (λ ge. x.beyond k ge ∙ sym (y.beyond k (omega arith)))
            (cases_lt k m)
            ∙ get_or_default row₂ k 0 d (omega arith)),
      )

  one_verdict : (s t u : State L) (row row₁ row₂ : List ℕ) (v w : Verdict) → Judged s t row row₁ v → Judged s u row row₂ w → (t ≡ u) × SameVerdict s.links v row₁ w row₂
  one_verdict s t u row row₁ row₂ (accepted j) (accepted k) x y = (x.after ∙ sym y.after, (same_ticket j k (x.ticket ∙ sym y.ticket), x.row_kept ∙ sym y.row_kept))
  one_verdict s t u row row₁ row₂ (accepted j) (cyclic n k) x y = absurd (x.correct.acyclic (sides_of row₂) n y.bad)
  one_verdict s t u row row₁ row₂ (accepted j) (apart n m k) x y = absurd (y.bad.no_walk ((x.correct.connected (sides_of row₂)).all n m y.bad.one_stands y.bad.other_stands))
  one_verdict s t u row row₁ row₂ (cyclic n k) (accepted j) y x = absurd (x.correct.acyclic (sides_of row₁) n y.bad)
  one_verdict s t u row row₁ row₂ (apart n m k) (accepted j) y x = absurd (y.bad.no_walk ((x.correct.connected (sides_of row₁)).all n m y.bad.one_stands y.bad.other_stands))
  one_verdict s t u row row₁ row₂ (cyclic n j) (cyclic m k) x y = (x.after ∙ sym y.after, (same_ticket j k (x.ticket ∙ sym y.ticket), but_sides s.links row row₁ row₂ x.sides y.sides))
  one_verdict s t u row row₁ row₂ (cyclic n j) (apart m i k) x y = (x.after ∙ sym y.after, (same_ticket j k (x.ticket ∙ sym y.ticket), but_sides s.links row row₁ row₂ x.sides y.sides))
  one_verdict s t u row row₁ row₂ (apart n i j) (cyclic m k) x y = (x.after ∙ sym y.after, (same_ticket j k (x.ticket ∙ sym y.ticket), but_sides s.links row row₁ row₂ x.sides y.sides))
  one_verdict s t u row row₁ row₂ (apart n i j) (apart m l k) x y = (x.after ∙ sym y.after, (same_ticket j k (x.ticket ∙ sym y.ticket), but_sides s.links row row₁ row₂ x.sides y.sides))

  module _ (op : L → L → L) where
    -- calls whose answer is only that they are done
    plain_pins : (F : Refusal → Type 0) (P : State L → Type 0) (s : State L) → ((t u : State L) → P t → P u → t ≡ u) → (a b : Outcome Unit Unit) (t u : State L) → Says F (λ (_ : Unit). P t) (λ (_ : Unit). t ≡ s) a → Says F (λ (_ : Unit). P u) (λ (_ : Unit). u ≡ s) b → (t ≡ u) × (a ≡ b)
    plain_pins F P s one (done v₁) (done v₂) t u (h, w) (i, v) = (one t u w v, refl)
    plain_pins F P s one (done x) (refused why y) t u (h, w) (i, v) = none_first F why h i
    plain_pins F P s one (refused why x) (done y) t u (h, w) (i, v) = none_first F why i h
    plain_pins F P s one (refused why v₁) (refused whe v₂) t u (h, w) (i, v) = (w ∙ sym v, ap (λ (r : Refusal). refused r tt) (one_first F why whe h i))

    judging_pins : (k : Ticket draft) (row : List ℕ) (a b : Outcome Verdict (Ticket draft)) (row₁ row₂ : List ℕ) (s t u : State L) → Does op (judging k row) (record { outcome = a; after = row₁ }) s t → Does op (judging k row) (record { outcome = b; after = row₂ }) s u → (t ≡ u) × SameJudgement s.links a row₁ b row₂
    judging_pins k row (done v) (done w) row₁ row₂ s t u (h, x) (i, y) = one_verdict s t u row row₁ row₂ v w x y
    judging_pins k row (done v) (refused why b) row₁ row₂ s t u (h, x) (i, y) = none_first (Fits (judging k row) s) why h i
    judging_pins k row (refused why b) (done v) row₁ row₂ s t u (h, x) (i, y) = none_first (Fits (judging k row) s) why i h
    judging_pins k row (refused why b) (refused whe d) row₁ row₂ s t u (h, x) (i, y) = (x.2 ∙ sym y.2, (one_first (Fits (judging k row) s) why whe h i, x.0 ∙ sym y.0, x.1 ∙ sym y.1))

    writing_pins : (k : Ticket net) (list : List Move) (room : ℕ) (a b : Outcome Unit Unit) (list₁ list₂ : List Move) (s t u : State L) → Does op (writing k list room) (record { outcome = a; after = list₁ }) s t → Does op (writing k list room) (record { outcome = b; after = list₂ }) s u → (t ≡ u) × SameWriting a list₁ b list₂
    writing_pins k list room (done v) (done w) list₁ list₂ s t u (h, x) (i, y) = (x.after ∙ sym y.after, tt)
    writing_pins k list room (done v) (refused why b) list₁ list₂ s t u (h, x) (i, y) = none_first (Fits (writing k list room) s) why h i
    writing_pins k list room (refused why b) (done v) list₁ list₂ s t u (h, x) (i, y) = none_first (Fits (writing k list room) s) why i h
    writing_pins k list room (refused why b) (refused whe d) list₁ list₂ s t u (h, x) (i, y) = (x.1 ∙ sym y.1, (one_first (Fits (writing k list room) s) why whe h i, x.0 ∙ sym y.0))

    listing_pins : (row : List ℕ) (a b : Outcome ℕ Unit) (row₁ row₂ : List ℕ) (s t u : State L) → Does op (listing row) (record { outcome = a; after = row₁ }) s t → Does op (listing row) (record { outcome = b; after = row₂ }) s u → (t ≡ u) × ((a ≡ b) × (row₁ ≡ row₂))
    listing_pins row (done m) (done n) row₁ row₂ s t u (h, x) (i, y) = let o = one_list s t u row row₁ row₂ m n x y in (x.after ∙ sym y.after, (ap (λ (c : ℕ). done c) o.0, o.1))
    listing_pins row (done v) (refused why b) row₁ row₂ s t u (h, x) (i, y) = none_first (Fits (listing row) s) why h i
    listing_pins row (refused why b) (done v) row₁ row₂ s t u (h, x) (i, y) = none_first (Fits (listing row) s) why i h
    listing_pins row (refused why v₁) (refused whe v₂) row₁ row₂ s t u (h, x) (i, y) = (x.1 ∙ sym y.1, (ap (λ (r : Refusal). refused r tt) (one_first (Fits (listing row) s) why whe h i), x.0 ∙ sym y.0))

    one_reduced : (n : ℕ) (s t u : State L) (d : L) → Facts s.links → Reduced op n s t → Reduced op n s u → t ≡ u
    one_reduced n s t u d f x y =
        let o = one_step L op d n s.links t.links u.links s.board t.board u.board f (x.step d) (y.step d) in
        same_state t u o.0 (x.serial ∙ sym y.serial) (x.stage ∙ sym y.stage) o.1

    one_ran : (b : ℕ) (s t u : State L) (d : L) (j k : Ran) → Facts s.links → RanDown op b s t j → RanDown op b s u k → (t ≡ u) × (j ≡ k)
    one_ran b s t u d j k f x y =
        let o = one_down op d (x.steps d) (y.steps d) f in (
          same_state t u o.1 (x.serial ∙ sym y.serial) (x.stage ∙ sym y.stage) o.2,
          same_ran j k o.0 (x.left ∙ ap cut_count o.1 ∙ sym y.left),
        )

    pub pins : (c : Call L) (a b : Answer c) (s t u : State L) → Sound s → Does op c a s t → Does op c b s u → (t ≡ u) × Agree s.links c a b
    pins opening (done j) (done k) s t u g (h, x) (i, y) = let e = x.after ∙ sym y.after in (e, ap (λ (z : Ticket draft). done z) (same_ticket j k (x.ticket ∙ ap (λ (z : State L). z.serial) e ∙ sym y.ticket)))
    pins opening (done v) (refused why b) s t u g (h, x) (i, y) = none_first (Fits opening s) why h i
    pins opening (refused why b) (done v) s t u g (h, x) (i, y) = none_first (Fits opening s) why i h
    pins opening (refused why v₁) (refused whe v₂) s t u g (h, x) (i, y) = (x ∙ sym y, ap (λ (r : Refusal). refused r tt) (one_first (Fits opening s) why whe h i))
    pins (placing_axiom k n p q c x) a b s t u g v w = plain_pins (Fits (placing_axiom k n p q c x) s) (λ t. PlacedWire n p q c x s t) s (λ t u y z. y.after ∙ sym z.after) a b t u v w
    pins (placing_tensor k n l r o) a b s t u g v w = plain_pins (Fits (placing_tensor k n l r o) s) (λ t. Placed n (Tensor l r o) s t) s (λ t u y z. y.after ∙ sym z.after) a b t u v w
    pins (placing_par k n l r o) a b s t u g v w = plain_pins (Fits (placing_par k n l r o) s) (λ t. Placed n (Par l r o) s t) s (λ t u y z. y.after ∙ sym z.after) a b t u v w
    pins (placing_cut k n l r) a b s t u g v w = plain_pins (Fits (placing_cut k n l r) s) (λ t. Placed n (Cut l r) s t) s (λ t u y z. y.after ∙ sym z.after) a b t u v w
    pins (withdrawing k n) a b s t u g v w = plain_pins (Fits (withdrawing k n) s) (λ t. Withdrawn n s t) s (λ t u y z. y.after ∙ sym z.after) a b t u v w
    pins (judging k row) a b s t u g v w = judging_pins k row a.outcome b.outcome a.after b.after s t u v w
    pins (reopening k) (done a) (done b) s t u g (h, x) (i, y) = (x.after ∙ sym y.after, ap (λ (z : Ticket draft). done z) (same_ticket a b (x.ticket ∙ sym y.ticket)))
    pins (reopening k) (done v) (refused why b) s t u g (h, x) (i, y) = none_first (Fits (reopening k) s) why h i
    pins (reopening k) (refused why b) (done v) s t u g (h, x) (i, y) = none_first (Fits (reopening k) s) why i h
    pins (reopening k) (refused why a) (refused whe b) s t u g (h, x) (i, y) =
        let e = one_first (Fits (reopening k) s) why whe h i in
        let f = x.0 ∙ sym y.0 in
        (x.1 ∙ sym y.1, cc)
    pins (reducing k n) (done v₁) (done v₂) s t u g (h, x) (i, y) = (one_reduced n s t u (some_label s.board (not_short (length s.board) (λ short. h TooShort (inr (inl short))))) g.facts x y, refl)
    pins (reducing k n) (done v) (refused why b) s t u g (h, x) (i, y) = none_first (Fits (reducing k n) s) why h i
    pins (reducing k n) (refused why b) (done v) s t u g (h, x) (i, y) = none_first (Fits (reducing k n) s) why i h
    pins (reducing k n) (refused why v₁) (refused whe v₂) s t u g (h, x) (i, y) = (x ∙ sym y, ap (λ (r : Refusal). refused r tt) (one_first (Fits (reducing k n) s) why whe h i))
    pins (running_down k budget) (done a) (done b) s t u g (h, x) (i, y) =
        let o = one_ran budget s t u (some_label s.board (not_short (length s.board) (λ short. h TooShort (inl short)))) a b g.facts x y in
        (o.0, ap (λ (z : Ran). done z) o.1)
    pins (running_down k budget) (done v) (refused why b) s t u g (h, x) (i, y) = none_first (Fits (running_down k budget) s) why h i
    pins (running_down k budget) (refused why b) (done v) s t u g (h, x) (i, y) = none_first (Fits (running_down k budget) s) why i h
    pins (running_down k budget) (refused why v₁) (refused whe v₂) s t u g (h, x) (i, y) = (x ∙ sym y, ap (λ (r : Refusal). refused r tt) (one_first (Fits (running_down k budget) s) why whe h i))
    pins (writing k list room) a b s t u g v w = writing_pins k list room a.outcome b.outcome a.after b.after s t u v w
    pins (listing row) a b s t u g v w = listing_pins row a.outcome b.outcome a.after b.after s t u v w

    pub pinned : Pinned op
    pinned board h s r c a b t u v w = pins c a b s t u (every_state_sound op board h s r) v w
