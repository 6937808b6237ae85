-- Every call has an outcome in every sound state, so every list of calls has a run; all its runs end in one state.
use Rattle.std.proofs.Common.{◌≡◌, ℕ, ◌+◌, ◌-◌, ◌≤◌, ◌≢◌, ◌⊎◌, List, [], ◌∷◌, ◌++◌, map, length, set, sym, refl, ap, ◌∙◌, subst, inl, inr, arith, length-set}
use Rattle.std.proofs.lemmas.List.{get_or_default}
use Rattle.refusals.specs.declared.refusal.Refusal.TheVariants.{TooShort, NotOwn, NotACut, NothingStands}
use Rattle.refusals.proofs.Numbering.{first_fit}
use Rattle.links.specs.declared.link.Link.{Link}
use Rattle.links.specs.declared.link.Link.TheVariants.{Empty, Axiom, Tensor, Par, Cut}
use Rattle.links.specs.Links.{link_at, LinkStands, Conclusion, cut_count}
use Rattle.links.specs.Facts.{InRange, Facts}
use Rattle.links.proofs.Reading.{room}
use Rattle.switchings.specs.Switchings.{Switching, OnCycle, NoWalk, Correct}
use Rattle.sequents.proofs.Unifying.{correct_exactly_when_provable_lem, provable_or_bad_lem}
use Rattle.cuts.specs.Steps.{CutStep, composed, label}
use Rattle.cuts.specs.Steps.CutStep.{tensor_par, wires}
use Rattle.cuts.specs.Costs.{RunDown}
use Rattle.cuts.specs.Costs.RunDown.{spent, clear, again}
use Rattle.cuts.proofs.FactsKept.{step_keeps_facts_lem}
use Rattle.cuts.proofs.Costing.{parted_length, wired_length}
use Rattle.cuts.proofs.Stepping.{cut_has_step}
use Rattle.cuts.proofs.Downward.{run_down_stands}
use Rattle.table.proofs.Listing.{stands_in_range}
use Rattle.plain.specs.State.{draft, net, State, no_links, new_bench, Ticket}
use Rattle.plain.specs.Calls.{Call, opening, placing_axiom, placing_tensor, placing_par, placing_cut, withdrawing, judging, reopening, reducing, running_down, writing, listing, done, refused, Verdict, accepted, cyclic, apart, Answer, Event}
use Rattle.plain.specs.Fits.{Fits}
use Rattle.plain.specs.Step.{Does, Judged, Listed}
use Rattle.plain.specs.Step.Reaches.{begin, next}
use Rattle.plain.specs.Sound.{Sound}
use Rattle.plain.specs.Pinned.{SomeOutcome, call_of, EveryList, OneEnd}
use Rattle.plain.proofs.Owning.{own}
use Rattle.plain.proofs.Soundness.{not_short, some_label}
use Rattle.plain.proofs.Lawfulness.{every_state_sound}
use Rattle.plain.proofs.ReasonsDecided.{fits_dec, some_link}
use Rattle.plain.proofs.RowsMade.{front, front_in, front_past, front_long, sided, sided_shows, cycle_there, gap_there, upto, conclusion}
use Rattle.plain.proofs.Pinning.{pins}

-- a switching with a cycle or a gap
pub data Fails (ls : List Link) (σ : Switching) : Type 0 where
  by_cycle : (n : ℕ) → OnCycle ls σ n → Fails ls σ
  by_gap : (m n : ℕ) → NoWalk ls σ m n → Fails ls σ

-- a structure where a link stands is correct, or some switching fails
correct_or_fails : (ls : List Link) → Facts ls → (n : ℕ) → LinkStands ls n → Correct ls ⊎ ((σ : Switching) × Fails ls σ)
correct_or_fails ls f n stands = elim (provable_or_bad_lem ls f n stands) [
  | inl p ↦ inl ((correct_exactly_when_provable_lem ls f).1 p)
  | inr (σ, inl gap) ↦ inr (σ, by_gap gap.0 gap.1 gap.2)
  | inr (σ, inr cycle) ↦ inr (σ, by_cycle cycle.0 cycle.1)
]

module _ {L : Type 0} (op : L → L → L) where
  -- what is read past a board's end does not matter
  step_any : (d e : L) {c : ℕ} {ls ls' : List Link} {b b' : List L} → Facts ls → length ls ≤ length b + 1 → CutStep op d c ls b ls' b' → CutStep op e c ls b ls' b'
  step_any d e facts l (tensor_par t p x y i r m s h q w) = tensor_par t p x y i r m s h q w
  step_any d e {c} {ls} {ls'} {b} {b'} facts l (wires f g p q a p₂ q₂ a₂ h k w) =
      let hf = h.first in let hg = h.second in
      let rf = room ls f (λ z. let y : ◌≡◌ {A = ℕ} 0 1 = cc in omega arith) in
      let rg = room ls g (λ z. let y : ◌≡◌ {A = ℕ} 0 1 = cc in omega arith) in
      let one : 1 ≤ f = (subst (InRange f) h.first (facts.in_range f)).0.0 in
      let two : 1 ≤ g = (subst (InRange g) h.second (facts.in_range g)).0.0 in
      let ef = get_or_default b (f - 1) d e (omega arith) in
      let eg = get_or_default b (g - 1) d e (omega arith) in
      let same : composed op d b f g ≡ composed op e b f g = cc in
      wires f g p q a p₂ q₂ a₂ h k (w ∙ same)

  step_long : (d : L) {c : ℕ} {ls ls' : List Link} {b b' : List L} → CutStep op d c ls b ls' b' → (length ls' ≡ length ls) × (length b' ≡ length b)
  step_long d {c} {ls} (tensor_par t p x y l r m s h e w) = (ap length e ∙ parted_length ls c t p l r m s, ap length w)
  step_long d {c} {ls} {ls'} {b} (wires f g p q a p₂ q₂ a₂ h e w) = (ap length e ∙ wired_length ls c f g q a p₂, ap length w ∙ length-set b (f - 1) (op (label d b f) (label d b g)))

  down_any : (d e : L) {n k : ℕ} {ls ls' : List Link} {b b' : List L} → Facts ls → length ls ≤ length b + 1 → RunDown op d n k ls b ls' b' → RunDown op e n k ls b ls' b'
  down_any d e facts l spent = spent
  down_any d e facts l (clear f) = clear f
  down_any d e facts l (again {c = c} {ls = ls} {ls₁ = ls₁} {board = b} {board₁ = b₁} low s r) = let z = step_long d s in let z0 = z.0 in let z1 = z.1 in again low (step_any d e facts l s) (down_any d e (step_keeps_facts_lem L op d c ls ls₁ b b₁ s facts) (omega arith) r)

  -- the verdict on what a judgement finds
  found_bad : (s : State L) → Sound s → (row : List ℕ) → 256 ≤ length row → (σ : Switching) → Fails s.links σ → (v : Verdict) × (row' : List ℕ) × (t : State L) × Judged s t row row' v
  found_bad s g row wide σ (by_cycle n c) =
      let k : Ticket draft = record { number = s.serial } in
      (cyclic n k, sided s.links g.long g.facts σ row wide, s, record { sides = sided_shows s.links g.long g.facts σ row wide; bad = cycle_there s.links g.long g.facts σ row wide n c; after = refl; ticket = refl })
  found_bad s g row wide σ (by_gap m n gap) =
      let k : Ticket draft = record { number = s.serial } in
      (apart m n k, sided s.links g.long g.facts σ row wide, s, record { sides = sided_shows s.links g.long g.facts σ row wide; bad = gap_there s.links g.long g.facts σ row wide m n gap; after = refl; ticket = refl })

  verdict : (s : State L) → Sound s → (row : List ℕ) → 256 ≤ length row → (((i : ℕ) → link_at s.links i ≡ Empty) → ⊥) → (v : Verdict) × (row' : List ℕ) × (t : State L) × Judged s t row row' v
  verdict s g row wide some = elim (some_link s.links) [
    | inl one ↦ elim (correct_or_fails s.links g.facts one.0 one.1) [
      | inl c ↦ (accepted (record { number = s.serial }), row, record { links = s.links; serial = s.serial; stage = net; board = s.board }, record { correct = c; after = refl; ticket = refl; row_kept = refl })
      | inr f ↦ found_bad s g row wide f.0 f.1
    ]
    | inr none ↦ absurd (some none)
  ]

  listed : (s : State L) → Sound s → (row : List ℕ) → 512 ≤ length row → (count : ℕ) × (row' : List ℕ) × Listed s s row row' count
  listed s g row wide =
      let U = upto (λ o. Conclusion s.links o) (conclusion s.links) 512 in
      let xs = U.xs in
      let few = U.few in (
        length xs,
        front xs row,
        record {
          after = refl;
          list = record {
            long = front_long xs row (omega arith);
            fits = omega arith;
            rising = λ i j l k. let a = U.rising i j l k in let b = front_in xs row i (omega arith) in let c = front_in xs row j k in omega arith;
            each = λ o. (
              (λ c.
                  let w = stands_in_range s.links g.facts o c.0 in
                  let z = U.complete o c w.0 w.1 in
                  (z.0, z.1, front_in xs row z.0 z.1 ∙ z.2)),
              λ z. subst (λ (i : ℕ). Conclusion s.links i) (sym (front_in xs row z.0 z.1) ∙ z.2) (U.sound z.0 z.1).0,
            );
            beyond = λ i ge. front_past xs row i ge;
          };
        },
      )

  is_cut : (z : Link) → (((a b : ℕ) → z ≢ Cut a b) → ⊥) → (a : ℕ) × (b : ℕ) × (z ≡ Cut a b)
  is_cut Empty h = absurd (h (λ a b e. let z : ◌≡◌ {A = ℕ} 0 1 = cc in omega arith))
  is_cut (Axiom p q x) h = absurd (h (λ a b e. let z : ◌≡◌ {A = ℕ} 0 1 = cc in omega arith))
  is_cut (Tensor p q x) h = absurd (h (λ a b e. let z : ◌≡◌ {A = ℕ} 0 1 = cc in omega arith))
  is_cut (Par p q x) h = absurd (h (λ a b e. let z : ◌≡◌ {A = ℕ} 0 1 = cc in omega arith))
  is_cut (Cut a b) h = (a, b, refl)

  pub some_does : (c : Call L) (s : State L) → Sound s → (a : Answer c) × (t : State L) × Does op c a s t
  some_does opening s g = elim (first_fit (Fits opening s) (fits_dec opening s g)) [
    | inl f ↦ (refused f.0 tt, s, (f.1, refl))
    | inr none ↦ (done (record { number = s.serial + 1 }), record { links = no_links; serial = s.serial + 1; stage = draft; board = s.board }, (none, record { after = refl; ticket = refl }))
  ]
  some_does (placing_axiom k n p q a x) s g = elim (first_fit (Fits (placing_axiom k n p q a x) s) (fits_dec (placing_axiom k n p q a x) s g)) [
    | inl f ↦ (refused f.0 tt, s, (f.1, refl))
    | inr none ↦ (done tt, record { links = set s.links n (Axiom p q a); serial = s.serial; stage = s.stage; board = set s.board (n - 1) x }, (none, record { after = refl }))
  ]
  some_does (placing_tensor k n l r o) s g = elim (first_fit (Fits (placing_tensor k n l r o) s) (fits_dec (placing_tensor k n l r o) s g)) [
    | inl f ↦ (refused f.0 tt, s, (f.1, refl))
    | inr none ↦ (done tt, record { links = set s.links n (Tensor l r o); serial = s.serial; stage = s.stage; board = s.board }, (none, record { after = refl }))
  ]
  some_does (placing_par k n l r o) s g = elim (first_fit (Fits (placing_par k n l r o) s) (fits_dec (placing_par k n l r o) s g)) [
    | inl f ↦ (refused f.0 tt, s, (f.1, refl))
    | inr none ↦ (done tt, record { links = set s.links n (Par l r o); serial = s.serial; stage = s.stage; board = s.board }, (none, record { after = refl }))
  ]
  some_does (placing_cut k n l r) s g = elim (first_fit (Fits (placing_cut k n l r) s) (fits_dec (placing_cut k n l r) s g)) [
    | inl f ↦ (refused f.0 tt, s, (f.1, refl))
    | inr none ↦ (done tt, record { links = set s.links n (Cut l r); serial = s.serial; stage = s.stage; board = s.board }, (none, record { after = refl }))
  ]
  some_does (withdrawing k n) s g = elim (first_fit (Fits (withdrawing k n) s) (fits_dec (withdrawing k n) s g)) [
    | inl f ↦ (refused f.0 tt, s, (f.1, refl))
    | inr none ↦ (done tt, record { links = set s.links n Empty; serial = s.serial; stage = s.stage; board = s.board }, (none, record { after = refl }))
  ]
  some_does (judging k row) s g = elim (first_fit (Fits (judging k row) s) (fits_dec (judging k row) s g)) [
    | inl f ↦ (record { outcome = refused f.0 k; after = row }, s, (f.1, (refl, refl, refl)))
    | inr none ↦ let V = verdict s g row (not_short (length row) (λ short. none TooShort (inl short))) (λ e. none NothingStands (inr (inr e))) in (record { outcome = done V.0; after = V.1 }, V.2, (none, V.3))
  ]
  some_does (reopening k) s g = elim (first_fit (Fits (reopening k) s) (fits_dec (reopening k) s g)) [
    | inl f ↦ (refused f.0 k, s, (f.1, (refl, refl)))
    | inr none ↦ (done (record { number = s.serial }), record { links = s.links; serial = s.serial; stage = draft; board = s.board }, (none, record { after = refl; ticket = refl }))
  ]
  some_does (reducing k n) s g = elim (first_fit (Fits (reducing k n) s) (fits_dec (reducing k n) s g)) [
    | inl f ↦ (refused f.0 tt, s, (f.1, refl))
    | inr none ↦
        let b = not_short (length s.board) (λ short. none TooShort (inr (inl short))) in
        let d = some_label s.board b in
        let long = g.long in
        let cut = is_cut (link_at s.links n) (λ e. none NotACut (inr (inr (inr e)))) in
        let S = cut_has_step L op d s.links s.board g.facts (g.net (own k s (λ x. none NotOwn (inr (inr (inl x))))).stage) n cut.0 cut.1 cut.2 in
        (done tt, record { links = S.0; serial = s.serial; stage = s.stage; board = S.1 }, (none, record { step = λ e. step_any d e g.facts (omega arith) S.2; serial = refl; stage = refl }))
  ]
  some_does (running_down k budget) s g = elim (first_fit (Fits (running_down k budget) s) (fits_dec (running_down k budget) s g)) [
    | inl f ↦ (refused f.0 tt, s, (f.1, refl))
    | inr none ↦
        let b = not_short (length s.board) (λ short. none TooShort (inl short)) in
        let d = some_label s.board b in
        let long = g.long in
        let R = run_down_stands L op d budget s.links s.board g.facts (g.net (own k s (λ x. none NotOwn (inr x))).stage) in
        (done (record { made = R.0; left = cut_count R.1 }), record { links = R.1; serial = s.serial; stage = s.stage; board = R.2 }, (none, record { steps = λ e. down_any d e g.facts (omega arith) R.3; left = refl; serial = refl; stage = refl }))
  ]
  some_does (writing k list room) s g = elim (first_fit (Fits (writing k list room) s) (fits_dec (writing k list room) s g)) [
    | inl f ↦ (record { outcome = refused f.0 tt; after = list }, s, (f.1, (refl, refl)))
    | inr none ↦
        let P = (correct_exactly_when_provable_lem s.links g.facts).0 (g.net (own k s (λ x. none NotOwn (inl x))).stage) in
        (record { outcome = done tt; after = list ++ P.0 }, s, (none, record { proof = P.0; proves = P.1; added = refl; after = refl }))
  ]
  some_does (listing row) s g = elim (first_fit (Fits (listing row) s) (fits_dec (listing row) s g)) [
    | inl f ↦ (record { outcome = refused f.0 tt; after = row }, s, (f.1, (refl, refl)))
    | inr none ↦
        let short = none TooShort in
        let X = listed s g row (omega (arith, short)) in
        (record { outcome = done X.0; after = X.1 }, s, (none, X.2))
  ]

  pub some_outcome : SomeOutcome op
  some_outcome board h s r c = some_does c s (every_state_sound op board h s r)

  pub every_list : EveryList op
  every_list board [] = ([], new_bench board, begin, refl)
  every_list board (c ∷ cs) =
      let R = every_list board cs in
      let D = some_does c R.1 (every_state_sound op board R.0 R.1 R.2) in
      let e : Event L = record { call = c; answer = D.0 } in
      (e ∷ R.0, D.1, next e R.2 (record { does = D.2 }), ap (λ (x : List (Call L)). c ∷ x) R.3)

  pub one_end : OneEnd op
  one_end board h g s t begin begin q = refl
  one_end board h g s t begin (next e r w) q = let z : ◌≡◌ {A = ℕ} 0 1 = cc in absurd (omega arith)
  one_end board h g s t (next e r w) begin q = let z : ◌≡◌ {A = ℕ} 0 1 = cc in absurd (omega arith)
  one_end board h g s t (next {h = h₁} {s = s₁} e r w) (next {h = g₁} {s = t₁} f v x) q =
      let a : e.call ≡ f.call = cc in
      let b : map call_of h₁ ≡ map call_of g₁ = cc in
      let I = one_end board h₁ g₁ s₁ t₁ r v b in
      let y : Does op f.call f.answer s₁ t = subst (λ (u : State L). Does op f.call f.answer u t) (sym I) x.does in
      let D : (k : Answer e.call) × Does op e.call k s₁ t = subst (λ (c : Call L). (k : Answer c) × Does op c k s₁ t) (sym a) (f.answer, y) in
      (pins op e.call e.answer D.0 s₁ s t (every_state_sound op board h₁ s₁ r) w.does D.1).0
