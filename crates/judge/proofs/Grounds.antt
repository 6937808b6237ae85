-- Why a verdict is right: where the sides chosen make a tree, unification ended with all passed and one token left, and
-- so the structure has a sequent proof; where they do not, what the survey names is there in the row shown.
use Rattle.std.proofs.Common.{◌≡◌, ℕ, ◌+◌, ◌-◌, ◌<◌, ◌≤◌, cond, eqb, ◌≢◌, ◌⊎◌, ◌↔◌, List, [], ◌∷◌, ◌++◌, length, drop, get_or, Ok, Err, Result, Decides, sym, refl, ap, ◌∙◌, subst, inl, inr, ⊎_elim, arith, eqb-true}
use Rattle.std.proofs.lemmas.Bool.{cases_eq, cases_lt, eq-eqb}
use Rattle.std.proofs.lemmas.List.{get_or_append_left, get_or-append_right, get_or-drop}
use Rattle.graphs.specs.Lists.In.{here}
use Rattle.graphs.proofs.Members.{not_in_nil}
use Rattle.graphs.proofs.Walks.{cycle_map, joined_map}
use Rattle.links.specs.declared.link.Link.{Link}
use Rattle.links.specs.declared.link.Link.TheVariants.{Empty}
use Rattle.links.specs.Links.{link_at, LinkStands, link_count}
use Rattle.links.specs.Facts.{Facts, Within}
use Rattle.links.proofs.Grounding.{facts_held}
use Rattle.links.proofs.Deciding.{is_empty}
use Rattle.switchings.specs.Switchings.{Keeps, Kept, Correct}
use Rattle.switchings.specs.Switchings.Side.{left, right}
use Rattle.switchings.specs.Edges.{standing}
use Rattle.switchings.specs.Rows.{entry, sides_of, Shows}
use Rattle.switchings.proofs.Listed.{stands_listed, listed_stands, link_in_range, kept_to_stands}
use Rattle.switchings.proofs.Drawn.{standing_count}
use Rattle.sequents.specs.Sequents.{Provable}
use Rattle.sequents.proofs.Choosing.{tree_means_unified_lem}
use Rattle.sequents.proofs.Endings.{one_token_left_is_a_proof_lem}
use Rattle.sequents.proofs.Unifying.{correct_exactly_when_provable_lem}
use Rattle.survey.specs.declared.flaw.Flaw.TheVariants.{Round, Split}
use Rattle.survey.specs.Findings.{HasFlaw, Finds}
use Rattle.unify.specs.declared.marking.Marking.{Marking}
use Rattle.unify.specs.declared.marking.Tangled.{Tangled}
use Rattle.unify.specs.Markings.{state_of}
use Rattle.unify.specs.Turns.{Ended}
use Rattle.unify.proofs.Quieting.{all_quiet_is_stuck}
use Rattle.sides.specs.Rule.{Clear, Chooses}
use Rattle.sides.proofs.Choosing.{Tells, rule_chooses}
use Rattle.judge.specs.declared.verdict.Verdict.{Verdict}
use Rattle.judge.specs.declared.verdict.Verdict.TheVariants.{Accepted, Cyclic, Apart}
use Rattle.judge.specs.Verdicts.{Copied, Judged, Exact}

-- some link stands, or none

none_stands : (ls : List Link) (count : ℕ) → count ≡ link_count ls → count ≡ 0 → (n : ℕ) → link_at ls n ≡ Empty
none_stands ls count c z n =
    ⊎_elim (λ e. e) (λ s. absurd (go (standing ls) refl s)) (is_empty (link_at ls n))
  where
    go : (xs : List ℕ) → standing ls ≡ xs → LinkStands ls n → ⊥
    go [] e s = not_in_nil (rw e at (stands_listed ls n s))
    go (x ∷ xs) e s = let k = ap length e in let m = standing_count ls in omega arith

some_stands : (ls : List Link) (count : ℕ) → count ≡ link_count ls → count ≢ 0 → ((n : ℕ) → link_at ls n ≡ Empty) → ⊥
some_stands ls count c z all = go (standing ls) refl
  where
    go : (xs : List ℕ) → standing ls ≡ xs → ⊥
    go [] e = let k = ap length e in let m = standing_count ls in z (c ∙ sym m ∙ k)
    go (x ∷ xs) e = listed_stands ls x (rw e (here refl)) (all x)

-- none does just where the count is 0
pub nothing_stands_at_zero : (ls : List Link) (count : ℕ) → count ≡ link_count ls → Decides (eqb count 0) ((n : ℕ) → link_at ls n ≡ Empty)
nothing_stands_at_zero ls count c = (
  λ t. none_stands ls count c (eqb-true count 0 t),
  λ all. elim (cases_eq count 0) [ inl z ↦ eq-eqb count 0 z | inr z ↦ absurd (some_stands ls count c z all) ],
)

pub some_link : (ls : List Link) → (((n : ℕ) → link_at ls n ≡ Empty) → ⊥) → (n : ℕ) × LinkStands ls n
some_link ls some = go (standing ls) refl
  where
    go : (xs : List ℕ) → standing ls ≡ xs → (n : ℕ) × LinkStands ls n
    go [] e = absurd (some (λ n. ⊎_elim (λ q. q) (λ s. absurd (not_in_nil (rw e at (stands_listed ls n s)))) (is_empty (link_at ls n))))
    go (x ∷ xs) e = (x, listed_stands ls x (rw e (here refl)))

-- a row that is not too short
pub long_enough : {long : ℕ} → (long < 256 → ⊥) → 256 ≤ long
long_enough {long} h = ⊎_elim (λ l. absurd (h l)) (λ l. l) (cases_lt long 256)

-- the row begins with the sides that are copied to its front
pub copied_front : (sides row front : List ℕ) → length sides ≡ 256 → front ≡ sides → Copied sides row (front ++ drop 256 row)
copied_front sides row front long e = record {
  shown = λ i h. let l : i < length front = omega (arith, ap length e) in get_or_append_left front (drop 256 row) 0 i l ∙ ap (λ (xs : List ℕ). get_or xs i 0) e;
  beyond = λ i h.
      let l = ap length e in
      let q : 256 + (i - 256) ≡ i = omega arith in
      get_or-append_right front (drop 256 row) 256 i 0 (l ∙ long) h ∙ get_or-drop 256 row (i - 256) 0 ∙ ap (λ (k : ℕ). get_or row k 0) q;
}

-- acceptance

module _ (ls : List Link) (facts : ∥ Facts ls ∥₁) where
  pub tree_provable : (ended : Result Unit Tangled) (m : Marking) → Ended ls ended m → (sides : List ℕ) → Chooses ls m.token sides → Finds ls (sides_of sides) (Ok tt) → (v : ℕ) → LinkStands ls v → Provable ls
  tree_provable (Err e) m cyclic sides ch tree v s = let c = cyclic (sides_of sides) in absurd (tree.1 c.0 c.1)
  tree_provable (Ok u) m (means, quiet) sides ch tree v s =
      let f = facts_held ls facts in
      let S = state_of means.passed means.live m in
      let stuck = all_quiet_is_stuck ls m means quiet in
      let tells : Tells S m.token = record { token = λ n. refl; marked = means.marked; unmarked = means.unmarked } in
      let chosen = rule_chooses ls S m.token tells facts means.sound stuck sides ch in
      let w = tree_means_unified_lem ls f S means.sound stuck (sides_of sides) chosen (tree.0 v s) tree.1 in
      let p = one_token_left_is_a_proof_lem ls f S means.sound w.0 w.1.0 w.1.1 in
      (p.0, p.1)

  pub accepted : (row : List ℕ) → Provable ls → Judged ls row row Accepted
  accepted row p = ((correct_exactly_when_provable_lem ls (facts_held ls facts)).1 p, p, refl)

  -- the row shown

  -- rows with the same entries for 1 to 256 keep the same occurrences
  same_kept : (one other : List ℕ) → ((i : ℕ) → i < 256 → get_or one i 0 ≡ get_or other i 0) → (n : ℕ) → LinkStands ls n → sides_of one n ≡ sides_of other n
  same_kept one other same n s =
      let w = link_in_range ls (facts_held ls facts) n s in
      ap (λ (b : ℕ). cond (eqb b 2) right left) (same (n - 1) (let l = w.0 in let h = w.1 in omega arith))

  kept_in : (one other : List ℕ) → ((i : ℕ) → i < 256 → get_or one i 0 ≡ get_or other i 0) → (e : _) → Kept ls (sides_of one) e → Kept ls (sides_of other) e
  kept_in one other same e k =
      record {
        ends = k.ends;
        keeps = subst (λ s. Keeps s (link_at ls e.to) e.name) (same_kept one other same e.to (kept_to_stands k)) k.keeps;
      }

  shows : (sides before after : List ℕ) (tokens : List ℕ) → length after ≡ length before → Chooses ls tokens sides → Copied sides before after → Shows ls before after
  shows sides before after tokens long ch copied = record {
    long = long;
    pars = λ n l r c w e. one_or_two (entry after n) (entry_same n w) (Clear ls tokens ch.avoided n l r) ((ch.sides n w).par l r c e).right ((ch.sides n w).par l r c e).left;
    others = λ n w h. entry_same n w ∙ (ch.sides n w).other h;
    beyond = copied.beyond;
  }
    where
      entry_same : (n : ℕ) → Within 256 n → entry after n ≡ entry sides n
      entry_same n w = copied.shown (n - 1) (let l = w.0 in let h = w.1 in omega arith)

      one_or_two : (x : ℕ) {y : ℕ} → x ≡ y → (P : Type 0) → (P → y ≡ 2) → ((P → ⊥) → y ≡ 1) → (x ≡ 1) ⊎ (x ≡ 2)
      one_or_two x {y} e P f g = elim (cases_eq y 2) [ inl q ↦ inr (e ∙ q) | inr q ↦ inl (e ∙ g (λ p. q (f p))) ]

  pub cycle_judged : (sides before after : List ℕ) (tokens : List ℕ) → length after ≡ length before → Chooses ls tokens sides → Copied sides before after → (n : ℕ) → HasFlaw ls (sides_of sides) (Round n) → Judged ls before after (Cyclic n)
  cycle_judged sides before after tokens long ch copied n c = (shows sides before after tokens long ch copied, cycle_map (kept_in sides after (λ i h. sym (copied.shown i h))) c)

  pub gap_judged : (sides before after : List ℕ) (tokens : List ℕ) → length after ≡ length before → Chooses ls tokens sides → Copied sides before after → (m n : ℕ) → HasFlaw ls (sides_of sides) (Split m n) → Judged ls before after (Apart m n)
  gap_judged sides before after tokens long ch copied m n g =
      (shows sides before after tokens long ch copied, record { one_stands = g.one_stands; other_stands = g.other_stands; no_walk = λ j. g.no_walk (joined_map (kept_in after sides copied.shown) j) })

  -- exactly what is correct is accepted

  exact_by_correct : (v : Verdict) → ((v ≡ Accepted) ↔ Correct ls) → Exact ls (Ok v)
  exact_by_correct v h = let k = correct_exactly_when_provable_lem ls (facts_held ls facts) in (h, (λ e. k.0 (h.0 e), λ p. h.1 (k.1 p)))

  pub exact : (before after : List ℕ) (v : Verdict) → Judged ls before after v → Exact ls (Ok v)
  exact before after Accepted j = exact_by_correct Accepted (λ e. j.0, λ c. refl)
  exact before after (Cyclic n) j = exact_by_correct (Cyclic n) (λ e. let z : ◌≡◌ {A = ℕ} 0 1 = cc in absurd (omega arith), λ c. absurd (c.acyclic (sides_of after) n j.1))
  exact before after (Apart m n) j = exact_by_correct (Apart m n) (λ e. let z : ◌≡◌ {A = ℕ} 0 1 = cc in absurd (omega arith), λ c. absurd (j.1.no_walk ((c.connected (sides_of after)).all m n j.1.one_stands j.1.other_stands)))
