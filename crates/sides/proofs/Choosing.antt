-- The sides that the rule gives are sides chosen for the state that the tokens mean, if nothing passes there.
use Rattle.std.proofs.Common.{◌≡◌, ℕ, ◌+◌, ◌-◌, ◌<◌, ◌≤◌, Bool, true, false, ◌≢◌, List, length, take, get_or, Some, None, Option, MatchBool, MatchOption, Decides, Bor, sym, refl, ap, ◌∙◌, subst, inl, inr, ⊎_elim, zero-add, arith}
use Rattle.std.specs.List.{range_with_len, HoldsAt, AllWithin}
use Rattle.std.specs.Option.{option_copied}
use Rattle.std.proofs.lemmas.List.{get_or_past, get_or-take, length-take}
use Rattle.std.proofs.lemmas.List.FromFn.{length-range_with_len, get_or-range_with_len}
use Rattle.std.proofs.lemmas.Bool.{cases_eq, cases_lt, false≢true, eq-eqb, ne_eqb}
use Rattle.graphs.specs.Lists.{In}
use Rattle.links.specs.declared.link.Link.{Link}
use Rattle.links.specs.Links.{link_at, LinkStands}
use Rattle.links.specs.Facts.{Facts, Within}
use Rattle.links.proofs.Grounding.{facts_held}
use Rattle.switchings.specs.Switchings.Side.{left, right}
use Rattle.switchings.specs.Edges.{is_link, maker}
use Rattle.switchings.specs.Rows.{entry, sides_of}
use Rattle.switchings.proofs.Occurrences.{link_not_empty}
use Rattle.switchings.proofs.Listed.{link_in_range, user_stands}
use Rattle.sequents.specs.Unification.{State, On, Stuck, Waits, Avoids, Chosen}
use Rattle.sequents.specs.Soundness.{Sound}
use Rattle.sequents.proofs.Endings.{token_has_link}
use Rattle.sides.specs.Rule.{token_of, token_on_lem, Waiting, Avoidable, SideAt, Chooses}

-- the answers of the searches

waits_low : (ls : List Link) → ∥ Facts ls ∥₁ → (tokens : List ℕ) (t n : ℕ) → Waiting ls tokens t n → n < 257
waits_low ls facts tokens t n w = let g = (link_in_range ls (facts_held ls facts) n (user_stands ls n w.premise w.uses)).1 in omega arith

pub some_waits : (ls : List Link) → ∥ Facts ls ∥₁ → (tokens : List ℕ) (t m : ℕ) → 257 ≤ m → (r : Bool) → MatchBool r ((k : ℕ) × (k < length (range_with_len 0 m)) × HoldsAt (Waiting ls tokens t) (range_with_len 0 m) k) (AllWithin (λ n. Waiting ls tokens t n → ⊥) (range_with_len 0 m) 0 (length (range_with_len 0 m))) → Decides r ((n : ℕ) × Waiting ls tokens t n)
some_waits ls facts tokens t m far true h = (λ e. (get_or (range_with_len 0 m) h.0 0, h.2 0), λ w. refl)
some_waits ls facts tokens t m far false h = (
  λ e. absurd (false≢true e),
  λ w.
      let low = waits_low ls facts tokens t w.0 w.1 in
      let l = length-range_with_len 0 m in
      let e : get_or (range_with_len 0 m) w.0 0 ≡ w.0 = get_or-range_with_len 0 m w.0 0 (omega arith) ∙ zero-add w.0 in
      absurd (h w.0 0 (omega arith) (omega arith) (subst (λ (n : ℕ). Waiting ls tokens t n) (sym e) w.1)),
)

pub first_free : (ls : List Link) (tokens : List ℕ) (r : Option (Bor ℕ)) → MatchOption r (AllWithin (λ t. t ≢ 0 → (n : ℕ) × Waiting ls tokens t n) (take 257 tokens) 0 (length (take 257 tokens))) (λ t. ((t.now ≢ 0) × ((n : ℕ) → Waiting ls tokens t.now n → ⊥)) × (i : ℕ) × (i < length (take 257 tokens)) × HoldsAt (λ x. x ≡ t.now) (take 257 tokens) i × AllWithin (λ x. x ≢ 0 → (n : ℕ) × Waiting ls tokens x n) (take 257 tokens) 0 i) → Avoidable ls tokens (option_copied r)
first_free ls tokens None h =
    λ u low some. elim (cases_lt u (length tokens)) [
      | inl k ↦ subst (λ (x : ℕ). x ≢ 0 → (n : ℕ) × Waiting ls tokens x n) (get_or-take 257 tokens u 0 (omega arith)) (h u 0 (omega arith) (omega (arith, length-take 257 tokens))) some
      | inr k ↦ absurd (some (get_or_past tokens u 0 k))
    ]
first_free ls tokens (Some t) h =
    let low : h.1 < 257 = omega (arith, h.2, length-take 257 tokens) in
    (h.0.0, (h.1, omega arith, sym (get_or-take 257 tokens h.1 0 low) ∙ h.3 0), h.0.1)

-- the state

-- the tokens are those of the state: a link has passed where its token is not 0
pub record Tells (S : State) (tokens : List ℕ) : Type 0 where
  pub token : (n : ℕ) → S.marks.token n ≡ token_of tokens n
  pub marked : (n : ℕ) → In n S.passed → token_of tokens n ≢ 0
  pub unmarked : (n : ℕ) → token_of tokens n ≢ 0 → In n S.passed

module _ (ls : List Link) (S : State) (tokens : List ℕ) (tells : Tells S tokens) where
  waiting_waits : (t n : ℕ) → t ≢ 0 → Waiting ls tokens t n → Waits ls S t n
  waiting_waits t n z w = record {
    unpassed = λ i. tells.marked n i w.unpassed;
    join = w.join;
    premise = w.premise;
    uses = w.uses;
    on = (tells.unmarked (maker ls w.premise) (λ x. z (sym w.carries ∙ x)), tells.token (maker ls w.premise) ∙ w.carries);
  }

  waits_waiting : (t n : ℕ) → Waits ls S t n → Waiting ls tokens t n
  waits_waiting t n w = record {
    unpassed = ⊎_elim (λ e. e) (λ e. absurd (w.unpassed (tells.unmarked n e))) (cases_eq (token_of tokens n) 0);
    join = w.join;
    premise = w.premise;
    uses = w.uses;
    carries = sym (tells.token (maker ls w.premise)) ∙ w.on.1;
  }

  on_carries : (o t : ℕ) → On ls S o t → token_on_lem ls tokens o ≡ t
  on_carries o t k = sym (tells.token (maker ls o)) ∙ k.1

  side_right : (row : List ℕ) (n : ℕ) → entry row n ≡ 2 → sides_of row n ≡ right
  side_right row n e = rw (eq-eqb (entry row n) 2 e)

  side_left : (row : List ℕ) (n : ℕ) → entry row n ≡ 1 → sides_of row n ≡ left
  side_left row n e = rw (ne_eqb (entry row n) 2 (λ q. let z : ◌≡◌ {A = ℕ} 1 2 = sym e ∙ q in omega arith))

  avoids : ∥ Facts ls ∥₁ → Stuck ls S → (row : List ℕ) (t : ℕ) → t ≢ 0 → ((n : ℕ) → Within 256 n → SideAt ls tokens (Some t) n (entry row n)) → Avoids ls S t (sides_of row)
  avoids facts stuck row t z sides n l r c f e =
      let s : LinkStands ls n = link_not_empty (link_at ls n) (ap is_link e) in
      let p = (sides n (link_in_range ls (facts_held ls facts) n s)).par l r c e in
      let unpassed : token_of tokens n ≡ 0 = ⊎_elim (λ q. q) (λ q. absurd (f (tells.unmarked n q))) (cases_eq (token_of tokens n) 0) in (
        λ k. side_right row n (p.right (record { unpassed = unpassed; of_left = on_carries l t k })),
        λ k. side_left row n (p.left (λ g. (stuck n s f).no_par l r c t e (tells.unmarked (maker ls l) (λ x. z (sym g.of_left ∙ x)), tells.token (maker ls l) ∙ g.of_left) k)),
      )

  pub rule_chooses : ∥ Facts ls ∥₁ → Sound ls S → Stuck ls S → (row : List ℕ) → Chooses ls tokens row → Chosen ls S (sides_of row)
  rule_chooses facts ok stuck row ch = go ch.avoided ch.avoidable ch.sides
    where
      f : Facts ls
      f = facts_held ls facts

      go : (avoided : Option ℕ) → Avoidable ls tokens avoided → ((n : ℕ) → Within 256 n → SideAt ls tokens avoided n (entry row n)) → Chosen ls S (sides_of row)
      go None all sides =
          inr (λ x i.
          let u = token_has_link ls f S ok x i in
          let same : token_of tokens u.0 ≡ x = sym (tells.token u.0) ∙ u.2 in
          let w = all u.0 (link_in_range ls f u.0 (ok.passed_stand u.0 u.1)).1 (tells.marked u.0 u.1) in
          (w.0, waiting_waits x w.0 (λ q. tells.marked u.0 u.1 (same ∙ q)) (subst (λ (y : ℕ). Waiting ls tokens y w.0) same w.1)))
      go (Some t) k sides =
          let z = k.0 in
          let p : In k.1.0 S.passed = tells.unmarked k.1.0 (λ q. z (sym k.1.2 ∙ q)) in
          let live = subst (λ (x : ℕ). In x S.live) (tells.token k.1.0 ∙ k.1.2) (ok.token_live k.1.0 p) in
          inl (t, live, λ n w. k.2 n (waits_waiting t n w), avoids facts stuck row t z sides)

-- the sides of all links, from those of the row's entries
pub sides_of_all : (ls : List Link) (tokens : List ℕ) (avoided : Option ℕ) (row : List ℕ) → ((j : ℕ) → j < 256 → SideAt ls tokens avoided (j + 1) (get_or row j 0)) → (n : ℕ) → Within 256 n → SideAt ls tokens avoided n (entry row n)
sides_of_all ls tokens avoided row h n w =
    let l = w.0 in
    let m = w.1 in
    let q : n - 1 + 1 ≡ n = omega arith in
    subst (λ (k : ℕ). SideAt ls tokens avoided k (entry row n)) q (h (n - 1) (omega arith))
