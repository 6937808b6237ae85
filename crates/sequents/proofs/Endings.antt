-- How a unification that cannot go on ends: with a proof where all passed and one token is left, and otherwise with bad
-- sides, in each of four cases. The last is a count: each token waits on a tensor or a cut of its own, so there are as
-- many edges as links.
use Rattle.std.proofs.Common.{◌≡◌, ℕ, ◌+◌, ◌≤◌, Bool, true, false, not, ◌&&◌, ◌⊎◌, List, [], ◌++◌, length, sym, refl, ap, ◌∙◌, subst, inl, inr, arith}
use Rattle.std.proofs.lemmas.Bool.{cases_eq, cases_Bool, both_ways, and_parts, and_from, not-true, not_from_false}
use Rattle.graphs.specs.Lists.{In, Apart}
use Rattle.graphs.specs.Lists.In.{here}
use Rattle.graphs.specs.Selections.{has, select}
use Rattle.graphs.specs.Walks.{Edge, JoinedBy}
use Rattle.graphs.specs.Rounds.{Except}
use Rattle.graphs.proofs.Members.{in_one, in_or_not, has_in, in_has, in_append, apart_append, from_select, in_select, apart_select}
use Rattle.graphs.proofs.Counts.{count_all, count_append, count_within, own_each_no_longer}
use Rattle.graphs.proofs.Walks.{joined_trans, joined_edge, joined_map, joined_stays}
use Rattle.graphs.proofs.Cycles.{closing}
use Rattle.graphs.proofs.Listings.{many_edges_make_a_cycle_over}
use Rattle.links.specs.declared.link.Link.{Link}
use Rattle.links.specs.declared.link.Link.TheVariants.{Par}
use Rattle.links.specs.Links.{link_at, Uses}
use Rattle.links.specs.Facts.{Facts}
use Rattle.switchings.specs.Switchings.{Side, Switching, Keeps, Kept}
use Rattle.switchings.specs.Switchings.Side.{left, right}
use Rattle.switchings.specs.Edges.{is_link, is_join, standing, joins_of, maker, edge}
use Rattle.switchings.proofs.Occurrences.{keeps_listed, joins_keep_all, link_not_empty, kind}
use Rattle.switchings.proofs.Occurrences.Kind.{is_axiom, is_tensor, is_par, is_cut}
use Rattle.switchings.proofs.Listed.{stands_listed, standing_apart, concluder_stands, user_stands, maker_is, kept_use, kept_to_stands, kept_loopless, kept_names_tell, kept_edge, switching_listed}
use Rattle.switchings.proofs.Drawn.{switching_counts}
use Rattle.sequents.specs.Unification.{State, On, Stuck, Waits, Avoids}
use Rattle.sequents.specs.Soundness.{Sound}
use Rattle.sequents.specs.Claims.{OneTokenIsJoined, OneTokenLeftIsAProof, TwoTokensLeftAreApart, TangledIsCyclic, CutOffIsApart, CrowdedIsCyclic}
use Rattle.sequents.proofs.Playing.{named_joined, some_link_named}

left_not_right : left ≡ right → ⊥
left_not_right e = let z : ◌≡◌ {A = ℕ} 0 1 = cc in omega arith

-- what a par keeps is on the side that it picks
par_keeps_side : (s : Side) (z : Link) (l r c o : ℕ) → z ≡ Par l r c → Keeps s z o → ((s ≡ left) × (o ≡ l)) ⊎ ((s ≡ right) × (o ≡ r))
par_keeps_side left z l r c o e k = let q : l ≡ o = subst (λ (x : Link). Keeps left x o) e k in inl (refl, sym q)
par_keeps_side right z l r c o e k = let q : r ≡ o = subst (λ (x : Link). Keeps right x o) e k in inr (refl, sym q)

pub par_not_join : (z : Link) {l r c : ℕ} → z ≡ Par l r c → is_join z ≡ true → ⊥
par_not_join z e j = both_ways (is_join z) (ap is_join e) j

-- passed links with one token are the links of one proof
pub one_token_is_joined_lem : OneTokenIsJoined
one_token_is_joined_lem ls facts S ok σ u v i j e =
    let k = ok.cluster (S.marks.token u) (ok.token_live u i) in
    named_joined ls σ S.passed (k.puts []) (λ n x. (k.part.names_in n x).0) u v (k.part.in_names u i refl) (k.part.in_names v j (sym e))

-- one token on both premises of an unpassed tensor or cut: a cycle, whatever the sides
pub tangled_is_cyclic_lem : TangledIsCyclic
tangled_is_cyclic_lem ls facts S ok n o q t f j u v d a b σ =
    let edge_kept : (x : ℕ) → Uses (link_at ls n) x → Kept ls σ (edge ls n x) = λ x w. kept_edge ls facts σ n x (keeps_listed (σ n) (link_at ls n) (joins_keep_all (σ n) (link_at ls n) x j w)) in
    let above : JoinedBy (Except (Kept ls σ) o) (maker ls o) (maker ls q) = joined_map (λ e k. record {
      is = k.kept;
      other = λ w. f (subst (λ (x : ℕ). In x S.passed) (facts.used_once e.to n o (subst (λ (x : ℕ). Uses (link_at ls e.to) x) w (kept_use k.kept)) u) k.into);
    }) (one_token_is_joined_lem ls facts S ok σ (maker ls o) (maker ls q) a.0 b.0 (a.1 ∙ sym b.1)) in
    let down : JoinedBy (Except (Kept ls σ) o) (maker ls q) n = joined_edge (edge ls n q) (record { is = edge_kept q v; other = λ w. d (sym w) }) (inl (refl, refl)) in
    closing (kept_names_tell ls facts σ) (edge ls n o) (edge_kept o u) (λ w. f (subst (λ (x : ℕ). In x S.passed) w a.0)) (joined_trans above down)

module _ (ls : List Link) (facts : Facts ls) (S : State) (ok : Sound ls S) where
  -- a live token has a link
  pub token_has_link : (t : ℕ) → In t S.live → (n : ℕ) × In n S.passed × (S.marks.token n ≡ t)
  token_has_link t i =
      let k = ok.cluster t i in
      let f = some_link_named (k.puts []) in
      let m = k.part.names_in f.0 f.1 in
      (f.0, m.0, m.1)

  -- a token on no unpassed tensor or cut, and sides that avoid it: no kept occurrence leaves its links
  module _ (t : ℕ) (off : (n : ℕ) → Waits ls S t n → ⊥) (σ : Switching) (avoids : Avoids ls S t σ) where
    abbrev Inside : ℕ → Type 0
    Inside u = In u S.passed × (S.marks.token u ≡ t)

    forth : (e : Edge) → Kept ls σ e → Inside e.from → Inside e.to
    forth e k x =
        let n : ℕ = e.to in
        let o : ℕ = e.name in
        let u : Uses (link_at ls n) o = kept_use k in
        let on : On ls S o t = subst Inside (sym (maker_is ls facts e.from o k.ends)) x in
        let passes : (In n S.passed → ⊥) → ⊥ = λ f.
        let waits : is_join (link_at ls n) ≡ true → ⊥ = λ j. off n (record { unpassed = f; join = j; premise = o; uses = u; on = on }) in
        elim (kind (link_at ls n) (kept_to_stands k)) [
          | is_axiom q ↦ subst (λ (z : Link). Uses z o) q u
          | is_tensor q ↦ waits (ap is_join q)
          | is_cut q ↦ waits (ap is_join q)
          | is_par {l = l} {r = r} {c = c} q ↦ elim (par_keeps_side (σ n) (link_at ls n) l r c o q k.keeps) [
            | inl y ↦ left_not_right (sym y.0 ∙ (avoids n l r c f q).0 (subst (λ (x : ℕ). On ls S x t) y.1 on))
            | inr y ↦ left_not_right (sym ((avoids n l r c f q).1 (subst (λ (x : ℕ). On ls S x t) y.1 on)) ∙ y.0)
          ]
        ] in
        elim (in_or_not n S.passed) [ inl p ↦ (p, sym (ok.above n o p u).1 ∙ on.1) | inr f ↦ absurd (passes f) ]

    back : (e : Edge) → Kept ls σ e → Inside e.to → Inside e.from
    back e k x =
        let y = ok.above e.to e.name x.0 (kept_use k) in
        subst Inside (maker_is ls facts e.from e.name k.ends) (y.0, y.1 ∙ x.1)

    pub walk_keeps_token : (u v : ℕ) → In u S.passed → S.marks.token u ≡ t → JoinedBy (Kept ls σ) u v → In v S.passed × (S.marks.token v ≡ t)
    walk_keeps_token u v i e j = joined_stays Inside forth back j (i, e)

pub cut_off_is_apart_lem : CutOffIsApart
cut_off_is_apart_lem ls facts S ok t off σ avoids u v i e stands out = record {
  one_stands = ok.passed_stand u i;
  other_stands = stands;
  no_walk = λ j. let k = walk_keeps_token ls facts S ok t off σ avoids u v i e j in out k.0 k.1;
}

-- the tensors and cuts that have not passed
module _ (ls : List Link) (S : State) where
  abbrev unpassed_join : ℕ → Bool
  unpassed_join n = not (has n S.passed) && is_join (link_at ls n)

  abbrev waiters : List ℕ
  waiters = select unpassed_join (standing ls)

  waiter_is : (n : ℕ) → In n waiters → (In n S.passed → ⊥) × (is_join (link_at ls n) ≡ true)
  waiter_is n i =
      let k = and_parts (not (has n S.passed)) (is_join (link_at ls n)) (from_select unpassed_join (standing ls) i).1 in
      (λ j. both_ways (has n S.passed) (not-true (has n S.passed) k.0) (in_has n S.passed j), k.1)

  is_waiter : (t n : ℕ) → Waits ls S t n → In n waiters
  is_waiter t n w =
      let fresh : has n S.passed ≡ false = elim (cases_Bool (has n S.passed)) [ inl b ↦ absurd (w.unpassed (has_in n S.passed b)) | inr b ↦ b ] in
      in_select unpassed_join (standing ls) (stands_listed ls n (user_stands ls n w.premise w.uses)) (and_from (not (has n S.passed)) (is_join (link_at ls n)) (not_from_false (has n S.passed) fresh) w.join)

  -- where nothing can pass, one link has one token waiting: two would pass, or be tangled
  waits_alone : Stuck ls S → (t s n : ℕ) → Waits ls S t n → Waits ls S s n → t ≡ s
  waits_alone stuck t s n a b =
      elim (cases_eq a.premise b.premise) [
        | inl e ↦ sym a.on.1 ∙ ap (λ o. S.marks.token (maker ls o)) e ∙ b.on.1
        | inr e ↦ absurd ((stuck n (user_stands ls n a.premise a.uses) a.unpassed).no_join a.premise b.premise t s a.join a.uses b.uses e a.on b.on)
      ]

  -- passed and unpassed tensors and cuts together are no more than all
  joins_parted : Sound ls S → joins_of ls S.passed + length waiters ≤ joins_of ls (standing ls)
  joins_parted ok =
      let p : ℕ → Bool = λ n. is_join (link_at ls n) in
      let all = count_all p waiters (λ n j. (waiter_is n j).1) in
      let both = count_append p S.passed waiters in
      let apart : Apart (S.passed ++ waiters) = apart_append S.passed ok.passed_apart (apart_select unpassed_join (standing ls) (standing_apart ls)) (λ n a b. (waiter_is n b).0 a) in
      let within = count_within p (S.passed ++ waiters) (standing ls) apart (standing_apart ls) (λ n j. elim (in_append S.passed j) [
        | inl x ↦ stands_listed ls n (ok.passed_stand n x)
        | inr x ↦ (from_select unpassed_join (standing ls) x).0
      ]) in
      omega arith

-- each token waits on a link of its own, so tokens are no more than unpassed tensors and cuts, and links no more than edges
pub crowded_is_cyclic_lem : CrowdedIsCyclic
crowded_is_cyclic_lem ls facts S ok stuck h v stands σ =
    let few = own_each_no_longer (Waits ls S) S.live (waiters ls S) ok.live_apart (λ t i. let k = h t i in (k.0, is_waiter ls S t k.0 k.1, k.1)) (waits_alone ls S stuck) in
    let parted = joins_parted ls S ok in
    let total = ok.total in
    let counts = switching_counts ls σ in
    many_edges_make_a_cycle_over (switching_listed ls facts σ) (kept_loopless ls facts σ) v stands (omega arith)

pub two_tokens_left_are_apart_lem : TwoTokensLeftAreApart
two_tokens_left_are_apart_lem ls facts S ok all s t i j d σ =
    let a = token_has_link ls facts S ok s i in
    let b = token_has_link ls facts S ok t j in (
      a.0,
      b.0,
      cut_off_is_apart_lem ls facts S ok s (λ n w. w.unpassed (all n (user_stands ls n w.premise w.uses))) σ (λ n l r c f e. absurd (f (all n (link_not_empty (link_at ls n) (ap is_link e))))) a.0 b.0 a.1 a.2 (ok.passed_stand b.0 b.1) (λ x y. d (sym y ∙ b.2)),
    )

pub one_token_left_is_a_proof_lem : OneTokenLeftIsAProof
one_token_left_is_a_proof_lem ls facts S ok all t e =
    let k = ok.cluster t (rw e (here refl)) in
    let has-t : (n : ℕ) → In n S.passed → S.marks.token n ≡ t = λ n i. in_one (rw e at (ok.token_live n i)) in (
      k.moves,
      record {
        ends = k.ends;
        plays = k.puts [];
        each = λ n s. k.part.in_names n (all n s) (has-t n (all n s));
        once = k.part.once;
        concludes = λ o. (
          λ i. let x = k.part.ends_in o i in ((x.by, x.concludes), λ n u. x.free n (all n (user_stands ls n o u)) u),
          λ c. let p = all c.0.0 (concluder_stands ls c.0.0 o c.0.1) in k.part.in_ends o (record { by = c.0.0; concludes = c.0.1; has_passed = p; with_token = has-t c.0.0 p; free = λ m i u. c.1 m u }),
        );
      },
      k.written,
    )
