-- One link passes: a par with one token on its premises, a tensor or a cut with two, and the state is sound again.
-- The moves of the token s after it are those of s, those of t, and its own; other tokens keep theirs.
use Rattle.std.proofs.Common.{◌≡◌, ℕ, suc, ◌+◌, true, false, cond, eqb, ◌≢◌, ◌⊎◌, List, [], ◌∷◌, ◌++◌, length, sym, refl, ap, ◌∙◌, subst, inl, inr, arith}
use Rattle.std.proofs.lemmas.Bool.{cases_eq, eq-eqb, ne_eqb, both_ways}
use Rattle.std.proofs.lemmas.Bool.Decides.{nat_tests}
use Rattle.graphs.specs.Lists.{In, Apart}
use Rattle.graphs.specs.Lists.In.{here, there}
use Rattle.graphs.specs.Selections.{without}
use Rattle.graphs.specs.Classes.{relabelled}
use Rattle.graphs.proofs.Members.{in_cons, in_one, in_two, apart_one, in_front, in_back, in_append, from_without, in_without, apart_without}
use Rattle.graphs.proofs.Counts.{count_all, count_without}
use Rattle.links.specs.declared.link.Link.{Link}
use Rattle.links.specs.declared.link.Link.TheVariants.{Empty, Axiom, Tensor, Par, Cut}
use Rattle.links.specs.declared.rule.Rule.TheVariants as rule
use Rattle.links.specs.Links.{link_at, Concludes, Uses}
use Rattle.links.specs.Facts.{Facts}
use Rattle.switchings.specs.Edges.{premises, conclusions, is_join, standing, axioms_of, joins_of, maker}
use Rattle.switchings.proofs.Occurrences.{uses_listed, listed_uses, concludes_listed, listed_concludes}
use Rattle.switchings.proofs.Listed.{user_stands, maker_is, maker_concludes, not_its_own_premise}
use Rattle.sequents.specs.Sequents.{Move, Sequent, Pile, Does}
use Rattle.sequents.specs.Sequents.Does.{by_par, by_tensor, by_cut}
use Rattle.sequents.specs.Sequents.Plays.{done, next}
use Rattle.sequents.specs.Unification.{Marks, State, On, after, Pass, Post}
use Rattle.sequents.specs.Unification.Post.{stem, fork, bond}
use Rattle.sequents.specs.Soundness.{Free, Open, Part, Is, Either, Cluster, Sound}
use Rattle.sequents.specs.Claims.{ParPasses, TensorPasses, CutPasses}
use Rattle.sequents.proofs.Moves.{plays_append, named_in_either, named_in_front, named_in_back, named_apart, post_kept}

-- tokens made one

relabelled_new : (s t : ℕ) → relabelled s t s ≡ s
relabelled_new s t = grind (arith, nat_tests)

relabelled_old : (s t : ℕ) → relabelled s t t ≡ s
relabelled_old s t = grind (arith, nat_tests)

relabelled_same : (s x : ℕ) → relabelled s s x ≡ x
relabelled_same s x = grind (arith, nat_tests)

relabelled_other : (s t x : ℕ) → x ≢ t → relabelled s t x ≡ x
relabelled_other s t x h = grind (arith, nat_tests)

other_from_relabelled : (s t y x : ℕ) → x ≢ s → relabelled s t y ≡ x → y ≡ x
other_from_relabelled s t y x h e = grind (arith, nat_tests)

either_from_relabelled : (s t y : ℕ) → relabelled s t y ≡ s → (y ≡ s) ⊎ (y ≡ t)
either_from_relabelled s t y e = grind (arith, nat_tests)

relabelled_either : (s t y : ℕ) → (y ≡ s) ⊎ (y ≡ t) → relabelled s t y ≡ s
relabelled_either s t y (inl e) = rw e (relabelled_new s t)
relabelled_either s t y (inr e) = rw e (relabelled_old s t)

-- the link n has just the premises l and r and the conclusions cs
record Takes (ls : List Link) (n l r : ℕ) (cs : List ℕ) : Type 0 where
  left_of : Uses (link_at ls n) l
  right_of : Uses (link_at ls n) r
  only : (o : ℕ) → Uses (link_at ls n) o → (o ≡ l) ⊎ (o ≡ r)
  con_in : (o : ℕ) → In o cs → Concludes (link_at ls n) o
  in_con : (o : ℕ) → Concludes (link_at ls n) o → In o cs

takes : (ls : List Link) (n l r : ℕ) (cs : List ℕ) → premises (link_at ls n) ≡ l ∷ r ∷ [] → conclusions (link_at ls n) ≡ cs → Takes ls n l r cs
takes ls n l r cs e f = record {
  left_of = listed_uses (link_at ls n) (rw e (here refl));
  right_of = listed_uses (link_at ls n) (rw e (there (here refl)));
  only = λ o u. in_two (rw e at (uses_listed (link_at ls n) u));
  con_in = λ o i. listed_concludes (link_at ls n) (rw f i);
  in_con = λ o c. rw f at (concludes_listed (link_at ls n) c);
}

module _ (ls : List Link) (facts : Facts ls) (S : State) (ok : Sound ls S) (n l r : ℕ) (cs : List ℕ) (s t : ℕ) (M : Marks) (k : Takes ls n l r cs) (p : Pass ls S n l r s t M) (live : List ℕ) where
  abbrev S' : State
  S' = after S n live M

  -- what n uses, no passed link uses
  free_premise : (o : ℕ) → Uses (link_at ls n) o → Free ls S o
  free_premise o u m i v = p.fresh (rw (facts.used_once m n o v u) at i)

  -- what n concludes, no passed link uses
  free_conclusion : (o : ℕ) → Concludes (link_at ls n) o → Free ls S o
  free_conclusion o c m i u = p.fresh (rw (maker_is ls facts n o c) at (ok.above m o i u).0)

  free_more : (o : ℕ) → Free ls S o → (Uses (link_at ls n) o → ⊥) → Free ls S' o
  free_more o f h m i u = elim (in_cons i) [ inl e ↦ h (subst (λ (x : ℕ). Uses (link_at ls x) o) e u) | inr j ↦ f m j u ]

  free_less : (o : ℕ) → Free ls S' o → Free ls S o
  free_less o f m i u = f m (there i) u

  left_open : Open ls S (Is s) l
  left_open = record { by = maker ls l; concludes = maker_concludes ls facts n l k.left_of; has_passed = p.on_left.0; with_token = p.on_left.1; free = free_premise l k.left_of }

  right_open : Open ls S (Is t) r
  right_open = record { by = maker ls r; concludes = maker_concludes ls facts n r k.right_of; has_passed = p.on_right.0; with_token = p.on_right.1; free = free_premise r k.right_of }

  -- the token of an occurrence that is open
  open_token : (Q : ℕ → Type 0) (o x : ℕ) → Open ls S Q o → On ls S o x → Q x
  open_token Q o x q h =
      let e : maker ls o ≡ q.by = maker_is ls facts q.by o q.concludes in
      let f : S.marks.token q.by ≡ x = ap S.marks.token (sym e) ∙ h.1 in
      subst Q f q.with_token

  above_kept : (m o : ℕ) → In m (n ∷ S.passed) → Uses (link_at ls m) o → On ls S' o (M.token m)
  above_kept m o i u =
      elim (in_cons i) [
        | inl e ↦ elim (k.only o (subst (λ (x : ℕ). Uses (link_at ls x) o) e u)) [
          | inl q ↦ rw (q, e) (there p.on_left.0, p.token_m (maker ls l) p.on_left.0 ∙ ap (relabelled s t) p.on_left.1 ∙ relabelled_new s t ∙ sym p.token_n)
          | inr q ↦ rw (q, e) (there p.on_right.0, p.token_m (maker ls r) p.on_right.0 ∙ ap (relabelled s t) p.on_right.1 ∙ relabelled_old s t ∙ sym p.token_n)
        ]
        | inr j ↦ let h = ok.above m o j u in (there h.0, p.token_m (maker ls o) h.0 ∙ ap (relabelled s t) h.1 ∙ sym (p.token_m m j))
      ]

  -- the tokens other than s and t keep their moves
  other_part : (x : ℕ) → x ≢ s → x ≢ t → (ms : List Move) (Γ : Sequent) → Part ls S (Is x) ms Γ → Part ls S' (Is x) ms Γ
  other_part x hs ht ms Γ h = record {
    once = h.once;
    names_in = λ m i. let j = h.names_in m i in (there j.0, p.token_m m j.0 ∙ ap (relabelled s t) j.1 ∙ relabelled_other s t x ht);
    in_names = λ m i e. elim (in_cons i) [
      | inl q ↦ absurd (hs (sym e ∙ ap M.token q ∙ p.token_n))
      | inr j ↦ h.in_names m j (other_from_relabelled s t (S.marks.token m) x hs (sym (p.token_m m j) ∙ e))
    ];
    ends_in = λ o i.
        let j = h.ends_in o i in
        record {
          by = j.by;
          concludes = j.concludes;
          has_passed = there j.has_passed;
          with_token = p.token_m j.by j.has_passed ∙ ap (relabelled s t) j.with_token ∙ relabelled_other s t x ht;
          free = free_more o j.free (λ u. elim (k.only o u) [
            | inl q ↦ hs (sym (open_token (Is x) o s j (rw q p.on_left)))
            | inr q ↦ ht (sym (open_token (Is x) o t j (rw q p.on_right)))
          ]);
        };
    in_ends = λ o j. elim (in_cons j.has_passed) [
      | inl q ↦ absurd (hs (sym j.with_token ∙ ap M.token q ∙ p.token_n))
      | inr i ↦ h.in_ends o (record {
        by = j.by;
        concludes = j.concludes;
        has_passed = i;
        with_token = other_from_relabelled s t (S.marks.token j.by) x hs (sym (p.token_m j.by i) ∙ j.with_token);
        free = free_less o j.free;
      })
    ];
  }

  -- the token s, from what was under s or t
  new_part : (ms : List Move) (Γ : Sequent) (m : Move) → m.link ≡ n → Part ls S (Either s t) ms Γ → Part ls S' (Is s) (ms ++ (m ∷ [])) (cs ++ without r (without l Γ))
  new_part ms Γ m q h = record {
    once = named_apart ms (m ∷ []) h.once (apart_one m.link) (λ x i j. p.fresh (rw (in_one j ∙ q) at (h.names_in x i).0));
    names_in = λ x i. elim (named_in_either ms (m ∷ []) i) [
      | inl j ↦ let y = h.names_in x j in (there y.0, p.token_m x y.0 ∙ relabelled_either s t (S.marks.token x) y.1)
      | inr j ↦ let e = in_one j ∙ q in (here e, ap M.token e ∙ p.token_n)
    ];
    in_names = λ x i e. elim (in_cons i) [
      | inl y ↦ named_in_back ms (m ∷ []) (here (y ∙ sym q))
      | inr j ↦ named_in_front ms (m ∷ []) (h.in_names x j (either_from_relabelled s t (S.marks.token x) (sym (p.token_m x j) ∙ e)))
    ];
    ends_in = λ o i. elim (in_append cs i) [
      | inl j ↦ let c = k.con_in o j in record {
        by = n;
        concludes = c;
        has_passed = here refl;
        with_token = p.token_n;
        free = free_more o (free_conclusion o c) (λ u. not_its_own_premise ls facts n o u c);
      }
      | inr j ↦
          let a = from_without r (without l Γ) j in
          let b = from_without l Γ a.0 in
          let y = h.ends_in o b.0 in
          record {
            by = y.by;
            concludes = y.concludes;
            has_passed = there y.has_passed;
            with_token = p.token_m y.by y.has_passed ∙ relabelled_either s t (S.marks.token y.by) y.with_token;
            free = free_more o y.free (λ u. elim (k.only o u) [ inl e ↦ b.1 e | inr e ↦ a.1 e ]);
          }
    ];
    in_ends = λ o y. elim (in_cons y.has_passed) [
      | inl e ↦ in_front (without r (without l Γ)) (k.in_con o (subst (λ (x : ℕ). Concludes (link_at ls x) o) e y.concludes))
      | inr i ↦ in_back cs (in_without r (without l Γ) (in_without l Γ (h.in_ends o (record {
        by = y.by;
        concludes = y.concludes;
        has_passed = i;
        with_token = either_from_relabelled s t (S.marks.token y.by) (sym (p.token_m y.by i) ∙ y.with_token);
        free = free_less o y.free;
      })) (λ e. y.free n (here refl) (subst (λ (x : ℕ). Uses (link_at ls n) x) (sym e) k.left_of))) (λ e. y.free n (here refl) (subst (λ (x : ℕ). Uses (link_at ls n) x) (sym e) k.right_of)))
    ];
  }

  -- the marks hold what they held of passed links
  kept_post : {Q : ℕ → Type 0} {x : ℕ} (ms : List Move) {Γ : Sequent} → Part ls S Q ms Γ → Post ls S.marks x ms → Post ls M x ms
  kept_post ms h w = post_kept w (λ m i. let ne : m ≢ n = λ e. p.fresh (rw e at (h.names_in m i).0) in (p.first_m m ne, p.second_m m ne))

  -- all but the new cluster and the count
  sound_after : Apart live → ((x : ℕ) → In x S.live → In (relabelled s t x) live) → ((x : ℕ) → In x live → x ≢ s → In x S.live × (x ≢ t)) → Cluster ls S' s → length live + joins_of ls (n ∷ S.passed) ≡ axioms_of ls (standing ls) → Sound ls S'
  sound_after a h g c e = record {
    passed_apart = (p.fresh, ok.passed_apart);
    passed_stand = λ m i. elim (in_cons i) [ inl q ↦ rw q (user_stands ls n l k.left_of) | inr j ↦ ok.passed_stand m j ];
    live_apart = a;
    token_live = λ m i. elim (in_cons i) [
      | inl q ↦ rw (ap M.token q ∙ p.token_n ∙ sym (relabelled_new s t)) (h s (rw p.on_left.1 at (ok.token_live (maker ls l) p.on_left.0)))
      | inr j ↦ rw (p.token_m m j) (h (S.marks.token m) (ok.token_live m j))
    ];
    axioms_pass = λ m x y z q. there (ok.axioms_pass m x y z q);
    above = above_kept;
    cluster = λ x i. elim (cases_eq x s) [
      | inl q ↦ rw q c
      | inr q ↦
          let y = g x i q in
          let z = ok.cluster x y.0 in
          record { moves = z.moves; ends = z.ends; part = other_part x q y.1 z.moves z.ends z.part; puts = z.puts; written = rw (p.last_x x q) (kept_post z.moves z.part z.written) }
    ];
    total = e;
  }

part_either : {ls : List Link} {S : State} (t : ℕ) {ms : List Move} {Γ : Sequent} → Part ls S (Is t) ms Γ → Part ls S (Either t t) ms Γ
part_either t k = record {
  once = k.once;
  names_in = λ n i. let j = k.names_in n i in (j.0, inl j.1);
  in_names = λ n i q. k.in_names n i (elim q [ inl e ↦ e | inr e ↦ e ]);
  ends_in = λ o i. let j = k.ends_in o i in record { by = j.by; concludes = j.concludes; has_passed = j.has_passed; with_token = inl j.with_token; free = j.free };
  in_ends = λ o j. k.in_ends o (record { by = j.by; concludes = j.concludes; has_passed = j.has_passed; with_token = elim j.with_token [ inl e ↦ e | inr e ↦ e ]; free = j.free });
}

parts_joined : {ls : List Link} {S : State} (s t : ℕ) → s ≢ t → (ms ns : List Move) (Γ Δ : Sequent) → Part ls S (Is s) ms Γ → Part ls S (Is t) ns Δ → Part ls S (Either s t) (ms ++ ns) (Γ ++ Δ)
parts_joined s t h ms ns Γ Δ a b = record {
  once = named_apart ms ns a.once b.once (λ n i j. h (sym (a.names_in n i).1 ∙ (b.names_in n j).1));
  names_in = λ n i. elim (named_in_either ms ns i) [
    | inl j ↦ let k = a.names_in n j in (k.0, inl k.1)
    | inr j ↦ let k = b.names_in n j in (k.0, inr k.1)
  ];
  in_names = λ n i q. elim q [ inl e ↦ named_in_front ms ns (a.in_names n i e) | inr e ↦ named_in_back ms ns (b.in_names n i e) ];
  ends_in = λ o i. elim (in_append Γ i) [
    | inl x ↦ let j = a.ends_in o x in record { by = j.by; concludes = j.concludes; has_passed = j.has_passed; with_token = inl j.with_token; free = j.free }
    | inr x ↦ let j = b.ends_in o x in record { by = j.by; concludes = j.concludes; has_passed = j.has_passed; with_token = inr j.with_token; free = j.free }
  ];
  in_ends = λ o j. elim j.with_token [
    | inl e ↦ in_front Δ (a.in_ends o (record { by = j.by; concludes = j.concludes; has_passed = j.has_passed; with_token = e; free = j.free }))
    | inr e ↦ in_back Γ (b.in_ends o (record { by = j.by; concludes = j.concludes; has_passed = j.has_passed; with_token = e; free = j.free }))
  ];
}

length_without : (x : ℕ) (ys : List ℕ) → Apart ys → In x ys → length ys ≡ suc (length (without x ys))
length_without x ys a i =
    let k = count_without (λ y. true) x ys a i in
    let u = count_all (λ y. true) ys (λ y j. refl) in
    let v = count_all (λ y. true) (without x ys) (λ y j. refl) in
    omega arith

-- a par, both of whose premises have the token t
pub par_passes_lem : ParPasses
par_passes_lem ls facts S ok n l r c t e M p =
    let k : Takes ls n l r (c ∷ []) = takes ls n l r (c ∷ []) (ap premises e) (ap conclusions e) in
    let t-live : In t S.live = rw p.on_left.1 at (ok.token_live (maker ls l) p.on_left.0) in
    let z = ok.cluster t t-live in
    let q = ap is_join e in
    let w = ok.total in
    sound_after ls facts S ok n l r (c ∷ []) t t M k p S.live ok.live_apart (λ x i. rw (relabelled_same t x) i) (λ x i h. (i, h)) (
    record {
      moves = z.moves ++ (record { rule = rule.Par; link = n } ∷ []);
      ends = c ∷ without r (without l z.ends);
      part = new_part ls facts S ok n l r (c ∷ []) t t M k p S.live z.moves z.ends (record { rule = rule.Par; link = n }) refl (part_either t z.part);
      puts = λ Γs.
          plays_append (z.puts Γs) (
          next (by_par e (z.part.in_ends l (left_open ls facts S ok n l r (c ∷ []) t t M k p S.live)) (z.part.in_ends r (right_open ls facts S ok n l r (c ∷ []) t t M k p S.live))) done
          );
      written = rw p.last_s (stem {ms = z.moves} e (rw p.first_n (kept_post ls facts S ok n l r (c ∷ []) t t M k p S.live z.moves z.part z.written)));
    }
    ) (grind arith)

-- a tensor or a cut, whose premises have the tokens s and t: m is its move
module _ (ls : List Link) (facts : Facts ls) (S : State) (ok : Sound ls S) (n l r : ℕ) (cs : List ℕ) (s t : ℕ) (apart : s ≢ t) (join : is_join (link_at ls n) ≡ true) (M : Marks) (k : Takes ls n l r cs) (p : Pass ls S n l r s t M) (m : Move) (own : m.link ≡ n) where
  joined_passes : ((Γ Δ : Sequent) (Γs : Pile) → In l Γ → In r Δ → Does ls m (Δ ∷ Γ ∷ Γs) ((cs ++ without r (without l (Γ ++ Δ))) ∷ Γs)) → ((ms ns : List Move) → Post ls M (M.first n) ms → Post ls M (M.second n) ns → Post ls M n ((ms ++ ns) ++ (m ∷ []))) → Sound ls (after S n (without t S.live) M)
  joined_passes does writes =
      let live : List ℕ = without t S.live in
      let s-live : In s S.live = rw p.on_left.1 at (ok.token_live (maker ls l) p.on_left.0) in
      let t-live : In t S.live = rw p.on_right.1 at (ok.token_live (maker ls r) p.on_right.0) in
      let a = ok.cluster s s-live in
      let b = ok.cluster t t-live in
      let w = ok.total in
      let lw = length_without t S.live ok.live_apart t-live in
      sound_after ls facts S ok n l r cs s t M k p live (apart_without t S.live ok.live_apart) (
      λ x i.
      elim (cases_eq x t) [
        | inl e ↦ rw (ap (relabelled s t) e ∙ relabelled_old s t) (in_without t S.live s-live apart)
        | inr e ↦ rw (relabelled_other s t x e) (in_without t S.live i e)
      ]
      ) (λ x i h. from_without t S.live i) (
      record {
        moves = (a.moves ++ b.moves) ++ (m ∷ []);
        ends = cs ++ without r (without l (a.ends ++ b.ends));
        part = new_part ls facts S ok n l r cs s t M k p live (a.moves ++ b.moves) (a.ends ++ b.ends) m own (parts_joined s t apart a.moves b.moves a.ends b.ends a.part b.part);
        puts = λ Γs.
            plays_append (plays_append (a.puts Γs) (b.puts (a.ends ∷ Γs))) (
            next (does a.ends b.ends Γs (a.part.in_ends l (left_open ls facts S ok n l r cs s t M k p live)) (b.part.in_ends r (right_open ls facts S ok n l r cs s t M k p live))) done
            );
        written = rw p.last_s (writes a.moves b.moves (rw p.first_n (kept_post ls facts S ok n l r cs s t M k p live a.moves a.part a.written)) (rw p.second_n (kept_post ls facts S ok n l r cs s t M k p live b.moves b.part b.written)));
      }
      ) (grind arith)

pub tensor_passes_lem : TensorPasses
tensor_passes_lem ls facts S ok n l r c s t e h M p =
    joined_passes ls facts S ok n l r (c ∷ []) s t h (ap is_join e) M (takes ls n l r (c ∷ []) (ap premises e) (ap conclusions e)) p (record { rule = rule.Tensor; link = n }) refl (λ Γ Δ Γs a b. by_tensor e a b) (λ ms ns v w. fork e v w)

pub cut_passes_lem : CutPasses
cut_passes_lem ls facts S ok n l r s t e h M p =
    joined_passes ls facts S ok n l r [] s t h (ap is_join e) M (takes ls n l r [] (ap premises e) (ap conclusions e)) p (record { rule = rule.Cut; link = n }) refl (λ Γ Δ Γs a b. by_cut e a b) (λ ms ns v w. bond e v w)

-- the same for code that does not tell a tensor from a cut
pub join_passes : (ls : List Link) → Facts ls → (S : State) → Sound ls S → (n l r s t : ℕ) (z : Link) → link_at ls n ≡ z → is_join z ≡ true → premises z ≡ l ∷ r ∷ [] → s ≢ t → (M : Marks) → Pass ls S n l r s t M → Sound ls (after S n (without t S.live) M)
join_passes ls facts S ok n l r s t Empty e j q d M p = absurd (both_ways false refl j)
join_passes ls facts S ok n l r s t (Axiom a b c) e j q d M p = absurd (both_ways false refl j)
join_passes ls facts S ok n l r s t (Tensor a b c) e j q d M p = let x : a ≡ l = cc in let y : b ≡ r = cc in tensor_passes_lem ls facts S ok n l r c s t (rw (x, y) at e) d M p
join_passes ls facts S ok n l r s t (Par a b c) e j q d M p = absurd (both_ways false refl j)
join_passes ls facts S ok n l r s t (Cut a b) e j q d M p = let x : a ≡ l = cc in let y : b ≡ r = cc in cut_passes_lem ls facts S ok n l r s t (rw (x, y) at e) d M p

-- marks after a pass, where they may be functions

abbrev pub remarked : State → ℕ → ℕ → ℕ → Marks
remarked S n s t = record {
  token = λ m. cond (eqb m n) s (relabelled s t (S.marks.token m));
  last = λ x. cond (eqb x s) n (S.marks.last x);
  first = λ m. cond (eqb m n) (S.marks.last s) (S.marks.first m);
  second = λ m. cond (eqb m n) (S.marks.last t) (S.marks.second m);
}

pub remarked_passes : (ls : List Link) (S : State) (n l r s t : ℕ) → (In n S.passed → ⊥) → On ls S l s → On ls S r t → Pass ls S n l r s t (remarked S n s t)
remarked_passes ls S n l r s t f a b = record {
  fresh = f;
  on_left = a;
  on_right = b;
  token_n = rw (eq-eqb n n refl);
  token_m = λ m i. rw (ne_eqb m n (λ q. f (rw q at i)));
  last_s = rw (eq-eqb s s refl);
  last_x = λ x h. rw (ne_eqb x s h);
  first_n = rw (eq-eqb n n refl);
  first_m = λ m h. rw (ne_eqb m n h);
  second_n = rw (eq-eqb n n refl);
  second_m = λ m h. rw (ne_eqb m n h);
}
