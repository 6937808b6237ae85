-- A sequent proof makes every switching a tree. While its moves are played, each sequent of the pile has a group of
-- links that conclude it, all joined by occurrences kept into named links; and the pile is as long as there are axioms
-- named more than tensors and cuts.
use Rattle.std.proofs.Common.{◌≡◌, ℕ, suc, ◌+◌, cond, ◌⊎◌, List, [], ◌∷◌, ◌++◌, map, length, sym, refl, ap, subst, inl, inr, arith}
use Rattle.graphs.specs.Lists.{In}
use Rattle.graphs.specs.Lists.In.{here, there}
use Rattle.graphs.specs.Selections.{without}
use Rattle.graphs.specs.Walks.{Edge, JoinedBy}
use Rattle.graphs.proofs.Members.{not_in_nil, in_cons, in_one, in_front, in_back, in_append, from_without}
use Rattle.graphs.proofs.Counts.{count_agrees, within_no_longer}
use Rattle.graphs.proofs.Walks.{joined_eq, joined_trans, joined_sym, joined_edge, joined_map}
use Rattle.links.specs.declared.link.Link.{Link}
use Rattle.links.specs.declared.link.Link.TheVariants.{Axiom, Tensor, Par, Cut}
use Rattle.links.specs.Links.{link_at, Concludes, LinkStands}
use Rattle.links.specs.Facts.{Facts}
use Rattle.links.proofs.Reading.{concl}
use Rattle.switchings.specs.Switchings.{Side, Switching, Keeps, Connected, Correct}
use Rattle.switchings.specs.Switchings.Side.{left, right}
use Rattle.switchings.specs.Edges.{is_link, is_axiom_lem, is_join, standing, axioms_of, joins_of, KeptInto}
use Rattle.switchings.proofs.Occurrences.{listed_concludes, link_not_empty}
use Rattle.switchings.proofs.Listed.{stands_listed, listed_stands, standing_apart}
use Rattle.switchings.proofs.Drawn.{standing_count, joins_acyclic}
use Rattle.sequents.specs.Sequents.{Move, link_of, Sequent, Pile, Does, Plays, SequentProof}
use Rattle.sequents.specs.Sequents.Does.{by_axiom, by_par, by_tensor, by_cut}
use Rattle.sequents.specs.Sequents.Plays.{done, next}
use Rattle.sequents.specs.Claims.{ProofIsAsLongAsItsNet}

-- what a link of a kind keeps

keeps : (s : Side) (o : ℕ) {k : Link} (l : Link) → k ≡ l → Keeps s l o → Keeps s k o
keeps s o l e h = subst (λ (x : Link). Keeps s x o) (sym e) h

par_keeps_one : (s : Side) {k : Link} {l r c : ℕ} → k ≡ Par l r c → Keeps s k l ⊎ Keeps s k r
par_keeps_one left {l = l} {r = r} {c = c} e = inl (keeps left l (Par l r c) e refl)
par_keeps_one right {l = l} {r = r} {c = c} e = inr (keeps right r (Par l r c) e refl)

-- a group of links, all joined, that conclude the sequent
record Group (ls : List Link) (P : Edge → Type 0) (Γ : Sequent) (G : List ℕ) : Type 0 where
  makers : (o : ℕ) → In o Γ → (n : ℕ) × In n G × Concludes (link_at ls n) o
  joined : (u v : ℕ) → In u G → In v G → JoinedBy P u v

data Groups (ls : List Link) (P : Edge → Type 0) : Pile → List (List ℕ) → Type 0 where
  empty : Groups ls P [] []
  more : {Γ : Sequent} {Γs : Pile} {G : List ℕ} {Gs : List (List ℕ)} → Group ls P Γ G → Groups ls P Γs Gs → Groups ls P (Γ ∷ Γs) (G ∷ Gs)

abbrev flat : List (List ℕ) → List ℕ
flat [] = []
flat (G ∷ Gs) = G ++ flat Gs

-- the groups after some moves that name ns: no link is lost
record After (ls : List Link) (P : Edge → Type 0) (Γs : Pile) (Gs : List (List ℕ)) (ns : List ℕ) : Type 0 where
  groups : List (List ℕ)
  are : Groups ls P Γs groups
  old : (n : ℕ) → In n (flat Gs) → In n (flat groups)
  new : (n : ℕ) → In n ns → In n (flat groups)

-- all are joined to one of them
joined_by_hub : {P : Edge → Type 0} {G : List ℕ} (n : ℕ) → ((u : ℕ) → In u G → JoinedBy P u n) → (u v : ℕ) → In u (n ∷ G) → In v (n ∷ G) → JoinedBy P u v
joined_by_hub {P} {G} n h u v i j = joined_trans (to u i) (joined_sym (to v j))
  where
    to : (w : ℕ) → In w (n ∷ G) → JoinedBy P w n
    to w k = elim (in_cons k) [ inl e ↦ joined_eq e | inr m ↦ h w m ]

module _ (ls : List Link) (σ : Switching) (ns : List ℕ) where
  abbrev P : Edge → Type 0
  P = KeptInto ls σ ns

  -- the link n is joined to a group through a premise in the group's sequent that it keeps
  reach : {Γ : Sequent} {G : List ℕ} → Group ls P Γ G → (n o : ℕ) → In n ns → In o Γ → Keeps (σ n) (link_at ls n) o → (u : ℕ) → In u G → JoinedBy P u n
  reach g n o i j k u m =
      let by = g.makers o j in
      let e : Edge = record { name = o; from = by.0; to = n } in
      joined_trans (g.joined u by.0 m by.1) (joined_edge e (record { kept = record { ends = by.2; keeps = k }; into = i }) (inl (refl, refl)))

  axiom_group : (n p q a : ℕ) → link_at ls n ≡ Axiom p q a → Group ls P (p ∷ q ∷ []) (n ∷ [])
  axiom_group n p q a e = record {
    makers = λ o i. (n, here refl, concl o (Axiom p q a) e (listed_concludes (Axiom p q a) i));
    joined = joined_by_hub n (λ u i. absurd (not_in_nil i));
  }

  -- the conclusion is the new link's, the rest is as it was
  with_conclusion : {Γ : Sequent} {G : List ℕ} (n c : ℕ) → Concludes (link_at ls n) c → ((o : ℕ) → In o Γ → (m : ℕ) × In m G × Concludes (link_at ls m) o) → (o : ℕ) → In o (c ∷ Γ) → (m : ℕ) × In m (n ∷ G) × Concludes (link_at ls m) o
  with_conclusion n c h old o i =
      elim (in_cons i) [
        | inl q ↦ (n, here refl, subst (λ (x : ℕ). Concludes (link_at ls n) x) (sym q) h)
        | inr j ↦ let m = old o j in (m.0, there m.1, m.2)
      ]

  par_group : {Γ : Sequent} {G : List ℕ} → Group ls P Γ G → (n l r c : ℕ) → In n ns → link_at ls n ≡ Par l r c → In l Γ → In r Γ → Group ls P (c ∷ without r (without l Γ)) (n ∷ G)
  par_group {Γ} g n l r c i e a b = record {
    makers = with_conclusion n c (concl c (Par l r c) e refl) (λ o k. g.makers o (from_without l Γ (from_without r (without l Γ) k).0).0);
    joined = joined_by_hub n (elim (par_keeps_one (σ n) e) [ inl k ↦ reach g n l i a k | inr k ↦ reach g n r i b k ]);
  }

  both_reach : {Γ Δ : Sequent} {G H : List ℕ} → Group ls P Γ G → Group ls P Δ H → (n l r : ℕ) → In n ns → In l Γ → In r Δ → Keeps (σ n) (link_at ls n) l → Keeps (σ n) (link_at ls n) r → (u : ℕ) → In u (G ++ H) → JoinedBy P u n
  both_reach {G = G} g h n l r i a b k m u j = elim (in_append G j) [ inl x ↦ reach g n l i a k u x | inr x ↦ reach h n r i b m u x ]

  rest_makers : {Γ Δ : Sequent} {G H : List ℕ} → Group ls P Γ G → Group ls P Δ H → (l r o : ℕ) → In o (without r (without l (Γ ++ Δ))) → (n : ℕ) × In n (G ++ H) × Concludes (link_at ls n) o
  rest_makers {Γ} {Δ} {G} {H} g h l r o k =
      elim (in_append Γ (from_without l (Γ ++ Δ) (from_without r (without l (Γ ++ Δ)) k).0).0) [
        | inl x ↦ let m = g.makers o x in (m.0, in_front H m.1, m.2)
        | inr x ↦ let m = h.makers o x in (m.0, in_back G m.1, m.2)
      ]

  tensor_group : {Γ Δ : Sequent} {G H : List ℕ} → Group ls P Γ G → Group ls P Δ H → (n l r c : ℕ) → In n ns → link_at ls n ≡ Tensor l r c → In l Γ → In r Δ → Group ls P (c ∷ without r (without l (Γ ++ Δ))) (n ∷ (G ++ H))
  tensor_group g h n l r c i e a b = record {
    makers = with_conclusion n c (concl c (Tensor l r c) e refl) (rest_makers g h l r);
    joined = joined_by_hub n (both_reach g h n l r i a b (keeps (σ n) l (Tensor l r c) e (inl refl)) (keeps (σ n) r (Tensor l r c) e (inr refl)));
  }

  cut_group : {Γ Δ : Sequent} {G H : List ℕ} → Group ls P Γ G → Group ls P Δ H → (n l r : ℕ) → In n ns → link_at ls n ≡ Cut l r → In l Γ → In r Δ → Group ls P (without r (without l (Γ ++ Δ))) (n ∷ (G ++ H))
  cut_group g h n l r i e a b = record {
    makers = λ o k. let m = rest_makers g h l r o k in (m.0, there m.1, m.2);
    joined = joined_by_hub n (both_reach g h n l r i a b (keeps (σ n) l (Cut l r) e (inl refl)) (keeps (σ n) r (Cut l r) e (inr refl)));
  }

  -- the two groups of a tensor or a cut become one
  both_kept : (n m : ℕ) (G H : List ℕ) (Gs : List (List ℕ)) → In n (H ++ (G ++ flat Gs)) → In n ((m ∷ (G ++ H)) ++ flat Gs)
  both_kept n m G H Gs i =
      there (elim (in_append H i) [
        | inl j ↦ in_front (flat Gs) (in_back G j)
        | inr j ↦ elim (in_append G j) [ inl k ↦ in_front (flat Gs) (in_front H k) | inr k ↦ in_back (G ++ H) k ]
      ])

  one_move : {m : Move} {Γs Δs : Pile} {Gs : List (List ℕ)} → Does ls m Γs Δs → In m.link ns → Groups ls P Γs Gs → After ls P Δs Gs (m.link ∷ [])
  one_move {Gs = Gs} (by_axiom {n = n} {p = p} {q = q} {a = a} e) i gs = record {
    groups = (n ∷ []) ∷ Gs;
    are = more (axiom_group n p q a e) gs;
    old = λ x j. there j;
    new = λ x j. here (in_one j);
  }
  one_move (by_par {n = n} {l = l} {r = r} {c = c} e a b) i (more {G = G} {Gs = Gs} g gs) = record {
    groups = (n ∷ G) ∷ Gs;
    are = more (par_group g n l r c i e a b) gs;
    old = λ x j. there j;
    new = λ x j. here (in_one j);
  }
  one_move (by_tensor {n = n} {l = l} {r = r} {c = c} e a b) i (more {G = H} h (more {G = G} {Gs = Gs} g gs)) = record {
    groups = (n ∷ (G ++ H)) ∷ Gs;
    are = more (tensor_group g h n l r c i e a b) gs;
    old = λ x j. both_kept x n G H Gs j;
    new = λ x j. here (in_one j);
  }
  one_move (by_cut {n = n} {l = l} {r = r} e a b) i (more {G = H} h (more {G = G} {Gs = Gs} g gs)) = record {
    groups = (n ∷ (G ++ H)) ∷ Gs;
    are = more (cut_group g h n l r i e a b) gs;
    old = λ x j. both_kept x n G H Gs j;
    new = λ x j. here (in_one j);
  }

  all_moves : {ms : List Move} {Γs Δs : Pile} {Gs : List (List ℕ)} → Plays ls ms Γs Δs → ((n : ℕ) → In n (map link_of ms) → In n ns) → Groups ls P Γs Gs → After ls P Δs Gs (map link_of ms)
  all_moves {Gs = Gs} done h gs = record { groups = Gs; are = gs; old = λ n i. i; new = λ n i. absurd (not_in_nil i) }
  all_moves (next {m = m} d p) h gs =
      let a = one_move d (h m.link (here refl)) gs in
      let b = all_moves p (λ n i. h n (there i)) a.are in
      record {
        groups = b.groups;
        are = b.are;
        old = λ n i. b.old n (a.old n i);
        new = λ n i. elim (in_cons i) [ inl e ↦ b.old n (a.new n (here e)) | inr j ↦ b.new n j ];
      }

  one_group : {Γ : Sequent} {Gs : List (List ℕ)} → Groups ls P (Γ ∷ []) Gs → (u v : ℕ) → In u (flat Gs) → In v (flat Gs) → JoinedBy P u v
  one_group (more {G = G} g empty) u v i j =
      let only : (w : ℕ) → In w (G ++ []) → In w G = λ w k. elim (in_append G k) [ inl x ↦ x | inr x ↦ absurd (not_in_nil x) ] in
      g.joined u v (only u i) (only v j)

  -- the links of a proof are joined by occurrences kept into those links
  pub named_joined : {ms : List Move} {Γ : Sequent} → Plays ls ms [] (Γ ∷ []) → ((n : ℕ) → In n (map link_of ms) → In n ns) → (u v : ℕ) → In u (map link_of ms) → In v (map link_of ms) → JoinedBy P u v
  named_joined p h u v i j = let a = all_moves p h empty in one_group a.are u v (a.new u i) (a.new v j)

-- which links are named, and how many

does_stands : {ls : List Link} {m : Move} {Γs Δs : Pile} → Does ls m Γs Δs → LinkStands ls m.link
does_stands {ls} (by_axiom {n = n} e) = link_not_empty (link_at ls n) (ap is_link e)
does_stands {ls} (by_par {n = n} e a b) = link_not_empty (link_at ls n) (ap is_link e)
does_stands {ls} (by_tensor {n = n} e a b) = link_not_empty (link_at ls n) (ap is_link e)
does_stands {ls} (by_cut {n = n} e a b) = link_not_empty (link_at ls n) (ap is_link e)

pub named_stands : (ls : List Link) {ms : List Move} {Γs Δs : Pile} → Plays ls ms Γs Δs → (n : ℕ) → In n (map link_of ms) → LinkStands ls n
named_stands ls done n i = absurd (not_in_nil i)
named_stands ls (next {m = m} d p) n i = elim (in_cons i) [ inl e ↦ subst (LinkStands ls) (sym e) (does_stands d) | inr j ↦ named_stands ls p n j ]

pub some_link_named : {ls : List Link} {ms : List Move} {Γ : Sequent} → Plays ls ms [] (Γ ∷ []) → (n : ℕ) × In n (map link_of ms)
some_link_named (next {m = m} d p) = (m.link, here refl)

does_count : {ls : List Link} {m : Move} {Γs Δs : Pile} → Does ls m Γs Δs → length Δs + cond (is_join (link_at ls m.link)) 1 0 ≡ length Γs + cond (is_axiom_lem (link_at ls m.link)) 1 0
does_count (by_axiom e) = rw e (omega arith)
does_count (by_par e a b) = rw e (omega arith)
does_count (by_tensor e a b) = rw e (omega arith)
does_count (by_cut e a b) = rw e (omega arith)

pub plays_count : {ls : List Link} {ms : List Move} {Γs Δs : Pile} → Plays ls ms Γs Δs → length Δs + joins_of ls (map link_of ms) ≡ length Γs + axioms_of ls (map link_of ms)
plays_count done = refl
plays_count (next d p) = let a = does_count d in let b = plays_count p in grind arith

length_names : (ms : List Move) → length (map link_of ms) ≡ length ms
length_names [] = refl
length_names (m ∷ ms) = ap suc (length_names ms)

pub proof_is_as_long_as_its_net_lem : ProofIsAsLongAsItsNet
proof_is_as_long_as_its_net_lem ls ms p =
    let a = within_no_longer (map link_of ms) (standing ls) p.once (λ n i. stands_listed ls n (named_stands ls p.plays n i)) in
    let b = within_no_longer (standing ls) (map link_of ms) (standing_apart ls) (λ n i. p.each n (listed_stands ls n i)) in
    let c = length_names ms in
    let d = standing_count ls in
    omega arith

-- so a sequent proof shows its net correct
pub sequent_proof_correct : (ls : List Link) → Facts ls → (ms : List Move) → SequentProof ls ms → Correct ls
sequent_proof_correct ls facts ms p = record { connected = connected; acyclic = λ σ. joins_acyclic ls facts σ (connected σ) count }
  where
    named : (n : ℕ) → In n (map link_of ms) → LinkStands ls n
    named = named_stands ls p.plays

    connected : (σ : Switching) → Connected ls σ
    connected σ = record {
      one = let k = some_link_named p.plays in (k.0, named k.0 k.1);
      all = λ u v i j. joined_map (λ e k. k.kept) (named_joined ls σ (standing ls) p.plays (λ n k. stands_listed ls n (named n k)) u v (p.each u i) (p.each v j));
    }

    count : axioms_of ls (standing ls) ≡ joins_of ls (standing ls) + 1
    count =
        let in-standing : (n : ℕ) → In n (map link_of ms) → In n (standing ls) = λ n i. stands_listed ls n (named n i) in
        let in_names : (n : ℕ) → In n (standing ls) → In n (map link_of ms) = λ n i. p.each n (listed_stands ls n i) in
        let a = plays_count p.plays in
        let b = count_agrees (λ n. is_axiom_lem (link_at ls n)) (map link_of ms) (standing ls) p.once (standing_apart ls) in-standing in_names in
        let c = count_agrees (λ n. is_join (link_at ls n)) (map link_of ms) (standing ls) p.once (standing_apart ls) in-standing in_names in
        omega arith
