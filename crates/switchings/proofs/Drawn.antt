-- Counting the graph of a switching: as many points as links stand, two edges for a tensor or a cut, one for a par.
-- So a switching is a tree by count alone. `Drawn` holds the two lists with all that is known of them.
use Rattle.std.proofs.Common.{◌≡◌, ℕ, zero, suc, ◌+◌, cond, List, [], ◌∷◌, ◌++◌, map, length, refl, ap, ◌∙◌, inl, inr, arith, length-append}
use Rattle.graphs.specs.Lists.{In}
use Rattle.graphs.specs.Lists.In.{here, there}
use Rattle.graphs.specs.Walks.{Edge, JoinedBy, AcyclicOver}
use Rattle.graphs.specs.Graphs.{Graph, Joined, Cycle, Acyclic, Loopless}
use Rattle.graphs.proofs.Walks.{joined_map, cycle_map, acyclic_map}
use Rattle.graphs.proofs.Listings.{tree_has_no_cycle_over, tree_has_one_edge_less_over}
use Rattle.links.specs.declared.link.Link.{Link}
use Rattle.links.specs.Links.{link_at, LinkStands, total, one_if_link, link_count}
use Rattle.links.specs.Facts.{Facts}
use Rattle.links.proofs.Deciding.{is_empty}
use Rattle.switchings.specs.Switchings.{Switching, Kept, Connected, OnCycle, NoWalk}
use Rattle.switchings.specs.Switchings.Side.{left}
use Rattle.switchings.specs.Edges.{kept, lines, standing_below, standing, axioms_of, joins_of, edge, edges_into, edges}
use Rattle.switchings.specs.Claims.{PointsAreListed, SwitchingsHaveTheSameCount, CorrectByCount}
use Rattle.switchings.proofs.Occurrences.{lines_kept, not_empty_link, one_if_link_test, link_counts}
use Rattle.switchings.proofs.Listed.{stands_listed, listed_stands, standing_below_more, standing_below_same, edges_below_more, kept_listed, listed_kept, kept_loopless, switching_graph, switching_listed}

-- how many points and edges

pub standing_below_count : (ls : List Link) (n : ℕ) → length (standing_below ls n) ≡ total (λ k. one_if_link (link_at ls k)) n
unfolding standing_below
standing_below_count ls zero = refl
standing_below_count ls (suc n) =
    let k = standing_below_count ls n in
    elim (is_empty (link_at ls n)) [
      | inl e ↦ let l = ap length (standing_below_same ls n e) in let o = ap one_if_link e in omega arith
      | inr s ↦ let l = ap length (standing_below_more ls n s) in let o : one_if_link (link_at ls n) ≡ 1 = one_if_link_test (link_at ls n) ∙ ap (λ b. cond b 1 0) (not_empty_link (link_at ls n) s) in omega arith
    ]

pub standing_count : (ls : List Link) → length (standing ls) ≡ link_count ls
standing_count ls = standing_below_count ls (length ls)

length_map : {A B : Type 0} (f : A → B) (xs : List A) → length (map f xs) ≡ length xs
length_map f [] = refl
length_map f (x ∷ xs) = ap suc (length_map f xs)

block_count : (ls : List Link) (σ : Switching) (n : ℕ) (E : List Edge) → length (map (edge ls n) (kept (σ n) (link_at ls n)) ++ E) ≡ length (kept (σ n) (link_at ls n)) + length E
block_count ls σ n E =
    let a = length-append (map (edge ls n) (kept (σ n) (link_at ls n))) E in
    let b = length_map (edge ls n) (kept (σ n) (link_at ls n)) in
    omega arith

pub edges_below_count : (ls : List Link) (σ : Switching) (n : ℕ) → length (edges_into ls σ (standing_below ls n)) ≡ total (λ k. lines (link_at ls k)) n
unfolding standing_below edges_into
edges_below_count ls σ zero = refl
edges_below_count ls σ (suc n) =
    let k = edges_below_count ls σ n in
    let a = ap length (edges_below_more ls σ n) in
    let b = block_count ls σ n (edges_into ls σ (standing_below ls n)) in
    let c = lines_kept (σ n) (link_at ls n) in
    omega arith

pub edges_count : (ls : List Link) (σ : Switching) → length (edges ls σ) ≡ total (λ k. lines (link_at ls k)) (length ls)
edges_count ls σ = edges_below_count ls σ (length ls)

-- for any list of links
pub counts_into : (ls : List Link) (σ : Switching) (ns : List ℕ) → ((n : ℕ) → In n ns → LinkStands ls n) → length ns + joins_of ls ns ≡ length (edges_into ls σ ns) + axioms_of ls ns
unfolding edges_into
counts_into ls σ [] h = refl
counts_into ls σ (n ∷ ns) h =
    let k = counts_into ls σ ns (λ m i. h m (there i)) in
    let c = link_counts (σ n) (link_at ls n) (not_empty_link (link_at ls n) (h n (here refl))) in
    let a = block_count ls σ n (edges_into ls σ ns) in
    grind arith

pub switching_counts : (ls : List Link) (σ : Switching) → length (standing ls) + joins_of ls (standing ls) ≡ length (edges ls σ) + axioms_of ls (standing ls)
switching_counts ls σ = counts_into ls σ (standing ls) (listed_stands ls)

pub points_are_listed_lem : PointsAreListed
points_are_listed_lem ls = (λ n. (listed_stands ls n, stands_listed ls n), standing_count ls)

pub switchings_have_the_same_count_lem : SwitchingsHaveTheSameCount
switchings_have_the_same_count_lem ls σ = (edges_count ls σ, switching_counts ls σ)

module _ (ls : List Link) (facts : Facts ls) (σ : Switching) where
  -- the graph of the switching as two lists
  pub record Drawn : Type 0 where
    pub V : List ℕ
    pub E : List Edge
    pub graph : Graph V E
    pub v_in : (k : ℕ) → LinkStands ls k → In k V
    pub v_of : (k : ℕ) → In k V → LinkStands ls k
    pub e_in : (e : Edge) → Kept ls σ e → In e E
    pub e_of : (e : Edge) → In e E → Kept ls σ e
    pub loopless : Loopless E
    pub v_long : length V ≡ total (λ k. one_if_link (link_at ls k)) (length ls)
    pub e_long : length E ≡ total (λ k. lines (link_at ls k)) (length ls)

  pub drawn : Drawn
  drawn = record {
    V = standing ls;
    E = edges ls σ;
    graph = switching_graph ls facts σ;
    v_in = stands_listed ls;
    v_of = listed_stands ls;
    e_in = kept_listed ls facts σ;
    e_of = listed_kept ls facts σ;
    loopless = λ e i. kept_loopless ls facts σ e (listed_kept ls facts σ e i);
    v_long = standing_count ls;
    e_long = edges_count ls σ;
  }

  pub cycle_of : (u : ℕ) → Cycle drawn.E u → OnCycle ls σ u
  cycle_of u c = cycle_map drawn.e_of c

  -- what is found in the lists holds of the graph
  pub joined_of : (u v : ℕ) → Joined (edges ls σ) u v → JoinedBy (Kept ls σ) u v
  joined_of u v j = joined_map (listed_kept ls facts σ) j

  pub acyclic_of : Acyclic (edges ls σ) → AcyclicOver (Kept ls σ)
  acyclic_of a = acyclic_map (kept_listed ls facts σ) a

  pub no_walk_of : (u v : ℕ) → LinkStands ls u → LinkStands ls v → (Joined (edges ls σ) u v → ⊥) → NoWalk ls σ u v
  no_walk_of u v s t h = record { one_stands = s; other_stands = t; no_walk = λ j. h (joined_map (kept_listed ls facts σ) j) }

  -- a switching that is connected and free of cycles has one edge less than points
  pub tree_lines : Connected ls σ → AcyclicOver (Kept ls σ) → total (λ k. lines (link_at ls k)) (length ls) + 1 ≡ total (λ k. one_if_link (link_at ls k)) (length ls)
  tree_lines c a =
      let t = tree_has_one_edge_less_over (switching_listed ls facts σ) (kept_loopless ls facts σ) c a in
      let v = standing_count ls in
      let e = edges_count ls σ in
      omega arith

  -- and connected with one edge less than points it is free of cycles
  pub tree_acyclic : Connected ls σ → total (λ k. lines (link_at ls k)) (length ls) + 1 ≡ total (λ k. one_if_link (link_at ls k)) (length ls) → AcyclicOver (Kept ls σ)
  tree_acyclic c h =
      let v = standing_count ls in
      let e = edges_count ls σ in
      tree_has_no_cycle_over (switching_listed ls facts σ) c (omega arith)

  -- the same in axioms, tensors and cuts

  pub tree_joins : Connected ls σ → AcyclicOver (Kept ls σ) → axioms_of ls (standing ls) ≡ joins_of ls (standing ls) + 1
  tree_joins c a =
      let t = tree_has_one_edge_less_over (switching_listed ls facts σ) (kept_loopless ls facts σ) c a in
      let n = switching_counts ls σ in
      omega arith

  pub joins_acyclic : Connected ls σ → axioms_of ls (standing ls) ≡ joins_of ls (standing ls) + 1 → AcyclicOver (Kept ls σ)
  joins_acyclic c h =
      let n = switching_counts ls σ in
      tree_has_no_cycle_over (switching_listed ls facts σ) c (omega arith)

pub correct_by_count_lem : CorrectByCount
correct_by_count_lem ls facts = (
  λ c. (c.connected, tree_joins ls facts (λ n. left) (c.connected (λ n. left)) (c.acyclic (λ n. left))),
  λ h. record { connected = h.0; acyclic = λ σ. joins_acyclic ls facts σ (h.0 σ) h.1 },
)
