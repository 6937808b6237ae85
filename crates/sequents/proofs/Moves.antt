-- Lists of moves, end to end: how they play, which links they name, and how the marks hold them. Assumes nothing.
use Rattle.std.proofs.Common.{◌≡◌, ℕ, ◌⊎◌, List, [], ◌∷◌, ◌++◌, map, sym, refl, ap, subst}
use Rattle.graphs.specs.Lists.{In, Apart}
use Rattle.graphs.specs.Lists.In.{here}
use Rattle.graphs.proofs.Members.{in_front, in_back, in_append, apart_append}
use Rattle.links.specs.declared.link.Link.{Link}
use Rattle.links.specs.declared.rule.Rule.TheVariants as rule
use Rattle.sequents.specs.Sequents.{Move, link_of, Pile, Plays}
use Rattle.sequents.specs.Sequents.Plays.{done, next}
use Rattle.sequents.specs.Unification.{Marks, Post}
use Rattle.sequents.specs.Unification.Post.{leaf, stem, fork, bond}

pub plays_append : {ls : List Link} {ms ns : List Move} {Γs Δs Θs : Pile} → Plays ls ms Γs Δs → Plays ls ns Δs Θs → Plays ls (ms ++ ns) Γs Θs
plays_append done q = q
plays_append (next d p) q = next d (plays_append p q)

names_append : (ms ns : List Move) → map link_of (ms ++ ns) ≡ map link_of ms ++ map link_of ns
names_append [] ns = refl
names_append (m ∷ ms) ns = ap (λ xs. m.link ∷ xs) (names_append ms ns)

pub named_in_either : (ms ns : List Move) {n : ℕ} → In n (map link_of (ms ++ ns)) → In n (map link_of ms) ⊎ In n (map link_of ns)
named_in_either ms ns i = in_append (map link_of ms) (rw (names_append ms ns) at i)

pub named_in_front : (ms ns : List Move) {n : ℕ} → In n (map link_of ms) → In n (map link_of (ms ++ ns))
named_in_front ms ns i = rw (names_append ms ns) (in_front (map link_of ns) i)

pub named_in_back : (ms ns : List Move) {n : ℕ} → In n (map link_of ns) → In n (map link_of (ms ++ ns))
named_in_back ms ns i = rw (names_append ms ns) (in_back (map link_of ms) i)

pub named_apart : (ms ns : List Move) → Apart (map link_of ms) → Apart (map link_of ns) → ((n : ℕ) → In n (map link_of ms) → In n (map link_of ns) → ⊥) → Apart (map link_of (ms ++ ns))
named_apart ms ns a b h = rw (names_append ms ns) (apart_append (map link_of ms) a b h)

-- marks that agree on the links of a list hold that list as well
pub post_kept : {ls : List Link} {M N : Marks} {n : ℕ} {ms : List Move} → Post ls M n ms → ((m : ℕ) → In m (map link_of ms) → (N.first m ≡ M.first m) × (N.second m ≡ M.second m)) → Post ls N n ms
post_kept (leaf e) h = leaf e
post_kept {ls} {N = N} (stem {n = n} {ms = ms} e w) h =
    let own : List Move = record { rule = rule.Par; link = n } ∷ [] in
    let k = h n (named_in_back ms own (here refl)) in
    stem e (subst (λ (x : ℕ). Post ls N x ms) (sym k.0) (post_kept w (λ m i. h m (named_in_front ms own i))))
post_kept {ls} {N = N} (fork {n = n} {ms = ms} {ns = ns} e v w) h =
    let own : List Move = record { rule = rule.Tensor; link = n } ∷ [] in
    let k = h n (named_in_back (ms ++ ns) own (here refl)) in
    fork e (subst (λ (x : ℕ). Post ls N x ms) (sym k.0) (post_kept v (λ m i. h m (named_in_front (ms ++ ns) own (named_in_front ms ns i))))) (subst (λ (x : ℕ). Post ls N x ns) (sym k.1) (post_kept w (λ m i. h m (named_in_front (ms ++ ns) own (named_in_back ms ns i)))))
post_kept {ls} {N = N} (bond {n = n} {ms = ms} {ns = ns} e v w) h =
    let own : List Move = record { rule = rule.Cut; link = n } ∷ [] in
    let k = h n (named_in_back (ms ++ ns) own (here refl)) in
    bond e (subst (λ (x : ℕ). Post ls N x ms) (sym k.0) (post_kept v (λ m i. h m (named_in_front (ms ++ ns) own (named_in_front ms ns i))))) (subst (λ (x : ℕ). Post ls N x ns) (sym k.1) (post_kept w (λ m i. h m (named_in_front (ms ++ ns) own (named_in_back ms ns i)))))
