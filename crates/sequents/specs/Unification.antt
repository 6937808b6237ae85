-- Unification, as states: which links have passed, with which tokens, and with marks that hold a proof.
-- A device between a structure and its sequent proof; what is to be believed is in Sequents.antt alone.
-- Each axiom starts with a token on both ends. A tensor or a cut with two different tokens makes them one and passes. A
-- par passes when both its premises carry the same token. A conclusion takes its link's token.
use Rattle.std.specs.Prelude.{◌≡◌, ℕ, true, ◌≢◌, ◌⊎◌, List, [], ◌∷◌, ◌++◌}
use Rattle.graphs.specs.Lists.{In}
use Rattle.graphs.specs.Selections.{select}
use Rattle.graphs.specs.Classes.{relabelled}
use Rattle.links.specs.declared.link.Link.{Link}
use Rattle.links.specs.declared.link.Link.TheVariants.{Axiom, Tensor, Par, Cut}
use Rattle.links.specs.declared.rule.Rule.TheVariants as rule
use Rattle.links.specs.Links.{link_at, Uses, LinkStands}
use Rattle.switchings.specs.Switchings.{Switching}
use Rattle.switchings.specs.Switchings.Side.{left, right}
use Rattle.switchings.specs.Edges.{is_axiom_lem, is_join, standing, maker}
use Rattle.sequents.specs.Sequents.{Move}

-- the token of each passed link; for each token the last link that passed with it; and for each passed par, tensor or
-- cut the last link of the moves that go before it, a tensor or a cut having two such: for its left, then its right
pub record Marks : Type 0 where
  pub token : ℕ → ℕ
  pub last : ℕ → ℕ
  pub first : ℕ → ℕ
  pub second : ℕ → ℕ

-- the links that have passed, the tokens that are left, and the marks
pub record State : Type 0 where
  pub passed : List ℕ
  pub live : List ℕ
  pub marks : Marks

-- the occurrence o carries the token t: the link that concludes it has passed and has it
abbrev pub On : List Link → State → ℕ → ℕ → Type 0
On ls S o t = In (maker ls o) S.passed × (S.marks.token (maker ls o) ≡ t)

-- the axioms that stand
abbrev pub wires : List Link → List ℕ
wires ls = select (λ n. is_axiom_lem (link_at ls n)) (standing ls)

-- at the start each axiom has passed, with a token of its own
abbrev pub begun : List Link → Marks → State
begun ls M = record { passed = wires ls; live = wires ls; marks = M }

-- the marks say so: each axiom is its own token, and the last link that passed with it
abbrev pub OwnTokens : List Link → Marks → Type 0
OwnTokens ls M = (n : ℕ) → In n (wires ls) → (M.token n ≡ n) × (M.last n ≡ n)

-- the state after the link n has passed
abbrev pub after : State → ℕ → List ℕ → Marks → State
after S n live M = record { passed = n ∷ S.passed; live = live; marks = M }

-- the unpassed link n, whose premises l and r carry the tokens s and t, passes and makes both s; M are the marks then
pub record Pass (ls : List Link) (S : State) (n l r s t : ℕ) (M : Marks) : Type 0 where
  pub fresh : In n S.passed → ⊥
  pub on_left : On ls S l s
  pub on_right : On ls S r t
  pub token_n : M.token n ≡ s
  pub token_m : (m : ℕ) → In m S.passed → M.token m ≡ relabelled s t (S.marks.token m)
  pub last_s : M.last s ≡ n
  pub last_x : (x : ℕ) → x ≢ s → M.last x ≡ S.marks.last x
  pub first_n : M.first n ≡ S.marks.last s
  pub first_m : (m : ℕ) → m ≢ n → M.first m ≡ S.marks.first m
  pub second_n : M.second n ≡ S.marks.last t
  pub second_m : (m : ℕ) → m ≢ n → M.second m ≡ S.marks.second m

-- the link n neither passes nor has one token on both premises of a tensor or a cut
pub record Idle (ls : List Link) (S : State) (n : ℕ) : Type 0 where
  pub no_par : (l r c t : ℕ) → link_at ls n ≡ Par l r c → On ls S l t → On ls S r t → ⊥
  pub no_join : (o q s t : ℕ) → is_join (link_at ls n) ≡ true → Uses (link_at ls n) o → Uses (link_at ls n) q → o ≢ q → On ls S o s → On ls S q t → ⊥

-- no unpassed link can do anything
abbrev pub Stuck : List Link → State → Type 0
Stuck ls S = (n : ℕ) → LinkStands ls n → (In n S.passed → ⊥) → Idle ls S n

-- the token t is on the unpassed tensor or cut n
pub record Waits (ls : List Link) (S : State) (t n : ℕ) : Type 0 where
  pub unpassed : In n S.passed → ⊥
  pub join : is_join (link_at ls n) ≡ true
  pub premise : ℕ
  pub uses : Uses (link_at ls n) premise
  pub on : On ls S premise t

-- unpassed pars with the token t pick their other premise
abbrev pub Avoids : List Link → State → ℕ → Switching → Type 0
Avoids ls S t σ = (n l r c : ℕ) → (In n S.passed → ⊥) → link_at ls n ≡ Par l r c → (On ls S l t → σ n ≡ right) × (On ls S r t → σ n ≡ left)

-- sides for a state in which nothing passes: they avoid a token that is on no unpassed tensor or cut, where there is
-- such a token; else each token is on one, and any sides will do
abbrev pub Chosen : List Link → State → Switching → Type 0
Chosen ls S σ = ((t : ℕ) × In t S.live × ((n : ℕ) → Waits ls S t n → ⊥) × Avoids ls S t σ) ⊎ ((t : ℕ) → In t S.live → (n : ℕ) × Waits ls S t n)

-- the moves that the marks hold below the link n: those of its first, then of its second, then its own
pub data Post (ls : List Link) (M : Marks) : ℕ → List Move → Type 0 where
  leaf : {n p q a : ℕ} → link_at ls n ≡ Axiom p q a → Post ls M n (record { rule = rule.Axiom; link = n } ∷ [])
  stem : {n l r c : ℕ} {ms : List Move} → link_at ls n ≡ Par l r c → Post ls M (M.first n) ms → Post ls M n (ms ++ (record { rule = rule.Par; link = n } ∷ []))
  fork : {n l r c : ℕ} {ms ns : List Move} → link_at ls n ≡ Tensor l r c → Post ls M (M.first n) ms → Post ls M (M.second n) ns → Post ls M n ((ms ++ ns) ++ (record { rule = rule.Tensor; link = n } ∷ []))
  bond : {n l r : ℕ} {ms ns : List Move} → link_at ls n ≡ Cut l r → Post ls M (M.first n) ms → Post ls M (M.second n) ns → Post ls M n ((ms ++ ns) ++ (record { rule = rule.Cut; link = n } ∷ []))
