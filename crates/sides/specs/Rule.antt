-- The rule for the sides of a structure that is not accepted, over the tokens that unification left: a row with an
-- entry for each link, its token, or 0 where it has not passed.
-- Where some token is on no unpassed tensor or cut, unpassed pars with that token pick their other premise. Otherwise
-- unpassed pars pick a premise without a token where there is one. Pars that are free to choose pick left.
use Rattle.std.specs.Prelude.{◌≡◌, ℕ, ◌≤◌, true, ◌≢◌, List, length, Some, None, Option, slice_index}
use Rattle.links.specs.declared.link.Link.{Link}
use Rattle.links.specs.declared.link.Link.TheVariants.{Par}
use Rattle.links.specs.Links.{link_at, Uses}
use Rattle.links.specs.Facts.{Within}
use Rattle.switchings.specs.Edges.{is_join, maker}
use Rattle.switchings.specs.Rows.{entry}

-- the token of the link n, 0 where it has not passed
abbrev pub token_of : List ℕ → ℕ → ℕ
token_of tokens n = slice_index tokens n

-- the token on the occurrence o, 0 where there is none
abbrev pub token_on_lem : List Link → List ℕ → ℕ → ℕ
token_on_lem ls tokens o = token_of tokens (maker ls o)

-- the token t is on the unpassed tensor or cut n
pub record Waiting (ls : List Link) (tokens : List ℕ) (t n : ℕ) : Type 0 where
  pub unpassed : token_of tokens n ≡ 0
  pub join : is_join (link_at ls n) ≡ true
  pub premise : ℕ
  pub uses : Uses (link_at ls n) premise
  pub carries : token_on_lem ls tokens premise ≡ t

-- a token t other than 0, of some link and on no unpassed tensor or cut; or none, and the token of every link is on one
abbrev pub Avoidable : List Link → List ℕ → Option ℕ → Type 0
Avoidable ls tokens None = (u : ℕ) → u ≤ 256 → token_of tokens u ≢ 0 → (n : ℕ) × Waiting ls tokens (token_of tokens u) n
Avoidable ls tokens (Some t) = (t ≢ 0) × ((u : ℕ) × (u ≤ 256) × (token_of tokens u ≡ t)) × ((n : ℕ) → Waiting ls tokens t n → ⊥)

-- the token to avoid is on l; or there is none, and of l and r just r is without a token
abbrev pub OnLeft : List Link → List ℕ → Option ℕ → ℕ → ℕ → Type 0
OnLeft ls tokens None l r = (token_on_lem ls tokens l ≢ 0) × (token_on_lem ls tokens r ≡ 0)
OnLeft ls tokens (Some t) l r = token_on_lem ls tokens l ≡ t

-- the unpassed par n keeps clear of its left premise l
pub record Clear (ls : List Link) (tokens : List ℕ) (avoided : Option ℕ) (n l r : ℕ) : Type 0 where
  pub unpassed : token_of tokens n ≡ 0
  pub of_left : OnLeft ls tokens avoided l r

-- the par n picks right where it keeps clear of its left premise, and else left
pub record Picks (ls : List Link) (tokens : List ℕ) (avoided : Option ℕ) (n l r side : ℕ) : Type 0 where
  pub right : Clear ls tokens avoided n l r → side ≡ 2
  pub left : (Clear ls tokens avoided n l r → ⊥) → side ≡ 1

-- the side shown for link n; what is no par has none
pub record SideAt (ls : List Link) (tokens : List ℕ) (avoided : Option ℕ) (n side : ℕ) : Type 0 where
  pub par : (l r c : ℕ) → link_at ls n ≡ Par l r c → Picks ls tokens avoided n l r side
  pub other : ((l r c : ℕ) → link_at ls n ≢ Par l r c) → side ≡ 0

-- the row of sides, and the token that it avoids, if there is one
pub record Chooses (ls : List Link) (tokens : List ℕ) (row : List ℕ) : Type 0 where
  pub long : length row ≡ 256
  pub avoided : Option ℕ
  pub avoidable : Avoidable ls tokens avoided
  pub sides : (n : ℕ) → Within 256 n → SideAt ls tokens avoided n (entry row n)
