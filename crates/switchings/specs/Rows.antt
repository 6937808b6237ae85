-- The switching that a row of sides means: entry n, counted from 1, is 1 for left and 2 for right.
use Rattle.std.specs.Prelude.{◌≡◌, ℕ, ◌-◌, ◌≤◌, cond, ◌≢◌, ◌⊎◌, List, length, ◌==◌, slice_index}
use Rattle.links.specs.declared.link.Link.{Link}
use Rattle.links.specs.declared.link.Link.TheVariants.{Par}
use Rattle.links.specs.Links.{link_at}
use Rattle.links.specs.Facts.{Within}
use Rattle.switchings.specs.Switchings.{Switching, left, right}

-- entry n, counted from 1
abbrev pub entry : List ℕ → ℕ → ℕ
entry row n = slice_index row (n - 1)

abbrev pub sides_of : List ℕ → Switching
sides_of row n = cond (entry row n == 2) right left

-- the row after a refusing verdict: entry n is 1 or 2 for par n and 0 for every other n from 1 to 256, and entries past
-- 256 stay
pub record Shows (ls : List Link) (before after : List ℕ) : Type 0 where
  pub long : length after ≡ length before
  pub pars : (n l r c : ℕ) → Within 256 n → link_at ls n ≡ Par l r c → (entry after n ≡ 1) ⊎ (entry after n ≡ 2)
  pub others : (n : ℕ) → Within 256 n → ((l r c : ℕ) → link_at ls n ≢ Par l r c) → entry after n ≡ 0
  pub beyond : (i : ℕ) → 256 ≤ i → slice_index after i ≡ slice_index before i
