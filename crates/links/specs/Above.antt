-- Above a link are its premises, the links that conclude them, and what is above those.
use Rattle.std.specs.Prelude.{ℕ, List}
use Rattle.links.specs.declared.link.Link.{Link}
use Rattle.links.specs.Links.{link_at, Concludes, Uses}

-- link m is above link n
pub data Above (ls : List Link) : ℕ → ℕ → Type 0 where
  direct : {m n : ℕ} (o : ℕ) → Uses (link_at ls n) o → Concludes (link_at ls m) o → Above ls m n
  further : {m k n : ℕ} (o : ℕ) → Uses (link_at ls n) o → Concludes (link_at ls k) o → Above ls m k → Above ls m n
