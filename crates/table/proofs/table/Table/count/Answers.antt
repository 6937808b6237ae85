use Rattle.std.proofs.Common.{◌≡◌, ℕ, length, ap, ◌∙◌, arith}
use Rattle.links.specs.Links.{link_at, total, one_if_link}
use Rattle.table.proofs.table.Table.count.Goals as goal

pub returns : goal.returns
returns c =
    let ls = c.args.self.now.slots.at in
    let end : c.loop-link.link-index ≡ length ls = omega arith in
    record { value = c.loop-link.invariant.0 ∙ ap (λ (n : ℕ). total (λ k. one_if_link (link_at ls k)) n) end }
