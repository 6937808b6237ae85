use Rattle.std.proofs.Common.{ℕ, ◌≢◌, rules}
use borrow.Author.Tests.{tests}
use Rattle.std.proofs.lemmas.Iterator.{first_from_find, YieldsList-from_slice, YieldsList-from_take}
use Rattle.sides.specs.Rule.{Waiting}
use Rattle.sides.proofs.Choosing.{first_free}
use Rattle.sides.proofs.tokens.Marked.free_token.Goals as goal

pub returns : goal.returns
returns c =
    let ls = c.args.self.now.index.table.now.slots.at in
    let tokens = c.args.self.now.tokens.now in
    record { value = rw c.copied.ensures (first_free ls tokens c.find.result (first_from_find _ _ _ (λ t. (t ≢ 0) × ((n : ℕ) → Waiting ls tokens t n → ⊥)) (λ t. t ≢ 0 → (n : ℕ) × Waiting ls tokens t n) c.find.ensures.ran (YieldsList-from_take 257 (YieldsList-from_slice tokens cc) cc) (λ x q k. search (rules, tests)) (λ x q k. search (rules, tests)))) }
