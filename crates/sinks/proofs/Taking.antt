-- A list that has grown by the first items of another, and now by one more of them.
-- Assumes nothing.
use Rattle.std.proofs.Common.{◌≡◌, ℕ, ◌+◌, ◌<◌, List, [], ◌∷◌, ◌++◌, length, get_or, take, sym, ap, ◌∙◌, append_assoc}
use Rattle.std.proofs.lemmas.List.{take_more}

module _ {X : Type 0} where
  pub taken_more : (start before after xs : List X) (i : ℕ) (x : X) → i < length xs → x ≡ get_or xs i x → before ≡ start ++ take i xs → after ≡ before ++ x ∷ [] → after ≡ start ++ take (i + 1) xs
  taken_more start before after xs i x h is was grown =
      let more : take i xs ++ x ∷ [] ≡ take (i + 1) xs = ap (λ y. take i xs ++ (y ∷ [])) is ∙ sym (take_more xs i x h) in
      grown ∙ ap (λ ys. ys ++ (x ∷ [])) was ∙ append_assoc start (take i xs) (x ∷ []) ∙ ap (λ ys. start ++ ys) more
