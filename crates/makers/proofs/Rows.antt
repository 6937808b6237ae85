-- A row that is made entry by entry, by a closure that changes nothing: what one call gives holds of its entry.
use Rattle.std.proofs.Common.{◌≡◌, ℕ, zero, suc, ◌+◌, ◌<◌, ◌≤◌, List, get_or, inl, inr, subst, sym, refl, arith}
use Rattle.std.proofs.lemmas.Bool.{cases_eq}
use Rattle.std.specs.Array.{IsFromFnResult, IsFromFnResultFrom}
use Rattle.std.specs.Fn.{Called}
use denote.Param.Members.{Mut}

module _ (P : ℕ → ℕ → Type 0) {F : Type 0} {g : Mut F (ℕ × Unit {0}) ℕ} {f : F} (calls : (k x : ℕ) (q : F) → Called g f (k, tt) x q → (q ≡ f) × P k x) where
  made_from : (row : List ℕ) (p : F) → p ≡ f → (i n : ℕ) → IsFromFnResultFrom g p row i n → (k : ℕ) → i ≤ k → k < i + n → P k (get_or row k 0)
  made_from row p e i zero h k low high = absurd (omega arith)
  made_from row p e i (suc n) h k low high =
      let c = calls i h.1 h.0 (subst (λ (x : F). Called g x (i, tt) h.1 h.0) e h.3) in
      elim (cases_eq k i) [
        | inl q ↦ subst (λ (j : ℕ). P j (get_or row j 0)) (sym q) (subst (P i) (sym (h.2.1 0)) c.1)
        | inr q ↦ made_from row h.0 c.0 (i + 1) n h.4 k (omega arith) (omega arith)
      ]

  pub made_each : {row : List ℕ} {n : ℕ} → IsFromFnResult g f row n → (k : ℕ) → k < n → P k (get_or row k 0)
  made_each {row} {n} h k lt = made_from row f refl 0 n h.each k (omega arith) (omega arith)
