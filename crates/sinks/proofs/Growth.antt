-- One step more at the end of bytes that are just the codes of their steps, for any code that is read back.
-- Assumes nothing.
use Rattle.std.proofs.Common.{◌≡◌, ℕ, List, [], ◌∷◌, ◌++◌, sym, ap, ◌∙◌}
use Rattle.std.specs.List.{flat_map}
use Rattle.std.proofs.lemmas.List.{flat_map_more}
use Rattle.sinks.specs.Spellings.{Clean, ReadBack}
use Rattle.sinks.specs.declared.step.Step.{Step}

module _ (code : Step → List ℕ) (reads : List ℕ → List Step) (back : ReadBack code reads) where
  all_read : (ss : List Step) → reads (flat_map code ss) ≡ ss
  all_read [] = back.none
  all_read (s ∷ ss) = back.one s (flat_map code ss) ∙ ap (λ x. s ∷ x) (all_read ss)

  pub reads_more : (bs : List ℕ) (s : Step) → Clean code reads bs → reads (bs ++ code s) ≡ reads bs ++ s ∷ []
  reads_more bs s clean = ap (λ x. reads (x ++ code s)) (sym clean) ∙ ap reads (flat_map_more code [] (reads bs) s) ∙ all_read (reads bs ++ s ∷ [])

  pub clean_more : (bs : List ℕ) (s : Step) → Clean code reads bs → Clean code reads (bs ++ code s)
  clean_more bs s clean = ap (flat_map code) (reads_more bs s clean) ∙ sym (flat_map_more code [] (reads bs) s) ∙ ap (λ x. x ++ code s) clean
