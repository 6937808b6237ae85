-- A line is read back as its step, whatever follows it, and has eight bytes at most.
-- Assumes nothing.
use Rattle.std.proofs.Common.{◌≡◌, ℕ, ◌+◌, ◌-◌, ◌*◌, ◌/◌, ◌%◌, ◌^◌, ◌<◌, ◌≤◌, length, false, eqb, List, [], ◌∷◌, ◌++◌, decimal, refl, ap, ◌∙◌, append_assoc, arith, ne_eqb}
use Rattle.std.proofs.lemmas.Fmt.{decimal_by_steps, length-decimal-le}
use Rattle.std.proofs.lemmas.List.{length-append}
use Rattle.page.specs.Lines.{name_of, line_of, in_name, in_number, read_from, page_steps}
use Rattle.links.specs.declared.rule.Rule.{Rule}
use Rattle.links.specs.declared.rule.Rule.TheVariants.{Axiom, Tensor, Par, Cut}
use Rattle.sinks.specs.declared.step.Step.{Step}
use Rattle.sinks.specs.Spellings.{ReadBack}
use Rattle.sinks.proofs.StepValues.{step_of_is}

name_read : (r : Rule) (bs : List ℕ) → read_from (in_name []) (name_of r ++ (32 ∷ bs)) ≡ read_from (in_number r 0) bs
name_read Axiom bs = refl
name_read Tensor bs = refl
name_read Par bs = refl
name_read Cut bs = refl

-- one digit more
digit_read : (r : Rule) (n d m : ℕ) (bs : List ℕ) → n * 10 + d ≡ m → read_from (in_number r n) ((48 + d) ∷ bs) ≡ read_from (in_number r m) bs
digit_read r n d m bs e =
    let no-newline : eqb (48 + d) 10 ≡ false = ne_eqb (48 + d) 10 (λ e. omega arith) in
    let value : n * 10 + (48 + d - 48) ≡ m = omega arith in
    rw no-newline (ap (λ (k : ℕ). read_from (in_number r k) bs) value)

decimal_read : (r : Rule) (n : ℕ) → n < 2 ^ 64 → (bs : List ℕ) → read_from (in_number r 0) (decimal n ++ bs) ≡ read_from (in_number r n) bs
decimal_read r =
    decimal_by_steps (λ n ds. (bs : List ℕ) → read_from (in_number r 0) (ds ++ bs) ≡ read_from (in_number r n) bs) (λ n h bs. digit_read r 0 n n bs (omega arith))
    (λ n ds h front bs.
    ap (read_from (in_number r 0)) (append_assoc ds ((48 + n % 10) ∷ []) bs) ∙ front ((48 + n % 10) ∷ bs) ∙ digit_read r (n / 10) (n % 10) n bs (omega arith))

nothing_read : page_steps [] ≡ []
unfolding page_steps
nothing_read = refl

line_read : (s : Step) (rest : List ℕ) → page_steps (line_of s ++ rest) ≡ s ∷ page_steps rest
unfolding page_steps line_of
line_read s rest =
    ap (read_from (in_name [])) (append_assoc (name_of s.rule) (32 ∷ (decimal s.link ++ 10 ∷ [])) rest)
    ∙ name_read s.rule ((decimal s.link ++ 10 ∷ []) ++ rest)
    ∙ ap (read_from (in_number s.rule 0)) (append_assoc (decimal s.link) (10 ∷ []) rest)
    ∙ decimal_read s.rule s.link (omega (arith, s.numbered)) (10 ∷ rest)
    ∙ ap (λ x. x ∷ read_from (in_name []) rest) (step_of_is s)

pub page_read_back : ReadBack line_of page_steps
page_read_back = record { none = nothing_read; one = line_read }

name_short : (r : Rule) → length (name_of r) ≤ 3
name_short Axiom = omega arith
name_short Tensor = omega arith
name_short Par = omega arith
name_short Cut = omega arith

-- a link has three digits at most
pub link_short : (n : ℕ) → n ≤ 256 → length (decimal n) ≤ 3
link_short n h = length-decimal-le 3 n (omega arith) (omega arith) (omega arith)

pub line_short : (s : Step) → length (line_of s) ≤ 8
unfolding line_of
line_short s =
    omega (arith, name_short s.rule, link_short s.link s.numbered.1, length-append (name_of s.rule) (32 ∷ (decimal s.link ++ 10 ∷ [])), length-append (decimal s.link) (10 ∷ []))
