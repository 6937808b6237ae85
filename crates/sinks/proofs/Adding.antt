-- What a sink over lent bytes has once the code of a step is written behind the others: one step more, and all else
-- as it was. For any code that is read back.
-- Assumes nothing.
use Rattle.std.proofs.Common.{◌≡◌, ℕ, ◌+◌, ◌-◌, ◌/◌, ◌<◌, ◌≤◌, List, [], ◌∷◌, ◌++◌, length, take, drop, sym, ap, ◌∙◌, arith}
use borrow.Rule.Slice.PartMut.{put_mid}
use Rattle.std.proofs.lemmas.List.{take-take, drop-drop, length-append, length-drop, length-take}
use native.Mathlib.Nat.{le-div_iff_mul-le}
use Rattle.std.proofs.lemmas.Slice.{take-put_mid, take-put_mid_below, drop-put_mid}
use Rattle.sinks.specs.LentBytes.{Extends}
use Rattle.sinks.specs.Spellings.{Clean, ReadBack}
use Rattle.sinks.specs.declared.step.Step.{Step}
use Rattle.sinks.proofs.Growth.{reads_more, clean_more}

-- more is added to more
pub extends_more : (l m n : ℕ) (xs ys zs : List ℕ) → Extends l xs m ys → Extends m ys n zs → Extends l xs n zs
extends_more l m n xs ys zs a b = record {
  count = b.count ∙ a.count;
  longer = omega (arith, a.longer, b.longer);
  front = sym (take-take l m zs a.longer) ∙ ap (take l) b.front ∙ take-take l m ys a.longer ∙ a.front;
  rest = b.rest ∙ drop_further a.rest;
}
  where
    further : m + (n - m) ≡ n
    further = omega (arith, b.longer)

    drop_further : drop m ys ≡ drop m xs → drop n ys ≡ drop n xs
    drop_further e =
        ap (λ k. drop k ys) (sym further) ∙ sym (drop-drop (n - m) m ys) ∙ ap (drop (n - m)) e ∙ drop-drop (n - m) m xs ∙ ap (λ k. drop k xs) further

-- where there is room for a code, the widest one is free
pub widest_free : (free width : ℕ) → 0 < width → 0 < free / width → width ≤ free
widest_free free width wide some = omega (arith, (le-div_iff_mul-le {x = 1} {y = free} wide).0 some)

-- bytes that are written over as many keep the length
overwritten_length : (at size : ℕ) (bytes piece : List ℕ) → length piece ≡ size → at + size ≤ length bytes → length (put_mid at size bytes piece) ≡ length bytes
overwritten_length at size bytes piece long inside = simp (length-append, length-take, length-drop) (omega arith)

module _ (code : Step → List ℕ) (reads : List ℕ → List Step) (back : ReadBack code reads) where
  pub record Added (old new : List ℕ) (len end : ℕ) (s : Step) : Type 0 where
    pub clean : Clean code reads (take end new)
    pub items : reads (take end new) ≡ reads (take len old) ++ s ∷ []
    pub row : Extends len old end new

  pub added : (old part : List ℕ) (len size end : ℕ) (s : Step) → part ≡ code s → length part ≡ size → end ≡ len + size → end ≤ length old → Clean code reads (take len old) → Added old (put_mid len size old part) len end s
  added old part len size end s is long e room clean =
      let new = put_mid len size old part in
      let before : len ≤ length old = omega (arith, e, room) in
      let text : take end new ≡ take len old ++ code s = take-put_mid len size old part end (omega (arith, e, long)) before ∙ ap (λ x. take len old ++ x) is in record {
        clean = rw text (clean_more code reads back (take len old) s clean);
        items = ap reads text ∙ reads_more code reads back (take len old) s clean;
        row = record {
          count = overwritten_length len size old part long (omega (arith, e, room));
          longer = omega (arith, e);
          front = take-put_mid_below len size old part len (omega arith) before;
          rest = drop-put_mid len size old part end (omega (arith, e)) before long;
        };
      }
