-- Bytes that are told, where they are.
use Rattle.std.proofs.Common.{◌≡◌, ◌∙◌, ℕ, ◌+◌, List, ◌++◌, take, drop, refl, sym, ap, append_assoc}
use Rattle.std.specs.Prelude.{Option, Some, None}
use Rattle.std.proofs.Math.Seq.{take-add}
use Rattle.std.specs.Io.KnownBytes.{append_known, prepend_known}
use Rattle.ld_edge.specs.Sides.{Incoming}
use Rattle.ld_once.specs.Runs.{Reads}

pub append_known-append : (known : Option (List ℕ)) (xs ys : List ℕ) → append_known (append_known known xs) ys ≡ append_known known (xs ++ ys)
append_known-append None xs ys = refl
append_known-append (Some bytes) xs ys = ap Some (append_assoc bytes xs ys)

pub prepend_known-append : (known : Option (List ℕ)) (xs ys : List ℕ) → prepend_known xs (prepend_known ys known) ≡ prepend_known (xs ++ ys) known
prepend_known-append None xs ys = refl
prepend_known-append (Some bytes) xs ys = ap Some (sym (append_assoc xs ys bytes))

-- the front of a text was taken, and n bytes more
pub append_known-take : (known : Option (List ℕ)) (i n : ℕ) (text : List ℕ) → append_known (append_known known (take i text)) (take n (drop i text)) ≡ append_known known (take (i + n) text)
append_known-take known i n text = append_known-append known (take i text) (take n (drop i text)) ∙ ap (append_known known) (sym (take-add i n text))

-- bytes were read, and then more
pub Reads-then : (a b c : Incoming) (xs ys : List ℕ) → Reads a b xs → Reads b c ys → Reads a c (xs ++ ys)
Reads-then a b c xs ys h k = (
  k.0 ∙ ap (λ known. append_known known ys) h.0 ∙ append_known-append a.given xs ys,
  h.1 ∙ ap (prepend_known xs) k.1 ∙ prepend_known-append c.left xs ys,
  k.2 ∙ h.2,
)
