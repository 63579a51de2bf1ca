-- Bytes that are told, where they are.
use Rattle.std.proofs.Common.{◌≡◌, ◌∙◌, ℕ, ◌+◌, List, [], ◌++◌, take, drop, refl, sym, ap, append_assoc, append-nil}
use Rattle.std.specs.Prelude.{Option, Some, None}
use Rattle.std.proofs.Math.Seq.{take-add}
use Rattle.std.specs.Io.KnownBytes.{append_known, prepend_known}
use Rattle.ld_edge.specs.Sides.{Incoming, Outgoing}
use Rattle.ld_edge.specs.Passing.{Comes, Goes}

pub append_known-append : (known : Option (List ℕ)) (xs ys : List ℕ) → append_known (append_known known xs) ys ≡ append_known known (xs ++ ys)
append_known-append None xs ys = refl
append_known-append (Some bytes) xs ys = ap Some (append_assoc bytes xs ys)

pub prepend_known-append : (known : Option (List ℕ)) (xs ys : List ℕ) → prepend_known xs (prepend_known ys known) ≡ prepend_known (xs ++ ys) known
prepend_known-append None xs ys = refl
prepend_known-append (Some bytes) xs ys = ap Some (sym (append_assoc xs ys bytes))

pub append_known-none : (known : Option (List ℕ)) → known ≡ append_known known []
append_known-none None = refl
append_known-none (Some bytes) = ap Some (sym (append-nil bytes))

pub prepend_known-none : (known : Option (List ℕ)) → known ≡ prepend_known [] known
prepend_known-none None = refl
prepend_known-none (Some bytes) = refl

-- the front of a text was taken, and n bytes more
pub append_known-take : (known : Option (List ℕ)) (i n : ℕ) (text : List ℕ) → append_known (append_known known (take i text)) (take n (drop i text)) ≡ append_known known (take (i + n) text)
append_known-take known i n text = append_known-append known (take i text) (take n (drop i text)) ∙ ap (append_known known) (sym (take-add i n text))

-- bytes came, and then more
pub comes_then : (a b c : Incoming) (xs ys : List ℕ) → Comes a b xs → Comes b c ys → Comes a c (xs ++ ys)
comes_then a b c xs ys h k = (
  k.0 ∙ ap (λ known. append_known known ys) h.0 ∙ append_known-append a.given xs ys,
  h.1 ∙ ap (prepend_known xs) k.1 ∙ prepend_known-append c.left xs ys,
)

-- nothing came
pub comes_none : (a b : Incoming) → b.given ≡ a.given → b.left ≡ a.left → Comes a b []
comes_none a b given left = (given ∙ append_known-none a.given, prepend_known-none a.left ∙ ap (prepend_known []) (sym left))

-- bytes went out, and then more
pub goes_then : (a b c : Outgoing) (xs ys : List ℕ) → Goes a b xs → Goes b c ys → Goes a c (xs ++ ys)
goes_then a b c xs ys h k = k ∙ ap (λ known. append_known known ys) h ∙ append_known-append a.held xs ys

-- nothing went out
pub goes_none : (a b : Outgoing) → b.held ≡ a.held → Goes a b []
goes_none a b held = held ∙ append_known-none a.held
