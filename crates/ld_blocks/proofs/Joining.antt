-- What full blocks hold together: how many items, and which stands where.
use Rattle.std.proofs.Common.{◌≡◌, ℕ, suc, zero, ◌+◌, ◌-◌, ◌*◌, ◌/◌, ◌%◌, ◌<◌, ◌≤◌, List, [], ◌∷◌, ◌++◌, length, refl, sym, ap, ◌∙◌, arith, Some, None, length-append, append_assoc}
use Rattle.std.specs.Prelude.{slice_get, All, vec_len}
use Rattle.std.specs.declared.vec.Vec.{Vec}
use Rattle.std.specs.declared.alloc.Global.{Global}
use Rattle.std.proofs.lemmas.List.Elements.{All-head, All-tail}
use Rattle.ld_blocks.specs.Blocked.{joined, listed, IsFull, IsBlocked}

-- where nothing stands the list is over
pub over : {X : Type 0} (xs : List X) (i : ℕ) → slice_get xs i ≡ None → length xs ≤ i
over [] i h = omega arith
over (x ∷ xs) zero h = cc
over (x ∷ xs) (suc i) h = omega (arith, over xs i h)

module _ {T : Type 0} where
  -- as many items as the block is long
  full_length : (b : Vec T Global) → IsFull b → length b.items ≡ 4096
  full_length b h = sym b.ok.0 ∙ h

  pub length-joined : (bs : List (Vec T Global)) → All IsFull bs → length (joined bs) ≡ 4096 * length bs
  length-joined [] h = refl
  length-joined (b ∷ bs) h =
      omega (arith, length-append b.items (joined bs), full_length b (All-head IsFull b bs h), length-joined bs (All-tail IsFull b bs h))

  get_in : (xs ys : List T) (i : ℕ) → i < length xs → slice_get (xs ++ ys) i ≡ slice_get xs i
  get_in [] ys i h = absurd (omega (arith, h))
  get_in (x ∷ xs) ys zero h = refl
  get_in (x ∷ xs) ys (suc i) h = get_in xs ys i (omega (arith, h))

  get_behind : (xs ys : List T) (i : ℕ) → slice_get (xs ++ ys) (length xs + i) ≡ slice_get ys i
  get_behind [] ys i = ap (slice_get ys) (omega arith)
  get_behind (x ∷ xs) ys i =
      let next : suc (length xs) + i ≡ suc (length xs + i) = omega arith in
      ap (slice_get (x ∷ (xs ++ ys))) next ∙ get_behind xs ys i

  -- the j-th item of the i-th block
  pub get_joined : (bs : List (Vec T Global)) (rest : List T) → All IsFull bs → (i j : ℕ) (b : Vec T Global) → slice_get bs i ≡ Some b → j < 4096 → slice_get (joined bs ++ rest) (4096 * i + j) ≡ slice_get b.items j
  get_joined [] rest h i j b is lt = cc
  get_joined (a ∷ bs) rest h zero j b is lt =
      let same : a ≡ b = cc in
      let first : 4096 * zero + j ≡ j = omega arith in
      ap (λ (xs : List T). slice_get xs (4096 * zero + j)) (append_assoc a.items (joined bs) rest)
      ∙ ap (slice_get (a.items ++ (joined bs ++ rest))) first
      ∙ get_in a.items (joined bs ++ rest) j (omega (arith, lt, full_length a (All-head IsFull a bs h)))
      ∙ ap (λ (v : Vec T Global). slice_get v.items j) same
  get_joined (a ∷ bs) rest h (suc i) j b is lt =
      let place : 4096 * suc i + j ≡ length a.items + (4096 * i + j) = omega (arith, full_length a (All-head IsFull a bs h)) in
      ap (λ (xs : List T). slice_get xs (4096 * suc i + j)) (append_assoc a.items (joined bs) rest)
      ∙ ap (slice_get (a.items ++ (joined bs ++ rest))) place
      ∙ get_behind a.items (joined bs ++ rest) (4096 * i + j)
      ∙ get_joined bs rest (All-tail IsFull a bs h) i j b is lt

  module _ (full : Vec (Vec T Global) Global) (last : Vec T Global) (spare : Vec (Vec T Global) Global) (h : IsBlocked full last spare) where
    pub length-listed : length (listed full last spare).items ≡ 4096 * vec_len full + vec_len last
    length-listed = omega (arith, length-append (joined full.items) last.items, length-joined full.items h.filled, full.ok.0, last.ok.0)

    pub get_full : (place : ℕ) (b : Vec T Global) → slice_get full.items (place / 4096) ≡ Some b → slice_get (listed full last spare).items place ≡ slice_get b.items (place % 4096)
    get_full place b is =
        let parts : place ≡ 4096 * (place / 4096) + place % 4096 = omega arith in
        ap (slice_get (joined full.items ++ last.items)) parts ∙ get_joined full.items last.items h.filled (place / 4096) (place % 4096) b is (omega arith)

    -- behind the full blocks
    pub get_last : (place : ℕ) → slice_get full.items (place / 4096) ≡ None → slice_get (listed full last spare).items place ≡ slice_get last.items (place - 4096 * vec_len full)
    get_last place none =
        let past : vec_len full ≤ place / 4096 = omega (arith, over full.items (place / 4096) none, full.ok.0) in
        let is : place ≡ length (joined full.items) + (place - 4096 * vec_len full) = omega (arith, length-joined full.items h.filled, full.ok.0, past) in
        ap (slice_get (joined full.items ++ last.items)) is ∙ get_behind (joined full.items) last.items (place - 4096 * vec_len full)
